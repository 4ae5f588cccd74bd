-- The plan of a description is that of a `BusPlan`: its programs are those of the description.
use Rattle.std.proofs.Common.{◌≡◌, ℕ, zero, suc, ◌+◌, ◌≤◌, ℤ, List, [], ◌∷◌, ◌++◌, map, length, Bool, true, false, cond, nat_le, Option, Some, None, slice_get, refl, sym, ap, subst, ◌∙◌, arith}
use Rattle.bus_semantics.specs.Common.{map-append, option_map_or, unwrap_or, arc_value, Signature, program_tree, Runnable, runnable_of}
use Rattle.bus_semantics.specs.declared.plan.BusPlan.{BusPlan}
use Rattle.bus_semantics.specs.declared.plan.ElemPlan.{ElemPlan}
use Rattle.bus_semantics.specs.declared.plan.RunnablePlan.{RunnablePlan}
use Rattle.plan_definitions.specs.Common.{Component, Description, Flat, Instance, IsCoded, AreCoded, Elem, elem_seen, element_of, elements, given_of, group_of, held, type_of, zeros, from}
use Rattle.plan_definitions.specs.Common.{plan_of, seen, signature, runnables, runnables_of_component, served_by, served_number, target_of, elements_of}
use Rattle.description_types.specs.declared.component.Runnable as declared
use Rattle.plan_definitions.specs.declared.site.Site.{Site}
use Rattle.plan_definitions.specs.Started as started
use Rattle.plan_definitions.proofs.Coding.{coded_there, one_code}
use Rattle.outcome_laws.proofs.Values.{arc_of, value_for}

-- ---- lists of what has a view

module _ {X Y : Type 0} (view : X → Y) where
  abbrev Made : List Y → Type 0
  Made ys = (xs : List X) × (map view xs ≡ ys)

  made_append : (ys zs : List Y) → Made ys → Made zs → Made (ys ++ zs)
  made_append ys zs (xs, is) (ws, are) = (xs ++ ws, map-append view xs ws ∙ (λ i. is i ++ are i))

  made_from : {Z : Type 0} (g : ℕ → Z → List Y) → ((n : ℕ) (z : Z) → Made (g n z)) → (n : ℕ) (zs : List Z) → Made (from n g zs)
  made_from g each n [] = ([], refl)
  made_from g each n (z ∷ zs) = made_append (g n z) (from (n + 1) g zs) (each n z) (made_from g each (n + 1) zs)

  -- of a list, each item known by its place
  made_placed : {Z : Type 0} (g : ℕ → Z → List Y) (all : List Z) → ((n : ℕ) (z : Z) → slice_get all n ≡ Some z → Made (g n z)) → (n : ℕ) (zs : List Z)
      → ((j : ℕ) (z : Z) → slice_get zs j ≡ Some z → slice_get all (n + j) ≡ Some z) → Made (from n g zs)
  made_placed g all each n [] places = ([], refl)
  made_placed g all each n (z ∷ zs) places =
      let here : n + 0 ≡ n = omega arith in
      made_append (g n z) (from (n + 1) g zs) (each n z (subst (λ k. slice_get all k ≡ Some z) here (places 0 z refl)))
      (made_placed g all each (n + 1) zs (λ j y there. let next : n + suc j ≡ n + 1 + j = omega arith in subst (λ k. slice_get all k ≡ Some y) next (places (suc j) y there)))

  made_found : {Z : Type 0} (g : Z → List Y) (o : Option Z) → ((z : Z) → o ≡ Some z → Made (g z)) → Made (option_map_or g o [])
  made_found g None each = ([], refl)
  made_found g (Some z) each = each z refl

  made_each : {Z : Type 0} (g : Z → Y) → ((z : Z) → (x : X) × (view x ≡ g z)) → (zs : List Z) → Made (map g zs)
  made_each g each [] = ([], refl)
  made_each g each (z ∷ zs) = ((each z).0 ∷ (made_each g each zs).0, λ i. (each z).1 i ∷ (made_each g each zs).1 i)

-- ---- values

held_short : (ws : List ℤ) → length (held ws) ≤ 16
held_short ws = by (nat_le (length ws) 16) refl
  where
    short : nat_le (length ws) 16 ≡ true → length ws ≤ 16
    short is = grind arith

    by : (b : Bool) → nat_le (length ws) 16 ≡ b → length (cond b ws []) ≤ 16
    by true is = short is
    by false is = omega arith

elem_for : (e : Elem) → length e.init ≤ 16 → (x : ElemPlan) × (elem_seen x ≡ e)
elem_for e short = let (v, is) = value_for e.init short in (
  record {
    instance = e.instance;
    name = e.name;
    kind = e.kind;
    provided = e.provided;
    joined = e.joined;
    group = e.group;
    limits = e.limits;
    words = e.words;
    init = v;
    never_received = e.never_received;
    queue_length = e.queue_length;
  },
  λ i. record e { init = is i },
)

-- ---- a plan

module _ (d : Description) (f : Flat) where
  elements_for : Made elem_seen (elements d f)
  elements_for = made_each elem_seen (λ s. element_of d f (group_of d f s) s) (λ (s : Site). elem_for (element_of d f (group_of d f s) s) (held_short (unwrap_or (given_of d f s) (zeros (type_of d f s))))) (elements_of d f)

  -- a runnable of a plan, with the code of its component's runnable
  abbrev Own : Type 0
  Own = (r : RunnablePlan) × IsCoded d r

  abbrev own_view : Own → Runnable
  own_view r = runnable_of r.0

  one_runnable : (i n : ℕ) (c : Component) → slice_get d.components n ≡ Some c → (m : ℕ) (r : declared.Runnable) → slice_get c.behavior.runnables m ≡ Some r → Made own_view (started.runnable_of d f i c m r ∷ [])
  one_runnable i n c there m r here = let (given, holds) = arc_of {X = Signature} (record { accesses = signature d.types c r.accesses }) in (
    (
      record {
        instance = i;
        name = r.short_name;
        code = (n, m);
        program = r.program;
        signature = given;
        targets = map (target_of d f i m) r.accesses;
        server = (started.runnable_of d f i c m r).server;
        lists = (started.runnable_of d f i c m r).lists;
      },
      coded_there d n m c r there here ∙ (λ j. Some (program_tree (arc_value r.program), (sym holds j).accesses)),
    ) ∷ [],
    λ j. record (started.runnable_of d f i c m r) { accesses = (holds j).accesses } ∷ [],
  )

  of_component : (i n : ℕ) (c : Component) → slice_get d.components n ≡ Some c → Made own_view (runnables_of_component d f i c)
  of_component i n c there = made_placed own_view (λ m r. started.runnable_of d f i c m r ∷ []) c.behavior.runnables (one_runnable i n c there) 0 c.behavior.runnables
      (λ j r here. let same : j ≡ 0 + j = omega arith in subst (λ k. slice_get c.behavior.runnables k ≡ Some r) same here)

  runnables_for : Made own_view (runnables d f)
  runnables_for = made_from own_view (λ i x. option_map_or (runnables_of_component d f i) (slice_get d.components x.component) [])
      (λ i (x : Instance). made_found own_view (runnables_of_component d f i) (slice_get d.components x.component) (of_component i x.component)) 0 f.instances

  abbrev bare : List Own → List RunnablePlan
  bare [] = []
  bare (x ∷ xs) = x.0 ∷ bare xs

  bare_seen : (xs : List Own) → map runnable_of (bare xs) ≡ map own_view xs
  bare_seen [] = refl
  bare_seen (x ∷ xs) = ap (λ rs. runnable_of x.0 ∷ rs) (bare_seen xs)

  bare_coded : (xs : List Own) → AreCoded d (bare xs)
  bare_coded [] i r there = absurd (cc)
  bare_coded (x ∷ xs) zero r there = let same : x.0 ≡ r = cc in subst (IsCoded d) same x.1
  bare_coded (x ∷ xs) (suc i) r there = bare_coded xs i r there

  pub plan_for : (p : BusPlan) × (seen p ≡ plan_of d f)
  plan_for = let (es, elems) = elements_for in let (own, runs) = runnables_for in (
    record {
      names = (plan_of d f).names;
      elements = es;
      groups = (plan_of d f).groups;
      points = (plan_of d f).points;
      servers = (plan_of d f).servers;
      areas = (plan_of d f).areas;
      machines = (plan_of d f).machines;
      mode_ports = (plan_of d f).mode_ports;
      events = (plan_of d f).events;
      runnables = bare own;
      lists = (plan_of d f).lists;
      homes = (plan_of d f).homes;
      bundles = (plan_of d f).bundles;
      objects = (plan_of d f).objects;
      coded = ∣ one_code d (bare own) (bare_coded own) ∣₁;
    },
    λ i. record (plan_of d f) { elements = elems i; runnables = (bare_seen own ∙ runs) i },
  )
