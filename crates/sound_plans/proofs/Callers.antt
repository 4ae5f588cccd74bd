-- Points by the accesses that call: each has the number of its place; results come from points that go on.
use Rattle.std.proofs.Common.{◌≡◌, ℕ, zero, suc, ◌+◌, Bool, true, false, ◌&&◌, not, ◌==◌, nat_eq, refl, sym, ◌∙◌, ap, subst, arith, List, [], ◌∷◌, Option, Some, None, option_map, ◌⊎◌, inl, inr}
use Rattle.bus_semantics.specs.Common.{arc_value, slice_get, list_any, list_all, option_map_or, unwrap_or, false≢true, eqb-true, eq-eqb, and_from, and_parts, not-true, any_passes_from_place}
use Rattle.bus_semantics.specs.Common.{same_Some, AccessKind, program_tree, result_point, instance_of, is_well_formed}
use Rattle.runnable_lang.specs.declared.program.AccessKind.TheVariants as kind
use Rattle.plan_definitions.specs.Common.{Access, Component, Runnable, Description, Flat, pair_number, runnables_of, runnable_of, runnables, callings, is_calling, leaves, point_number}
use Rattle.plan_definitions.specs.Common.{point_of, points, IsWhole}
use Rattle.bus_laws.specs.Common.{BusPlan, ElemPlan, PointPlan, Mapping}
use Rattle.bus_semantics.specs.Plan as plan
use Rattle.plan_definitions.specs.declared.calling.Calling.{Calling}
use Rattle.plan_definitions.specs.WellFormed as formed
use Rattle.bus_laws.proofs.Thinning.{clash, option_test}
use Rattle.sound_plans.proofs.Places.{not_some, found, append_at, Later, looked, mapped}
use Rattle.sound_plans.proofs.Parts.{Home, same_home, runnable_there}
use Rattle.sound_plans.proofs.Points.{Calls, waits, goes_on, call, inner, outer, InnerCall, inner_call, outer_call, call_place, call_there, called_once, LeftBy}
use Rattle.sound_plans.proofs.Rules.{planned, runnable_formed}

-- two accesses of a runnable that are the same stand at one place
pub accesses_apart : (xs : List Access) (i j : ℕ) (a b : Access) → formed.accesses_distinct xs ≡ true → slice_get xs i ≡ Some a → slice_get xs j ≡ Some b → formed.same_access a b ≡ true → formed.same_access b a ≡ true → i ≡ j
accesses_apart [] i j a b all s t e g = not_some a s
accesses_apart (x ∷ xs) zero zero a b all s t e g = refl
accesses_apart (x ∷ xs) zero (suc j) a b all s t e g =
    let same : x ≡ a = same_Some x a s in
    clash (list_any (formed.same_access x) xs) (any_passes_from_place (formed.same_access x) xs j b t (subst (λ z. formed.same_access z b ≡ true) (sym same) e)) (not-true (list_any (formed.same_access x) xs) (and_parts (not (list_any (formed.same_access x) xs)) (formed.accesses_distinct xs) all).0)
accesses_apart (x ∷ xs) (suc i) zero a b all s t e g =
    let same : x ≡ b = same_Some x b t in
    clash (list_any (formed.same_access x) xs) (any_passes_from_place (formed.same_access x) xs i a s (subst (λ z. formed.same_access z a ≡ true) (sym same) g)) (not-true (list_any (formed.same_access x) xs) (and_parts (not (list_any (formed.same_access x) xs)) (formed.accesses_distinct xs) all).0)
accesses_apart (x ∷ xs) (suc i) (suc j) a b all s t e g = ap (λ n. suc n) (accesses_apart xs i j a b (and_parts (not (list_any (formed.same_access x) xs)) (formed.accesses_distinct xs) all).1 s t e g)

pub goes_is : (k : AccessKind) → Calls k true → k ≡ kind.ACall
goes_is _ goes_on = refl

pub waits_is : (k : AccessKind) → Calls k false → k ≡ kind.Call
waits_is _ waits = refl

same_call : (k : AccessKind) (p n : ℕ) (b : Access) → k ≡ kind.Call → b.kind ≡ kind.Call → p ≡ b.port → n ≡ b.item → formed.same_access (record { kind = k; port = p; item = n }) b ≡ true
same_call k p n b s t port item =
    (λ j. formed.same_access (record { kind = s j; port = port j; item = item j }) (record { kind = t j; port = b.port; item = b.item }))
    ∙ and_from (b.port == b.port) (b.item == b.item) (eq-eqb b.port b.port refl) (eq-eqb b.item b.item refl)

module _ (d : Description) (f : Flat) (p : BusPlan) (m : Mapping) (w : IsWhole d f p m) where
  distinct_accesses : (t : ℕ) (c : Component) → slice_get d.components t ≡ Some c → (k : ℕ) (r : Runnable) → slice_get c.behavior.runnables k ≡ Some r → formed.accesses_distinct r.accesses ≡ true
  distinct_accesses t c at k r there =
      (and_parts (formed.accesses_distinct r.accesses) (is_well_formed (program_tree (arc_value r.program))) (and_parts (list_all (formed.access_fits d.types c) r.accesses) _ (runnable_formed d f p m w t c at k r there)).1).0

  -- one runnable has one call of an operation
  pub one_call : (t : ℕ) (c : Component) → slice_get d.components t ≡ Some c → (k : ℕ) (r : Runnable) → slice_get c.behavior.runnables k ≡ Some r → (i j : ℕ) (a b : Access) → slice_get r.accesses i ≡ Some a → slice_get r.accesses j ≡ Some b
      → (x y : Bool) → Calls a.kind x → Calls b.kind y → a.port ≡ b.port → a.item ≡ b.item → i ≡ j
  one_call t c at k r there i j a b at_i at_j true y u v port item = (called_once d f p m w t c at k k r r there there i j a b at_i at_j (goes_is a.kind u) y v port item).1
  one_call t c at k r there i j a b at_i at_j false true u v port item = sym (called_once d f p m w t c at k k r r there there j i b a at_j at_i (goes_is b.kind v) false u (sym port) (sym item)).1
  one_call t c at k r there i j a b at_i at_j false false u v port item =
      accesses_apart r.accesses i j a b (distinct_accesses t c at k r there) at_i at_j
      (same_call a.kind a.port a.item b (waits_is a.kind u) (waits_is b.kind v) port item) (same_call b.kind b.port b.item a (waits_is b.kind v) (waits_is a.kind u) (sym port) (sym item))

  -- a calling of an instance is an inner one
  pub record Inner (q : ℕ) (y : Calling) (x : ℕ × ℕ) : Type 0 where
    pub call : InnerCall d f q y
    pub instance : call.i ≡ x.0
    pub runnable : call.m ≡ x.1

  pub inner_there : (q : ℕ) (y : Calling) (x : ℕ × ℕ) → slice_get (callings d f) q ≡ Some y → y.caller ≡ Some x → Inner q y x
  inner_there q y x at caller = by (append_at (inner d f) (outer d f) q y at)
    where
      by : (slice_get (inner d f) q ≡ Some y) ⊎ Later Calling (inner d f) (outer d f) q y → Inner q y x
      by (inl e) =
          let z = inner_call d f q y e in
          let same : (z.i, z.m) ≡ x = same_Some (z.i, z.m) x (sym (ap (λ (u : Calling). u.caller) z.is.is) ∙ caller) in
          record { call = z; instance = ap (λ (u : ℕ × ℕ). u.0) same; runnable = ap (λ (u : ℕ × ℕ). u.1) same }
      by (inr l) = let z = outer_call d f q y l in not_some x (sym (ap (λ (u : Calling). u.caller) z.is) ∙ caller)

  caller_there : (test : ℕ × ℕ → Bool) (o : Option (ℕ × ℕ)) → option_map_or test o false ≡ true → (x : ℕ × ℕ) × (o ≡ Some x) × (test x ≡ true)
  caller_there test None e = absurd (false≢true e)
  caller_there test (Some x) e = (x, refl, e)

  -- the point of an access has the number of its place
  pub point_is : (i : ℕ) (c : Component) → Home d f i c → (k : ℕ) (r : Runnable) → slice_get c.behavior.runnables k ≡ Some r → (j : ℕ) (a : Access) → slice_get r.accesses j ≡ Some a → (b : Bool) → Calls a.kind b
      → point_number d f (is_calling (i, k) a.port a.item) ≡ call_place d f i c k r j
  point_is i c home k r there j a here b calls =
      let mine : is_calling (i, k) a.port a.item (call i k a b) ≡ true = and_from (nat_eq i i && nat_eq k k) (nat_eq a.port a.port && nat_eq a.item a.item) (and_from (nat_eq i i) (nat_eq k k) (eq-eqb i i refl) (eq-eqb k k refl)) (and_from (nat_eq a.port a.port) (nat_eq a.item a.item) (eq-eqb a.port a.port refl) (eq-eqb a.item a.item refl)) in
      let u = found (is_calling (i, k) a.port a.item) 0 (callings d f) (call_place d f i c k r j) (call i k a b) (call_there d f i c home k r there j a here b calls) mine in
      let parts = and_parts (option_map_or (λ (x : ℕ × ℕ). nat_eq x.0 i && nat_eq x.1 k) u.item.caller false) (nat_eq u.item.port a.port && nat_eq u.item.item a.item) u.passes in
      let x = caller_there (λ (x : ℕ × ℕ). nat_eq x.0 i && nat_eq x.1 k) u.item.caller parts.0 in
      let two = and_parts (nat_eq x.0.0 i) (nat_eq x.0.1 k) x.2 in
      let more = and_parts (nat_eq u.item.port a.port) (nat_eq u.item.item a.item) parts.1 in
      let z = inner_there u.place u.item x.0 u.there x.1 in
      let none : 0 + u.place ≡ u.place = omega arith in
      ap (λ o. unwrap_or o 0) u.is ∙ none ∙ same_place u.place u.item z.call (z.instance ∙ eqb-true x.0.0 i two.0) (z.runnable ∙ eqb-true x.0.1 k two.1) (eqb-true u.item.port a.port more.0) (eqb-true u.item.item a.item more.1)
    where
      same_place : (q : ℕ) (y : Calling) (z : InnerCall d f q y) → z.i ≡ i → z.m ≡ k → y.port ≡ a.port → y.item ≡ a.item → q ≡ call_place d f i c k r j
      same_place q y z instance runnable port item =
          let comp : z.c ≡ c = same_home d f i z.c c (subst (λ n. Home d f n z.c) instance z.home) home in
          let same : z.runnable ≡ r = same_Some z.runnable r (sym z.there ∙ (λ s. slice_get (comp s).behavior.runnables (runnable s)) ∙ there) in
          let at_z : slice_get r.accesses z.j ≡ Some z.access = subst (λ (x : Runnable). slice_get x.accesses z.j ≡ Some z.access) same z.here in
          let one = one_call home.instance.component c home.has k r there z.j j z.access a at_z here z.is.asynchronous b z.is.calls calls (sym (ap (λ (u : Calling). u.port) z.is.is) ∙ port) (sym (ap (λ (u : Calling). u.item) z.is.is) ∙ item) in
          z.place ∙ (λ s. call_place d f (instance s) (comp s) (runnable s) (same s) (one s))

  -- ---- the plan's points

  module _ (es : List ElemPlan) where
    pub home_of : (i : ℕ) (c : Component) → Home d f i c → (k : ℕ) (r : Runnable) → slice_get c.behavior.runnables k ≡ Some r → instance_of (planned d f es) (pair_number (runnables_of d f) (i, k)) ≡ Some i
    home_of i c home k r there = looked (runnables d f) (pair_number (runnables_of d f) (i, k)) (runnable_of d f i c k r) (λ (v : plan.Runnable). Some v.instance) None (runnable_there d f i c home k r there)

    pub point_there : (q : ℕ) (y : Calling) → slice_get (callings d f) q ≡ Some y → slice_get (points d f) q ≡ Some (point_of d f y)
    point_there q y at = mapped (point_of d f) (callings d f) q y at

    -- the point of an operation that is called without waiting
    pub record ResultAt (i : ℕ) (c : Component) (k n : ℕ) : Type 0 where
      pub place : ℕ
      pub calling : Calling
      pub there : slice_get (callings d f) place ≡ Some calling
      pub number : point_number d f (leaves i k n) ≡ place
      pub call : InnerCall d f place calling
      pub instance : call.i ≡ i
      pub goes : calling.asynchronous ≡ true
      pub port : calling.port ≡ k
      pub item : calling.item ≡ n

    pub result_at : (i : ℕ) (c : Component) (home : Home d f i c) (k n : ℕ) → LeftBy d f p m w home.instance.component c home.has k n → ResultAt i c k n
    result_at i c home k n l =
        let calls : Calls l.access.kind true = subst (λ x. Calls x true) (sym l.goes) goes_on in
        let mine : leaves i k n (call i l.number l.access true) ≡ true = and_from (nat_eq i i && true) (nat_eq l.access.port k && nat_eq l.access.item n) (and_from (nat_eq i i) true (eq-eqb i i refl) refl) (and_from (nat_eq l.access.port k) (nat_eq l.access.item n) (eq-eqb l.access.port k l.port) (eq-eqb l.access.item n l.item)) in
        let u = found (leaves i k n) 0 (callings d f) (call_place d f i c l.number l.runnable l.j) (call i l.number l.access true) (call_there d f i c home l.number l.runnable l.there l.j l.access l.here true calls) mine in
        let parts = and_parts (option_map_or (λ (x : ℕ × ℕ). nat_eq x.0 i) u.item.caller false && u.item.asynchronous) (nat_eq u.item.port k && nat_eq u.item.item n) u.passes in
        let first = and_parts (option_map_or (λ (x : ℕ × ℕ). nat_eq x.0 i) u.item.caller false) u.item.asynchronous parts.0 in
        let more = and_parts (nat_eq u.item.port k) (nat_eq u.item.item n) parts.1 in
        let x = caller_there (λ (x : ℕ × ℕ). nat_eq x.0 i) u.item.caller first.0 in
        let z = inner_there u.place u.item x.0 u.there x.1 in
        let none : 0 + u.place ≡ u.place = omega arith in
        record {
          place = u.place;
          calling = u.item;
          there = u.there;
          number = ap (λ o. unwrap_or o 0) u.is ∙ none;
          call = z.call;
          instance = z.instance ∙ eqb-true x.0.0 i x.2;
          goes = first.1;
          port = eqb-true u.item.port k more.0;
          item = eqb-true u.item.item n more.1;
        }

    abbrev of_home : ℕ → Option ℕ → Bool
    of_home i None = false
    of_home i (Some r) = Rattle.rte_value.specs.Values.same_number (instance_of (planned d f es) r) (Some i)

    pub result_there : (i : ℕ) (c : Component) (home : Home d f i c) (k n : ℕ) → LeftBy d f p m w home.instance.component c home.has k n → result_point (planned d f es) (Some i) (point_number d f (leaves i k n)) ≡ true
    result_there i c home k n l =
        let x = result_at i c home k n l in
        let z = x.call in
        let caller : x.calling.caller ≡ Some (z.i, z.m) = ap (λ (u : Calling). u.caller) z.is.is in
        ap (λ q. result_point (planned d f es) (Some i) q) x.number
        ∙ looked (points d f) x.place (point_of d f x.calling) (λ (t : PointPlan). t.asynchronous && of_home i t.runnable) false (point_there x.place x.calling x.there)
        ∙ and_from x.calling.asynchronous (of_home i (option_map (pair_number (runnables_of d f)) x.calling.caller)) x.goes
        (ap (λ o. of_home i (option_map (pair_number (runnables_of d f)) o)) caller ∙ option_test (instance_of (planned d f es) (pair_number (runnables_of d f) (z.i, z.m))) (Some i)
        (home_of z.i z.c z.home z.m z.runnable z.there ∙ ap (λ n. Some n) x.instance))
