-- Runnables are sound: their accesses, their programs, and the arguments of what they serve.
use Rattle.std.proofs.Common.{◌≡◌, ℕ, zero, suc, ◌+◌, ◌<◌, Bool, true, false, cond, ◌&&◌, ◌||◌, not, ◌==◌, refl, sym, ◌∙◌, ap, subst, arith, List, [], ◌∷◌, ◌++◌, map, length, Option, Some}
use Rattle.std.proofs.Common.{None, option_map, option_and_then}
use Rattle.bus_semantics.specs.Common.{and_from, and_parts, eq-eqb, false≢true, lt-ltb, ltb-true, ne_eqb, length-map, same_Some, arc_value, slice_get, list_any, list_all, option_map_or}
use Rattle.bus_semantics.specs.Common.{AccessKind, AccessSig, body_cost, first, ProgramTree, program_tree, Runnable, plan_of, look, every_from, access_sound, each_access, is_well_formed}
use Rattle.bus_semantics.specs.Common.{body_sound, has_arguments, runnable_sound, same_kind}
use Rattle.std.specs.Prelude.{nat_lt, nat_le, is_none}
use Rattle.runnable_lang.specs.declared.program.AccessKind.TheVariants as kind
use Rattle.runnable_lang.specs.Refusals as program
use Rattle.plan_definitions.specs.Common.{Interface, Operation, TypeTable, Access, Component, Event, Port, Description, Flat, program_refusal, path_of, access_sig, signature, elem_seen}
use Rattle.plan_definitions.specs.Common.{elements, server_number, target_of, served_by, served_number, runnable_of, runnables, argument_of, server_at, servers, IsWhole}
use Rattle.description_types.specs.declared.component.EventKind as declared_kind
use Rattle.description_types.specs.declared.component.EventKind.TheVariants as declared_event
use Rattle.description_types.specs.declared.component.Runnable as declared_runnable
use Rattle.bus_laws.specs.Common.{ArgPlan, BusPlan, ElemPlan, ServerPlan, Mapping}
use Rattle.bus_semantics.specs.SoundAccesses as sound
use Rattle.plan_definitions.specs.WellFormed as formed
use Rattle.sound_plans.proofs.Places.{not_some, all_at, every_if, looked}
use Rattle.sound_plans.proofs.Parts.{Home, RunnableAt, area_count, number_is, pairs_in, runnable_at, start}
use Rattle.sound_plans.proofs.Rules.{planned, plan_is, program_kept, runnable_formed, serves_formed}
use Rattle.sound_plans.proofs.Serving.{Provides, provided_by, server_there}
use Rattle.sound_plans.proofs.Servers.{served_is, alone, operation_is}
use Rattle.sound_plans.proofs.Events.{elements_seen}
use Rattle.sound_plans.proofs.Uses.{use_sound}

-- what is said of accepted programs (laws of `bus_laws`)
pub record Accepted : Type 0 where
  pub statements : (r : Runnable) → program.refusal r.accesses r.program ≡ None → is_well_formed r.program ≡ true → body_sound r r.program.body [] ≡ true
  pub cost : (r : Runnable) → program.refusal r.accesses r.program ≡ None → nat_le (body_cost r.program.body) 100000 ≡ true
  pub vars : (r : Runnable) → program.refusal r.accesses r.program ≡ None → nat_le r.program.vars 256 ≡ true

-- ---- nothing is refused of a program

none_of_rule : (k : ℕ) (paths : List (List ℕ)) (rest : List (ℕ × List ℕ)) → option_and_then (path_of (Some k)) (first (program.of_rule k paths ++ rest)) ≡ None → program.of_rule k paths ++ rest ≡ rest
none_of_rule k [] rest e = refl
none_of_rule k (x ∷ paths) rest e = absurd (cc (sym e ∙ ap (λ b. cond b (Some x) None) (eq-eqb k k refl)))

pub nothing_refused : (accesses : List AccessSig) (p : ProgramTree) → option_and_then (path_of (Some 17)) (program.refusal accesses p) ≡ None → option_and_then (path_of (Some 18)) (program.refusal accesses p) ≡ None
    → option_and_then (path_of (Some 19)) (program.refusal accesses p) ≡ None → option_and_then (path_of (Some 20)) (program.refusal accesses p) ≡ None → program.refusal accesses p ≡ None
nothing_refused accesses p one two three four =
    let a = program.failing (program.lacks_access accesses) p in
    let b = program.whole (program.is_too_large p) in
    let c = program.failing program.is_declared_before p in
    let e = program.failing program.calls_inside p in
    by a b c e one two three four
  where
    last : (paths : List (List ℕ)) → option_and_then (path_of (Some 20)) (first (program.of_rule 20 paths)) ≡ None → first (program.of_rule 20 paths) ≡ None
    last [] h = refl
    last (x ∷ paths) h = absurd (cc h)

    by : (a b c e : List (List ℕ))
        → option_and_then (path_of (Some 17)) (first (program.of_rule 17 a ++ (program.of_rule 18 b ++ (program.of_rule 19 c ++ program.of_rule 20 e)))) ≡ None
        → option_and_then (path_of (Some 18)) (first (program.of_rule 17 a ++ (program.of_rule 18 b ++ (program.of_rule 19 c ++ program.of_rule 20 e)))) ≡ None
        → option_and_then (path_of (Some 19)) (first (program.of_rule 17 a ++ (program.of_rule 18 b ++ (program.of_rule 19 c ++ program.of_rule 20 e)))) ≡ None
        → option_and_then (path_of (Some 20)) (first (program.of_rule 17 a ++ (program.of_rule 18 b ++ (program.of_rule 19 c ++ program.of_rule 20 e)))) ≡ None
        → first (program.of_rule 17 a ++ (program.of_rule 18 b ++ (program.of_rule 19 c ++ program.of_rule 20 e))) ≡ None
    by a b c e one two three four =
        let x = none_of_rule 17 a (program.of_rule 18 b ++ (program.of_rule 19 c ++ program.of_rule 20 e)) one in
        let y = none_of_rule 18 b (program.of_rule 19 c ++ program.of_rule 20 e) (ap (λ l. option_and_then (path_of (Some 18)) (first l)) (sym x) ∙ two) in
        let z = none_of_rule 19 c (program.of_rule 20 e) (ap (λ l. option_and_then (path_of (Some 19)) (first l)) (sym (x ∙ y)) ∙ three) in
        let all = x ∙ y ∙ z in
        ap first all ∙ last e (ap (λ l. option_and_then (path_of (Some 20)) (first l)) (sym all) ∙ four)

-- ---- lists of accesses

each_mapped : (f : AccessSig → ℕ → Bool) (g : Access → AccessSig) (h : Access → ℕ) (xs : List Access) → ((k : ℕ) (a : Access) → slice_get xs k ≡ Some a → f (g a) (h a) ≡ true) → each_access f (map g xs) (map h xs) ≡ true
each_mapped f g h [] each = refl
each_mapped f g h (a ∷ xs) each = and_from (f (g a) (h a)) (each_access f (map g xs) (map h xs)) (each 0 a refl) (each_mapped f g h xs (λ k b e. each (suc k) b e))

any_same : (types : TypeTable) (c : Component) (a : Access) (xs : List Access) → list_any (sound.same_access (access_sig types c a)) (map (access_sig types c) xs) ≡ list_any (formed.same_access a) xs
any_same types c a [] = refl
any_same types c a (b ∷ xs) = ap (λ r. formed.same_access a b || r) (any_same types c a xs)

same_distinct : (types : TypeTable) (c : Component) (xs : List Access) → sound.accesses_distinct (map (access_sig types c) xs) ≡ formed.accesses_distinct xs
same_distinct types c [] = refl
same_distinct types c (a ∷ xs) = λ j. not (any_same types c a xs j) && same_distinct types c xs j

-- ---- areas

enters_is : (k : AccessKind) → same_kind k kind.Enter ≡ true → k ≡ kind.Enter
enters_is kind.Enter e = refl
enters_is k e = absurd (false≢true e)

module _ (d : Description) (f : Flat) (i : ℕ) (c : Component) (home : Home d f i c) (m : ℕ) where
  area_within : (a : Access) → formed.access_fits d.types c a ≡ true → same_kind a.kind kind.Enter ≡ true → a.item < length c.behavior.exclusive_areas
  area_within a fits enters = ltb-true a.item (length c.behavior.exclusive_areas) (subst (λ k. formed.access_fits d.types c (record { kind = k; port = a.port; item = a.item }) ≡ true) (enters_is a.kind enters) fits)

  -- the number of an area is the instance's first plus its position
  area_number : (a : Access) → formed.access_fits d.types c a ≡ true → same_kind a.kind kind.Enter ≡ true → target_of d f i m a ≡ start d f (pairs_in d f area_count) i + a.item
  area_number a fits enters =
      ap (λ k. target_of d f i m (record { kind = k; port = a.port; item = a.item })) (enters_is a.kind enters)
      ∙ number_is d f area_count i c home a.item (area_within a fits enters)

  area_rises : (a b : Access) → formed.access_fits d.types c a ≡ true → formed.access_fits d.types c b ≡ true → sound.rises_to (access_sig d.types c a) (target_of d f i m a) (access_sig d.types c b) (target_of d f i m b) ≡ true
  area_rises a b fits_a fits_b = by (same_kind a.kind kind.Enter) (same_kind b.kind kind.Enter) (nat_lt a.item b.item) refl refl refl
    where
      by : (u v l : Bool) → same_kind a.kind kind.Enter ≡ u → same_kind b.kind kind.Enter ≡ v → nat_lt a.item b.item ≡ l → (not ((u && v) && l) || nat_lt (target_of d f i m a) (target_of d f i m b)) ≡ true
      by true true true enters_a enters_b less =
          let x : target_of d f i m a ≡ start d f (pairs_in d f area_count) i + a.item = area_number a fits_a enters_a in
          let y : target_of d f i m b ≡ start d f (pairs_in d f area_count) i + b.item = area_number b fits_b enters_b in
          let before : a.item < b.item = ltb-true a.item b.item less in
          lt-ltb (target_of d f i m a) (target_of d f i m b) (omega arith)
      by true true false enters_a enters_b less = refl
      by true false l enters_a enters_b less = refl
      by false v l enters_a enters_b less = refl

  all_rise : (xs : List Access) → list_all (formed.access_fits d.types c) xs ≡ true → sound.areas_rise (map (access_sig d.types c) xs) (map (target_of d f i m) xs) ≡ true
  all_rise xs fits =
      each_mapped (λ a t. each_access (sound.rises_to a t) (map (access_sig d.types c) xs) (map (target_of d f i m) xs)) (access_sig d.types c) (target_of d f i m) xs
      (λ j a at_a. each_mapped (sound.rises_to (access_sig d.types c a) (target_of d f i m a)) (access_sig d.types c) (target_of d f i m) xs
      (λ k b at_b. area_rises a b (all_at (formed.access_fits d.types c) xs j a fits at_a) (all_at (formed.access_fits d.types c) xs k b fits at_b)))

module _ (d : Description) (f : Flat) (p : BusPlan) (m : Mapping) (w : IsWhole d f p m) where
  -- ---- the arguments of what a runnable serves

  module _ (c : Component) where
    abbrev has_variables : Event → ℕ → ℕ → Bool
    has_variables e k n = option_map_or (λ (r : declared_runnable.Runnable). nat_lt (formed.arguments_at d.types c.ports k n) (program_tree (arc_value r.program)).vars) (slice_get c.behavior.runnables e.runnable) false

    abbrev with_kind : Event → declared_kind.EventKind → Event
    with_kind e k = record { short_name = e.short_name; runnable = e.runnable; kind = k; disabled_in_modes = e.disabled_in_modes }

    serves_at : (es : List Event) (seen : List ℕ) (j : ℕ) (e : Event) (k n : ℕ) → formed.serves_fit d.types c es seen ≡ true → slice_get es j ≡ Some e → e.kind ≡ declared_event.OperationInvoked k n
        → ((a : ℕ) (y : Event) → slice_get es a ≡ Some y → y.runnable ≡ e.runnable → a ≡ j) → list_any (λ r. r == e.runnable) seen ≡ false → has_variables e k n ≡ true
    serves_at [] seen j e k n all at kind one none = not_some e at
    serves_at (x ∷ es) seen zero e k n all at kind one none =
        let same : x ≡ e = same_Some x e at in
        let here : x ≡ with_kind e (declared_event.OperationInvoked k n) = same ∙ (λ q. with_kind e (kind q)) in
        let fit : ((list_any (λ r. r == e.runnable) seen || has_variables e k n) && formed.serves_fit d.types c es (e.runnable ∷ seen)) ≡ true = subst (λ z. formed.serves_fit d.types c (z ∷ es) seen ≡ true) here all in
        ap (λ b. b || has_variables e k n) (sym none) ∙ (and_parts (list_any (λ r. r == e.runnable) seen || has_variables e k n) (formed.serves_fit d.types c es (e.runnable ∷ seen)) fit).0
    serves_at (x ∷ es) seen (suc j) e k n all at kind one none = by (λ more fit differs. serves_at es more j e k n fit at kind (λ a y s t. let same = one (suc a) y s t in omega arith) differs) x.kind all
      where
        other : (x.runnable == e.runnable) ≡ false
        other = ne_eqb x.runnable e.runnable (λ same. let place = one 0 x refl same in absurd (omega arith))

        by : ((more : List ℕ) → formed.serves_fit d.types c es more ≡ true → list_any (λ r. r == e.runnable) more ≡ false → has_variables e k n ≡ true)
            → (y : declared_kind.EventKind) → formed.serves_fit d.types c (with_kind x y ∷ es) seen ≡ true → has_variables e k n ≡ true
        by rest (declared_event.OperationInvoked a b) fit =
            rest (x.runnable ∷ seen) (and_parts (list_any (λ r. r == x.runnable) seen || has_variables x a b) (formed.serves_fit d.types c es (x.runnable ∷ seen)) fit).1 (ap (λ b. b || list_any (λ r. r == e.runnable) seen) other ∙ none)
        by rest (declared_event.Timing period) fit = rest seen fit none
        by rest declared_event.Init fit = rest seen fit none
        by rest (declared_event.DataReceived a b) fit = rest seen fit none
        by rest (declared_event.CallReturns a b) fit = rest seen fit none
        by rest (declared_event.ModeSwitch a when) fit = rest seen fit none
        by rest (declared_event.ModeSwitchedAck a) fit = rest seen fit none

    arguments_are : (k n : ℕ) (h : Provides d c k n) → formed.arguments_at d.types c.ports k n ≡ length h.operation.arguments
    arguments_are k n h =
        ap (λ o. option_map_or (λ (q : Port). option_map_or (λ (i : Interface). formed.argument_count i.kind n) (slice_get d.types.interfaces q.interface) 0) o 0) h.there
        ∙ ap (λ o. option_map_or (λ (i : Interface). formed.argument_count i.kind n) o 0) h.has ∙ ap (λ k. formed.argument_count k n) h.is
        ∙ ap (λ o. option_map_or (λ (x : Operation). length x.arguments) o 0) h.at

  module _ (es : List ElemPlan) (seen_as : map elem_seen es ≡ elements d f) (accepted : Accepted) where
    abbrev arguments_of_server : Option ℕ → List ArgPlan
    arguments_of_server None = []
    arguments_of_server (Some s) = look (servers d f) s (λ (v : ServerPlan). v.arguments) []

    module _ (q : ℕ) (r : Runnable) (x : RunnableAt d f q r) where
      program_accepted : program_refusal d.types x.c x.runnable ≡ None
      program_accepted =
          let k = program_kept d f p m w x.home.instance.component x.c x.home.has x.m x.runnable x.there in
          nothing_refused (signature d.types x.c x.runnable.accesses) (program_tree (arc_value x.runnable.program)) k.0 k.1 k.2 k.3

      fits : (list_all (formed.access_fits d.types x.c) x.runnable.accesses ≡ true) × (formed.accesses_distinct x.runnable.accesses ≡ true) × (is_well_formed (program_tree (arc_value x.runnable.program)) ≡ true)
      fits =
          let a = and_parts (list_all (formed.access_fits d.types x.c) x.runnable.accesses) _ (runnable_formed d f p m w x.home.instance.component x.c x.home.has x.m x.runnable x.there) in
          let b = and_parts (formed.accesses_distinct x.runnable.accesses) (is_well_formed (program_tree (arc_value x.runnable.program))) a.1 in
          (a.0, b.0, b.1)

      serving : (o : Option (ℕ × ℕ)) → served_by x.c.behavior.events x.m ≡ o
          → (is_none (option_map (served_number d f x.i) o) || nat_lt (length (arguments_of_server (option_map (served_number d f x.i) o))) (program_tree (arc_value x.runnable.program)).vars) ≡ true
      serving None is = refl
      serving (Some y) is =
          let z = served_is d f p m w x.c.behavior.events x.m y is in
          let h = provided_by d f p m w x.home.instance.component x.c x.home.has z.place z.event y.0 y.1 z.there z.kind in
          let s = server_number d f (Some x.i, Some y.0, y.1) in
          let there = server_there d f p m w x.i x.c x.home y.0 y.1 z.place z.event z.there z.kind in
          let arguments : arguments_of_server (Some s) ≡ map (argument_of d) h.operation.arguments =
          looked (servers d f) s (server_at d f x.i y.0 y.1 z.place) (λ (v : ServerPlan). v.arguments) [] there
          ∙ ap (λ o. option_map_or (λ (o : Operation). map (argument_of d) o.arguments) o []) (operation_is d f p m w x.i x.c x.home y.0 y.1 h) in
          let count : length (arguments_of_server (Some s)) ≡ formed.arguments_at d.types x.c.ports y.0 y.1 = ap length arguments ∙ length-map h.operation.arguments (argument_of d) ∙ sym (arguments_are x.c y.0 y.1 h) in
          let has = serves_at x.c x.c.behavior.events [] z.place z.event y.0 y.1 (serves_formed d f p m w x.home.instance.component x.c x.home.has) z.there z.kind
          (alone d f p m w x.i x.c x.home z.place z.event y.0 y.1 z.there z.kind) refl in
          let runnable : slice_get x.c.behavior.runnables z.event.runnable ≡ Some x.runnable = ap (slice_get x.c.behavior.runnables) z.starts ∙ x.there in
          ap (λ n. nat_lt n (program_tree (arc_value x.runnable.program)).vars) count
          ∙ sym (ap (λ o. option_map_or (λ (r : declared_runnable.Runnable). nat_lt (formed.arguments_at d.types x.c.ports y.0 y.1) (program_tree (arc_value r.program)).vars) o false) runnable) ∙ has

      mine : Runnable
      mine = runnable_of d f x.i x.c x.m x.runnable

      pub runnable_here : runnable_sound (planned d f es) q r ≡ true
      unfolding mine
      runnable_here = subst (λ (u : Runnable). runnable_sound (planned d f es) q u ≡ true) (sym x.is)
          (and_from (each_access (access_sound (planned d f es) q (Some x.i)) (map (access_sig d.types x.c) x.runnable.accesses) (map (target_of d f x.i x.m) x.runnable.accesses)) _
          (each_mapped (access_sound (planned d f es) q (Some x.i)) (access_sig d.types x.c) (target_of d f x.i x.m) x.runnable.accesses
          (λ j a at. subst (λ k. access_sound (planned d f es) k (Some x.i) (access_sig d.types x.c a) (target_of d f x.i x.m a) ≡ true) x.number (use_sound d f p m w es seen_as x.i x.c x.home x.m x.runnable x.there j a at)))
          (and_from (sound.accesses_distinct (map (access_sig d.types x.c) x.runnable.accesses) && sound.areas_rise (map (access_sig d.types x.c) x.runnable.accesses) (map (target_of d f x.i x.m) x.runnable.accesses)) _
          (and_from (sound.accesses_distinct (map (access_sig d.types x.c) x.runnable.accesses)) _ (same_distinct d.types x.c x.runnable.accesses ∙ fits.1) (all_rise d f x.i x.c x.home x.m x.runnable.accesses fits.0))
          (and_from (body_sound mine mine.program.body []) _ (accepted.statements mine program_accepted fits.2)
          (and_from (nat_le (body_cost mine.program.body) 100000) _ (accepted.cost mine program_accepted)
          (and_from (nat_le mine.program.vars 256) (has_arguments (planned d f es) mine) (accepted.vars mine program_accepted)
          (serving (served_by x.c.behavior.events x.m) refl))))))

    pub all_runnables : every_from 0 (runnable_sound (planned d f es)) (runnables d f) ≡ true
    all_runnables = every_if (runnable_sound (planned d f es)) 0 (runnables d f)
        (λ q r at. let none : q ≡ 0 + q = omega arith in subst (λ k. runnable_sound (planned d f es) k r ≡ true) none (runnable_here q r (runnable_at d f q r at)))

pub runnables_sound : Accepted → (d : Description) (f : Flat) (p : BusPlan) (m : Mapping) → IsWhole d f p m → every_from 0 (runnable_sound (plan_of p)) (plan_of p).runnables ≡ true
runnables_sound accepted d f p m w =
    (λ j. every_from 0 (runnable_sound (plan_is d f p w.is_plan j)) (plan_is d f p w.is_plan j).runnables) ∙ all_runnables d f p m w p.elements (elements_seen d f p m w) accepted
