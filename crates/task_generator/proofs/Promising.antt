-- Bodies of the shapes of the plan's runnables ask what the actor rule wants.
use mathlib.Core.HLevel.{hedberg}
use Rattle.std.proofs.Common.{◌≡◌, ℕ, ℤ, pos, List, [], ◌∷◌, length, map, get_or, replicate, Bool, true, false, if◌then◌else◌, Option, Some, None, refl, sym, ap, ◌∙◌, arith}
use Rattle.std.specs.Prelude.{zero, suc, slice_get, ◌==◌, ◌||◌, is_some}
use Rattle.bus_semantics.specs.Common.{list_any, option_map, option_map_or, false≢true, length-replicate, slice_get-map, Value, words_of, Plan, Runnable, disabling_of, IsSound, Wanted}
use Rattle.bus_semantics.specs.Common.{same_wanted, stored, is_over, state_at_start, next_of_activity}
use Rattle.bus_semantics.specs.declared.entries.Deed.{Deed}
use Rattle.bus_semantics.specs.declared.entries.Deed.TheVariants as deed
use Rattle.bus_semantics.specs.declared.plan.EventPlan.{EventPlan}
use Rattle.bus_semantics.specs.declared.script.Mapping.{Mapping}
use Rattle.bus_semantics.proofs.SameWanted.{same_wanted-Decides}
use Rattle.task_machine.specs.declared.instr.Body.{Body}
use Rattle.task_machine.specs.declared.instr.TaskSet.{TaskSet}
use Rattle.task_machine.specs.Store.{Store}
use Rattle.task_machine.specs.Instructions.{Instruction}
use Rattle.task_machine.specs.Machine.{Spot, wanted_by, wanted_at, stopped, heard_by, heard, answered, after}
use Rattle.task_machine.specs.Spots.{no_spot}
use Rattle.task_machine.specs.Frames.{code_from, spot_from, first_place}
use Rattle.implicit_buffers.specs.Buffers.{fetched_by, published_by}
use Rattle.task_generator.specs.Bounds.{loops_of_body}
use Rattle.task_generator.specs.Shapes.{Shape, shape_of_body, shape_of}
use Rattle.task_generator.specs.Promise.{AsksAsPlanned}
use Rattle.task_generator.proofs.Agreeing.{no_slots, starts_agreeing}
use Rattle.task_generator.proofs.Following.{asked_from, after_hearing}
use Rattle.task_generator.proofs.Arguments.{variables_begin}
use Rattle.task_generator.proofs.Listed.{fetches_slotted, publications_slotted}
use Rattle.task_generator.proofs.Cutting.{nothing_is_cut}
use Rattle.task_generator.proofs.Activity.{whole}

-- ---- after the last deed nothing is asked

module _ (code : List Instruction) (event : ℕ) where
  stays_over : (ds : List Deed) (at : Spot) → at.left ≡ 0 → wanted_at code event (after code ds at) ≡ None
  stays_over [] at none = ap (λ n. if n == 0 then None else wanted_by (slice_get code at.place) event at.store) none
  stays_over (d ∷ ds) at none = stays_over ds (answered code d at) (by_deed (is_over d))
    where
      by_deed : (b : Bool) → (if b then stopped at else heard code d at).left ≡ 0
      by_deed true = refl
      by_deed false = ap (λ (x : Spot). x.left) (ap (λ n. if n == 0 then at else heard_by code (slice_get code at.place) d at) none) ∙ none

  pub asks_until_over : (ds : List Deed) (at : Spot) → wanted_at code event (after code ds at) ≡ (if list_any is_over ds then None else wanted_at code event (after_hearing code ds at))
  asks_until_over [] at = refl
  asks_until_over (d ∷ ds) at = by_deed (is_over d) (asks_until_over ds (heard code d at))
    where
      by_deed : (b : Bool) → wanted_at code event (after code ds (heard code d at)) ≡ (if list_any is_over ds then None else wanted_at code event (after_hearing code ds (heard code d at)))
          → wanted_at code event (after code ds (if b then stopped at else heard code d at)) ≡ (if b || list_any is_over ds then None else wanted_at code event (after_hearing code ds (heard code d at)))
      by_deed true rest = stays_over ds (stopped at) refl
      by_deed false rest = rest

-- ---- the event that starts

some_disabled : (events : List EventPlan) (event : ℕ) → get_or (map (λ (v : EventPlan). is_some v.disabled) events) event false ≡ is_some (option_map_or (λ (v : EventPlan). v.disabled) (slice_get events event) None)
some_disabled [] event = refl
some_disabled (v ∷ events) zero = refl
some_disabled (v ∷ events) (suc event) = some_disabled events event

-- ---- bodies by their shapes

-- what a body of a shape asks
shape_asks : Option Shape → (place event : ℕ) → List ℤ → List Deed → Option Wanted
shape_asks None place event ws answers = wanted_at [] event (after_hearing [] answers no_spot)
shape_asks (Some x) place event ws answers =
    let m : Store = record { vars = stored x.arguments ws (replicate x.vars (pos 0)); fetched = replicate x.fetched []; written = replicate x.written None } in
    asked_from x.code event x.budget place m (replicate x.counters 0) answers

asks_by_shape : (t : TaskSet) (o : Option Body) (event : ℕ) (point : Option ℕ) (value : Value) (answers : List Deed)
    → wanted_at (code_from o) event (after_hearing (code_from o) answers (spot_from t (deed.Start event point value) o)) ≡ shape_asks (option_map shape_of_body o) (first_place t event) event (words_of value) answers
unfolding shape_asks
asks_by_shape t None event point value answers = refl
asks_by_shape t (Some b) event point value answers = refl

some_asks : (p : Plan) (m : Mapping) → IsSound p m → (i : ℕ) (r : Runnable) → slice_get p.runnables i ≡ Some r → (event : ℕ) (ws : List ℤ) (answers : List Deed) → shape_asks (Some (shape_of p r)) (if is_some (disabling_of p event) then 0 else 1) event ws answers ≡ next_of_activity p r event ws answers
unfolding shape_asks
some_asks p m sound i r there event ws answers =
    let counters = replicate (loops_of_body r.program.body) 0 in
    let long : length counters ≡ loops_of_body r.program.body = length-replicate (loops_of_body r.program.body) 0 in
    let x = shape_of p r in
    let place = if is_some (disabling_of p event) then 0 else 1 in
    let slots = no_slots (fetched_by r) (published_by r) in
    ap (λ vars. let m : Store = record { vars = vars; fetched = slots.fetched; written = slots.written } in asked_from x.code event x.budget place m counters answers) (variables_begin p r ws)
    ∙ whole p r event (fetches_slotted p m sound i r there) (publications_slotted p m sound i r there) counters (omega arith) (state_at_start p r ws) slots answers (disabling_of p event) refl (starts_agreeing (fetched_by r) (published_by r))
    ∙ nothing_is_cut p m sound i r there event ws answers

-- wishes are the same in one way at most
same_or_not : Discrete (Option Wanted)
same_or_not None None = yes refl
same_or_not None (Some w) = no (λ same. absurd (cc))
same_or_not (Some v) None = no (λ same. absurd (cc))
same_or_not (Some v) (Some w) = by_test (same_wanted v w) refl
  where
    by_test : (b : Bool) → same_wanted v w ≡ b → Dec (Some v ≡ Some w)
    by_test true same = yes (ap Some ((same_wanted-Decides v w).0 same))
    by_test false other = no (λ some. let same : v ≡ w = cc in false≢true (sym other ∙ (same_wanted-Decides v w).1 same))

pub wants_alike : IsSet (Option Wanted)
wants_alike = hedberg same_or_not

pub asks_as_planned : (p : Plan) (m : Mapping) → IsSound p m → (t : TaskSet) → map shape_of_body t.bodies ≡ map (shape_of p) p.runnables → t.disabled ≡ map (λ (v : EventPlan). is_some v.disabled) p.events → AsksAsPlanned p t
asks_as_planned p m sound t same disabled k r event point value answers at =
    let o = slice_get t.bodies k.runnable in
    let body : option_map shape_of_body o ≡ Some (shape_of p r) =
    sym (slice_get-map shape_of_body t.bodies k.runnable) ∙ ap (λ xs. slice_get xs k.runnable) same ∙ slice_get-map (shape_of p) p.runnables k.runnable ∙ ap (option_map (shape_of p)) at in
    let place : first_place t event ≡ (if is_some (disabling_of p event) then 0 else 1) =
    ap (λ xs. if get_or xs event false then 0 else 1) disabled ∙ ap (λ b. if b then 0 else 1) (some_disabled p.events event) in
    asks_until_over (code_from o) event answers (spot_from t (deed.Start event point value) o)
    ∙ ap (λ w. if list_any is_over answers then None else w)
    (asks_by_shape t o event point value answers
    ∙ ap (λ x. shape_asks x (first_place t event) event (words_of value) answers) body
    ∙ ap (λ n. shape_asks (Some (shape_of p r)) n event (words_of value) answers) place
    ∙ some_asks p m sound k.runnable r at event (words_of value) answers)
