-- An activation until it is over: what it wants, and the room of its frame.
use Rattle.std.proofs.Common.{◌≡◌, ℕ, Bool, true, false, ◌||◌, if◌then◌else◌, ◌≤◌, refl, sym, ◌∙◌, ap, subst, List, [], ◌∷◌, ◌++◌, ℤ, Some, None}
use Rattle.bus_semantics.specs.Common.{list_any, or_from, list_any-append, Plan, Runnable, Wanted, is_over, next_of_activity}
use Rattle.bus_semantics.specs.declared.entries.Deed.{Deed}
use Rattle.task_machine.specs.declared.instr.Body.{Body}
use Rattle.task_machine.specs.declared.instr.TaskSet.{TaskSet}
use Rattle.task_machine.specs.Standing.{Standing, Room}
use Rattle.task_machine.specs.Frames.{most, IsMadeFor}
use Rattle.task_generator.specs.Promise.{next_until_over}

module _ (p : Plan) (r : Runnable) (event : ℕ) (start : List ℤ) (answers : List Deed) where
  -- it is not over, and wants this
  pub record WantsStill (w : Wanted) : Type 0 where
    pub ongoing : list_any is_over answers ≡ false
    pub next : next_of_activity p r event start answers ≡ Some w

  pub wants_still : (w : Wanted) → next_until_over p r event start answers ≡ Some w → WantsStill w
  wants_still w e = of_test (list_any is_over answers) refl e
    where
      of_test : (b : Bool) → list_any is_over answers ≡ b → (if b then None else next_of_activity p r event start answers) ≡ Some w → WantsStill w
      of_test true is e = absurd (cc e)
      of_test false is e = record { ongoing = is; next = e }

  -- after an answer that does not end it
  pub wants_further : (d : Deed) (w : Wanted) → list_any is_over answers ≡ false → is_over d ≡ false → next_of_activity p r event start (answers ++ d ∷ []) ≡ Some w
      → next_until_over p r event start (answers ++ d ∷ []) ≡ Some w
  wants_further d w ongoing goes next =
      let none : list_any is_over (answers ++ d ∷ []) ≡ false =
      list_any-append is_over answers (d ∷ []) ∙ or_from (list_any is_over answers) (is_over d || false) ongoing (or_from (is_over d) false goes refl) in
      ap (λ b. if b then None else next_of_activity p r event start (answers ++ d ∷ [])) none ∙ next

-- a frame with the room that it had
pub still_made : (t : TaskSet) (f g : Standing) → g.room ≡ f.room → g.counters_room ≡ f.counters_room → IsMadeFor t f → IsMadeFor t g
still_made t f g room counters made = record {
  vars = subst (λ (r : Room). most (λ (b : Body). b.vars) t.bodies ≤ r.vars) (sym room) made.vars;
  counters = subst (λ n. most (λ (b : Body). b.counters) t.bodies ≤ n) (sym counters) made.counters;
  fetched = subst (λ (r : Room). most (λ (b : Body). b.fetched) t.bodies ≤ r.fetched) (sym room) made.fetched;
  written = subst (λ (r : Room). most (λ (b : Body). b.written) t.bodies ≤ r.written) (sym room) made.written;
}
