-- The events of a slot that can step are the plan's.
use Rattle.std.proofs.Common.{◌≡◌, ℕ, true, refl, List, [], ◌∷◌, length}
use Rattle.std.specs.Prelude.{nat_lt}
use Rattle.bus_semantics.specs.Common.{list_all, and_from, and_parts, Plan}
use Rattle.task_machine.specs.declared.instr.TaskSet.{TaskSet}
use Rattle.task_slots.specs.declared.slot.Slot.{Slot}
use Rattle.task_slots.specs.declared.slot.Slot.TheVariants as of
use Rattle.task_slots.specs.Slots.{events_of_slot}
use Rattle.task_slots.specs.Ready.{may_be_mapped, IsReadySlot}

there : (p : Plan) (xs : List ℕ) → list_all (may_be_mapped p) xs ≡ true → list_all (λ e. nat_lt e (length p.events)) xs ≡ true
there p [] all = refl
there p (x ∷ xs) all =
    let parts = and_parts (may_be_mapped p x) (list_all (may_be_mapped p) xs) all in
    and_from (nat_lt x (length p.events)) (list_all (λ e. nat_lt e (length p.events)) xs) (and_parts (nat_lt x (length p.events)) _ parts.0).0 (there p xs parts.1)

pub known_events : (p : Plan) (t : TaskSet) (s : Slot) → IsReadySlot p t s → list_all (λ e. nat_lt e (length p.events)) (events_of_slot s) ≡ true
known_events p t (of.Machine n) ready = refl
known_events p t (of.Task s) ready = there p s.events.items ready.mapped
