-- The phase of a mode machine may be tried, and what comes of the look.
use Rattle.std.proofs.Common.{◌≡◌, ℕ, ◌<◌, true, refl, arith, length}
use Rattle.std.specs.Prelude.{nat_lt, IfSome}
use Rattle.bus_semantics.specs.Common.{and_from, nat_tests, Plan, Wanted, to_move_on, object_of, IsObject, wish_fits}
use Rattle.bus_laws.specs.Common.{Actor, Machine}
use Rattle.task_machine.specs.declared.instr.TaskSet.{TaskSet}
use Rattle.task_slots.specs.declared.slot.Slot.TheVariants as slot
use Rattle.task_slots.specs.Common.{Look, Made, Nothing, Contended, IsTried, EntryOf, SlotLooked}
use Rattle.task_slots.proofs.Steps.{phase_step}

module _ (p : Plan) (n : ℕ) (there : n < length p.machines) where
  pub phase_fits : wish_fits p (Machine n) to_move_on ≡ true
  phase_fits = let inside : nat_lt n (length p.machines) ≡ true = grind (arith, nat_tests) in and_from (nat_lt n (length p.machines)) true inside refl

  pub phase_tried : ((a : Actor) (w : Wanted) → wish_fits p a w ≡ true → IfSome (object_of p a w) (IsObject p)) → IsTried p (Machine n) to_move_on
  phase_tried objects = record { fits = phase_fits; own = refl; there = objects (Machine n) to_move_on phase_fits; free = tt }

pub phase_looks : (p : Plan) (t : TaskSet) (n : ℕ) → n < length p.machines → (l : Look) → EntryOf p (Machine n) to_move_on l → SlotLooked p t (slot.Machine n) (slot.Machine n) l
phase_looks p t n there (Made s) entry = phase_step p t n there s entry (phase_fits p n there)
phase_looks p t n there Nothing entry = refl
phase_looks p t n there (Contended object) entry = refl
