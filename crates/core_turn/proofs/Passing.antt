-- Slots that are passed one after the other.
use Rattle.std.proofs.Common.{◌≡◌, ℕ, ◌+◌, ◌-◌, ◌<◌, ◌≤◌, refl, sym, ◌∙◌, ap, subst, arith, List, [], ◌∷◌, ◌++◌, length, take, drop, set, get_or, length-drop, Some}
use Rattle.bus_semantics.specs.Common.{slice_get, take_more, take-append-drop, slice_get-get_or, Plan, gathered}
use Rattle.std.proofs.lemmas.List.{take-take, get_or-drop, set-get_or}
use Rattle.bus_semantics.specs.declared.entries.Stamped.{Stamped}
use Rattle.port_objects.specs.Benches.{Told}
use Rattle.task_machine.specs.declared.instr.TaskSet.{TaskSet}
use Rattle.task_slots.specs.declared.slot.Slot.{Slot}
use Rattle.task_slots.specs.Common.{Look, Made, Nothing, Contended, Looked}
use Rattle.task_slots.specs.Slots.{slot_tries, looks}
use Rattle.core_turn.specs.Cores.{slots_between, looks_in}
use Rattle.task_slots.specs.Stepping.{SlotStep}
use Rattle.core_turn.specs.Turning.{PassMade}
use Rattle.task_slots.proofs.Onward.{looked_on, looked_as, looked_uncounted, looked_none, lost_more, gathered_on, gathered_one}

pub looks_on : (p : Plan) (xs ys : List Slot) → looks_in p (xs ++ ys) ≡ looks_in p xs + looks_in p ys
looks_on p [] ys = omega arith
looks_on p (x ∷ xs) ys = let more = looks_on p xs ys in omega arith

pub found_at : (slots : List Slot) (at : ℕ) (s : Slot) → at < length slots → s ≡ get_or slots at s → slice_get slots at ≡ Some s
found_at slots at s within is = slice_get-get_or slots at s within ∙ ap (λ x. Some x) (sym is)

pub set_same : (slots : List Slot) (at : ℕ) (s : Slot) → s ≡ get_or slots at s → set slots at s ≡ slots
set_same slots at s is = ap (set slots at) is ∙ set-get_or slots at s

pub none_passed : (p : Plan) (t : TaskSet) (slots : List Slot) (from : ℕ) (a : Told) → Looked p (gathered (slot_tries p t) (slots_between from from slots)) (looks_in p (slots_between from from slots)) a a Nothing
none_passed p t slots from a =
    let zero : from - from ≡ 0 = omega arith in
    let none : slots_between from from slots ≡ [] = ap (λ n. take n (drop from slots)) zero in
    subst (λ xs. Looked p (gathered (slot_tries p t) xs) (looks_in p xs) a a Nothing) (sym none) (looked_none p a)

module _ (p : Plan) (t : TaskSet) (slots : List Slot) (from at : ℕ) (s : Slot) (behind : from ≤ at) (within : at < length slots) (is : s ≡ get_or slots at s) where
  between_more : slots_between from (at + 1) slots ≡ slots_between from at slots ++ s ∷ []
  between_more =
      let count : at + 1 - from ≡ at - from + 1 = omega arith in
      let place : from + (at - from) ≡ at = omega arith in
      let inside : at - from < length (drop from slots) = omega (arith, length-drop from slots) in
      let here : get_or (drop from slots) (at - from) s ≡ s = get_or-drop from slots (at - from) s ∙ ap (λ n. get_or slots n s) place ∙ sym is in
      ap (λ n. take n (drop from slots)) count ∙ take_more (drop from slots) (at - from) s inside ∙ ap (λ x. take (at - from) (drop from slots) ++ x ∷ []) here

  looks_more : looks_in p (slots_between from at slots) + looks p s ≡ looks_in p (slots_between from (at + 1) slots)
  looks_more =
      let one : looks_in p (s ∷ []) ≡ looks p s = omega arith in
      sym (ap (looks_in p) between_more ∙ looks_on p (slots_between from at slots) (s ∷ []) ∙ ap (λ n. looks_in p (slots_between from at slots) + n) one)

  more_passed : (m n : ℕ) (a b c : Told) (l : Look) → Looked p (gathered (slot_tries p t) (slots_between from at slots)) m a b Nothing → Looked p (slot_tries p t s) n b c l
      → Looked p (gathered (slot_tries p t) (slots_between from (at + 1) slots)) (m + n) a c l
  more_passed m n a b c l before now =
      let tries : gathered (slot_tries p t) (slots_between from at slots) ++ slot_tries p t s ≡ gathered (slot_tries p t) (slots_between from (at + 1) slots) =
      sym (ap (gathered (slot_tries p t)) between_more ∙ gathered_one (slot_tries p t) (slots_between from at slots) s) in
      looked_as p _ _ (m + n) _ a c l tries refl (looked_on p _ _ m n a b c l before now)

  -- each look of it is counted
  pub pass_on : (a b c : Told) (l : Look) → Looked p (gathered (slot_tries p t) (slots_between from at slots)) (looks_in p (slots_between from at slots)) a b Nothing
      → Looked p (slot_tries p t s) (looks p s) b c l
      → Looked p (gathered (slot_tries p t) (slots_between from (at + 1) slots)) (looks_in p (slots_between from (at + 1) slots)) a c l
  pass_on a b c l before now = subst (λ n. Looked p (gathered (slot_tries p t) (slots_between from (at + 1) slots)) n a c l) looks_more (more_passed _ _ a b c l before now)

  -- up to a slot whose object another core holds
  pub pass_lost : (to m n : ℕ) (a b c : Told) (object : ℕ) → at < to → Looked p (gathered (slot_tries p t) (slots_between from at slots)) m a b Nothing
      → Looked p (slot_tries p t s) n b c (Contended object) → Looked p (gathered (slot_tries p t) (slots_between from to slots)) 0 a c (Contended object)
  pass_lost to m n a b c object less before now =
      let more = at + 1 - from in
      let short : more ≤ to - from = omega arith in
      let rest = drop more (slots_between from to slots) in
      let parts : slots_between from (at + 1) slots ++ rest ≡ slots_between from to slots =
      ap (λ x. x ++ rest) (sym (take-take more (to - from) (drop from slots) short)) ∙ take-append-drop more (slots_between from to slots) in
      let tries : gathered (slot_tries p t) (slots_between from (at + 1) slots) ++ gathered (slot_tries p t) rest ≡ gathered (slot_tries p t) (slots_between from to slots) =
      sym (gathered_on (slot_tries p t) (slots_between from (at + 1) slots) rest) ∙ ap (gathered (slot_tries p t)) parts in
      looked_as p _ _ 0 _ a c (Contended object) tries refl (lost_more p _ _ _ _ a c object (more_passed m n a b c (Contended object) before now))

  pub pass_made : (new : List Slot) (stepped : Slot) (m n : ℕ) (a b c : Told) (e : Stamped) → new ≡ set slots at stepped → SlotStep p t s stepped e
      → Looked p (gathered (slot_tries p t) (slots_between from at slots)) m a b Nothing
      → Looked p (slot_tries p t s) n b c (Made e)
      → PassMade p t slots new from at a c e
  pass_made new stepped m n a b c e changed step before now = record {
    slot = s;
    stepped = stepped;
    behind = behind;
    there = found_at slots at s within is;
    slots = changed;
    step = step;
    middle = b;
    passed = looked_uncounted p _ m a b Nothing before;
    looked = looked_uncounted p _ n b c (Made e) now;
  }
