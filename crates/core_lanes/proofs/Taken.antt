-- A turn at a seat's bench.
use Rattle.std.proofs.Common.{◌≡◌, ◌+◌, ℕ, Bool, true, false, refl, sym, ◌∙◌, ap, subst, arith, List, [], ◌∷◌, ◌++◌, length, append-nil, Some}
use Rattle.bus_semantics.specs.Common.{length_push, same_Some, Plan}
use Rattle.bus_laws.specs.Common.{Stamped, Mapping}
use Rattle.port_objects.specs.Benches.{Work, IsFurther, written_last}
use Rattle.task_machine.specs.declared.instr.TaskSet.{TaskSet}
use Rattle.core_turn.specs.Cores.{CoreState}
use Rattle.core_turn.specs.Ready.{IsReady}
use Rattle.core_turn.specs.Turning.{StepsApart, Steps, NothingFound, IsContended}
use Rattle.cross_core_table.specs.OpenRounds.{Sitting, told_of}
use Rattle.core_lanes.specs.Taking.{IsSameCore, TakesTurns}
use Rattle.core_lanes.proofs.MergedTurns.{turn_taken, taken_on}
use Rattle.core_lanes.specs.Benching.{IsLonger, IsTaken}
use Rattle.core_lanes.specs.Rooms.{HasRoom}

-- what a seat made since
made_since : (before after : Sitting) (added : List Stamped) (held lost : ℕ) → IsFurther (told_of before).work (told_of after).work added held lost → after.view.made ≡ before.view.made ++ added
made_since before after added held lost further = ap (λ (w : Work). w.made) (same_Some _ _ further.told) ∙ further.made

module _ (p : Plan) (t : TaskSet) (old turned : CoreState) (before after : Sitting) where
  pub stepped_taken : (new : CoreState) (s : Stamped) → ((m : Mapping) → IsReady p m t old → IsReady p m t turned) → StepsApart p t old turned (told_of before) (told_of after) s → IsSameCore turned new → IsLonger p t old new before.view.made after.view.made
  stepped_taken new s ready steps same = record {
    made = s;
    stepped = turned;
    added = made_since before after (s ∷ []) 0 0 steps.work;
    turn = turn_taken p t old turned (told_of before) (told_of after) s ready steps;
    same = same;
  }

  pub none_taken : (looks : ℕ) → NothingFound p t looks old turned (told_of before) (told_of after) → (turned ≡ old) × (after.view.made ≡ before.view.made)
  none_taken looks nothing = (nothing.same, made_since before after [] looks 0 nothing.work ∙ append-nil before.view.made)

  pub lost_taken : (object : ℕ) → IsContended p t old turned (told_of before) (told_of after) object → (turned ≡ old) × (after.view.made ≡ before.view.made)
  lost_taken object lost = (lost.same, made_since before after [] 0 1 lost.work ∙ append-nil before.view.made)

  -- its trace was cleared
  pub cleared_room : (new : CoreState) (s : Stamped) → Steps p t old turned (told_of before) (told_of after) s → new.trace ≡ [] → new.room ≡ turned.room + length turned.trace → HasRoom new
  cleared_room new s steps trace room = record { trace = trace; room = omega (arith, room, ap length steps.trace, length_push old.trace s) }

-- ---- turns so far, with a further one

pub turns_on : (p : Plan) (t : TaskSet) (start old new : CoreState) (before after : List Stamped) (made : Bool) → TakesTurns p t start before old → IsTaken p t old new before after made → TakesTurns p t start after new
turns_on p t start old new before after true turns longer = subst (λ part. TakesTurns p t start part new) (sym longer.added) (taken_on p t start old longer.stepped new before longer.made turns longer.turn longer.same)
turns_on p t start old new before after false turns none = subst (λ part. TakesTurns p t start part new) (sym none.1) (subst (TakesTurns p t start before) (sym none.0) turns)

-- a core that has made nothing
pub no_turns : (p : Plan) (t : TaskSet) (core : CoreState) (made : List Stamped) → made ≡ [] → TakesTurns p t core made core
no_turns p t core made none = subst (λ part. TakesTurns p t core part core) (sym none) (record { number = refl; slots = refl })

-- the entry that was written down last
pub last_is : ((before : List Stamped) (s : Stamped) → written_last (before ++ s ∷ []) ≡ Some s) → (xs old : List Stamped) (s made : Stamped) → xs ≡ old ++ s ∷ [] → written_last xs ≡ Some made → made ≡ s
last_is law xs old s made is last = same_Some _ _ (sym last ∙ ap written_last is ∙ law old s)
