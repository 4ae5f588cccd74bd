-- What a core made by turns, with a further turn; and the same core, whatever its trace.
use Rattle.std.proofs.Common.{◌≡◌, sym, ◌∙◌, ap, subst, List, [], ◌∷◌, ◌++◌, Some}
use Rattle.std.specs.Prelude.{map}
use Rattle.bus_semantics.specs.Common.{slice_get, Plan, History}
use Rattle.bus_laws.specs.Common.{Stamped, Mapping}
use Rattle.port_objects.specs.Benches.{Told}
use Rattle.task_machine.specs.declared.instr.TaskSet.{TaskSet}
use Rattle.task_slots.specs.Slots.{table_of}
use Rattle.core_turn.specs.Cores.{CoreState, tables_of_core}
use Rattle.core_turn.specs.Ready.{IsReady}
use Rattle.core_turn.specs.Standing.{CoreStands}
use Rattle.core_turn.specs.Turning.{StepsApart}
use Rattle.core_lanes.specs.Taking.{IsSameCore, TakesTurn, TakesTurns}

-- ---- the same core

module _ (p : Plan) (t : TaskSet) (c k : CoreState) (same : IsSameCore c k) where
  pub same_ready : (m : Mapping) → IsReady p m t c → IsReady p m t k
  same_ready m ready = record {
    sound = ready.sound;
    has = ap (map table_of) same.slots ∙ ready.has ∙ ap (tables_of_core p m) (sym same.number);
    each = λ i s found. ready.each i s (subst (λ xs. slice_get xs i ≡ Some s) same.slots found);
  }

  pub same_stands : (h : History) → CoreStands p t h c → CoreStands p t h k
  same_stands h stands = λ i s found. stands i s (subst (λ xs. slice_get xs i ≡ Some s) same.slots found)

-- ---- a turn

-- what a turn over any bench made, wherever its entry is written down
pub turn_taken : (p : Plan) (t : TaskSet) (old new : CoreState) (before after : Told) (s : Stamped) → ((m : Mapping) → IsReady p m t old → IsReady p m t new) → StepsApart p t old new before after s → TakesTurn p t old new s
turn_taken p t old new before after s ready steps = record {
  at = steps.at;
  slot = steps.slot;
  stepped = steps.stepped;
  there = steps.there;
  number = steps.number;
  step = steps.step;
  ready = ready;
  stands = steps.stands;
}

module _ (p : Plan) (t : TaskSet) where
  -- a turn of the same core
  taken_from : (c k new : CoreState) (s : Stamped) → IsSameCore c k → TakesTurn p t k new s → TakesTurn p t c new s
  taken_from c k new s same turn = record {
    at = turn.at;
    slot = turn.slot;
    stepped = turn.stepped;
    there = ap (λ xs. slice_get xs turn.at) (sym same.slots) ∙ turn.there;
    number = turn.number ∙ same.number;
    step = turn.step;
    ready = λ m ready. turn.ready m (same_ready p t c k same m ready);
    stands = λ g stands. turn.stands g (same_stands p t c k same g stands);
  }

  -- a further turn
  pub taken_on : (old now next new : CoreState) (part : List Stamped) (s : Stamped) → TakesTurns p t old part now → TakesTurn p t now next s → IsSameCore next new → TakesTurns p t old (part ++ s ∷ []) new
  taken_on old now next new [] s turns turn same = (next, taken_from old now next s turns turn, same)
  taken_on old now next new (x ∷ part) s turns turn same = (turns.0, turns.1, taken_on turns.0 now next new part s turns.2 turn same)
