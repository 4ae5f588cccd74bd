use Rattle.std.proofs.Common.{◌≡◌, ◌≤◌, [], length}
use Rattle.core_runtime.specs.Rounds.{IsLater}
use Rattle.core_runtime.proofs.Later.{SoFar}
use Rattle.core_runtime.proofs.InOrder.{InOrder}
use Rattle.core_runtime.proofs.round_state.Round.give_turns.Given as goal

abbrev pub invariant-loop-number : goal.invariant-loop-number
invariant-loop-number l = record { later : IsLater l.initial.self l.self; few : length l.self.entries ≤ l.number; rest : l.self.entries ≡ [] → SoFar l.initial.self l.self l.number; order : InOrder l.initial.self l.self l.number }
