use Rattle.std.proofs.Common.{◌≡◌, length}
use Rattle.core_runtime.specs.Rounds.{IsLater}
use Rattle.core_runtime.proofs.round_state.Round.go_alone.Given as goal

abbrev pub invariant-loop-turns : goal.invariant-loop-turns
invariant-loop-turns g l = record { later : IsLater l.initial.self l.self; count : length l.self.entries ≡ l.turns }
