use Rattle.std.proofs.Common.{◌≡◌, ◌-◌, take}
use Rattle.std.specs.List.{sum_by}
use Rattle.plan_definitions.specs.Coherent.{words_at}
use Rattle.component_rules.proofs.coherent.words_left.Given as goal

abbrev pub invariant-loop-pair : goal.invariant-loop-pair
invariant-loop-pair l = l.rest ≡ l.left - sum_by (words_at l.types l.component) (take l.pair-index l.pairs)
