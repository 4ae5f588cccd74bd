use Rattle.std.proofs.Common.{◌≡◌, map, drop}
use Rattle.description_shapes.specs.Alternatives.{choice_of, pick}
use Rattle.description_shapes.proofs.alternatives.pick_from.Given as goal

abbrev pub invariant-loop-choice : goal.invariant-loop-choice
invariant-loop-choice l = pick (map choice_of l.choices) l.other l.word ≡ pick (map choice_of (drop l.choice-index l.choices)) l.other l.word
