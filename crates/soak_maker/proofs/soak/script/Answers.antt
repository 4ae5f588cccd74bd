use Rattle.std.proofs.Common.{ℕ, List, ◌++◌, ◌∙◌, add-one, ap, codes, sym}
use Rattle.soak_maker.specs.Script.{rounds}
use Rattle.soak_maker.proofs.soak.script.Goals as goal

pub loop-i-preserved : goal.loop-i-preserved
loop-i-preserved c = c.in_ok-extend_from_slice.ensures.items ∙ ap (λ (t : List ℕ). t ++ codes "tick 10\nrun\n") c.loop-i.invariant ∙ ap rounds (sym (add-one c.loop-i.i))
