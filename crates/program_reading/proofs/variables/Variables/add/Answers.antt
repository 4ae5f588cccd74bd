use Rattle.std.proofs.Common.{refl, ap, ◌∙◌}
use Rattle.program_reading.specs.Variables.{added}
use Rattle.program_reading.proofs.Added.{one_added}
use Rattle.program_reading.proofs.variables.Variables.add.Goals as goal

pub returns : goal.returns
returns c =
    one_added _ (λ x y. refl) c.args.name c.self.inside.names.keys c.insert_full.new.self.keys c.in_ok-insert_full.ensures.keys
    ∙ ap (λ vs. added vs c.args.name.now) c.self.view_is
