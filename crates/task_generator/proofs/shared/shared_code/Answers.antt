use Rattle.std.proofs.Common.{ap, ◌∙◌}
use Rattle.std.specs.Option.{option_copied}
use Rattle.task_generator.specs.Coded.{shape_of_code}
use Rattle.task_generator.proofs.Sharing.{shared_with}
use Rattle.task_generator.proofs.shared.shared_code.Goals as goal

pub returns-in_ok-code-in-Some : goal.returns-in_ok-code-in-Some
returns-in_ok-code-in-Some c place here one have =
    let found = c.with_code.ensures c.in-Some.body.now (ap option_copied c.in-Some.is) in
    let made = c.requires.made c.args.runnable.now.code found.0 found.1.0 in
    ap shape_of_code c.in_ok-code-in-Some.ensures
    ∙ shared_with c.args.p.now c.args.bodies.now found.0 place c.in-Some.body.now made.0 c.args.runnable.now one have found.1.1 made.1.0 here made.1.1
