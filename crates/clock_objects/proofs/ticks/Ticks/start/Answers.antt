use Rattle.std.proofs.Common.{refl, sym, ◌∙◌}
use Rattle.clock_objects.proofs.Answering.{start_held, start_made}
use Rattle.clock_objects.proofs.ticks.Ticks.start.Goals as goal

pub returns-then-take_start-clause-answer : goal.returns-then-take_start-clause-answer
returns-then-take_start-clause-answer c = λ p object planned.
    start_made p object c.args.self.now.kept c.take_start.new.self.kept c.args.who.now c.args.event c.empty.result planned (sym c.if-take_start.true ∙ c.take_start.ensures.pending) c.take_start.ensures.kept c.empty.ensures

pub returns-else-take_start-clause-answer : goal.returns-else-take_start-clause-answer
returns-else-take_start-clause-answer c = λ p object planned.
    let held = start_held c.args.self.now.kept c.take_start.new.self.kept c.args.who.now c.args.event (sym c.if-take_start.false ∙ c.take_start.ensures.pending) c.take_start.ensures.kept in
    (refl, held.0, held.1)
