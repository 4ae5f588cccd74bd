use Rattle.std.proofs.Common.{◌≡◌, sym, ◌∙◌, ap, subst, false}
use Rattle.bus_semantics.specs.Common.{false≢true, wanted_of}
use Rattle.bus_semantics.specs.declared.entries.Deed.TheVariants.{Tick}
use Rattle.object_kinds.specs.declared.acted.Acted.{Acted}
use Rattle.object_kinds.specs.declared.acted.Acted.TheVariants.{Done}
use Rattle.object_kinds.specs.Kinds.{IsAnswerOf}
use Rattle.clock_objects.specs.Kept.{may_start}
use Rattle.clock_objects.specs.Leading.{lead, why_held}
use Rattle.clock_objects.specs.Plans.{IsOfPlan}
use Rattle.clock_objects.proofs.Planned.{start_planned}
use Rattle.clock_objects.proofs.Starting.{start_wakes_nothing}
use Rattle.clock_objects.proofs.ticks.Ticks.act.Goals as goal

pub returns-in-Tick-clause-answer : goal.returns-in-Tick-clause-answer
returns-in-Tick-clause-answer c = λ p object planned.
    let made : Acted = Done (record { actor = c.args.who.now; deed = Tick }) in
    subst (λ w. IsAnswerOf p lead may_start why_held c.args.who.now (wanted_of w) c.args.self.now.kept c.tick.new.self.kept made) (sym c.in-Tick.is) (c.tick.ensures.answer p c.args.who.now)

pub returns-in-Start-clause-planned : goal.returns-in-Start-clause-planned
returns-in-Start-clause-planned c = λ p object planned. subst (IsOfPlan p object) (sym c.start.ensures.kept) (start_planned p object c.args.self.now.kept c.in-Start.event planned)

pub returns-in-Start-clause-told : goal.returns-in-Start-clause-told
returns-in-Start-clause-told c = λ event off on.
    let still : may_start c.start.new.self.kept event ≡ false = ap (λ k. may_start k event) c.start.ensures.kept ∙ start_wakes_nothing c.args.self.now.kept c.in-Start.event event off in
    absurd (false≢true (sym still ∙ on))
