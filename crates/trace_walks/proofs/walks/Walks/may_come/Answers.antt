use Rattle.std.proofs.Common.{◌∙◌, sym, ap}
use Rattle.bus_semantics.specs.Common.{plan_of, starts_or_goes_on}
use Rattle.trace_walks.proofs.Following.{begins_is, goes_as, walk_stands}
use Rattle.trace_walks.proofs.walks.Walks.may_come.Goals as goal

pub returns-in-Start : goal.returns-in-Start
returns-in-Start c = λ h bodies stands fit there.
    let p = plan_of c.args.p.now in
    c.may_start.ensures
    ∙ begins_is c.args.t.now p h c.args.self.now stands c.args.key c.args.walk.now c.in-Start.event fit there
    ∙ ap (starts_or_goes_on p h c.args.key) (sym c.in-Start.is)

pub returns-in_default : goal.returns-in_default
returns-in_default c = λ h bodies stands fit there.
    let p = plan_of c.args.p.now in
    goes_as p h c.args.key c.args.entry.now.deed c.in_default.not-Start (c.wants.ensures p c.args.key h bodies fit (walk_stands c.args.t.now p h c.args.self.now stands c.args.key c.args.walk.now fit there))
