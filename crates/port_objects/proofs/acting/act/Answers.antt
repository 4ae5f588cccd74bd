use Rattle.std.proofs.Common.{◌≡◌, refl, subst}
use Rattle.bus_semantics.specs.Common.{plan_of, wanted_of}
use Rattle.port_objects.specs.Objects.{kept_of}
use Rattle.port_objects.specs.Coming.{IsTheOne}
use Rattle.port_objects.proofs.acting.act.Goals as goal

pub returns-in-Done-clause-done : goal.returns-in-Done-clause-done
returns-in-Done-clause-done c = λ m l e ask is.
    let same : c.act_in_place.new.out ≡ e = cc is in
    subst (IsTheOne (plan_of c.args.p.now) c.args.who.now (wanted_of c.args.wish.now) (kept_of c.act_in_place.new.object) l) same (c.in-Done.ensures.done m l ask refl)

pub returns-in-NotYet-clause-not_yet : goal.returns-in-NotYet-clause-not_yet
returns-in-NotYet-clause-not_yet c = λ m l shown ask is. c.in-NotYet.ensures.not_yet m l c.in-NotYet.shown ask refl
