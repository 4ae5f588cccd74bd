use Rattle.std.proofs.Common.{◌≡◌, refl, sym, subst, Some}
use Rattle.bus_semantics.specs.Common.{plan_of, wanted_of, noted_for}
use Rattle.port_objects.specs.Common.{lead, kept_of}
use Rattle.trace_objects.specs.Unrest.{IsLed}
use Rattle.trace_objects.proofs.Compared.{made_on}
use Rattle.trace_objects.proofs.Noting.{among_still}
use Rattle.trace_objects.proofs.making.make_on.Goals as goal

pub returns-in-Done-clause-made : goal.returns-in-Done-clause-made
returns-in-Done-clause-made c = λ m l ask.
    made_on (plan_of c.args.p.now) (wanted_of c.args.wish.now) (kept_of c.act_in_place.new.object) l c.args.entry.now c.act_in_place.new.out c.compare.result c.compare.ensures (c.in-Done.ensures.done m l ask refl)

pub returns-in-NotYet-clause-made : goal.returns-in-NotYet-clause-made
returns-in-NotYet-clause-made c = λ m l ask. c.in-NotYet.ensures.not_yet m l c.in-NotYet.field-0 ask refl

pub returns-in-Done-clause-among : goal.returns-in-Done-clause-among
returns-in-Done-clause-among c = λ objects found among.
    let p = plan_of c.args.p.now in
    let w = wanted_of c.args.wish.now in
    let old = c.args.object.now in
    let new = c.act_in_place.new.object in
    let made = c.in-Done.ensures.lead in
    let led : IsLed p c.args.number old new c.act_in_place.new.out.deed = record {
      noted = noted_for w c.act_in_place.new.out;
      deed = refl;
      leads = subst (λ n. lead p n (kept_of old) (noted_for w c.act_in_place.new.out) ≡ Some (kept_of new)) (sym c.requires.number) made.leads;
      told = made.told;
    } in
    c.note.ensures old objects led found among

pub returns-in-NotYet-clause-among : goal.returns-in-NotYet-clause-among
returns-in-NotYet-clause-among c = λ objects found among.
    among_still (plan_of c.args.p.now) c.args.number c.args.object.now c.act_in_place.new.object objects c.args.unrest.now found c.in-NotYet.ensures.lead.same among
