use Rattle.std.proofs.Common.{◌≡◌, refl, sym, subst, Some}
use Rattle.bus_semantics.specs.declared.entries.Deed.TheVariants.{Tick}
use Rattle.bus_semantics.specs.Common.{plan_of, noted_for, to_tick}
use Rattle.port_objects.specs.Common.{lead, kept_of, tick_of_env}
use Rattle.trace_objects.specs.Unrest.{IsLed}
use Rattle.trace_objects.proofs.Noting.{among_still}
use Rattle.trace_objects.proofs.going.tick_at.Goals as goal

pub returns-then-tick-clause-made : goal.returns-then-tick-clause-made
returns-then-tick-clause-made c = λ m l ask yes. c.tick.ensures.done m l ask c.if-tick.true

pub returns-then-tick-clause-among : goal.returns-then-tick-clause-among
returns-then-tick-clause-among c = λ objects found among.
    let p = plan_of c.args.p.now in
    let old = c.args.object.now in
    let new = c.tick.new.object in
    let made = c.tick.ensures.lead c.if-tick.true in
    let led : IsLed p c.args.number old new Tick = record {
      noted = noted_for to_tick tick_of_env;
      deed = refl;
      leads = subst (λ n. lead p n (kept_of old) (noted_for to_tick tick_of_env) ≡ Some (kept_of new)) (sym c.requires.number) made.leads;
      told = made.told;
    } in
    c.note.ensures old objects led found among

pub returns-else-tick-clause-among : goal.returns-else-tick-clause-among
returns-else-tick-clause-among c = λ objects found among.
    among_still (plan_of c.args.p.now) c.args.number c.args.object.now c.tick.new.object objects c.args.unrest.now found (c.tick.ensures.same c.if-tick.false) among
