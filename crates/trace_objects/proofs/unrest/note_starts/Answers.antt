use Rattle.std.proofs.Common.{Contains, sym, ◌∙◌, ap, subst}
use Rattle.bus_semantics.specs.Plan.{plan_of}
use Rattle.port_objects.specs.Common.{kept_of, wakes}
use Rattle.trace_objects.proofs.Noting.{starts_quiet, starts_told}
use Rattle.trace_objects.proofs.unrest.note_starts.Goals as goal

pub returns-then-wakes : goal.returns-then-wakes
returns-then-wakes c = λ number before objects led found among.
    starts_told (plan_of c.args.p.now) number before c.args.object.now c.args.deed.now objects found led c.args.events.now c.insert_all.new.set
    c.insert_all.ensures.count c.insert_all.ensures.kept (λ n within tells. c.insert_all.ensures.inserted n within (subst (λ xs. Contains xs n) (sym c.woken.ensures) tells)) among

pub returns-else-wakes : goal.returns-else-wakes
returns-else-wakes c = λ number before objects led found among.
    starts_quiet (plan_of c.args.p.now) number before c.args.object.now c.args.deed.now objects found c.args.events.now
    (λ e. c.other_entries_wake_nothing.ensures (plan_of c.args.p.now) number (kept_of before) (kept_of c.args.object.now) led.noted led.leads (ap wakes led.deed ∙ sym c.wakes.ensures ∙ c.if-wakes.false) e) among
