use Rattle.std.proofs.Common.{◌≡◌, true, sym, ap, ◌∙◌, rules}
use Rattle.bus_semantics.specs.Common.{IfOk-weaker, key_fits, history_of, wanted_of}
use Rattle.task_machine.specs.Frames.{wanted_in}
use Rattle.trace_check.specs.Along.{plan_in}
use Rattle.trace_check.proofs.Asking.{wants}
use Rattle.trace_check.proofs.check.Check.want.Goals as goal

pub make_inside-requires-clause-asked : goal.make_inside-requires-clause-asked
make_inside-requires-clause-asked c =
    let r = c.args.rules.now in
    let can = c.requires.can in
    let told : c.key_fits.result ≡ true = search rules in
    let key : key_fits (plan_in r) c.args.key ≡ true = sym c.key_fits.ensures ∙ told in
    record {
      session = can.0;
      stands = can.1;
      asks = wants (plan_in r) (history_of can.0) c.args.key (wanted_of c.in-Call.wish)
          (c.wanted.ensures (plan_in r) (history_of can.0) (wanted_of c.in-Call.wish) c.requires.sound.bodies key can.1.state (ap wanted_in c.in-Call.is));
    }

pub returns-in-Call : goal.returns-in-Call
returns-in-Call c =
    let r = c.args.rules.now in
    let told : c.key_fits.result ≡ true = search rules in
    let key : key_fits (plan_in r) c.args.key ≡ true = sym c.key_fits.ensures ∙ told in
    let w = wanted_of c.in-Call.wish in
    IfOk-weaker c.make_inside.result _ _
    (λ gone goes. λ s stands.
    goes s stands (wants (plan_in r) (history_of s) c.args.key w (c.wanted.ensures (plan_in r) (history_of s) w c.requires.sound.bodies key stands.state (ap wanted_in c.in-Call.is))))
    c.make_inside.ensures
