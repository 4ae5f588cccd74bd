use Rattle.std.proofs.Common.{◌≡◌, true, sym, ◌∙◌, rules}
use Rattle.bus_semantics.specs.Common.{IfOk-weaker, wish_fits, key_fits, history_of, to_start}
use Rattle.bus_semantics.specs.declared.entries.Actor.TheVariants.{Act}
use Rattle.trace_check.specs.Along.{plan_in}
use Rattle.trace_check.proofs.Asking.{begins}
use Rattle.trace_check.proofs.check.Check.begin.Goals as goal

pub make_inside-requires-clause-asked : goal.make_inside-requires-clause-asked
make_inside-requires-clause-asked c =
    let r = c.args.rules.now in
    let can = c.requires.can in
    let told_key : c.key_fits.result ≡ true = search rules in
    let told_may : c.may_begin.result ≡ true = search rules in
    let told_wish : c.wish_fits.result ≡ true = search rules in
    let key : key_fits (plan_in r) c.args.key ≡ true = sym c.key_fits.ensures ∙ told_key in
    let fit : wish_fits (plan_in r) (Act c.args.key) (to_start c.args.event) ≡ true = sym c.wish_fits.ensures ∙ told_wish in
    record {
      session = can.0;
      stands = can.1;
      asks = begins (plan_in r) (history_of can.0) c.args.key c.args.event fit (c.may_begin.ensures r.tasks.now (history_of can.0) key can.1.state told_may);
    }

pub returns : goal.returns
returns c =
    let r = c.args.rules.now in
    let told_key : c.key_fits.result ≡ true = search rules in
    let told_may : c.may_begin.result ≡ true = search rules in
    let told_wish : c.wish_fits.result ≡ true = search rules in
    let key : key_fits (plan_in r) c.args.key ≡ true = sym c.key_fits.ensures ∙ told_key in
    let fit : wish_fits (plan_in r) (Act c.args.key) (to_start c.args.event) ≡ true = sym c.wish_fits.ensures ∙ told_wish in
    IfOk-weaker c.make_inside.result _ _
    (λ gone goes. λ s stands.
    goes s stands (begins (plan_in r) (history_of s) c.args.key c.args.event fit (c.may_begin.ensures r.tasks.now (history_of s) key stands.state told_may)))
    c.make_inside.ensures
