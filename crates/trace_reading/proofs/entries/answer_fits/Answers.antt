use Rattle.std.proofs.Common.{◌≡◌, sym, subst}
use Rattle.bus_semantics.specs.declared.entries.Deed.{Deed}
use Rattle.bus_semantics.specs.Common.{answer_fits, plan_of}
use Rattle.trace_reading.proofs.entries.answer_fits.Goals as goal

pub returns-in-Mode : goal.returns-in-Mode
returns-in-Mode c =
    subst (λ (d : Deed). c.seen_fits.result ≡ answer_fits (plan_of c.args.p.now) c.args.who d) (sym c.in-Mode.is) (c.seen_fits.ensures c.args.who)
