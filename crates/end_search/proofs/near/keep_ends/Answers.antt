use Rattle.std.proofs.Common.{sym, subst}
use Rattle.end_search.specs.Near.{AreKept}
use Rattle.end_search.proofs.Nearing.{near_more}
use Rattle.end_search.proofs.near.keep_ends.Goals as goal

pub returns : goal.returns
returns c = λ d w near found. near_more d w c.args.near.now.ends c.insert.new.self c.args.gate c.in_ok-from_slice.field-0 near c.in_ok-insert.ensures.updates (subst (AreKept d w c.args.gate) (sym c.in_ok-from_slice.ensures.items) found)
