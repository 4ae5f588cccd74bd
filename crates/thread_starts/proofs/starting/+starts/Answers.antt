use Rattle.std.proofs.Common.{◌+◌, refl, arith}
use Rattle.std.specs.Fork.{AcceptsAt, ChangesAt}
use Rattle.thread_starts.proofs.Starts.{accepts_first, accepts_rest, changes_both}
use Rattle.thread_starts.proofs.starting.+starts.Goals as goal

pub start_from-start_both-requires-clause-first : goal.start_from-start_both-requires-clause-first
start_from-start_both-requires-clause-first g t c κs within =
    let cut = c.split_at_mut-first in
    accepts_first (AcceptsAt g.F.Fn c.args.f.now) c.args.from c.args.s.now cut.result.0.now cut.result.1.now cut.ensures.value cut.ensures.front_len c.requires

pub start_from-start_both-requires-clause-rest : goal.start_from-start_both-requires-clause-rest
start_from-start_both-requires-clause-rest g t c κs within =
    let cut = c.split_at_mut-first in
    let some = c.requires.some in
    accepts_rest (AcceptsAt g.F.Fn c.args.f.now) c.args.from (c.args.from + 1) c.args.s.now cut.result.0.now cut.result.1.now refl cut.ensures.value cut.ensures.front_len (omega arith) c.requires

pub start_from-returns : goal.start_from-returns
start_from-returns g t c =
    let cut = c.split_at_mut-first in
    changes_both (ChangesAt g.F.Fn c.args.f.now) c.args.from (c.args.from + 1) c.args.s.now cut.result.0.now cut.result.1.now _ _ refl cut.ensures.value cut.ensures.front_len c.start_both.ensures.first c.start_both.ensures.rest
