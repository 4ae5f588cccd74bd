use Rattle.std.proofs.Common.{◌≡◌, ◌+◌, slice_index_or, subst, arith}
use Rattle.std.specs.Fork.{AcceptsAt, ChangesAt}
use Rattle.thread_starts.proofs.Starts.{changes_only}
use Rattle.thread_starts.proofs.starting.call_only.Goals as goal

pub call_at-requires-clause-accepts : goal.call_at-requires-clause-accepts
call_at-requires-clause-accepts g c d =
    let one = c.requires.one in
    let same : c.args.place + 0 ≡ c.args.place = omega arith in
    subst (λ i. AcceptsAt g.F.Fn c.args.f.now i (slice_index_or c.args.s.now 0 d)) same (c.requires.accepts.each 0 d (omega arith))

pub returns : goal.returns
returns g c = changes_only (ChangesAt g.F.Fn c.args.f.now) c.args.place c.args.s.now c.call_at.new.s c.requires.one c.call_at.ensures.one c.call_at.ensures.called
