use Rattle.std.proofs.Common.{◌+◌, ◌∙◌, ap, sym, drop}
use Rattle.plan_text.specs.Calls.{all_seen}
use Rattle.plan_text.specs.Listing.{each_once}
use Rattle.plan_text.specs.Noting.{kept}
use Rattle.plan_text.proofs.Entries.{none_kept, targets_in}
use Rattle.plan_text.proofs.Walking.{left_more, walk_from, walk_on}
use Rattle.plan_text.proofs.header_listing.list.Goals as goal

pub loop-call-init : goal.loop-call-init
loop-call-init c = record {
  are_kept = none_kept c.args.calls.now c.requires;
  walks = walk_from (kept c.args.calls.now) (all_seen c.args.given.now) (ap targets_in c.requires);
}

pub loop-call-preserved : goal.loop-call-preserved
loop-call-preserved c = record {
  are_kept = c.in_ok-noted.ensures.kept;
  walks = walk_on (kept c.loop-call.calls) (kept c.note.new.calls) _ c.in_ok-noted.noted (all_seen (drop (c.loop-call.call-index + 1) c.args.given.now)) (each_once (all_seen c.args.given.now))
      c.in_ok-noted.ensures.noted (sym c.is_clashing.ensures ∙ c.if-is_clashing.false)
      (left_more c.args.given.now c.loop-call.call-index _ (kept c.loop-call.calls) (each_once (all_seen c.args.given.now)) c.loop-call-test.true c.loop-call.invariant.walks);
}
