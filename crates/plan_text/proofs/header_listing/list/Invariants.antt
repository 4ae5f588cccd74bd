use Rattle.plan_text.specs.Calls.{all_seen}
use Rattle.plan_text.specs.Listing.{each_once}
use Rattle.plan_text.specs.Noting.{AreKept, kept}
use Rattle.std.proofs.Common.{drop}
use Rattle.plan_text.proofs.Walking.{Walks}
use Rattle.plan_text.proofs.header_listing.list.Given as goal

abbrev pub invariant-loop-call : goal.invariant-loop-call
invariant-loop-call l = record {
  are_kept : AreKept l.calls;
  walks : Walks (kept l.calls) (all_seen (drop l.call-index l.given)) (each_once (all_seen l.given));
}
