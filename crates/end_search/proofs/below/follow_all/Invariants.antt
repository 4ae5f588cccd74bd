use Rattle.std.proofs.Common.{◌-◌, ◌^◌}
use Rattle.end_search.specs.Below.{Stays, IsSearching}
use Rattle.end_search.proofs.below.follow_all.Given as goal

abbrev pub invariant-loop-position : goal.invariant-loop-position
invariant-loop-position l = record {
  stays : Stays l.fn.search l.search;
  searching : IsSearching l.tree.d.now l.search l.position;
}

abbrev pub decreases-loop-position : goal.decreases-loop-position
decreases-loop-position l = 2 ^ 64 - l.position
