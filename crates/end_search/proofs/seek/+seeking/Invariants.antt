use Rattle.std.proofs.Common.{◌*◌, ◌+◌, take, false}
use Rattle.description_types.specs.Growing.{AnyOf}
use Rattle.end_search.specs.Wishes.{IsBelowPrototype, IsCutBelow, IsKnown, Sought}
use Rattle.end_search.proofs.seek.+seeking.Given as goal

abbrev pub invariant-seek_prototypes-loop-prototype : goal.invariant-seek_prototypes-loop-prototype
invariant-seek_prototypes-loop-prototype l = record {
  known : IsKnown l.tree.d.now l.wish.wanted l.known;
  cut : IsCutBelow l.wish.limit l.known.is_cut;
  sought : Sought (AnyOf (IsBelowPrototype l.tree.d.now l.wish.wanted l.depth l.composition l.inner) (take l.prototype-index l.prototype-items)) l.fn.found.keys l.found.keys false;
}

abbrev pub decreases-seek : goal.decreases-seek
decreases-seek l = 4 * l.depth

abbrev pub decreases-seek_known : goal.decreases-seek_known
decreases-seek_known l = 4 * l.depth + 1

abbrev pub decreases-seek_inner : goal.decreases-seek_inner
decreases-seek_inner l = 4 * l.depth + 2

abbrev pub decreases-seek_prototypes : goal.decreases-seek_prototypes
decreases-seek_prototypes l = 4 * l.depth + 3
