use Rattle.composition_tables.proofs.Reaching.{search_begins, search_goes, search_ends, search_shrinks}
use Rattle.composition_tables.proofs.reach.reached.Goals as goal

pub loop-holder-init : goal.loop-holder-init
loop-holder-init c = search_begins c.args.d.now c.args.starts.keys c.requires

pub returns-in-None : goal.returns-in-None
returns-in-None c = search_ends c.args.d.now c.args.starts.keys c.loop-holder.found.keys c.loop-holder.next c.loop-holder.invariant cc

pub loop-holder-smaller : goal.loop-holder-smaller
loop-holder-smaller c = search_shrinks c.args.d.now c.args.starts.keys c.loop-holder.found.keys c.loop-holder.next c.in-Some.holder c.loop-holder.invariant (cc) c.as_slice.ensures.unique

pub loop-holder-preserved : goal.loop-holder-preserved
loop-holder-preserved c = search_goes c.args.d.now c.args.starts.keys c.loop-holder.found.keys c.add_held.new.found.keys c.loop-holder.next c.in-Some.holder c.loop-holder.invariant (cc) c.in_ok-add_held-in-Some.ensures
