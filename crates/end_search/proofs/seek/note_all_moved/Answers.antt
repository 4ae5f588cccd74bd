use Rattle.std.proofs.Common.{◌≡◌}
use Rattle.composition_tables.specs.declared.tree.PortEnd.{PortEnd}
use Rattle.end_search.specs.Wishes.{end_from}
use Rattle.end_search.proofs.Lookups.{no_end}
use Rattle.end_search.proofs.Wishing.{sought_begin, sought_more, sought_full, sought_all}
use Rattle.end_search.proofs.seek.note_all_moved.Goals as goal

pub returns-then-branch-clause-found : goal.returns-then-branch-clause-found
returns-then-branch-clause-found c = sought_full (λ (y x : PortEnd). x ≡ end_from c.args.first y) c.args.ends.now c.loop-end.end-index no_end c.args.found.now.keys c.loop-end.found.keys c.note_moved.new.found.keys c.in_ok-note_moved.field-0
    c.loop-end-test.true c.loop-end.invariant c.in_ok-note_moved.ensures.found

pub loop-end-preserved : goal.loop-end-preserved
loop-end-preserved c = sought_more (λ (y x : PortEnd). x ≡ end_from c.args.first y) c.args.ends.now c.loop-end.end-index no_end c.args.found.now.keys c.loop-end.found.keys c.note_moved.new.found.keys c.in_ok-note_moved.field-0
    c.loop-end-test.true c.loop-end.invariant c.in_ok-note_moved.ensures.found c.if-branch.false

pub loop-end-init : goal.loop-end-init
loop-end-init c = sought_begin (λ (y x : PortEnd). x ≡ end_from c.args.first y) c.args.ends.now c.args.found.now.keys

pub returns-clause-found : goal.returns-clause-found
returns-clause-found c = sought_all (λ (y x : PortEnd). x ≡ end_from c.args.first y) c.args.ends.now c.loop-end.end-index c.args.found.now.keys c.loop-end.found.keys c.loop-end-test.false c.loop-end.invariant
