use Rattle.description_types.specs.declared.description.PrototypeType.TheVariants.{Component}
use Rattle.end_search.specs.Wishes.{IsEnd}
use Rattle.end_search.proofs.Wishing.{sought_begin, sought_more, sought_full, sought_all}
use Rattle.end_search.proofs.seek.note_ports.Goals as goal

pub returns-then-branch-clause-found : goal.returns-then-branch-clause-found
returns-then-branch-clause-found c = sought_full (IsEnd c.args.tree.now.d.now c.args.wish.now.wanted 0 (Component c.args.component) c.args.first) c.args.ports.now c.loop-port.port-index 0 c.args.found.now.keys c.loop-port.found.keys c.note_port.new.found.keys c.in_ok-note_port.field-0
    c.loop-port-test.true c.loop-port.invariant c.in_ok-note_port.ensures.found

pub loop-port-preserved : goal.loop-port-preserved
loop-port-preserved c = sought_more (IsEnd c.args.tree.now.d.now c.args.wish.now.wanted 0 (Component c.args.component) c.args.first) c.args.ports.now c.loop-port.port-index 0 c.args.found.now.keys c.loop-port.found.keys c.note_port.new.found.keys c.in_ok-note_port.field-0
    c.loop-port-test.true c.loop-port.invariant c.in_ok-note_port.ensures.found c.if-branch.false

pub loop-port-init : goal.loop-port-init
loop-port-init c = sought_begin (IsEnd c.args.tree.now.d.now c.args.wish.now.wanted 0 (Component c.args.component) c.args.first) c.args.ports.now c.args.found.now.keys

pub returns-clause-found : goal.returns-clause-found
returns-clause-found c = sought_all (IsEnd c.args.tree.now.d.now c.args.wish.now.wanted 0 (Component c.args.component) c.args.first) c.args.ports.now c.loop-port.port-index c.args.found.now.keys c.loop-port.found.keys c.loop-port-test.false c.loop-port.invariant
