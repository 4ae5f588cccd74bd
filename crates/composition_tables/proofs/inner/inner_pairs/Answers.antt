use Rattle.std.proofs.Common.{List, ◌↔◌, ◌⊎◌, subst}
use Rattle.std.specs.List.{flat_map}
use Rattle.std.proofs.lemmas.List.{take_all}
use Rattle.description_types.specs.declared.description.InnerPort.{InnerPort}
use Rattle.composition_tables.specs.Ends.{inner_ports}
use Rattle.description_types.specs.Members.{Among}
use Rattle.composition_tables.specs.Inner.{port_of}
use Rattle.composition_tables.proofs.Following.{taken_more}
use Rattle.composition_tables.proofs.Stepping.{step_plain}
use Rattle.composition_tables.proofs.inner.inner_pairs.Goals as goal

pub loop-port-init : goal.loop-port-init
loop-port-init c = λ k. ((λ a. absurd (subst (Among k) c.new-found.ensures.empty a)), (λ a. absurd a))

pub loop-port-preserved : goal.loop-port-preserved
loop-port-preserved c = λ k. step_plain _ _ _ _ _
    (subst (λ (l : List InnerPort). Among k c.note_all.new.found.keys ↔ (Among k c.loop-port.found.keys ⊎ Among (port_of k) l)) c.inner_ports.ensures (c.in_ok-note_all.ensures k))
    (c.loop-port.invariant k) (taken_more (inner_ports c.args.tree.now.d.now c.args.composition) c.args.ports.now c.loop-port.port-index 0 (port_of k) c.loop-port-test.true)

pub returns : goal.returns
returns c = λ k. subst (λ l. Among k c.loop-port.found.keys ↔ Among (port_of k) (flat_map (inner_ports c.args.tree.now.d.now c.args.composition) l)) (take_all c.loop-port.port-index c.args.ports.now c.loop-port-test.false) (c.loop-port.invariant k)
