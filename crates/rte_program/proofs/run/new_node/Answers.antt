use Rattle.rte_program.proofs.run.new_node.Goals as goal

pub new-requires-clause-sound : goal.new-requires-clause-sound
new-requires-clause-sound c = c.requires.planned.1.is_sound
