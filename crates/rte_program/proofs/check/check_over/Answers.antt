use Rattle.rte_program.proofs.check.check_over.Goals as goal

pub check_trace-requires : goal.check_trace-requires
check_trace-requires c = record { sound = c.requires.2.described.is_sound }
