use Rattle.trace_reading.specs.declared.checked.Checked.TheVariants.{Legal}
use Rattle.rte_program.proofs.Ran.{is_legal}
use Rattle.rte_program.proofs.laws.runs_are_legal_traces.Goals as goal

pub returns-clause-legal : goal.returns-clause-legal
returns-clause-legal c = is_legal

pub returns-clause-only : goal.returns-clause-only
returns-clause-only c = λ p m script text sound run verdict is.
    c.traces_have_one_verdict.ensures p m sound script text verdict Legal is (is_legal p m script text run)
