-- A plan may pass between threads, since what its runnables share may.
use denote.Param.Send.{IsSend, IsSync, sendable, recorded_send, recorded_sync}
use Rattle.std.proofs.Crossing.{crosses}
use Rattle.runnable_lang.proofs.stmt.Expr.TheLaws.TheKnot as expressions
use Rattle.runnable_lang.proofs.stmt.Stmt.TheLaws.TheKnot as statements
use Rattle.runnable_lang.specs.contracts.program.Program as program
use Rattle.runnable_lang.specs.contracts.program.Signature as signature
use Rattle.bus_semantics.specs.contracts.plan.RunnablePlan.{the_field}
use Rattle.bus_semantics.specs.contracts.plan.BusPlan as plan

program_sent : IsSend program.the_row
program_sent = recorded_send program.the_field.row _ _ program.the_type.to_one (search (crosses, expressions.crosses, statements.crosses, sendable) depth 60 fits 20000)

program_shared : IsSync program.the_row
program_shared = recorded_sync program.the_field.row _ _ program.the_type.to_one (search (crosses, expressions.crosses, statements.crosses, sendable) depth 60 fits 20000)

signature_sent : IsSend signature.the_row
signature_sent = recorded_send signature.the_field.row _ _ signature.the_type.to_one (search (crosses, sendable) depth 60 fits 20000)

signature_shared : IsSync signature.the_row
signature_shared = recorded_sync signature.the_field.row _ _ signature.the_type.to_one (search (crosses, sendable) depth 60 fits 20000)

runnable_sent : IsSend the_field.row
runnable_sent = search (program_sent, program_shared, signature_sent, signature_shared, crosses, sendable) depth 60 fits 20000

runnable_shared : IsSync the_field.row
runnable_shared = search (program_sent, program_shared, signature_sent, signature_shared, crosses, sendable) depth 60 fits 20000

plan_sent : IsSend plan.the_field.row
plan_sent = search (runnable_sent, crosses, sendable) depth 60 fits 20000

plan_shared : IsSync plan.the_field.row
plan_shared = search (runnable_shared, crosses, sendable) depth 60 fits 20000

pub row_sent : IsSend plan.the_row
row_sent = recorded_send plan.the_field.row _ _ plan.the_type.to_one plan_sent

pub row_shared : IsSync plan.the_row
row_shared = recorded_sync plan.the_field.row _ _ plan.the_type.to_one plan_shared
