-- Bodies may be shared with other threads, since each of their parts may, and the code that they share may pass between them.
use denote.Param.Send.{IsSend, IsSync, sendable, recorded_send, recorded_sync}
use Rattle.std.proofs.Crossing.{crosses}
use Rattle.runnable_lang.proofs.stmt.Expr.TheLaws.TheKnot as expressions
use Rattle.task_machine.specs.contracts.given.GivenWord as word
use Rattle.task_machine.specs.contracts.given.Given as given
use Rattle.task_machine.specs.contracts.returned.Returned as returned
use Rattle.task_machine.specs.contracts.instr.Request as request
use Rattle.task_machine.specs.contracts.instr.Taken as taken
use Rattle.task_machine.specs.contracts.instr.Instr as instr
use Rattle.task_machine.specs.contracts.instr.Code as code
use Rattle.task_machine.specs.contracts.instr.Targets as targets
use Rattle.task_machine.specs.contracts.instr.Body as body
use Rattle.task_machine.specs.contracts.instr.TaskSet as bodies

word_sent : IsSend word.the_field.row
word_sent = search (crosses, expressions.crosses, sendable) depth 60 fits 20000

word_shared : IsSync word.the_field.row
word_shared = search (crosses, expressions.crosses, sendable) depth 60 fits 20000

given_sent : IsSend given.the_field.row
given_sent = search (word_sent, crosses, sendable) depth 60 fits 20000

given_shared : IsSync given.the_field.row
given_shared = search (word_shared, crosses, sendable) depth 60 fits 20000

returned_sent : IsSend returned.the_field.row
returned_sent = search (crosses, sendable) depth 60 fits 20000

returned_shared : IsSync returned.the_field.row
returned_shared = search (crosses, sendable) depth 60 fits 20000

request_sent : IsSend request.the_field.row
request_sent = search (given_sent, returned_sent, crosses, sendable) depth 60 fits 20000

request_shared : IsSync request.the_field.row
request_shared = search (given_shared, returned_shared, crosses, sendable) depth 60 fits 20000

taken_sent : IsSend taken.the_field.row
taken_sent = search (crosses, sendable) depth 60 fits 20000

taken_shared : IsSync taken.the_field.row
taken_shared = search (crosses, sendable) depth 60 fits 20000

instr_sent : IsSend instr.the_field.row
instr_sent = search (given_sent, request_sent, taken_sent, expressions.crosses, crosses, sendable) depth 60 fits 20000

instr_shared : IsSync instr.the_field.row
instr_shared = search (given_shared, request_shared, taken_shared, expressions.crosses, crosses, sendable) depth 60 fits 20000

code_sent : IsSend code.the_row
code_sent = recorded_send code.the_field.row _ _ code.the_type.to_one (search (instr_sent, crosses, sendable) depth 60 fits 20000)

code_shared : IsSync code.the_row
code_shared = recorded_sync code.the_field.row _ _ code.the_type.to_one (search (instr_shared, crosses, sendable) depth 60 fits 20000)

targets_shared : IsSync targets.the_field.row
targets_shared = search (crosses, sendable) depth 60 fits 20000

body_shared : IsSync body.the_field.row
body_shared = search (instr_shared, code_sent, code_shared, targets_shared, crosses, sendable) depth 60 fits 20000

set_shared : IsSync bodies.the_field.row
set_shared = search (body_shared, crosses, sendable) depth 60 fits 20000

pub bodies_shared : IsSync bodies.the_row
bodies_shared = recorded_sync bodies.the_field.row _ _ bodies.the_type.to_one set_shared
