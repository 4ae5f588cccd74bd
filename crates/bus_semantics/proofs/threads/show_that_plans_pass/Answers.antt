use denote.Exit.{no}
use denote.Param.Send.{param_send, param_sync, arg_send, arg_sync}
use Rattle.bus_semantics.proofs.Passing.{row_sent, row_shared}
use Rattle.bus_semantics.proofs.threads.show_that_plans_pass.Goals as goal

pub passes-requires-send-T : goal.passes-requires-send-T
passes-requires-send-T c κs = param_send 0 _ (arg_send _ no _ row_sent)

pub passes-requires-sync-T : goal.passes-requires-sync-T
passes-requires-sync-T c κs = param_sync 0 _ (arg_sync _ no _ row_shared)
