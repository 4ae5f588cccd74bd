use denote.Exit.{no}
use denote.Param.Send.{param_sync, arg_sync}
use Rattle.bus_semantics.proofs.Passing.{row_shared}
use Rattle.core_lanes.proofs.Passing.{bodies_shared}
use Rattle.core_lanes.proofs.threads.show_what_passes.Goals as goal

pub is_shared-requires-sync-T : goal.is_shared-requires-sync-T
is_shared-requires-sync-T c κs = param_sync 0 _ (arg_sync _ no _ row_shared)

pub is_shared-requires-2-sync-T : goal.is_shared-requires-2-sync-T
is_shared-requires-2-sync-T c κs = param_sync 0 _ (arg_sync _ no _ bodies_shared)
