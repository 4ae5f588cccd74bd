use Rattle.core_runtime.proofs.Quiet.{watch_on}
use Rattle.core_runtime.proofs.waking.quiet_entries_wake_nobody.Goals as goal

pub returns : goal.returns
returns c = λ p n t cores before later w quiet after watch.
    watch_on p n t cores before later quiet c.held_starts_lead_nowhere.ensures c.other_entries_wake_nothing.ensures c.answers_go_by_flags.ensures.held c.answers_go_by_flags.ensures.comes c.waiters_sleep_on.ensures.touched w after watch
