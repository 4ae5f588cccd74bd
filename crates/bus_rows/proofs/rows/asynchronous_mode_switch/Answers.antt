use Rattle.std.specs.Prelude.{◌≡◌, true, refl}
use Rattle.bus_semantics.specs.Common.{digits, false≢true, is_legal, history_of, positions}
use Rattle.bus_laws.proofs.Resting.{could}
use Rattle.bus_rows.specs.WaitingSwitch.{not_waiting, user_and_boss_tasks, run_and_ticks, went_on}
use Rattle.bus_rows.proofs.RowPasts.{pasts_of}
use Rattle.bus_rows.proofs.RowRuns.{words_hold, run_of}
use Rattle.bus_rows.proofs.RowSound.{sound_of, unordered}
use Rattle.bus_rows.proofs.rows.asynchronous_mode_switch.Goals as goal

legal : is_legal not_waiting (history_of went_on) ≡ true
legal = refl

closed : words_hold not_waiting user_and_boss_tasks went_on ≡ true
unfolding could
closed = refl

pub returns-clause-runs : goal.returns-clause-runs
returns-clause-runs c = run_of not_waiting user_and_boss_tasks run_and_ticks went_on legal closed (record { orders = refl; placed = refl; closed = refl })

pub returns-clause-spelled : goal.returns-clause-spelled
unfolding digits
returns-clause-spelled c = refl

pub returns-clause-legal : goal.returns-clause-legal
returns-clause-legal c = legal

pub returns-clause-sound : goal.returns-clause-sound
returns-clause-sound c = sound_of not_waiting user_and_boss_tasks refl (unordered not_waiting user_and_boss_tasks (λ a n w. absurd (false≢true w)))

pub returns-clause-quiet : goal.returns-clause-quiet
returns-clause-quiet c = record { none = refl; due = refl; machines = refl }

pub returns-clause-parted : goal.returns-clause-parted
returns-clause-parted c = pasts_of not_waiting went_on (positions not_waiting.objects) refl

pub returns-clause-wrong : goal.returns-clause-wrong
returns-clause-wrong c = record { before = refl; fit = refl; broken = refl }
