use Rattle.std.specs.Prelude.{◌≡◌, true, refl}
use Rattle.bus_semantics.specs.Common.{digits, false≢true, is_legal, history_of, positions}
use Rattle.bus_laws.proofs.Resting.{could}
use Rattle.bus_rows.specs.AcknowledgedSwitch.{one_provider, provider_task, only_run, acknowledged}
use Rattle.bus_rows.proofs.RowPasts.{pasts_of}
use Rattle.bus_rows.proofs.RowRuns.{words_hold, run_of}
use Rattle.bus_rows.proofs.RowSound.{sound_of, unordered}
use Rattle.bus_rows.proofs.rows.acknowledged_mode_switch.Goals as goal

legal : is_legal one_provider (history_of acknowledged) ≡ true
legal = refl

closed : words_hold one_provider provider_task acknowledged ≡ true
unfolding could
closed = refl

pub returns-clause-runs : goal.returns-clause-runs
returns-clause-runs c = run_of one_provider provider_task only_run acknowledged legal closed (record { orders = refl; placed = refl; closed = refl })

pub returns-clause-spelled : goal.returns-clause-spelled
unfolding digits
returns-clause-spelled c = refl

pub returns-clause-legal : goal.returns-clause-legal
returns-clause-legal c = legal

pub returns-clause-sound : goal.returns-clause-sound
returns-clause-sound c = sound_of one_provider provider_task refl (unordered one_provider provider_task (λ a n w. absurd (false≢true w)))

pub returns-clause-quiet : goal.returns-clause-quiet
returns-clause-quiet c = record { none = refl; due = refl; machines = refl }

pub returns-clause-parted : goal.returns-clause-parted
returns-clause-parted c = pasts_of one_provider acknowledged (positions one_provider.objects) refl

pub returns-clause-wrong : goal.returns-clause-wrong
returns-clause-wrong c = record { before = refl; fit = refl; broken = refl }

pub returns-clause-early : goal.returns-clause-early
returns-clause-early c = record { before = refl; fit = refl; broken = refl }

pub returns-clause-again : goal.returns-clause-again
returns-clause-again c = record { before = refl; fit = refl; broken = refl }
