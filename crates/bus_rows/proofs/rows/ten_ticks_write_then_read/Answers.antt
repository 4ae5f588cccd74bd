use Rattle.std.specs.Prelude.{◌≡◌, true, refl}
use Rattle.bus_semantics.specs.Common.{digits, false≢true, is_legal, history_of, positions}
use Rattle.bus_laws.proofs.Computing.{followed}
use Rattle.bus_laws.proofs.Resting.{could}
use Rattle.bus_rows.specs.RowParts.{act_of, start, ten_ticks}
use Rattle.bus_rows.specs.OneWriter.{one_writer, one_task, ten_ticks_and_run, written_then_read}
use Rattle.bus_rows.proofs.RowPasts.{pasts_of}
use Rattle.bus_rows.proofs.RowRuns.{words_hold, run_of}
use Rattle.bus_rows.proofs.RowSound.{sound_of, unordered}
use Rattle.bus_rows.proofs.rows.ten_ticks_write_then_read.Goals as goal

legal : is_legal one_writer (history_of written_then_read) ≡ true
legal = refl

closed : words_hold one_writer one_task written_then_read ≡ true
unfolding could
closed = refl

pub returns-clause-runs : goal.returns-clause-runs
returns-clause-runs c = run_of one_writer one_task ten_ticks_and_run written_then_read legal closed (record { orders = refl; placed = refl; closed = refl })

pub returns-clause-spelled : goal.returns-clause-spelled
unfolding digits
returns-clause-spelled c = refl

pub returns-clause-legal : goal.returns-clause-legal
returns-clause-legal c = legal

pub returns-clause-sound : goal.returns-clause-sound
returns-clause-sound c = sound_of one_writer one_task refl (unordered one_writer one_task (λ a n w. absurd (false≢true w)))

pub returns-clause-quiet : goal.returns-clause-quiet
returns-clause-quiet c = record { none = refl; due = refl; machines = refl }

pub returns-clause-parted : goal.returns-clause-parted
returns-clause-parted c = pasts_of one_writer written_then_read (positions one_writer.objects) refl

pub returns-clause-wrong : goal.returns-clause-wrong
returns-clause-wrong c = record { before = refl; fit = refl; broken = refl }

-- the writer's start may follow
pub returns-clause-early : goal.returns-clause-early
returns-clause-early c rest = rest.0 (act_of 0 (start 0)) refl (followed one_writer (history_of ten_ticks) (act_of 0 (start 0)) refl)
