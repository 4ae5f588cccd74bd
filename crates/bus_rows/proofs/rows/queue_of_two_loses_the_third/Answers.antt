use Rattle.std.specs.Prelude.{◌≡◌, true, refl}
use Rattle.bus_semantics.specs.Common.{digits, false≢true, is_legal, history_of, positions}
use Rattle.bus_laws.proofs.Resting.{could}
use Rattle.bus_rows.specs.Queues.{one_queue, one_event, three_sends, third_lost}
use Rattle.bus_rows.proofs.RowPasts.{pasts_of}
use Rattle.bus_rows.proofs.RowRuns.{words_hold, run_of}
use Rattle.bus_rows.proofs.RowSound.{sound_of, unordered}
use Rattle.bus_rows.proofs.rows.queue_of_two_loses_the_third.Goals as goal

legal : is_legal one_queue (history_of third_lost) ≡ true
legal = refl

closed : words_hold one_queue one_event third_lost ≡ true
unfolding could
closed = refl

pub returns-clause-runs : goal.returns-clause-runs
returns-clause-runs c = run_of one_queue one_event three_sends third_lost legal closed (record { orders = refl; placed = refl; closed = refl })

pub returns-clause-spelled : goal.returns-clause-spelled
unfolding digits
returns-clause-spelled c = refl

pub returns-clause-legal : goal.returns-clause-legal
returns-clause-legal c = legal

pub returns-clause-sound : goal.returns-clause-sound
returns-clause-sound c = sound_of one_queue one_event refl (unordered one_queue one_event (λ a n w. absurd (false≢true w)))

pub returns-clause-quiet : goal.returns-clause-quiet
returns-clause-quiet c = record { none = refl; due = refl; machines = refl }

pub returns-clause-parted : goal.returns-clause-parted
returns-clause-parted c = pasts_of one_queue third_lost (positions one_queue.objects) refl

pub returns-clause-wrong : goal.returns-clause-wrong
returns-clause-wrong c = record { before = refl; fit = refl; broken = refl }

pub returns-clause-overwritten : goal.returns-clause-overwritten
returns-clause-overwritten c = record { before = refl; fit = refl; broken = refl }

pub returns-clause-untold : goal.returns-clause-untold
returns-clause-untold c = record { before = refl; fit = refl; broken = refl }
