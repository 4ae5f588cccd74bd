use Rattle.std.specs.Prelude.{◌≡◌, true, refl}
use Rattle.bus_semantics.specs.Common.{digits, false≢true, is_legal, history_of, Plan, positions}
use Rattle.bus_laws.proofs.Resting.{could}
use Rattle.bus_rows.specs.OneWriter.{one_task, ten_ticks_and_run}
use Rattle.bus_rows.specs.CoherentLists.{writes_second, two_lists, second_fetched}
use Rattle.bus_rows.proofs.RowPasts.{pasts_of}
use Rattle.bus_rows.proofs.RowRuns.{words_hold, run_of}
use Rattle.bus_rows.proofs.RowSound.{sound_of, unordered}
use Rattle.bus_rows.proofs.rows.coherent_list_publishes_what_was_written.Goals as goal

abbrev plan : Plan
plan = two_lists writes_second

legal : is_legal plan (history_of second_fetched) ≡ true
legal = refl

closed : words_hold plan one_task second_fetched ≡ true
unfolding could
closed = refl

pub returns-clause-runs : goal.returns-clause-runs
returns-clause-runs c = run_of plan one_task ten_ticks_and_run second_fetched legal closed (record { orders = refl; placed = refl; closed = refl })

pub returns-clause-spelled : goal.returns-clause-spelled
unfolding digits
returns-clause-spelled c = refl

pub returns-clause-legal : goal.returns-clause-legal
returns-clause-legal c = legal

pub returns-clause-sound : goal.returns-clause-sound
returns-clause-sound c = sound_of plan one_task refl (unordered plan one_task (λ a n w. absurd (false≢true w)))

pub returns-clause-quiet : goal.returns-clause-quiet
returns-clause-quiet c = record { none = refl; due = refl; machines = refl }

pub returns-clause-parted : goal.returns-clause-parted
returns-clause-parted c = pasts_of plan second_fetched (positions plan.objects) refl

pub returns-clause-wrong : goal.returns-clause-wrong
returns-clause-wrong c = record { before = refl; fit = refl; broken = refl }

pub returns-clause-marked : goal.returns-clause-marked
returns-clause-marked c = record { before = refl; fit = refl; broken = refl }
