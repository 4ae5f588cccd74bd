use Rattle.std.specs.Prelude.{◌≡◌, true, refl}
use Rattle.bus_semantics.specs.Common.{digits, false≢true, is_legal, history_of, Plan, positions}
use Rattle.bus_laws.proofs.Resting.{could}
use Rattle.bus_rows.specs.OneWriter.{one_task, ten_ticks_and_run}
use Rattle.bus_rows.specs.CoherentLists.{writes_both, two_lists, listed_twice, both_fetched}
use Rattle.bus_rows.proofs.RowPasts.{pasts_of}
use Rattle.bus_rows.proofs.RowRuns.{words_hold, run_of}
use Rattle.bus_rows.proofs.RowSound.{lacks, sound_of, unordered}
use Rattle.bus_rows.proofs.rows.coherent_list_is_fetched_at_one_moment.Goals as goal

abbrev plan : Plan
plan = two_lists writes_both

legal : is_legal plan (history_of both_fetched) ≡ true
legal = refl

closed : words_hold plan one_task both_fetched ≡ true
unfolding could
closed = refl

pub returns-clause-runs : goal.returns-clause-runs
returns-clause-runs c = run_of plan one_task ten_ticks_and_run both_fetched legal closed (record { orders = refl; placed = refl; closed = refl })

pub returns-clause-spelled : goal.returns-clause-spelled
unfolding digits
returns-clause-spelled c = refl

pub returns-clause-legal : goal.returns-clause-legal
returns-clause-legal c = legal

pub returns-clause-sound : goal.returns-clause-sound
returns-clause-sound c = sound_of plan one_task refl (unordered plan one_task (λ a n w. absurd (false≢true w)))

pub returns-clause-quiet : goal.returns-clause-quiet
returns-clause-quiet c = record { none = refl; due = refl; machines = refl }

pub returns-clause-parted : goal.returns-clause-parted
returns-clause-parted c = pasts_of plan both_fetched (positions plan.objects) refl

pub returns-clause-twice : goal.returns-clause-twice
returns-clause-twice c = lacks _ listed_twice one_task refl (unordered listed_twice one_task (λ a n w. absurd (false≢true w)))

pub returns-clause-wrong : goal.returns-clause-wrong
returns-clause-wrong c = record { before = refl; fit = refl; broken = refl }

pub returns-clause-too_few : goal.returns-clause-too_few
returns-clause-too_few c = record { before = refl; fit = refl; broken = refl }

pub returns-clause-one_by_one : goal.returns-clause-one_by_one
returns-clause-one_by_one c = record { before = refl; fit = refl; broken = refl }

pub returns-clause-first : goal.returns-clause-first
returns-clause-first c = record { before = refl; fit = refl; broken = refl }

pub returns-clause-unpublished : goal.returns-clause-unpublished
returns-clause-unpublished c = record { before = refl; fit = refl; broken = refl }

pub returns-clause-crossed : goal.returns-clause-crossed
returns-clause-crossed c = record { before = refl; fit = refl; broken = refl }

pub returns-clause-alone : goal.returns-clause-alone
returns-clause-alone c = record { before = refl; fit = refl; broken = refl }

pub returns-clause-short : goal.returns-clause-short
returns-clause-short c = refl

pub returns-clause-past : goal.returns-clause-past
returns-clause-past c = refl

pub returns-clause-foreign : goal.returns-clause-foreign
returns-clause-foreign c = refl

pub returns-clause-other_kind : goal.returns-clause-other_kind
returns-clause-other_kind c = refl
