use Rattle.std.specs.Prelude.{◌≡◌, true, refl}
use Rattle.bus_semantics.specs.Common.{digits, false≢true, is_legal, history_of, positions}
use Rattle.bus_laws.proofs.Resting.{could}
use Rattle.bus_rows.specs.OneWriter.{ten_ticks_and_run}
use Rattle.bus_rows.specs.AreaHeld.{two_counters, two_cores, both_counted}
use Rattle.bus_rows.proofs.RowPasts.{pasts_of}
use Rattle.bus_rows.proofs.RowRuns.{words_hold, run_of}
use Rattle.bus_rows.proofs.RowSound.{sound_of, unordered}
use Rattle.bus_rows.proofs.rows.area_is_held_until_it_is_left.Goals as goal

legal : is_legal two_counters (history_of both_counted) ≡ true
legal = refl

closed : words_hold two_counters two_cores both_counted ≡ true
unfolding could
closed = refl

pub returns-clause-runs : goal.returns-clause-runs
returns-clause-runs c = run_of two_counters two_cores ten_ticks_and_run both_counted legal closed (record { orders = refl; placed = refl; closed = refl })

pub returns-clause-spelled : goal.returns-clause-spelled
unfolding digits
returns-clause-spelled c = refl

pub returns-clause-legal : goal.returns-clause-legal
returns-clause-legal c = legal

pub returns-clause-sound : goal.returns-clause-sound
returns-clause-sound c = sound_of two_counters two_cores refl (unordered two_counters two_cores (λ a n w. absurd (false≢true w)))

pub returns-clause-quiet : goal.returns-clause-quiet
returns-clause-quiet c = record { none = refl; due = refl; machines = refl }

pub returns-clause-parted : goal.returns-clause-parted
returns-clause-parted c = pasts_of two_counters both_counted (positions two_counters.objects) refl

pub returns-clause-wrong : goal.returns-clause-wrong
returns-clause-wrong c = record { before = refl; fit = refl; broken = refl }
