use Rattle.std.specs.Prelude.{◌≡◌, true, refl}
use Rattle.bus_semantics.specs.Common.{digits, false≢true, is_legal, history_of, positions}
use Rattle.bus_laws.proofs.Resting.{could}
use Rattle.bus_rows.specs.ModeSwitch.{one_machine, three_cores, switch_and_run, switched}
use Rattle.bus_rows.proofs.RowPasts.{pasts_of}
use Rattle.bus_rows.proofs.RowRuns.{words_hold, run_of}
use Rattle.bus_rows.proofs.RowSound.{sound_of, unordered}
use Rattle.bus_rows.proofs.rows.mode_switch_on_three_cores.Goals as goal

legal : is_legal one_machine (history_of switched) ≡ true
legal = refl

closed : words_hold one_machine three_cores switched ≡ true
unfolding could
closed = refl

pub returns-clause-runs : goal.returns-clause-runs
returns-clause-runs c = run_of one_machine three_cores switch_and_run switched legal closed (record { orders = refl; placed = refl; closed = refl })

pub returns-clause-spelled : goal.returns-clause-spelled
unfolding digits
returns-clause-spelled c = refl

pub returns-clause-named : goal.returns-clause-named
unfolding digits
returns-clause-named c = refl

pub returns-clause-legal : goal.returns-clause-legal
returns-clause-legal c = legal

pub returns-clause-sound : goal.returns-clause-sound
returns-clause-sound c = sound_of one_machine three_cores refl (unordered one_machine three_cores (λ a n w. absurd (false≢true w)))

pub returns-clause-quiet : goal.returns-clause-quiet
returns-clause-quiet c = record { none = refl; due = refl; machines = refl }

pub returns-clause-parted : goal.returns-clause-parted
returns-clause-parted c = pasts_of one_machine switched (positions one_machine.objects) refl

pub returns-clause-wrong : goal.returns-clause-wrong
returns-clause-wrong c = record { before = refl; fit = refl; broken = refl }

pub returns-clause-disabled : goal.returns-clause-disabled
returns-clause-disabled c = record { before = refl; fit = refl; broken = refl }

pub returns-clause-remembered : goal.returns-clause-remembered
returns-clause-remembered c = record { before = refl; fit = refl; broken = refl }
