use Rattle.std.specs.Prelude.{◌≡◌, true, refl}
use Rattle.bus_semantics.specs.Common.{digits, false≢true, or-false, is_legal, history_of, positions}
use Rattle.std.proofs.Math.Bool.{and-false}
use Rattle.bus_laws.proofs.Resting.{could}
use Rattle.bus_rows.specs.OneWriter.{ten_ticks_and_run}
use Rattle.bus_rows.specs.DirectCall.{direct_server, caller_task, served_within}
use Rattle.bus_rows.proofs.RowPasts.{pasts_of}
use Rattle.bus_rows.proofs.RowRuns.{words_hold, run_of}
use Rattle.bus_rows.proofs.RowSound.{sound_of, unordered}
use Rattle.bus_rows.proofs.rows.direct_server_runs_within_its_call.Goals as goal

legal : is_legal direct_server (history_of served_within) ≡ true
legal = refl

closed : words_hold direct_server caller_task served_within ≡ true
unfolding could
closed = refl

pub returns-clause-runs : goal.returns-clause-runs
returns-clause-runs c = run_of direct_server caller_task ten_ticks_and_run served_within legal closed (record { orders = refl; placed = refl; closed = refl })

pub returns-clause-spelled : goal.returns-clause-spelled
unfolding digits
returns-clause-spelled c = refl

pub returns-clause-legal : goal.returns-clause-legal
returns-clause-legal c = legal

pub returns-clause-sound : goal.returns-clause-sound
returns-clause-sound c = sound_of direct_server caller_task refl (unordered direct_server caller_task (λ a n w. absurd (false≢true (simp (and-false, or-false) at w))))

pub returns-clause-quiet : goal.returns-clause-quiet
returns-clause-quiet c = record { none = refl; due = refl; machines = refl }

pub returns-clause-parted : goal.returns-clause-parted
returns-clause-parted c = pasts_of direct_server served_within (positions direct_server.objects) refl

pub returns-clause-wrong : goal.returns-clause-wrong
returns-clause-wrong c = record { before = refl; fit = refl; broken = refl }

pub returns-clause-crossed : goal.returns-clause-crossed
returns-clause-crossed c = record { before = refl; fit = refl; broken = refl }
