use Rattle.std.specs.Prelude.{◌≡◌, ℕ, ◌<◌, true, ◌&&◌, ◌==◌, refl}
use Rattle.std.proofs.Common.{arith}
use Rattle.bus_semantics.specs.Common.{or-false, WaitOrder, digits, and_parts, eqb-true, is_legal, history_of, positions}
use Rattle.bus_laws.proofs.Resting.{could}
use Rattle.bus_rows.specs.OneWriter.{ten_ticks_and_run}
use Rattle.bus_rows.specs.QueuedCalls.{two_clients, clients_and_server, served_in_turn}
use Rattle.bus_rows.proofs.RowPasts.{pasts_of}
use Rattle.bus_rows.proofs.RowRuns.{words_hold, run_of}
use Rattle.bus_rows.proofs.RowSound.{sound_of}
use Rattle.bus_rows.proofs.rows.server_serves_in_the_order_of_calls.Goals as goal

legal : is_legal two_clients (history_of served_in_turn) ≡ true
legal = refl

closed : words_hold two_clients clients_and_server served_in_turn ≡ true
unfolding could
closed = refl

-- the client's task is the first one and the server's the third
after : (a c : ℕ) → ((0 == a) && (2 == c)) ≡ true → a < c
after a c w =
    let b = and_parts (0 == a) (2 == c) w in
    let first = eqb-true 0 a b.0 in
    let third = eqb-true 2 c b.1 in
    omega arith

in_order : WaitOrder two_clients clients_and_server
in_order = record { rank = λ t. t; later = λ a c w. after a c (simp or-false at w) }

pub returns-clause-runs : goal.returns-clause-runs
returns-clause-runs c = run_of two_clients clients_and_server ten_ticks_and_run served_in_turn legal closed (record { orders = refl; placed = refl; closed = refl })

pub returns-clause-spelled : goal.returns-clause-spelled
unfolding digits
returns-clause-spelled c = refl

pub returns-clause-legal : goal.returns-clause-legal
returns-clause-legal c = legal

pub returns-clause-sound : goal.returns-clause-sound
returns-clause-sound c = sound_of two_clients clients_and_server refl in_order

pub returns-clause-quiet : goal.returns-clause-quiet
returns-clause-quiet c = record { none = refl; due = refl; machines = refl }

pub returns-clause-parted : goal.returns-clause-parted
returns-clause-parted c = pasts_of two_clients served_in_turn (positions two_clients.objects) refl

pub returns-clause-wrong : goal.returns-clause-wrong
returns-clause-wrong c = record { before = refl; fit = refl; broken = refl }

pub returns-clause-early : goal.returns-clause-early
returns-clause-early c = record { before = refl; fit = refl; broken = refl }

pub returns-clause-told : goal.returns-clause-told
returns-clause-told c = record { before = refl; fit = refl; broken = refl }
