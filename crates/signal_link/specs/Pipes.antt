-- A pipe, and what it does at a call.
use Rattle.std.specs.Prelude.{◌≡◌, ◌<◌, ◌-◌, ◌%◌, ℕ, List, [], ◌++◌, length, take, drop, min, slice_index, Bool, true, ◌==◌, nat_le, if◌then◌else◌}
use Rattle.std.specs.List.{list_all, list_any}
use Rattle.rte_text.specs.Counts.{raised}
use Rattle.signal_link.specs.declared.link.Sent.{Sent}
use Rattle.signal_link.specs.declared.link.Sent.TheVariants as sent
use Rattle.signal_link.specs.declared.link.Got.{Got}
use Rattle.signal_link.specs.declared.link.Got.TheVariants as got

pub record Pipe : Type 0 where
  -- the bytes on the way, and how many may be
  pub way : List ℕ
  pub room : ℕ
  -- how many bytes a `receive` gives at most: each in turn, and then again from the first
  pub cuts : List ℕ
  -- the calls that fail, by number
  pub fails : List ℕ
  -- how many calls were made, how many of these were a `receive`, and the count of faults
  pub calls : ℕ
  pub receives : ℕ
  pub faults : ℕ

-- some cut, and each of at least one byte
pub record AreCuts (cuts : List ℕ) : Type 0 where
  pub some : 0 < length cuts
  pub each : list_all (nat_le 1) cuts ≡ true

abbrev pub new_pipe : (room : ℕ) → (cuts fails : List ℕ) → Pipe
new_pipe room cuts fails = record { way = []; room = room; cuts = cuts; fails = fails; calls = 0; receives = 0; faults = 0 }

abbrev pub never_fails : Pipe → Bool
never_fails p = nat_le (length p.fails) 0

-- the next call fails
abbrev pub fails_next : Pipe → Bool
fails_next p = list_any (λ n. n == p.calls) p.fails

-- one call more, and one fault more if it failed
abbrev pub counted : (failed : Bool) → Pipe → Pipe
counted failed p = record p { calls = raised p.calls; faults = if failed then raised p.faults else p.faults }

-- ---- send: what there is room for

abbrev pub taken_of : Pipe → (piece : List ℕ) → ℕ
taken_of p piece = min (length piece) (p.room - length p.way)

abbrev pub sent_of : Pipe → (piece : List ℕ) → Sent
sent_of p piece = if fails_next p then sent.Failed else sent.Took (taken_of p piece)

abbrev pub after_send : Pipe → (piece : List ℕ) → Pipe
after_send p piece = if fails_next p
    then record p { calls = raised p.calls; faults = raised p.faults }
    else record p { way = p.way ++ take (taken_of p piece) piece; calls = raised p.calls }

-- ---- receive: what is on the way, up to the cut

abbrev pub cut_of : Pipe → ℕ
cut_of p = slice_index p.cuts (p.receives % length p.cuts)

abbrev pub given_of : Pipe → (room : List ℕ) → ℕ
given_of p room = min (min (length room) (cut_of p)) (length p.way)

abbrev pub got_of : Pipe → (room : List ℕ) → Got
got_of p room = if fails_next p then got.Failed else got.Gave (given_of p room)

abbrev pub filled_by : Pipe → (room : List ℕ) → List ℕ
filled_by p room = if fails_next p then room else take (given_of p room) p.way ++ drop (given_of p room) room

abbrev pub after_receive : Pipe → (room : List ℕ) → Pipe
after_receive p room = if fails_next p
    then record p { calls = raised p.calls; receives = raised p.receives; faults = raised p.faults }
    else record p { way = drop (given_of p room) p.way; calls = raised p.calls; receives = raised p.receives }
