-- A sink in memory, and what it does at a call.
use Rattle.std.specs.Prelude.{ℕ, ◌-◌, ◌==◌, ◌&&◌, ◌++◌, List, length, take, find, min, nat_le, Option, option_map, is_none, if◌then◌else◌}
use Rattle.std.specs.Option.{option_map_or}
use Rattle.rte_text.specs.Counts.{raised}
use Rattle.rte_text.specs.declared.sink.Put.{Put}
use Rattle.rte_text.specs.declared.sink.Put.TheVariants.{Done, Failed}

-- the bytes taken, how many there is room for, the calls that fail with how many bytes each takes, the number of calls so far, and the count of faults
pub record HeldBytes : Type 0 where
  pub told : List ℕ
  pub room : ℕ
  pub fails : List (ℕ × ℕ)
  pub calls : ℕ
  pub faults : ℕ

-- how many bytes the next call takes at most, if it is one that fails
abbrev pub next_stop : HeldBytes → Option ℕ
next_stop s = option_map (λ fail. fail.1) (find (λ fail. fail.0 == s.calls) s.fails)

-- how many bytes there is room for yet
abbrev pub room_left : HeldBytes → ℕ
room_left s = s.room - length s.told

-- how many bytes of the piece the next call takes: what fits, up to where it stops
abbrev pub taken_of : HeldBytes → List ℕ → ℕ
taken_of s piece = let fitting = min (length piece) (room_left s) in option_map_or (min fitting) (next_stop s) fitting

-- the answer to the next call: done if the call does not fail and the piece fits
abbrev pub put_answer : HeldBytes → List ℕ → Put
put_answer s piece = if is_none (next_stop s) && nat_le (length piece) (room_left s) then Done else Failed

-- one more in the answer's count
abbrev pub sink_faults : HeldBytes → Put → ℕ
sink_faults s Done = s.faults
sink_faults s Failed = raised s.faults

-- the sink after a call
abbrev pub put_next : HeldBytes → List ℕ → HeldBytes
put_next s piece = record s { told = s.told ++ take (taken_of s piece) piece; calls = raised s.calls; faults = sink_faults s (put_answer s piece) }
