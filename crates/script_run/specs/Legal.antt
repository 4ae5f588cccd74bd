-- Legal runs that go on from a history: runs of scripts are this project's own.
use Rattle.std.specs.Prelude.{◌≡◌, [], ◌∷◌, ◌++◌, true, nat_le}
use Rattle.bus_semantics.specs.declared.script.Mapping.{Mapping}
use Rattle.bus_semantics.specs.Common.{Plan, History, MayFollow, IsIdle, Closing, idle, unsettled, Session, made, run_begins, run_closes, history_of, is_inside, made_in_line}

-- `idle` holds at rest if no activation runs; `unsettled` if runnables and machines made at least 100,000 entries since the mark
abbrev pub HoldsFrom : Plan → Mapping → History → Session → Closing → Type 0
HoldsFrom p m h s idle = IsIdle p m (history_of s ++ h)
HoldsFrom p m h s unsettled = nat_le 100000 (made_in_line s) ≡ true

-- a legal run that goes on from a history: each entry may follow those before it, and each closing word holds inside its run line
abbrev pub IsLegalFrom : Plan → Mapping → History → Session → Type 0
IsLegalFrom p m h [] = Unit {0}
IsLegalFrom p m h (made e ∷ s) = IsLegalFrom p m h s × MayFollow p (history_of s ++ h) e
IsLegalFrom p m h (run_begins ∷ s) = IsLegalFrom p m h s
IsLegalFrom p m h (run_closes word ∷ s) = IsLegalFrom p m h s × (is_inside s ≡ true) × HoldsFrom p m h s word
