-- What closes a run line with `idle` leaves nothing undone (SWS_RTE: activation of runnables, mode switches).
use Rattle.std.specs.Prelude.{[], ◌∷◌, ◌++◌}
use Rattle.bus_semantics.specs.Common.{Plan, History, IsQuiet, Closing, idle, unsettled, Session, made, run_begins, run_closes, history_of}

-- at the word `idle` no activation runs, no event is due, and each mode machine is stable and has begun every accepted switch
abbrev pub IsQuietAt : Plan → History → Closing → Type 0
IsQuietAt p h idle = IsQuiet p h
IsQuietAt p h unsettled = Unit {0}

-- so it is at each closing word of a run that goes on from a history
abbrev pub IdlesAreQuiet : Plan → History → Session → Type 0
IdlesAreQuiet p h [] = Unit {0}
IdlesAreQuiet p h (made e ∷ s) = IdlesAreQuiet p h s
IdlesAreQuiet p h (run_begins ∷ s) = IdlesAreQuiet p h s
IdlesAreQuiet p h (run_closes word ∷ s) = IdlesAreQuiet p h s × IsQuietAt p (history_of s ++ h) word
