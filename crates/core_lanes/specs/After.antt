-- A history and entries that follow it.
use Rattle.std.specs.Prelude.{List, [], ◌∷◌, Bool, not, filter}
use Rattle.bus_semantics.specs.Common.{list_all, History, is_environment}
use Rattle.bus_semantics.specs.declared.entries.Stamped.{Stamped}

-- the history and then these entries, of which the oldest comes first
abbrev pub after : List Stamped → History → History
after [] h = h
after (s ∷ more) h = after more (s.entry ∷ h)

-- runnables and machines made them all
abbrev pub is_within : Stamped → Bool
is_within s = not (is_environment s.entry.actor)

abbrev pub are_within : List Stamped → Bool
are_within entries = list_all is_within entries

-- the environment made it
abbrev pub is_outside : Stamped → Bool
is_outside s = is_environment s.entry.actor

-- the environment's among these, in their order
abbrev pub calls_in : List Stamped → List Stamped
calls_in entries = filter is_outside entries
