-- Scripts that receive nothing from some elements, which are reserved: what comes there is somebody else's. Scripts are this project's own.
use Rattle.std.specs.Prelude.{ℕ, List, Bool, false, not, get_or, if◌then◌else◌}
use Rattle.bus_semantics.specs.Common.{Plan, Letters, to_receive}
use Rattle.script_reading.specs.Meaning.{Asked, a_call, Saying, asks, is_bad, no_such, saying}

-- of those past the end of the list none is reserved
abbrev pub takes_reserved : (reserved : List Bool) → Asked → Bool
takes_reserved reserved (a_call (to_receive x)) = get_or reserved x false
takes_reserved reserved _ = false

abbrev pub is_reserved : (reserved : List Bool) → Saying → Bool
is_reserved reserved (asks a) = takes_reserved reserved a
is_reserved reserved _ = false

-- for a script there is no such element
abbrev pub around : (reserved : List Bool) → Saying → Saying
around reserved s = if is_reserved reserved s then is_bad no_such else s

abbrev pub saying_around : Plan → (reserved : List Bool) → Letters → Saying
saying_around p reserved t = around reserved (saying p t)

-- all but those that receive from a reserved element
abbrev pub keeps_off : (reserved : List Bool) → Asked → Bool
keeps_off reserved a = not (takes_reserved reserved a)
