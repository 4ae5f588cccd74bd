-- What a line of stimuli says over a plan. The stimuli are this project's own.
use Rattle.std.specs.Prelude.{ℕ, ◌-◌, List, [], ◌∷◌, ◌&&◌, ◌==◌, nat_le, bytes_eq, codes, replicate, if◌then◌else◌}
use Rattle.bus_semantics.specs.Common.{Plan, Letters, Wanted, to_tick}
use Rattle.script_reading.specs.Meaning.{ticks, a_run, a_call, Saying, nothing, asks, is_bad, no_form, saying}

-- nothing, that the stimuli stop, wishes for a feed, or the cause for which the line is bad
pub data Stimulus : Type 0 where
  silent : Stimulus
  stops : Stimulus
  gives : (feed : ℕ) → (wishes : List Wanted) → Stimulus
  unfit : (cause : ℕ) → Stimulus

-- a feed is given a line of a script: so many ticks, or a call; a run line, an empty one or a comment has none of the forms
abbrev pub given_by : (feed : ℕ) → Saying → Stimulus
given_by f (asks (ticks n)) = gives f (replicate n to_tick)
given_by f (asks (a_call w)) = gives f (w ∷ [])
given_by f (asks a_run) = unfit no_form
given_by f nothing = unfit no_form
given_by f (is_bad cause) = unfit cause

-- a digit from 0 to 3, a space, and a line of a script
abbrev pub feed_line : Plan → Letters → Stimulus
feed_line p (d ∷ s ∷ t) = if nat_le 48 d && (nat_le d 51 && (s == 32)) then given_by (d - 48) (saying p t) else unfit no_form
feed_line p _ = unfit no_form

-- an empty line and one that begins with `#` say nothing
abbrev pub stimulus : Plan → Letters → Stimulus
stimulus p [] = silent
stimulus p (c ∷ cs) = if c == 35 then silent else (if bytes_eq (c ∷ cs) (codes "stop") then stops else feed_line p (c ∷ cs))
