-- How long what a deed holds may be in a line: a number has at most 20 bytes, a value 16 words with a comma between them. A mode is
-- a number in version one alone.
use Rattle.std.specs.Prelude.{ℕ, ◌≤◌, length, decimal, Option, Some, None}
use Rattle.bus_semantics.specs.Common.{Step, Value, Plan, position_of, value_text}
use Rattle.rte_value.specs.declared.kinds.Step.TheVariants as step
use Rattle.bus_laws.specs.Common.{Deed, Version, One, Two}
use Rattle.bus_semantics.specs.declared.entries.Deed.TheVariants as deed

abbrev pub IsShortNumber : ℕ → Type 0
IsShortNumber n = length (decimal n) ≤ 20

abbrev pub IsShortValue : Value → Type 0
IsShortValue v = length (value_text v) ≤ 335

abbrev pub IsShortMode : Version → ℕ → Type 0
IsShortMode One mode = IsShortNumber mode
IsShortMode Two mode = Unit {0}

abbrev pub IsShortStep : Version → Step → Type 0
IsShortStep v (step.Close mode) = IsShortMode v mode
IsShortStep v step.Exit = Unit {0}
IsShortStep v step.Transition = Unit {0}
IsShortStep v step.Entry = Unit {0}
IsShortStep v step.Stable = Unit {0}

-- the values of a start are in its line if it names a point
abbrev pub IsShortFrom : Option ℕ → Value → Type 0
IsShortFrom None value = Unit {0}
IsShortFrom (Some q) value = IsShortValue value

abbrev pub IsShort : Version → Plan → Deed → Type 0
IsShort v p deed.Tick = Unit {0}
IsShort v p (deed.Start event point value) = IsShortFrom point value
IsShort v p (deed.Admit admitted) = Unit {0}
IsShort v p (deed.Fetch x value) = IsShortValue value
IsShort v p (deed.Write x value) = IsShortValue value
IsShort v p (deed.Read x code value) = IsShortNumber code × IsShortValue value
IsShort v p (deed.Invalidate x) = Unit {0}
IsShort v p (deed.IsUpdated x updated) = Unit {0}
IsShort v p (deed.Send x value code) = IsShortValue value × IsShortNumber code
IsShort v p (deed.Receive x code value) = IsShortNumber code × IsShortValue value
IsShort v p (deed.Ask q value code) = IsShortValue value × IsShortNumber code
IsShort v p (deed.Answer q code value) = IsShortNumber code × IsShortValue value
IsShort v p (deed.TakeResult q code value) = IsShortNumber code × IsShortValue value
IsShort v p (deed.Return code value) = IsShortNumber code × IsShortValue value
IsShort v p (deed.Enter x) = Unit {0}
IsShort v p (deed.Leave x) = Unit {0}
IsShort v p (deed.Switch m mode code) = IsShortMode v mode × IsShortNumber code
IsShort v p (deed.Mode port mode) = IsShortMode v mode
IsShort v p (deed.Phase s) = IsShortStep v s
IsShort v p (deed.Publish x value) = IsShortValue value
IsShort v p (deed.FetchAll l value) = IsShortNumber (position_of p l) × IsShortValue value
IsShort v p (deed.PublishAll l written value) = IsShortNumber (position_of p l) × IsShortValue value
IsShort v p deed.End = Unit {0}
