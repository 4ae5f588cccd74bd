-- The deed of a line that is done with a coherent list. A list has no name: it is found by its place among the lists of its runnable.
use Rattle.std.specs.Prelude.{ℕ, ◌+◌, ◌*◌, [], ◌∷◌, length, slice_get, nat_le, ◌==◌, if◌then◌else◌, Option, Some, None, option_and_then}
use Rattle.bus_laws.specs.Common.{Actor, Env, Machine, Act, Deed}
use Rattle.bus_semantics.specs.declared.entries.Deed.TheVariants as deed
use Rattle.bus_semantics.specs.Common.{Plan, Runnable, look, Letters}
use Rattle.trace_reading.specs.declared.words.ListWord.{ListWord}
use Rattle.trace_reading.specs.declared.words.ListWord.TheVariants as listed
use Rattle.trace_reading.specs.Deeds.{Line}
use Rattle.trace_reading.specs.Fields.{number_at, value_at}

-- the list at this place among those of a runnable
abbrev pub list_in : Plan → (runnable : ℕ) → (place : ℕ) → Option ℕ
list_in p r n = look p.runnables r (λ (v : Runnable). slice_get v.lists n) None

abbrev pub list_at : Plan → Actor → Letters → Option ℕ
list_at p Env t = None
list_at p (Machine m) t = None
list_at p (Act k) t = option_and_then (λ n. list_in p k.runnable n) (number_at t)

-- the marks of these digits, the first one's lowest
abbrev pub marks_in : Letters → ℕ
marks_in [] = 0
marks_in (c ∷ cs) = (if c == 49 then 1 else 0) + 2 * marks_in cs

abbrev pub marks_at : Letters → Option ℕ
marks_at t = if nat_le (length t) 16 then Some (marks_in t) else None

abbrev pub list_deed_at : ListWord → (list : ℕ) → Line → Option Deed
list_deed_at listed.FetchAll n l = option_and_then (λ value. Some (deed.FetchAll n value)) (value_at l.second)
list_deed_at listed.PublishAll n l = option_and_then (λ written. option_and_then (λ value. Some (deed.PublishAll n written value)) (value_at l.third)) (marks_at l.second)

abbrev pub list_deed : Plan → Actor → ListWord → Line → Option Deed
list_deed p a w l = option_and_then (λ n. list_deed_at w n l) (list_at p a l.first)
