-- When two actors are the same, and two deeds: what they are and name is the same.
use Rattle.std.specs.Prelude.{ℕ, Bool, true, false, ◌&&◌, ◌==◌, Option, Some, None}
use Rattle.std.specs.Bool.{beq}
use Rattle.bus_semantics.specs.Common.{Step, Value, same_key, same_number, same_words, words_of, Wanted, to_write, to_send, to_ask, to_return, to_publish, to_publish_all}
use Rattle.rte_value.specs.declared.kinds.Step.TheVariants as step
use Rattle.bus_semantics.specs.declared.entries.Actor.{Actor}
use Rattle.bus_semantics.specs.declared.entries.Actor.TheVariants.{Env, Machine, Act}
use Rattle.bus_semantics.specs.declared.entries.Deed.{Deed}
use Rattle.bus_semantics.specs.declared.entries.Deed.TheVariants as deed

abbrev pub same_maker : Actor → Actor → Bool
same_maker Env Env = true
same_maker (Machine m) (Machine n) = m == n
same_maker (Act j) (Act k) = same_key j k
same_maker _ _ = false

abbrev pub same_step : Step → Step → Bool
same_step (step.Close m) (step.Close n) = m == n
same_step step.Exit step.Exit = true
same_step step.Transition step.Transition = true
same_step step.Entry step.Entry = true
same_step step.Stable step.Stable = true
same_step _ _ = false

-- the code and the value of a deed that carries both
abbrev pub answer : Deed → Option (ℕ × Value)
answer (deed.Read a code value) = Some (code, value)
answer (deed.Send a value code) = Some (code, value)
answer (deed.Receive a code value) = Some (code, value)
answer (deed.Ask a value code) = Some (code, value)
answer (deed.Answer a code value) = Some (code, value)
answer (deed.TakeResult a code value) = Some (code, value)
answer (deed.Return code value) = Some (code, value)
answer _ = None

abbrev pub same_answer : Option (ℕ × Value) → Option (ℕ × Value) → Bool
same_answer (Some a) (Some b) = (a.0 == b.0) && same_words (words_of a.1) (words_of b.1)
same_answer _ _ = false

-- deeds on coherent lists
abbrev pub same_listed : Deed → Deed → Bool
same_listed (deed.FetchAll a v) (deed.FetchAll b w) = (a == b) && same_words (words_of v) (words_of w)
same_listed (deed.PublishAll a m v) (deed.PublishAll b n w) = (a == b) && ((m == n) && same_words (words_of v) (words_of w))
same_listed _ _ = false

-- starts, deeds that carry a code and a value, and those on coherent lists
abbrev pub same_answered : Deed → Deed → Bool
same_answered (deed.Start a q v) (deed.Start b r w) = (a == b) && (same_number q r && same_words (words_of v) (words_of w))
same_answered (deed.Read a c v) (deed.Read b d w) = (a == b) && same_answer (Some (c, v)) (Some (d, w))
same_answered (deed.Send a v c) (deed.Send b w d) = (a == b) && same_answer (Some (c, v)) (Some (d, w))
same_answered (deed.Receive a c v) (deed.Receive b d w) = (a == b) && same_answer (Some (c, v)) (Some (d, w))
same_answered (deed.Ask a v c) (deed.Ask b w d) = (a == b) && same_answer (Some (c, v)) (Some (d, w))
same_answered (deed.Answer a c v) (deed.Answer b d w) = (a == b) && same_answer (Some (c, v)) (Some (d, w))
same_answered (deed.TakeResult a c v) (deed.TakeResult b d w) = (a == b) && same_answer (Some (c, v)) (Some (d, w))
same_answered (deed.Return c v) (deed.Return d w) = same_answer (Some (c, v)) (Some (d, w))
same_answered one other = same_listed one other

abbrev pub same_deed : Deed → Deed → Bool
same_deed deed.Tick deed.Tick = true
same_deed (deed.Admit y) (deed.Admit z) = beq y z
same_deed (deed.Fetch a v) (deed.Fetch b w) = (a == b) && same_words (words_of v) (words_of w)
same_deed (deed.Write a v) (deed.Write b w) = (a == b) && same_words (words_of v) (words_of w)
same_deed (deed.Invalidate a) (deed.Invalidate b) = a == b
same_deed (deed.IsUpdated a y) (deed.IsUpdated b z) = (a == b) && beq y z
same_deed (deed.Enter a) (deed.Enter b) = a == b
same_deed (deed.Leave a) (deed.Leave b) = a == b
same_deed (deed.Switch a m c) (deed.Switch b n d) = (a == b) && ((m == n) && (c == d))
same_deed (deed.Mode a m) (deed.Mode b n) = (a == b) && (m == n)
same_deed (deed.Phase s) (deed.Phase t) = same_step s t
same_deed (deed.Publish a v) (deed.Publish b w) = (a == b) && same_words (words_of v) (words_of w)
same_deed deed.End deed.End = true
same_deed one other = same_answered one other

-- a deed and what is wanted that give the bus the same, of those that give it a value
abbrev pub gives : Deed → Wanted → Bool
gives (deed.Write a v) (to_write b ws) = (a == b) && same_words (words_of v) ws
gives (deed.Send a v code) (to_send b ws) = (a == b) && same_words (words_of v) ws
gives (deed.Ask a v code) (to_ask b ws) = (a == b) && same_words (words_of v) ws
gives (deed.Return c v) (to_return d ws) = (c == d) && same_words (words_of v) ws
gives (deed.Publish a v) (to_publish b ws) = (a == b) && same_words (words_of v) ws
gives (deed.PublishAll a m v) (to_publish_all b n ws) = (a == b) && ((m == n) && same_words (words_of v) ws)
gives _ _ = false

-- two wants that give the bus the same, of those that give it a value
abbrev pub same_given : Wanted → Wanted → Bool
same_given (to_write a v) (to_write b w) = (a == b) && same_words v w
same_given (to_send a v) (to_send b w) = (a == b) && same_words v w
same_given (to_ask a v) (to_ask b w) = (a == b) && same_words v w
same_given (to_return a v) (to_return b w) = (a == b) && same_words v w
same_given (to_publish a v) (to_publish b w) = (a == b) && same_words v w
same_given (to_publish_all a m v) (to_publish_all b n w) = (a == b) && ((m == n) && same_words v w)
same_given _ _ = false
