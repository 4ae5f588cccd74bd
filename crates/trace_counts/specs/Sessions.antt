-- How many things of each kind a session did (SWS_RTE: Rte_Send, Rte_Receive, Rte_Call; run lines are this project's own). Each number is a
-- count of the session's items, as far as 32 bits hold it.
use Rattle.std.specs.Prelude.{ℕ, min, length, filter, Bool, true, false, ◌==◌, ◌||◌}
use Rattle.bus_semantics.specs.declared.entries.Deed.{Deed}
use Rattle.bus_semantics.specs.declared.entries.Deed.TheVariants as deed
use Rattle.bus_semantics.specs.Run.{Item, made, run_begins, run_closes, idle, Session}
use Rattle.trace_counts.specs.declared.numbers.Numbers.{Numbers}
use Rattle.trace_counts.specs.Numbers.{most}

abbrev pub is_run : Item → Bool
is_run run_begins = true
is_run _ = false

abbrev pub is_idle : Item → Bool
is_idle (run_closes idle) = true
is_idle _ = false

-- whether it is an entry whose deed passes
abbrev pub did : (Deed → Bool) → Item → Bool
did test (made e) = test e.deed
did test run_begins = false
did test (run_closes word) = false

abbrev pub is_send : Deed → Bool
is_send (deed.Send x value code) = true
is_send _ = false

-- a Receive that took a value
abbrev pub is_taking : Deed → Bool
is_taking (deed.Receive x code value) = (code == 0) || (code == 64)
is_taking _ = false

-- a limit refused it (RTE_E_LIMIT)
abbrev pub is_at_limit : Deed → Bool
is_at_limit (deed.Send x value code) = code == 130
is_at_limit (deed.Ask q value code) = code == 130
is_at_limit _ = false

abbrev pub is_accepted_ask : Deed → Bool
is_accepted_ask (deed.Ask q value code) = code == 0
is_accepted_ask _ = false

abbrev pub is_good_answer : Deed → Bool
is_good_answer (deed.Answer q code value) = code == 0
is_good_answer _ = false

abbrev pub count : (Item → Bool) → Session → ℕ
count test s = min (length (filter test s)) most

abbrev pub numbers_of : Session → Numbers
numbers_of s = record {
  runs = count is_run s;
  idle = count is_idle s;
  sends = count (did is_send) s;
  taken = count (did is_taking) s;
  limits = count (did is_at_limit) s;
  asks = count (did is_accepted_ask) s;
  answers = count (did is_good_answer) s;
}
