-- Kinds of wishes and answers (SWS_RTE: Rte_Call, Rte_Result, runnable activation).
use Rattle.std.specs.Prelude.{ℕ, Bool, true, false, not}
use Rattle.bus_laws.specs.Common.{PointPlan, Deed}
use Rattle.bus_semantics.specs.declared.entries.Deed.TheVariants as deed
use Rattle.bus_semantics.specs.Common.{Plan, look, Wanted, to_ask, to_hear, to_take_result, to_end}

-- to call an operation, to hear its answer or to take its result
abbrev pub is_of_a_call : Wanted → Bool
is_of_a_call (to_ask q ws) = true
is_of_a_call (to_hear q) = true
is_of_a_call (to_take_result q) = true
is_of_a_call w = false

abbrev pub is_the_end : Wanted → Bool
is_the_end (to_end event) = true
is_the_end w = false

abbrev pub is_return : Deed → Bool
is_return (deed.Return code value) = true
is_return d = false

-- who calls at the point waits for the answer
abbrev pub is_awaited : Plan → (point : ℕ) → Bool
is_awaited p q = look p.points q (λ (t : PointPlan). not t.asynchronous) false
