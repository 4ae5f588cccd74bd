-- Chains of waiting calls between tasks (SWS_RTE: synchronous Rte_Call).
use Rattle.std.specs.Prelude.{◌≡◌, ℕ, zero, suc, true}
use Rattle.bus_semantics.specs.declared.script.Mapping.{Mapping}
use Rattle.bus_semantics.specs.Common.{Plan, waits_for}

-- a chain of n calls from one task to another, each of which waits for a server in the next task
abbrev pub Chain : Plan → Mapping → (calls : ℕ) → (from : ℕ) → (to : ℕ) → Type 0
Chain p m zero a c = a ≡ c
Chain p m (suc n) a c = (b : ℕ) × (waits_for p m a b ≡ true) × Chain p m n b c
