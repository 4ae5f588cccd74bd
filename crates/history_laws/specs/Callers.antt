-- Who calls a direct activation waits for its end (SWS_RTE: Rte_Call). Histories stand the newest first.
use Rattle.std.specs.Prelude.{◌≡◌, ℕ, false, Some}
use Rattle.bus_semantics.specs.Common.{ActKey, Plan, caller_of, History, asked_last, ended_since, plain_key}

-- the last entry of the point's caller is the ask there, and the direct activation has not ended since
pub record CallerWaits (p : Plan) (point : ℕ) (k : ActKey) (h : History) : Type 0 where
  pub caller : ℕ
  pub calls : caller_of p point ≡ Some caller
  pub asked : asked_last (plain_key caller) h ≡ Some point
  pub waits : ended_since (plain_key caller) k h ≡ false
