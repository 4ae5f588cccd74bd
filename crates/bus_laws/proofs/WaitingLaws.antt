-- The rank of a task rises along a chain of waiting calls.
use Rattle.std.proofs.Common.{◌≡◌, ◌<◌, ◌≤◌, ℕ, zero, suc, ap, arith}
use Rattle.bus_laws.specs.Common.{Mapping, Chain}
use Rattle.bus_semantics.specs.Common.{Plan, WaitOrder, IsSound}

module _ (p : Plan) (m : Mapping) (order : WaitOrder p m) where
  not_lower : (n a c : ℕ) → Chain p m n a c → order.rank a ≤ order.rank c
  not_lower zero a c same = let ranks : order.rank a ≡ order.rank c = ap order.rank same in omega arith
  not_lower (suc n) a c chain =
      let first = order.later a chain.0 chain.1 in
      let rest = not_lower n chain.0 c chain.2 in
      omega arith

  higher : (n a c : ℕ) → Chain p m (suc n) a c → order.rank a < order.rank c
  higher n a c chain =
      let first = order.later a chain.0 chain.1 in
      let rest = not_lower n chain.0 c chain.2 in
      omega arith

pub no_return : (p : Plan) (m : Mapping) → IsSound p m → (task n : ℕ) → Chain p m (suc n) task task → ⊥
no_return p m sound task n chain = let rises = higher p m sound.order n task task chain in omega arith
