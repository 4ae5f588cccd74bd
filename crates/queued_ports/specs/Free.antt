-- The list of the blocks that are free.
use Rattle.std.specs.Prelude.{◌≡◌, ℕ, ◌==◌, ◌<◌, ◌≤◌, List, true, length, nat_eq, Vec}
use Rattle.std.specs.Global.{Global}
use Rattle.std.specs.List.{list_any, IsDistinct}
use Rattle.std.specs.Vec.{vec_capacity}
use Rattle.rte_value.specs.declared.value.Value.{Value}

-- each free block is one of the pool and stands in the list once, and the list has room for all blocks
pub record AreFree (values : List Value) (free : Vec ℕ Global) : Type 0 where
  pub distinct : IsDistinct nat_eq free.items
  pub below : (block : ℕ) → list_any (λ f. block == f) free.items ≡ true → block < length values
  pub room : length values ≤ vec_capacity free
