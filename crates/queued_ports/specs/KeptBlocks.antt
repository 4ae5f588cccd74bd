-- What a pool of blocks keeps, and what each call makes of it. A block is its number.
use Rattle.std.specs.Prelude.{◌≡◌, ℕ, ◌==◌, ◌<◌, List, [], ◌∷◌, ◌++◌, false, length, replicate, set, Option, slice_get}
use Rattle.std.specs.List.{list_any, range_with_len}
use Rattle.rte_value.specs.declared.value.Value.{Value}
use Rattle.rte_value.specs.ShortValues.{empty_value}

pub record Kept : Type 0 where
  -- what each block holds
  pub values : List Value
  -- the blocks that are free
  pub free : List ℕ

-- all blocks are free, and hold no words
abbrev pub fresh : (blocks : ℕ) → Kept
fresh blocks = record { values = replicate blocks empty_value; free = range_with_len 0 blocks }

-- the block is one of the pool and is not free
pub record IsTaken (block : ℕ) (k : Kept) : Type 0 where
  pub within : block < length k.values
  pub not_free : list_any (λ f. block == f) k.free ≡ false

abbrev pub after_give : (block : ℕ) → Kept → Kept
after_give block k = record { values = k.values; free = k.free ++ block ∷ [] }

abbrev pub after_store : (block : ℕ) → Value → Kept → Kept
after_store block v k = record { values = set k.values block v; free = k.free }

-- what a block holds; none of a block that there is not
abbrev pub value_in : (block : ℕ) → Kept → Option Value
value_in block k = slice_get k.values block
