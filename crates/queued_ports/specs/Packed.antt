-- What packing and unpacking a value makes of the pool.
use Rattle.std.specs.Prelude.{◌≡◌, ◌∷◌, [], ◌++◌, set}
use Rattle.rte_value.specs.declared.value.Value.{Value}
use Rattle.rte_value.specs.ShortValues.{one_word}
use Rattle.queued_ports.specs.KeptBlocks as pool
use Rattle.queued_ports.specs.declared.payload.Payload.{Payload}
use Rattle.queued_ports.specs.declared.payload.Payload.TheVariants.{One, Many}

-- the value lies in the payload, or in a block that was free
abbrev pub IsPacked : Value → (old : pool.Kept) → Payload → (new : pool.Kept) → Type 0
IsPacked v old (One word) new = (v ≡ one_word word) × (new ≡ old)
IsPacked v old (Many block) new = (old.free ≡ new.free ++ block ∷ []) × (new.values ≡ set old.values block v)

-- the block of a payload is taken
abbrev pub IsThere : Payload → pool.Kept → Type 0
IsThere (One word) k = Unit {0}
IsThere (Many block) k = pool.IsTaken block k

-- unpacking gives the block back
abbrev pub after_unpacking : Payload → pool.Kept → pool.Kept
after_unpacking (One word) k = k
after_unpacking (Many block) k = pool.after_give block k
