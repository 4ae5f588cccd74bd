-- What a sink's answer to `put` says of the bytes told.
use Rattle.std.specs.Prelude.{◌≡◌, ℕ, List, take, Option}
use Rattle.std.specs.Io.KnownBytes.{Appends, append_known}
use Rattle.rte_text.specs.Counts.{Rose}
use Rattle.rte_text.specs.declared.sink.Put.{Put}
use Rattle.rte_text.specs.declared.sink.Put.TheVariants.{Done, Failed}

-- if the bytes are told, all of these were appended
abbrev pub AppendsWhereTold : Option (List ℕ) → Option (List ℕ) → List ℕ → Type 0
AppendsWhereTold before after bytes = after ≡ append_known before bytes

-- if the bytes are told, the first `taken` of these were appended
pub record AppendsPrefixWhereTold (before after : Option (List ℕ)) (bytes : List ℕ) : Type 0 where
  pub taken : ℕ
  pub told : AppendsWhereTold before after (take taken bytes)

-- done appends the whole piece, and a fault a prefix of it
abbrev pub ToldAfter : Put → Option (List ℕ) → Option (List ℕ) → List ℕ → Type 0
ToldAfter Done before after piece = AppendsWhereTold before after piece
ToldAfter Failed before after piece = AppendsPrefixWhereTold before after piece

-- done leaves the count of faults, and a fault raises it
abbrev pub SinkFaultsAfter : Put → ℕ → ℕ → Type 0
SinkFaultsAfter Done before after = after ≡ before
SinkFaultsAfter Failed before after = Rose before after

-- what a writer holds grew by the whole piece, or by a prefix of it
abbrev pub TakesPiece : Put → Option (List ℕ) → Option (List ℕ) → List ℕ → Type 0
TakesPiece Done before after piece = Appends before after piece
TakesPiece Failed before after piece = (taken : ℕ) × Appends before after (take taken piece)
