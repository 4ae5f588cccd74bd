-- The past of an object: entries that touch it alone, the newest first, each of which fits, is what the bus answers after those before
-- it, and matches them. The word is this project's own; in a legal history the entries of each object are such a past.
use Rattle.std.specs.Prelude.{◌≡◌, ℕ, [], ◌∷◌, true}
use Rattle.bus_semantics.specs.Plan.{Plan}
use Rattle.bus_semantics.specs.History.{Noted, Past}
use Rattle.bus_semantics.specs.Objects.{touches}
use Rattle.bus_semantics.specs.Legal.{Answers}
use Rattle.bus_semantics.specs.Locality.{is_proper}
use Rattle.bus_semantics.specs.Matching.{matches}

-- an entry may follow the earlier entries of its object
pub record Follows (p : Plan) (object : ℕ) (l : Past) (n : Noted) : Type 0 where
  pub touching : touches p object n ≡ true
  pub proper : is_proper p n ≡ true
  pub answers : Answers p l n
  pub matching : matches p l n ≡ true

abbrev pub IsPastOf : Plan → (object : ℕ) → Past → Type 0
IsPastOf p object [] = Unit {0}
IsPastOf p object (n ∷ l) = IsPastOf p object l × Follows p object l n
