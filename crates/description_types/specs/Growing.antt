-- Sets of links that grow up to a limit.
use Rattle.std.specs.Prelude.{◌≡◌, ◌<◌, List, Bool, true, false, length, ◌⊎◌}
use Rattle.description_types.specs.Members.{Among, AllApart}

-- some element of the list has it
abbrev pub AnyOf : {X Y : Type 0} → (X → Y → Type 0) → List X → Y → Type 0
AnyOf {X} Q xs y = (x : X) × Among x xs × Q x y

-- more than 65,536 different ones have it
abbrev pub IsPastLimit : {X : Type 0} → (X → Type 0) → Type 0
IsPastLimit {X} P = (xs : List X) × AllApart xs × ((x : X) → Among x xs → P x) × (65536 < length xs)

-- what is in the list now was there before, or has P; all that was there stays, and all that has P was added, unless that is past the limit
pub record Grown {X : Type 0} (P : X → Type 0) (before after : List X) (is_full : Bool) : Type 0 where
  pub sound : (x : X) → Among x after → Among x before ⊎ P x
  pub stays : (x : X) → Among x before → Among x after
  pub has : is_full ≡ false → (x : X) → P x → Among x after
  pub past : is_full ≡ true → IsPastLimit (λ x. Among x before ⊎ P x)
