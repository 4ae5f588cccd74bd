-- How the joined items of two interfaces are found.
use Rattle.std.specs.Prelude.{◌≡◌, ◌<◌, ◌^◌, ◌↔◌, ℕ, List, length, map, slice_get, Some}
use Rattle.description_types.specs.declared.interface.Interface.{Interface}
use Rattle.description_types.specs.declared.description.Description.{Description}
use Rattle.end_search.specs.declared.interfaces.Listed.{Listed}
use Rattle.end_search.specs.Tables.{item_names}
use Rattle.description_types.specs.Items.{interface_at, ItemsJoin}
use Rattle.description_types.specs.Members.{Among}

-- 32 bits number the items of each interface
pub record HasFewItems (d : Description) : Type 0 where
  pub few : (i : ℕ) (x : Interface) → slice_get d.types.interfaces i ≡ Some x → length (item_names x.kind) < 2 ^ 32

-- these are the interfaces of the description
abbrev pub AreListed : Description → List Listed → Type 0
AreListed d list = map (λ (x : Listed). x.kind.now) list ≡ map (λ x. x.kind) d.types.interfaces

-- the pairs the other way round
abbrev pub turned : List (ℕ × ℕ) → List (ℕ × ℕ)
turned pairs = map (λ (p : ℕ × ℕ). (p.1, p.0)) pairs

-- the pairs are exactly the items of the two interfaces that are joined
abbrev pub AreMatches : Description → ℕ → ℕ → List (ℕ × ℕ) → Type 0
AreMatches d provided required pairs = (i j : ℕ) → Among (i, j) pairs ↔ ItemsJoin (interface_at d provided) (interface_at d required) i j
