-- How many values a value has in it.
use Rattle.std.specs.Prelude.{◌≡◌, ℕ, ◌+◌, ◌^◌, ◌≤◌, List, [], ◌∷◌, length, slice_index_or, Some}
use Rattle.serde_json.specs.Data.{Data, null, boolean, number, string, array, object, Items, no_items, item, Members, no_members, member}
use Rattle.serde_json.specs.Read.{read}
use Rattle.declared_names.specs.declared.scopes.InterfaceNames.{InterfaceNames}

-- itself, and those in its items or members
abbrev mutual
  pub size : Data → ℕ
  size null = 1
  size (boolean b) = 1
  size (number n) = 1
  size (string s) = 1
  size (array ds) = 1 + items_size ds
  size (object ms) = 1 + members_size ms

  pub items_size : Items → ℕ
  items_size no_items = 0
  items_size (item d ds) = size d + items_size ds

  pub members_size : Members → ℕ
  members_size no_members = 0
  members_size (member k d ms) = size d + members_size ms

abbrev pub sizes : List Data → ℕ
sizes [] = 0
sizes (d ∷ ds) = size d + sizes ds

-- no more values than a file of 8 MiB is read as
pub record IsSmall (d : Data) : Type 0 where
  pub few : size d ≤ 2 ^ 22

pub record AreSmall (ds : List Data) : Type 0 where
  pub few : sizes ds ≤ 2 ^ 22

-- each operation has no more arguments
pub record HaveFewArguments (interfaces : InterfaceNames) : Type 0 where
  pub few : (i o : ℕ) → length (slice_index_or (slice_index_or interfaces.arguments i []) o []) ≤ 2 ^ 22

-- what the bytes are read as has no more
pub record AreFew (bytes : List ℕ) : Type 0 where
  pub small : (d : Data) → read bytes ≡ Some d → IsSmall d
