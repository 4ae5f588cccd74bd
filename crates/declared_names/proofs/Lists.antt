-- The items of an array.
use Rattle.std.proofs.Common.{◌≡◌, ℕ, List, [], ◌∷◌, map, option_map, slice_get, refl, ap}
use Rattle.std.proofs.lemmas.Option.{slice_get-map}
use Rattle.serde_json.specs.View.{view, items_view}
use Rattle.serde_json.specs.declared.value.Value.{Value}
use Rattle.declared_names.specs.Values.{listed}

pub items_listed : (vs : List Value) → listed (items_view vs) ≡ map view vs
items_listed [] = refl
items_listed (v ∷ vs) = ap (λ ds. view v ∷ ds) (items_listed vs)

-- the item at a position, as data
pub item_seen : (vs : List Value) (i : ℕ) → slice_get (map view vs) i ≡ option_map view (slice_get vs i)
item_seen vs i = slice_get-map view vs i
