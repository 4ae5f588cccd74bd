-- Values under keys.
use Rattle.std.specs.Prelude.{◌≡◌, List, [], map, filter, Bool, Option, Vec}
use Rattle.bus_semantics.specs.Common.{Global, option_map_or}
use Rattle.indexmap.specs.IndexMap.{IndexMap, get}

-- the list that was found, if any
abbrev pub under : {X : Type 0} → Option (Vec X Global) → List X
under found = option_map_or (λ v. v.items) found []

-- the values of the entries whose key passes the test
abbrev pub values_at : {K X : Type 0} → (K → Bool) → List (K × X) → List X
values_at test entries = map (λ e. e.1) (filter (λ e. test e.0) entries)

-- the map has under each key the values of the entries with this key
abbrev pub AreGrouped : {K X S : Type 0} → (K → K → Bool) → List (K × X) → IndexMap K (Vec X Global) S → Type 0
AreGrouped {K} eq entries map = (q : K) → under (get eq map q) ≡ values_at (eq q) entries
