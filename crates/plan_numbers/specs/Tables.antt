-- Tables of the first values of keys.
use Rattle.std.specs.Prelude.{◌≡◌, List, Bool}
use Rattle.std.specs.Map.{lookup}
use Rattle.indexmap.specs.IndexMap.{IndexMap, get}

-- the map has, for each key, the value of the first entry with this key
abbrev pub HasFirsts : {K X S : Type 0} → (K → K → Bool) → List (K × X) → IndexMap K X S → Type 0
HasFirsts {K} eq entries map = (q : K) → get eq map q ≡ lookup (eq q) entries
