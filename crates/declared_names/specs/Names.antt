-- Names, and where they stand.
use Rattle.std.specs.Prelude.{◌≡◌, ℕ, ◌+◌, List, [], ◌∷◌, Bool, false, map, length, nat_lt, bytes_eq, codes, if◌then◌else◌, slice_get, Option, Some, None, unwrap_or}
use Rattle.std.specs.Borrow.{Bor}
use Rattle.std.specs.HashMap.{HashMap, get_by}
use Rattle.serde_json.specs.Data.{Data}
use Rattle.declared_names.specs.Values.{text_at, text_in}

-- the names that are declared in a list, in order
abbrev pub Names : Type 0
Names = List (List ℕ)

-- the position of the first of the names that is this one, and their number if none is
abbrev pub position_in : Names → List ℕ → ℕ
position_in [] name = 0
position_in (n ∷ ns) name = if bytes_eq n name then 0 else 1 + position_in ns name

-- the same in one of several lists, and 0 if there is no such list
abbrev pub position_among : Option Names → List ℕ → ℕ
position_among None name = 0
position_among (Some ns) name = position_in ns name

abbrev pub position_at : List Names → ℕ → List ℕ → ℕ
position_at lists i name = position_among (slice_get lists i) name

-- the name is one of them, and one of those in the list at a position
abbrev pub has_name : Names → List ℕ → Bool
has_name ns name = nat_lt (position_in ns name) (length ns)

abbrev pub has_among : Option Names → List ℕ → Bool
has_among None name = false
has_among (Some ns) name = has_name ns name

abbrev pub has_at : List Names → ℕ → List ℕ → Bool
has_at lists i name = has_among (slice_get lists i) name

-- the short names of what is declared in a list
abbrev pub short_names : List Data → Names
short_names ds = map (text_at (codes "shortName")) ds

-- the texts of a list of them
abbrev pub texts : List Data → Names
texts ds = map text_in ds

-- the text that a reference gives
abbrev pub text_of : Bor (List ℕ) → List ℕ
text_of s = s.now

-- a map has where each of the names first stands
abbrev pub ArePlaced : {S : Type 0} → List (Bor (List ℕ)) → HashMap (Bor (List ℕ)) ℕ S → Type 0
ArePlaced names places = (name : List ℕ) → unwrap_or (get_by (λ k. bytes_eq name k.now) places) (length names) ≡ position_in (map text_of names) name
