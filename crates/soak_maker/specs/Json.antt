-- JSON values, as descriptions have them.
use Rattle.std.specs.Prelude.{ℕ, zero, suc, List, [], ◌∷◌, ◌++◌, Bool, false, nat_le, unwrap_or}
use Rattle.std.specs.Option.{option_map_or}
use Rattle.serde_json.specs.Data.{Data, Members, array, depth, no_members, null, object, put}
use Rattle.serde_json.specs.Read.{read}
use Rattle.serde_json.specs.View.{items_of}

-- the value that a text is
abbrev pub written : List ℕ → Data
written t = unwrap_or (read t) null

-- the text is that of a value, which nests a hundred deep at most
abbrev pub is_shallow : List ℕ → Bool
is_shallow t = option_map_or (λ d. nat_le (depth d) 100) (read t) false

-- the members with these too
abbrev pub with_fields : List (List ℕ × Data) → Members → Members
with_fields [] found = found
with_fields (m ∷ ms) found = with_fields ms (put m.0 m.1 found)

-- an object of these members
abbrev pub fields : List (List ℕ × Data) → Data
fields ms = object (with_fields ms no_members)

abbrev pub list : List Data → Data
list ds = array (items_of ds)

-- what there is for each number below this one, in order
abbrev pub each : ℕ → (ℕ → Data) → List Data
each zero f = []
each (suc n) f = each n f ++ f n ∷ []
