-- What is taken from a JSON value. A value that is missing or of another kind counts as empty, zero or false, so that each reading is there for every value; the rules of shape leave none of these to a description that is read.
use Rattle.std.specs.Prelude.{ℕ, ℤ, pos, List, [], ◌∷◌, Bool, false, nat_lt, Option, Some, None, option_and_then, unwrap_or, if◌then◌else◌}
use Rattle.std.specs.Borrow.{Bor}
use Rattle.serde_json.specs.Data.{Data, Items, no_items, item}
use Rattle.serde_json.specs.Find.{get, at, as_array, as_bool, as_i64, as_number, as_str, as_u64}
use Rattle.serde_json.specs.View.{view}
use Rattle.serde_json.specs.declared.value.Value.{Value}

-- the items of an array
abbrev pub listed : Items → List Data
listed no_items = []
listed (item d ds) = d ∷ listed ds

abbrev pub items_of : Option Items → List Data
items_of None = []
items_of (Some ds) = listed ds

abbrev pub items_in : Data → List Data
items_in d = items_of (as_array d)

-- those of the array at a key
abbrev pub items_at : List ℕ → Data → List Data
items_at key d = items_of (option_and_then as_array (get key d))

-- and those of a part of an array
abbrev pub items_of_part : ℕ → Data → List Data
items_of_part i d = items_of (option_and_then as_array (at i d))

-- a text, that at a key, that at a key of the object at another, and that of a part of an array
abbrev pub text_in : Data → List ℕ
text_in d = unwrap_or (as_str d) []

abbrev pub text_at : List ℕ → Data → List ℕ
text_at key d = unwrap_or (option_and_then as_str (get key d)) []

abbrev pub text_at_in : (outer : List ℕ) → (key : List ℕ) → Data → List ℕ
text_at_in outer key d = unwrap_or (option_and_then as_str (option_and_then (get key) (get outer d))) []

-- the texts of all parts
abbrev pub texts_of : Items → List (List ℕ)
texts_of no_items = []
texts_of (item d ds) = text_in d ∷ texts_of ds

abbrev pub text_of_part : ℕ → Data → List ℕ
text_of_part i d = unwrap_or (option_and_then as_str (at i d)) []

abbrev pub text_of_part_at : List ℕ → ℕ → Data → List ℕ
text_of_part_at key i d = unwrap_or (option_and_then as_str (option_and_then (at i) (get key d))) []

-- a word
abbrev pub word_in : Data → ℤ
word_in d = unwrap_or (option_and_then as_i64 (as_number d)) (pos 0)

abbrev pub word_at : List ℕ → Data → ℤ
word_at key d = unwrap_or (option_and_then as_i64 (option_and_then as_number (get key d))) (pos 0)

-- a number below a limit, and the other if there is none
abbrev pub below : (limit : ℕ) → (other : ℕ) → Option ℕ → ℕ
below limit other None = other
below limit other (Some n) = if nat_lt n limit then n else other

abbrev pub number_at : (limit : ℕ) → (other : ℕ) → List ℕ → Data → ℕ
number_at limit other key d = below limit other (option_and_then as_u64 (option_and_then as_number (get key d)))

abbrev pub number_of_part : (limit : ℕ) → (other : ℕ) → ℕ → Data → ℕ
number_of_part limit other i d = below limit other (option_and_then as_u64 (option_and_then as_number (at i d)))

-- true or false
abbrev pub flag_at : List ℕ → Data → Bool
flag_at key d = unwrap_or (option_and_then as_bool (get key d)) false

-- the data that a value stands for, behind a reference
abbrev pub seen : Bor Value → Data
seen v = view v.now
