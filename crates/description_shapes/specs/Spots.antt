-- Where a value stands.
use Rattle.std.specs.Prelude.{ℕ, List, [], ◌∷◌, ◌++◌, codes}
use Rattle.std.specs.Fmt.{decimal}
use Rattle.serde_json.specs.Data.{Data}
use Rattle.description_shapes.specs.declared.kind.Kind.{Kind}

-- a value that is round another, and the number of its part that the other stands in, 0 in an object
pub record Level : Type 0 where
  pub kind : Kind
  pub value : Data
  pub number : ℕ

-- a place, as a JSON pointer, and the values round it, the innermost first
pub record Spot : Type 0 where
  pub place : List ℕ
  pub around : List Level

-- the whole
abbrev pub top : Spot
top = record { place = []; around = [] }

-- one level deeper, in the value d of the kind: by this step to its part of this number
abbrev pub deeper : Spot → Kind → Data → List ℕ → ℕ → Spot
deeper s kind d step number = record {
  place = (s.place ++ codes "/") ++ step;
  around = record { kind = kind; value = d; number = number } ∷ s.around;
}

-- at a key of an object, and at a part of an array
abbrev pub inside : Spot → Kind → Data → List ℕ → Spot
inside s kind d step = deeper s kind d step 0

abbrev pub inside_part : Spot → Kind → Data → ℕ → Spot
inside_part s kind d i = deeper s kind d (decimal i) i
