-- Calculations of programs: no value of one declares anything, and none refers to what is declared.
use Rattle.std.specs.Prelude.{◌≡◌, Bool, None}
use Rattle.serde_json.specs.Data.{Data}
use Rattle.description_shapes.specs.declared.kind.Kind.{Kind}
use Rattle.description_shapes.specs.declared.kind.Kind.TheVariants as kind
use Rattle.description_shapes.specs.Alternatives.{resolved}
use Rattle.description_shapes.specs.Spots.{Spot}
use Rattle.description_shapes.specs.Visits.{Visit, visits, first_broken}

-- an assignment of a calculated value, the expression, and what these hold
pub data Calculation : Type 0 where
  assignment : Calculation
  expression : Calculation
  constant : Calculation
  name : Calculation
  operator : Calculation
  unknown : Calculation
  other : Calculation

abbrev pub kind_in : Calculation → Kind
kind_in assignment = kind.SetStatement
kind_in expression = kind.Expression
kind_in constant = kind.Constant
kind_in name = kind.LocalName
kind_in operator = kind.Operator
kind_in unknown = kind.UnknownExpression
kind_in other = kind.Anything

abbrev pub IsCalculation : Kind → Type 0
IsCalculation k = (c : Calculation) × (k ≡ kind_in c)

-- no value that is found to have the kind breaks the rule, and nothing in it does
abbrev pub Passes : (Visit → Bool) → Kind → Type 0
Passes breaks found = (k : Kind) (d : Data) (s : Spot) → resolved k d ≡ found → first_broken breaks (visits d k s) ≡ None
