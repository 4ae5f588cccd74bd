-- What it means that names clash.
use Rattle.std.specs.Prelude.{◌≡◌, ◌≢◌, List, ◌∷◌, ◌++◌, map, bytes_eq}
use Rattle.std.specs.List.{Any, IsDistinct}
use Rattle.plan_text.specs.Targets.{Letters, Target, name_of}

-- each name stands once
abbrev pub HaveNamesOfTheirOwn : List Target → Type 0
HaveNamesOfTheirOwn ts = IsDistinct bytes_eq (map name_of ts)

-- two different calls have the name, and those before the later one have names of their own: so it is the first such call
pub record IsFirstClash (ts : List Target) (name : Letters) : Type 0 where
  pub before : List Target
  pub later : Target
  pub after : List Target
  pub whole : ts ≡ before ++ later ∷ after
  pub named : name_of later ≡ name
  pub another : Any (λ t. (t ≢ later) × (name_of t ≡ name)) before
  pub first : HaveNamesOfTheirOwn before
