-- The tests that a walk applies, and the path that it has found.
use Rattle.std.specs.Prelude.{◌≡◌, ℕ, List, ◌∷◌, Option, is_some, true, Vec, Result, Ok, Err}
use Rattle.std.specs.Option.{option_map}
use Rattle.std.specs.declared.alloc.Global.{Global}
use Rattle.runnable_lang.specs.declared.program.AccessSig.{AccessSig}
use Rattle.runnable_lang.specs.declared.walk.Rule.{Rule}
use Rattle.runnable_lang.specs.declared.walk.Rule.TheVariants as rule
use Rattle.runnable_lang.specs.Places.{Test}
use Rattle.runnable_lang.specs.Refusals.{lacks_access, is_declared_before, calls_inside}

-- the test of a rule
abbrev pub test_of : Rule → List AccessSig → Test
test_of rule.Access accesses = lacks_access accesses
test_of rule.AreaOrder accesses = is_declared_before
test_of rule.NoCallInArea accesses = calls_inside

-- its number
abbrev pub number_of : Rule → ℕ
number_of rule.Access = 17
number_of rule.AreaOrder = 19
number_of rule.NoCallInArea = 20

-- the path that was found
abbrev pub items_of : Option (Vec ℕ Global) → Option (List ℕ)
items_of found = option_map (λ path. path.items) found

-- a walk finds the path that is wanted, and lacks memory only if there is one
abbrev pub Finds : {E : Type 0} → Option (List ℕ) → Result (Option (Vec ℕ Global)) E → Type 0
Finds wanted (Ok found) = items_of found ≡ wanted
Finds wanted (Err e) = is_some wanted ≡ true

-- the same path from one level further out
abbrev pub under_path : ℕ → Option (List ℕ) → Option (List ℕ)
under_path position path = option_map (λ p. position ∷ p) path
