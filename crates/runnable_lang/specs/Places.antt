-- Where the statements stand that fail a test: each rule of one statement is such a test, of the statement and of what stands around it.
use Rattle.std.specs.Prelude.{ℕ, ◌+◌, max, List, [], ◌∷◌, ◌++◌, map, Bool, true, false, Option, Some, None}
use Rattle.runnable_lang.specs.Trees.{StmtTree, chooses, repeats, in_area, BodyTree, done, next}

-- a test of a statement, from the greatest number of the areas around it, if it stands inside an area
abbrev pub Test : Type 0
Test = Option ℕ → StmtTree → Bool

-- the greatest number of the areas around the body of an area
abbrev pub within : Option ℕ → (area : ℕ) → Option ℕ
within None area = Some area
within (Some greatest) area = Some (max greatest area)

-- the empty path before the others, if the statement itself fails
abbrev pub here : Bool → List (List ℕ) → List (List ℕ)
here true paths = [] ∷ paths
here false paths = paths

-- each path, from one level further out
abbrev pub under : ℕ → List (List ℕ) → List (List ℕ)
under position paths = map (λ path. position ∷ path) paths

-- The paths of the statements that fail, a statement before what it holds. A body counts by its position in the statement as it is written: 2 and 3 in an `if`, 2 in a `repeat` and in an area.
abbrev mutual
  pub failing_in : Test → Option ℕ → StmtTree → List (List ℕ)
  failing_in fails around (chooses c first second) = here (fails around (chooses c first second)) (under 2 (failing_among fails around 0 first) ++ under 3 (failing_among fails around 0 second))
  failing_in fails around (repeats n body) = here (fails around (repeats n body)) (under 2 (failing_among fails around 0 body))
  failing_in fails around (in_area x body) = here (fails around (in_area x body)) (under 2 (failing_among fails (within around x) 0 body))
  failing_in fails around s = here (fails around s) []

  -- those of the statements of a body, from the one at this position on
  pub failing_among : Test → Option ℕ → (position : ℕ) → BodyTree → List (List ℕ)
  failing_among fails around i done = []
  failing_among fails around i (next s body) = under i (failing_in fails around s) ++ failing_among fails around (i + 1) body

-- the first of a list, if there is one
abbrev pub first : {X : Type 0} → List X → Option X
first [] = None
first (x ∷ xs) = Some x
