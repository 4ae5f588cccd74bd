-- The rules of programs: what breaks each, and which is refused.
use Rattle.std.specs.Prelude.{◌≡◌, ℕ, List, [], ◌∷◌, ◌++◌, map, Bool, true, false, ◌&&◌, ◌||◌, not, nat_lt, nat_le, is_some, Option, Some, None, Result, Ok, Err}
use Rattle.runnable_lang.specs.declared.program.AccessSig.{AccessSig}
use Rattle.runnable_lang.specs.declared.refused.ProgramRefused.{ProgramRefused}
use Rattle.runnable_lang.specs.declared.refused.ProgramRefused.TheVariants.{Broken, Memory}
use Rattle.runnable_lang.specs.Trees.{StmtTree, in_area, calls, calls_and_goes_on, ProgramTree}
use Rattle.runnable_lang.specs.Accesses.{has_access}
use Rattle.runnable_lang.specs.Costs.{body_cost}
use Rattle.runnable_lang.specs.Places.{Test, failing_among, first}

-- rule 17: a statement has its access
abbrev pub lacks_access : List AccessSig → Test
lacks_access accesses around s = not (has_access accesses s)

-- rule 19: an area inside areas was declared after each of them
abbrev pub is_declared_before : Test
is_declared_before (Some greatest) (in_area x body) = nat_le x greatest
is_declared_before around s = false

-- rule 20: no call stands inside an area
abbrev pub is_call : StmtTree → Bool
is_call (calls port item es vs s) = true
is_call (calls_and_goes_on port item es s) = true
is_call s = false

abbrev pub calls_inside : Test
calls_inside around s = is_some around && is_call s

-- rule 18: a program costs at most 100,000 and has at most 256 variables
abbrev pub is_too_large : ProgramTree → Bool
is_too_large p = nat_lt 100000 (body_cost p.body) || nat_lt 256 p.vars

-- the statements of a program that fail a test
abbrev pub failing : Test → ProgramTree → List (List ℕ)
failing fails p = failing_among fails None 0 p.body

-- the whole program is one place, the empty path
abbrev pub whole : Bool → List (List ℕ)
whole true = [] ∷ []
whole false = []

-- each place with the rule that is broken there
abbrev pub of_rule : ℕ → List (List ℕ) → List (ℕ × List ℕ)
of_rule rule paths = map (λ path. (rule, path)) paths

-- what is broken of a program: rule by rule, each at its places
abbrev pub broken : List AccessSig → ProgramTree → List (ℕ × List ℕ)
broken accesses p = of_rule 17 (failing (lacks_access accesses) p) ++ (of_rule 18 (whole (is_too_large p)) ++ (of_rule 19 (failing is_declared_before p) ++ of_rule 20 (failing calls_inside p)))

-- the refusal of a program: the least rule that it breaks, with the first place
abbrev pub refusal : List AccessSig → ProgramTree → Option (ℕ × List ℕ)
refusal accesses p = first (broken accesses p)

-- an answer tells the refusal, and that memory ran out only if there is one
abbrev pub Tells : {U : Type 0} → Option (ℕ × List ℕ) → Result U ProgramRefused → Type 0
Tells refused (Ok u) = refused ≡ None
Tells refused (Err (Broken rule path)) = refused ≡ Some (rule, path)
Tells refused (Err Memory) = is_some refused ≡ true
