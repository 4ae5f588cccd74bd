-- What an answer tells of a refusal: the number of the rule and the place, as text.
use Rattle.std.specs.Prelude.{◌≡◌, ℕ, List, Option, Some, None, Result, Ok, Err}
use Rattle.rte_text.specs.declared.refusal.Refused.{Refused}
use Rattle.rte_text.specs.declared.refusal.Refused.TheVariants.{Rule, Memory}

-- an answer tells the refusal; want of memory may come at any time
abbrev pub Tells : {U : Type 0} → Option (ℕ × List ℕ) → Result U Refused → Type 0
Tells refused (Ok u) = refused ≡ None
Tells refused (Err (Rule r)) = refused ≡ Some (r.rule, r.place)
Tells refused (Err Memory) = Unit
