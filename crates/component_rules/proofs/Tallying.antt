-- What the loop that tallies knows.
use Rattle.std.proofs.Common.{ℕ, zero, suc, Option, Some, None, Bool, true}
use Rattle.component_rules.specs.Tallies.{again_in}

-- what is known of a key after so many more
abbrev pub after : Option Bool → ℕ → Option Bool
after None n = again_in n
after (Some again) zero = Some again
after (Some again) (suc n) = Some true
