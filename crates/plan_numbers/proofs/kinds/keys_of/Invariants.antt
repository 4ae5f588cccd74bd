use Rattle.std.proofs.Common.{◌≡◌, take}
use Rattle.plan_definitions.specs.Keys.{keys_of}
use Rattle.plan_numbers.proofs.kinds.keys_of.Given as goal

abbrev pub invariant-loop-site : goal.invariant-loop-site
invariant-loop-site l = l.keys.items ≡ keys_of (take l.site-index l.sites)
