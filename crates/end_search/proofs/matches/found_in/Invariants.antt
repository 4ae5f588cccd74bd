use Rattle.std.proofs.Common.{ℕ, ◌<◌, ◌↔◌}
use Rattle.description_types.specs.Items.{IsSameName}
use Rattle.description_types.specs.Members.{Among}
use Rattle.end_search.proofs.matches.found_in.Given as goal

abbrev pub invariant-loop-number : goal.invariant-loop-number
invariant-loop-number l = (i j : ℕ) → Among (i, j) l.pairs.items ↔ (IsSameName l.names l.others i j × (i < l.number))
