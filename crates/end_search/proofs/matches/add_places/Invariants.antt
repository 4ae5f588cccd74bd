use Rattle.std.proofs.Common.{◌≡◌, ℕ, ◌↔◌, ◌⊎◌, take}
use Rattle.description_types.specs.Members.{Among}
use Rattle.end_search.proofs.matches.add_places.Given as goal

abbrev pub invariant-loop-place : goal.invariant-loop-place
invariant-loop-place l = (i j : ℕ) → Among (i, j) l.pairs.items ↔ (Among (i, j) l.fn.pairs.items ⊎ ((i ≡ l.number) × Among j (take l.place-index l.places)))
