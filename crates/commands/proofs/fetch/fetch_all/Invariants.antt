use Rattle.std.proofs.Common.{◌≡◌, ℕ, Bor, List, map, take}
use Rattle.commands.specs.Fetching.{counts_of, AreFetchedSo}
use Rattle.commands.proofs.fetch.fetch_all.Given as goal

abbrev pub invariant-loop-name : goal.invariant-loop-name
invariant-loop-name g l =
    (l.place ≡ l.name-index) × (g.S.Shelf.files l.shelf ≡ g.S.Shelf.files l.fn.shelf) × AreFetchedSo (g.S.Shelf.files l.fn.shelf) (map (λ (name : Bor (List ℕ)). name.now) (take l.name-index l.names)) (map (λ file. file.items) l.files.items)
    (counts_of (g.S.Shelf.faults l.fn.shelf) (g.S.Shelf.long_files l.fn.shelf)) (counts_of (g.S.Shelf.faults l.shelf) (g.S.Shelf.long_files l.shelf)) (g.S.Shelf.fetches l.fn.shelf) (g.S.Shelf.fetches l.shelf)
