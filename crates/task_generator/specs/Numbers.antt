-- The numbers by which the instructions that instances share name the accesses of a signature. The first one is number 1, and 0 names none.
use Rattle.std.specs.Prelude.{ℕ, suc, List, [], ◌∷◌, Bool, true, if◌then◌else◌}
use Rattle.bus_semantics.specs.Common.{AccessKind, AccessSig, Access, is_to, found, is_read_early, is_written_late}

-- accesses that fetch are counted among themselves, those that publish too, and the others among all
abbrev pub counts_among : AccessKind → (counted : AccessKind) → Bool
counts_among k j = if is_read_early k then is_read_early j else (if is_written_late k then is_written_late j else true)

-- the next numbers, after an access of this kind
abbrev pub counted : AccessKind → (AccessKind → ℕ) → AccessKind → ℕ
counted j next k = if counts_among k j then suc (next k) else next k

-- the numbers of accesses, of which the first of each kind has the next number of its kind
abbrev pub numbers_from : (AccessKind → ℕ) → List AccessSig → List ℕ
numbers_from next [] = []
numbers_from next (a ∷ more) = next a.kind ∷ numbers_from (counted a.kind next) more

abbrev pub numbers : List AccessSig → List ℕ
numbers s = numbers_from (λ k. 1) s

-- the access to this item by a statement of this kind, with its number
abbrev pub numbered : List AccessSig → AccessKind → (port : ℕ) → (item : ℕ) → Access
numbered s k port item = found (is_to k port item) s (numbers s)
