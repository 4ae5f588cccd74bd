-- The elements that a runnable fetches and publishes, in declared order (SWS_RTE: implicit access by Rte_IRead, Rte_IWrite, Rte_IrvIRead,
-- Rte_IrvIWrite).
use Rattle.std.specs.Prelude.{ℕ, List, [], ◌∷◌, Bool, if◌then◌else◌}
use Rattle.bus_semantics.specs.Common.{AccessKind, AccessSig, Runnable, to_fetch, keep_fetched, words_in, Running, nothing, both, calling, is_read_early, is_written_late, publishing_one}

-- the kinds of access that fetch, or else those that publish
abbrev pub is_implicit : (fetches : Bool) → AccessKind → Bool
is_implicit fetches k = if fetches then is_read_early k else is_written_late k

-- what the accesses of these kinds name
abbrev pub named : (AccessKind → Bool) → List AccessSig → List ℕ → List ℕ
named test (a ∷ more) (x ∷ xs) = if test a.kind then x ∷ named test more xs else named test more xs
named test _ _ = []

abbrev pub fetched_by : Runnable → List ℕ
fetched_by r = named is_read_early r.accesses r.targets

abbrev pub published_by : Runnable → List ℕ
published_by r = named is_written_late r.accesses r.targets

-- a fetch of each of these elements
abbrev pub fetching_each : List ℕ → Running
fetching_each [] = nothing
fetching_each (x ∷ xs) = both (calling (to_fetch x) (λ d. keep_fetched x (words_in d))) (fetching_each xs)

-- a publication of each of these elements that was written
abbrev pub publishing_each : List ℕ → Running
publishing_each [] = nothing
publishing_each (x ∷ xs) = both (publishing_one x) (publishing_each xs)
