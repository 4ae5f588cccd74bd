-- The clause that an entry breaks which is not what the bus answers, by the number that `check` prints.
use Rattle.std.specs.Prelude.{ℕ, Bool, false, not, if◌then◌else◌, Option, Some, None}
use Rattle.bus_laws.specs.Common.{Actor, Deed, Entry}
use Rattle.bus_semantics.specs.declared.entries.Deed.TheVariants as deed
use Rattle.bus_semantics.specs.Calls.{is_key_point}
use Rattle.trace_objects.specs.declared.came.Came.{Came}
use Rattle.trace_objects.specs.declared.came.Came.TheVariants.{Itself, Another, Nothing}

-- the clause that speaks of a deed that is no start (of a start do calls, 9, and 13). Of the deeds after Admit none does, and none is refused
abbrev pub clause_of : Deed → ℕ
clause_of (deed.Fetch x value) = 7
clause_of (deed.FetchAll l value) = 7
clause_of (deed.Read x code value) = 7
clause_of (deed.IsUpdated x updated) = 7
clause_of (deed.Send x value code) = 8
clause_of (deed.Receive x code value) = 8
clause_of (deed.Ask q value code) = 9
clause_of (deed.Answer q code value) = 9
clause_of (deed.TakeResult q code value) = 9
clause_of (deed.Enter x) = 10
clause_of (deed.Switch m mode code) = 11
clause_of (deed.Mode port mode) = 11
clause_of (deed.Phase s) = 11
clause_of (deed.Admit admitted) = 12
clause_of _ = 13

-- a start that names another point than its key's
abbrev pub names_foreign : Actor → (point : Option ℕ) → Bool
names_foreign a None = false
names_foreign a (Some q) = not (is_key_point a q)

-- a start breaks the clause on calls if another one may come, or if it names another point than its key's; else it is not due
abbrev pub start_clause : Actor → (point : Option ℕ) → Came → ℕ
start_clause a point Another = 9
start_clause a point _ = if names_foreign a point then 9 else 13

abbrev pub clause_by : Actor → Deed → Came → ℕ
clause_by a (deed.Start event point value) came = start_clause a point came
clause_by a d came = clause_of d

abbrev pub broken_by : Entry → Came → Option ℕ
broken_by e Itself = None
broken_by e Another = Some (clause_by e.actor e.deed Another)
broken_by e Nothing = Some (clause_by e.actor e.deed Nothing)
