-- What a body works on (SWS_RTE: implicit access by Rte_IRead, Rte_IWrite, Rte_IrvIRead, Rte_IrvIWrite).
use Rattle.std.specs.Prelude.{ℕ, ℤ, List, set, get_or, [], Option, Some, None}

-- its variables; the words that it fetched, and those that it is to publish, by slot. What was not written has none
pub record Store : Type 0 where
  pub vars : List ℤ
  pub fetched : List (List ℤ)
  pub written : List (Option (List ℤ))

abbrev pub with_vars : List ℤ → Store → Store
with_vars vars m = record { vars = vars; fetched = m.fetched; written = m.written }

abbrev pub with_fetched : (slot : ℕ) → List ℤ → Store → Store
with_fetched slot words m = record { vars = m.vars; fetched = set m.fetched slot words; written = m.written }

-- what was written before into the slot is gone
abbrev pub with_written : (slot : ℕ) → List ℤ → Store → Store
with_written slot words m = record { vars = m.vars; fetched = m.fetched; written = set m.written slot (Some words) }

-- what was fetched into a slot; nothing if there is no such slot
abbrev pub fetched_in : (slot : ℕ) → Store → List ℤ
fetched_in slot m = get_or m.fetched slot []

-- what was written last into a slot, if anything was
abbrev pub written_in : (slot : ℕ) → Store → Option (List ℤ)
written_in slot m = get_or m.written slot None

-- its words, or none
abbrev pub words_or_none : Option (List ℤ) → List ℤ
words_or_none None = []
words_or_none (Some words) = words
