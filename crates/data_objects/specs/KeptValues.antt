-- What a group of joined unqueued data elements keeps, and what each call makes of it (SWS_RTE: Rte_Write, Rte_Read, Rte_IRead,
-- Rte_IWrite, Rte_Invalidate, Rte_IsUpdated, DataReceivedEvent).
use Rattle.std.specs.Prelude.{ℕ, List, length, replicate, set, Bool, true, false, Option, Some, None, slice_get}
use Rattle.bus_semantics.specs.Common.{option_or, Value}

pub record Kept : Type 0 where
  -- what no call changes: the initial value of each receiver, and the receiver of each event
  pub inits : List Value
  pub events : List ℕ
  -- the last value that was written or published; none if nothing was
  pub stored : Option Value
  -- the last write, publication or invalidation is an invalidation
  pub invalid : Bool
  -- for each receiver: a write or publication came after its last read
  pub updated : List Bool
  -- for each event: a write or publication came after its last start
  pub due : List Bool

-- nothing has happened yet
abbrev pub fresh : List Value → List ℕ → Kept
fresh inits events = record {
  inits = inits;
  events = events;
  stored = None;
  invalid = false;
  updated = replicate (length inits) false;
  due = replicate (length events) false;
}

-- a write or publication makes the group valid, every receiver updated and every event due
abbrev pub after_write : Value → Kept → Kept
after_write v k = record {
  inits = k.inits;
  events = k.events;
  stored = Some v;
  invalid = false;
  updated = replicate (length k.updated) true;
  due = replicate (length k.due) true;
}

-- an invalidation changes no value, no update flag and no pending event
abbrev pub after_invalidation : Kept → Kept
after_invalidation k = record { inits = k.inits; events = k.events; stored = k.stored; invalid = true; updated = k.updated; due = k.due }

-- a read clears the update flag of its receiver
abbrev pub after_read : (receiver : ℕ) → Kept → Kept
after_read r k = record { inits = k.inits; events = k.events; stored = k.stored; invalid = k.invalid; updated = set k.updated r false; due = k.due }

-- a start clears the pending event
abbrev pub after_start : (event : ℕ) → Kept → Kept
after_start e k = record { inits = k.inits; events = k.events; stored = k.stored; invalid = k.invalid; updated = k.updated; due = set k.due e false }

-- the value of a receiver: the last one stored, else its initial value; none for a receiver that there is not
abbrev pub value_for : (receiver : ℕ) → Kept → Option Value
value_for r k = option_or k.stored (slice_get k.inits r)
