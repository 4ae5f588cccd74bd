-- What the queues of joined queued elements keep, and what each call makes of it (SWS_RTE: Rte_Send, Rte_Receive, DataReceivedEvent).
use Rattle.std.specs.Prelude.{◌≡◌, ℕ, List, [], ◌∷◌, ◌++◌, length, map, drop, set, replicate, Bool, true, false, not, ◌||◌, nat_lt, if◌then◌else◌, Option, Some, slice_get}
use Rattle.std.specs.List.{list_any}
use Rattle.std.specs.Option.{option_map, unwrap_or}
use Rattle.rte_value.specs.declared.value.Value.{Value}
use Rattle.rte_value.specs.ShortValues.{empty_value}
use Rattle.queued_ports.specs.declared.received.Received.{Received}

-- the queue of a receiver
pub record Queue : Type 0 where
  -- how many values it may hold, which no call changes
  pub queue_length : ℕ
  -- the values that were sent and not yet received, the oldest first
  pub held : List Value
  -- a value was discarded since the last receive
  pub lost : Bool

pub record Kept : Type 0 where
  -- how many words a value has, which no call changes
  pub words : ℕ
  -- the queue of each receiver
  pub queues : List Queue
  -- the receiver of each event, which no call changes
  pub events : List ℕ
  -- for each event: its receiver's queue took a value after its last start
  pub due : List Bool

-- an empty queue, and queues to which nothing has happened yet
abbrev pub empty_queue : (queue_length : ℕ) → Queue
empty_queue n = record { queue_length = n; held = []; lost = false }

abbrev pub fresh : (lengths events : List ℕ) → (words : ℕ) → Kept
fresh lengths events words = record {
  words = words;
  queues = map empty_queue lengths;
  events = events;
  due = replicate (length events) false;
}

-- a queue takes a value if it has room; else the value is discarded there
abbrev pub has_room : Queue → Bool
has_room q = nat_lt (length q.held) q.queue_length

abbrev pub with_value : Value → Queue → Queue
with_value v q = record { queue_length = q.queue_length; held = q.held ++ v ∷ []; lost = q.lost }

abbrev pub with_loss : Queue → Queue
with_loss q = record { queue_length = q.queue_length; held = q.held; lost = true }

abbrev pub after_arrival : Value → Queue → Queue
after_arrival v q = if has_room q then with_value v q else with_loss q

-- the queue of this receiver takes a value
abbrev pub takes : List Queue → (receiver : ℕ) → Bool
takes queues r = unwrap_or (option_map has_room (slice_get queues r)) false

-- the events of the receivers whose queue takes a value become due
abbrev pub due_after : List Queue → (events : List ℕ) → (due : List Bool) → List Bool
due_after queues (r ∷ events) (d ∷ due) = (takes queues r || d) ∷ due_after queues events due
due_after queues _ _ = []

-- a value arrives at each queue
abbrev pub after_send : Value → Kept → Kept
after_send v k = record {
  words = k.words;
  queues = map (after_arrival v) k.queues;
  events = k.events;
  due = due_after k.queues k.events k.due;
}

-- 130 RTE_E_LIMIT exactly if one queue is full, else 0
abbrev pub answer_to_send : Kept → ℕ
answer_to_send k = if list_any (λ q. not (has_room q)) k.queues then 130 else 0

-- a receive takes the oldest value, and forgets what was lost, also if there is no value
abbrev pub after_taking : Queue → Queue
after_taking q = record { queue_length = q.queue_length; held = drop 1 q.held; lost = false }

abbrev pub after_receive : (receiver : ℕ) → Kept → Kept
after_receive r k = record {
  words = k.words;
  queues = unwrap_or (option_map (λ q. set k.queues r (after_taking q)) (slice_get k.queues r)) k.queues;
  events = k.events;
  due = k.due;
}

-- 131 RTE_E_NO_DATA and no words if the queue is empty; else the oldest value, with 64 RTE_E_LOST_DATA if one was discarded
-- since the last receive, and else with 0
abbrev pub received_of : Queue → Received
received_of q = oldest q.held
  where
    oldest : List Value → Received
    oldest [] = record { code = 131; value = empty_value }
    oldest (v ∷ _) = record { code = if q.lost then 64 else 0; value = v }

-- none for a receiver that there is not
abbrev pub answer_to_receive : (receiver : ℕ) → Kept → Option Received
answer_to_receive r k = option_map received_of (slice_get k.queues r)

-- a start clears the pending event
abbrev pub after_start : (event : ℕ) → Kept → Kept
after_start e k = record { words = k.words; queues = k.queues; events = k.events; due = set k.due e false }

-- an event with this name, at its place in the list of names, was not pending before and is pending now
pub record IsWoken (names : List ℕ) (before now : Kept) (name : ℕ) : Type 0 where
  pub event : ℕ
  pub named : slice_get names event ≡ Some name
  pub was : slice_get before.due event ≡ Some false
  pub is : slice_get now.due event ≡ Some true
