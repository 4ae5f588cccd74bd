-- What of a plan belongs to a group of queued data elements (SWS_RTE: Rte_Send, Rte_Receive, DataReceivedEvent).
use Rattle.std.specs.Prelude.{◌≡◌, ℕ, ◌<◌, ◌==◌, List, length, filter, Bool, true, false, unwrap_or}
use Rattle.bus_semantics.specs.Common.{list_all, Plan, look, kind_of, positions, is_queued, is_receiver_in}
use Rattle.bus_laws.specs.Common.{ElemPlan, EventKind, DataReceived}
use Rattle.object_kinds.specs.Layout.{members_of, place, element_in}

-- ---- elements

-- a receiver of the group: required, with a join (Rte_Receive). These are the elements of which a Send asks whether their queue is full
abbrev pub is_receiver_at : Plan → (group : ℕ) → (elem : ℕ) → Bool
is_receiver_at p g x = look p.elements x (is_receiver_in g) false

-- the receivers of a group, in rising order
abbrev pub receivers_of : Plan → (group : ℕ) → List ℕ
receivers_of p g = filter (is_receiver_at p g) (positions (length p.elements))

abbrev pub is_queued_at : Plan → (elem : ℕ) → Bool
is_queued_at p x = look p.elements x is_queued false

abbrev pub is_joined_at : Plan → (elem : ℕ) → Bool
is_joined_at p x = look p.elements x (λ (e : ElemPlan). e.joined) false

-- how many words a value of an element has
abbrev pub words_at : Plan → (elem : ℕ) → ℕ
words_at p x = look p.elements x (λ (e : ElemPlan). e.words) 0

-- how many words a value of a group has: as many as one of its first element
abbrev pub words_in : Plan → (group : ℕ) → ℕ
words_in p g = look (members_of p g) 0 (words_at p) 0

-- ---- events

-- a DataReceivedEvent of a receiver of the group. Another element of the group receives nothing
abbrev pub waits_for_receiver : Plan → (group : ℕ) → EventKind → Bool
waits_for_receiver p g (DataReceived x) = is_receiver_at p g x
waits_for_receiver p g _ = false

-- the receiver that an event waits for: a place among the receivers of the group
abbrev pub receiver_of : Plan → (group : ℕ) → (event : ℕ) → ℕ
receiver_of p g e = unwrap_or (place (element_in (kind_of p e)) (receivers_of p g)) 0

-- ---- groups

-- the group is one of the plan's, each of its elements is queued, and all have as many words
pub record IsQueuedGroup (p : Plan) (group : ℕ) : Type 0 where
  pub number : group < length p.groups
  pub queued : list_all (is_queued_at p) (members_of p group) ≡ true
  pub alike : list_all (λ x. words_at p x == words_in p group) (members_of p group) ≡ true
