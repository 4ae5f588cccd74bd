-- What is kept of all activations along a trace, and what it stands for in a history (SWS_RTE: runnable activation). A key is a runnable, with
-- a point if it serves a server without a queue. Histories stand the newest first.
use Rattle.std.specs.Prelude.{◌≡◌, ℕ, List, ◌∷◌, length, slice_get, Bool, true, false, not, ◌&&◌, Option, Some, None}
use Rattle.bus_semantics.specs.Common.{ActKey, same_number, Plan, look, caller_of, runnable_of_event, History, key_fits, asked_last, direct_key, starts_or_goes_on, plain_key}
use Rattle.bus_semantics.specs.declared.entries.Deed.{Deed}
use Rattle.bus_semantics.specs.declared.entries.Deed.TheVariants as deed
use Rattle.task_machine.specs.declared.instr.TaskSet.{TaskSet}
use Rattle.trace_walks.specs.declared.walk.Walk.{Walk}
use Rattle.trace_walks.specs.declared.walks.Walks.{Walks}
use Rattle.trace_walks.specs.Walking.{WalkStands, entry_of, goes}

-- ---- what they stand for

-- one for each runnable, and one for each point: at most one key with that point fits, and none if the point has no direct server
pub record WalksStand (t : TaskSet) (p : Plan) (h : History) (ws : Walks) : Type 0 where
  pub runnables : length ws.plain.items ≡ length p.runnables
  pub points : length ws.direct.items ≡ length p.points
  pub plain : (r : ℕ) (w : Walk) → slice_get ws.plain.items r ≡ Some w → WalkStands t p (plain_key r) h w
  pub direct : (k : ActKey) (q : ℕ) (w : Walk) → k.point ≡ Some q → key_fits p k ≡ true → slice_get ws.direct.items q ≡ Some w → WalkStands t p k h w
  pub idle : (q : ℕ) (w : Walk) → direct_key p q ≡ None → slice_get ws.direct.items q ≡ Some w → w.running ≡ None
  pub outside : (r : ℕ) → slice_get ws.plain.items r ≡ None → asked_last (plain_key r) h ≡ None

-- the walk at this place goes on by the deed, and the others stay
pub record NotedAt (t : TaskSet) (p : Plan) (k : ActKey) (d : Deed) (at : ℕ) (old new : List Walk) : Type 0 where
  pub whole : length new ≡ length old
  pub here : (h : History) → starts_or_goes_on p h k d ≡ true → (before after : Walk) → slice_get old at ≡ Some before → slice_get new at ≡ Some after
      → WalkStands t p k h before → WalkStands t p k (entry_of k d ∷ h) after
  pub others : (i : ℕ) → (i ≡ at → ⊥) → slice_get new i ≡ slice_get old i

-- the walk of the key goes on by the deed, and the others stay
abbrev pub KeyNoted : TaskSet → Plan → ActKey → Deed → (old new : Walks) → Type 0
KeyNoted t p k d old new = by_point k.point
  where
    by_point : Option ℕ → Type 0
    by_point None = NotedAt t p k d k.runnable old.plain.items new.plain.items × (new.direct.items ≡ old.direct.items)
    by_point (Some q) = NotedAt t p k d q old.direct.items new.direct.items × (new.plain.items ≡ old.plain.items)

-- the walk at this place waits no more, and the others stay
pub record FreedAt (at : ℕ) (old new : List Walk) : Type 0 where
  pub whole : length new ≡ length old
  pub here : (before after : Walk) → slice_get old at ≡ Some before → slice_get new at ≡ Some after
      → after ≡ record { running = before.running; asked = before.asked; held = false }
  pub others : (i : ℕ) → (i ≡ at → ⊥) → slice_get new i ≡ slice_get old i

-- the walk of the caller at the point, if it has one, waits no more, and the others stay
abbrev pub CallerFreed : Plan → (point : ℕ) → (old new : Walks) → Type 0
CallerFreed p q old new = by_caller (caller_of p q) × (new.direct.items ≡ old.direct.items)
  where
    by_caller : Option ℕ → Type 0
    by_caller None = new.plain.items ≡ old.plain.items
    by_caller (Some r) = FreedAt r old.plain.items new.plain.items

-- the end of a direct activation frees its caller; no other deed frees anyone
abbrev pub Freed : Plan → ActKey → Deed → (old new : Walks) → Type 0
Freed p k deed.End old new = at_point k.point
  where
    at_point : Option ℕ → Type 0
    at_point None = new ≡ old
    at_point (Some q) = CallerFreed p q old new
Freed p k d old new = new ≡ old

-- an entry of the key: its walk goes on, then who waited for it is freed
pub record IsNoted (t : TaskSet) (p : Plan) (k : ActKey) (d : Deed) (old new : Walks) : Type 0 where
  pub between : Walks
  pub gone : KeyNoted t p k d old between
  pub freed : Freed p k d between new

-- ---- what they answer

-- the walk of a key
abbrev pub walk_of : Walks → ActKey → Option Walk
walk_of ws k = by_point k.point
  where
    by_point : Option ℕ → Option Walk
    by_point None = slice_get ws.plain.items k.runnable
    by_point (Some q) = slice_get ws.direct.items q

-- the point of a runnable's last entry, if that is an accepted ask
abbrev pub asked_by : Walks → ℕ → Option ℕ
asked_by ws r = look ws.plain.items r (λ (w : Walk). w.asked) None

-- whether the caller of the key's point, if it has one, has asked there last
abbrev pub is_called : Plan → Walks → ActKey → Bool
is_called p ws k = at_point k.point
  where
    by_caller : ℕ → Option ℕ → Bool
    by_caller q None = false
    by_caller q (Some r) = same_number (asked_by ws r) (Some q)

    at_point : Option ℕ → Bool
    at_point None = true
    at_point (Some q) = by_caller q (caller_of p q)

-- whether a key may start by this event
abbrev pub may_begin : Plan → Walks → ActKey → Walk → (event : ℕ) → Bool
may_begin p ws k w event = (same_number (runnable_of_event p event) (Some k.runnable) && not (goes w)) && is_called p ws k
