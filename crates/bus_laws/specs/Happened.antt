-- What happened, as relations that laws tie to recursions over a past: what makes an event due, what a phase owes and is done, and what
-- a queue accepted (SWS_RTE: activation of runnable entities, mode switch procedure, Rte_Send). Entries stand the newest first, accepted
-- values the oldest first.
use Rattle.std.specs.Prelude.{◌≡◌, ◌<◌, ℕ, suc, ◌+◌, ◌%◌, ℤ, List, [], ◌∷◌, ◌++◌, length, Bool, true, false, ◌||◌, Some}
use Rattle.bus_semantics.specs.Common.{list_any, Plan, Past, Noted, phase_of, is_phase, is_start_by, is_end_by, sent_to, taken_at, accepted_at, places_at, ticks}
use Rattle.bus_semantics.specs.declared.entries.Deed.TheVariants as deed

-- an entry did it, and neither it nor a later one is a start
pub record HappenedSince (starts : Noted → Bool) (happened : Noted → Past → Bool) (h : Past) : Type 0 where
  pub later : Past
  pub cause : Noted
  pub before : Past
  pub whole : h ≡ later ++ cause ∷ before
  pub no_start : list_any starts (later ++ cause ∷ []) ≡ false
  pub did : happened cause before ≡ true

-- a tick whose number is a multiple of the period, with no start by the event after it
pub record TickedSince (event period : ℕ) (h : Past) : Type 0 where
  pub later : Past
  pub tick : Noted
  pub before : Past
  pub whole : h ≡ later ++ tick ∷ before
  pub no_start : list_any (is_start_by event) later ≡ false
  pub is_tick : tick.entry.deed ≡ deed.Tick
  pub multiple : suc (ticks before) % period ≡ 0

-- a start by the event and the end of that activation, which is the first end by the event after it; both after the machine's last phase
pub record DoneInPhase (machine event : ℕ) (h : Past) : Type 0 where
  pub later : Past
  pub ended : Noted
  pub between : Past
  pub started : Noted
  pub before : Past
  pub whole : h ≡ later ++ ended ∷ (between ++ started ∷ before)
  pub no_phase : list_any (λ n. is_phase (phase_of machine n)) (later ++ ended ∷ (between ++ started ∷ [])) ≡ false
  pub starts : is_start_by event started ≡ true
  pub ends : is_end_by event ended ≡ true
  pub same_activation : list_any (λ n. is_start_by event n || is_end_by event n) between ≡ false

-- the value that an element's queue accepted after `place` others: the value of a send that found fewer values accepted and not taken
-- than the queue has places
pub record IsAccepted (p : Plan) (elem place : ℕ) (words : List ℤ) (h : Past) : Type 0 where
  pub later : Past
  pub send : Noted
  pub before : Past
  pub whole : h ≡ later ++ send ∷ before
  pub sent : sent_to p elem send.entry.deed ≡ Some words
  pub after : length (accepted_at p elem before) ≡ place
  pub room : place < taken_at elem before + places_at p elem
