-- What no stall rests on: what activations ask, and what legal histories keep.
use Rattle.std.proofs.Common.{◌≡◌, ℕ, ℤ, ◌==◌, true, false, List, [], length, Some, is_some, nat_lt, nat_le, slice_get}
use Rattle.bus_semantics.specs.Common.{list_all, ActKey, Plan, Runnable, server_of, disabling_of, Wanted, to_admit, to_hear, to_enter, to_end, is_start, History, noted, runs, direct_key}
use Rattle.bus_semantics.specs.Common.{caller_has_asked, plain_key, is_held, has_unstarted, serves_directly, next_of_activity, IsLegal}
use Rattle.bus_laws.specs.Common.{ServerPlan, Mapping, Deed}
use Rattle.history_laws.specs.Followed.{IsActivation, AsksNext, HasJustAsked}
use Rattle.history_laws.specs.OpenAreas.{open_areas, comes_outside}
use Rattle.history_laws.specs.Given.{words_given}
use Rattle.history_laws.specs.Wishes.{is_of_a_call, is_awaited}
use Rattle.history_laws.specs.Running.{GoesOn}
use Rattle.history_laws.specs.Holding.{HasHolder}
use Rattle.history_laws.specs.Serving.{IsOpen, IsQueuedOrServed, IsBegunOrServed}

pub record Laws (p : Plan) (m : Mapping) : Type 0 where
  pub short : (k : ActKey) (r : Runnable) (event : ℕ) (start : List ℤ) (answers : List Deed) (w : Wanted) →
      IsActivation p m k r event → next_of_activity p r event start answers ≡ Some w → nat_le (length (words_given w)) 16 ≡ true
  pub begun : (k : ActKey) (r : Runnable) (event : ℕ) (start : List ℤ) (answers : List Deed) (w : Wanted) →
      IsActivation p m k r event → next_of_activity p r event start answers ≡ Some w → is_start w ≡ false
  pub ends : (k : ActKey) (r : Runnable) (event : ℕ) (start : List ℤ) (answers : List Deed) (other : ℕ) →
      IsActivation p m k r event → next_of_activity p r event start answers ≡ Some (to_end other) → other ≡ event
  pub admits : (k : ActKey) (r : Runnable) (event other : ℕ) (start : List ℤ) (answers : List Deed) →
      IsActivation p m k r event → next_of_activity p r event start answers ≡ Some (to_admit other) → other ≡ event
  pub once : (k : ActKey) (r : Runnable) (event other : ℕ) (start : List ℤ) (answers : List Deed) →
      IsActivation p m k r event → AsksNext p r event start answers (to_admit other) → answers ≡ []
  pub disabled : (k : ActKey) (r : Runnable) (event other : ℕ) (start : List ℤ) (answers : List Deed) →
      IsActivation p m k r event → next_of_activity p r event start answers ≡ Some (to_admit other) → is_some (disabling_of p event) ≡ true
  pub accepted : (k : ActKey) (r : Runnable) (event point : ℕ) (start : List ℤ) (answers : List Deed) →
      IsActivation p m k r event → AsksNext p r event start answers (to_hear point) → HasJustAsked point answers
  pub waits : (k : ActKey) (r : Runnable) (event point : ℕ) (start : List ℤ) (answers : List Deed) →
      IsActivation p m k r event → next_of_activity p r event start answers ≡ Some (to_hear point) → is_awaited p point ≡ true
  pub callless : (k : ActKey) (r : Runnable) (event : ℕ) (start : List ℤ) (answers : List Deed) (w : Wanted) →
      IsActivation p m k r event → serves_directly p k ≡ true → next_of_activity p r event start answers ≡ Some w → is_of_a_call w ≡ false
  pub enter : (k : ActKey) (r : Runnable) (event area : ℕ) (start : List ℤ) (answers : List Deed) →
      IsActivation p m k r event → AsksNext p r event start answers (to_enter area) → list_all (λ x. nat_lt x area) (open_areas answers) ≡ true
  pub outside : (k : ActKey) (r : Runnable) (event : ℕ) (start : List ℤ) (answers : List Deed) (w : Wanted) →
      IsActivation p m k r event → AsksNext p r event start answers w → comes_outside w ≡ true → open_areas answers ≡ []
  pub going : (h : History) (k : ActKey) → IsLegal p h → runs k h ≡ true → GoesOn p h k
  pub held : (h : History) (area : ℕ) → IsLegal p h → is_held area (noted h) ≡ true → HasHolder area h
  pub queued : (h : History) (point server : ℕ) (v : ServerPlan) (most : ℕ) → IsLegal p h →
      server_of p point ≡ Some server → slice_get p.servers server ≡ Some v → v.queue ≡ Some most → IsOpen point h →
      IsQueuedOrServed p server point (plain_key v.runnable) h
  pub direct : (h : History) (point : ℕ) (k : ActKey) → IsLegal p h → direct_key p point ≡ Some k → IsOpen point h → IsBegunOrServed p point k h
  pub unstarted : (h : History) (point : ℕ) (k : ActKey) → IsLegal p h →
      direct_key p point ≡ Some k → has_unstarted (λ q. point == q) (noted h) ≡ true → caller_has_asked p h k ≡ true
