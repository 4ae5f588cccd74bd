-- How many looks are made at what is awake.
use Rattle.std.proofs.Common.{◌≡◌, ◌≢◌, ◌≤◌, ◌<◌, ◌+◌, ◌-◌, ℕ, zero, suc, Bool, true, false, if◌then◌else◌, List, [], length, set, get_or, get_or-set_other, refl, sym, ◌∙◌, ap, subst}
use Rattle.std.proofs.Common.{⊎_elim, arith, Option, Some}
use mathlib.Core.Logic.{dite}
use native.Mathlib.Decide.{ℕ_discrete}
use Rattle.bus_semantics.specs.Common.{slice_get, option_map_or, Plan}
use Rattle.port_objects.specs.Benches.{Work, IsFurther}
use Rattle.place_set.specs.Places.{NoneBetween}
use Rattle.task_machine.specs.declared.instr.TaskSet.{TaskSet}
use Rattle.task_slots.specs.declared.slot.Slot.{Slot}
use Rattle.task_slots.specs.Waiting.{flags, sum_below, looks_awake}
use Rattle.task_slots.proofs.Onward.{work_same}
use Rattle.task_slots.proofs.Counted.{sum_none, sum_next, sum_same, counts_on}
use Rattle.core_turn.specs.Awake.{AwakeState, IsSettled, SameBefore, looks_at_place}
use Rattle.core_turn.proofs.Awakes.{with_rows}

-- ---- one place

pub awake_place : (p : Plan) (slots : List Slot) (a : AwakeState) (i : ℕ) (s : Slot) (row : List Bool) → get_or a.slots i false ≡ true → slice_get slots i ≡ Some s → get_or a.events i [] ≡ row
    → looks_at_place p slots a i ≡ looks_awake p s (flags row)
awake_place p slots a i s row awake found is = λ j. if awake j then option_map_or (λ (x : Slot). looks_awake p x (flags (is j))) (found j) 0 else 0

pub asleep_place : (p : Plan) (slots : List Slot) (a : AwakeState) (i : ℕ) → get_or a.slots i false ≡ false → looks_at_place p slots a i ≡ 0
asleep_place p slots a i asleep = ap (λ (b : Bool). if b then option_map_or (λ (s : Slot). looks_awake p s (flags (get_or a.events i []))) (slice_get slots i) 0 else 0) asleep

-- before a place the same is awake, so as many looks are made
pub same_looks : (p : Plan) (slots : List Slot) (old new : AwakeState) (place : ℕ) → SameBefore place old new
    → sum_below (looks_at_place p slots new) place ≡ sum_below (looks_at_place p slots old) place
same_looks p slots old new place same = sum_same (looks_at_place p slots new) (looks_at_place p slots old) place
    (λ i low j. if same.slots i low j then option_map_or (λ (s : Slot). looks_awake p s (flags (same.events i low j))) (slice_get slots i) 0 else 0)

-- ---- a slot is settled

settled_slots : (p : Plan) (t : TaskSet) (s : Slot) (free : Bool) (place : ℕ) (old new : AwakeState) → IsSettled p t s free place old new → (i : ℕ) → i ≢ place → get_or new.slots i false ≡ get_or old.slots i false
settled_slots p t s true place old new settled i ne = ap (λ (a : AwakeState). get_or a.slots i false) settled ∙ get_or-set_other old.slots place i false false (λ e. omega (arith, ne, e))
settled_slots p t s false place old new settled i ne = ⊎_elim (λ same. ap (λ (a : AwakeState). get_or a.slots i false) same)
    (⊎_elim (λ waits. ap (λ (a : AwakeState). get_or a.slots i false) waits.changed ∙ get_or-set_other old.slots place i false false (λ e. omega (arith, ne, e)))
    (λ deaf. ap (λ (a : AwakeState). get_or a.slots i false) deaf.changed ∙ get_or-set_other old.slots place i false false (λ e. omega (arith, ne, e)))) settled

settled_events : (p : Plan) (t : TaskSet) (s : Slot) (free : Bool) (place : ℕ) (old new : AwakeState) → IsSettled p t s free place old new → new.events ≡ old.events
settled_events p t s true place old new settled = ap (λ (a : AwakeState). a.events) settled
settled_events p t s false place old new settled = ⊎_elim (λ same. ap (λ (a : AwakeState). a.events) same)
    (⊎_elim (λ waits. ap (λ (a : AwakeState). a.events) waits.changed) (λ deaf. ap (λ (a : AwakeState). a.events) deaf.changed)) settled

-- ---- a pass

-- from a place on the same is awake as at first
pub record SameFrom (place : ℕ) (first now : AwakeState) : Type 0 where
  pub slots : (i : ℕ) → place ≤ i → get_or now.slots i false ≡ get_or first.slots i false
  pub events : (i : ℕ) → place ≤ i → get_or now.events i [] ≡ get_or first.events i []

pub same_before : (place : ℕ) (a : AwakeState) → SameBefore place a a
same_before place a = record { slots = λ i low. refl; events = λ i low. refl }

-- the row of a further slot has changed
pub before_row : (place at : ℕ) (first a : AwakeState) (row : List Bool) → place ≤ at → SameBefore place first a → SameBefore place first (with_rows a (set a.events at row))
before_row place at first a row le so = record {
  slots = so.slots;
  events = λ i low. get_or-set_other a.events at i row [] (λ e. omega (arith, le, low, e)) ∙ so.events i low;
}

module _ (p : Plan) (t : TaskSet) (s : Slot) (free : Bool) (first a now : AwakeState) (at : ℕ) (row : List Bool) (settled : IsSettled p t s free at (with_rows a (set a.events at row)) now) where
  pub before_settled : (place : ℕ) → place ≤ at → SameBefore place first a → SameBefore place first now
  before_settled place le so =
      let one = before_row place at first a row le so in
      record {
        slots = λ i low. settled_slots p t s free at (with_rows a (set a.events at row)) now settled i (λ e. omega (arith, le, low, e)) ∙ one.slots i low;
        events = λ i low. ap (λ (rows : List (List Bool)). get_or rows i []) (settled_events p t s free at (with_rows a (set a.events at row)) now settled) ∙ one.events i low;
      }

  pub from_settled : (place : ℕ) → place ≤ at → SameFrom place first a → SameFrom (at + 1) first now
  from_settled place le so = record {
    slots = λ i far. settled_slots p t s free at (with_rows a (set a.events at row)) now settled i (λ e. omega (arith, far, e)) ∙ so.slots i (omega (arith, le, far));
    events = λ i far. ap (λ (rows : List (List Bool)). get_or rows i []) (settled_events p t s free at (with_rows a (set a.events at row)) now settled)
        ∙ (get_or-set_other a.events at i row [] (λ e. omega (arith, far, e)) ∙ so.events i (omega (arith, le, far)));
  }

sum_more : (f : ℕ → ℕ) (from to : ℕ) → from ≤ to → sum_below f from ≤ sum_below f to
sum_more f from zero le = let is : from ≡ 0 = omega arith in subst (λ n. sum_below f n ≤ 0) (sym is) (omega arith)
sum_more f from (suc to) le = dite (ℕ_discrete from (suc to))
    (λ is. subst (λ n. sum_below f n ≤ sum_below f (suc to)) (sym is) (omega arith))
    (λ ne. let far : sum_below f from ≤ sum_below f to = sum_more f from to (omega (arith, le, ne)) in omega (arith, far))

module _ (p : Plan) (slots : List Slot) (first a : AwakeState) (from behind : ℕ) (begun : from ≤ behind) (so : SameFrom behind first a) where
  -- none of these places is awake
  none_counts : (at : ℕ) → NoneBetween a.slots behind at → (i : ℕ) → behind ≤ i → i < at → looks_at_place p slots first i ≡ 0
  none_counts at none i low high = asleep_place p slots first i (sym (so.slots i low) ∙ none i low high)

  module _ (told now : Option Work) (counted : IsFurther told now [] (sum_below (looks_at_place p slots first) behind - sum_below (looks_at_place p slots first) from) 0) where
    -- up to a place behind which nothing is awake
    pub counted_to : (to : ℕ) → behind ≤ to → NoneBetween a.slots behind to
        → IsFurther told now [] (sum_below (looks_at_place p slots first) to - sum_below (looks_at_place p slots first) from) 0
    counted_to to le none = subst (λ n. IsFurther told now [] (n - sum_below (looks_at_place p slots first) from) 0) (sym (sum_none (looks_at_place p slots first) behind to le (none_counts to none))) counted

    -- the next slot that is awake
    pub counted_at : (at : ℕ) (s : Slot) (row : List Bool) (later : Option Work) → behind ≤ at → NoneBetween a.slots behind at → get_or a.slots at false ≡ true → slice_get slots at ≡ Some s → get_or a.events at [] ≡ row
        → IsFurther now later [] (looks_awake p s (flags row)) 0
        → IsFurther told later [] (sum_below (looks_at_place p slots first) (at + 1) - sum_below (looks_at_place p slots first) from) 0
    counted_at at s row later le none chosen found is look =
        let f : ℕ → ℕ = looks_at_place p slots first in
        let here : f at ≡ looks_awake p s (flags row) = awake_place p slots first at s row (sym (so.slots at le) ∙ chosen) found (sym (so.events at le) ∙ is) in
        let next : sum_below f (at + 1) ≡ sum_below f behind + f at = sum_next f behind at le (none_counts at none) in
        let grown : sum_below f from ≤ sum_below f behind = sum_more f from behind begun in
        let all : sum_below f (at + 1) - sum_below f from ≡ sum_below f behind - sum_below f from + looks_awake p s (flags row) = omega (arith, here, next, grown) in
        counts_on told now later _ _ _ all counted look

-- a pass over no slots
pub none_counted : (f : ℕ → ℕ) (from to : ℕ) (w : Option Work) → from ≡ to → IsFurther w w [] (sum_below f to - sum_below f from) 0
none_counted f from to w is =
    let none : sum_below f to - sum_below f from ≡ 0 = let e : sum_below f to ≡ sum_below f from = ap (sum_below f) (sym is) in omega (arith, e) in
    subst (λ n. IsFurther w w [] n 0) (sym none) (work_same w)

-- ---- a turn

-- from the first slot of the turn up to the last, and then up to the first
pub turn_counted : (p : Plan) (slots : List Slot) (a b : AwakeState) (first count : ℕ) (told mid now : Option Work) → first ≤ count → count ≡ length slots → SameBefore first a b
    → IsFurther told mid [] (sum_below (looks_at_place p slots a) count - sum_below (looks_at_place p slots a) first) 0
    → IsFurther mid now [] (sum_below (looks_at_place p slots b) first - sum_below (looks_at_place p slots b) 0) 0
    → IsFurther told now [] (sum_below (looks_at_place p slots a) (length slots)) 0
turn_counted p slots a b first count told mid now le all same back front =
    let f : ℕ → ℕ = looks_at_place p slots a in
    let grown : sum_below f first ≤ sum_below f count = sum_more f first count le in
    let kept : sum_below (looks_at_place p slots b) first ≡ sum_below f first = same_looks p slots a b first same in
    let whole : sum_below f (length slots) ≡ sum_below f count = ap (sum_below f) (sym all) in
    counts_on told mid now _ _ _ (omega (arith, grown, kept, whole)) back front
