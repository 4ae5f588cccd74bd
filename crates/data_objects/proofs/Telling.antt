-- What a write or a publication tells is exactly what it made pending.
use Rattle.std.proofs.Common.{◌≡◌, ℕ, zero, suc, Bool, true, false, refl, sym, ◌∙◌, ap, subst, List, [], ◌∷◌, length, replicate, Option, Some, None}
use Rattle.bus_semantics.specs.Common.{Contains, slice_get, false≢true, Value}
use Rattle.bus_semantics.specs.declared.entries.Deed.{Deed}
use Rattle.data_objects.specs.Flags.{IsOfClear}
use Rattle.data_objects.specs.KeptValues as data_kept
use Rattle.object_kinds.specs.Common.{place, is_set, is_pending, is_rising}
use Rattle.object_kinds.proofs.Flags.{flag_is}
use Rattle.object_kinds.proofs.Options.{clash}
use Rattle.object_kinds.proofs.Placing.{place_at}
use Rattle.object_kinds.proofs.Rising.{place_here}
use Rattle.data_objects.specs.Acting.{Tells}
use Rattle.data_objects.specs.Kept.{GroupState, may_start}
use Rattle.data_objects.specs.Leading.{wakes}

-- a group by its parts
abbrev pub state : (events : List ℕ) → data_kept.Kept → (woken : List ℕ) → GroupState
state events k woken = record { kept = record { events = events; unqueued = k }; woken = woken }

-- an event that there is not is not pending after a write either
was_clear : (due : List Bool) (i : ℕ) → is_set due i ≡ false → is_set (replicate (length due) true) i ≡ true → slice_get due i ≡ Some false
was_clear [] i off on = absurd (false≢true on)
was_clear (b ∷ due) zero off on = ap (λ c. Some c) off
was_clear (b ∷ due) (suc i) off on = was_clear due i off on

all_on : (due : List Bool) (i : ℕ) (b : Bool) → slice_get due i ≡ Some b → is_set (replicate (length due) true) i ≡ true
all_on [] i b there = absurd (cc there)
all_on (c ∷ due) zero b there = refl
all_on (c ∷ due) (suc i) b there = all_on due i b there

-- each event has its number in the plan as its name
module _ (events names : List ℕ) (k new : data_kept.Kept) (value : Value) where
  pub came : (woken : List ℕ) → names ≡ events → new ≡ data_kept.after_write value k → ((i name : ℕ) → slice_get k.due i ≡ Some false → slice_get names i ≡ Some name → Contains woken name)
      → (event : ℕ) → is_pending k.due (place event events) ≡ false → is_pending new.due (place event events) ≡ true → Contains woken event
  came woken named writes told event off on = by_place (place event events) refl off (subst (λ (z : data_kept.Kept). is_pending z.due (place event events) ≡ true) writes on)
    where
      by_place : (at : Option ℕ) → place event events ≡ at → is_pending k.due at ≡ false → is_pending (data_kept.after_write value k).due at ≡ true → Contains woken event
      by_place None there off on = absurd (false≢true on)
      by_place (Some i) there off on = told i event (was_clear k.due i off on) (ap (λ xs. slice_get xs i) named ∙ place_at event events i there)

  pub made : is_rising events ≡ true → names ≡ events → new ≡ data_kept.after_write value k → (event : ℕ) → IsOfClear k.due names event
      → (is_pending k.due (place event events) ≡ false) × (is_pending new.due (place event events) ≡ true)
  made up named writes event of =
      let there : place event events ≡ Some of.at = place_here events of.at event up (sym (ap (λ xs. slice_get xs of.at) named) ∙ of.named) in
      let was : is_set k.due of.at ≡ false = flag_is k.due of.at false of.clear in
      let now : is_set new.due of.at ≡ true = ap (λ (z : data_kept.Kept). is_set z.due of.at) writes ∙ all_on k.due of.at false of.clear in
      (ap (is_pending k.due) there ∙ was, ap (is_pending new.due) there ∙ now)

  pub write_tells : (before woken : List ℕ) → is_rising events ≡ true → names ≡ events → new ≡ data_kept.after_write value k
      → ((i name : ℕ) → slice_get k.due i ≡ Some false → slice_get names i ≡ Some name → Contains woken name) → ((name : ℕ) → Contains woken name → IsOfClear k.due names name)
      → (d : Deed) → wakes d ≡ true → Tells (state events k before) (state events new woken) d
  write_tells before woken up named writes told only d is = record { came = came woken named writes told; only = λ yes event among. made up named writes event (only event among); left = λ not. clash (wakes d) is not }

-- a deed that wakes nothing and leaves what was told
pub none_tells : (old new : GroupState) (d : Deed) → wakes d ≡ false → new.woken ≡ old.woken → ((event : ℕ) → may_start old.kept event ≡ false → may_start new.kept event ≡ false) → Tells old new d
none_tells old new d is same off = record {
  came = λ event was now. clash (may_start new.kept event) now (off event was);
  only = λ yes. clash (wakes d) yes is;
  left = λ not. same;
}
