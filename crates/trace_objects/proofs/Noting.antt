-- What may come of its own, after an entry on an object.
use Rattle.std.proofs.Common.{◌≡◌, ℕ, ◌+◌, ◌<◌, Bool, true, false, refl, sym, ◌∙◌, ap, subst, arith, List, length, set, get_or, Contains, Some}
use Rattle.std.specs.Prelude.{unwrap_or}
use Rattle.bus_semantics.specs.Common.{slice_get, false≢true, get_or_from_slice_get, same_Some, Plan, kind_of, Wanted, first_machine, object_of, object_of_kind, touched}
use Rattle.std.proofs.lemmas.List.{set-get_or}
use Rattle.bus_laws.specs.Common.{Actor, Deed}
use Rattle.object_kinds.specs.declared.acted.Shown.{Shown}
use Rattle.port_objects.specs.declared.object.Object.{Object}
use Rattle.port_objects.specs.Common.{IsHeld, kept_of, may_start_in, woken_in}
use Rattle.trace_objects.specs.Unrest.{AreAmong, IsHeldBack, IsLed, PhasesAmong, StartHeld, StartsAmong}
use Rattle.trace_objects.specs.declared.unrest.Unrest.{Unrest}
use Rattle.latches.proofs.Places.{Placed, here, there, placed}

-- ---- starts

module _ (p : Plan) (object : ℕ) (before now : Object) (d : Deed) (objects : List Object) (found : slice_get objects object ≡ Some before) where
  -- what the object still holds is held
  held_still : (e : ℕ) → (may_start_in (kept_of before) e ≡ false → may_start_in (kept_of now) e ≡ false) → StartHeld p objects e → StartHeld p (set objects object now) e
  held_still e still held = λ i o touch is. of_place i o touch (placed objects object now i o is)
    where
      of_place : (i : ℕ) (o : Object) → object_of_kind p (kind_of p e) ≡ Some i → Placed Object objects object now i o → may_start_in (kept_of o) e ≡ false
      of_place i o touch (here at same) = subst (λ x. may_start_in (kept_of x) e ≡ false) (sym same) (still (held object before (touch ∙ ap (λ n. Some n) at) found))
      of_place i o touch (there other is) = held i o touch is

  -- the object came to allow none
  pub starts_quiet : (events : List Bool) → ((e : ℕ) → may_start_in (kept_of before) e ≡ false → may_start_in (kept_of now) e ≡ false) → StartsAmong p objects events → StartsAmong p (set objects object now) events
  starts_quiet events still among = record { count = among.count; others = λ e within out mapped. held_still e (still e) (among.others e within out mapped) }

  module _ (led : IsLed p object before now d) where
    untold : (e : ℕ) → (Contains (woken_in now) e → ⊥) → may_start_in (kept_of before) e ≡ false → may_start_in (kept_of now) e ≡ false
    untold e none held = by_test (may_start_in (kept_of now) e) refl
      where
        by_test : (b : Bool) → may_start_in (kept_of now) e ≡ b → b ≡ false
        by_test false is = refl
        by_test true is = absurd (none (led.told e held is))

    -- those that it tells are put among the others
    pub starts_told : (events more : List Bool) → length more ≡ length events → ((n : ℕ) → get_or more n false ≡ false → get_or events n false ≡ false)
        → ((n : ℕ) → n < length events → Contains (woken_in now) n → get_or more n false ≡ true) → StartsAmong p objects events → StartsAmong p (set objects object now) more
    starts_told events more count kept inserted among = record {
      count = count ∙ among.count;
      others = λ e within out mapped.
          let inside : e < length events = omega (arith, within, count) in
          held_still e (untold e (λ tells. false≢true (sym out ∙ inserted e inside tells))) (among.others e inside (kept e out) mapped);
    }

-- ---- phases

-- the machine that is the object is put among the others
pub phases_noted : (p : Plan) (object : ℕ) (now : Object) (objects : List Object) (machines more : List Bool) → length more ≡ length machines → ((n : ℕ) → get_or more n false ≡ false → get_or machines n false ≡ false)
    → ((n : ℕ) → object ≡ first_machine p + n → n < length machines → get_or more n false ≡ true) → PhasesAmong p objects machines → PhasesAmong p (set objects object now) more
phases_noted p object now objects machines more count kept inserted among = record {
  count = count ∙ among.count;
  others = λ n within out o is.
      let inside : n < length machines = omega (arith, within, count) in
      elim (placed objects object now (first_machine p + n) o is) [
        | here at same ↦ absurd (false≢true (sym out ∙ inserted n (sym at) inside))
        | there other found ↦ among.others n inside (kept n out) o found
      ];
}

-- ---- where none came

pub among_still : (p : Plan) (object : ℕ) (old new : Object) (objects : List Object) (u : Unrest) → slice_get objects object ≡ Some old → new ≡ old → AreAmong p objects u → AreAmong p (set objects object new) u
among_still p object old new objects u found same among =
    let whole : set objects object new ≡ objects = ap (set objects object) (same ∙ sym (get_or_from_slice_get objects object old old found)) ∙ set-get_or objects object old in
    subst (λ xs. AreAmong p xs u) (sym whole) among

pub held_back : (p : Plan) (a : Actor) (w : Wanted) (objects : List Object) (object : ℕ) (old new : Object) (shown : Shown) → slice_get objects object ≡ Some old → Some object ≡ object_of p a w → IsHeld p (touched p a w) a w old new shown
    → (i : ℕ) (o : Object) → object_of p a w ≡ Some i → slice_get objects i ≡ Some o → IsHeldBack p i a w o
held_back p a w objects object old new shown found touching held i o touch is =
    let number : touched p a w ≡ i = ap (λ x. unwrap_or x 0) touch in
    let place : object ≡ i = same_Some object i (touching ∙ touch) in
    let same : old ≡ o = same_Some old o (sym found ∙ ap (slice_get objects) place ∙ is) in
    subst (λ n. IsHeldBack p n a w o) number (subst (IsHeldBack p (touched p a w) a w) same (record { none = held.none; flag = held.flag }))
