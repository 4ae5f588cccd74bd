-- From what a step tells to what calls of a seat say.
use Rattle.std.proofs.Common.{◌≡◌, ◌<◌, ◌+◌, ◌%◌, ◌^◌, ℕ, suc, List, [], ◌∷◌, length, refl, sym, ◌∙◌, ap, subst, Option, Some, None}
use mathlib.Core.Option.{none}
use Rattle.atomic_table.specs.Table.{step, Allows}
use Rattle.bus_semantics.specs.declared.entries.Entry.{Entry}
use Rattle.bus_semantics.specs.Objects.{touched_by}
use Rattle.port_objects.specs.declared.object.Object.{Object}
use Rattle.cross_core_table.specs.Common.{Opening, Held, plan_in, RoundRule, Sat, place_of, held_of, holding, failing, LockedAt, stamped_on, stamped_off, unlocked, looked}
use Rattle.cross_core_table.specs.Places.{IsIdle, IsHolding, HasTried}
use Rattle.cross_core_table.proofs.Keeping.{stamps_on, stamps_off, unlocks, looks}

-- a try for an object
pub has_tried : (k : Opening) (core o r : ℕ) (m n : Sat) → IsIdle k core m → LockedAt m o r n → HasTried k core o r m n
has_tried k core o r m n idle l = record {
  took = λ e. let t = l.took e in (
    t.object,
    record {
      entries = t.entries;
      seat = t.seat ∙ ap (λ (c : List (ℕ × Object)). (holding m.0 (held_of o t.entries), (o, t.object) ∷ c)) idle.slots;
      kept = t.kept k idle.opening;
      planned = t.planned k idle.opening;
    },
  );
  missed = λ e. let t = l.missed e in
      (t.seat ∙ ap (λ (c : List (ℕ × Object)). (failing m.0 o r, c)) idle.slots, λ q. t.other (q ∙ ap suc (sym idle.number)));
}

-- a seat with one slot
one_slot : (m : Sat) (o : ℕ) (x : Object) → m.1 ≡ (o, x) ∷ [] → m ≡ (m.0, (o, x) ∷ [])
one_slot m o x e = ap (λ (c : List (ℕ × Object)). (m.0, c)) e

pub unlocks_at : (k : Opening) (n id : ℕ) (m : Sat) (i o : ℕ) → i ≡ place_of o → o < n → IsHolding k m o
    → Allows (RoundRule k) n id m i (λ _. 0) (λ _. unlocked (step n i 0 0 none) m 0)
unlocks_at k n id m i o word inside h =
    subst (λ (x : Sat). Allows (RoundRule k) n id x i (λ _. 0) (λ _. unlocked (step n i 0 0 none) x 0)) (sym (one_slot m o h.object h.slots))
    (unlocks k n id m.0 i o h.object [] (held_of o h.entries) word inside h.opening h.held refl h.kept h.planned)

pub looks_at : (k : Opening) (n id : ℕ) (m : Sat) (i o : ℕ) → i ≡ place_of o → o < n → IsHolding k m o
    → Allows (RoundRule k) n id m i (λ _. 0) (λ _. looked (step n i 0 0 none) m 0)
looks_at k n id m i o word inside h =
    subst (λ (x : Sat). Allows (RoundRule k) n id x i (λ _. 0) (λ _. looked (step n i 0 0 none) x 0)) (sym (one_slot m o h.object h.slots))
    (looks k n id m.0 i o h.object [] (held_of o h.entries) word inside h.opening h.held refl h.kept h.planned)

-- ---- stamps, where the entry is named

pub stamps_on_named : (k : Opening) (n id : ℕ) (m : Sat) (o : ℕ) (e e' : Entry) (v v' : Option ℕ) → e ≡ e' → v ≡ v' → m.0.opening ≡ Some k
    → ((h : Held) × (m.0.held ≡ Some h) × (h.object ≡ o)) → touched_by (plan_in k) (record { entry = e'; event = v' }) ≡ Some o → length m.0.made < k.room
    → Allows (RoundRule k) n id m 0 (λ y. (y + 1) % 2 ^ 64) (stamped_on e v (step n 0 1 0 none) m)
stamps_on_named k n id m o e e' v v' entry event live h touching room =
    let named : touched_by (plan_in k) (record { entry = e; event = v }) ≡ Some o =
    subst (λ (x : Entry). touched_by (plan_in k) (record { entry = x; event = v }) ≡ Some o) (sym entry)
    (subst (λ (x : Option ℕ). touched_by (plan_in k) (record { entry = e'; event = x }) ≡ Some o) (sym event) touching) in
    stamps_on k n id m o e v h.0 live h.1 h.2 named room

pub stamps_off_named : (k : Opening) (n id : ℕ) (m : Sat) (e e' : Entry) → e ≡ e' → m.0.opening ≡ Some k
    → touched_by (plan_in k) (record { entry = e'; event = None }) ≡ None → length m.0.made < k.room
    → Allows (RoundRule k) n id m 0 (λ y. (y + 1) % 2 ^ 64) (stamped_off e (step n 0 1 0 none) m)
stamps_off_named k n id m e e' entry live alone room =
    stamps_off k n id m e live (subst (λ (x : Entry). touched_by (plan_in k) (record { entry = x; event = None }) ≡ None) (sym entry) alone) room
