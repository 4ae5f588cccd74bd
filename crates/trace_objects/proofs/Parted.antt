-- An entry on the object that it touches: the objects stand for it, or the bus answers something else.
use Rattle.std.proofs.Common.{◌≡◌, ◌≢◌, ℕ, Bool, true, false, if◌then◌else◌, refl, sym, ◌∙◌, ap, subst, List, ◌∷◌, set, Option, Some}
use Rattle.std.specs.Prelude.{◌==◌, unwrap_or}
use Rattle.bus_semantics.specs.Common.{unsigned_Decides, eq-eqb, length-set, same_number, Plan, Wanted, wanted_by, History, Noted, note, noted, object_of, touched_by, touches, touched}
use Rattle.bus_semantics.specs.Common.{entries_of, Answers, MayFollow, IsLegal, Follows, IsPastOf, noted_for, MayCome}
use Rattle.latches.proofs.Places.{Placed, here, there, placed}
use Rattle.bus_laws.specs.Common.{Entry, Mapping}
use Rattle.port_objects.specs.declared.object.Object.{Object}
use Rattle.port_objects.specs.Common.{IsTheOne, kept_of, IsOfPlan, ArePlans, Stands}
use Rattle.trace_objects.specs.Standing.{IsTried, ObjectsStand}
use Rattle.trace_objects.proofs.Tried.{Facts}

-- ---- one object at most is touched

touches_no_other : (o : Option ℕ) (object i : ℕ) → object ≢ i → o ≡ Some object → same_number o (Some i) ≡ false
touches_no_other o object i other is = ap (λ x. same_number x (Some i)) is ∙ of_test (object == i) refl
  where
    of_test : (b : Bool) → (object == i) ≡ b → b ≡ false
    of_test false is = refl
    of_test true is = absurd (other ((unsigned_Decides object i).0 is))

pub parted : (p : Plan) (h : History) (e : Entry) (i : ℕ) (b : Bool) → touches p i (note h e) ≡ b → entries_of p (e ∷ h) i ≡ (if b then note h e ∷ entries_of p h i else entries_of p h i)
parted p h e i b is = ap (λ v. if v then note h e ∷ entries_of p h i else entries_of p h i) is

module _ (p : Plan) (m : Mapping) (h : History) (e : Entry) (event : Option ℕ) (w : Wanted) (tried : IsTried p m h e event) (f : Facts p h e event w) (object : ℕ) (touching : object_of p e.actor w ≡ Some object) where
  pub number : touched p e.actor w ≡ object
  number = ap (λ o. unwrap_or o 0) touching

  touching_note : touched_by p (note h e) ≡ Some object
  touching_note = f.touch ∙ touching

  touches_it : touches p object (note h e) ≡ true
  touches_it = ap (λ o. same_number o (Some object)) touching_note ∙ eq-eqb object object refl

  -- ---- it is the one that may come

  module _ (objects : List Object) (stand : ObjectsStand p h objects) (new : Object) (one : IsTheOne p e.actor w (kept_of new) (entries_of p h object) e) where
    pub answers : Answers p (noted h) (note h e)
    answers = (f.follows (subst (λ n. MayCome p e.actor w (entries_of p h n) (noted_for w e)) (sym number) one.comes)).answers

    stands : Stands p object (kept_of new) (note h e ∷ entries_of p h object)
    stands = subst (λ n. Stands p n (kept_of new) (note h e ∷ entries_of p h object)) number (subst (λ x. Stands p (touched p e.actor w) (kept_of new) (x ∷ entries_of p h object)) f.named one.stands)

    of_place : (i : ℕ) (o : Object) → Placed Object objects object new i o → Stands p i (kept_of o) (entries_of p (e ∷ h) i)
    of_place i o (here place is) =
        subst (λ n. Stands p n (kept_of o) (entries_of p (e ∷ h) n)) (sym place)
        (subst (Stands p object (kept_of o)) (sym (parted p h e object true touches_it)) (subst (λ x. Stands p object (kept_of x) (note h e ∷ entries_of p h object)) (sym is) stands))
    of_place i o (there other is) =
        subst (Stands p i (kept_of o)) (sym (parted p h e i false (touches_no_other (touched_by p (note h e)) object i (λ eq. other (sym eq)) touching_note))) (stand i o is)

    pub stand_then : ObjectsStand p (e ∷ h) (set objects object new)
    stand_then i o is = of_place i o (placed objects object new i o is)

  -- ---- it is not

  module _ (parts : IsLegal p (e ∷ h) → IsPastOf p object (entries_of p (e ∷ h) object)) (none : (n : Noted) → MayCome p e.actor w (entries_of p h object) n → n.entry ≡ e → ⊥)
      (wish : wanted_by (unwrap_or event 0) e.deed ≡ w) where
    pub unanswered : Answers p (noted h) (note h e) → ⊥
    unanswered answers =
        let may : MayFollow p h e = record { fit = tried.fit; actor = tried.program; answers = answers } in
        let past : IsPastOf p object (note h e ∷ entries_of p h object) = subst (IsPastOf p object) (parted p h e object true touches_it) (parts (tried.legal, may)) in
        none (note h e)
        (record { actor = refl; wish = ap (λ o. wanted_by (unwrap_or o 0) e.deed) (sym tried.by) ∙ wish; follows = subst (λ n. Follows p n (entries_of p h object) (note h e)) (sym number) past.1 })
        refl

-- ---- the objects are the plan's

pub plans_then : (p : Plan) (objects : List Object) (object : ℕ) (new : Object) → ArePlans p objects → IsOfPlan p object new → ArePlans p (set objects object new)
plans_then p objects object new plans planned = record { count = length-set objects object new ∙ plans.count; each = λ i o is. at i o (placed objects object new i o is) }
  where
    at : (i : ℕ) (o : Object) → Placed Object objects object new i o → IsOfPlan p i o
    at i o (here place is) = subst (λ n. IsOfPlan p n o) (sym place) (subst (IsOfPlan p object) (sym is) planned)
    at i o (there other is) = plans.each i o is
