-- The last deed of a running activation, and what stands open after it.
use Rattle.std.proofs.Common.{◌≡◌, ℕ, zero, Bool, true, false, refl, sym, ◌∙◌, ap, List, [], ◌∷◌, ◌++◌, append_assoc, Option, Some, None}
use Rattle.bus_semantics.specs.Common.{same_Some, ActKey, Value, words_of, Plan, to_ask, History, is_of, Activation, with_deed, activation_of, accepted_point, last_deed, asked_last, IsSound}
use Rattle.bus_laws.specs.Common.{Mapping, Deed}
use Rattle.bus_semantics.specs.declared.entries.Deed.TheVariants as deed
use Rattle.history_laws.specs.Followed.{Followed}
use Rattle.history_laws.specs.OpenAreas.{open_areas}
use Rattle.history_laws.specs.Following.{open_areas_more}
use Rattle.history_laws.specs.Running.{GoesOn}
use Rattle.no_stall.proofs.Premises.{Laws}
use Rattle.no_stall.proofs.Asking.{activity}

-- an accepted ask at the point is the last of the deeds
pub record EndsInAsk (q : ℕ) (deeds : List Deed) : Type 0 where
  pub before : List Deed
  pub value : Value
  pub whole : deeds ≡ before ++ deed.Ask q value 0 ∷ []

deeds_after : (q : ℕ) (d : Deed) (o : Option Activation) (a : Activation) → accepted_point d ≡ Some q → with_deed d o ≡ Some a → EndsInAsk q a.deeds
deeds_after q (deed.Ask r value zero) None a point is = absurd (cc is)
deeds_after q (deed.Ask r value zero) (Some b) a point is =
    let same : r ≡ q = cc point in
    let whole : record { event = b.event; start = b.start; deeds = b.deeds ++ deed.Ask r value 0 ∷ [] } ≡ a = same_Some _ a is in
    record { before = b.deeds; value = value; whole = sym (ap (λ (x : Activation). x.deeds) whole) ∙ ap (λ x. b.deeds ++ deed.Ask x value 0 ∷ []) same }
deeds_after q d o a point is = absurd (cc point)

pub ends_in_ask : (k : ActKey) (q : ℕ) (h : History) (a : Activation) → asked_last k h ≡ Some q → activation_of k h ≡ Some a → EndsInAsk q a.deeds
ends_in_ask k q [] a last is = absurd (cc last)
ends_in_ask k q (e ∷ h) a last is = by_own (ends_in_ask k q h a) (is_of k e) refl
  where
    by_own : (asked_last k h ≡ Some q → activation_of k h ≡ Some a → EndsInAsk q a.deeds) → (b : Bool) → is_of k e ≡ b → EndsInAsk q a.deeds
    by_own before true own = let point : accepted_point e.deed ≡ Some q = rw own at last in let after : with_deed e.deed (activation_of k h) ≡ Some a = rw own at is in deeds_after q e.deed (activation_of k h) a point after
    by_own before false other = before (rw other at last) (rw other at is)

-- ---- the last item of a list

same_last : {X : Type 0} (xs : List X) (x : X) (ys : List X) (y : X) → xs ++ x ∷ [] ≡ ys ++ y ∷ [] → x ≡ y
same_last [] x [] y e = cc e
same_last [] x (b ∷ []) y e = absurd (cc e)
same_last [] x (b ∷ (c ∷ ys)) y e = absurd (cc e)
same_last (a ∷ []) x [] y e = absurd (cc e)
same_last (a ∷ (c ∷ xs)) x [] y e = absurd (cc e)
same_last (a ∷ xs) x (b ∷ ys) y e = let rest : xs ++ x ∷ [] ≡ ys ++ y ∷ [] = cc e in same_last xs x ys y rest

no_last : {X Y : Type 0} (xs : List X) (x : X) → [] ≡ xs ++ x ∷ [] → Y
no_last [] x e = absurd (cc e)
no_last (a ∷ xs) x e = absurd (cc e)

last_after : (d last : Deed) (before : List Deed) (o : Option Activation) (a : Activation) → with_deed d o ≡ Some a → a.deeds ≡ before ++ last ∷ [] → d ≡ last
last_after (deed.Start event point value) last before o a is whole =
    let none : [] ≡ a.deeds = ap (λ (x : Activation). x.deeds) (same_Some (record { event = event; start = words_of value; deeds = [] }) a is) in no_last before last (none ∙ whole)
last_after d last before None a is whole = absurd (cc is)
last_after d last before (Some b) a is whole =
    let ends : b.deeds ++ d ∷ [] ≡ a.deeds = ap (λ (x : Activation). x.deeds) (same_Some (record { event = b.event; start = b.start; deeds = b.deeds ++ d ∷ [] }) a is) in
    same_last b.deeds d before last (ends ∙ whole)

pub last_is : (k : ActKey) (h : History) (a : Activation) (before : List Deed) (last : Deed) → activation_of k h ≡ Some a → a.deeds ≡ before ++ last ∷ [] → last_deed k h ≡ Some last
last_is k [] a before last is whole = absurd (cc is)
last_is k (e ∷ h) a before last is whole = by_own (last_is k h a before last) (is_of k e) refl
  where
    by_own : (activation_of k h ≡ Some a → a.deeds ≡ before ++ last ∷ [] → last_deed k h ≡ Some last) → (b : Bool) → is_of k e ≡ b → last_deed k (e ∷ h) ≡ Some last
    by_own so_far true own = let after : with_deed e.deed (activation_of k h) ≡ Some a = rw own at is in rw own (ap (λ (d : Deed). Some d) (last_after e.deed last before (activation_of k h) a after whole))
    by_own so_far false other = let after : activation_of k h ≡ Some a = rw other at is in rw other (so_far after whole)

module _ (p : Plan) (m : Mapping) (sound : IsSound p m) (laws : Laws p m) where
  -- no area is open after an ask
  pub closed_after_ask : (h : History) (k : ActKey) (q : ℕ) (g : GoesOn p h k) → asked_last k h ≡ Some q → open_areas g.activation.deeds ≡ []
  closed_after_ask h k q g last = ap open_areas ask.whole ∙ open_areas_more ask.before (deed.Ask q ask.value 0) ∙ closed
    where
      ask : EndsInAsk q g.activation.deeds
      ask = ends_in_ask k q h g.activation last g.is

      followed : Followed p g.runnable g.activation.event g.activation.start ask.before
      followed = record {
        each = λ before d after e. g.asks.followed.each before d (after ++ deed.Ask q ask.value 0 ∷ [])
            (sym (append_assoc before (d ∷ after) (deed.Ask q ask.value 0 ∷ [])) ∙ ap (λ (ds : List Deed). ds ++ deed.Ask q ask.value 0 ∷ []) e ∙ sym ask.whole);
      }

      closed : open_areas ask.before ≡ []
      closed = laws.outside k g.runnable g.activation.event g.activation.start ask.before (to_ask q (words_of ask.value)) (activity p m sound laws h k g)
          (record { followed = followed; next = g.asks.followed.each ask.before (deed.Ask q ask.value 0) [] (sym ask.whole) }) refl
