-- What the lead gives of an area stands for the list and the entry.
use Rattle.std.proofs.Common.{◌≡◌, ℕ, Bool, true, false, refl, sym, ◌∙◌, ap, subst, ◌∷◌, Option, Some, None, is_some}
use Rattle.std.specs.Prelude.{is_none}
use Rattle.bus_semantics.specs.Common.{false≢true, ActKey, same_key, Plan, Past, touches, is_held, IsPastOf}
use Rattle.bus_semantics.specs.declared.entries.Actor.{Actor}
use Rattle.bus_semantics.specs.declared.entries.Actor.TheVariants.{Env, Machine, Act}
use Rattle.bus_semantics.specs.declared.entries.Deed.{Deed}
use Rattle.bus_semantics.specs.declared.entries.Deed.TheVariants as deed
use Rattle.area_objects.specs.Held.{is_held_by}
use Rattle.object_kinds.proofs.Options.{given_some}
use Rattle.object_kinds.proofs.Proper.{noting}
use Rattle.area_objects.specs.Layout.{area_of}
use Rattle.area_objects.specs.Kept.{Kept}
use Rattle.area_objects.specs.Leading.{lead_of_area}
use Rattle.area_objects.specs.Standing.{Keeps}
use Rattle.area_objects.proofs.Holders.{State, key_itself, same_keys, holder_of, open_is_held, the_area, after_enter, after_leave, state_of}

abbrev within : ActKey → Kept
within key = record { holder = Some key }

abbrev empty : Kept
empty = record { holder = None }

nobody : (o : Option ActKey) → is_none o ≡ true → is_some o ≡ false
nobody None none = refl
nobody (Some key) none = absurd (false≢true none)

pub holder_is : (key : ActKey) (o : Option ActKey) → is_held_by key o ≡ true → o ≡ Some key
holder_is key None held = absurd (false≢true held)
holder_is key (Some holder) held = ap (λ k. Some k) (same_keys holder key held)

module _ (p : Plan) (object : ℕ) (k after : Kept) (l : Past) (past : IsPastOf p object l) (keeps : Keeps p object k l) (event : Option ℕ) where
  enter_keeps : (key : ActKey) (x : ℕ) → touches p object (noting (Act key) (deed.Enter x) event) ≡ true → is_none k.holder ≡ true → Keeps p object (within key) (noting (Act key) (deed.Enter x) event ∷ l)
  enter_keeps key x touching none = record {
    is_area = keeps.is_area;
    held = sym (subst (λ z. is_held z (noting (Act key) (deed.Enter x) event ∷ l) ≡ true) same (open_is_held x (noting (Act key) (deed.Enter x) event ∷ l) key now (key_itself key)));
    holder = λ j is. let own : key ≡ j = cc in ap (λ i. same_key i key) (sym own) ∙ key_itself key;
  }
    where
      same : x ≡ area_of p object
      same = the_area p object x touching

      free : is_held x l ≡ false
      free = subst (λ z. is_held z l ≡ false) (sym same) (sym keeps.held ∙ nobody k.holder none)

      now : State x (noting (Act key) (deed.Enter x) event ∷ l)
      now = after_enter x l key event free (subst (λ z. State z l) (sym same) (state_of p object l past))

  leave_keeps : (key : ActKey) (x : ℕ) → touches p object (noting (Act key) (deed.Leave x) event) ≡ true → is_held_by key k.holder ≡ true → Keeps p object empty (noting (Act key) (deed.Leave x) event ∷ l)
  leave_keeps key x touching held = record {
    is_area = keeps.is_area;
    held = sym (subst (λ z. is_held z (noting (Act key) (deed.Leave x) event ∷ l) ≡ false) same (none (is_held x (noting (Act key) (deed.Leave x) event ∷ l)) refl));
    holder = λ j is. absurd (cc is);
  }
    where
      same : x ≡ area_of p object
      same = the_area p object x touching

      now : State x (noting (Act key) (deed.Leave x) event ∷ l)
      now = after_leave x l (Act key) event (keeps.holder key (holder_is key k.holder held)) (subst (λ z. State z l) (sym same) (state_of p object l past))

      none : (b : Bool) → is_held x (noting (Act key) (deed.Leave x) event ∷ l) ≡ b → is_held x (noting (Act key) (deed.Leave x) event ∷ l) ≡ false
      none false is = is
      none true is = let holder = holder_of x (noting (Act key) (deed.Leave x) event ∷ l) now is in absurd (false≢true holder.opens)

  pub keep : (d : Deed) (a : Actor) → touches p object (noting a d event) ≡ true → lead_of_area k d a ≡ Some after → Keeps p object after (noting a d event ∷ l)
  keep (deed.Enter x) (Act key) touching leads =
      let gives = given_some (is_none k.holder) (within key) after leads in
      subst (λ z. Keeps p object z (noting (Act key) (deed.Enter x) event ∷ l)) gives.same (enter_keeps key x touching gives.holds)
  keep (deed.Leave x) (Act key) touching leads =
      let gives = given_some (is_held_by key k.holder) empty after leads in
      subst (λ z. Keeps p object z (noting (Act key) (deed.Leave x) event ∷ l)) gives.same (leave_keeps key x touching gives.holds)
  keep (deed.Enter x) Env touching leads = absurd (cc leads)
  keep (deed.Enter x) (Machine m) touching leads = absurd (cc leads)
  keep (deed.Leave x) Env touching leads = absurd (cc leads)
  keep (deed.Leave x) (Machine m) touching leads = absurd (cc leads)
  keep d a touching leads = absurd (cc leads)
