-- A group of several in a bundle: entries that are none of its own leave what it keeps as it was, and of what a list publishes it keeps the
-- last value that is its own.
use Rattle.std.proofs.Common.{◌≡◌, ℕ, ℤ, Bool, true, false, not, ◌==◌, if◌then◌else◌, refl, sym, ◌∙◌, ap, subst, List, ◌∷◌, Option, Some, None}
use Rattle.std.specs.Prelude.{option_map, unwrap_or}
use Rattle.bus_semantics.specs.Common.{option_or, eqb-true, false≢true, same_Some, Value, words_of, Plan, group_of, kind_of, Noted, Past, newest, is_in_group, listed_in, stored_in}
use Rattle.bus_semantics.specs.Common.{last_stored, validity, update, sent_in, is_start_by}
use Rattle.bus_semantics.specs.declared.plan.EventKind.{EventKind}
use Rattle.bus_semantics.specs.declared.plan.EventKind.TheVariants.{DataReceived}
use Rattle.bus_semantics.specs.declared.entries.Actor.{Actor}
use Rattle.bus_semantics.specs.declared.entries.Deed.{Deed}
use Rattle.bus_semantics.specs.declared.entries.Deed.TheVariants as deed
use Rattle.data_objects.specs.KeptValues.{after_write}
use Rattle.object_kinds.specs.Layout.{waits_for_data}
use Rattle.object_kinds.proofs.Options.{number_is}
use Rattle.object_kinds.proofs.Proper.{noting}
use Rattle.object_kinds.proofs.Touching.{OnGroup}
use Rattle.data_objects.specs.Kept.{Kept}
use Rattle.data_objects.specs.Standing.{GroupKeeps}
use Rattle.data_objects.proofs.Keeping.{leading, due_kept, updated_kept, written}

-- ---- an entry that is none of the group's

-- it stores and sends nothing in the group, makes it neither valid nor invalid, updates none of its elements, and starts none of its events
pub record IsElsewhere (p : Plan) (g : ℕ) (a : Actor) (event : Option ℕ) (d : Deed) : Type 0 where
  pub stored : stored_in p g d ≡ None
  pub sent : sent_in p g d ≡ None
  pub valid : validity p g d ≡ None
  pub updated : (x : ℕ) → is_in_group p g x ≡ true → update p x g d ≡ None
  pub starts : (e : ℕ) → waits_for_data p g (kind_of p e) ≡ true → is_start_by e (noting a d event) ≡ false

pub stays : (p : Plan) (g : ℕ) (k : Kept) (l : Past) (a : Actor) (event : Option ℕ) (d : Deed) → GroupKeeps p g k l → IsElsewhere p g a event d → GroupKeeps p g k (noting a d event ∷ l)
stays p g k l a event d keeps other = record {
  is_group = keeps.is_group;
  waiting = keeps.waiting;
  inits = keeps.inits;
  receivers = keeps.receivers;
  stored = keeps.stored ∙ sym (ap (λ o. option_or o (last_stored p g l)) other.stored);
  invalid = keeps.invalid ∙ sym (ap (λ o. not (unwrap_or (option_or o (newest (λ (m : Noted). validity p g m.entry.deed) l)) true)) other.valid);
  updated = updated_kept p g k l keeps a event d (λ x h inside same. ap (λ i. update p x i d) same ∙ other.updated x inside);
  due = due_kept p g k l keeps a event d other.starts (λ h same. (ap (λ i. stored_in p i d) same ∙ other.stored, ap (λ i. sent_in p i d) same ∙ other.sent));
}

-- ---- an entry on another group

outside : (p : Plan) (g h x : ℕ) → (h ≡ g → ⊥) → is_in_group p h x ≡ true → is_in_group p g x ≡ false
outside p g h x apart inside = by_test (is_in_group p g x) refl
  where
    by_test : (b : Bool) → is_in_group p g x ≡ b → is_in_group p g x ≡ false
    by_test false is = is
    by_test true is = absurd (apart (same_Some h g (sym (number_is (group_of p x) h inside) ∙ number_is (group_of p x) g is)))

other_element : (p : Plan) (g x y : ℕ) → is_in_group p g x ≡ false → is_in_group p g y ≡ true → (x == y) ≡ false
other_element p g x y off on = by_test (x == y) refl
  where
    by_test : (b : Bool) → (x == y) ≡ b → (x == y) ≡ false
    by_test false is = is
    by_test true is = absurd (false≢true (sym off ∙ ap (is_in_group p g) (eqb-true x y is) ∙ on))

other_event : (p : Plan) (g h : ℕ) → (h ≡ g → ⊥) → (e f : ℕ) → waits_for_data p h (kind_of p e) ≡ true → waits_for_data p g (kind_of p f) ≡ true → (e == f) ≡ false
other_event p g h apart e f here there = by_test (e == f) refl
  where
    by_kind : (k : EventKind) → waits_for_data p h k ≡ true → waits_for_data p g k ≡ true → ⊥
    by_kind (DataReceived x) one two = apart (same_Some h g (sym (number_is (group_of p x) h one) ∙ number_is (group_of p x) g two))
    by_kind k one two = false≢true one

    by_test : (b : Bool) → (e == f) ≡ b → (e == f) ≡ false
    by_test false is = is
    by_test true is = absurd (by_kind (kind_of p f) (subst (λ i. waits_for_data p h (kind_of p i) ≡ true) (eqb-true e f is) here) there)

module _ (p : Plan) (g h : ℕ) (apart : h ≡ g → ⊥) (a : Actor) (event : Option ℕ) where
  pub on_other : (d : Deed) → OnGroup p h d → IsElsewhere p g a event d
  on_other (deed.Start e point value) on = record { stored = refl; sent = refl; valid = refl; updated = λ x inside. refl; starts = λ f waits. other_event p h g (λ same. apart (sym same)) f e waits on }
  on_other (deed.Fetch x value) on = record { stored = refl; sent = refl; valid = refl; updated = λ y inside. refl; starts = λ f waits. refl }
  on_other (deed.Write x value) on =
      let off = outside p g h x apart on in
      record {
        stored = ap (λ b. if b then Some (words_of value) else None) off;
        sent = refl;
        valid = ap (λ b. if b then Some true else None) off;
        updated = λ y inside. ap (λ b. if b then Some true else None) off;
        starts = λ f waits. refl;
      }
  on_other (deed.Publish x value) on =
      let off = outside p g h x apart on in
      record {
        stored = ap (λ b. if b then Some (words_of value) else None) off;
        sent = refl;
        valid = ap (λ b. if b then Some true else None) off;
        updated = λ y inside. ap (λ b. if b then Some true else None) off;
        starts = λ f waits. refl;
      }
  on_other (deed.Read x code value) on = record {
    stored = refl;
    sent = refl;
    valid = refl;
    updated = λ y inside. ap (λ b. if b then Some false else None) (other_element p g x y (outside p g h x apart on) inside);
    starts = λ f waits. refl;
  }
  on_other (deed.Invalidate x) on = record {
    stored = refl;
    sent = refl;
    valid = ap (λ b. if b then Some false else None) (outside p g h x apart on);
    updated = λ y inside. refl;
    starts = λ f waits. refl;
  }
  on_other (deed.IsUpdated x updated) on = record { stored = refl; sent = refl; valid = refl; updated = λ y inside. refl; starts = λ f waits. refl }
  on_other (deed.Send x value code) on = record {
    stored = refl;
    sent = ap (λ b. if b then Some (words_of value) else None) (outside p g h x apart on);
    valid = refl;
    updated = λ y inside. refl;
    starts = λ f waits. refl;
  }
  on_other (deed.Receive x code value) on = record { stored = refl; sent = refl; valid = refl; updated = λ y inside. refl; starts = λ f waits. refl }
  on_other d on = absurd on

-- ---- lists

module _ (p : Plan) (g : ℕ) (a : Actor) (event : Option ℕ) where
  -- a fetch of a list changes nothing
  pub fetched_elsewhere : (list : ℕ) (value : Value) → IsElsewhere p g a event (deed.FetchAll list value)
  fetched_elsewhere list value = record { stored = refl; sent = refl; valid = refl; updated = λ x inside. refl; starts = λ e waits. refl }

  -- a publication that stores nothing in the group
  pub published_elsewhere : (list marks : ℕ) (value : Value) → listed_in p g list marks (words_of value) ≡ None → IsElsewhere p g a event (deed.PublishAll list marks value)
  published_elsewhere list marks value none = record {
    stored = none;
    sent = refl;
    valid = ap (option_map (λ ws. true)) none;
    updated = λ x inside. ap (option_map (λ ws. true)) none;
    starts = λ e waits. refl;
  }

  -- and one that stores a value in it
  pub published_keeps : (k : Kept) (l : Past) → GroupKeeps p g k l → (list marks : ℕ) (value v : Value) → listed_in p g list marks (words_of value) ≡ Some (words_of v)
      → GroupKeeps p g (leading k (after_write v k.unqueued)) (noting a (deed.PublishAll list marks value) event ∷ l)
  published_keeps k l keeps list marks value v stores = written p g k l keeps a event (deed.PublishAll list marks value) v
      (λ h same. ap (λ i. listed_in p i list marks (words_of value)) same ∙ stores)
      (ap (λ o. not (unwrap_or (option_or (option_map (λ (ws : List ℤ). true) o) (newest (λ (m : Noted). validity p g m.entry.deed) l)) true)) stores)
      (λ x h same. ap (λ i. option_map (λ (ws : List ℤ). true) (listed_in p i list marks (words_of value))) same ∙ ap (option_map (λ (ws : List ℤ). true)) stores)
      (λ e. refl)
