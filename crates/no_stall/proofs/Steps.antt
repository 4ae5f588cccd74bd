-- The one activation of an event that is no server's, one entry further.
use Rattle.std.proofs.Common.{◌≡◌, ℕ, Bool, true, false, ◌&&◌, not, refl, sym, ◌∙◌, ap, subst, ◌∷◌, length, nat_lt, Option, Some, None}
use Rattle.bus_semantics.specs.Common.{and_parts, false≢true, same_Some, ActKey, Value, words_of, same_number, same_key-Decides, Plan, kind_of, runnable_of_event, instance_of, History}
use Rattle.bus_semantics.specs.Common.{event_started, is_of, is_over, runs, last_started, note, serves_directly, key_fits, event_fits, start_fits, MayFollow, may_start, caller_has_asked}
use Rattle.bus_semantics.specs.Common.{is_held_back, plain_key, IsSound}
use Rattle.bus_laws.specs.Common.{Mapping, Actor, Env, Machine, Act, Deed, Entry}
use Rattle.bus_semantics.specs.declared.entries.Deed.TheVariants as deed
use Rattle.bus_laws.proofs.Thinning.{option_same}
use Rattle.no_stall.proofs.Keys.{is_direct, Shape, plain, direct, shape}

module _ (p : Plan) (m : Mapping) (sound : IsSound p m) (e r : ℕ) (starts : runnable_of_event p e ≡ Some r) (undirect : serves_directly p (plain_key r) ≡ false) where
  -- it is the activation of the runnable's plain key
  pub sole_key : (j : ActKey) → key_fits p j ≡ true → runnable_of_event p e ≡ Some j.runnable → plain_key r ≡ j
  sole_key j fit own = by_shape (shape p m sound j fit)
    where
      same : r ≡ j.runnable
      same = same_Some r j.runnable (sym starts ∙ own)

      by_shape : Shape p m sound j → plain_key r ≡ j
      by_shape (plain is other) = ap plain_key same ∙ is
      by_shape (direct q of) = absurd (false≢true (sym (subst (λ (n : ℕ). serves_directly p (record { runnable = n; point = j.point }) ≡ false) same undirect) ∙ is_direct p m sound q j of))

  -- a start by the event is one of its key
  pub start_key : (h : History) (a : Actor) (point : Option ℕ) (value : Value) → MayFollow p h (record { actor = a; deed = deed.Start e point value }) → a ≡ Act (plain_key r)
  start_key h Env point value may = absurd (false≢true (and_parts false (start_fits p (kind_of p e) point (words_of value)) may.fit).0)
  start_key h (Machine i) point value may = absurd (false≢true (and_parts (nat_lt i (length p.machines)) false (and_parts (nat_lt i (length p.machines) && false) (start_fits p (kind_of p e) point (words_of value)) may.fit).0).1)
  start_key h (Act j) point value may =
      let entry_fit = (and_parts (key_fits p j && event_fits p (instance_of p j.runnable) e) (start_fits p (kind_of p e) point (words_of value)) may.fit).0 in
      let fit = (and_parts (key_fits p j) (event_fits p (instance_of p j.runnable) e) entry_fit).0 in
      let program = (and_parts (may_start p h j e) (not (is_held_back p h j)) may.actor).0 in
      let own = option_same (runnable_of_event p e) (Some j.runnable) (and_parts (same_number (runnable_of_event p e) (Some j.runnable)) (not (runs j h))
      (and_parts (same_number (runnable_of_event p e) (Some j.runnable) && not (runs j h)) (caller_has_asked p h j) program).0).0 in
      ap Act (sym (sole_key j fit own))

  -- what an entry of its key does while it runs
  pub data OwnStep (h : History) (x : Entry) : Type 0 where
    ends : (note h x).event ≡ Some e → x.deed ≡ deed.End → OwnStep h x
    admits : (b : Bool) → x.deed ≡ deed.Admit b → OwnStep h x
    goes : runs (plain_key r) (x ∷ h) ≡ true → last_started (plain_key r) (x ∷ h) ≡ Some e → event_started x.deed ≡ None → is_over x.deed ≡ false → OwnStep h x

  pub step : (h : History) (x : Entry) → MayFollow p h x → is_of (plain_key r) x ≡ true → runs (plain_key r) h ≡ true → last_started (plain_key r) h ≡ Some e → OwnStep h x
  step h x may own on started = by_deed x.actor x.deed own may
    where
      noted_event : (a : Actor) → is_of (plain_key r) (record { actor = a; deed = deed.End }) ≡ true → (note h (record { actor = a; deed = deed.End })).event ≡ Some e
      noted_event Env own = absurd (false≢true own)
      noted_event (Machine i) own = absurd (false≢true own)
      noted_event (Act j) own = subst (λ (k : ActKey). last_started k h ≡ Some e) ((same_key-Decides (plain_key r) j).0 own) started

      started_twice : (a : Actor) (ev : ℕ) (point : Option ℕ) (value : Value) → is_of (plain_key r) (record { actor = a; deed = deed.Start ev point value }) ≡ true → MayFollow p h (record { actor = a; deed = deed.Start ev point value }) → ⊥
      started_twice Env ev point value own may = false≢true own
      started_twice (Machine i) ev point value own may = false≢true own
      started_twice (Act j) ev point value own may =
          let program = (and_parts (may_start p h j ev) (not (is_held_back p h j)) may.actor).0 in
          let off = (and_parts (same_number (runnable_of_event p ev) (Some j.runnable)) (not (runs j h))
          (and_parts (same_number (runnable_of_event p ev) (Some j.runnable) && not (runs j h)) (caller_has_asked p h j) program).0).1 in
          let on_too : runs j h ≡ true = subst (λ (k : ActKey). runs k h ≡ true) ((same_key-Decides (plain_key r) j).0 own) on in
          false≢true (sym (ap not on_too) ∙ off)

      by_deed : (a : Actor) (d : Deed) → is_of (plain_key r) (record { actor = a; deed = d }) ≡ true → MayFollow p h (record { actor = a; deed = d }) → OwnStep h (record { actor = a; deed = d })
      by_deed a deed.End own may = ends (noted_event a own) refl
      by_deed a (deed.Admit b) own may = admits b refl
      by_deed a (deed.Start ev point value) own may = absurd (started_twice a ev point value own may)
      by_deed a d own may = goes (rw own refl) (rw own started) refl refl

  -- an entry of another key changes nothing
  pub runs_still : (h : History) (x : Entry) → is_of (plain_key r) x ≡ false → runs (plain_key r) h ≡ true → runs (plain_key r) (x ∷ h) ≡ true
  runs_still h x other on = rw other on

  pub started_still : (h : History) (x : Entry) → is_of (plain_key r) x ≡ false → last_started (plain_key r) h ≡ Some e → last_started (plain_key r) (x ∷ h) ≡ Some e
  started_still h x other started = rw other started
