-- What an entry is to a key: another's, the start of its activation, or what its activation asked next.
use Rattle.std.proofs.Common.{◌≡◌, ℕ, Bool, true, false, ◌&&◌, not, if◌then◌else◌, refl, sym, ◌∙◌, ap, subst, [], ◌∷◌, ◌++◌, Option, Some, None}
use Rattle.bus_semantics.specs.Common.{and_parts, ltb-true, false≢true, not-true, option_or, slice_get, list_all, ActKey, Value, words_of, same_number, same_key, same_key-Decides, Plan}
use Rattle.bus_semantics.specs.Common.{Runnable, runnable_of_event, instance_of, Wanted, wanted_by, History, is_of, made_by, is_over, event_started, runs, last_started, needs_event}
use Rattle.bus_semantics.specs.Common.{key_fits, activation_may_want, answer_fits, fits, next_of_activity, Activation, with_deed, activation_of, next_wish, caller_has_asked, may_start}
use Rattle.bus_semantics.specs.Common.{is_wanted_next, is_held_back, starts_or_goes_on, follows_program, MayFollow, IsLegal}
use Rattle.std.specs.Prelude.{nat_lt, length, unwrap_or}
use Rattle.bus_laws.specs.Common.{Actor, Env, Machine, Act, Deed, Entry}
use Rattle.bus_semantics.specs.declared.entries.Deed.TheVariants as deed
use Rattle.bus_semantics.proofs.SameWanted.{same_wish}
use Rattle.history_laws.specs.Followed.{Followed}
use Rattle.history_laws.specs.Following.{followed_none, followed_more}
use Rattle.history_laws.specs.LookUps.{looked}
use Rattle.bus_laws.proofs.Thinning.{option_same, there_is}
use Rattle.history_laws.proofs.Lists.{all_more}

-- ---- wishes that are the same

-- ---- an entry of a key

abbrev pub mine : ActKey → Deed → Entry
mine k d = record { actor = Act k; deed = d }

abbrev pub begins : Deed → Bool
begins (deed.Start event point value) = true
begins d = false

pub itself : (k : ActKey) → same_key k k ≡ true
itself k = (same_key-Decides k k).1 refl

pub key_is : (k j : ActKey) → same_key k j ≡ true → j ≡ k
key_is k j same = sym ((same_key-Decides k j).0 same)

pub is_mine : (k : ActKey) (e : Entry) → is_of k e ≡ true → e ≡ mine k e.deed
is_mine k e own = by_actor e.actor own refl
  where
    by_actor : (a : Actor) → made_by k a ≡ true → e.actor ≡ a → e ≡ mine k e.deed
    by_actor Env own is = absurd (false≢true own)
    by_actor (Machine n) own is = absurd (false≢true own)
    by_actor (Act j) own is = let who : e.actor ≡ Act k = is ∙ ap Act (key_is k j own) in λ i. record { actor = who i; deed = e.deed }

pub runs_mine : (k : ActKey) (d : Deed) (h : History) → runs k (mine k d ∷ h) ≡ not (is_over d)
runs_mine k d h = rw (itself k) (by_over (is_over d))
  where
    by_over : (b : Bool) → (if b then false else true) ≡ not b
    by_over true = refl
    by_over false = refl

pub runs_other : (k : ActKey) (e : Entry) (h : History) → is_of k e ≡ false → runs k (e ∷ h) ≡ runs k h
runs_other k e h other = rw other refl

pub activation_mine : (k : ActKey) (d : Deed) (h : History) → activation_of k (mine k d ∷ h) ≡ with_deed d (activation_of k h)
activation_mine k d h = rw (itself k) refl

pub activation_other : (k : ActKey) (e : Entry) (h : History) → is_of k e ≡ false → activation_of k (e ∷ h) ≡ activation_of k h
activation_other k e h other = rw other refl

pub started_mine : (k : ActKey) (d : Deed) (h : History) → last_started k (mine k d ∷ h) ≡ option_or (event_started d) (last_started k h)
started_mine k d h = rw (itself k) refl

pub started_other : (k : ActKey) (e : Entry) (h : History) → is_of k e ≡ false → last_started k (e ∷ h) ≡ last_started k h
started_other k e h other = rw other refl

-- a deed that starts nothing
pub grown : (d : Deed) (a : Activation) → begins d ≡ false → with_deed d (Some a) ≡ Some (record { event = a.event; start = a.start; deeds = a.deeds ++ d ∷ [] })
grown (deed.Start event point value) a other = absurd (false≢true (sym other))
grown d a other = refl

pub none_started : (d : Deed) → begins d ≡ false → event_started d ≡ None
none_started (deed.Start event point value) other = absurd (false≢true (sym other))
none_started d other = refl

-- ---- a running activation

-- what started it, and its answers since, each of which is one to the wish before it
pub record Alive (p : Plan) (k : ActKey) (h : History) : Type 0 where
  pub activation : Activation
  pub runnable : Runnable
  pub key : key_fits p k ≡ true
  pub found : slice_get p.runnables k.runnable ≡ Some runnable
  pub is : activation_of k h ≡ Some activation
  pub started : last_started k h ≡ Some activation.event
  pub own : runnable_of_event p activation.event ≡ Some k.runnable
  pub followed : Followed p runnable activation.event activation.start activation.deeds
  pub going : list_all (λ d. not (is_over d)) activation.deeds ≡ true

pub alive_next : (p : Plan) (k : ActKey) (h : History) → runs k h ≡ true → (a : Alive p k h) → next_wish p h k ≡ next_of_activity p a.runnable a.activation.event a.activation.start a.activation.deeds
alive_next p k h running a =
    rw (running, a.is)
    (looked p.runnables k.runnable a.runnable (λ (r : Runnable). next_of_activity p r a.activation.event a.activation.start a.activation.deeds) None a.found)

-- what an entry is to a key
pub data IsTo (p : Plan) (k : ActKey) (h : History) (e : Entry) : Type 0 where
  others : is_of k e ≡ false → IsTo p k h e
  starts : (event : ℕ) (point : Option ℕ) (value : Value) → e ≡ mine k (deed.Start event point value) → is_of k e ≡ true → runs k h ≡ false → runnable_of_event p event ≡ Some k.runnable
      → caller_has_asked p h k ≡ true → IsTo p k h e
  goes_on : e ≡ mine k e.deed → is_of k e ≡ true → begins e.deed ≡ false → runs k h ≡ true → (a : Alive p k h)
      → next_of_activity p a.runnable a.activation.event a.activation.start a.activation.deeds ≡ Some (wanted_by a.activation.event e.deed) → IsTo p k h e

wants_next : (p : Plan) (k : ActKey) (h : History) (d : Deed) → is_wanted_next p h k d ≡ true → next_wish p h k ≡ Some (wanted_by (unwrap_or (last_started k h) 0) d)
wants_next p k h d wanted = by_wish (next_wish p h k) refl
  where
    by_wish : (o : Option Wanted) → next_wish p h k ≡ o → next_wish p h k ≡ Some (wanted_by (unwrap_or (last_started k h) 0) d)
    by_wish None is = absurd (false≢true (rw is at wanted))
    by_wish (Some w) is = is ∙ ap (λ x. Some x) (sym (same_wish (wanted_by (unwrap_or (last_started k h) 0) d) w (rw is at wanted)))

pub wish_runs : (p : Plan) (k : ActKey) (h : History) (w : Wanted) → next_wish p h k ≡ Some w → runs k h ≡ true
wish_runs p k h w next = by_test (runs k h) refl
  where
    by_test : (b : Bool) → runs k h ≡ b → b ≡ true
    by_test true is = refl
    by_test false is = absurd (cc (rw is at next))

pub is_to : (p : Plan) (k : ActKey) (h : History) (e : Entry) → MayFollow p h e → (runs k h ≡ true → Alive p k h) → IsTo p k h e
is_to p k h e may living = by_own (is_of k e) refl
  where
    going : (d : Deed) → begins d ≡ false → starts_or_goes_on p h k d ≡ true → is_wanted_next p h k d ≡ true
    going (deed.Start event point value) other e = absurd (false≢true (sym other))
    going d other e = e

    by_begin : e ≡ mine k e.deed → is_of k e ≡ true → starts_or_goes_on p h k e.deed ≡ true → (d : Deed) → e.deed ≡ d → IsTo p k h e
    by_begin is own may (deed.Start event point value) at =
        let own_event = same_number (runnable_of_event p event) (Some k.runnable) in
        let start : may_start p h k event ≡ true = subst (λ x. starts_or_goes_on p h k x ≡ true) at may in
        let asked = and_parts (own_event && not (runs k h)) (caller_has_asked p h k) start in
        let both = and_parts own_event (not (runs k h)) asked.0 in
        starts event point value (is ∙ ap (mine k) at) own (not-true (runs k h) both.1) (option_same (runnable_of_event p event) (Some k.runnable) both.0) asked.1
    by_begin is own may d at = next_in d at refl
      where
        next_in : (d : Deed) → e.deed ≡ d → begins d ≡ false → IsTo p k h e
        next_in d at other =
            let before : begins e.deed ≡ false = ap begins at ∙ other in
            let next = wants_next p k h e.deed (going e.deed before may) in
            let running = wish_runs p k h (wanted_by (unwrap_or (last_started k h) 0) e.deed) next in
            let a = living running in
            goes_on is own before running a (sym (alive_next p k h running a) ∙ next ∙ ap (λ o. Some (wanted_by (unwrap_or o 0) e.deed)) a.started)

    by_own : (b : Bool) → is_of k e ≡ b → IsTo p k h e
    by_own false other = others other
    by_own true own =
        let is = is_mine k e own in
        let program : follows_program p h (Act k) e.deed ≡ true = subst (λ (x : Entry). follows_program p h x.actor e.deed ≡ true) is may.actor in
        by_begin is own (and_parts (starts_or_goes_on p h k e.deed) (not (is_held_back p h k)) program).0 e.deed refl

-- ---- histories

pub fit_key : (p : Plan) (k : ActKey) (d : Deed) → fits p (mine k d) ≡ true → key_fits p k ≡ true
fit_key p k d fit = by_event (needs_event d) (and_parts (if needs_event d then key_fits p k else (key_fits p k && activation_may_want p k (instance_of p k.runnable) (wanted_by 0 d))) (answer_fits p (Act k) d) fit).0
  where
    by_event : (b : Bool) → (if b then key_fits p k else (key_fits p k && activation_may_want p k (instance_of p k.runnable) (wanted_by 0 d))) ≡ true → key_fits p k ≡ true
    by_event true e = e
    by_event false e = (and_parts (key_fits p k) (activation_may_want p k (instance_of p k.runnable) (wanted_by 0 d)) e).0

pub alive : (p : Plan) (k : ActKey) (h : History) → IsLegal p h → runs k h ≡ true → Alive p k h
alive p k [] legal running = absurd (false≢true running)
alive p k (e ∷ h) legal running = by_kind (alive p k h legal.0) (is_to p k h e legal.1 (alive p k h legal.0))
  where
    by_kind : (runs k h ≡ true → Alive p k h) → IsTo p k h e → Alive p k (e ∷ h)
    by_kind before (others other) =
        let a = before (sym (runs_other k e h other) ∙ running) in
        record {
          activation = a.activation;
          runnable = a.runnable;
          key = a.key;
          found = a.found;
          own = a.own;
          followed = a.followed;
          going = a.going;
          is = activation_other k e h other ∙ a.is;
          started = started_other k e h other ∙ a.started;
        }
    by_kind before (starts event point value is own idle runnable asked) =
        let key = fit_key p k (deed.Start event point value) (subst (λ x. fits p x ≡ true) is legal.1.fit) in
        let r = there_is p.runnables k.runnable (ltb-true k.runnable (length p.runnables) (and_parts (nat_lt k.runnable (length p.runnables)) _ key).0) in
        record {
          activation = record { event = event; start = words_of value; deeds = [] };
          runnable = r.0;
          key = key;
          found = r.1;
          own = runnable;
          followed = followed_none p r.0 event (words_of value);
          going = refl;
          is = ap (λ x. activation_of k (x ∷ h)) is ∙ activation_mine k (deed.Start event point value) h;
          started = ap (λ x. last_started k (x ∷ h)) is ∙ started_mine k (deed.Start event point value) h;
        }
    by_kind before (goes_on is own other goes a next) =
        let b = a.activation in
        let left : not (is_over e.deed) ≡ true = sym (ap (λ x. runs k (x ∷ h)) is ∙ runs_mine k e.deed h) ∙ running in
        record {
          activation = record { event = b.event; start = b.start; deeds = b.deeds ++ e.deed ∷ [] };
          runnable = a.runnable;
          key = a.key;
          found = a.found;
          own = a.own;
          followed = followed_more p a.runnable b.event b.start b.deeds e.deed a.followed next;
          going = all_more (λ d. not (is_over d)) b.deeds e.deed a.going left;
          is = ap (λ x. activation_of k (x ∷ h)) is ∙ activation_mine k e.deed h ∙ ap (with_deed e.deed) a.is ∙ grown e.deed b other;
          started = ap (λ x. last_started k (x ∷ h)) is ∙ started_mine k e.deed h ∙ ap (λ o. option_or o (last_started k h)) (none_started e.deed other) ∙ a.started;
        }
