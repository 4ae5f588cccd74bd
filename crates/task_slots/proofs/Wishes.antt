-- What activations ask: it may be tried; and until one is over there is always something.
use Rattle.std.proofs.Common.{◌≡◌, ℕ, ℤ, Bool, true, false, ◌&&◌, ◌||◌, not, if◌then◌else◌, refl, sym, ◌∙◌, ap, subst, List, [], ◌∷◌, ◌++◌, Option, Some, None}
use Rattle.std.specs.Prelude.{is_some, IfSome}
use Rattle.bus_semantics.specs.Common.{list_all, list_any, slice_get, and_from, and_parts, false≢true, ActKey, Plan, Runnable, runnable_of_event, server_of, disabling_of, Wanted, to_admit}
use Rattle.bus_semantics.specs.Common.{to_ask, to_hear, to_take_result, to_end, wanted_by, is_over, server_object, served_by, object_of, IsObject, key_fits, serves_directly, wish_fits}
use Rattle.bus_semantics.specs.Common.{next_of_activity, is_start, asks_its_own, event_of, IsSound, may_be_disabled}
use Rattle.bus_laws.specs.Common.{Actor, Act, Deed, Mapping}
use Rattle.bus_semantics.specs.declared.entries.Deed.TheVariants as deed
use Rattle.history_laws.specs.Followed.{IsActivation, Followed, AsksNext, HasJustAsked}
use Rattle.history_laws.specs.Following.{followed_none, followed_more}
use Rattle.history_laws.specs.Wishes.{is_of_a_call, is_the_end}
use Rattle.bus_laws.proofs.OneEvent.{serves_invoked}
use Rattle.history_laws.proofs.Lists.{all_more}
use Rattle.history_laws.proofs.EventFacts.{undisabled}
use Rattle.task_slots.specs.Common.{is_answered, IsAsking, IsFree, IsTried, looks_at}
use Rattle.task_slots.proofs.Until.{wants_still, wants_further}

last_of : {X : Type 0} (test : X → Bool) (xs : List X) (x : X) → list_all test (xs ++ x ∷ []) ≡ true → test x ≡ true
last_of test [] x all = (and_parts (test x) true all).0
last_of test (y ∷ xs) x all = last_of test xs x (and_parts (test y) (list_all test (xs ++ x ∷ [])) all).1

none_passes : {X : Type 0} (test : X → Bool) (xs : List X) → list_any test xs ≡ false → list_all (λ x. not (test x)) xs ≡ true
none_passes test [] none = refl
none_passes test (x ∷ xs) none = by_first (test x) refl none (λ rest. none_passes test xs rest)
  where
    by_first : (b : Bool) → test x ≡ b → (b || list_any test xs) ≡ false → (list_any test xs ≡ false → list_all (λ x. not (test x)) xs ≡ true) → (not (test x) && list_all (λ x. not (test x)) xs) ≡ true
    by_first true is none rest = absurd (false≢true (sym none))
    by_first false is none rest = and_from (not (test x)) (list_all (λ x. not (test x)) xs) (ap not is) (rest none)

-- what is no start costs one look
pub once : (o : Option ℕ) (w : Wanted) → is_start w ≡ false → looks_at o w ≡ 1
once None w other = ap (λ b. if b then 0 else 1) other
once (Some object) w other = refl

module _ (p : Plan) (m : Mapping) (sound : IsSound p m) (k : ActKey) (fit : key_fits p k ≡ true) (r : Runnable) (there : slice_get p.runnables k.runnable ≡ Some r) where
  pub acting : (event : ℕ) → runnable_of_event p event ≡ Some k.runnable → IsActivation p m k r event
  acting event starts = record { sound = sound; key = fit; runnable = there; starts = starts }

  -- ---- what is asked

  module _ (event : ℕ) (start : List ℤ) (answers : List Deed) (w : Wanted) (a : IsAsking p k r event start answers w) where
    pub next_is : next_of_activity p r event start answers ≡ Some w
    next_is = (wants_still p r event start answers w a.next).next

    -- what is heard was asked at a joined point
    never_heard : (q : ℕ) → object_of p (Act k) (to_hear q) ≡ None → HasJustAsked q answers → ⊥
    never_heard q alone asked =
        let accepted : is_some (server_of p q) ≡ true =
        last_of (is_answered p) asked.before (deed.Ask q asked.value 0) (subst (λ ds. list_all (is_answered p) ds ≡ true) asked.last a.answered) in
        by_server (server_of p q) accepted alone
      where
        by_server : (o : Option ℕ) → is_some o ≡ true → server_object p o ≡ None → ⊥
        by_server None some none = false≢true some
        by_server (Some s) some none = absurd (cc none)

    free_by : ((q : ℕ) → w ≡ to_hear q → ⊥) → (v : Wanted) → w ≡ v → (is_of_a_call v || is_the_end v) ≡ true → IsFree None v
    free_by heard (to_ask q ws) is alone = refl
    free_by heard (to_hear q) is alone = absurd (heard q is)
    free_by heard (to_take_result q) is alone = refl
    free_by heard (to_end e) is alone = refl
    free_by heard v is alone = absurd (false≢true alone)

    pub may_be_tried : ((a : Actor) (w : Wanted) → wish_fits p a w ≡ true → IfSome (object_of p a w) (IsObject p))
        → (next_of_activity p r event start answers ≡ Some w → wish_fits p (Act k) w ≡ true)
        → (next_of_activity p r event start answers ≡ Some w → asks_its_own p (Act k) w ≡ true)
        → (next_of_activity p r event start answers ≡ Some w → object_of p (Act k) w ≡ None → (is_of_a_call w || is_the_end w) ≡ true)
        → ((q : ℕ) → AsksNext p r event start answers (to_hear q) → HasJustAsked q answers)
        → IsTried p (Act k) w
    may_be_tried objects fits own alone heard = record {
      fits = fits next_is;
      own = own next_is;
      there = objects (Act k) w (fits next_is);
      free = by_object (object_of p (Act k) w) refl;
    }
      where
        by_object : (o : Option ℕ) → object_of p (Act k) w ≡ o → IsFree o w
        by_object (Some object) is = tt
        by_object None is =
            free_by (λ q same. never_heard q (ap (object_of p (Act k)) (sym same) ∙ is) (heard q (record { followed = a.followed; next = next_is ∙ ap (λ v. Some v) same }))) w refl (alone next_is is)

    -- an event that it names is its own
    pub names_own : ((other : ℕ) → next_of_activity p r event start answers ≡ Some (to_end other) → other ≡ event)
        → ((other : ℕ) → next_of_activity p r event start answers ≡ Some (to_admit other) → other ≡ event)
        → (other : ℕ) → event_of w ≡ Some other → other ≡ event
    names_own end admitted other named = by_wish w refl named
      where
        by_wish : (v : Wanted) → w ≡ v → event_of v ≡ Some other → other ≡ event
        by_wish (to_admit e) is named = let same : e ≡ other = cc named in sym same ∙ admitted e (next_is ∙ ap (λ v. Some v) is)
        by_wish (to_end e) is named = let same : e ≡ other = cc named in sym same ∙ end e (next_is ∙ ap (λ v. Some v) is)
        by_wish v is named = absurd (cc named)

    -- a direct activation is never asked to be admitted
    pub direct_ends : ((other : ℕ) → next_of_activity p r event start answers ≡ Some (to_admit other) → is_some (disabling_of p event) ≡ true) → serves_directly p k ≡ true
        → (other : ℕ) → event_of w ≡ Some other → w ≡ to_end other
    direct_ends disabled directly other named = by_wish w refl named
      where
        by_server : (o : Option ℕ) → served_by p (Act k) ≡ o → disabling_of p event ≡ None
        by_server None served = absurd (false≢true (rw served at directly))
        by_server (Some s) served = undisabled p m sound event (ap may_be_disabled (serves_invoked p m sound event s k.runnable a.starts served))

        by_wish : (v : Wanted) → w ≡ v → event_of v ≡ Some other → w ≡ to_end other
        by_wish (to_admit e) is named =
            absurd (false≢true (sym (ap is_some (by_server (served_by p (Act k)) refl)) ∙ disabled e (next_is ∙ ap (λ v. Some v) is)))
        by_wish (to_end e) is named = let same : e ≡ other = cc named in is ∙ ap to_end same
        by_wish v is named = absurd (cc named)

  -- ---- what is asked after the start, and after an answer

  abbrev GoesOn : ℕ → List ℤ → Type 0
  GoesOn event start = (answers : List Deed) → Followed p r event start answers → list_all (λ d. not (is_over d)) answers ≡ true → (w : Wanted) × (next_of_activity p r event start answers ≡ Some w)

  pub asks_first : (event : ℕ) (start : List ℤ) → runnable_of_event p event ≡ Some k.runnable → GoesOn event start → (w : Wanted) × IsAsking p k r event start [] w
  asks_first event start starts on =
      let more = on [] (followed_none p r event start) refl in
      (more.0, record { there = there; starts = starts; followed = followed_none p r event start; answered = refl; next = more.1 })

  pub asks_further : (event : ℕ) (start : List ℤ) (answers : List Deed) (d : Deed) → IsAsking p k r event start answers (wanted_by event d) → is_over d ≡ false → is_answered p d ≡ true
      → GoesOn event start → (w : Wanted) × IsAsking p k r event start (answers ++ d ∷ []) w
  asks_further event start answers d a over answer on =
      let still = wants_still p r event start answers (wanted_by event d) a.next in
      let followed = followed_more p r event start answers d a.followed still.next in
      let more = on (answers ++ d ∷ []) followed (all_more (λ d. not (is_over d)) answers d (none_passes is_over answers still.ongoing) (ap not over)) in (
        more.0,
        record {
          there = there;
          starts = a.starts;
          followed = followed;
          answered = all_more (is_answered p) answers d a.answered answer;
          next = wants_further p r event start answers d more.0 still.ongoing over more.1;
        },
      )
