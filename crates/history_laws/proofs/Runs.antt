-- Runs that obey a rule: each wish may be asked after those before it, whatever is answered, and what holds at the end is said.
use Rattle.std.proofs.Common.{◌≡◌, ℕ, zero, suc, refl, ◌∙◌, ap, subst, List, [], ◌∷◌, ◌++◌}
use Rattle.bus_semantics.specs.declared.entries.Deed.{Deed}
use Rattle.bus_semantics.specs.Common.{Wanted, wanted_by, State, Outcome, Stop, Go, Running, goes_on, both, calling, times}
use Rattle.history_laws.proofs.Trails.{Trail, trail_on}

-- what is left to run over answers
abbrev pub Run : Type 0
Run = List Deed → Outcome

-- each of the answers is one to what the run asks before it
abbrev pub IsFollowed : (event : ℕ) → Run → List Deed → Type 0
IsFollowed event f ds = (before : List Deed) (d : Deed) (after : List Deed) → before ++ d ∷ after ≡ ds → f before ≡ Stop (wanted_by event d)

pub followed_on : (event : ℕ) (f : Run) (d : Deed) (ds : List Deed) → IsFollowed event f (d ∷ ds) → IsFollowed event (λ xs. f (d ∷ xs)) ds
followed_on event f d ds followed before x after e = followed (d ∷ before) x after (ap (λ xs. d ∷ xs) e)

-- what holds of the trail and the state at the end
abbrev pub AtEnd : Type 1
AtEnd = Trail → State → Type 0

module _ (May : Trail → Wanted → Type 0) where
  -- it is over, or asks what it may, and obeys after each answer
  pub data Obeys (Q : AtEnd) : Trail → Run → Type 0 where
    over : {t : Trail} {f : Run} (s : State) → Q t s → ((ds : List Deed) → f ds ≡ Go s ds) → Obeys Q t f
    asks : {t : Trail} {f : Run} (w : Wanted) → May t w → f [] ≡ Stop w → ((d : Deed) → Obeys Q ((w, d) ∷ t) (λ ds. f (d ∷ ds))) → Obeys Q t f

  -- ---- runs one after the other

  pub same_run : (Q : AtEnd) (t : Trail) (f g : Run) → ((ds : List Deed) → f ds ≡ g ds) → Obeys Q t g → Obeys Q t f
  same_run Q t f g is (over s q e) = over s q (λ ds. is ds ∙ e ds)
  same_run Q t f g is (asks w may first rest) = asks w may (is [] ∙ first) (λ d. same_run Q ((w, d) ∷ t) (λ ds. f (d ∷ ds)) (λ ds. g (d ∷ ds)) (λ ds. is (d ∷ ds)) (rest d))

  pub then_on : (Q R : AtEnd) (n : Running) → ((u : Trail) (s : State) → Q u s → Obeys R u (n s)) → (t : Trail) (f : Run) → Obeys Q t f → Obeys R t (λ ds. goes_on n (f ds))
  then_on Q R n last t f (over s q e) = same_run R t (λ ds. goes_on n (f ds)) (n s) (λ ds. ap (goes_on n) (e ds)) (last t s q)
  then_on Q R n last t f (asks w may first rest) = asks w may (ap (goes_on n) first) (λ d. then_on Q R n last ((w, d) ∷ t) (λ ds. f (d ∷ ds)) (rest d))

  pub in_turn : (Q R : AtEnd) (m n : Running) (t : Trail) (s : State) → Obeys Q t (m s) → ((u : Trail) (s : State) → Q u s → Obeys R u (n s)) → Obeys R t (both m n s)
  in_turn Q R m n t s first last = then_on Q R n last t (m s) first

  pub repeated : (Q : AtEnd) (n : ℕ) (m : Running) → ((u : Trail) (s : State) → Q u s → Obeys Q u (m s)) → (t : Trail) (s : State) → Q t s → Obeys Q t (times n m s)
  repeated Q zero m once t s q = over s q (λ ds. refl)
  repeated Q (suc n) m once t s q = in_turn Q Q m (times n m) t s (once t s q) (λ u v is. repeated Q n m once u v is)

  pub called : (Q : AtEnd) (w : Wanted) (change : Deed → State → State) (t : Trail) (s : State) → May t w → ((d : Deed) → Q ((w, d) ∷ t) (change d s)) → Obeys Q t (calling w change s)
  called Q w change t s may after = asks w may refl (λ d. over (change d s) (after d) (λ ds. refl))

  -- ---- what is reached

  -- whatever was answered, what is asked may be asked after some trail
  pub reached : (Q : AtEnd) (t : Trail) (f : Run) → Obeys Q t f → (ds : List Deed) (w : Wanted) → f ds ≡ Stop w → (u : Trail) × May u w
  reached Q t f (over s q e) ds w is = absurd (cc (e ds, is))
  reached Q t f (asks v may first rest) [] w is = let same : v ≡ w = cc (first, is) in (t, subst (May t) same may)
  reached Q t f (asks v may first rest) (d ∷ ds) w is = reached Q ((v, d) ∷ t) (λ xs. f (d ∷ xs)) (rest d) ds w is

  module _ (event : ℕ) where
    -- after followed answers, what is asked may be asked after them
    pub asked_after : (Q : AtEnd) (t : Trail) (f : Run) → Obeys Q t f → (ds : List Deed) → IsFollowed event f ds → (w : Wanted) → f ds ≡ Stop w → May (trail_on event t ds) w
    asked_after Q t f (over s q e) ds followed w is = absurd (cc (e ds, is))
    asked_after Q t f (asks v may first rest) [] followed w is = let same : v ≡ w = cc (first, is) in subst (May t) same may
    asked_after Q t f (asks v may first rest) (d ∷ ds) followed w is =
        let same : v ≡ wanted_by event d = cc (first, followed [] d ds refl) in
        subst (λ x. May (trail_on event ((x, d) ∷ t) ds) w) same (asked_after Q ((v, d) ∷ t) (λ xs. f (d ∷ xs)) (rest d) ds (followed_on event f d ds followed) w is)

    -- what each call keeps holds after followed answers
    pub kept_after : (I : Trail → Type 0) → ((u : Trail) (w : Wanted) (d : Deed) → May u w → I u → I ((w, d) ∷ u)) → (Q : AtEnd) (t : Trail) (f : Run) → Obeys Q t f → (ds : List Deed) → IsFollowed event f ds → I t → I (trail_on event t ds)
    kept_after I keeps Q t f (over s q e) [] followed holds = holds
    kept_after I keeps Q t f (over s q e) (d ∷ ds) followed holds = absurd (cc (e [], followed [] d ds refl))
    kept_after I keeps Q t f (asks v may first rest) [] followed holds = holds
    kept_after I keeps Q t f (asks v may first rest) (d ∷ ds) followed holds =
        let same : v ≡ wanted_by event d = cc (first, followed [] d ds refl) in
        subst (λ x. I (trail_on event ((x, d) ∷ t) ds)) same (kept_after I keeps Q ((v, d) ∷ t) (λ xs. f (d ∷ xs)) (rest d) ds (followed_on event f d ds followed) (keeps t v d may holds))

    -- after followed answers it asks something, or it is over with none left
    pub data Now (Q : AtEnd) (t : Trail) (f : Run) (ds : List Deed) : Type 0 where
      stops : (w : Wanted) → f ds ≡ Stop w → Now Q t f ds
      ends : (s : State) → Q (trail_on event t ds) s → Now Q t f ds

    pub now : (Q : AtEnd) (t : Trail) (f : Run) → Obeys Q t f → (ds : List Deed) → IsFollowed event f ds → Now Q t f ds
    now Q t f (over s q e) [] followed = ends s q
    now Q t f (over s q e) (d ∷ ds) followed = absurd (cc (e [], followed [] d ds refl))
    now Q t f (asks v may first rest) [] followed = stops v first
    now Q t f (asks v may first rest) (d ∷ ds) followed =
        let same : v ≡ wanted_by event d = cc (first, followed [] d ds refl) in
        later same (now Q ((v, d) ∷ t) (λ xs. f (d ∷ xs)) (rest d) ds (followed_on event f d ds followed))
      where
        later : v ≡ wanted_by event d → Now Q ((v, d) ∷ t) (λ xs. f (d ∷ xs)) ds → Now Q t f (d ∷ ds)
        later same (stops w is) = stops w is
        later same (ends s q) = ends s (subst (λ x. Q (trail_on event ((x, d) ∷ t) ds) s) same q)
