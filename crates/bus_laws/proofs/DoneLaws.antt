-- What `is_done` computes is that a start by the event and the end of that activation follow the machine's last phase.
use Rattle.std.proofs.Common.{◌≡◌, ◌↔◌, ◌⊎◌, inl, inr, ℕ, [], ◌∷◌, ◌++◌, Bool, true, false, ◌||◌, if◌then◌else◌, refl, sym, ap, subst}
use Rattle.bus_semantics.specs.Common.{list_any, false≢true, or_from, or_parts, Noted, Past, phase_of, is_phase, is_start_by, is_end_by, started_in_phase, is_done}
use Rattle.bus_laws.specs.Happened.{DoneInPhase}
use Rattle.bus_laws.proofs.Thinning.{clash}

module _ (m e : ℕ) where
  abbrev phase : Noted → Bool
  phase n = is_phase (phase_of m n)

  abbrev either : Noted → Bool
  either n = is_start_by e n || is_end_by e n

  -- a start by the event, with no phase, start or end by it since
  record Started (h : Past) : Type 0 where
    between : Past
    started : Noted
    before : Past
    whole : h ≡ between ++ started ∷ before
    no_phase : list_any phase (between ++ started ∷ []) ≡ false
    starts : is_start_by e started ≡ true
    alone : list_any either between ≡ false

  -- ---- where it is computed

  done_later : (n : Noted) (h : Past) → phase n ≡ false → DoneInPhase m e h → DoneInPhase m e (n ∷ h)
  done_later n h none r = record {
    later = n ∷ r.later;
    ended = r.ended;
    between = r.between;
    started = r.started;
    before = r.before;
    whole = ap (λ (l : Past). n ∷ l) r.whole;
    no_phase = or_from (phase n) (list_any phase (r.later ++ r.ended ∷ (r.between ++ r.started ∷ []))) none r.no_phase;
    starts = r.starts;
    ends = r.ends;
    same_activation = r.same_activation;
  }

  ended_now : (n : Noted) (h : Past) → phase n ≡ false → is_end_by e n ≡ true → Started h → DoneInPhase m e (n ∷ h)
  ended_now n h none ends r = record {
    later = [];
    ended = n;
    between = r.between;
    started = r.started;
    before = r.before;
    whole = ap (λ (l : Past). n ∷ l) r.whole;
    no_phase = or_from (phase n) (list_any phase (r.between ++ r.started ∷ [])) none r.no_phase;
    starts = r.starts;
    ends = ends;
    same_activation = r.alone;
  }

  started_now : (n : Noted) (h : Past) → phase n ≡ false → is_start_by e n ≡ true → Started (n ∷ h)
  started_now n h none starts = record {
    between = [];
    started = n;
    before = h;
    whole = refl;
    no_phase = or_from (phase n) false none refl;
    starts = starts;
    alone = refl;
  }

  started_later : (n : Noted) (h : Past) → phase n ≡ false → is_start_by e n ≡ false → is_end_by e n ≡ false → Started h → Started (n ∷ h)
  started_later n h none no_start no_end r = record {
    between = n ∷ r.between;
    started = r.started;
    before = r.before;
    whole = ap (λ (l : Past). n ∷ l) r.whole;
    no_phase = or_from (phase n) (list_any phase (r.between ++ r.started ∷ [])) none r.no_phase;
    starts = r.starts;
    alone = or_from (either n) (list_any either r.between) (or_from (is_start_by e n) (is_end_by e n) no_start no_end) r.alone;
  }

  -- one more entry, by whether it is a phase, a start or an end
  start_step : (n : Noted) (h : Past) (f s g : Bool) → phase n ≡ f → is_start_by e n ≡ s → is_end_by e n ≡ g
      → (started_in_phase m e h ≡ true → DoneInPhase m e h ⊎ Started h) → (if f then false else (s || started_in_phase m e h)) ≡ true
      → DoneInPhase m e (n ∷ h) ⊎ Started (n ∷ h)
  start_step n h true s g is_f is_s is_g rest c = absurd (false≢true c)
  start_step n h false true g is_f is_s is_g rest c = inr (started_now n h is_f is_s)
  start_step n h false false true is_f is_s is_g rest c = elim (rest c) [
    | inl done ↦ inl (done_later n h is_f done)
    | inr started ↦ inl (ended_now n h is_f is_g started)
  ]
  start_step n h false false false is_f is_s is_g rest c = elim (rest c) [
    | inl done ↦ inl (done_later n h is_f done)
    | inr started ↦ inr (started_later n h is_f is_s is_g started)
  ]

  start_there : (h : Past) → started_in_phase m e h ≡ true → DoneInPhase m e h ⊎ Started h
  start_there [] c = absurd (false≢true c)
  start_there (n ∷ h) c = start_step n h (phase n) (is_start_by e n) (is_end_by e n) refl refl refl (start_there h) c

  done_step : (n : Noted) (h : Past) (f g : Bool) → phase n ≡ f → is_end_by e n ≡ g → (is_done m e h ≡ true → DoneInPhase m e h)
      → (if f then false else if g then started_in_phase m e h else is_done m e h) ≡ true → DoneInPhase m e (n ∷ h)
  done_step n h true g is_f is_g rest c = absurd (false≢true c)
  done_step n h false true is_f is_g rest c = elim (start_there h c) [
    | inl done ↦ done_later n h is_f done
    | inr started ↦ ended_now n h is_f is_g started
  ]
  done_step n h false false is_f is_g rest c = done_later n h is_f (rest c)

  done_there : (h : Past) → is_done m e h ≡ true → DoneInPhase m e h
  done_there [] c = absurd (false≢true c)
  done_there (n ∷ h) c = done_step n h (phase n) (is_end_by e n) refl refl (done_there h) c

  -- ---- and back

  started_one : (h : Past) (f s : Bool) → f ≡ false → (s ≡ true) ⊎ (started_in_phase m e h ≡ true) → (if f then false else (s || started_in_phase m e h)) ≡ true
  started_one h true s off c = clash true refl off
  started_one h false true off c = refl
  started_one h false false off c = elim c [ inl t ↦ absurd (false≢true t) | inr t ↦ t ]

  start_computed : (between : Past) (started : Noted) (before : Past) → list_any phase (between ++ started ∷ []) ≡ false → is_start_by e started ≡ true
      → started_in_phase m e (between ++ started ∷ before) ≡ true
  start_computed [] started before none starts = started_one before (phase started) (is_start_by e started) (or_parts (phase started) false none).0 (inl starts)
  start_computed (n ∷ between) started before none starts = let parts = or_parts (phase n) (list_any phase (between ++ started ∷ [])) none in
      started_one (between ++ started ∷ before) (phase n) (is_start_by e n) parts.0 (inr (start_computed between started before parts.1 starts))

  ended_one : (h : Past) (f g : Bool) → f ≡ false → g ≡ true → started_in_phase m e h ≡ true → (if f then false else if g then started_in_phase m e h else is_done m e h) ≡ true
  ended_one h true g off ends c = clash true refl off
  ended_one h false true off ends c = c
  ended_one h false false off ends c = absurd (false≢true ends)

  -- an end that stands later has the start before it too
  later_one : (h : Past) (f g : Bool) → f ≡ false → is_done m e h ≡ true → started_in_phase m e h ≡ true → (if f then false else if g then started_in_phase m e h else is_done m e h) ≡ true
  later_one h true g off done c = clash true refl off
  later_one h false true off done c = c
  later_one h false false off done c = done

  done_starts : (h : Past) → is_done m e h ≡ true → started_in_phase m e h ≡ true
  done_starts [] c = absurd (false≢true c)
  done_starts (n ∷ h) c = by_tests (phase n) (is_end_by e n) c (done_starts h)
    where
      by_tests : (f g : Bool) → (if f then false else if g then started_in_phase m e h else is_done m e h) ≡ true → (is_done m e h ≡ true → started_in_phase m e h ≡ true)
          → (if f then false else (is_start_by e n || started_in_phase m e h)) ≡ true
      by_tests true g c rest = absurd (false≢true c)
      by_tests false true c rest = started_one h false (is_start_by e n) refl (inr c)
      by_tests false false c rest = started_one h false (is_start_by e n) refl (inr (rest c))

  done_computed : (later : Past) (ended : Noted) (between : Past) (started : Noted) (before : Past) → list_any phase (later ++ ended ∷ (between ++ started ∷ [])) ≡ false
      → is_start_by e started ≡ true → is_end_by e ended ≡ true → is_done m e (later ++ ended ∷ (between ++ started ∷ before)) ≡ true
  done_computed [] ended between started before none starts ends = let parts = or_parts (phase ended) (list_any phase (between ++ started ∷ [])) none in
      ended_one (between ++ started ∷ before) (phase ended) (is_end_by e ended) parts.0 ends (start_computed between started before parts.1 starts)
  done_computed (n ∷ later) ended between started before none starts ends = let parts = or_parts (phase n) (list_any phase (later ++ ended ∷ (between ++ started ∷ []))) none in
      let rest = later ++ ended ∷ (between ++ started ∷ before) in
      let done = done_computed later ended between started before parts.1 starts ends in
      later_one rest (phase n) (is_end_by e n) parts.0 done (done_starts rest done)

  pub done : (h : Past) → (is_done m e h ≡ true) ↔ DoneInPhase m e h
  done h = (
    done_there h,
    λ r. subst (λ (l : Past). is_done m e l ≡ true) (sym r.whole) (done_computed r.later r.ended r.between r.started r.before r.no_phase r.starts r.ends),
  )
