-- What may come after the entries of an object may follow the whole history.
use Rattle.std.proofs.Common.{◌≡◌, ℕ, Bool, true, false, ◌&&◌, not, if◌then◌else◌, refl, sym, ◌∙◌, ap, subst, Option, Some, None}
use Rattle.bus_semantics.specs.Common.{and_from, and_parts, eq-eqb, false≢true, not-true, ActKey, same_number, Plan, kind_of, runnable_of_event, Wanted, to_start, wanted_by, History, Noted}
use Rattle.bus_semantics.specs.Common.{Past, noted, note, needs_event, started_before, runs, last_started, object_of, touched, touched_by, touches, entries_of, key_fits, fits, next_wish}
use Rattle.bus_semantics.specs.Common.{is_this, may_start, caller_has_asked, is_held_back, starts_or_goes_on, follows_program, starts_its_own, is_proper, SameAnswers, start_matches, matches}
use Rattle.bus_semantics.specs.Common.{admission_allows, Answers, MayFollow, IsLegal, MayCome, IsSound}
use Rattle.std.specs.Prelude.{unwrap_or}
use Rattle.bus_laws.specs.Common.{Mapping, Actor, Act, Deed}
use Rattle.bus_semantics.specs.declared.entries.Deed.TheVariants as deed
use Rattle.bus_semantics.proofs.SameWanted.{wish_itself}
use Rattle.history_laws.proofs.Asking.{begun, end_own, admission_own}
use Rattle.bus_laws.proofs.Thinning.{noting, option_same}
use Rattle.bus_laws.proofs.Local.{touching, proper_legal}
use Rattle.history_laws.proofs.Keys.{Alive, alive, alive_next, wish_runs}
use Rattle.history_laws.proofs.GoingOn.{acting}
use Rattle.history_laws.proofs.Wished.{begin_matches, wish_matches}

-- ---- what matches

pub wish_fine : (p : Plan) (m : Mapping) (h : History) (k : ActKey) (w : Wanted) (object : ℕ) (n : Noted) → IsSound p m → IsLegal p h → next_wish p h k ≡ Some w → n.entry.actor ≡ Act k
    → wanted_by (unwrap_or n.event 0) n.entry.deed ≡ w → touches p object n ≡ true → matches p (entries_of p h object) n ≡ true
wish_fine p m h k w object n sound legal next who wish touch =
    let running = wish_runs p k h w next in
    let a = alive p k h legal running in
    let own : n ≡ noting (Act k) n.entry.deed n.event = λ i. record { entry = record { actor = who i; deed = n.entry.deed }; event = n.event } in
    subst (λ x. matches p (entries_of p h object) x ≡ true) (sym own)
    (wish_matches p m sound h legal object k running a n.entry.deed n.event (sym (alive_next p k h running a) ∙ next ∙ ap (λ x. Some x) (sym wish)) (subst (λ x. touches p object x ≡ true) own touch))

pub start_fine : (p : Plan) (m : Mapping) (h : History) (k : ActKey) (event object : ℕ) → IsSound p m → IsLegal p h → key_fits p k ≡ true → may_start p h k event ≡ true
    → object_of p (Act k) (to_start event) ≡ Some object → start_matches p (entries_of p h object) event (kind_of p event) ≡ true
start_fine p m h k event object sound legal fit may at =
    let own = same_number (runnable_of_event p event) (Some k.runnable) in
    let both = and_parts own (not (runs k h)) (and_parts (own && not (runs k h)) (caller_has_asked p h k) may).0 in
    begin_matches p m sound h legal object k event fit (option_same (runnable_of_event p event) (Some k.runnable) both.0) (not-true (runs k h) both.1)
    (ap (λ o. same_number o (Some object)) at ∙ eq-eqb object object refl)

-- ---- one object and the whole

more : (p : Plan) (n : Noted) (h l : Past) → SameAnswers p n h l → Answers p l n → Answers p h n
more p n h l same answers = record {
  unqueued = same.unqueued ∙ answers.unqueued;
  queued = same.queued ∙ answers.queued;
  calls = same.calls ∙ answers.calls;
  areas = same.areas ∙ answers.areas;
  modes = same.modes ∙ answers.modes;
  admission = same.admission ∙ answers.admission;
  due = same.due ∙ answers.due;
}

lifted : (p : Plan) (m : Mapping) (h : History) (object : ℕ) (n : Noted) → IsSound p m → IsLegal p h → is_proper p n ≡ true → Answers p (entries_of p h object) n
    → touches p object (note h n.entry) ≡ true → admission_allows p (entries_of p h object) (note h n.entry).event n.entry.deed ≡ true → Answers p (noted h) (note h n.entry)
lifted p m h object n sound legal proper answers touch admission =
    more p (note h n.entry) (noted h) (entries_of p h object)
    (touching p m (noted h) (note h n.entry) object sound (proper_legal p h legal) proper (option_same (touched_by p (note h n.entry)) (Some object) touch))
    (record {
      unqueued = answers.unqueued;
      queued = answers.queued;
      calls = answers.calls;
      areas = answers.areas;
      modes = answers.modes;
      admission = admission;
      due = answers.due;
    })

free_touch : (p : Plan) (object : ℕ) (h : History) (a : Actor) (d : Deed) (event : Option ℕ) → needs_event d ≡ false → touches p object (noting a d event) ≡ true → touches p object (note h (record { actor = a; deed = d })) ≡ true
free_touch p object h a (deed.Admit said) event other touch = absurd (false≢true (sym other))
free_touch p object h a deed.End event other touch = absurd (false≢true (sym other))
free_touch p object h a d event other touch = touch

free_admission : (p : Plan) (l : Past) (h : History) (a : Actor) (d : Deed) → needs_event d ≡ false → admission_allows p l (note h (record { actor = a; deed = d })).event d ≡ true
free_admission p l h a (deed.Admit said) other = absurd (false≢true (sym other))
free_admission p l h a deed.End other = absurd (false≢true (sym other))
free_admission p l h a d other = refl

pub entry_follows : (p : Plan) (m : Mapping) (h : History) (a : Actor) (w : Wanted) (n : Noted) → IsSound p m → IsLegal p h → needs_event n.entry.deed ≡ false → follows_program p h a n.entry.deed ≡ true
    → MayCome p a w (entries_of p h (touched p a w)) n → MayFollow p h n.entry
entry_follows p m h a w n sound legal other program may = record {
  fit = (and_parts (fits p n.entry) (starts_its_own p n.entry.actor n.entry.deed) may.follows.proper).0;
  actor = subst (λ x. follows_program p h x n.entry.deed ≡ true) (sym may.actor) program;
  answers = lifted p m h (touched p a w) n sound legal may.follows.proper may.follows.answers
      (free_touch p (touched p a w) h n.entry.actor n.entry.deed n.event other may.follows.touching) (free_admission p (entries_of p h (touched p a w)) h n.entry.actor n.entry.deed other);
}

-- ---- an activation's wish

module _ (p : Plan) (m : Mapping) (h : History) (k : ActKey) (w : Wanted) (sound : IsSound p m) (legal : IsLegal p h) (next : next_wish p h k ≡ Some w) (free : is_held_back p h k ≡ false) where
  living : Alive p k h
  living = alive p k h legal (wish_runs p k h w next)

  -- the event that an admission or an end names is the activation's
  started_by : (d : Deed) (event : Option ℕ) → touches p (touched p (Act k) w) (noting (Act k) d event) ≡ true → wanted_by (unwrap_or event 0) d ≡ w → needs_event d ≡ true → event ≡ last_started k h
  started_by (deed.Admit said) None touch same needs = absurd (false≢true touch)
  started_by (deed.Admit said) (Some f) touch same needs =
      let a = living in
      ap (λ n. Some n) (admission_own p m k a.runnable a.activation.event (acting p m k h sound a) a.activation.start a.activation.deeds f (sym (alive_next p k h (wish_runs p k h w next) a) ∙ next ∙ ap (λ x. Some x) (sym same))) ∙ sym a.started
  started_by deed.End None touch same needs = absurd (false≢true touch)
  started_by deed.End (Some f) touch same needs =
      let a = living in
      ap (λ n. Some n) (end_own p m k a.runnable a.activation.event (acting p m k h sound a) a.activation.start a.activation.deeds f (sym (alive_next p k h (wish_runs p k h w next) a) ∙ next ∙ ap (λ x. Some x) (sym same))) ∙ sym a.started
  started_by d event touch same needs = absurd (false≢true needs)

  going_on : (d : Deed) (event : Option ℕ) → wanted_by (unwrap_or event 0) d ≡ w → (needs_event d ≡ true → event ≡ last_started k h) → starts_or_goes_on p h k d ≡ true
  going_on d event same started = by_deed d same (by_needs (needs_event d) refl)
    where
      by_needs : (b : Bool) → needs_event d ≡ b → wanted_by (unwrap_or (last_started k h) 0) d ≡ w
      by_needs true needs = ap (λ o. wanted_by (unwrap_or o 0) d) (sym (started needs)) ∙ same
      by_needs false other = freely d other ∙ same
        where
          freely : (d : Deed) → needs_event d ≡ false → wanted_by (unwrap_or (last_started k h) 0) d ≡ wanted_by (unwrap_or event 0) d
          freely (deed.Admit said) other = absurd (false≢true (sym other))
          freely deed.End other = absurd (false≢true (sym other))
          freely d other = refl

      by_deed : (d : Deed) → wanted_by (unwrap_or event 0) d ≡ w → wanted_by (unwrap_or (last_started k h) 0) d ≡ w → starts_or_goes_on p h k d ≡ true
      by_deed (deed.Start e point value) same wish =
          let a = living in
          absurd (false≢true (sym (begun p m k a.runnable a.activation.event (acting p m k h sound a) a.activation.start a.activation.deeds (to_start e) (sym (alive_next p k h (wish_runs p k h w next) a) ∙ next ∙ ap (λ x. Some x) (sym same)))))
      by_deed d same wish = (λ i. is_this (wish i) (next i)) ∙ wish_itself w

  pub wish_follows_here : (n : Noted) → MayCome p (Act k) w (entries_of p h (touched p (Act k) w)) n → MayFollow p h n.entry
  wish_follows_here n may =
      let object = touched p (Act k) w in
      let own : n ≡ noting (Act k) n.entry.deed n.event = λ i. record { entry = record { actor = may.actor i; deed = n.entry.deed }; event = n.event } in
      let touch_it : touches p object (noting (Act k) n.entry.deed n.event) ≡ true = subst (λ x. touches p object x ≡ true) own may.follows.touching in
      let started = started_by n.entry.deed n.event touch_it may.wish in
      let program : follows_program p h (Act k) n.entry.deed ≡ true = and_from (starts_or_goes_on p h k n.entry.deed) (not (is_held_back p h k)) (going_on n.entry.deed n.event may.wish started) (ap not free) in
      by_needs program (needs_event n.entry.deed) refl started
    where
      by_needs : follows_program p h (Act k) n.entry.deed ≡ true → (b : Bool) → needs_event n.entry.deed ≡ b → (needs_event n.entry.deed ≡ true → n.event ≡ last_started k h) → MayFollow p h n.entry
      by_needs program false other started = entry_follows p m h (Act k) w n sound legal other program may
      by_needs program true needs started =
          let event : n.event ≡ (note h n.entry).event = started needs ∙ sym (ap (λ x. started_before x h) may.actor) ∙ sym (ap (λ b. if b then started_before n.entry.actor h else None) needs) in
          record {
            fit = (and_parts (fits p n.entry) (starts_its_own p n.entry.actor n.entry.deed) may.follows.proper).0;
            actor = subst (λ x. follows_program p h x n.entry.deed ≡ true) (sym may.actor) program;
            answers = lifted p m h (touched p (Act k) w) n sound legal may.follows.proper may.follows.answers
                (subst (λ o. touches p (touched p (Act k) w) (record { entry = n.entry; event = o }) ≡ true) event may.follows.touching)
                (subst (λ o. admission_allows p (entries_of p h (touched p (Act k) w)) o n.entry.deed ≡ true) event may.follows.answers.admission);
          }

pub wish_follows : (p : Plan) (m : Mapping) (h : History) (k : ActKey) (w : Wanted) (n : Noted) → IsSound p m → IsLegal p h → next_wish p h k ≡ Some w → is_held_back p h k ≡ false
    → MayCome p (Act k) w (entries_of p h (touched p (Act k) w)) n → MayFollow p h n.entry
wish_follows p m h k w n sound legal next free may = wish_follows_here p m h k w sound legal next free n may
