-- What a further entry changes: who runs and is held back, the current activation of a key, and what a frame stands for.
use Rattle.std.proofs.Common.{◌≡◌, ℕ, Bool, true, false, ◌&&◌, not, if◌then◌else◌, refl, sym, ◌∙◌, ap, [], ◌∷◌, ◌++◌, Option, Some, None}
use Rattle.std.specs.Prelude.{option_and_then, unwrap_or}
use Rattle.bus_semantics.specs.Common.{and_from, false≢true, or_right, option_or, Value, ActKey, words_of, same_number, Plan, runnable_of_event, Wanted, to_start, wanted_by, same_wanted}
use Rattle.bus_semantics.specs.Common.{History, is_over, is_end, is_of, event_started, needs_event, runs, last_started, Activation, with_deed, activation_of, next_wish, direct_key}
use Rattle.bus_semantics.specs.Common.{accepted_point, asked_last, ended_since, is_held_back, caller_has_asked, may_start, is_this, is_wanted_next, starts_or_goes_on, follows_program}
use Rattle.bus_semantics.specs.Common.{is_start, event_of, starts_its_own}
use Rattle.bus_laws.specs.Common.{Act, Deed, Entry}
use Rattle.bus_semantics.specs.declared.entries.Deed.TheVariants as deed
use Rattle.bus_semantics.proofs.SameWanted.{wish_itself}
use Rattle.bus_laws.proofs.Thinning.{option_test}
use Rattle.history_laws.proofs.Keys.{begins, itself, grown, activation_mine, activation_other}
use Rattle.task_machine.specs.declared.instr.TaskSet.{TaskSet}
use Rattle.task_machine.specs.Standing.{Standing}
use Rattle.task_machine.specs.Frames.{Stands}
use Rattle.task_slots.specs.Common.{StandsFor, Fed}

abbrev pub entry_by : ActKey → Deed → Entry
entry_by k d = record { actor = Act k; deed = d }

-- ---- deeds of wishes

pub record IsStartOf (n : ℕ) (d : Deed) : Type 0 where
  pub point : Option ℕ
  pub value : Value
  pub is : d ≡ deed.Start n point value

pub start_is : (by n : ℕ) (d : Deed) → wanted_by by d ≡ to_start n → IsStartOf n d
start_is by n (deed.Start event point value) e = let same : event ≡ n = cc e in record { point = point; value = value; is = ap (λ k. deed.Start k point value) same }
start_is by n d e = absurd (cc e)

-- the answer to what is no start starts nothing
pub not_begun : (d : Deed) (by : ℕ) → is_start (wanted_by by d) ≡ false → begins d ≡ false
not_begun (deed.Start event point value) by other = absurd (false≢true (sym other))
not_begun d by other = refl

pub goes_as : (p : Plan) (g : History) (k : ActKey) (d : Deed) → begins d ≡ false → starts_or_goes_on p g k d ≡ is_wanted_next p g k d
goes_as p g k (deed.Start event point value) other = absurd (false≢true (sym other))
goes_as p g k d other = refl

pub owned : (p : Plan) (k : ActKey) (d : Deed) → begins d ≡ false → starts_its_own p (Act k) d ≡ true
owned p k (deed.Start event point value) other = absurd (false≢true (sym other))
owned p k d other = refl

-- an entry that is no Admit and no End names its wish alone, and no event
pub free_same : (d : Deed) (by other : ℕ) → needs_event d ≡ false → wanted_by by d ≡ wanted_by other d
free_same (deed.Admit admitted) by other free = absurd (false≢true (sym free))
free_same deed.End by other free = absurd (false≢true (sym free))
free_same d by other free = refl

pub free_event : (d : Deed) (by : ℕ) → needs_event d ≡ false → event_of (wanted_by by d) ≡ None
free_event (deed.Admit admitted) by free = absurd (false≢true (sym free))
free_event deed.End by free = absurd (false≢true (sym free))
free_event d by free = refl

-- an Admit and an End name theirs
pub bound_event : (d : Deed) (by : ℕ) → needs_event d ≡ true → event_of (wanted_by by d) ≡ Some by
bound_event (deed.Admit admitted) by bound = refl
bound_event deed.End by bound = refl
bound_event d by bound = absurd (false≢true bound)

-- an answer to a wish, by the event that the wish can name
pub wish_by : (d : Deed) (w : Wanted) (n : ℕ) → wanted_by (unwrap_or (event_of w) 0) d ≡ w → ((o : ℕ) → event_of w ≡ Some o → o ≡ n) → wanted_by n d ≡ w
wish_by d w n wish own = by_needs (needs_event d) refl
  where
    by_needs : (b : Bool) → needs_event d ≡ b → wanted_by n d ≡ w
    by_needs false free = free_same d n (unwrap_or (event_of w) 0) free ∙ wish
    by_needs true bound =
        let named : event_of w ≡ Some (unwrap_or (event_of w) 0) = ap event_of (sym wish) ∙ bound_event d (unwrap_or (event_of w) 0) bound in
        ap (λ v. wanted_by v d) (sym (own (unwrap_or (event_of w) 0) named)) ∙ wish

-- ---- the last ask of a key

over_accepts : (d : Deed) → is_over d ≡ true → accepted_point d ≡ None
over_accepts deed.End over = refl
over_accepts (deed.Admit false) over = refl
over_accepts (deed.Admit true) over = absurd (false≢true over)
over_accepts d over = absurd (false≢true over)

pub asked_mine : (k : ActKey) (d : Deed) (g : History) → asked_last k (entry_by k d ∷ g) ≡ accepted_point d
asked_mine k d g = rw (itself k) refl

pub asked_other : (k : ActKey) (e : Entry) (g : History) → is_of k e ≡ false → asked_last k (e ∷ g) ≡ asked_last k g
asked_other k e g other = rw other refl

-- who does not run has asked nothing
pub idle_asked : (k : ActKey) (g : History) → runs k g ≡ false → asked_last k g ≡ None
idle_asked k [] idle = refl
idle_asked k (e ∷ g) idle = by_own (is_of k e) refl idle (idle_asked k g)
  where
    is_true : (b : Bool) → (if b then false else true) ≡ false → b ≡ true
    is_true true same = refl
    is_true false same = absurd (false≢true (sym same))

    by_own : (b : Bool) → is_of k e ≡ b → (if b then (if is_over e.deed then false else true) else runs k g) ≡ false → (runs k g ≡ false → asked_last k g ≡ None) → asked_last k (e ∷ g) ≡ None
    by_own true own idle before = rw own (over_accepts e.deed (is_true (is_over e.deed) idle))
    by_own false other idle before = rw other (before idle)

-- ---- who is held back

module _ (p : Plan) where
  pub unasked_free : (g : History) (k : ActKey) → asked_last k g ≡ None → is_held_back p g k ≡ false
  unasked_free g k none = rw none refl

  pub idle_free : (g : History) (k : ActKey) → runs k g ≡ false → is_held_back p g k ≡ false
  idle_free g k idle = unasked_free g k (idle_asked k g idle)

  -- after an answer by which nothing direct is called
  pub answered_free : (g : History) (k : ActKey) (d : Deed) → option_and_then (direct_key p) (accepted_point d) ≡ None → is_held_back p (entry_by k d ∷ g) k ≡ false
  answered_free g k d none = let asked = asked_mine k d g in rw (asked, none) refl

  -- another's entry holds nobody back
  pub free_on : (g : History) (k : ActKey) (e : Entry) → is_of k e ≡ false → is_held_back p g k ≡ false → is_held_back p (e ∷ g) k ≡ false
  free_on g k e other free = by_direct (option_and_then (direct_key p) (asked_last k g)) refl
    where
      asked : asked_last k (e ∷ g) ≡ asked_last k g
      asked = asked_other k e g other

      is_ended : (b : Bool) → not b ≡ false → b ≡ true
      is_ended true same = refl
      is_ended false same = absurd (false≢true (sym same))

      by_direct : (o : Option ActKey) → option_and_then (direct_key p) (asked_last k g) ≡ o → is_held_back p (e ∷ g) k ≡ false
      by_direct None is = rw (asked, is) refl
      by_direct (Some d) is =
          let ended : ended_since k d g ≡ true = is_ended (ended_since k d g) (rw is at free) in
          let still : ended_since k d (e ∷ g) ≡ true = rw other (or_right (is_of d e && is_end e.deed) (ended_since k d g) ended) in
          rw (asked, is) (ap not still)

  pub held_now : (g : History) (k d : ActKey) (q : ℕ) → asked_last k g ≡ Some q → direct_key p q ≡ Some d → ended_since k d g ≡ false → is_held_back p g k ≡ true
  held_now g k d q asked key waits = rw (asked, key) (ap not waits)

  pub freed_now : (g : History) (k d : ActKey) (q : ℕ) → asked_last k g ≡ Some q → direct_key p q ≡ Some d → ended_since k d g ≡ true → is_held_back p g k ≡ false
  freed_now g k d q asked key ended = rw (asked, key) (ap not ended)

-- ---- whether a direct activation has ended since

pub ended_mine : (k j : ActKey) (d : Deed) (g : History) → ended_since k j (entry_by k d ∷ g) ≡ false
ended_mine k j d g = rw (itself k) refl

pub ended_other : (k j : ActKey) (e : Entry) (g : History) → is_of k e ≡ false → (is_of j e && is_end e.deed) ≡ false → ended_since k j (e ∷ g) ≡ ended_since k j g
ended_other k j e g other none = rw (other, none) refl

pub ended_now : (k j : ActKey) (g : History) → is_of k (entry_by j deed.End) ≡ false → ended_since k j (entry_by j deed.End ∷ g) ≡ true
ended_now k j g other = rw (other, itself j) refl

-- ---- the actor rule

module _ (p : Plan) (g : History) (k : ActKey) (free : is_held_back p g k ≡ false) where
  pub answer_follows : (w : Wanted) (n : ℕ) (d : Deed) → begins d ≡ false → next_wish p g k ≡ Some w → last_started k g ≡ Some n → wanted_by n d ≡ w → follows_program p g (Act k) d ≡ true
  answer_follows w n d other next last wish =
      and_from (starts_or_goes_on p g k d) (not (is_held_back p g k))
      (goes_as p g k d other
      ∙ ap (is_this (wanted_by (unwrap_or (last_started k g) 0) d)) next
      ∙ ap (λ v. same_wanted v w) (ap (λ o. wanted_by (unwrap_or o 0) d) last ∙ wish) ∙ wish_itself w)
      (ap not free)

  pub start_follows : (n : ℕ) (point : Option ℕ) (value : Value) → runnable_of_event p n ≡ Some k.runnable → runs k g ≡ false → caller_has_asked p g k ≡ true → follows_program p g (Act k) (deed.Start n point value) ≡ true
  start_follows n point value starts idle asked =
      and_from (may_start p g k n) (not (is_held_back p g k))
      (and_from _ (caller_has_asked p g k)
      (and_from (same_number (runnable_of_event p n) (Some k.runnable)) (not (runs k g)) (option_test (runnable_of_event p n) (Some k.runnable) starts) (ap not idle))
      asked)
      (ap not free)

-- the current activation has the event of the last start
pub last_event : (k : ActKey) (g : History) (a : Activation) → activation_of k g ≡ Some a → last_started k g ≡ Some a.event
last_event k [] a e = absurd (cc e)
last_event k (n ∷ g) a e = of_maker (is_of k n) refl e (λ b f. last_event k g b f)
  where
    of_deed : (d : Deed) (o : Option Activation) → activation_of k g ≡ o → with_deed d o ≡ Some a → ((b : Activation) → activation_of k g ≡ Some b → last_started k g ≡ Some b.event)
        → option_or (event_started d) (last_started k g) ≡ Some a.event
    of_deed (deed.Start event point value) o is f before = let same : record { event = event; start = words_of value; deeds = [] } ≡ a = cc f in ap (λ (b : Activation). Some b.event) same
    of_deed d None is f before = absurd (cc f)
    of_deed d (Some b) is f before = let same : b.event ≡ a.event = ap (λ (o : Option Activation). unwrap_or (option_and_then (λ (x : Activation). Some x.event) o) 0) f in before b is ∙ ap (λ n. Some n) same

    of_maker : (b : Bool) → is_of k n ≡ b → (if b then with_deed n.deed (activation_of k g) else activation_of k g) ≡ Some a → ((b : Activation) → activation_of k g ≡ Some b → last_started k g ≡ Some b.event)
        → option_or (if b then event_started n.deed else None) (last_started k g) ≡ Some a.event
    of_maker true is f before = of_deed n.deed (activation_of k g) refl f before
    of_maker false is f before = before a f

-- ---- frames

module _ (t : TaskSet) (g : History) (k : ActKey) where
  pub frame_on : (e : Entry) (f : Standing) → is_of k e ≡ false → StandsFor t g f k → StandsFor t (e ∷ g) f k
  frame_on e f other stands = record {
    activation = stands.activation;
    current = activation_other k e g other ∙ stands.current;
    point = stands.point;
    value = stands.value;
    words = stands.words;
    stands = stands.stands;
  }

  pub frame_begun : (n : ℕ) (point : Option ℕ) (value : Value) (new : Standing) → Stands t k (deed.Start n point value) [] new → StandsFor t (entry_by k (deed.Start n point value) ∷ g) new k
  frame_begun n point value new begun = record {
    activation = record { event = n; start = words_of value; deeds = [] };
    current = activation_mine k (deed.Start n point value) g;
    point = point;
    value = value;
    words = refl;
    stands = begun;
  }

  pub frame_fed : (d : Deed) (f new : Standing) → begins d ≡ false → Fed t d f new → StandsFor t g f k → StandsFor t (entry_by k d ∷ g) new k
  frame_fed d f new other fed stands = record {
    activation = record { event = stands.activation.event; start = stands.activation.start; deeds = stands.activation.deeds ++ d ∷ [] };
    current = activation_mine k d g ∙ ap (with_deed d) stands.current ∙ grown d stands.activation other;
    point = stands.point;
    value = stands.value;
    words = stands.words;
    stands = fed k (deed.Start stands.activation.event stands.point stands.value) stands.activation.deeds stands.stands;
  }
