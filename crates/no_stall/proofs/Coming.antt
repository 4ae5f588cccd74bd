-- Of what a running activation wants next an entry may follow, unless its area is held or its answer has not been returned.
use Rattle.std.proofs.Common.{◌≡◌, ℕ, ℤ, Bool, true, false, ◌&&◌, not, ◌==◌, refl, sym, ◌∙◌, ap, subst, List, length, nat_le, Option, Some, None}
use Rattle.std.specs.Prelude.{unwrap_or}
use Rattle.bus_semantics.specs.Common.{slice_get, option_map_or, and_from, and_parts, leb-true, false≢true, ActKey, words_of, same_words, same_number, Plan, instance_of, Wanted, to_tick}
use Rattle.bus_semantics.specs.Common.{to_start, to_admit, to_fetch, to_write, to_read, to_invalidate, to_see_updated, to_send, to_receive, to_ask, to_hear, to_take_result, to_return}
use Rattle.bus_semantics.specs.Common.{to_enter, to_leave, to_switch, to_see_mode, to_move_on, to_publish, to_fetch_all, to_publish_all, to_end, wanted_by, same_wanted, elems_of, History}
use Rattle.bus_semantics.specs.Common.{event_started, last_started, noted, note, key_fits, modes_of, mode_port_fits, activation_may_want, wish_fits, answer_fits, fits, value_at, moment_of}
use Rattle.bus_semantics.specs.Common.{read_code, is_updated, send_code, received_at, ask_code, answer_to, result_of, is_held, switch_code, mode_at_port, is_disabled, admission_allows}
use Rattle.bus_semantics.specs.Common.{Answers, next_wish, is_held_back, is_this, starts_or_goes_on, is_start, try_of, IsStuck}
use Rattle.bus_laws.specs.Common.{ModePortPlan, Act, Deed, Entry}
use Rattle.bus_semantics.specs.declared.entries.Deed.TheVariants as deed
use Rattle.bus_semantics.proofs.SameWanted.{wish_itself}
use Rattle.history_laws.specs.Given.{words_given}
use Rattle.history_laws.proofs.Values.{Words, few_words, element_words, received_words, answer_words, result_words}
use Rattle.bus_laws.proofs.Thinning.{same_list, same_flag, same_test}

both_same : (n x : ℕ) (ws us : List ℤ) → ws ≡ us → ((n == n) && ((x == x) && same_words ws us)) ≡ true
both_same n x ws us e = and_from (n == n) ((x == x) && same_words ws us) (same_test n) (and_from (x == x) (same_words ws us) (same_test x) (same_list ws us e))

word_same : (n : ℕ) (ws us : List ℤ) → ws ≡ us → ((n == n) && same_words ws us) ≡ true
word_same n ws us e = and_from (n == n) (same_words ws us) (same_test n) (same_list ws us e)

-- an admission and an end are of the event that started the activation
abbrev pub IsOwn : (event : ℕ) → Wanted → Type 0
IsOwn event (to_admit e) = e ≡ event
IsOwn event (to_end e) = e ≡ event
IsOwn event w = Unit {0}

-- why no entry of the wish may follow
pub data Held (h : History) (w : Wanted) : Type 0 where
  entering : (x : ℕ) → w ≡ to_enter x → is_held x (noted h) ≡ true → Held h w
  hearing : (q : ℕ) → w ≡ to_hear q → answer_to q (noted h) ≡ None → Held h w

module _ (p : Plan) (h : History) (k : ActKey) (event : ℕ) (started : last_started k h ≡ Some event) (free : is_held_back p h k ≡ false) where
  abbrev entry : Deed → Entry
  entry d = record { actor = Act k; deed = d }

  goes_on : (w : Wanted) → next_wish p h k ≡ Some w → (d : Deed) → event_started d ≡ None → wanted_by event d ≡ w → starts_or_goes_on p h k d ≡ true
  goes_on w next (deed.Start e point value) other is = absurd (cc other)
  goes_on w next d other is =
      ap (λ (o : Option ℕ). is_this (wanted_by (unwrap_or o 0) d) (next_wish p h k)) started
      ∙ ap (is_this (wanted_by event d)) next
      ∙ ap (λ v. same_wanted v w) is
      ∙ wish_itself w

  fit_so : (w : Wanted) → wish_fits p (Act k) w ≡ true → (d : Deed) → wanted_by event d ≡ w → answer_fits p (Act k) d ≡ true → fits p (entry d) ≡ true
  fit_so w fit (deed.Admit admitted) is answer = and_from (key_fits p k) true (and_parts (key_fits p k) (activation_may_want p k (instance_of p k.runnable) w) fit).0 refl
  fit_so w fit deed.End is answer = and_from (key_fits p k) true (and_parts (key_fits p k) (activation_may_want p k (instance_of p k.runnable) w) fit).0 refl
  fit_so w fit d is answer = and_from (wish_fits p (Act k) (wanted_by 0 d)) (answer_fits p (Act k) d) (subst (λ v. wish_fits p (Act k) v ≡ true) (sym is) fit) answer

  tried_so : (w : Wanted) (d : Deed) → wanted_by event d ≡ w → try_of h (entry d) ≡ (Act k, w)
  tried_so w (deed.Admit admitted) is = ap (λ (o : Option ℕ). (Act k, to_admit (unwrap_or o 0))) started ∙ ap (λ v. (Act k, v)) is
  tried_so w deed.End is = ap (λ (o : Option ℕ). (Act k, to_end (unwrap_or o 0))) started ∙ ap (λ v. (Act k, v)) is
  tried_so w d is = ap (λ v. (Act k, v)) is

  module _ (w : Wanted) (next : next_wish p h k ≡ Some w) (fit : wish_fits p (Act k) w ≡ true) (stuck : IsStuck p h (Act k, w)) where
    never : {X : Type 0} (d : Deed) → event_started d ≡ None → wanted_by event d ≡ w → answer_fits p (Act k) d ≡ true → Answers p (noted h) (note h (entry d)) → X
    never d other is answer answers = absurd (stuck (entry d) (tried_so w d is)
        (record { fit = fit_so w fit d is answer; actor = and_from (starts_or_goes_on p h k d) (not (is_held_back p h k)) (goes_on w next d other is) (ap not free); answers = answers }))

    unwanted : {X : Type 0} → activation_may_want p k (instance_of p k.runnable) w ≡ false → X
    unwanted never_wanted = absurd (false≢true (sym never_wanted ∙ (and_parts (key_fits p k) (activation_may_want p k (instance_of p k.runnable) w) fit).1))

  -- a mode that is answered is one of the machine's, or the number of its modes
  abbrev ModesFit : Type 0
  ModesFit = (port : ℕ) (t : ModePortPlan) → slice_get p.mode_ports port ≡ Some t → nat_le (mode_at_port p port (noted h)) (modes_of p t.machine) ≡ true

  -- the values of a list's elements are together a value
  abbrev MomentsFit : Type 0
  MomentsFit = (l : ℕ) → Words (moment_of p (elems_of p l) (noted h))

  pub held : ModesFit → MomentsFit → (w : Wanted) → next_wish p h k ≡ Some w → wish_fits p (Act k) w ≡ true → is_start w ≡ false → IsOwn event w → nat_le (length (words_given w)) 16 ≡ true → IsStuck p h (Act k, w) → Held h w
  held modes moments to_tick next fit begun own few stuck = unwanted to_tick next fit stuck refl
  held modes moments (to_start e) next fit begun own few stuck = absurd (false≢true (sym begun))
  held modes moments (to_admit e) next fit begun own few stuck = let admitted = not (is_disabled p event (noted h)) in
      never (to_admit e) next fit stuck (deed.Admit admitted) refl (ap to_admit (sym own)) refl
      (record {
        unqueued = refl;
        queued = refl;
        calls = refl;
        areas = refl;
        modes = refl;
        admission = subst (λ o. admission_allows p (noted h) o (deed.Admit admitted) ≡ true) (sym started) (same_flag admitted);
        due = refl;
      })
  held modes moments (to_fetch x) next fit begun own few stuck = let v = element_words p x (noted h) in
      never (to_fetch x) next fit stuck (deed.Fetch x v.value) refl refl refl
      (record { unqueued = same_list (words_of v.value) (value_at p x (noted h)) v.is; queued = refl; calls = refl; areas = refl; modes = refl; admission = refl; due = refl })
  held modes moments (to_write x ws) next fit begun own few stuck = let v = few_words ws (leb-true (length ws) 16 few) in
      never (to_write x ws) next fit stuck (deed.Write x v.value) refl (ap (to_write x) v.is) refl
      (record { unqueued = refl; queued = refl; calls = refl; areas = refl; modes = refl; admission = refl; due = refl })
  held modes moments (to_read x) next fit begun own few stuck = let v = element_words p x (noted h) in
      never (to_read x) next fit stuck (deed.Read x (read_code p x (noted h)) v.value) refl refl refl
      (record { unqueued = word_same (read_code p x (noted h)) (words_of v.value) (value_at p x (noted h)) v.is; queued = refl; calls = refl; areas = refl; modes = refl; admission = refl; due = refl })
  held modes moments (to_invalidate x) next fit begun own few stuck = never (to_invalidate x) next fit stuck (deed.Invalidate x) refl refl refl
      (record { unqueued = refl; queued = refl; calls = refl; areas = refl; modes = refl; admission = refl; due = refl })
  held modes moments (to_see_updated x) next fit begun own few stuck = never (to_see_updated x) next fit stuck (deed.IsUpdated x (is_updated p x (noted h))) refl refl refl
      (record { unqueued = same_flag (is_updated p x (noted h)); queued = refl; calls = refl; areas = refl; modes = refl; admission = refl; due = refl })
  held modes moments (to_send x ws) next fit begun own few stuck = let v = few_words ws (leb-true (length ws) 16 few) in
      never (to_send x ws) next fit stuck (deed.Send x v.value (send_code p x (noted h))) refl (ap (to_send x) v.is) refl
      (record { unqueued = refl; queued = same_test (send_code p x (noted h)); calls = refl; areas = refl; modes = refl; admission = refl; due = refl })
  held modes moments (to_receive x) next fit begun own few stuck = let v = received_words p x (noted h) in let o = received_at p x (noted h) in
      never (to_receive x) next fit stuck (deed.Receive x o.0 v.value) refl refl refl
      (record { unqueued = refl; queued = word_same o.0 (words_of v.value) o.1 v.is; calls = refl; areas = refl; modes = refl; admission = refl; due = refl })
  held modes moments (to_ask q ws) next fit begun own few stuck = let v = few_words ws (leb-true (length ws) 16 few) in
      never (to_ask q ws) next fit stuck (deed.Ask q v.value (ask_code p q (noted h))) refl (ap (to_ask q) v.is) refl
      (record { unqueued = refl; queued = refl; calls = same_test (ask_code p q (noted h)); areas = refl; modes = refl; admission = refl; due = refl })
  held modes moments (to_hear q) next fit begun own few stuck = by_answer (answer_to q (noted h)) refl
    where
      by_answer : (o : Option (ℕ × List ℤ)) → answer_to q (noted h) ≡ o → Held h (to_hear q)
      by_answer None is = hearing q refl is
      by_answer (Some x) is = let v = answer_words q (noted h) x is in
          never (to_hear q) next fit stuck (deed.Answer q x.0 v.value) refl refl refl
          (record { unqueued = refl; queued = refl; calls = rw is (word_same x.0 (words_of v.value) x.1 v.is); areas = refl; modes = refl; admission = refl; due = refl })
  held modes moments (to_take_result q) next fit begun own few stuck = let v = result_words p q (noted h) in let o = result_of p q (noted h) in
      never (to_take_result q) next fit stuck (deed.TakeResult q o.0 v.value) refl refl refl
      (record { unqueued = refl; queued = refl; calls = word_same o.0 (words_of v.value) o.1 v.is; areas = refl; modes = refl; admission = refl; due = refl })
  held modes moments (to_return code ws) next fit begun own few stuck = let v = few_words ws (leb-true (length ws) 16 few) in
      never (to_return code ws) next fit stuck (deed.Return code v.value) refl (ap (to_return code) v.is) refl
      (record { unqueued = refl; queued = refl; calls = refl; areas = refl; modes = refl; admission = refl; due = refl })
  held modes moments (to_enter x) next fit begun own few stuck = by_held (is_held x (noted h)) refl
    where
      by_held : (b : Bool) → is_held x (noted h) ≡ b → Held h (to_enter x)
      by_held true is = entering x refl is
      by_held false is = never (to_enter x) next fit stuck (deed.Enter x) refl refl refl
          (record { unqueued = refl; queued = refl; calls = refl; areas = ap not is; modes = refl; admission = refl; due = refl })
  held modes moments (to_leave x) next fit begun own few stuck = never (to_leave x) next fit stuck (deed.Leave x) refl refl refl
      (record { unqueued = refl; queued = refl; calls = refl; areas = refl; modes = refl; admission = refl; due = refl })
  held modes moments (to_switch m mode) next fit begun own few stuck = never (to_switch m mode) next fit stuck (deed.Switch m mode (switch_code p m (noted h))) refl refl refl
      (record { unqueued = refl; queued = refl; calls = refl; areas = refl; modes = same_test (switch_code p m (noted h)); admission = refl; due = refl })
  held modes moments (to_see_mode port) next fit begun own few stuck = never (to_see_mode port) next fit stuck (deed.Mode port (mode_at_port p port (noted h))) refl refl answer
      (record { unqueued = refl; queued = refl; calls = refl; areas = refl; modes = same_test (mode_at_port p port (noted h)); admission = refl; due = refl })
    where
      by_port : (o : Option ModePortPlan) → slice_get p.mode_ports port ≡ o → option_map_or (λ (t : ModePortPlan). same_number t.instance (instance_of p k.runnable)) o false ≡ true
          → option_map_or (λ (t : ModePortPlan). nat_le (mode_at_port p port (noted h)) (modes_of p t.machine)) o false ≡ true
      by_port None there fits = absurd (false≢true fits)
      by_port (Some t) there fits = modes port t there

      answer : answer_fits p (Act k) (deed.Mode port (mode_at_port p port (noted h))) ≡ true
      answer = by_port (slice_get p.mode_ports port) refl (and_parts (key_fits p k) (mode_port_fits p (instance_of p k.runnable) port) fit).1
  held modes moments to_move_on next fit begun own few stuck = unwanted to_move_on next fit stuck refl
  held modes moments (to_publish x ws) next fit begun own few stuck = let v = few_words ws (leb-true (length ws) 16 few) in
      never (to_publish x ws) next fit stuck (deed.Publish x v.value) refl (ap (to_publish x) v.is) refl
      (record { unqueued = refl; queued = refl; calls = refl; areas = refl; modes = refl; admission = refl; due = refl })
  held modes moments (to_fetch_all l) next fit begun own few stuck = let v = moments l in
      never (to_fetch_all l) next fit stuck (deed.FetchAll l v.value) refl refl refl
      (record { unqueued = same_list (words_of v.value) (moment_of p (elems_of p l) (noted h)) v.is; queued = refl; calls = refl; areas = refl; modes = refl; admission = refl; due = refl })
  held modes moments (to_publish_all l written ws) next fit begun own few stuck = let v = few_words ws (leb-true (length ws) 16 few) in
      never (to_publish_all l written ws) next fit stuck (deed.PublishAll l written v.value) refl (ap (to_publish_all l written) v.is) refl
      (record { unqueued = refl; queued = refl; calls = refl; areas = refl; modes = refl; admission = refl; due = refl })
  held modes moments (to_end e) next fit begun own few stuck = never (to_end e) next fit stuck deed.End refl (ap to_end (sym own)) refl
      (record {
        unqueued = refl;
        queued = refl;
        calls = refl;
        areas = refl;
        modes = refl;
        admission = subst (λ o. admission_allows p (noted h) o deed.End ≡ true) (sym started) refl;
        due = refl;
      })
