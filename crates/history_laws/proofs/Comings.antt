-- Which wishes have an entry that may come.
use Rattle.std.proofs.Common.{◌≡◌, ℕ, ℤ, Bool, true, false, ◌&&◌, not, ◌==◌, if◌then◌else◌, refl, sym, ◌∙◌, ap, subst, List, [], length, Option, Some, None, is_some}
use Rattle.bus_semantics.specs.Common.{and_parts, eq-eqb, eqb-true, false≢true, slice_get, option_map_or, ActKey, Step, Value, words_of, same_words, same_number, empty_value, Plan, kind_of}
use Rattle.bus_semantics.specs.Common.{server_of, instance_of, runnable_of_event, machine_of_port, Wanted, to_admit, to_end, wanted_of, wanted_by, Noted, Past, needs_event, object_of}
use Rattle.bus_semantics.specs.Common.{touched_by, touches, touched, machine_object, key_fits, event_fits, modes_of, wish_fits, start_fits, activation_fits, answer_fits, elems_of, value_at}
use Rattle.bus_semantics.specs.Common.{moment_of, read_code, is_updated, send_code, received_at, is_held, ask_code, answer_to, result_of, next_request, is_key_point, is_request, requests_of}
use Rattle.bus_semantics.specs.Common.{starts_of, has_unstarted, switch_code, mode_at_port, is_disabled, phase_may_come, counts_for, is_due, is_due_kind, Answers, starts_its_own, is_open}
use Rattle.bus_semantics.specs.Common.{enters_by, serves_by, runs_by, start_matches, matches, event_of, asks_its_own}
use Rattle.std.specs.Prelude.{is_none, unwrap_or, nat_lt, nat_le}
use Rattle.bus_laws.specs.Common.{EventKind, Timing, Init, DataReceived, Invoked, Returns, ModeSwitch, Ack, ModePortPlan, Mapping, Actor, Env, Machine, Act, Deed, Wish}
use Rattle.bus_semantics.specs.declared.entries.Deed.TheVariants as deed
use Rattle.bus_semantics.specs.declared.entries.Wish.TheVariants as wish
use Rattle.bus_laws.proofs.Thinning.{noting, option_same, same_list, same_flag, same_test}
use Rattle.history_laws.specs.Coming.{IsAsked, Comes, may_be_held}
use Rattle.history_laws.proofs.Moments.{moment_words}
use Rattle.history_laws.proofs.Values.{element_words, received_words, answer_words, result_words}
use Rattle.history_laws.proofs.Bounds.{proper_past, mode_small, phase_small}
use Rattle.history_laws.proofs.Requests.{request_made, Serving, by_queue, directly, serving, counts_same, unstarted}

-- ---- an entry of a wish

-- an entry that needs an event has one
has_event : (w : Wanted) (d : Deed) → wanted_by (unwrap_or (event_of w) 0) d ≡ w → (needs_event d && is_none (event_of w)) ≡ false
has_event w (deed.Admit said) same = ap (λ v. is_none (event_of v)) (sym same)
has_event w deed.End same = ap (λ v. is_none (event_of v)) (sym same)
has_event w d same = refl

activation_admits : (p : Plan) (a : Actor) (e : ℕ) → wish_fits p a (to_admit e) ≡ true → activation_fits p a ≡ true
activation_admits p Env e fit = fit
activation_admits p (Machine n) e fit = absurd (false≢true (and_parts (nat_lt n (length p.machines)) false fit).1)
activation_admits p (Act k) e fit = (and_parts (key_fits p k) (event_fits p (instance_of p k.runnable) e) fit).0

activation_ends : (p : Plan) (a : Actor) (e : ℕ) → wish_fits p a (to_end e) ≡ true → activation_fits p a ≡ true
activation_ends p Env e fit = fit
activation_ends p (Machine n) e fit = absurd (false≢true (and_parts (nat_lt n (length p.machines)) false fit).1)
activation_ends p (Act k) e fit = (and_parts (key_fits p k) (event_fits p (instance_of p k.runnable) e) fit).0

fits_first : (p : Plan) (a : Actor) (w : Wanted) (d : Deed) (by : ℕ) → wanted_by by d ≡ w → wish_fits p a w ≡ true → (if needs_event d then activation_fits p a else wish_fits p a (wanted_by 0 d)) ≡ true
fits_first p a w (deed.Admit said) by same fit = activation_admits p a by (subst (λ v. wish_fits p a v ≡ true) (sym same) fit)
fits_first p a w deed.End by same fit = activation_ends p a by (subst (λ v. wish_fits p a v ≡ true) (sym same) fit)
fits_first p a w d by same fit = subst (λ v. wish_fits p a v ≡ true) (sym same) fit

starts_own : (p : Plan) (a : Actor) (w : Wanted) (d : Deed) (by : ℕ) → wanted_by by d ≡ w → asks_its_own p a w ≡ true → starts_its_own p a d ≡ true
starts_own p (Act k) w (deed.Start e point value) by same own = subst (λ v. asks_its_own p (Act k) v ≡ true) (sym same) own
starts_own p (Act k) w d by same own = refl
starts_own p Env w d by same own = refl
starts_own p (Machine n) w d by same own = refl

module _ (p : Plan) (m : Mapping) (a : Actor) (w : Wish) (l : Past) (asked : IsAsked p m a w l) where
  abbrev of : Deed → Noted
  of d = noting a d (event_of (wanted_of w))

  coming : (d : Deed) → wanted_by (unwrap_or (event_of (wanted_of w)) 0) d ≡ wanted_of w → answer_fits p a d ≡ true → Answers p l (of d) → matches p l (of d) ≡ true → Comes p a w l
  coming d same answer answers matching =
      let by = unwrap_or (event_of (wanted_of w)) 0 in
      let object : object_of p a (wanted_by by d) ≡ Some (touched p a (wanted_of w)) = ap (object_of p a) same ∙ asked.touching in
      let whole : touched_by p (of d) ≡ Some (touched p a (wanted_of w)) = ap (λ b. if b then None else object_of p a (wanted_by by d)) (has_event (wanted_of w) d same) ∙ object in
      let touch : touches p (touched p a (wanted_of w)) (of d) ≡ true = ap (λ o. same_number o (Some (touched p a (wanted_of w)))) whole ∙ eq-eqb (touched p a (wanted_of w)) (touched p a (wanted_of w)) refl in
      let first = fits_first p a (wanted_of w) d by same asked.fits in
      let starts = starts_own p a (wanted_of w) d by same asked.own in
      record {
        entry = of d;
        comes = record { actor = refl; wish = same; follows = record { touching = touch; proper = λ i. (first i && answer i) && starts i; answers = answers; matching = matching } };
      }

-- ---- wishes that are never held

-- a port that touches an object is there, and shows a mode that fits
mode_fits : (p : Plan) (m : Mapping) (a : Actor) (port : ℕ) (l : Past) → IsAsked p m a (wish.Mode port) l → answer_fits p a (deed.Mode port (mode_at_port p port l)) ≡ true
mode_fits p m a port l asked = by_port (slice_get p.mode_ports port) refl
  where
    by_port : (o : Option ModePortPlan) → slice_get p.mode_ports port ≡ o → option_map_or (λ (t : ModePortPlan). nat_le (mode_at_port p port l) (modes_of p t.machine)) o false ≡ true
    by_port None there =
        let none : machine_of_port p port ≡ None = ap (λ (o : Option ModePortPlan). option_map_or (λ (t : ModePortPlan). Some t.machine) o None) there in
        let touching = asked.touching in
        absurd (cc (sym (ap (machine_object p) none) ∙ touching))
    by_port (Some t) there =
        let machine : machine_of_port p port ≡ Some t.machine = ap (λ (o : Option ModePortPlan). option_map_or (λ (t : ModePortPlan). Some t.machine) o None) there in
        rw machine (mode_small p t.machine l asked.sound.machines (proper_past p _ l asked.past))

pub always : (p : Plan) (m : Mapping) (a : Actor) (w : Wish) (l : Past) → IsAsked p m a w l → may_be_held (wanted_of w) ≡ false → Comes p a w l
always p m a wish.Tick l asked free = coming p m a wish.Tick l asked deed.Tick refl refl
    (record { unqueued = refl; queued = refl; calls = refl; areas = refl; modes = refl; admission = refl; due = refl }) refl
always p m a (wish.Fetch x) l asked free =
    let v = element_words p x l in
    coming p m a (wish.Fetch x) l asked (deed.Fetch x v.value) refl refl
    (record { unqueued = same_list (words_of v.value) (value_at p x l) v.is; queued = refl; calls = refl; areas = refl; modes = refl; admission = refl; due = refl }) refl
always p m a (wish.Write x value) l asked free = coming p m a (wish.Write x value) l asked (deed.Write x value) refl refl
    (record { unqueued = refl; queued = refl; calls = refl; areas = refl; modes = refl; admission = refl; due = refl }) refl
always p m a (wish.Publish x value) l asked free = coming p m a (wish.Publish x value) l asked (deed.Publish x value) refl refl
    (record { unqueued = refl; queued = refl; calls = refl; areas = refl; modes = refl; admission = refl; due = refl }) refl
always p m a (wish.FetchAll x) l asked free =
    let v = moment_words p m asked.sound x l (proper_past p _ l asked.past) in
    coming p m a (wish.FetchAll x) l asked (deed.FetchAll x v.value) refl refl
    (record { unqueued = same_list (words_of v.value) (moment_of p (elems_of p x) l) v.is; queued = refl; calls = refl; areas = refl; modes = refl; admission = refl; due = refl }) refl
always p m a (wish.PublishAll x written value) l asked free = coming p m a (wish.PublishAll x written value) l asked (deed.PublishAll x written value) refl refl
    (record { unqueued = refl; queued = refl; calls = refl; areas = refl; modes = refl; admission = refl; due = refl }) refl
always p m a (wish.Read x) l asked free =
    let v = element_words p x l in
    coming p m a (wish.Read x) l asked (deed.Read x (read_code p x l) v.value) refl refl
    (record {
      unqueued = λ i. same_test (read_code p x l) i && same_list (words_of v.value) (value_at p x l) v.is i;
      queued = refl;
      calls = refl;
      areas = refl;
      modes = refl;
      admission = refl;
      due = refl;
    }) refl
always p m a (wish.Invalidate x) l asked free = coming p m a (wish.Invalidate x) l asked (deed.Invalidate x) refl refl
    (record { unqueued = refl; queued = refl; calls = refl; areas = refl; modes = refl; admission = refl; due = refl }) refl
always p m a (wish.IsUpdated x) l asked free = coming p m a (wish.IsUpdated x) l asked (deed.IsUpdated x (is_updated p x l)) refl refl
    (record { unqueued = same_flag (is_updated p x l); queued = refl; calls = refl; areas = refl; modes = refl; admission = refl; due = refl }) refl
always p m a (wish.Send x value) l asked free = coming p m a (wish.Send x value) l asked (deed.Send x value (send_code p x l)) refl refl
    (record { unqueued = refl; queued = same_test (send_code p x l); calls = refl; areas = refl; modes = refl; admission = refl; due = refl }) refl
always p m a (wish.Receive x) l asked free =
    let v = received_words p x l in
    let of = received_at p x l in
    coming p m a (wish.Receive x) l asked (deed.Receive x of.0 v.value) refl refl
    (record { unqueued = refl; queued = λ i. same_test of.0 i && same_list (words_of v.value) of.1 v.is i; calls = refl; areas = refl; modes = refl; admission = refl; due = refl }) refl
always p m a (wish.Ask q value) l asked free = coming p m a (wish.Ask q value) l asked (deed.Ask q value (ask_code p q l)) refl refl
    (record { unqueued = refl; queued = refl; calls = same_test (ask_code p q l); areas = refl; modes = refl; admission = refl; due = refl }) refl
always p m a (wish.TakeResult q) l asked free =
    let v = result_words p q l in
    let of = result_of p q l in
    coming p m a (wish.TakeResult q) l asked (deed.TakeResult q of.0 v.value) refl refl
    (record { unqueued = refl; queued = refl; calls = λ i. same_test of.0 i && same_list (words_of v.value) of.1 v.is i; areas = refl; modes = refl; admission = refl; due = refl }) refl
always p m a (wish.Switch n mode) l asked free = coming p m a (wish.Switch n mode) l asked (deed.Switch n mode (switch_code p n l)) refl refl
    (record { unqueued = refl; queued = refl; calls = refl; areas = refl; modes = same_test (switch_code p n l); admission = refl; due = refl }) refl
always p m a (wish.Mode port) l asked free = coming p m a (wish.Mode port) l asked (deed.Mode port (mode_at_port p port l)) refl (mode_fits p m a port l asked)
    (record { unqueued = refl; queued = refl; calls = refl; areas = refl; modes = same_test (mode_at_port p port l); admission = refl; due = refl }) refl
always p m a w l asked free = absurd (false≢true (sym free))

-- ---- areas, returns, admissions, phases and ends

pub enter : (p : Plan) (m : Mapping) (a : Actor) (area : ℕ) (l : Past) → IsAsked p m a (wish.Enter area) l → is_held area l ≡ false → Comes p a (wish.Enter area) l
enter p m a x l asked free = coming p m a (wish.Enter x) l asked (deed.Enter x) refl refl
    (record { unqueued = refl; queued = refl; calls = refl; areas = ap not free; modes = refl; admission = refl; due = refl }) refl

pub leave : (p : Plan) (m : Mapping) (a : Actor) (area : ℕ) (l : Past) → IsAsked p m a (wish.Leave area) l → is_open (enters_by a) l ≡ true → Comes p a (wish.Leave area) l
leave p m a x l asked begun = coming p m a (wish.Leave x) l asked (deed.Leave x) refl refl
    (record { unqueued = refl; queued = refl; calls = refl; areas = refl; modes = refl; admission = refl; due = refl }) begun

pub give_back : (p : Plan) (m : Mapping) (a : Actor) (code : ℕ) (value : Value) (l : Past) → IsAsked p m a (wish.Return code value) l → is_open (serves_by a) l ≡ true → Comes p a (wish.Return code value) l
give_back p m a code value l asked begun = coming p m a (wish.Return code value) l asked (deed.Return code value) refl refl
    (record { unqueued = refl; queued = refl; calls = refl; areas = refl; modes = refl; admission = refl; due = refl }) begun

pub hear : (p : Plan) (m : Mapping) (a : Actor) (point : ℕ) (l : Past) → IsAsked p m a (wish.Answer point) l → is_some (answer_to point l) ≡ true → Comes p a (wish.Answer point) l
hear p m a q l asked some = by_answer (answer_to q l) refl
  where
    by_answer : (o : Option (ℕ × List ℤ)) → answer_to q l ≡ o → Comes p a (wish.Answer q) l
    by_answer None is = absurd (false≢true (sym (ap is_some is) ∙ some))
    by_answer (Some r) is =
        let v = answer_words q l r is in
        let first = same_test r.0 in
        let second = same_list (words_of v.value) r.1 v.is in
        coming p m a (wish.Answer q) l asked (deed.Answer q r.0 v.value) refl refl
        (record { unqueued = refl; queued = refl; calls = rw is (λ i. first i && second i); areas = refl; modes = refl; admission = refl; due = refl }) refl

pub admit : (p : Plan) (m : Mapping) (a : Actor) (event : ℕ) (l : Past) → IsAsked p m a (wish.Admit event) l → is_open (runs_by event) l ≡ false → Comes p a (wish.Admit event) l
admit p m a e l asked closed = coming p m a (wish.Admit e) l asked (deed.Admit (not (is_disabled p e l))) refl refl
    (record { unqueued = refl; queued = refl; calls = refl; areas = refl; modes = refl; admission = same_flag (not (is_disabled p e l)); due = refl }) (ap not closed)

pub end : (p : Plan) (m : Mapping) (a : Actor) (event : ℕ) (l : Past) → IsAsked p m a (wish.End event) l → is_open (runs_by event) l ≡ true → Comes p a (wish.End event) l
end p m a e l asked begun = coming p m a (wish.End e) l asked deed.End refl refl
    (record { unqueued = refl; queued = refl; calls = refl; areas = refl; modes = refl; admission = refl; due = refl }) begun

pub move_on : (p : Plan) (m : Mapping) (a : Actor) (step : Step) (l : Past) → IsAsked p m a wish.Phase l → phase_may_come p a l step ≡ true → Comes p a wish.Phase l
move_on p m a s l asked may = coming p m a wish.Phase l asked (deed.Phase s) refl (phase_small p a l s (proper_past p _ l asked.past) may)
    (record { unqueued = refl; queued = refl; calls = refl; areas = refl; modes = may; admission = refl; due = refl }) refl

-- ---- starts

abbrev is_served : EventKind → Bool
is_served (Invoked s) = true
is_served k = false

module _ (p : Plan) (m : Mapping) (l : Past) where
  plain_start : (a : Actor) (e : ℕ) → IsAsked p m a (wish.Start e) l → is_due p a e l ≡ true → start_matches p l e (kind_of p e) ≡ true → (k : EventKind) → kind_of p e ≡ k → is_served k ≡ false → Comes p a (wish.Start e) l
  plain_start a e asked due match k is other = coming p m a (wish.Start e) l asked (deed.Start e None empty_value) refl (subst (λ x. start_fits p x None [] ≡ true) (sym is) (nameless k other))
      (record { unqueued = refl; queued = refl; calls = refl; areas = refl; modes = refl; admission = refl; due = due }) match
    where
      nameless : (k : EventKind) → is_served k ≡ false → start_fits p k None [] ≡ true
      nameless (Invoked s) other = absurd (false≢true (sym other))
      nameless k other = refl

  -- the point that a server's start names
  record Names (k : ActKey) (s : ℕ) (x : ℕ × List ℤ) : Type 0 where
    joined : server_of p x.0 ≡ Some s
    key : is_key_point (Act k) x.0 ≡ true
    mine : (r : ℕ) → k.point ≡ Some r → r ≡ x.0

  names : (k : ActKey) (s : ℕ) (x : ℕ × List ℤ) → Serving p s k.point → counts_for p s k.point x.0 ≡ true → Names k s x
  names k s x (by_queue most none queue) passes =
      let counted : counts_for p s None x.0 ≡ true = subst (λ o. counts_for p s o x.0 ≡ true) none passes in
      record {
        joined = option_same (server_of p x.0) (Some s) counted;
        key = subst (λ (o : Option ℕ). is_key_point (Act (record { runnable = k.runnable; point = o })) x.0 ≡ true) (sym none) refl;
        mine = λ r some. absurd (cc (sym none ∙ some));
      }
  names k s x (directly own some queue joined) passes =
      let counted : (own == x.0) ≡ true = subst (λ o. counts_for p s o x.0 ≡ true) some passes in
      let same : own ≡ x.0 = eqb-true own x.0 counted in
      record {
        joined = subst (λ n. server_of p n ≡ Some s) same joined;
        key = subst (λ (o : Option ℕ). is_key_point (Act (record { runnable = k.runnable; point = o })) x.0 ≡ true) (sym some) counted;
        mine = λ r is. cc;
      }

  served_start : (k : ActKey) (e s : ℕ) → IsAsked p m (Act k) (wish.Start e) l → is_due p (Act k) e l ≡ true → start_matches p l e (kind_of p e) ≡ true → kind_of p e ≡ Invoked s → Comes p (Act k) (wish.Start e) l
  served_start k e s asked due match is =
      let key : key_fits p k ≡ true = (and_parts (key_fits p k) (event_fits p (instance_of p k.runnable) e) asked.fits).0 in
      let serves = serving p m asked.sound k e s is (option_same (runnable_of_event p e) (Some k.runnable) asked.own) key in
      let waits : has_unstarted (counts_for p s k.point) l ≡ true = subst (λ x. is_due_kind p (Act k) e x l ≡ true) is due in
      let next = unstarted (counts_for p s k.point) l waits in
      let x = next.request in
      let made = request_made (counts_for p s k.point) l (starts_of (counts_for p s k.point) l) x next.is in
      let point = names k s x serves made.passes in
      let taken : next_request p x.0 l ≡ Some x = ap (λ (f : ℕ → Bool). slice_get (requests_of f l) (starts_of f l)) (counts_same p s x.0 k.point serves point.joined point.mine) ∙ next.is in
      let words : same_words x.1 (words_of made.value) ≡ true = same_list x.1 (words_of made.value) (sym made.words) in
      let request : is_request x.0 (words_of made.value) (next_request p x.0 l) ≡ true = rw taken (λ i. same_test x.0 i && words i) in
      let fit : start_fits p (Invoked s) (Some x.0) (words_of made.value) ≡ true = ap (λ o. same_number o (Some s)) point.joined ∙ same_test s in
      coming p m (Act k) (wish.Start e) l asked (deed.Start e (Some x.0) made.value) refl (subst (λ y. start_fits p y (Some x.0) (words_of made.value) ≡ true) (sym is) fit)
      (record { unqueued = refl; queued = refl; calls = λ i. point.key i && request i; areas = refl; modes = refl; admission = refl; due = due }) match

pub start : (p : Plan) (m : Mapping) (a : Actor) (event : ℕ) (l : Past) → IsAsked p m a (wish.Start event) l → is_due p a event l ≡ true → start_matches p l event (kind_of p event) ≡ true → Comes p a (wish.Start event) l
start p m Env e l asked due match = absurd (false≢true asked.fits)
start p m (Machine n) e l asked due match = absurd (false≢true (and_parts (nat_lt n (length p.machines)) false asked.fits).1)
start p m (Act k) e l asked due match = by_kind (kind_of p e) refl
  where
    by_kind : (x : EventKind) → kind_of p e ≡ x → Comes p (Act k) (wish.Start e) l
    by_kind (Invoked s) is = served_start p m l k e s asked due match is
    by_kind (Timing period) is = plain_start p m l (Act k) e asked due match (Timing period) is refl
    by_kind Init is = plain_start p m l (Act k) e asked due match Init is refl
    by_kind (DataReceived x) is = plain_start p m l (Act k) e asked due match (DataReceived x) is refl
    by_kind (Returns q) is = plain_start p m l (Act k) e asked due match (Returns q) is refl
    by_kind (ModeSwitch n moment) is = plain_start p m l (Act k) e asked due match (ModeSwitch n moment) is refl
    by_kind (Ack n) is = plain_start p m l (Act k) e asked due match (Ack n) is refl
