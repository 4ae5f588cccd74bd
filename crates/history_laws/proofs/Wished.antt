-- What a running activation wants matches the earlier entries of its object, and so does a start.
use Rattle.std.proofs.Common.{◌≡◌, ℕ, ◌+◌, true, false, ◌||◌, not, ◌==◌, refl, sym, ◌∙◌, ap, subst, Option, Some, None, is_some}
use Rattle.bus_semantics.specs.Common.{eqb-true, false≢true, or_right, ActKey, same_number, Plan, queue_of, kind_of, disabling_of, runnable_of_event, to_start, to_admit, to_end, wanted_by}
use Rattle.bus_semantics.specs.Common.{next_of_activity, History, Past, noted, runs, first_server, first_area, first_machine, server_object, machine_object, object_of_kind, disabler_of}
use Rattle.bus_semantics.specs.Common.{owing, machine_of_event, served_by, touches, entries_of, key_fits, is_open, enters_by, serves_by, serves_any, runs_by, start_matches, matches, IsLegal}
use Rattle.bus_semantics.specs.Common.{IsSound}
use Rattle.std.specs.Prelude.{unwrap_or}
use Rattle.bus_laws.specs.Common.{EventKind, Timing, Init, DataReceived, Invoked, Returns, ModeSwitch, Ack, Mapping, Act, Deed}
use Rattle.bus_semantics.specs.declared.entries.Deed.TheVariants as deed
use Rattle.bus_laws.proofs.Thinning.{noting, clash}
use Rattle.bus_laws.proofs.Local.{proper_legal}
use Rattle.bus_laws.proofs.OneEvent.{invoked_serves, none_disables}
use Rattle.history_laws.specs.OpenAreas.{innermost}
use Rattle.history_laws.proofs.Asking.{begun, end_own, admission_own, admission_disabled, leaves_innermost, not_returned}
use Rattle.history_laws.proofs.Keys.{Alive}
use Rattle.history_laws.proofs.GoingOn.{acting}
use Rattle.history_laws.specs.Running.{areas_of}
use Rattle.history_laws.proofs.OpenOnes.{areas_alive}
use Rattle.history_laws.proofs.Holders.{is_first, last_entered}
use Rattle.history_laws.proofs.ServedOnce.{opens, serves_open, serves_thin}
use Rattle.history_laws.proofs.OneKey.{none_open}
use Rattle.history_laws.proofs.RunningBy.{idle_closed, end_open, admit_closed}

-- the number that an object has
record Numbered (o : Option ℕ) (first object : ℕ) : Type 0 where
  number : ℕ
  is : o ≡ Some number
  object_is : first + number ≡ object

server_number : (p : Plan) (o : Option ℕ) (object : ℕ) → same_number (server_object p o) (Some object) ≡ true → Numbered o (first_server p) object
server_number p None object e = absurd (false≢true e)
server_number p (Some s) object e = record { number = s; is = refl; object_is = eqb-true (first_server p + s) object e }

machine_number : (p : Plan) (o : Option ℕ) (object : ℕ) → same_number (machine_object p o) (Some object) ≡ true → Numbered o (first_machine p) object
machine_number p None object e = absurd (false≢true e)
machine_number p (Some n) object e = record { number = n; is = refl; object_is = eqb-true (first_machine p + n) object e }

-- a machine that disables an event, which is then no mode switch
matter_is : (p : Plan) (m : Mapping) → IsSound p m → (e n : ℕ) (x : EventKind) → kind_of p e ≡ x → is_some (disabling_of p e) ≡ true → disabler_of p e ≡ Some n → machine_of_event p e ≡ Some n
matter_is p m sound e n (ModeSwitch t moment) kind some is = clash (is_some (disabling_of p e)) some (ap is_some (none_disables p m sound e t moment kind))
matter_is p m sound e n (Timing period) kind some is = ap (λ x. owing x (disabler_of p e)) kind ∙ is
matter_is p m sound e n Init kind some is = ap (λ x. owing x (disabler_of p e)) kind ∙ is
matter_is p m sound e n (DataReceived x) kind some is = ap (λ x. owing x (disabler_of p e)) kind ∙ is
matter_is p m sound e n (Invoked s) kind some is = ap (λ x. owing x (disabler_of p e)) kind ∙ is
matter_is p m sound e n (Returns q) kind some is = ap (λ x. owing x (disabler_of p e)) kind ∙ is
matter_is p m sound e n (Ack t) kind some is = ap (λ x. owing x (disabler_of p e)) kind ∙ is

module _ (p : Plan) (m : Mapping) (sound : IsSound p m) (h : History) (legal : IsLegal p h) (object : ℕ) where
  abbrev before : Past
  before = entries_of p h object

  -- ---- starts

  invoked_matches : (k : ActKey) (e s : ℕ) → key_fits p k ≡ true → served_by p (Act k) ≡ Some s → (first_server p + s == object) ≡ true → runs k h ≡ false → start_matches p before e (Invoked s) ≡ true
  invoked_matches k e s fit home touch idle = by_queue (queue_of p s) refl
    where
      by_queue : (t : Option ℕ) → queue_of p s ≡ t → (not (is_some (queue_of p s)) || not (is_open (serves_any p) before)) ≡ true
      by_queue None queue = rw queue refl
      by_queue (Some most) queue =
          let at : first_server p + s ≡ object = eqb-true (first_server p + s) object touch in
          let none : is_open (serves_any p) before ≡ false = subst (λ o. is_open (serves_any p) (entries_of p h o) ≡ false) at (none_open p m sound s most queue k fit home h legal idle) in
          or_right (not (is_some (queue_of p s))) (not (is_open (serves_any p) before)) (ap not none)

  switch_matches : (k : ActKey) (e n : ℕ) → machine_of_event p e ≡ Some n → key_fits p k ≡ true → runnable_of_event p e ≡ Some k.runnable → (first_machine p + n == object) ≡ true → runs k h ≡ false
      → not (is_open (runs_by e) before) ≡ true
  switch_matches k e n matter fit own touch idle =
      let at : first_machine p + n ≡ object = eqb-true (first_machine p + n) object touch in
      ap not (subst (λ o. is_open (runs_by e) (entries_of p h o) ≡ false) at (idle_closed p m sound e n matter k fit own h legal idle))

  pub begin_matches : (k : ActKey) (e : ℕ) → key_fits p k ≡ true → runnable_of_event p e ≡ Some k.runnable → runs k h ≡ false → same_number (object_of_kind p (kind_of p e)) (Some object) ≡ true
      → start_matches p before e (kind_of p e) ≡ true
  begin_matches k e fit own idle touch = by_kind (kind_of p e) refl touch
    where
      by_kind : (x : EventKind) → kind_of p e ≡ x → same_number (object_of_kind p x) (Some object) ≡ true → start_matches p before e (kind_of p e) ≡ true
      by_kind (Invoked s) is touch = rw is (invoked_matches k e s fit (invoked_serves p m sound e s k.runnable is own) touch idle)
      by_kind (ModeSwitch n moment) is touch = rw is (switch_matches k e n (ap (λ x. owing x (disabler_of p e)) is) fit own touch idle)
      by_kind (Timing period) is touch = rw is refl
      by_kind Init is touch = rw is refl
      by_kind (DataReceived x) is touch = rw is refl
      by_kind (Returns q) is touch = rw is refl
      by_kind (Ack n) is touch = rw is refl

  -- ---- wishes

  pub wish_matches : (k : ActKey) → runs k h ≡ true → (a : Alive p k h) (d : Deed) (event : Option ℕ)
      → next_of_activity p a.runnable a.activation.event a.activation.start a.activation.deeds ≡ Some (wanted_by (unwrap_or event 0) d)
      → touches p object (noting (Act k) d event) ≡ true → matches p before (noting (Act k) d event) ≡ true
  wish_matches k running a (deed.Leave x) event next touch =
      let at : first_area p + x ≡ object = eqb-true (first_area p + x) object touch in
      let first = leaves_innermost p m k a.runnable a.activation.event (acting p m k h sound a) a.activation.start a.activation.deeds a.followed x next in
      subst (λ o. is_open (enters_by (Act k)) (entries_of p h o) ≡ true) at
      (last_entered p m sound x h k legal (is_first x (areas_of k h) (ap innermost (areas_alive p k h running a) ∙ first)))
  wish_matches k running a (deed.Return code value) event next touch =
      let s = server_number p (served_by p (Act k)) object touch in
      let none = not_returned p m k a.runnable a.activation.event (acting p m k h sound a) a.activation.start a.activation.deeds a.followed (wanted_by (unwrap_or event 0) (deed.Return code value)) next refl in
      subst (λ o. is_open (serves_by (Act k)) (entries_of p h o) ≡ true) s.object_is
      (ap (λ o. unwrap_or o false) (serves_thin p k m sound s.number s.is (noted h) (proper_legal p h legal)) ∙ serves_open p k h legal ∙ ap opens a.is ∙ ap (λ n. n == 0) none)
  wish_matches k running a deed.End None next touch = absurd (false≢true touch)
  wish_matches k running a deed.End (Some f) next touch =
      let own : f ≡ a.activation.event = end_own p m k a.runnable a.activation.event (acting p m k h sound a) a.activation.start a.activation.deeds f next in
      let n = machine_number p (machine_of_event p f) object touch in
      let same : next_of_activity p a.runnable a.activation.event a.activation.start a.activation.deeds ≡ Some (wanted_by a.activation.event deed.End) = next ∙ ap (λ x. Some (to_end x)) own in
      subst (λ o. is_open (runs_by f) (entries_of p h o) ≡ true) n.object_is
      (end_open p m sound f n.number n.is k a.key (ap (runnable_of_event p) own ∙ a.own) h legal running a (sym own) same)
  wish_matches k running a (deed.Admit said) None next touch = absurd (false≢true touch)
  wish_matches k running a (deed.Admit said) (Some f) next touch =
      let of = acting p m k h sound a in
      let own : f ≡ a.activation.event = admission_own p m k a.runnable a.activation.event of a.activation.start a.activation.deeds f next in
      let n = machine_number p (disabler_of p f) object touch in
      let same : next_of_activity p a.runnable a.activation.event a.activation.start a.activation.deeds ≡ Some (to_admit a.activation.event) = next ∙ ap (λ x. Some (to_admit x)) own in
      let some : is_some (disabling_of p f) ≡ true =
      subst (λ x. is_some (disabling_of p x) ≡ true) (sym own) (admission_disabled p m k a.runnable a.activation.event of a.activation.start a.activation.deeds a.activation.event same) in
      let matter = matter_is p m sound f n.number (kind_of p f) refl some n.is in
      ap not (subst (λ o. is_open (runs_by f) (entries_of p h o) ≡ false) n.object_is
      (admit_closed p m sound f n.number matter k a.key (ap (runnable_of_event p) own ∙ a.own) h legal running a (sym own) same))
  wish_matches k running a (deed.Start e point value) event next touch =
      absurd (false≢true (sym (begun p m k a.runnable a.activation.event (acting p m k h sound a) a.activation.start a.activation.deeds (to_start e) next)))
  wish_matches k running a d event next touch = refl
