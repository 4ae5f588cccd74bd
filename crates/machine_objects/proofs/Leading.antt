-- What the lead of a machine gives follows the past, and stands for the past and the entry.
use Rattle.std.proofs.Common.{◌≡◌, ℕ, ℤ, Bool, true, false, not, ◌&&◌, ◌==◌, refl, sym, ◌∙◌, ap, List, ◌∷◌, Option, Some, None}
use Rattle.std.specs.Prelude.{set}
use Rattle.bus_semantics.specs.Common.{and_parts, false≢true, Value, Step, words_of, Plan, kind_of, Noted, Past, start_fits, touches, switch_code, mode_at_port, phase_may_come}
use Rattle.bus_semantics.specs.Common.{starts_request, is_due_kind, switch_due, is_disabled, same_bool, is_open, runs_by, start_matches, is_proper, Follows, IsPastOf}
use Rattle.bus_semantics.specs.declared.plan.EventKind.{EventKind}
use Rattle.bus_semantics.specs.declared.plan.EventKind.TheVariants.{ModeSwitch, Ack}
use Rattle.bus_semantics.specs.declared.entries.Actor.{Actor}
use Rattle.bus_semantics.specs.declared.entries.Actor.TheVariants.{Machine}
use Rattle.bus_semantics.specs.declared.entries.Deed.{Deed}
use Rattle.bus_semantics.specs.declared.entries.Deed.TheVariants as deed
use Rattle.mode_machine.specs.declared.owed.OwedEvent.{OwedEvent}
use Rattle.mode_machine.specs.Disabling.{Dependency}
use Rattle.mode_machine.specs.Kept as machines
use Rattle.mode_machine.specs.Owed as owed
use Rattle.object_kinds.specs.Common.{LeadsFollow, LeadsKeep, place, given, is_set}
use Rattle.object_kinds.proofs.Flags.{flag_set}
use Rattle.object_kinds.proofs.Lists.{all_at}
use Rattle.object_kinds.proofs.Options.{given_some, then_some, mapped_some}
use Rattle.object_kinds.proofs.Placing.{place_at}
use Rattle.object_kinds.proofs.Proper.{noting, answer_part, admitted}
use Rattle.machine_objects.specs.Layout.{IsMachine, machine_of, owed_events, ack_events, disabled_events, moment_in, starts_elsewhere}
use Rattle.machine_objects.specs.Kept.{Kept}
use Rattle.machine_objects.specs.Leading.{is_made, is_answered, started_at, ended_at, lead_of_machine, with_machine, lead}
use Rattle.machine_objects.specs.Standing.{owed_after, acked_after, machine_after, kept_after, Keeps}
use Rattle.machine_objects.proofs.Touches.{switching, acked_kind, switch_itself, port_itself, phase_itself}
use Rattle.machine_objects.proofs.Past.{past_in_order, past_admitted}
use Rattle.machine_objects.proofs.Steps.{owed_at_is, dependency_at_is, acked_at_is, placed_owed, placed_acked, placed_disabled, mode_step, switch_step, owed_start_step, acked_start_step}
use Rattle.machine_objects.proofs.Steps.{admit_step, owed_end_step, disabled_end_step, phase_step}
use Rattle.machine_objects.proofs.Answering.{switch_code_same, mode_same, phase_same, admit_same}

-- a start by an event of a machine names no point
pub unnamed_switch : (p : Plan) (a : Actor) (k : EventKind) (m : ℕ) (at : _) (point : Option ℕ) (ws : List ℤ) (l : Past) → k ≡ ModeSwitch m at → start_fits p k point ws ≡ true → starts_request p a point ws l ≡ true
unnamed_switch p a k m at None ws l is fit = refl
unnamed_switch p a k m at (Some q) ws l is fit = let no = rw is at fit in absurd (false≢true no)

pub unnamed_ack : (p : Plan) (a : Actor) (k : EventKind) (m : ℕ) (point : Option ℕ) (ws : List ℤ) (l : Past) → k ≡ Ack m → start_fits p k point ws ≡ true → starts_request p a point ws l ≡ true
unnamed_ack p a k m None ws l is fit = refl
unnamed_ack p a k m (Some q) ws l is fit = let no = rw is at fit in absurd (false≢true no)

-- ---- what the lead gives

pub record Led (p : Plan) (object : ℕ) (after : machines.Kept) (l : Past) (n : Noted) : Type 0 where
  pub follows : Follows p object l n
  pub same : after ≡ machine_after p (machine_of p object) (n ∷ l)

module _ (p : Plan) (object : ℕ) (is : IsMachine p object) (l : Past) (past : IsPastOf p object l) (after : machines.Kept) where
  abbrev m : ℕ
  m = machine_of p object

  abbrev kept : Kept
  kept = kept_after p m l

  abbrev k : machines.Kept
  k = machine_after p m l

  pub elsewhere : (e d : ℕ) → place e (disabled_events p m) ≡ Some d → starts_elsewhere p object e ≡ true
  elsewhere e d at = all_at (starts_elsewhere p object) (disabled_events p m) d e is.apart (place_at e (disabled_events p m) d at)

  switch_led : (a : Actor) (event : Option ℕ) (n mode code : ℕ) → touches p object (noting a (deed.Switch n mode code) event) ≡ true → is_proper p (noting a (deed.Switch n mode code) event) ≡ true
      → lead_of_machine kept event (deed.Switch n mode code) ≡ Some after → Led p object after l (noting a (deed.Switch n mode code) event)
  switch_led a event n mode code touching proper leads =
      let of = given_some (code == machines.answer_to_switch k) (machines.after_switch mode k) after leads in
      let order = past_in_order p object is l past in
      let itself : m ≡ n = sym (switch_itself p object is a event n mode code touching) in
      let answer : (code == switch_code p n l) ≡ true = ap (λ j. code == switch_code p j l) (sym itself) ∙ ap (λ c. code == c) (sym (switch_code_same p object is l order)) ∙ of.holds in
      record {
        follows = record {
          touching = touching;
          proper = proper;
          answers = record { unqueued = refl; queued = refl; calls = refl; areas = refl; modes = answer; admission = admitted p l event (deed.Switch n mode code) refl; due = refl };
          matching = refl;
        };
        same = sym of.same ∙ sym (switch_step p object is l order a event mode code of.holds) ∙ ap (λ j. machine_after p m (noting a (deed.Switch j mode code) event ∷ l)) itself;
      }

  mode_led : (a : Actor) (event : Option ℕ) (port mode : ℕ) → touches p object (noting a (deed.Mode port mode) event) ≡ true → is_proper p (noting a (deed.Mode port mode) event) ≡ true
      → lead_of_machine kept event (deed.Mode port mode) ≡ Some after → Led p object after l (noting a (deed.Mode port mode) event)
  mode_led a event port mode touching proper leads =
      let of = given_some (mode == machines.mode_of k) k after leads in
      let itself = port_itself p object is a event port mode touching in
      let answer : (mode == mode_at_port p port l) ≡ true = rw itself (ap (λ c. mode == c) (sym (mode_same p object is l)) ∙ of.holds) in
      record {
        follows = record {
          touching = touching;
          proper = proper;
          answers = record { unqueued = refl; queued = refl; calls = refl; areas = refl; modes = answer; admission = admitted p l event (deed.Mode port mode) refl; due = refl };
          matching = refl;
        };
        same = sym of.same ∙ sym (mode_step p m l a event port mode);
      }

  phase_led : (a : Actor) (event : Option ℕ) (s : Step) → touches p object (noting a (deed.Phase s) event) ≡ true → is_proper p (noting a (deed.Phase s) event) ≡ true
      → lead_of_machine kept event (deed.Phase s) ≡ Some after → Led p object after l (noting a (deed.Phase s) event)
  phase_led a event s touching proper leads =
      let of = given_some (is_made s (machines.answer_to_advance k)) (machines.after_step s k) after leads in
      let itself : Machine m ≡ a = sym (phase_itself p object is a s event touching) in
      let may : phase_may_come p a l s ≡ true = ap (λ b. phase_may_come p b l s) (sym itself) ∙ sym (phase_same p m l s) ∙ of.holds in
      record {
        follows = record {
          touching = touching;
          proper = proper;
          answers = record { unqueued = refl; queued = refl; calls = refl; areas = refl; modes = may; admission = admitted p l event (deed.Phase s) refl; due = refl };
          matching = refl;
        };
        same = sym of.same ∙ sym (phase_step p m l event s) ∙ ap (λ b. machine_after p m (noting b (deed.Phase s) event ∷ l)) itself;
      }

  -- ---- starts

  module _ (a : Actor) (event : Option ℕ) (e : ℕ) (point : Option ℕ) (value : Value) (touching : touches p object (noting a (deed.Start e point value) event) ≡ true) (proper : is_proper p (noting a (deed.Start e point value) event) ≡ true) where
    fit : start_fits p (kind_of p e) point (words_of value) ≡ true
    fit = answer_part p (noting a (deed.Start e point value) event) proper

    owed_start_led : (i : ℕ) → place e (owed_events p m) ≡ Some i → given (owed.may_start (machines.owed_at i k)) (machines.after_owed i owed.after_owed_start k) ≡ Some after → Led p object after l (noting a (deed.Start e point value) event)
    owed_start_led i at leads =
        let of = given_some (owed.may_start (machines.owed_at i k)) (machines.after_owed i owed.after_owed_start k) after leads in
        let sw = switching m (kind_of p e) (placed_owed p m l e i at) in
        let here : ((owed_after p m l e).due && not (owed_after p m l e).running) ≡ true = ap owed.may_start (sym (owed_at_is p m l e i at)) ∙ of.holds in
        let parts = and_parts (owed_after p m l e).due (not (owed_after p m l e).running) here in
        let moment : moment_in (kind_of p e) ≡ sw.at = ap moment_in sw.kind in
        record {
          follows = record {
            touching = touching;
            proper = proper;
            answers = record {
              unqueued = refl;
              queued = refl;
              calls = unnamed_switch p a (kind_of p e) m sw.at point (words_of value) l sw.kind fit;
              areas = refl;
              modes = refl;
              admission = admitted p l event (deed.Start e point value) refl;
              due = ap (λ c. is_due_kind p a e c l) sw.kind ∙ ap (λ z. switch_due p e m z l) (sym moment) ∙ parts.0;
            };
            matching = ap (λ c. start_matches p l e c) sw.kind ∙ parts.1;
          };
          same = sym of.same ∙ sym (owed_start_step p m l a event e point value i at of.holds);
        }

    acked_start_led : (i : ℕ) → place e (ack_events p m) ≡ Some i → given (is_set k.acks i) (machines.with_acks (set k.acks i false) k) ≡ Some after → Led p object after l (noting a (deed.Start e point value) event)
    acked_start_led i at leads =
        let of = given_some (is_set k.acks i) (machines.with_acks (set k.acks i false) k) after leads in
        let kind = acked_kind m (kind_of p e) (placed_acked p m l e i at) in
        record {
          follows = record {
            touching = touching;
            proper = proper;
            answers = record {
              unqueued = refl;
              queued = refl;
              calls = unnamed_ack p a (kind_of p e) m point (words_of value) l kind fit;
              areas = refl;
              modes = refl;
              admission = admitted p l event (deed.Start e point value) refl;
              due = ap (λ c. is_due_kind p a e c l) kind ∙ flag_set k.acks i (acked_after m l e) (acked_at_is p m l e i at) of.holds;
            };
            matching = ap (λ c. start_matches p l e c) kind;
          };
          same = sym of.same ∙ sym (acked_start_step p m l a event e point value i at);
        }

    start_led : (o r : Option ℕ) → place e (owed_events p m) ≡ o → place e (ack_events p m) ≡ r → started_at k o r ≡ Some after → Led p object after l (noting a (deed.Start e point value) event)
    start_led (Some i) r at other leads = owed_start_led i at leads
    start_led None (Some i) none at leads = acked_start_led i at leads
    start_led None None none other leads = absurd (cc leads)

  -- ---- admissions and ends

  admit_led : (a : Actor) (event : Option ℕ) (answer : Bool) → touches p object (noting a (deed.Admit answer) event) ≡ true → is_proper p (noting a (deed.Admit answer) event) ≡ true
      → lead_of_machine kept event (deed.Admit answer) ≡ Some after → Led p object after l (noting a (deed.Admit answer) event)
  admit_led a None answer touching proper leads = absurd (cc leads)
  admit_led a (Some e) answer touching proper leads =
      let there = then_some (λ d. given (is_answered answer (machines.answer_to_admit d k)) (machines.after_admit d k)) (place e (disabled_events p m)) after leads in
      let d = there.item in
      let of = given_some (is_answered answer (machines.answer_to_admit d k)) (machines.after_admit d k) after there.gives in
      let off = elsewhere e d there.is in
      let both : (same_bool answer (not (is_disabled p e l)) && not (is_open (runs_by e) l)) ≡ true = sym (admit_same p object is l past e d answer there.is (placed_disabled p m l e d there.is) off) ∙ of.holds in
      let parts = and_parts (same_bool answer (not (is_disabled p e l))) (not (is_open (runs_by e) l)) both in
      record {
        follows = record {
          touching = touching;
          proper = proper;
          answers = record { unqueued = refl; queued = refl; calls = refl; areas = refl; modes = refl; admission = parts.0; due = refl };
          matching = parts.1;
        };
        same = sym of.same ∙ sym (admit_step p object is l a e answer d off there.is of.holds);
      }

  ended_follows : (a : Actor) (e : ℕ) → touches p object (noting a deed.End (Some e)) ≡ true → is_proper p (noting a deed.End (Some e)) ≡ true → is_open (runs_by e) l ≡ true → Follows p object l (noting a deed.End (Some e))
  ended_follows a e touching proper opens = record {
    touching = touching;
    proper = proper;
    answers = record { unqueued = refl; queued = refl; calls = refl; areas = refl; modes = refl; admission = refl; due = refl };
    matching = opens;
  }

  end_led : (a : Actor) (e : ℕ) → touches p object (noting a deed.End (Some e)) ≡ true → is_proper p (noting a deed.End (Some e)) ≡ true → (o r : Option ℕ) → place e (owed_events p m) ≡ o → place e (disabled_events p m) ≡ r
      → ended_at k o r ≡ Some after → Led p object after l (noting a deed.End (Some e))
  end_led a e touching proper (Some i) r at other leads =
      let of = given_some (machines.owed_at i k).running (machines.after_owed i owed.after_end k) after leads in
      record {
        follows = ended_follows a e touching proper (ap (λ (o : OwedEvent). o.running) (sym (owed_at_is p m l e i at)) ∙ of.holds);
        same = sym of.same ∙ sym (owed_end_step p object is l a e i at of.holds);
      }
  end_led a e touching proper None (Some d) none at leads =
      let of = given_some (machines.dependency_at d k).admitted (machines.after_end_admitted d k) after leads in
      let off = elsewhere e d at in
      record {
        follows = ended_follows a e touching proper (past_admitted p object is e off l past ∙ ap (λ (o : Dependency). o.admitted) (sym (dependency_at_is p m l e d at)) ∙ of.holds);
        same = sym of.same ∙ sym (disabled_end_step p object is l a e d off at of.holds);
      }
  end_led a e touching proper None None none other leads = absurd (cc leads)

  end_of : (a : Actor) (event : Option ℕ) → touches p object (noting a deed.End event) ≡ true → is_proper p (noting a deed.End event) ≡ true → lead_of_machine kept event deed.End ≡ Some after → Led p object after l (noting a deed.End event)
  end_of a None touching proper leads = absurd (cc leads)
  end_of a (Some e) touching proper leads = end_led a e touching proper (place e (owed_events p m)) (place e (disabled_events p m)) refl refl leads

  machine_led : (a : Actor) (event : Option ℕ) (d : Deed) → touches p object (noting a d event) ≡ true → is_proper p (noting a d event) ≡ true → lead_of_machine kept event d ≡ Some after → Led p object after l (noting a d event)
  machine_led a event (deed.Switch n mode code) touching proper leads = switch_led a event n mode code touching proper leads
  machine_led a event (deed.Mode port mode) touching proper leads = mode_led a event port mode touching proper leads
  machine_led a event (deed.Phase s) touching proper leads = phase_led a event s touching proper leads
  machine_led a event (deed.Start e point value) touching proper leads = start_led a event e point value touching proper (place e (owed_events p m)) (place e (ack_events p m)) refl refl leads
  machine_led a event (deed.Admit answer) touching proper leads = admit_led a event answer touching proper leads
  machine_led a event deed.End touching proper leads = end_of a event touching proper leads
  machine_led a event d touching proper leads = absurd (cc leads)

-- ---- the laws

pub record Stood (p : Plan) (object : ℕ) (after : Kept) (l : Past) (n : Noted) : Type 0 where
  pub follows : Follows p object l n
  pub keeps : Keeps p object after (n ∷ l)

led : (p : Plan) (object : ℕ) (before after : Kept) (l : Past) (n : Noted) → IsPastOf p object l → Keeps p object before l → touches p object n ≡ true → is_proper p n ≡ true → lead before n ≡ Some after → Stood p object after l n
led p object before after l n past keeps touching proper leads =
    let stood : lead (kept_after p (machine_of p object) l) n ≡ Some after = ap (λ z. lead z n) (sym keeps.same) ∙ leads in
    let of = mapped_some (with_machine (kept_after p (machine_of p object) l)) (lead_of_machine (kept_after p (machine_of p object) l) n.event n.entry.deed) after stood in
    let led = machine_led p object keeps.is_machine l past of.item n.entry.actor n.event n.entry.deed touching proper of.is in
    record { follows = led.follows; keeps = record { is_machine = keeps.is_machine; same = sym of.gives ∙ ap (with_machine (kept_after p (machine_of p object) l)) led.same } }

pub leads_follow : (p : Plan) (object : ℕ) → LeadsFollow p object (Keeps p object) lead
leads_follow p object before after l n stands touching proper leads = (led p object before after l n stands.past stands.kept touching proper leads).follows

pub leads_keep : (p : Plan) (object : ℕ) → LeadsKeep p object (Keeps p object) lead
leads_keep p object before after l n stands touching proper leads = (led p object before after l n stands.past stands.kept touching proper leads).keeps
