-- A group of a sound plan misses no entry that may follow its past.
use Rattle.std.proofs.Common.{◌≡◌, ℕ, Bool, true, false, not, ◌&&◌, ◌==◌, if◌then◌else◌, refl, sym, ◌∙◌, ap, Option, Some, is_some}
use Rattle.std.specs.Prelude.{option_map}
use Rattle.bus_semantics.specs.Common.{slice_get, option_map_or, eq-eqb, false≢true, Value, words_of, Plan, kind_of, Past, is_in_group, is_receiver_in, send_code, received_at, is_due}
use Rattle.bus_semantics.specs.Common.{is_due_kind, is_outcome, Answers, is_proper, IsPastOf, IsSound}
use Rattle.bus_laws.specs.Common.{ElemPlan, DataReceived, Mapping, Actor, Env, Deed}
use Rattle.bus_semantics.specs.declared.entries.Deed.TheVariants as deed
use Rattle.queued_ports.specs.Kept as ports
use Rattle.object_kinds.specs.Common.{MissesNothing, group_at, waits_for_data, place, given, is_set}
use Rattle.object_kinds.proofs.Events as data_events
use Rattle.object_kinds.proofs.Events.{event_placed}
use Rattle.object_kinds.proofs.Flags.{flag_there}
use Rattle.object_kinds.proofs.Lists.{mapped_at}
use Rattle.object_kinds.proofs.Members.{member_of}
use Rattle.object_kinds.proofs.Options.{given_where, then_where, mapped_where}
use Rattle.object_kinds.proofs.Placing.{place_at}
use Rattle.object_kinds.proofs.Proper.{noting}
use Rattle.object_kinds.proofs.Touching.{OnGroup, touches_group, fetch_unqueued, write_unqueued, read_unqueued, invalidate_unqueued, see_unqueued, publish_unqueued}
use Rattle.queue_objects.specs.Kept.{Kept}
use Rattle.queue_objects.specs.Layout.{is_receiver_at, is_joined_at, waits_for_receiver}
use Rattle.queue_objects.specs.Leading.{is_received, received_at_place, is_unconnected, lead_of_queues, with_queues, lead}
use Rattle.queue_objects.specs.Standing.{due_after, GroupKeeps, Keeps}
use Rattle.queue_objects.proofs.Keeping.{due_kind, placed_in, queue_at}
use Rattle.queue_objects.proofs.Leading.{send_code_same, received_same, unconnected_same}
use Rattle.queue_objects.proofs.Order.{InOrder, past_in_order}
use Rattle.queue_objects.proofs.Silent.{receive_required, none_unqueued, awaited_within, awaited_required, never_due}

module _ (p : Plan) (m : Mapping) (sound : IsSound p m) (object g : ℕ) (k : Kept) (l : Past) (past : IsPastOf p object l) (keeps : GroupKeeps p g k l) (a : Actor) (event : Option ℕ) where
  order : (x : ℕ) → InOrder p x l
  order x = past_in_order p object x l past

  send_comes : (x code : ℕ) (value : Value) → is_in_group p g x ≡ true → (code == send_code p x l) ≡ true → is_some (lead_of_queues p k.receivers k.events k.queued (deed.Send x value code)) ≡ true
  send_comes x code value inside answer =
      let at = member_of p g x inside in
      given_where (code == ports.answer_to_send k.queued) (ports.after_send value k.queued) (ap (λ c. code == c) (send_code_same p g k l keeps order x at.elem at.found at.group) ∙ answer)

  receive_comes : (x code : ℕ) (value : Value) → is_in_group p g x ≡ true → is_proper p (noting a (deed.Receive x code value) event) ≡ true → is_outcome code (words_of value) (received_at p x l) ≡ true
      → is_some (lead_of_queues p k.receivers k.events k.queued (deed.Receive x code value)) ≡ true
  receive_comes x code value inside proper answer = by_join (is_joined_at p x) refl
    where
      by_join : (b : Bool) → is_joined_at p x ≡ b → is_some (if b then received_at_place code value k.queued (place x k.receivers) else given (is_unconnected code value) k.queued) ≡ true
      by_join false off = given_where (is_unconnected code value) k.queued (unconnected_same p l x code value off ∙ answer)
      by_join true on =
          let at = member_of p g x inside in
          let joined : at.elem.joined ≡ true = sym (ap (λ o. option_map_or (λ (v : ElemPlan). v.joined) o false) at.found) ∙ on in
          let required : not at.elem.provided ≡ true = sym (ap (λ o. option_map_or (λ (v : ElemPlan). not v.provided) o false) at.found) ∙ receive_required p a event x code value proper in
          let receives : is_receiver_at p g x ≡ true = ap (λ o. option_map_or (is_receiver_in g) o false) at.found ∙ (λ i. (joined i && required i) && eq-eqb at.elem.group g at.group i) in
          let there = placed_in p g k l keeps x receives in
          let q = queue_at p l k.queued.queues k.receivers x there.at keeps.queues there.is in
          let received : is_received code value (ports.answer_to_receive there.at k.queued) ≡ true =
          ap (λ o. is_received code value (option_map ports.received_of o)) q.found ∙ received_same p l x at.elem q.queue code value at.found joined q.contents ∙ answer in
          then_where (λ r. given (is_received code value (ports.answer_to_receive r k.queued)) (ports.after_receive r k.queued)) (place x k.receivers) there.at there.is
          (given_where (is_received code value (ports.answer_to_receive there.at k.queued)) (ports.after_receive there.at k.queued) received)

  start_comes : (e : ℕ) (point : Option ℕ) (value : Value) → waits_for_data p g (kind_of p e) ≡ true → is_due p a e l ≡ true → is_some (lead_of_queues p k.receivers k.events k.queued (deed.Start e point value)) ≡ true
  start_comes e point value waits due =
      let w = data_events.waiting_for p g (kind_of p e) waits in
      let on : due_after p l e ≡ true = ap (λ c. is_due_kind p Env e c l) w.kind ∙ sym (ap (λ c. is_due_kind p a e c l) w.kind) ∙ due in
      by_receiver w.element w.kind w.inside on (is_receiver_at p g w.element) refl
    where
      by_receiver : (x : ℕ) → kind_of p e ≡ DataReceived x → is_in_group p g x ≡ true → due_after p l e ≡ true → (b : Bool) → is_receiver_at p g x ≡ b → is_some (lead_of_queues p k.receivers k.events k.queued (deed.Start e point value)) ≡ true
      by_receiver x kind inside on false none =
          absurd (false≢true (sym (never_due p m sound g x keeps.is_group inside none (awaited_required p m sound e x kind) object e l past) ∙ sym (due_kind p e x l kind) ∙ on))
      by_receiver x kind inside on true receives =
          let there = event_placed p (waits_for_receiver p g) e (awaited_within p e x kind) (ap (waits_for_receiver p g) kind ∙ receives) in
          let here : place e k.events ≡ Some there.at = ap (place e) keeps.waiting ∙ there.is in
          let flag : slice_get k.queued.due there.at ≡ Some (due_after p l e) = ap (λ fs. slice_get fs there.at) keeps.due ∙ mapped_at (due_after p l) k.events there.at e (place_at e k.events there.at here) in
          then_where (λ i. given (is_set k.queued.due i) (ports.after_start i k.queued)) (place e k.events) there.at here
          (given_where (is_set k.queued.due there.at) (ports.after_start there.at k.queued) (flag_there k.queued.due there.at (due_after p l e) flag on))

  group_comes : (d : Deed) → OnGroup p g d → is_proper p (noting a d event) ≡ true → Answers p l (noting a d event) → is_some (lead_of_queues p k.receivers k.events k.queued d) ≡ true
  group_comes (deed.Send x value code) on proper answers = send_comes x code value on answers.queued
  group_comes (deed.Receive x code value) on proper answers = receive_comes x code value on proper answers.queued
  group_comes (deed.Start e point value) on proper answers = start_comes e point value on answers.due
  group_comes (deed.Fetch x value) on proper answers = none_unqueued p g x keeps.is_group on (fetch_unqueued p a event x value proper)
  group_comes (deed.Write x value) on proper answers = none_unqueued p g x keeps.is_group on (write_unqueued p a event x value proper)
  group_comes (deed.Read x code value) on proper answers = none_unqueued p g x keeps.is_group on (read_unqueued p a event x code value proper)
  group_comes (deed.Invalidate x) on proper answers = none_unqueued p g x keeps.is_group on (invalidate_unqueued p a event x proper)
  group_comes (deed.IsUpdated x b) on proper answers = none_unqueued p g x keeps.is_group on (see_unqueued p a event x b proper)
  group_comes (deed.Publish x value) on proper answers = none_unqueued p g x keeps.is_group on (publish_unqueued p a event x value proper)
  group_comes d on proper answers = absurd on

pub misses_nothing : (p : Plan) (m : Mapping) (object : ℕ) → IsSound p m → MissesNothing p object (Keeps p object) (lead p)
misses_nothing p m object sound k l n stands follows =
    mapped_where (with_queues k) (lead_of_queues p k.receivers k.events k.queued n.entry.deed)
    (group_comes p m sound object (group_at p object) k l stands.past stands.kept.group n.entry.actor n.event n.entry.deed
    (touches_group p m object n.entry.actor n.event n.entry.deed sound stands.kept.alone follows.touching follows.proper) follows.proper follows.answers)
