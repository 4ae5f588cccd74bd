-- No entry changes what a group is of its plan.
use Rattle.std.proofs.Common.{◌≡◌, ℕ, Bool, true, false, ◌==◌, if◌then◌else◌, refl, sym, ◌∙◌, ap, subst, List, [], ◌∷◌, map, Option, Some, None}
use Rattle.std.specs.Prelude.{set, option_map, unwrap_or}
use Rattle.bus_semantics.specs.Common.{slice_get, map-set, slice_get-map, Value, Plan}
use Rattle.bus_semantics.specs.declared.entries.Deed.{Deed}
use Rattle.bus_semantics.specs.declared.entries.Deed.TheVariants as deed
use Rattle.queued_ports.specs.Kept as ports
use Rattle.object_kinds.specs.Common.{place, given, is_set}
use Rattle.object_kinds.proofs.Lists.{set_same}
use Rattle.object_kinds.proofs.Options.{given_some, then_some}
use Rattle.queue_objects.specs.Kept.{Kept}
use Rattle.queue_objects.specs.Layout.{is_joined_at}
use Rattle.queue_objects.specs.Leading.{is_received, received_at_place, is_unconnected, lead_of_queues, with_queues}
use Rattle.queue_objects.specs.Plans.{IsGroupOfPlan}

abbrev lengths : List ports.Queue → List ℕ
lengths qs = map (λ (q : ports.Queue). q.queue_length) qs

record Same (k after : ports.Kept) : Type 0 where
  words : after.words ≡ k.words
  events : after.events ≡ k.events
  places : lengths after.queues ≡ lengths k.queues

arrived : (v : Value) (qs : List ports.Queue) → lengths (map (ports.after_arrival v) qs) ≡ lengths qs
arrived v [] = refl
arrived v (q ∷ qs) = by_room (ports.has_room q) (arrived v qs)
  where
    by_room : (b : Bool) → lengths (map (ports.after_arrival v) qs) ≡ lengths qs → (if b then ports.with_value v q else ports.with_loss q).queue_length ∷ lengths (map (ports.after_arrival v) qs) ≡ q.queue_length ∷ lengths qs
    by_room true rest = ap (λ ns. q.queue_length ∷ ns) rest
    by_room false rest = ap (λ ns. q.queue_length ∷ ns) rest

taken : (qs : List ports.Queue) (r : ℕ) (o : Option ports.Queue) → slice_get qs r ≡ o → lengths (unwrap_or (option_map (λ q. set qs r (ports.after_taking q)) o) qs) ≡ lengths qs
taken qs r None there = refl
taken qs r (Some q) there =
    map-set (λ (z : ports.Queue). z.queue_length) qs r (ports.after_taking q)
    ∙ set_same (lengths qs) r q.queue_length (slice_get-map (λ (z : ports.Queue). z.queue_length) qs r ∙ ap (option_map (λ (z : ports.Queue). z.queue_length)) there)

stays : (p : Plan) (receivers events : List ℕ) (k after : ports.Kept) (d : Deed) → lead_of_queues p receivers events k d ≡ Some after → Same k after
stays p receivers events k after (deed.Send x value code) leads =
    let gives = given_some (code == ports.answer_to_send k) (ports.after_send value k) after leads in
    subst (Same k) gives.same (record { words = refl; events = refl; places = arrived value k.queues })
stays p receivers events k after (deed.Receive x code value) leads = by_join (is_joined_at p x) leads
  where
    by_join : (b : Bool) → (if b then received_at_place code value k (place x receivers) else given (is_unconnected code value) k) ≡ Some after → Same k after
    by_join false gives = subst (Same k) (given_some (is_unconnected code value) k after gives).same (record { words = refl; events = refl; places = refl })
    by_join true gives =
        let at = then_some (λ r. given (is_received code value (ports.answer_to_receive r k)) (ports.after_receive r k)) (place x receivers) after gives in
        let of = given_some (is_received code value (ports.answer_to_receive at.item k)) (ports.after_receive at.item k) after at.gives in
        subst (Same k) of.same (record { words = refl; events = refl; places = taken k.queues at.item (slice_get k.queues at.item) refl })
stays p receivers events k after (deed.Start e point value) leads =
    let at = then_some (λ i. given (is_set k.due i) (ports.after_start i k)) (place e events) after leads in
    let gives = given_some (is_set k.due at.item) (ports.after_start at.item k) after at.gives in
    subst (Same k) gives.same (record { words = refl; events = refl; places = refl })
stays p receivers events k after d leads = absurd (cc leads)

pub stays_planned : (p : Plan) (g : ℕ) (old new : Kept) (d : Deed) → IsGroupOfPlan p g old → lead_of_queues p old.receivers old.events old.queued d ≡ Some new.queued → new ≡ with_queues old new.queued → IsGroupOfPlan p g new
stays_planned p g old new d planned leads kept =
    let same = stays p old.receivers old.events old.queued new.queued d leads in
    subst (IsGroupOfPlan p g) (sym kept) (record {
      is_group = planned.is_group;
      receiving = planned.receiving;
      waiting = planned.waiting;
      awaited = same.events ∙ planned.awaited;
      words = same.words ∙ planned.words;
      places = same.places ∙ planned.places;
    })
