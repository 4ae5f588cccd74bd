-- What a group keeps at first is what the definitions give from no entry.
use Rattle.std.proofs.Common.{◌≡◌, ℕ, false, refl, ◌∙◌, ap, List, [], ◌∷◌, map}
use Rattle.bus_semantics.specs.Common.{Plan, kind_of, places_at}
use Rattle.queued_ports.specs.Kept as ports
use Rattle.object_kinds.specs.Layout.{group_at, IsAlone, events_of}
use Rattle.object_kinds.proofs.Events.{events_all}
use Rattle.object_kinds.proofs.Lists.{filled_all}
use Rattle.queue_objects.specs.Kept.{opening}
use Rattle.queue_objects.specs.Plans.{IsGroupOfPlan}
use Rattle.queue_objects.specs.Layout.{receivers_of, waits_for_receiver, receiver_of, words_in, IsQueuedGroup}
use Rattle.queue_objects.specs.Standing.{contents_of, contents_after, due_after, GroupKeeps, Keeps}
use Rattle.queue_objects.proofs.Keeping.{waiting_for, due_kind}

first_contents : (p : Plan) (ys : List ℕ) → map contents_of (map ports.empty_queue (map (places_at p) ys)) ≡ map (contents_after p []) ys
first_contents p [] = refl
first_contents p (y ∷ ys) = ap (λ cs. contents_after p [] y ∷ cs) (first_contents p ys)

pub group_opens : (p : Plan) (g : ℕ) → IsQueuedGroup p g → GroupKeeps p g (opening p g) []
group_opens p g is_group = record {
  is_group = is_group;
  receiving = refl;
  waiting = refl;
  awaited = refl;
  words = refl;
  queues = first_contents p (receivers_of p g);
  due = filled_all (λ e. waits_for_receiver p g (kind_of p e)) (receiver_of p g) (due_after p []) false (events_of p (waits_for_receiver p g)) (events_all p (waits_for_receiver p g))
      (λ e waits. let w = waiting_for p g (kind_of p e) waits in due_kind p e w.element [] w.kind);
}

pub object_opens : (p : Plan) (object : ℕ) → IsAlone p object → IsQueuedGroup p (group_at p object) → Keeps p object (opening p (group_at p object)) []
object_opens p object alone is_group = record { alone = alone; group = group_opens p (group_at p object) is_group }

first_places : (p : Plan) (ys : List ℕ) → map (λ (q : ports.Queue). q.queue_length) (map ports.empty_queue (map (places_at p) ys)) ≡ map (places_at p) ys
first_places p [] = refl
first_places p (y ∷ ys) = ap (λ ns. places_at p y ∷ ns) (first_places p ys)

pub opens_planned : (p : Plan) (g : ℕ) → IsQueuedGroup p g → IsGroupOfPlan p g (opening p g)
opens_planned p g is_group = record { is_group = is_group; receiving = refl; waiting = refl; awaited = refl; words = refl; places = first_places p (receivers_of p g) }

-- a group that is made of its parts
pub made : (p : Plan) (g words : ℕ) (receivers events lengths awaited : List ℕ) (queued : ports.Kept) → receivers ≡ receivers_of p g → events ≡ events_of p (waits_for_receiver p g) → lengths ≡ map (places_at p) receivers
    → awaited ≡ map (receiver_of p g) events → words ≡ words_in p g → queued ≡ ports.fresh lengths awaited words → record { receivers = receivers; events = events; queued = queued } ≡ opening p g
made p g words receivers events lengths awaited queued receiving waiting long waits many fresh = λ i. record {
  receivers = receiving i;
  events = waiting i;
  queued = (fresh ∙ (λ j. ports.fresh ((long ∙ ap (map (places_at p)) receiving) j) ((waits ∙ ap (map (receiver_of p g)) waiting) j) (many j))) i;
}
