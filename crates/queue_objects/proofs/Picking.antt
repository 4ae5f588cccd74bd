-- How the parts of a group are made of a plan.
use Rattle.std.proofs.Common.{◌≡◌, ◌<◌, ℕ, true, sym, ◌∙◌, ap, subst, List, length, map, Some, None}
use Rattle.std.specs.Prelude.{All, filter, slice_index_or, unwrap_or}
use Rattle.bus_semantics.specs.Common.{option_map_or, eq-eqb, false≢true, same_number, Plan, kind_of, positions, is_in_group}
use Rattle.std.proofs.lemmas.List.Elements.{All-map}
use Rattle.bus_laws.specs.Common.{ElemPlan, EventKind, DataReceived}
use Rattle.object_kinds.specs.Common.{members_of, events_of, waits_for_data, place, element_in, is_rising}
use Rattle.object_kinds.proofs.Placing.{place_within}
use Rattle.object_kinds.proofs.Rising.{rising_positions}
use Rattle.queue_objects.specs.Layout.{is_receiver_at, receivers_of, waits_for_receiver, receiver_of}
use Rattle.queue_objects.proofs.Contents.{receiver_at}
use Rattle.queue_objects.proofs.Keeping.{receiver_placed, waiting_for}
use Rattle.queue_objects.proofs.Lists.{picked_twice}

pub receivers_rise : (p : Plan) (g : ℕ) → is_rising (receivers_of p g) ≡ true
receivers_rise p g = rising_positions (is_receiver_at p g) (length p.elements)

-- a receiver of the group is in the group
pub receiver_inside : (p : Plan) (g x : ℕ) → is_receiver_at p g x ≡ true → is_in_group p g x ≡ true
receiver_inside p g x is = let r = receiver_at p g x is in
    ap (λ o. same_number (option_map_or (λ (e : ElemPlan). Some e.group) o None) (Some g)) r.found ∙ eq-eqb r.elem.group g r.group

-- the receivers are picked from the elements of the group
pub receivers_picked : (p : Plan) (g : ℕ) → filter (is_receiver_at p g) (members_of p g) ≡ receivers_of p g
receivers_picked p g = picked_twice (is_in_group p g) (is_receiver_at p g) (positions (length p.elements)) (receiver_inside p g)

-- and the events that wait for a receiver from those that wait for the group
pub waiting_picked : (p : Plan) (g : ℕ) → filter (λ e. waits_for_receiver p g (kind_of p e)) (events_of p (waits_for_data p g)) ≡ events_of p (waits_for_receiver p g)
waiting_picked p g = picked_twice (λ e. waits_for_data p g (kind_of p e)) (λ e. waits_for_receiver p g (kind_of p e)) (positions (length p.events)) (λ e is. by_kind (kind_of p e) is)
  where
    by_kind : (k : EventKind) → waits_for_receiver p g k ≡ true → waits_for_data p g k ≡ true
    by_kind (DataReceived x) is = receiver_inside p g x is
    by_kind k is = absurd (false≢true is)

-- what an event waits for is one of the receivers
pub awaited_within : (p : Plan) (g e : ℕ) → waits_for_receiver p g (kind_of p e) ≡ true → receiver_of p g e < length (receivers_of p g)
awaited_within p g e waits =
    let w = waiting_for p g (kind_of p e) waits in
    let there = receiver_placed p g w.element w.receives in
    let named : receiver_of p g e ≡ there.at = ap (λ kind. unwrap_or (place (element_in kind) (receivers_of p g)) 0) w.kind ∙ ap (λ o. unwrap_or o 0) there.is in
    subst (λ r. r < length (receivers_of p g)) (sym named) (place_within w.element (receivers_of p g) there.at there.is)

pub all_awaited_within : (p : Plan) (g count : ℕ) (es : List ℕ) → length (receivers_of p g) ≡ count → All (λ e. waits_for_receiver p g (kind_of p e) ≡ true) es → All (λ r. r < count) (map (receiver_of p g) es)
all_awaited_within p g count es same all = All-map (λ r. r < count) (receiver_of p g) es (λ k d within. subst (λ n. receiver_of p g (slice_index_or es k d) < n) same (awaited_within p g (slice_index_or es k d) (all k d within)))
