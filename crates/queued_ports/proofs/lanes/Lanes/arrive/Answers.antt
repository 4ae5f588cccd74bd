use Rattle.std.proofs.Common.{◌≡◌, ◌<◌, ◌≤◌, ◌∷◌, [], ◌++◌, refl, sym, ◌∙◌, ap, subst, length, map, set, true, arith}
use Rattle.std.specs.List.{slice_get}
use Rattle.std.proofs.lemmas.List.{length-map, length_push, map-set}
use Rattle.std.proofs.lemmas.Option.{same_Some, slice_get_read}
use Rattle.circular_buffer.specs.Buffer.{buffer}
use Rattle.queued_ports.specs.Kept.{after_arrival, with_value, with_loss}
use Rattle.queued_ports.specs.Laid.{AreLaid, Stored, queue_of}
use Rattle.queued_ports.proofs.Arriving.{all_kept, packed_laid, packed_queues, room_no, room_yes, seen_at, takes_as, arrived, discarded}
use Rattle.queued_ports.proofs.Blocks.{free_block}
use Rattle.queued_ports.proofs.lanes.Lanes.arrive.Goals as goal

pub pack-payload-requires-clause-room : goal.pack-payload-requires-clause-room
pack-payload-requires-clause-room c = λ long.
    let values = c.self.inside.pool.values in
    let lanes = c.self.inside.lanes.items in
    let lane = c.index_mut-lane.result.now in
    let at = c.args.receiver in
    let within : at < length lanes = omega (arith, c.requires.within, ap (λ (s : Stored). length s.queues) c.self.view_is, length-map lanes (queue_of values)) in
    let found = slice_get_read lanes (length lanes) at lane refl within c.index_mut-lane.ensures.value in
    let room : length lane.ring.items < lane.ring.capacity = omega (arith, c.len.ensures.len, c.capacity.ensures.capacity, c.if-len-capacity.true) in
    free_block c.self.inside.words c.self.inside.pool lanes c.self.invariant at lane found room long

pub invariant_of-self : goal.invariant_of-self
invariant_of-self c =
    let values = c.self.inside.pool.values in
    let lanes = c.self.inside.lanes.items in
    let lane = c.index_mut-lane.result.now in
    let at = c.args.receiver in
    let within : at < length lanes = omega (arith, c.requires.within, ap (λ (s : Stored). length s.queues) c.self.view_is, length-map lanes (queue_of values)) in
    let found = slice_get_read lanes (length lanes) at lane refl within c.index_mut-lane.ensures.value in
    let room : length lane.ring.items < lane.ring.capacity = omega (arith, c.len.ensures.len, c.capacity.ensures.capacity, c.if-len-capacity.true) in
    let payload = c.pack-payload.result in
    let all = all_kept lane.ring.capacity (lane.ring.items ++ payload ∷ []) (omega (arith, length_push lane.ring.items payload, room)) in
    let ring = c.push_back.ensures.items ∙ ap (λ xs. buffer xs lane.ring.capacity) all in
    subst (λ r. AreLaid c.self.inside.words c.pack-payload.new.pool (set lanes at (record { ring = r; lost = lane.lost }))) (sym ring)
    (packed_laid c.self.inside.words c.self.inside.pool lanes c.self.invariant at lane found c.args.value.now payload c.pack-payload.new.pool c.pack-payload.ensures room)

pub returns-then-len-capacity-clause-answer : goal.returns-then-len-capacity-clause-answer
returns-then-len-capacity-clause-answer c =
    let values = c.self.inside.pool.values in
    let lanes = c.self.inside.lanes.items in
    let lane = c.index_mut-lane.result.now in
    let at = c.args.receiver in
    let within : at < length lanes = omega (arith, c.requires.within, ap (λ (s : Stored). length s.queues) c.self.view_is, length-map lanes (queue_of values)) in
    let found = slice_get_read lanes (length lanes) at lane refl within c.index_mut-lane.ensures.value in
    let room : length lane.ring.items < lane.ring.capacity = omega (arith, c.len.ensures.len, c.capacity.ensures.capacity, c.if-len-capacity.true) in
    let seen = ap (λ (s : Stored). slice_get s.queues at) (sym c.self.view_is) ∙ seen_at values lanes at lane found in
    sym (takes_as c.args.self.now.queues at (queue_of values lane) seen ∙ room_yes values lane room)

pub returns-then-len-capacity-clause-queues : goal.returns-then-len-capacity-clause-queues
returns-then-len-capacity-clause-queues c = λ q is.
    let values = c.self.inside.pool.values in
    let lanes = c.self.inside.lanes.items in
    let lane = c.index_mut-lane.result.now in
    let at = c.args.receiver in
    let within : at < length lanes = omega (arith, c.requires.within, ap (λ (s : Stored). length s.queues) c.self.view_is, length-map lanes (queue_of values)) in
    let found = slice_get_read lanes (length lanes) at lane refl within c.index_mut-lane.ensures.value in
    let room : length lane.ring.items < lane.ring.capacity = omega (arith, c.len.ensures.len, c.capacity.ensures.capacity, c.if-len-capacity.true) in
    let seen = ap (λ (s : Stored). slice_get s.queues at) (sym c.self.view_is) ∙ seen_at values lanes at lane found in
    let same : queue_of values lane ≡ q = same_Some (queue_of values lane) q (sym seen ∙ is) in
    let payload = c.pack-payload.result in
    let all = all_kept lane.ring.capacity (lane.ring.items ++ payload ∷ []) (omega (arith, length_push lane.ring.items payload, room)) in
    let ring = c.push_back.ensures.items ∙ ap (λ xs. buffer xs lane.ring.capacity) all in
    ap (λ r. map (queue_of c.pack-payload.new.pool.values) (set lanes at (record { ring = r; lost = lane.lost }))) ring
    ∙ packed_queues c.self.inside.words c.self.inside.pool lanes c.self.invariant at lane found c.args.value.now payload c.pack-payload.new.pool c.pack-payload.ensures
    ∙ ap (λ (s : Stored). set s.queues at (with_value c.args.value.now (queue_of values lane))) c.self.view_is
    ∙ ap (set c.args.self.now.queues at) (arrived c.args.value.now (queue_of values lane) (room_yes values lane room) ∙ ap (after_arrival c.args.value.now) same)

pub returns-else-len-capacity-clause-answer : goal.returns-else-len-capacity-clause-answer
returns-else-len-capacity-clause-answer c =
    let values = c.self.inside.pool.values in
    let lanes = c.self.inside.lanes.items in
    let lane = c.index_mut-lane.result.now in
    let at = c.args.receiver in
    let within : at < length lanes = omega (arith, c.requires.within, ap (λ (s : Stored). length s.queues) c.self.view_is, length-map lanes (queue_of values)) in
    let found = slice_get_read lanes (length lanes) at lane refl within c.index_mut-lane.ensures.value in
    let full : lane.ring.capacity ≤ length lane.ring.items = omega (arith, c.len.ensures.len, c.capacity.ensures.capacity, c.if-len-capacity.false) in
    let seen = ap (λ (s : Stored). slice_get s.queues at) (sym c.self.view_is) ∙ seen_at values lanes at lane found in
    sym (takes_as c.args.self.now.queues at (queue_of values lane) seen ∙ room_no values lane full)

pub returns-else-len-capacity-clause-queues : goal.returns-else-len-capacity-clause-queues
returns-else-len-capacity-clause-queues c = λ q is.
    let values = c.self.inside.pool.values in
    let lanes = c.self.inside.lanes.items in
    let lane = c.index_mut-lane.result.now in
    let at = c.args.receiver in
    let within : at < length lanes = omega (arith, c.requires.within, ap (λ (s : Stored). length s.queues) c.self.view_is, length-map lanes (queue_of values)) in
    let found = slice_get_read lanes (length lanes) at lane refl within c.index_mut-lane.ensures.value in
    let full : lane.ring.capacity ≤ length lane.ring.items = omega (arith, c.len.ensures.len, c.capacity.ensures.capacity, c.if-len-capacity.false) in
    let seen = ap (λ (s : Stored). slice_get s.queues at) (sym c.self.view_is) ∙ seen_at values lanes at lane found in
    let same : queue_of values lane ≡ q = same_Some (queue_of values lane) q (sym seen ∙ is) in
    map-set (queue_of values) lanes at (record { ring = lane.ring; lost = true })
    ∙ ap (λ (s : Stored). set s.queues at (with_loss (queue_of values lane))) c.self.view_is
    ∙ ap (set c.args.self.now.queues at) (discarded c.args.value.now (queue_of values lane) (room_no values lane full) ∙ ap (after_arrival c.args.value.now) same)
