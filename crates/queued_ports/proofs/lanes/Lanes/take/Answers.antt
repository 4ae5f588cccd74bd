use Rattle.std.proofs.Common.{◌≡◌, ◌<◌, refl, sym, ◌∙◌, ap, subst, length, map, set, drop, false, if◌then◌else◌, arith}
use Rattle.std.specs.List.{slice_get}
use Rattle.std.proofs.lemmas.List.{length-map}
use Rattle.std.proofs.lemmas.Option.{same_Some, slice_get_read}
use Rattle.rte_value.specs.EqualValues.{Value-by_words}
use Rattle.rte_value.specs.ShortValues.{empty_value}
use Rattle.queued_ports.specs.KeptBlocks as pool
use Rattle.queued_ports.specs.Kept.{after_taking, received_of}
use Rattle.queued_ports.specs.Laid.{AreLaid, Stored, queue_of, value_of}
use Rattle.queued_ports.proofs.Arriving.{seen_at}
use Rattle.queued_ports.proofs.Taking.{first_is, first_there, nothing_first, same_blocks, taken_queues, unpacked_laid, without_first, with_first, with_none}
use Rattle.queued_ports.proofs.lanes.Lanes.take.Goals as goal
use Rattle.queued_ports.proofs.lanes.Lanes.take.Goals.{then-lane, else-lane}

pub unpack-requires : goal.unpack-requires
unpack-requires c =
    let values = c.self.inside.pool.values in
    let lanes = c.self.inside.lanes.items in
    let lane = c.index_mut-lane.result.now in
    let at = c.args.receiver in
    let within : at < length lanes = omega (arith, c.requires, ap (λ (s : Stored). length s.queues) c.self.view_is, length-map lanes (queue_of values)) in
    let found = slice_get_read lanes (length lanes) at lane refl within c.index_mut-lane.ensures.value in
    let first = first_is lane.ring.items c.in-Some.payload (sym c.in-Some.ensures.value) in
    first_there c.self.inside.words c.self.inside.pool lanes c.self.invariant at lane found c.in-Some.payload first

pub invariant_of-self : goal.invariant_of-self
invariant_of-self c =
    let values = c.self.inside.pool.values in
    let lanes = c.self.inside.lanes.items in
    let lane = c.index_mut-lane.result.now in
    let at = c.args.receiver in
    let within : at < length lanes = omega (arith, c.requires, ap (λ (s : Stored). length s.queues) c.self.view_is, length-map lanes (queue_of values)) in
    let found = slice_get_read lanes (length lanes) at lane refl within c.index_mut-lane.ensures.value in
    let first = first_is lane.ring.items c.in-Some.payload (sym c.in-Some.ensures.value) in
    subst (λ r. AreLaid c.self.inside.words c.unpack.new.pool (set lanes at (record { ring = r; lost = false }))) (sym c.pop_front.ensures.items)
    (subst (λ k. AreLaid c.self.inside.words k (set lanes at (without_first lane))) (sym c.unpack.ensures.kept)
    (unpacked_laid c.self.inside.words c.self.inside.pool lanes c.self.invariant at lane found c.in-Some.payload first))

pub returns-in-Some-clause-answer : goal.returns-in-Some-clause-answer
returns-in-Some-clause-answer c = λ q is.
    let values = c.self.inside.pool.values in
    let lanes = c.self.inside.lanes.items in
    let lane = c.index_mut-lane.result.now in
    let at = c.args.receiver in
    let within : at < length lanes = omega (arith, c.requires, ap (λ (s : Stored). length s.queues) c.self.view_is, length-map lanes (queue_of values)) in
    let found = slice_get_read lanes (length lanes) at lane refl within c.index_mut-lane.ensures.value in
    let seen = ap (λ (s : Stored). slice_get s.queues at) (sym c.self.view_is) ∙ seen_at values lanes at lane found in
    let same : queue_of values lane ≡ q = same_Some (queue_of values lane) q (sym seen ∙ is) in
    let first = first_is lane.ring.items c.in-Some.payload (sym c.in-Some.ensures.value) in
    let code : c.if-lane.code ≡ (if lane.lost then 64 else 0) =
    elim c.if-lane.branch [ then-lane w ↦ w.code-is ∙ sym (ap (λ b. if b then 64 else 0) w.if-lane.true) | else-lane w ↦ w.code-is ∙ sym (ap (λ b. if b then 64 else 0) w.if-lane.false) ] in
    let value = c.unpack.ensures.value in
    let received : record { code = c.if-lane.code; value = c.unpack.result } ≡ record { code = if lane.lost then 64 else 0; value = value_of values c.in-Some.payload } = λ i. record { code = code i; value = value i } in
    received
    ∙ with_first lane.ring.capacity (value_of values c.in-Some.payload) (map (value_of values) (drop 1 lane.ring.items)) lane.lost (map (value_of values) lane.ring.items) (ap (map (value_of values)) first)
    ∙ ap received_of same

pub returns-in-Some-clause-queues : goal.returns-in-Some-clause-queues
returns-in-Some-clause-queues c = λ q is.
    let values = c.self.inside.pool.values in
    let lanes = c.self.inside.lanes.items in
    let lane = c.index_mut-lane.result.now in
    let at = c.args.receiver in
    let within : at < length lanes = omega (arith, c.requires, ap (λ (s : Stored). length s.queues) c.self.view_is, length-map lanes (queue_of values)) in
    let found = slice_get_read lanes (length lanes) at lane refl within c.index_mut-lane.ensures.value in
    let seen = ap (λ (s : Stored). slice_get s.queues at) (sym c.self.view_is) ∙ seen_at values lanes at lane found in
    let same : queue_of values lane ≡ q = same_Some (queue_of values lane) q (sym seen ∙ is) in
    ap (λ vs. map (queue_of vs) (set lanes at (record { ring = c.pop_front.new.self; lost = false }))) (ap (λ (k : pool.Kept). k.values) c.unpack.ensures.kept ∙ same_blocks c.in-Some.payload c.self.inside.pool)
    ∙ ap (λ r. map (queue_of values) (set lanes at (record { ring = r; lost = false }))) c.pop_front.ensures.items
    ∙ taken_queues c.self.inside.words c.self.inside.pool lanes c.self.invariant at lane found
    ∙ ap (λ (s : Stored). set s.queues at (after_taking (queue_of values lane))) c.self.view_is
    ∙ ap (λ p. set c.args.self.now.queues at (after_taking p)) same

pub returns-in-None-clause-answer : goal.returns-in-None-clause-answer
returns-in-None-clause-answer c = λ q is.
    let values = c.self.inside.pool.values in
    let lanes = c.self.inside.lanes.items in
    let lane = c.index_mut-lane.result.now in
    let at = c.args.receiver in
    let within : at < length lanes = omega (arith, c.requires, ap (λ (s : Stored). length s.queues) c.self.view_is, length-map lanes (queue_of values)) in
    let found = slice_get_read lanes (length lanes) at lane refl within c.index_mut-lane.ensures.value in
    let seen = ap (λ (s : Stored). slice_get s.queues at) (sym c.self.view_is) ∙ seen_at values lanes at lane found in
    let same : queue_of values lane ≡ q = same_Some (queue_of values lane) q (sym seen ∙ is) in
    let none = nothing_first lane.ring.items (sym c.in-None.ensures.value) in
    let empty = Value-by_words c.empty.result empty_value c.empty.ensures in
    let received : record { code = 131; value = c.empty.result } ≡ record { code = 131; value = empty_value } = λ i. record { code = 131; value = empty i } in
    received ∙ with_none lane.ring.capacity lane.lost (map (value_of values) lane.ring.items) (ap (map (value_of values)) none) ∙ ap received_of same

pub returns-in-None-clause-queues : goal.returns-in-None-clause-queues
returns-in-None-clause-queues c = λ q is.
    let values = c.self.inside.pool.values in
    let lanes = c.self.inside.lanes.items in
    let lane = c.index_mut-lane.result.now in
    let at = c.args.receiver in
    let within : at < length lanes = omega (arith, c.requires, ap (λ (s : Stored). length s.queues) c.self.view_is, length-map lanes (queue_of values)) in
    let found = slice_get_read lanes (length lanes) at lane refl within c.index_mut-lane.ensures.value in
    let seen = ap (λ (s : Stored). slice_get s.queues at) (sym c.self.view_is) ∙ seen_at values lanes at lane found in
    let same : queue_of values lane ≡ q = same_Some (queue_of values lane) q (sym seen ∙ is) in
    ap (λ r. map (queue_of values) (set lanes at (record { ring = r; lost = false }))) c.pop_front.ensures.items
    ∙ taken_queues c.self.inside.words c.self.inside.pool lanes c.self.invariant at lane found
    ∙ ap (λ (s : Stored). set s.queues at (after_taking (queue_of values lane))) c.self.view_is
    ∙ ap (λ p. set c.args.self.now.queues at (after_taking p)) same
