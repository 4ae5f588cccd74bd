-- A value arrives at a queue.
use Rattle.std.proofs.Common.{◌≡◌, ◌<◌, ◌≤◌, ◌+◌, ◌-◌, ◌==◌, ℕ, ℤ, refl, sym, ◌∙◌, ap, subst, arith, Bool, true, false, List, [], ◌∷◌, ◌++◌, length, map, set, get_or, drop, if◌then◌else◌, Some}
use Rattle.std.specs.List.{All, count_by, range_with_len, slice_get}
use Rattle.std.specs.Option.{option_map, unwrap_or}
use Rattle.std.proofs.lemmas.Bool.{eq-eqb, lt-ltb, le-ltb}
use Rattle.std.proofs.lemmas.List.{length-map, length-set, length_push, map-set, map_push, get_or-set_same}
use Rattle.std.proofs.lemmas.List.Elements.{All-set}
use Rattle.std.proofs.lemmas.List.Sums.{get_or-le-sum_by, sum_by-set, sum_by_push}
use Rattle.std.proofs.lemmas.Option.{slice_get-map, slice_get_within, get_or_from_slice_get}
use Rattle.circular_buffer.specs.Buffer.{buffer, keep_last}
use Rattle.rte_value.specs.declared.value.Value.{Value}
use Rattle.rte_value.specs.ShortValues.{empty_value, one_word}
use Rattle.queued_ports.specs.KeptBlocks as pool
use Rattle.queued_ports.specs.declared.lanes.Lane.{Lane}
use Rattle.queued_ports.specs.declared.payload.Payload.{Payload}
use Rattle.queued_ports.specs.declared.payload.Payload.TheVariants.{One, Many}
use Rattle.queued_ports.specs.Kept.{Queue, after_arrival, has_room, takes, with_loss, with_value}
use Rattle.queued_ports.specs.Laid.{AreLaid, blocks_in, lies_in, queue_of, value_of}
use Rattle.queued_ports.specs.Packed.{IsPacked}
use Rattle.queued_ports.proofs.Blocks.{free_unused, free_within, places, same_queues, same_values, used}
use Rattle.queued_ports.proofs.Counts.{one_if}

-- a ring that has room keeps all
pub all_kept : {X : Type 0} (n : ℕ) (xs : List X) → length xs ≤ n → keep_last n xs ≡ xs
all_kept n xs fits = ap (λ k. drop k xs) (let none : length xs - n ≡ 0 = omega arith in none)

-- whether a queue has room, by its ring
pub room_yes : (values : List Value) (lane : Lane) → length lane.ring.items < lane.ring.capacity → has_room (queue_of values lane) ≡ true
room_yes values lane less = lt-ltb (length (map (value_of values) lane.ring.items)) lane.ring.capacity (omega (arith, less, length-map lane.ring.items (value_of values)))

pub room_no : (values : List Value) (lane : Lane) → lane.ring.capacity ≤ length lane.ring.items → has_room (queue_of values lane) ≡ false
room_no values lane full = le-ltb (length (map (value_of values) lane.ring.items)) lane.ring.capacity (omega (arith, full, length-map lane.ring.items (value_of values)))

pub arrived : (v : Value) (q : Queue) → has_room q ≡ true → with_value v q ≡ after_arrival v q
arrived v q room = sym (ap (λ b. if b then with_value v q else with_loss q) room)

pub discarded : (v : Value) (q : Queue) → has_room q ≡ false → with_loss q ≡ after_arrival v q
discarded v q full = sym (ap (λ b. if b then with_value v q else with_loss q) full)

-- the queue that is seen where a lane is
pub seen_at : (values : List Value) (lanes : List Lane) (at : ℕ) (lane : Lane) → slice_get lanes at ≡ Some lane → slice_get (map (queue_of values) lanes) at ≡ Some (queue_of values lane)
seen_at values lanes at lane found = slice_get-map (queue_of values) lanes at ∙ ap (option_map (queue_of values)) found

pub takes_as : (queues : List Queue) (at : ℕ) (q : Queue) → slice_get queues at ≡ Some q → takes queues at ≡ has_room q
takes_as queues at q found = ap (λ o. unwrap_or (option_map has_room o) false) found

abbrev pub with_payload : Lane → Payload → Lane
with_payload lane payload = record { ring = buffer (lane.ring.items ++ payload ∷ []) lane.ring.capacity; lost = lane.lost }

module _ (words : ℕ) (old : pool.Kept) (lanes : List Lane) (all : AreLaid words old lanes) (at : ℕ) (lane : Lane) (found : slice_get lanes at ≡ Some lane) where
  within : at < length lanes
  within = slice_get_within lanes at lane found

  here : get_or lanes at lane ≡ lane
  here = get_or_from_slice_get lanes at lane lane found

  -- as many places and blocks
  module _ (payload : Payload) (room : length lane.ring.items < lane.ring.capacity) where
    abbrev after : List Lane
    after = set lanes at (with_payload lane payload)

    pub same_places : places after ≡ places lanes
    same_places = omega (arith, sum_by-set (λ (l : Lane). l.ring.capacity) lanes at (with_payload lane payload) lane within, ap (λ (l : Lane). l.ring.capacity) here)

    one_more : (kind : ℕ → Bool) → used kind after ≡ used kind lanes + one_if (lies_in kind payload)
    one_more kind = omega (arith, sum_by-set (blocks_in kind) lanes at (with_payload lane payload) lane within, ap (blocks_in kind) here, sum_by_push (λ p. one_if (lies_in kind p)) lane.ring.items payload)

    fitting : All (λ (l : Lane). length l.ring.items ≤ l.ring.capacity) after
    fitting = All-set (λ (l : Lane). length l.ring.items ≤ l.ring.capacity) lanes at (with_payload lane payload) (omega (arith, length_push lane.ring.items payload, room)) all.fits

  -- where the value is of one word
  word_laid : (word : ℤ) → length lane.ring.items < lane.ring.capacity → AreLaid words old (set lanes at (with_payload lane (One word)))
  word_laid word room = record {
    fits = fitting (One word) room;
    room = λ long. omega (arith, all.room long, same_places (One word) room);
    each_once = λ kind. omega (arith, one_more (One word) room kind, all.each_once kind);
  }

  word_queues : (v : Value) (word : ℤ) → v ≡ one_word word → map (queue_of old.values) (set lanes at (with_payload lane (One word))) ≡ set (map (queue_of old.values) lanes) at (with_value v (queue_of old.values lane))
  word_queues v word is =
      let held = map_push (value_of old.values) lane.ring.items (One word) ∙ ap (λ w. map (value_of old.values) lane.ring.items ++ w ∷ []) (sym is) in
      map-set (queue_of old.values) lanes at (with_payload lane (One word))
      ∙ ap (λ vs. set (map (queue_of old.values) lanes) at (record { queue_length = lane.ring.capacity; held = vs; lost = lane.lost })) held

  -- where it is longer
  module _ (v : Value) (block : ℕ) (new : pool.Kept) (free : old.free ≡ new.free ++ block ∷ []) (values : new.values ≡ set old.values block v) where
    counted : (kind : ℕ → Bool) → count_by kind old.free ≡ count_by kind new.free + one_if (kind block)
    counted kind = ap (count_by kind) free ∙ sum_by_push (λ f. one_if (kind f)) new.free block

    was_free : 0 < count_by (λ f. block == f) old.free
    was_free = omega (arith, counted (λ f. block == f), ap one_if (eq-eqb block block refl))

    unused : used (λ f. block == f) lanes ≡ 0
    unused = free_unused words old lanes all block was_free

    as_long : length new.values ≡ length old.values
    as_long = ap length values ∙ length-set old.values block v

    block_laid : length lane.ring.items < lane.ring.capacity → AreLaid words new (set lanes at (with_payload lane (Many block)))
    block_laid room = record {
      fits = fitting (Many block) room;
      room = λ long. omega (arith, as_long, all.room long, same_places (Many block) room);
      each_once = λ kind. omega (arith, one_more (Many block) room kind, all.each_once kind, counted kind, ap (λ n. count_by kind (range_with_len 0 n)) as_long);
    }

    own_unused : count_by (lies_in (λ f. block == f)) lane.ring.items ≡ 0
    own_unused = omega (arith, unused, get_or-le-sum_by (blocks_in (λ f. block == f)) lanes at lane within, ap (blocks_in (λ f. block == f)) here)

    held : map (value_of new.values) (lane.ring.items ++ Many block ∷ []) ≡ map (value_of old.values) lane.ring.items ++ v ∷ []
    held =
        map_push (value_of new.values) lane.ring.items (Many block)
        ∙ ap (λ w. map (value_of new.values) lane.ring.items ++ w ∷ []) (ap (λ vs. get_or vs block empty_value) values ∙ get_or-set_same old.values block v empty_value (free_within words old lanes all block was_free))
        ∙ ap (λ vs. vs ++ v ∷ []) (ap (λ vs. map (value_of vs) lane.ring.items) values ∙ same_values old.values block v lane.ring.items own_unused)

    block_queues : map (queue_of new.values) (set lanes at (with_payload lane (Many block))) ≡ set (map (queue_of old.values) lanes) at (with_value v (queue_of old.values lane))
    block_queues =
        map-set (queue_of new.values) lanes at (with_payload lane (Many block))
        ∙ ap (λ qs. set qs at (queue_of new.values (with_payload lane (Many block)))) (ap (λ vs. map (queue_of vs) lanes) values ∙ same_queues old.values block v lanes unused)
        ∙ ap (λ vs. set (map (queue_of old.values) lanes) at (record { queue_length = lane.ring.capacity; held = vs; lost = lane.lost })) held

  pub packed_laid : (v : Value) (payload : Payload) (new : pool.Kept) → IsPacked v old payload new → length lane.ring.items < lane.ring.capacity → AreLaid words new (set lanes at (with_payload lane payload))
  packed_laid v (One word) new packed room = subst (λ k. AreLaid words k (set lanes at (with_payload lane (One word)))) (sym packed.1) (word_laid word room)
  packed_laid v (Many block) new packed room = block_laid v block new packed.0 packed.1 room

  pub packed_queues : (v : Value) (payload : Payload) (new : pool.Kept) → IsPacked v old payload new → map (queue_of new.values) (set lanes at (with_payload lane payload)) ≡ set (map (queue_of old.values) lanes) at (with_value v (queue_of old.values lane))
  packed_queues v (One word) new packed = ap (λ (k : pool.Kept). map (queue_of k.values) (set lanes at (with_payload lane (One word)))) packed.1 ∙ word_queues v word packed.0
  packed_queues v (Many block) new packed = block_queues v block new packed.0 packed.1
