-- The oldest value of a queue is taken.
use Rattle.std.proofs.Common.{◌≡◌, ◌<◌, ◌≤◌, ◌+◌, ◌==◌, ℕ, refl, sym, ◌∙◌, ap, arith, Bool, false, List, [], ◌∷◌, length, map, set, get_or, drop, Some, None, if◌then◌else◌}
use Rattle.std.specs.List.{All, count_by, slice_get}
use Rattle.std.proofs.lemmas.Bool.{eq-eqb}
use Rattle.std.proofs.lemmas.List.{drop-map, length-drop, map-set}
use Rattle.std.proofs.lemmas.List.Elements.{All-get_or, All-set}
use Rattle.std.proofs.lemmas.List.Sums.{sum_by-set, sum_by_push}
use Rattle.std.proofs.lemmas.Option.{same_Some, slice_get_within, get_or_from_slice_get}
use Rattle.circular_buffer.specs.Buffer.{buffer}
use Rattle.rte_value.specs.declared.value.Value.{Value}
use Rattle.rte_value.specs.ShortValues.{empty_value}
use Rattle.queued_ports.specs.KeptBlocks as pool
use Rattle.queued_ports.specs.declared.lanes.Lane.{Lane}
use Rattle.queued_ports.specs.declared.payload.Payload.{Payload}
use Rattle.queued_ports.specs.declared.payload.Payload.TheVariants.{One, Many}
use Rattle.queued_ports.specs.Kept.{after_taking, received_of}
use Rattle.queued_ports.specs.Laid.{AreLaid, blocks_in, lies_in, queue_of, value_of}
use Rattle.queued_ports.specs.Packed.{IsThere, after_unpacking}
use Rattle.queued_ports.proofs.Blocks.{places, used, used_taken}
use Rattle.queued_ports.proofs.Counts.{one_if, count_cons}

abbrev pub without_first : Lane → Lane
without_first lane = record { ring = buffer (drop 1 lane.ring.items) lane.ring.capacity; lost = false }

-- what the first of a list is, and that there is none
pub first_is : {X : Type 0} (xs : List X) (x : X) → slice_get xs 0 ≡ Some x → xs ≡ x ∷ drop 1 xs
first_is [] x e = absurd (cc e)
first_is (y ∷ ys) x e = ap (λ z. z ∷ ys) (same_Some y x e)

pub nothing_first : {X : Type 0} (xs : List X) → slice_get xs 0 ≡ None → xs ≡ []
nothing_first [] e = refl
nothing_first (y ∷ ys) e = absurd (cc e)

-- what is received of a queue with these values
pub with_first : (n : ℕ) (v : Value) (held : List Value) (lost : Bool) (xs : List Value) → xs ≡ v ∷ held → record { code = if lost then 64 else 0; value = v } ≡ received_of (record { queue_length = n; held = xs; lost = lost })
with_first n v held lost xs is = sym (ap (λ ys. received_of (record { queue_length = n; held = ys; lost = lost })) is)

pub with_none : (n : ℕ) (lost : Bool) (xs : List Value) → xs ≡ [] → record { code = 131; value = empty_value } ≡ received_of (record { queue_length = n; held = xs; lost = lost })
with_none n lost xs is = sym (ap (λ ys. received_of (record { queue_length = n; held = ys; lost = lost })) is)

module _ (words : ℕ) (old : pool.Kept) (lanes : List Lane) (all : AreLaid words old lanes) (at : ℕ) (lane : Lane) (found : slice_get lanes at ≡ Some lane) where
  within : at < length lanes
  within = slice_get_within lanes at lane found

  here : get_or lanes at lane ≡ lane
  here = get_or_from_slice_get lanes at lane lane found

  abbrev after : List Lane
  after = set lanes at (without_first lane)

  fits : length lane.ring.items ≤ lane.ring.capacity
  fits =
      let held = All-get_or (λ (l : Lane). length l.ring.items ≤ l.ring.capacity) lanes at lane within all.fits in
      omega (arith, held, ap (λ (l : Lane). length l.ring.items) here, ap (λ (l : Lane). l.ring.capacity) here)

  fitting : All (λ (l : Lane). length l.ring.items ≤ l.ring.capacity) after
  fitting = All-set (λ (l : Lane). length l.ring.items ≤ l.ring.capacity) lanes at (without_first lane) (omega (arith, fits, length-drop 1 lane.ring.items)) all.fits

  same_places : places after ≡ places lanes
  same_places = omega (arith, sum_by-set (λ (l : Lane). l.ring.capacity) lanes at (without_first lane) lane within, ap (λ (l : Lane). l.ring.capacity) here)

  changed : (kind : ℕ → Bool) → used kind after + blocks_in kind lane ≡ used kind lanes + count_by (lies_in kind) (drop 1 lane.ring.items)
  changed kind = omega (arith, sum_by-set (blocks_in kind) lanes at (without_first lane) lane within, ap (blocks_in kind) here)

  -- the queues that are seen after it
  pub taken_queues : map (queue_of old.values) after ≡ set (map (queue_of old.values) lanes) at (after_taking (queue_of old.values lane))
  taken_queues =
      map-set (queue_of old.values) lanes at (without_first lane)
      ∙ ap (λ vs. set (map (queue_of old.values) lanes) at (record { queue_length = lane.ring.capacity; held = vs; lost = false })) (sym (drop-map (value_of old.values) 1 lane.ring.items))

  -- where the queue was empty
  pub none_laid : lane.ring.items ≡ [] → AreLaid words old after
  none_laid none = record {
    fits = fitting;
    room = λ long. omega (arith, all.room long, same_places);
    each_once = λ kind. omega (arith, all.each_once kind, changed kind, ap (λ ps. count_by (lies_in kind) ps) none, ap (λ ps. count_by (lies_in kind) (drop 1 ps)) none);
  }

  module _ (payload : Payload) (first : lane.ring.items ≡ payload ∷ drop 1 lane.ring.items) where
    one_less : (kind : ℕ → Bool) → used kind after + one_if (lies_in kind payload) ≡ used kind lanes
    one_less kind = omega (arith, changed kind, ap (count_by (lies_in kind)) first, count_cons (lies_in kind) payload (drop 1 lane.ring.items))

  pub first_there : (payload : Payload) → lane.ring.items ≡ payload ∷ drop 1 lane.ring.items → IsThere payload old
  first_there (One word) first = tt
  first_there (Many block) first =
      used_taken words old lanes all block at lane found
      (omega (arith, ap (count_by (lies_in (λ f. block == f))) first, count_cons (lies_in (λ f. block == f)) (Many block) (drop 1 lane.ring.items), ap one_if (eq-eqb block block refl)))

  pub unpacked_laid : (payload : Payload) → lane.ring.items ≡ payload ∷ drop 1 lane.ring.items → AreLaid words (after_unpacking payload old) after
  unpacked_laid (One word) first = record {
    fits = fitting;
    room = λ long. omega (arith, all.room long, same_places);
    each_once = λ kind. omega (arith, all.each_once kind, one_less (One word) first kind);
  }
  unpacked_laid (Many block) first = record {
    fits = fitting;
    room = λ long. omega (arith, all.room long, same_places);
    each_once = λ kind. omega (arith, all.each_once kind, one_less (Many block) first kind, sum_by_push (λ f. one_if (kind f)) old.free block);
  }

-- unpacking changes no value
pub same_blocks : (payload : Payload) (old : pool.Kept) → (after_unpacking payload old).values ≡ old.values
same_blocks (One word) old = refl
same_blocks (Many block) old = refl
