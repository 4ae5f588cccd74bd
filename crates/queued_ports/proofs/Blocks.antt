-- What is known of the blocks while the queues are laid out: that one is free where a place is, and that no block is used twice.
use Rattle.std.proofs.Common.{◌≡◌, ◌≢◌, ◌<◌, ◌≤◌, ◌==◌, ℕ, zero, suc, refl, sym, ◌∙◌, ap, arith, Bool, true, List, [], ◌∷◌, length, map, set, get_or, Some}
use Rattle.std.specs.List.{All, count_by, sum_by, slice_get, range_with_len}
use Rattle.std.proofs.lemmas.Bool.{eq-eqb}
use Rattle.std.proofs.lemmas.List.{get_or-set_other}
use Rattle.std.proofs.lemmas.List.Elements.{All-head, All-tail}
use Rattle.std.proofs.lemmas.List.FromFn.{length-range_with_len}
use Rattle.std.proofs.lemmas.List.Sums.{sum_by-cons, count_by-le-length, get_or-le-sum_by}
use Rattle.std.proofs.lemmas.Option.{same_Some, slice_get_within, get_or_from_slice_get}
use Rattle.rte_value.specs.declared.value.Value.{Value}
use Rattle.rte_value.specs.ShortValues.{empty_value}
use Rattle.queued_ports.specs.KeptBlocks as pool
use Rattle.queued_ports.specs.declared.lanes.Lane.{Lane}
use Rattle.queued_ports.specs.declared.payload.Payload.{Payload}
use Rattle.queued_ports.specs.declared.payload.Payload.TheVariants.{One, Many}
use Rattle.queued_ports.specs.Laid.{AreLaid, blocks_in, lies_in, queue_of, value_of}
use Rattle.queued_ports.proofs.Counts.{one_if, count_cons, count_all, none_counted, range_once, range_within}

abbrev pub places : List Lane → ℕ
places lanes = sum_by (λ (l : Lane). l.ring.capacity) lanes

abbrev pub used : (kind : ℕ → Bool) → List Lane → ℕ
used kind lanes = sum_by (blocks_in kind) lanes

abbrev any_block : ℕ → Bool
any_block _ = true

abbrev pub AreFitting : List Lane → Type 0
AreFitting lanes = All (λ (l : Lane). length l.ring.items ≤ l.ring.capacity) lanes

-- no more blocks are used than there are places, and fewer where a place is free
used_most : (lanes : List Lane) → AreFitting lanes → used any_block lanes ≤ places lanes
used_most [] fits = omega arith
used_most (l ∷ lanes) fits =
    let first = All-head (λ (m : Lane). length m.ring.items ≤ m.ring.capacity) l lanes fits in
    omega (
      arith,
      sum_by-cons (blocks_in any_block) l lanes,
      sum_by-cons (λ (m : Lane). m.ring.capacity) l lanes,
      count_by-le-length (lies_in any_block) l.ring.items,
      first,
      used_most lanes (All-tail (λ (m : Lane). length m.ring.items ≤ m.ring.capacity) l lanes fits),
    )

used_less : (lanes : List Lane) (at : ℕ) (lane : Lane) → slice_get lanes at ≡ Some lane → length lane.ring.items < lane.ring.capacity → AreFitting lanes → used any_block lanes < places lanes
used_less [] at lane found room fits = absurd (cc found)
used_less (l ∷ lanes) zero lane found room fits =
    let same : l ≡ lane = same_Some l lane found in
    let less : length l.ring.items < l.ring.capacity = omega (arith, room, ap (λ (m : Lane). length m.ring.items) same, ap (λ (m : Lane). m.ring.capacity) same) in
    omega (
      arith,
      sum_by-cons (blocks_in any_block) l lanes,
      sum_by-cons (λ (m : Lane). m.ring.capacity) l lanes,
      count_by-le-length (lies_in any_block) l.ring.items,
      less,
      used_most lanes (All-tail (λ (m : Lane). length m.ring.items ≤ m.ring.capacity) l lanes fits),
    )
used_less (l ∷ lanes) (suc at) lane found room fits =
    let first = All-head (λ (m : Lane). length m.ring.items ≤ m.ring.capacity) l lanes fits in
    omega (
      arith,
      sum_by-cons (blocks_in any_block) l lanes,
      sum_by-cons (λ (m : Lane). m.ring.capacity) l lanes,
      count_by-le-length (lies_in any_block) l.ring.items,
      first,
      used_less lanes at lane found room (All-tail (λ (m : Lane). length m.ring.items ≤ m.ring.capacity) l lanes fits),
    )

module _ (words : ℕ) (blocks : pool.Kept) (lanes : List Lane) (all : AreLaid words blocks lanes) where
  abbrev count : ℕ
  count = length blocks.values

  -- a block is free where a queue has room
  pub free_block : (at : ℕ) (lane : Lane) → slice_get lanes at ≡ Some lane → length lane.ring.items < lane.ring.capacity → words ≢ 1 → 0 < length blocks.free
  free_block at lane found room long =
      omega (arith, used_less lanes at lane found room all.fits, all.room long, all.each_once any_block, count_all blocks.free, count_all (range_with_len 0 count), length-range_with_len 0 count)

  -- a block that is free is one of the pool and in no ring
  pub free_within : (block : ℕ) → 0 < count_by (λ f. block == f) blocks.free → block < count
  free_within block free = let less = range_within 0 count block (omega (arith, all.each_once (λ f. block == f), free)) in omega arith

  pub free_unused : (block : ℕ) → 0 < count_by (λ f. block == f) blocks.free → used (λ f. block == f) lanes ≡ 0
  free_unused block free = omega (arith, all.each_once (λ f. block == f), free, range_once 0 count block)

  -- a block in a ring is taken
  pub used_taken : (block at : ℕ) (lane : Lane) → slice_get lanes at ≡ Some lane → 0 < blocks_in (λ f. block == f) lane → pool.IsTaken block blocks
  used_taken block at lane found uses =
      let some : 0 < used (λ f. block == f) lanes = omega (arith, uses, get_or-le-sum_by (blocks_in (λ f. block == f)) lanes at lane (slice_get_within lanes at lane found), ap (blocks_in (λ f. block == f)) (get_or_from_slice_get lanes at lane lane found)) in
      record {
        within = (let less = range_within 0 count block (omega (arith, all.each_once (λ f. block == f), some)) in omega arith);
        not_free = none_counted (λ f. block == f) blocks.free (omega (arith, all.each_once (λ f. block == f), some, range_once 0 count block));
      }

-- ---- what is written into a block that is in no ring changes no queue

pub same_values : (values : List Value) (block : ℕ) (v : Value) (items : List Payload) → count_by (lies_in (λ f. block == f)) items ≡ 0 → map (value_of (set values block v)) items ≡ map (value_of values) items
same_values values block v [] none = refl
same_values values block v (One word ∷ items) none =
    ap (λ vs. value_of values (One word) ∷ vs) (same_values values block v items (omega (arith, count_cons (lies_in (λ f. block == f)) (One word) items, none)))
same_values values block v (Many other ∷ items) none =
    let counted = count_cons (lies_in (λ f. block == f)) (Many other) items in
    let apart : other ≢ block = λ same. absurd (omega (arith, counted, none, ap one_if (eq-eqb block other (sym same)))) in
    ap (λ w. w ∷ map (value_of (set values block v)) items) (get_or-set_other values block other v empty_value apart)
    ∙ ap (λ vs. get_or values other empty_value ∷ vs) (same_values values block v items (omega (arith, counted, none)))

pub same_queues : (values : List Value) (block : ℕ) (v : Value) (lanes : List Lane) → used (λ f. block == f) lanes ≡ 0 → map (queue_of (set values block v)) lanes ≡ map (queue_of values) lanes
same_queues values block v [] none = refl
same_queues values block v (l ∷ lanes) none =
    let counted = sum_by-cons (blocks_in (λ f. block == f)) l lanes in
    ap (λ vs. record { queue_length = l.ring.capacity; held = vs; lost = l.lost } ∷ map (queue_of (set values block v)) lanes) (same_values values block v l.ring.items (omega (arith, counted, none)))
    ∙ ap (λ qs. queue_of values l ∷ qs) (same_queues values block v lanes (omega (arith, counted, none)))
