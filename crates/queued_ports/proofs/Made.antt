-- New queues.
use Rattle.std.proofs.Common.{◌≡◌, ◌≢◌, ◌≤◌, ℕ, refl, sym, ◌∙◌, ap, arith, Bool, false, List, [], ◌∷◌, length, map, replicate}
use Rattle.std.specs.List.{count_by, range_with_len, sum}
use Rattle.std.proofs.lemmas.List.{length-replicate}
use Rattle.std.proofs.lemmas.List.Sums.{sum_by-cons}
use Rattle.std.proofs.lemmas.List.Elements.{All-map}
use Rattle.rte_value.specs.declared.value.Value.{Value}
use Rattle.rte_value.specs.ShortValues.{empty_value}
use Rattle.queued_ports.specs.KeptBlocks as pool
use Rattle.latches.specs.Latches.{Latch, clear_in}
use Rattle.queued_ports.specs.declared.lanes.Lane.{Lane}
use Rattle.queued_ports.specs.Kept.{empty_queue}
use Rattle.queued_ports.specs.Laid.{AreLaid, blocks_in, empty_lane, queue_of}
use Rattle.queued_ports.proofs.Blocks.{AreFitting, places, used}

pub empty_queues : (values : List Value) (lengths : List ℕ) → map (queue_of values) (map empty_lane lengths) ≡ map empty_queue lengths
empty_queues values [] = refl
empty_queues values (n ∷ lengths) = ap (λ qs. empty_queue n ∷ qs) (empty_queues values lengths)

all_places : (lengths : List ℕ) → places (map empty_lane lengths) ≡ sum lengths
all_places [] = refl
all_places (n ∷ lengths) = omega (arith, sum_by-cons (λ (l : Lane). l.ring.capacity) (empty_lane n) (map empty_lane lengths), sum_by-cons (λ m. m) n lengths, all_places lengths)

none_used : (kind : ℕ → Bool) (lengths : List ℕ) → used kind (map empty_lane lengths) ≡ 0
none_used kind [] = refl
none_used kind (n ∷ lengths) = omega (arith, sum_by-cons (blocks_in kind) (empty_lane n) (map empty_lane lengths), none_used kind lengths)

all_fit : (lengths : List ℕ) → AreFitting (map empty_lane lengths)
all_fit lengths = All-map (λ (l : Lane). length l.ring.items ≤ l.ring.capacity) empty_lane lengths (λ k d less. omega arith)

pub made_laid : (words blocks : ℕ) (lengths : List ℕ) → (words ≢ 1 → blocks ≡ sum lengths) → AreLaid words (pool.fresh blocks) (map empty_lane lengths)
made_laid words blocks lengths enough = record {
  fits = all_fit lengths;
  room = λ long. length-replicate blocks empty_value ∙ enough long ∙ sym (all_places lengths);
  each_once = λ kind. omega (arith, none_used kind lengths, ap (λ n. count_by kind (range_with_len 0 n)) (length-replicate blocks empty_value));
}

pub made_groups : (groups : List ℕ) → map (λ (l : Latch). l.group) (map clear_in groups) ≡ groups
made_groups [] = refl
made_groups (g ∷ groups) = ap (λ gs. g ∷ gs) (made_groups groups)

pub made_flags : (groups : List ℕ) → map (λ (l : Latch). l.is_set) (map clear_in groups) ≡ replicate (length groups) false
made_flags [] = refl
made_flags (g ∷ groups) = ap (λ bs. false ∷ bs) (made_flags groups)
