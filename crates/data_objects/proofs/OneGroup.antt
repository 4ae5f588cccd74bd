-- Flags of one group, seen as whether they are set.
use Rattle.std.proofs.Common.{◌≡◌, ◌<◌, ◌==◌, ◌||◌, ℕ, zero, suc, refl, sym, ◌∙◌, ap, Bool, true, false, not, cond, ◌+◌, List, [], ◌∷◌, length, get_or, map, replicate, Some}
use Rattle.std.specs.Prelude.{count_by}
use Rattle.bus_semantics.specs.Common.{slice_get, option_map, eq-eqb, All-head, All-tail, slice_get-get_or, slice_get-map}
use Rattle.std.proofs.lemmas.List.Sums.{sum_by-cons}
use Rattle.latches.specs.Latches.{Latch, clear_in, is_clear, after_set, IsNamedIn}
use Rattle.data_objects.specs.Flags.{are_set, AreOneGroup, IsOfClear}

pub all_set : (ls : List Latch) → AreOneGroup ls → are_set (map (after_set 0) ls) ≡ replicate (length (are_set ls)) true
all_set [] one = refl
all_set (l ∷ ls) one =
    let first : ((l.group == 0) || l.is_set) ≡ true = ap (λ b. b || l.is_set) (eq-eqb l.group 0 (All-head (λ (m : Latch). m.group ≡ 0) l ls one)) in
    ap (λ b. b ∷ are_set (map (after_set 0) ls)) first ∙ ap (λ bs. true ∷ bs) (all_set ls (All-tail (λ (m : Latch). m.group ≡ 0) l ls one))

pub none_set : (groups : List ℕ) → are_set (map clear_in groups) ≡ replicate (length groups) false
none_set [] = refl
none_set (g ∷ groups) = ap (λ bs. false ∷ bs) (none_set groups)

pub read_set : (ls : List Latch) (at : ℕ) (d : Latch) → at < length ls → slice_get (are_set ls) at ≡ Some (get_or ls at d).is_set
read_set ls at d within = slice_get-map (λ (l : Latch). l.is_set) ls at ∙ ap (option_map (λ (l : Latch). l.is_set)) (slice_get-get_or ls at d within)

-- the flag behind what is seen
pub record Behind (ls : List Latch) (at : ℕ) (b : Bool) : Type 0 where
  pub latch : Latch
  pub is : slice_get ls at ≡ Some latch
  pub shown : latch.is_set ≡ b

pub behind : (ls : List Latch) (at : ℕ) (b : Bool) → slice_get (are_set ls) at ≡ Some b → Behind ls at b
behind [] at b e = absurd (cc e)
behind (l ∷ ls) zero b e = record { latch = l; is = refl; shown = cc }
behind (l ∷ ls) (suc at) b e = let rest = behind ls at b e in record { latch = rest.latch; is = rest.is; shown = rest.shown }

-- what is told of a clear flag of the group
pub told_of : (ls : List Latch) (seen : List Bool) (group : ℕ) (names : List ℕ) (name : ℕ) → are_set ls ≡ seen → IsNamedIn group ls names name → IsOfClear seen names name
told_of ls seen group names name shown of = record {
  at = of.at;
  clear = sym (ap (λ bs. slice_get bs of.at) shown) ∙ slice_get-map (λ (l : Latch). l.is_set) ls of.at ∙ ap (option_map (λ (l : Latch). l.is_set)) of.is ∙ ap (λ b. Some b) of.clear;
  named = of.named;
}

-- as many are clear as are seen so
pub clear_counted : (ls : List Latch) (seen : List Bool) → are_set ls ≡ seen → count_by is_clear ls ≡ count_by not seen
clear_counted ls seen shown = counted ls ∙ ap (count_by not) shown
  where
    counted : (ms : List Latch) → count_by is_clear ms ≡ count_by not (are_set ms)
    counted [] = refl
    counted (m ∷ ms) =
        sum_by-cons (λ (l : Latch). cond (is_clear l) 1 0) m ms
        ∙ ap (λ n. cond (is_clear m) 1 0 + n) (counted ms)
        ∙ sym (sum_by-cons (λ (b : Bool). cond (not b) 1 0) m.is_set (are_set ms))
