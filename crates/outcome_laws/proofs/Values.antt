-- Values that hold others: a list of fewer than 2^63 items is that of a `Vec`, each value that of a `Box` and that of an `Arc`, and a list
-- of at most 16 words that of a `Value`. Where they lie in memory tells nothing to any clause.
use Rattle.std.proofs.Common.{◌≡◌, ℤ, pos, ◌-◌, ◌<◌, ◌≤◌, ◌^◌, List, [], ◌∷◌, ◌++◌, length, replicate, take, refl, sym, ap, arith}
use Rattle.bus_semantics.specs.Common.{arc_value, Global, Value, padded, words_of}
use Rattle.std.specs.Global.{Box, Vec}
use Rattle.std.specs.declared.sync.Arc.{Arc}
use denote.RawPtr.{null_ptr}

abbrev pub IsFew : {X : Type 0} → List X → Type 0
IsFew xs = length xs < 2 ^ 63

heap : Global
heap = record { memory = record { seal = tt } }

pub vec_of : {X : Type 0} (xs : List X) → IsFew xs → (v : Vec X) × (v.items ≡ xs)
vec_of xs few = (record { ptr = null_ptr; len = length xs; cap = length xs; alloc = heap; items = xs; ok = (refl, omega arith); small = few }, refl)

pub box_of : {X : Type 0} (x : X) → (b : Box X) × (b.value ≡ x)
box_of x = (record { ptr = null_ptr; alloc = heap; value = x }, refl)

pub arc_of : {X : Type 0} (x : X) → (a : Arc X Global) × (arc_value a ≡ x)
arc_of x = (record { ptr = null_ptr; value = x }, refl)

taken : (ws vs : List ℤ) → take (length ws) (ws ++ vs) ≡ ws
taken [] [] = refl
taken [] (v ∷ vs) = refl
taken (w ∷ ws) vs = ap (λ us. w ∷ us) (taken ws vs)

pub value_for : (ws : List ℤ) → length ws ≤ 16 → (v : Value) × (words_of v ≡ ws)
value_for ws short =
    let whole = taken ws (replicate (16 - length ws) (pos 0)) in
    (record { words = padded ws; len = length ws; short = short; padded = ap padded (sym whole) }, whole)
