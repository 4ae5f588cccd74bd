-- Pairs of numbers, as they are noted.
use Rattle.std.proofs.Common.{◌≡◌, ℕ, List, true, nat_eq, ◌&&◌, ◌⊎◌, inr, ◌↔◌, refl}
use Rattle.std.proofs.lemmas.Bool.{eqb-true, and_parts, and_from}
use Rattle.indexmap.specs.IndexSet.{insert_key}
use Rattle.description_types.specs.Members.{Among}
use Rattle.composition_tables.proofs.Members.{key_iff, itself_number}

-- a port is noted
same_two : (x y : ℕ × ℕ) → (nat_eq x.0 y.0 && nat_eq x.1 y.1) ≡ true → x ≡ y
same_two x y h =
    let p = and_parts (nat_eq x.0 y.0) (nat_eq x.1 y.1) h in
    let a = eqb-true x.0 y.0 p.0 in
    let b = eqb-true x.1 y.1 p.1 in
    (λ i. (a i, b i))

itself_two : (x : ℕ × ℕ) → (nat_eq x.0 x.0 && nat_eq x.1 x.1) ≡ true
itself_two x = and_from (nat_eq x.0 x.0) (nat_eq x.1 x.1) (itself_number x.0) (itself_number x.1)

pub seen_more : (ks : List (ℕ × ℕ)) (k : ℕ × ℕ) (after : List (ℕ × ℕ)) → after ≡ insert_key (λ (x y : ℕ × ℕ). nat_eq x.0 y.0 && nat_eq x.1 y.1) ks k → (y : ℕ × ℕ) → Among y after ↔ (Among y ks ⊎ (y ≡ k))
seen_more ks k after is = key_iff (λ (x y : ℕ × ℕ). nat_eq x.0 y.0 && nat_eq x.1 y.1) same_two itself_two ks k after is

pub seen_now : (ks : List (ℕ × ℕ)) (k : ℕ × ℕ) (after : List (ℕ × ℕ)) → after ≡ insert_key (λ (x y : ℕ × ℕ). nat_eq x.0 y.0 && nat_eq x.1 y.1) ks k → Among k after
seen_now ks k after is = (seen_more ks k after is k).1 (inr refl)
