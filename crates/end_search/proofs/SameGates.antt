-- Equal gates are the same.
use Rattle.std.proofs.Common.{◌≡◌, true, ℕ, ◌&&◌, refl, sym, true≢false, eqb}
use Rattle.std.proofs.lemmas.Bool.{eqb-true, eq-eqb, and_parts, and_from}
use Rattle.end_search.specs.declared.gates.Gate.{Gate}
use Rattle.end_search.specs.declared.gates.Gate.TheVariants.{Outer, Component, Composition}
use Rattle.end_search.specs.Near.{same_gate}

pub three : (a b c a2 b2 c2 : ℕ) → (eqb a a2 && (eqb b b2 && eqb c c2)) ≡ true → (a ≡ a2) × (b ≡ b2) × (c ≡ c2)
three a b c a2 b2 c2 h =
    let p = and_parts (eqb a a2) (eqb b b2 && eqb c c2) h in
    let q = and_parts (eqb b b2) (eqb c c2) p.1 in
    (eqb-true a a2 p.0, eqb-true b b2 q.0, eqb-true c c2 q.1)

pub three_from : (a b c : ℕ) → (eqb a a && (eqb b b && eqb c c)) ≡ true
three_from a b c = and_from (eqb a a) (eqb b b && eqb c c) (eq-eqb a a refl) (and_from (eqb b b) (eqb c c) (eq-eqb b b refl) (eq-eqb c c refl))

pub gate_is : (x y : Gate) → same_gate x y ≡ true → x ≡ y
gate_is (Outer a b) (Outer a2 b2) h =
    let p = and_parts (eqb a a2) (eqb b b2) h in
    let x = eqb-true a a2 p.0 in
    let y = eqb-true b b2 p.1 in
    cc
gate_is (Outer a b) (Component a2 b2 c2) h = absurd (true≢false (sym h))
gate_is (Outer a b) (Composition n2 a2 b2 c2) h = absurd (true≢false (sym h))
gate_is (Component a b c) (Outer a2 b2) h = absurd (true≢false (sym h))
gate_is (Component a b c) (Component a2 b2 c2) h = let all = three a b c a2 b2 c2 h in cc
gate_is (Component a b c) (Composition n2 a2 b2 c2) h = absurd (true≢false (sym h))
gate_is (Composition n a b c) (Outer a2 b2) h = absurd (true≢false (sym h))
gate_is (Composition n a b c) (Component a2 b2 c2) h = absurd (true≢false (sym h))
gate_is (Composition n a b c) (Composition n2 a2 b2 c2) h =
    let p = and_parts (eqb n n2) (eqb a a2 && (eqb b b2 && eqb c c2)) h in
    let first : n ≡ n2 = eqb-true n n2 p.0 in
    let rest = three a b c a2 b2 c2 p.1 in
    cc

pub itself_gate : (x : Gate) → same_gate x x ≡ true
itself_gate (Outer a b) = and_from (eqb a a) (eqb b b) (eq-eqb a a refl) (eq-eqb b b refl)
itself_gate (Component a b c) = three_from a b c
itself_gate (Composition n a b c) = and_from (eqb n n) (eqb a a && (eqb b b && eqb c c)) (eq-eqb n n refl) (three_from a b c)
