-- Equal crossings are the same.
use Rattle.std.proofs.Common.{◌≡◌, true, Bool, ◌&&◌, refl, sym, true≢false, eqb}
use Rattle.std.proofs.lemmas.Bool.{eqb-true, eq-eqb, and_parts, and_from}
use Rattle.end_crossing.specs.contracts.crossings.CrossingPartialEq.TheImpl.{eq-value}
use Rattle.composition_tables.specs.contracts.tree.PortEndPartialEq.TheImpl as port_end
use Rattle.end_crossing.specs.declared.crossings.Crossing.{Crossing}
use Rattle.end_crossing.specs.declared.crossings.Crossing.TheVariants.{Gates, Row, Column}
use Rattle.composition_tables.specs.declared.tree.PortEnd.{PortEnd}
use Rattle.end_search.specs.Near.{same_gate}
use Rattle.end_search.proofs.SameEnds.{same_end, itself_end}
use Rattle.end_search.proofs.SameGates.{gate_is, itself_gate}

abbrev same_port : PortEnd → PortEnd → Bool
same_port a b = (port_end.eq-value).it a b

pub crossing_is : (x y : Crossing) → (eq-value).it x y ≡ true → x ≡ y
crossing_is (Gates a b) (Gates a2 b2) h =
    let p = and_parts (same_gate a a2) (same_gate b b2) h in
    let x = gate_is a a2 p.0 in
    let y = gate_is b b2 p.1 in
    (λ i. Gates (x i) (y i))
crossing_is (Gates a b) (Row a2 b2 c2) h = absurd (true≢false (sym h))
crossing_is (Gates a b) (Column a2 b2 c2) h = absurd (true≢false (sym h))
crossing_is (Row a b c) (Gates a2 b2) h = absurd (true≢false (sym h))
crossing_is (Row a b c) (Row a2 b2 c2) h =
    let p = and_parts (same_port a a2) (same_gate b b2 && eqb c c2) h in
    let q = and_parts (same_gate b b2) (eqb c c2) p.1 in
    let x = same_end a a2 p.0 in
    let y = gate_is b b2 q.0 in
    let z = eqb-true c c2 q.1 in
    (λ i. Row (x i) (y i) (z i))
crossing_is (Row a b c) (Column a2 b2 c2) h = absurd (true≢false (sym h))
crossing_is (Column a b c) (Gates a2 b2) h = absurd (true≢false (sym h))
crossing_is (Column a b c) (Row a2 b2 c2) h = absurd (true≢false (sym h))
crossing_is (Column a b c) (Column a2 b2 c2) h =
    let p = and_parts (same_gate a a2) (eqb b b2 && same_port c c2) h in
    let q = and_parts (eqb b b2) (same_port c c2) p.1 in
    let x = gate_is a a2 p.0 in
    let y = eqb-true b b2 q.0 in
    let z = same_end c c2 q.1 in
    (λ i. Column (x i) (y i) (z i))

pub itself_crossing : (x : Crossing) → (eq-value).it x x ≡ true
itself_crossing (Gates a b) = and_from (same_gate a a) (same_gate b b) (itself_gate a) (itself_gate b)
itself_crossing (Row a b c) = and_from (same_port a a) (same_gate b b && eqb c c) (itself_end a) (and_from (same_gate b b) (eqb c c) (itself_gate b) (eq-eqb c c refl))
itself_crossing (Column a b c) = and_from (same_gate a a) (eqb b b && same_port c c) (itself_gate a) (and_from (eqb b b) (same_port c c) (eq-eqb b b refl) (itself_end c))
