-- Equal keys are the same.
use Rattle.std.proofs.Common.{◌≡◌, true, ◌&&◌, refl, sym, true≢false, eqb}
use Rattle.std.proofs.lemmas.Bool.{eqb-true, eq-eqb, and_parts, and_from}
use Rattle.description_types.specs.declared.description.Connector.{Connector}
use Rattle.description_types.specs.declared.description.Connector.TheVariants as connector
use Rattle.composition_flatten.specs.declared.wiring.Key.{Key}
use Rattle.composition_flatten.specs.declared.wiring.Key.TheVariants.{Assembly, Delegation}
use Rattle.composition_flatten.specs.contracts.wiring.KeyPartialEq.TheImpl.{eq-value}
use Rattle.composition_flatten.specs.Keys.{key_of}
use Rattle.end_search.proofs.SameGates.{three, three_from}

pub same_key : (x y : Key) → (eq-value).it x y ≡ true → x ≡ y
same_key (Assembly a b c e) (Assembly a2 b2 c2 e2) h =
    let p = and_parts (eqb a a2) (eqb b b2 && (eqb c c2 && eqb e e2)) h in
    let first : a ≡ a2 = eqb-true a a2 p.0 in
    let rest = three b c e b2 c2 e2 p.1 in
    cc
same_key (Assembly a b c e) (Delegation a2 b2 c2) h = absurd (true≢false (sym h))
same_key (Delegation a b c) (Assembly a2 b2 c2 e2) h = absurd (true≢false (sym h))
same_key (Delegation a b c) (Delegation a2 b2 c2) h = let all = three a b c a2 b2 c2 h in cc

pub itself_key : (x : Key) → (eq-value).it x x ≡ true
itself_key (Assembly a b c e) = and_from (eqb a a) (eqb b b && (eqb c c && eqb e e)) (eq-eqb a a refl) (three_from b c e)
itself_key (Delegation a b c) = three_from a b c

-- connectors with one key are the same
pub same_connector : (x y : Connector) → key_of x ≡ key_of y → x ≡ y
same_connector (connector.Assembly p r) (connector.Assembly p2 r2) h =
    let a : p.prototype ≡ p2.prototype = cc in
    let b : p.port ≡ p2.port = cc in
    let c : r.prototype ≡ r2.prototype = cc in
    let e : r.port ≡ r2.port = cc in
    (λ i. connector.Assembly (record { prototype = a i; port = b i }) (record { prototype = c i; port = e i }))
same_connector (connector.Assembly p r) (connector.Delegation p2 o2) h = cc
same_connector (connector.Delegation p o) (connector.Assembly p2 r2) h = cc
same_connector (connector.Delegation p o) (connector.Delegation p2 o2) h =
    let a : p.prototype ≡ p2.prototype = cc in
    let b : p.port ≡ p2.port = cc in
    let c : o ≡ o2 = cc in
    (λ i. connector.Delegation (record { prototype = a i; port = b i }) (c i))
