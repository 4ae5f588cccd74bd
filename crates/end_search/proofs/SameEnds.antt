-- Equal ends are the same.
use Rattle.std.proofs.Common.{◌≡◌, true, ap, ◌&&◌, refl, sym, true≢false, eqb}
use Rattle.std.proofs.lemmas.Bool.{eqb-true, eq-eqb, and_parts, and_from}
use Rattle.composition_tables.specs.declared.tree.Owner.{Owner}
use Rattle.composition_tables.specs.declared.tree.Owner.TheVariants.{Instance, Environment}
use Rattle.composition_tables.specs.declared.tree.PortEnd.{PortEnd}
use Rattle.composition_tables.specs.contracts.tree.OwnerPartialEq.TheImpl as owner
use Rattle.composition_tables.specs.contracts.tree.PortEndPartialEq.TheImpl as port_end

same_owner : (x y : Owner) → (owner.eq-value).it x y ≡ true → x ≡ y
same_owner (Instance a) (Instance b) h = ap (λ n. Instance n) (eqb-true a b h)
same_owner (Instance a) Environment h = absurd (true≢false (sym h))
same_owner Environment (Instance b) h = absurd (true≢false (sym h))
same_owner Environment Environment h = refl

itself_owner : (x : Owner) → (owner.eq-value).it x x ≡ true
itself_owner (Instance a) = eq-eqb a a refl
itself_owner Environment = refl

pub same_end : (x y : PortEnd) → (port_end.eq-value).it x y ≡ true → x ≡ y
same_end x y h =
    let p = and_parts ((owner.eq-value).it x.owner y.owner) (eqb x.port y.port && eqb x.interface y.interface) h in
    let q = and_parts (eqb x.port y.port) (eqb x.interface y.interface) p.1 in
    let a = same_owner x.owner y.owner p.0 in
    let b = eqb-true x.port y.port q.0 in
    let c = eqb-true x.interface y.interface q.1 in
    (λ i. record { owner = a i; port = b i; interface = c i })

pub itself_end : (x : PortEnd) → (port_end.eq-value).it x x ≡ true
itself_end x = and_from ((owner.eq-value).it x.owner x.owner) (eqb x.port x.port && eqb x.interface x.interface) (itself_owner x.owner)
    (and_from (eqb x.port x.port) (eqb x.interface x.interface) (eq-eqb x.port x.port refl) (eq-eqb x.interface x.interface refl))

pub same_pair : (x y : PortEnd × PortEnd) → ((port_end.eq-value).it x.0 y.0 && (port_end.eq-value).it x.1 y.1) ≡ true → x ≡ y
same_pair x y h =
    let p = and_parts ((port_end.eq-value).it x.0 y.0) ((port_end.eq-value).it x.1 y.1) h in
    let a = same_end x.0 y.0 p.0 in
    let b = same_end x.1 y.1 p.1 in
    (λ i. (a i, b i))

pub itself_pair : (x : PortEnd × PortEnd) → ((port_end.eq-value).it x.0 x.0 && (port_end.eq-value).it x.1 x.1) ≡ true
itself_pair x = and_from ((port_end.eq-value).it x.0 x.0) ((port_end.eq-value).it x.1 x.1) (itself_end x.0) (itself_end x.1)
