use Rattle.std.proofs.Common.{◌≤◌, ◌+◌, ◌==◌, ◌&&◌, sym, ◌∙◌, subst, arith, []}
use Rattle.std.specs.Prelude.{nat_le}
use Rattle.bus_semantics.specs.Common.{and_parts, leb-true, plan_of, clock, things}
use Rattle.port_objects.specs.Common.{of_bundle, IsOfKind, Keeps}
use Rattle.port_objects.proofs.making.make_bundle.Goals as goal

pub new-requires-clause-few : goal.new-requires-clause-few
new-requires-clause-few c =
    let p = plan_of c.args.p.now in
    let counted = and_parts (p.objects == clock p + 1) (nat_le p.objects 16384 && nat_le (things p) 16384) c.requires.sound.counted in
    let few : things p ≤ 16384 = leb-true (things p) 16384 (and_parts (nat_le p.objects 16384) (nat_le (things p) 16384) counted.1).1 in
    omega (arith, few)

pub new-requires-clause-bundle : goal.new-requires-clause-bundle
new-requires-clause-bundle c =
    let p = plan_of c.args.p.now in
    subst (λ t. IsOfKind p c.args.bundle t) (sym c.requires.listed ∙ c.if-listed.true) (c.requires.sound.kinds c.args.bundle c.requires.within)

pub make_group-requires-clause-one : goal.make_group-requires-clause-one
make_group-requires-clause-one c =
    let p = plan_of c.args.p.now in
    subst (λ t. IsOfKind p c.args.bundle t) (sym c.requires.listed ∙ c.if-listed.false) (c.requires.sound.kinds c.args.bundle c.requires.within)

pub returns-in_ok-new-clause-standing : goal.returns-in_ok-new-clause-standing
returns-in_ok-new-clause-standing c =
    let p = plan_of c.args.p.now in
    record {
      past = tt;
      keeps = subst (λ k. Keeps p c.args.bundle (of_bundle k) []) (sym c.in_ok-new.ensures.kept) (c.first_bundle_stands_for_nothing.ensures p c.args.bundle c.in_ok-new.ensures.planned.is_bundle);
    }
