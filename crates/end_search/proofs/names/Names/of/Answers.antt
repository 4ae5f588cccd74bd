use Rattle.std.proofs.Common.{◌≡◌, ◌<◌, length, ap, arith}
use Rattle.end_search.proofs.Lookups.{name_more, names_all}
use Rattle.end_search.proofs.names.Names.of.Goals as goal

pub loop-position-preserved : goal.loop-position-preserved
loop-position-preserved c =
    let within : c.loop-position.position < length c.args.names.items = omega (arith, c.len-count.ensures) in
    λ q j. name_more c.args.names.items c.loop-position.position c.index.result.now q j _ _ within (ap (λ x. x.now) c.index.ensures) (c.in_ok-add_under.ensures q j) (c.loop-position.invariant q j)

pub invariant_of-result : goal.invariant_of-result
invariant_of-result c =
    let long : c.len-count.result ≡ length c.args.names.items = omega (arith, c.len-count.ensures) in
    names_all c.args.names.items c.loop-position.places c.len-count.result c.loop-position.position long c.loop-position-test.false c.loop-position.invariant
