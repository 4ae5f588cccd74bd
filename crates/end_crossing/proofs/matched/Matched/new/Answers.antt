use Rattle.std.proofs.Common.{rules}
use Rattle.end_search.specs.declared.seek.Wanted.TheVariants.{Anything}
use Rattle.end_crossing.proofs.matched.Matched.new.Goals as goal

pub returns : goal.returns
returns c = record {
  listed = c.in_ok-interfaces.ensures;
  kept = search rules;
  sides = search rules;
  near = c.nothing_near.ensures c.args.d.now Anything;
}
