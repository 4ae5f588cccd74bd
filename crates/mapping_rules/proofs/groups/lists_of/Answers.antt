use Rattle.mapping_rules.proofs.Grouping.{values_more, values_all}
use Rattle.mapping_rules.proofs.groups.lists_of.Goals as goal

pub loop-entry-preserved : goal.loop-entry-preserved
loop-entry-preserved c = λ s q. values_more (c.K.PartialEq.eq q) s.args.entries.now _ _ s.loop-entry.entry-index s.entry-item.result s.loop-entry-test.true s.entry-item.is (s.in_ok-add_under.ensures q) (s.loop-entry.invariant q)

pub returns : goal.returns
returns c = λ s q. values_all (c.K.PartialEq.eq q) s.args.entries.now _ s.loop-entry.entry-index s.loop-entry-test.false (s.loop-entry.invariant q)
