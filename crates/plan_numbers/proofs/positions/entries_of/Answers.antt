use Rattle.std.proofs.Common.{◌∙◌}
use Rattle.std.proofs.lemmas.List.{take_all}
use Rattle.std.specs.Map.{lookup}
use Rattle.plan_numbers.proofs.Numbering.{numbers_all, numbers_more, keys_more}
use Rattle.plan_numbers.proofs.positions.entries_of.Goals as goal

pub loop-number-preserved : goal.loop-number-preserved
loop-number-preserved g c = record {
  keys = keys_more c.args.keys.now c.loop-number.number c.index-keys-number.result c.loop-number.list.items c.push_entry.new.list.items c.loop-number-test.true c.index-keys-number.is
      c.in_ok-push_entry.ensures c.loop-number.invariant.keys;
  numbers = λ q. numbers_more (g.K.PartialEq.eq q) c.args.keys.now c.loop-number.number c.index-keys-number.result c.loop-number.list.items c.push_entry.new.list.items c.loop-number-test.true c.index-keys-number.is
      c.in_ok-push_entry.ensures (c.loop-number.invariant.numbers q);
}

pub returns-clause-keys : goal.returns-clause-keys
returns-clause-keys g c = c.loop-number.invariant.keys ∙ take_all c.loop-number.number c.args.keys.now c.loop-number-test.false

pub returns-clause-numbers : goal.returns-clause-numbers
returns-clause-numbers g c = λ q. numbers_all (g.K.PartialEq.eq q) c.args.keys.now c.loop-number.number (lookup (g.K.PartialEq.eq q) c.loop-number.list.items) c.loop-number-test.false (c.loop-number.invariant.numbers q)
