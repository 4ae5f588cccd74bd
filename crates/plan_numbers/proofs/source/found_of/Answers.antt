use Rattle.plan_numbers.proofs.Few.{short_lists}
use Rattle.plan_numbers.proofs.source.found_of.Goals as goal

pub all_numbers-requires-clause-short : goal.all_numbers-requires-clause-short
all_numbers-requires-clause-short c = short_lists c.args.d.now c.args.f.now c.args.lists.now c.requires.listed c.requires.few
