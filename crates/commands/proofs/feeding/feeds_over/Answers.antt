use Rattle.commands.proofs.Numbered.{numbered, sound}
use Rattle.commands.proofs.feeding.feeds_over.Goals as goal

pub read_feeds-requires : goal.read_feeds-requires
read_feeds-requires c = record {
  sound = sound c.requires.planned.0 c.args.found.now c.requires.planned.1;
  few = numbered c.requires.planned.0 c.args.found.now c.requires.planned.1;
}

pub returns-in-BadLine-clause-stopped : goal.returns-in-BadLine-clause-stopped
returns-in-BadLine-clause-stopped c = λ description planned. record {
  found = c.args.found.now;
  described = planned;
  few_cores = c.requires.cores;
  bad = c.in-BadLine.ensures.bad_line;
}
