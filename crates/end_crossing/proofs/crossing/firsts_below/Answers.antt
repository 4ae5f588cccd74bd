use Rattle.end_crossing.proofs.crossing.firsts_below.Goals as goal

pub returns-clause-found : goal.returns-clause-found
returns-clause-found c = record {
  sound = c.in_ok-found.ensures.found.sound;
  whole = λ all x a r h. c.in_ok-found.ensures.found.whole all x a (c.in_ok-firsts_of.ensures (x.interface, r) h);
}
