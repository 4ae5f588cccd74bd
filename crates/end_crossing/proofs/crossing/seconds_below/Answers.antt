use Rattle.end_crossing.proofs.crossing.seconds_below.Goals as goal

pub returns-clause-found : goal.returns-clause-found
returns-clause-found c = record {
  sound = c.in_ok-found.ensures.found.sound;
  whole = λ all x a r h. c.in_ok-found.ensures.found.whole all x a (c.in_ok-seconds_of.ensures (r, x.interface) h);
}
