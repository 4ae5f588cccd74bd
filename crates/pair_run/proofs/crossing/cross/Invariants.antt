use Rattle.std.proofs.Common.{◌≡◌, [], take}
use Rattle.pair_run.specs.Common.{Finished, Crosses, CarryBoth}
use Rattle.pair_run.proofs.crossing.cross.Given as goal

-- the links so far are drained
abbrev pub invariant-loop-number : goal.invariant-loop-number
invariant-loop-number g l = let told = g.K.Sink.told in let faults = g.K.Sink.faults in let way = g.L.Link.way in record {
  plan_one : l.one.plan ≡ l.initial.one.plan;
  plan_two : l.two.plan ≡ l.initial.two.plan;
  empty : way l.way ≡ [];
  kept : l.unframer ≡ l.initial.unframer;
  never : g.L.Link.never_fails l.way ≡ g.L.Link.never_fails l.initial.way;
  carries : CarryBoth (Crosses (take l.number l.initial.unframer.links)) Finished l.initial.one l.one l.initial.two l.two (told l.initial.out) (told l.out);
  sink : faults l.out ≡ faults l.initial.out;
  link : g.L.Link.faults l.way ≡ g.L.Link.faults l.initial.way;
}
