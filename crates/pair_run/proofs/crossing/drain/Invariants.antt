use Rattle.std.proofs.Common.{◌≡◌, [], Some}
use Rattle.std.specs.List.{slice_get}
use Rattle.signal_link.specs.declared.link_elem.LinkElem.{LinkElem}
use Rattle.pair_run.specs.Common.{Finished, Passed, CarryBoth}
use Rattle.pair_run.proofs.crossing.drain.Given as goal

-- as many values passed as were received
abbrev pub invariant-loop-i : goal.invariant-loop-i
invariant-loop-i g l = let told = g.K.Sink.told in let faults = g.K.Sink.faults in let way = g.L.Link.way in record {
  plan_one : l.one.plan ≡ l.initial.one.plan;
  plan_two : l.two.plan ≡ l.initial.two.plan;
  empty : way l.way ≡ [];
  kept : l.unframer ≡ l.initial.unframer;
  never : g.L.Link.never_fails l.way ≡ g.L.Link.never_fails l.initial.way;
  carries : (k : LinkElem) → slice_get l.initial.unframer.links l.number ≡ Some k → CarryBoth (Passed k l.i) Finished l.initial.one l.one l.initial.two l.two (told l.initial.out) (told l.out);
  sink : faults l.out ≡ faults l.initial.out;
  link : g.L.Link.faults l.way ≡ g.L.Link.faults l.initial.way;
}
