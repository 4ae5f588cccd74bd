use Rattle.std.proofs.Common.{◌≡◌, ◌-◌, ◌<◌, [], ◌∷◌}
use Rattle.bus_semantics.specs.Run.{a_run}
use Rattle.script_run.specs.declared.script.ScriptRun.TheVariants.{Finished}
use Rattle.script_run.specs.Standing.{Carries, inside, outside}
use Rattle.script_run.proofs.laps.put_run.Given as goal

-- the run line has begun, and the entries so far, too few to end it, are put
abbrev pub invariant-laps : goal.invariant-laps
invariant-laps g l = let told = g.K.Sink.told in let faults = g.K.Sink.faults in record {
  few : l.made < 100000;
  plan : l.n.plan ≡ l.fn.n.plan;
  mapping : l.n.mapping ≡ l.fn.n.mapping;
  carries : Carries l.w Finished (a_run ∷ []) outside (inside l.made) l.fn.n l.n (told l.fn.out) (told l.out);
  faults : faults l.out ≡ faults l.fn.out;
}

abbrev pub decreases-laps : goal.decreases-laps
decreases-laps g l = 100000 - l.made
