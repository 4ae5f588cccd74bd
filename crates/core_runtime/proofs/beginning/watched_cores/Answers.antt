use Rattle.std.proofs.Common.{◌≡◌, ◌≤◌, length, arith, sym, subst, Some, None}
use Rattle.std.specs.Prelude.{nat_le}
use Rattle.bus_semantics.specs.Common.{and_parts, leb-true, slice_get, event_sound, plan_of, every_from}
use Rattle.core_runtime.specs.Common.{AreReady, IsWatch}
use Rattle.core_runtime.proofs.beginning.watched_cores.Goals as goal

pub upkeep_of-requires-clause-ready : goal.upkeep_of-requires-clause-ready
upkeep_of-requires-clause-ready c = (
  c.args.m.now,
  c.args.t.now,
  subst (AreReady (plan_of c.args.p.now) c.args.m.now c.args.t.now) (sym c.as_slice.ensures.value) (λ i k found. (c.in_ok-cores.ensures.cores i k found).is_ready c.requires),
)

pub upkeep_of-requires-clause-numbers : goal.upkeep_of-requires-clause-numbers
upkeep_of-requires-clause-numbers c = λ i k found. (c.in_ok-cores.ensures.cores i k (subst (λ cs. slice_get cs i ≡ Some k) c.as_slice.ensures.value found)).is_number

pub upkeep_of-requires-clause-events : goal.upkeep_of-requires-clause-events
upkeep_of-requires-clause-events c =
    let p = plan_of c.args.p.now in
    let few : length p.events ≤ 16384 = leb-true (length p.events) 16384 (and_parts (every_from 0 (event_sound p) p.events) (nat_le (length p.events) 16384) c.requires.events).1 in
    omega arith

pub returns-clause-watched : goal.returns-clause-watched
returns-clause-watched c = λ objects. subst (λ cs. IsWatch (plan_of c.args.p.now) c.args.t.now objects None cs c.in_ok-kept.kept.watch) c.as_slice.ensures.value (c.in_ok-kept.ensures c.args.t.now objects)
