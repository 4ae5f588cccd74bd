use Rattle.std.proofs.Common.{refl, subst, None}
use Rattle.bus_semantics.specs.Common.{plan_of, gathered}
use Rattle.task_slots.specs.Common.{Nothing, Looked}
use Rattle.task_slots.specs.Slots.{slot_tries}
use Rattle.task_slots.proofs.Onward.{looked_uncounted}
use Rattle.core_turn.specs.Awake.{HeldTold, looks_at_place}
use Rattle.core_turn.proofs.Counting.{none_counted, same_before}
use Rattle.core_turn.specs.Cores.{slots_between}
use Rattle.core_turn.proofs.Passing.{none_passed}
use Rattle.core_turn.proofs.awake_looks.look_through.Goals as goal

pub returns-then-from-to-clause-pass : goal.returns-then-from-to-clause-pass
returns-then-from-to-clause-pass g c =
    let p = plan_of c.args.p.now in
    let t = c.args.t.now in
    let xs = c.args.slots.now.items in
    let a = g.B.Bench.told c.args.bench.now in
    record {
      same = refl;
      none = refl;
      looked = subst (λ n. Looked p (gathered (slot_tries p t) (slots_between c.args.from n xs)) 0 a a Nothing) c.if-from-to.true (looked_uncounted p _ _ a a Nothing (none_passed p t xs c.args.from a));
    }

pub returns-then-from-to-clause-held : goal.returns-then-from-to-clause-held
returns-then-from-to-clause-held g c =
    subst (λ n. HeldTold (plan_of c.args.p.now) c.args.t.now (g.B.Bench.told c.args.bench.now).objects None c.args.slots.now.items n c.args.a.now) c.if-from-to.true c.requires.held

pub returns-then-from-to-clause-counted : goal.returns-then-from-to-clause-counted
returns-then-from-to-clause-counted g c =
    none_counted (looks_at_place (plan_of c.args.p.now) c.args.slots.now.items c.args.a.now) c.args.from c.args.to (g.B.Bench.told c.args.bench.now).work c.if-from-to.true

pub returns-then-from-to-clause-before : goal.returns-then-from-to-clause-before
returns-then-from-to-clause-before g c = same_before c.args.from c.args.a.now
