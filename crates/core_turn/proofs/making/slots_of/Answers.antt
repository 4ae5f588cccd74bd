use Rattle.std.proofs.Common.{◌≡◌, ◌++◌, map, length, ◌∙◌, ap, sym, subst, arith}
use Rattle.bus_semantics.specs.Plan.{plan_of, positions}
use Rattle.task_slots.specs.declared.slot.Slot.TheVariants as of
use Rattle.task_slots.specs.Slots.{of_machine}
use Rattle.core_turn.specs.Cores.{task_tables, tables_of_core}
use Rattle.core_turn.specs.Made.{AreNew}
use Rattle.core_turn.proofs.Made.{all_on, machines_new, with_machines, without_machines}
use Rattle.core_turn.proofs.making.slots_of.Goals as goal
use Rattle.core_turn.proofs.making.slots_of.Goals.{then-number-eq0+in_ok-add_machines, else-number-eq0}

pub returns-clause-new : goal.returns-clause-new
returns-clause-new c =
    let t = c.args.t.now in
    let tasks = task_tables c.args.m.now c.args.number in
    elim c.if-number-eq0.branch [
      | then-number-eq0+in_ok-add_machines w ↦ (
        tasks ++ map of_machine (positions w.min.result),
        subst (λ (v : _). AreNew t (tasks ++ map of_machine (positions w.min.result)) v.items) (sym w.slots-is)
            (subst (AreNew t (tasks ++ map of_machine (positions w.min.result))) (sym w.in_ok-add_machines.ensures)
            (all_on t tasks (map of_machine (positions w.min.result)) c.in_ok-slots.slots.items (map of.Machine (positions w.min.result)) c.in_ok-slots.ensures (machines_new t (positions w.min.result)))),
      )
      | else-number-eq0 w ↦ (tasks, subst (λ (v : _). AreNew t tasks v.items) (sym w.slots-is) c.in_ok-slots.ensures)
    ]

pub returns-clause-listed : goal.returns-clause-listed
returns-clause-listed c = λ few.
    let p = plan_of c.args.p.now in
    elim c.if-number-eq0.branch [
      | then-number-eq0+in_ok-add_machines w ↦
          let count : w.min.result ≡ length c.args.p.now.machines = omega (arith, w.min.ensures, w.len.ensures) in
          subst (λ (v : _). AreNew c.args.t.now (tables_of_core p c.args.m.now c.args.number) v.items) (sym w.slots-is)
          (with_machines p c.args.m.now c.args.t.now c.args.number c.in_ok-slots.slots.items _ w.if-number-eq0.true c.in_ok-slots.ensures
          (w.in_ok-add_machines.ensures ∙ ap (λ n. c.in_ok-slots.slots.items ++ map of.Machine (positions n)) count))
      | else-number-eq0 w ↦
          subst (λ (v : _). AreNew c.args.t.now (tables_of_core p c.args.m.now c.args.number) v.items) (sym w.slots-is)
          (without_machines p c.args.m.now c.args.t.now c.args.number c.in_ok-slots.slots.items w.if-number-eq0.false c.in_ok-slots.ensures)
    ]
