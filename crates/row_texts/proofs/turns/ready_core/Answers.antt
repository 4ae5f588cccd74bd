use Rattle.std.proofs.Common.{◌≡◌, sym, ◌∙◌, ap, subst, map, Some}
use Rattle.bus_semantics.specs.Common.{slice_get, plan_of}
use Rattle.task_slots.specs.Slots.{table_of}
use Rattle.core_turn.specs.Cores.{tables_of_core}
use Rattle.row_texts.proofs.turns.ready_core.Goals as goal

pub returns-in-Ok-clause-ready : goal.returns-in-Ok-clause-ready
returns-in-Ok-clause-ready c =
    let ready = c.in_ok-core.ensures.ready c.requires.sound in
    let slots = c.in-Ok.ensures.slots in
    let number = c.in-Ok.ensures.number in
    record {
      sound = ready.sound;
      has = ap (map table_of) slots ∙ ready.has ∙ ap (tables_of_core (plan_of c.args.p.now) c.args.m.now) (sym number);
      each = λ i s found. ready.each i s (subst (λ xs. slice_get xs i ≡ Some s) slots found);
    }
