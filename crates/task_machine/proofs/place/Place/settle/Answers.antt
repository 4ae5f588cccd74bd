use Rattle.std.proofs.Common.{sym, ap, ◌∙◌, ◌-◌}
use Rattle.std.specs.Option.{option_copied}
use Rattle.task_machine.specs.declared.instr.Code.{Code}
use Rattle.task_machine.specs.Instructions.{instruction_of}
use Rattle.task_machine.specs.Machine.{settled}
use Rattle.task_machine.specs.Spots.{code_in, store_of}
use Rattle.task_machine.proofs.Settling.{found_in, found_there, none_there, settles, stays, ends}
use Rattle.task_machine.proofs.place.Place.settle.Goals as goal

pub loop-self-preserved : goal.loop-self-preserved
loop-self-preserved c =
    let body = c.args.body.now in
    let old = c.loop-self.self in
    let new = c.step.new.self in
    let program = c.items-program.ensures ∙ ap (λ (x : Code). x.instrs) c.deref.ensures in
    let found = found_in body c.items-around.result.now c.items-program.result.now old.place (option_copied c.instr_at.result) c.items-around.ensures program c.instr_at.ensures.instr in
    record {
      settled =
          ap (λ n. settled (code_in body) (n - 1) new.place (store_of new.store) new.counters.items) c.step.ensures.budget
          ∙ settles (code_in body) old.left old.place new.place (store_of old.store) (store_of new.store) old.counters.items new.counters.items (instruction_of c.in-Some.instr.now body.targets)
          c.loop-self-test.true (found_there body.targets _ c.in-Some.instr.now _ found (ap option_copied c.in-Some.is)) c.if-not-step.ensures.stepped
          ∙ c.loop-self.invariant.settled;
      room = c.step.ensures.room ∙ c.loop-self.invariant.room;
      counters_room = c.step.ensures.counters_room ∙ c.loop-self.invariant.counters_room;
    }

pub returns-then-not-step-clause-settled : goal.returns-then-not-step-clause-settled
returns-then-not-step-clause-settled c =
    let body = c.args.body.now in
    let old = c.loop-self.self in
    let program = c.items-program.ensures ∙ ap (λ (x : Code). x.instrs) c.deref.ensures in
    let found = found_in body c.items-around.result.now c.items-program.result.now old.place (option_copied c.instr_at.result) c.items-around.ensures program c.instr_at.ensures.instr in
    c.step.ensures.call c.if-not-step.true
    ∙ sym (stays (code_in body) old.left old.place (store_of old.store) old.counters.items (instruction_of c.in-Some.instr.now body.targets)
    c.loop-self-test.true (found_there body.targets _ c.in-Some.instr.now _ found (ap option_copied c.in-Some.is)) c.if-not-step.ensures.stepped)
    ∙ c.loop-self.invariant.settled

pub returns-in-None-clause-settled : goal.returns-in-None-clause-settled
returns-in-None-clause-settled c =
    let body = c.args.body.now in
    let old = c.loop-self.self in
    let program = c.items-program.ensures ∙ ap (λ (x : Code). x.instrs) c.deref.ensures in
    let found = found_in body c.items-around.result.now c.items-program.result.now old.place (option_copied c.instr_at.result) c.items-around.ensures program c.instr_at.ensures.instr in
    sym (ends (code_in body) old.left old.place (store_of old.store) old.counters.items (none_there body.targets _ _ found (ap option_copied c.in-None.is)))
    ∙ c.loop-self.invariant.settled
