use Rattle.std.proofs.Common.{◌≡◌, [], ◌∷◌, ◌++◌, List, sym, ap, ◌∙◌}
use Rattle.bus_semantics.specs.Common.{option_copied, ActKey}
use Rattle.bus_semantics.specs.declared.entries.Deed.{Deed}
use Rattle.task_machine.specs.declared.instr.TaskSet.{TaskSet}
use Rattle.task_machine.specs.Instructions.{Instruction}
use Rattle.task_machine.specs.Machine.{answered}
use Rattle.task_machine.specs.Spots.{spot_of}
use Rattle.task_machine.specs.Frames.{code_from, code_of, Stands}
use Rattle.task_machine.specs.Standing.{Standing}
use Rattle.task_machine.proofs.Answered.{after_more}
use Rattle.task_machine.proofs.frame.Frame.feed.Goals as goal

-- one answer more
stands_on : (t : TaskSet) (k : ActKey) (start : Deed) (answers : List Deed) (d : Deed) (f g : Standing)
    → Stands t k start answers f → g.key ≡ f.key → g.event ≡ f.event → g.at ≡ answered (code_of t f.key.runnable) d f.at
    → Stands t k start (answers ++ d ∷ []) g
stands_on t k start answers d f g stood key event at = record {
  key = key ∙ stood.key;
  event = event ∙ stood.event;
  at =
      at
      ∙ ap (λ (j : ActKey). answered (code_of t j.runnable) d f.at) stood.key
      ∙ ap (answered (code_of t k.runnable) d) stood.at
      ∙ sym (after_more (code_of t k.runnable) answers d _);
}

pub returns-in-Some-clause-stands : goal.returns-in-Some-clause-stands
returns-in-Some-clause-stands c k start answers stood =
    let d = c.args.answer.now in
    let code = ap code_from (sym (ap option_copied c.in-Some.is) ∙ c.body_of.ensures) in
    stands_on c.args.t.now k start answers d c.args.self.now _ stood
    (ap (λ (f : Standing). f.key) c.self.view_is)
    (ap (λ (f : Standing). f.event) c.self.view_is)
    (c.feed.ensures.answered
    ∙ ap (λ (is : List Instruction). answered is d (spot_of c.self.inside.at)) code
    ∙ ap (λ (f : Standing). answered (code_of c.args.t.now f.key.runnable) d f.at) c.self.view_is)

pub returns-in-None-clause-stands : goal.returns-in-None-clause-stands
returns-in-None-clause-stands c k start answers stood =
    let d = c.args.answer.now in
    let code = ap code_from (sym (ap option_copied c.in-None.is) ∙ c.body_of.ensures) in
    stands_on c.args.t.now k start answers d c.args.self.now _ stood
    (ap (λ (f : Standing). f.key) c.self.view_is)
    (ap (λ (f : Standing). f.event) c.self.view_is)
    (c.feed_nowhere.ensures.answered
    ∙ ap (λ (is : List Instruction). answered is d (spot_of c.self.inside.at)) code
    ∙ ap (λ (f : Standing). answered (code_of c.args.t.now f.key.runnable) d f.at) c.self.view_is)
