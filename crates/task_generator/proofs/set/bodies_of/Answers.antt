use Rattle.std.proofs.Common.{◌≡◌, ℕ, ◌+◌, List, [], ◌∷◌, ◌++◌, map, take, length, Some, None, refl, sym, ap, ◌∙◌, subst, arith, length-append}
use Rattle.bus_semantics.specs.Common.{arc_value, lookup, slice_get-get_or, HaveOneCode, coded_of, plan_of, runnable_of}
use Rattle.std.specs.Prelude.{slice_get}
use Rattle.indexmap.specs.IndexMap.{get}
use Rattle.bus_semantics.specs.declared.plan.RunnablePlan.{RunnablePlan}
use Rattle.task_machine.specs.declared.instr.Body.{Body}
use Rattle.task_generator.specs.Coded.{HaveCodes, coded_shape, code_of_body, shape_of_code, same_code}
use Rattle.task_generator.specs.Shapes.{shape_of_body, shape_of}
use Rattle.task_generator.proofs.Placing.{placed}
use Rattle.task_generator.proofs.Sharing.{listed_more, all_listed, made_more}
use Rattle.task_generator.proofs.set.bodies_of.Goals as goal

pub shared_code-requires-clause-bounded : goal.shared_code-requires-clause-bounded
shared_code-requires-clause-bounded c =
    let x = c.runnable-item.result in
    c.requires.bounded c.loop-place.place (runnable_of x)
    (placed c.items-runnable-items.result.now c.args.p.now.runnables c.loop-place.place x c.items-runnable-items.ensures c.loop-place-test.true c.runnable-item.is)

pub body_of-requires-clause-bounded : goal.body_of-requires-clause-bounded
body_of-requires-clause-bounded c =
    let x = c.runnable-item.result in
    c.requires.bounded c.loop-place.place (runnable_of x)
    (placed c.items-runnable-items.result.now c.args.p.now.runnables c.loop-place.place x c.items-runnable-items.ensures c.loop-place-test.true c.runnable-item.is)

pub loop-place-init : goal.loop-place-init
loop-place-init c = record {
  many = ap length c.new-bodies.ensures.items;
  made = λ k n at. let none : Some n ≡ None = sym at ∙ ap (λ es. lookup (same_code k) es) c.new-made.ensures.empty in absurd (cc);
  codes = λ one. subst (λ (bs : List Body). HaveCodes c.args.p.now bs) (sym c.new-bodies.ensures.items) refl;
  shapes = λ one. ap (map shape_of_body) c.new-bodies.ensures.items;
}

pub loop-place-preserved : goal.loop-place-preserved
loop-place-preserved c =
    let p = c.args.p.now in
    let x = c.runnable-item.result in
    let b = c.in_ok-body.body in
    let place = c.loop-place.place in
    let old = c.loop-place.bodies.items in
    let new = c.push.new.self.items in
    let there : slice_get p.runnables place ≡ Some x =
    ap (λ (rs : List RunnablePlan). slice_get rs place) (sym c.items-runnable-items.ensures) ∙ slice_get-get_or c.items-runnable-items.result.now place x c.loop-place-test.true ∙ ap Some (sym c.runnable-item.is) in
    let put : new ≡ old ++ b ∷ [] = c.in_ok-push.ensures.items in
    let count : length new ≡ length old + 1 = ap length put ∙ length-append old (b ∷ []) in
    let many : length new ≡ place + 1 = omega (arith, count, c.loop-place.invariant.many) in
    let code : HaveOneCode p.runnables → shape_of_code (arc_value c.in_ok-code.code) ≡ coded_shape (coded_of x) =
    λ one. c.in_ok-code.ensures place there one (subst (λ (bs : List Body). HaveCodes p bs) (sym c.as_slice.ensures.value) (c.loop-place.invariant.codes one)) in
    record {
      many = many;
      made = made_more p place (λ q. get same_code c.loop-place.made q) (λ q. get same_code c.insert.new.self q) x there c.in_ok-insert.ensures.updates.0 c.loop-place.invariant.made;
      codes = λ one.
          let before = subst (λ n. map code_of_body old ≡ map (λ (r : RunnablePlan). coded_shape (coded_of r)) (take n p.runnables)) c.loop-place.invariant.many (c.loop-place.invariant.codes one) in
          subst (λ n. map code_of_body new ≡ map (λ (r : RunnablePlan). coded_shape (coded_of r)) (take n p.runnables)) (sym many)
          (listed_more code_of_body (λ (r : RunnablePlan). coded_shape (coded_of r)) old new b p.runnables place x put there (ap shape_of_code c.in_ok-body.ensures.code ∙ code one) before);
      shapes = λ one. listed_more shape_of_body (λ (r : RunnablePlan). shape_of (plan_of p) (runnable_of r)) old new b p.runnables place x put there (c.in_ok-body.ensures.shape (code one)) (c.loop-place.invariant.shapes one);
    }

pub returns : goal.returns
returns c = λ one. c.loop-place.invariant.shapes one ∙ all_listed (shape_of (plan_of c.args.p.now)) runnable_of c.args.p.now.runnables c.loop-place.place (omega (arith, c.loop-place-test.false, ap length c.items-runnable-items.ensures))
