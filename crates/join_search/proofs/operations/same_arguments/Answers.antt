use Rattle.std.proofs.Common.{◌∙◌, sym}
use Rattle.plan_definitions.specs.Interfaces.{same_argument}
use Rattle.join_search.proofs.Turns.{pair_fails, pair_passes, pairs_pass}
use Rattle.join_search.proofs.operations.same_arguments.Goals as goal

pub returns-then-not-same_argument : goal.returns-then-not-same_argument
returns-then-not-same_argument c = pair_fails (λ x. same_argument c.args.types.now x.0 x.1) c.args.provided.now c.args.required.now c.loop-i.i c.if-provided-required.false c.loop-i.invariant
    c.index-provided-i.result c.index-required-i.result c.loop-i-test.true c.index-provided-i.is c.index-required-i.is (sym c.same_argument.ensures ∙ c.if-not-same_argument.true)

pub loop-i-preserved : goal.loop-i-preserved
loop-i-preserved c = pair_passes (λ x. same_argument c.args.types.now x.0 x.1) c.args.provided.now c.args.required.now c.loop-i.i c.if-provided-required.false c.loop-i.invariant
    c.index-provided-i.result c.index-required-i.result c.loop-i-test.true c.index-provided-i.is c.index-required-i.is (sym c.same_argument.ensures ∙ c.if-not-same_argument.false)

pub returns : goal.returns
returns c = pairs_pass (λ x. same_argument c.args.types.now x.0 x.1) c.args.provided.now c.args.required.now c.loop-i.i c.if-provided-required.false c.loop-i.invariant c.loop-i-test.false
