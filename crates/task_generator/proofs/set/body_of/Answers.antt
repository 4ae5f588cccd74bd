use Rattle.std.proofs.Common.{◌≡◌, ℕ, ◌+◌, ◌++◌, List, length, map, take, drop, max, ap, ◌∙◌, arith}
use Rattle.bus_semantics.specs.Common.{arc_value, Program, plan_of, runnable_of, fetches_of, publications_of}
use Rattle.implicit_buffers.specs.Buffers.{fetched_by, published_by}
use Rattle.task_machine.specs.declared.instr.Code.{Code}
use Rattle.task_machine.specs.Instructions.{instruction_of, resolved}
use Rattle.task_generator.specs.Common.{served, arguments_in, in_places, steps_of_body, loops_of_body, fixed, before_code, after_code, activity_code, budget_of}
use Rattle.task_generator.specs.Coded.{CodeShape}
use Rattle.task_generator.proofs.Few.{body_steps}
use Rattle.task_generator.proofs.Whole.{whole_code, around_long}
use Rattle.task_generator.proofs.set.body_of.Goals as goal

pub returns-clause-shape : goal.returns-clause-shape
returns-clause-shape c coded =
    let p = plan_of c.args.p.now in
    let r = runnable_of c.args.runnable.now in
    let code = arc_value c.args.code in
    let args = arguments_in (served p.servers r.server) in
    let found = c.arguments_of-arguments.ensures in
    let vars : c.max.result ≡ max r.program.vars (length args) = omega (arith, c.max.ensures, ap (λ (q : Program). q.vars) c.deref.ensures, ap length found) in
    let arguments : c.of.result ≡ in_places 0 args = c.of.ensures ∙ c.in_ok-places.ensures ∙ ap (in_places 0) found in
    let fetched = ap length c.requires.fetched in
    let written = ap length c.requires.published in
    let counters : c.deref-2.result.now.loops ≡ loops_of_body r.program.body = ap (λ (k : Code). k.loops) c.deref-2.ensures ∙ ap (λ (s : CodeShape). s.loops) coded in
    let steps : c.deref-3.result.now.steps ≡ steps_of_body r.program.body = ap (λ (k : Code). k.steps) c.deref-3.ensures ∙ ap (λ (s : CodeShape). s.steps) coded in
    let fetches = fetches_of p r in
    let publications = publications_of p r in
    let server = served p.servers r.server in
    let around = c.in_ok-around.around.code in
    let put : map instruction_of around.items ≡ map fixed (before_code p (fetched_by r) fetches) ++ map fixed (after_code p (published_by r) publications server) =
    c.in_ok-around.ensures.code ∙ (λ i. map fixed (before_code p (c.requires.fetched i) fetches) ++ map fixed (after_code p (c.requires.published i) publications server)) in
    let before : c.in_ok-around.around.before ≡ length (before_code p (fetched_by r) fetches) = c.in_ok-around.ensures.before ∙ ap (λ (xs : List ℕ). length (before_code p xs fetches)) c.requires.fetched in
    let long = around_long p fetches publications around.items (fetched_by r) (published_by r) server put in
    let budget : c.saturating_add.result ≡ budget_of p r =
    omega (arith, c.saturating_add.ensures, steps, long, around.ok.0, around.ok.1, around.small, body_steps r.program.body, c.requires.bounded.cost) in
    let instrs = ap (λ (s : CodeShape). s.instrs) coded in
    let whole = whole_code p fetches publications r c.requires.bounded.targets around.items code.instrs c.in_ok-around.around.before (fetched_by r) (published_by r) server r.program.body put before instrs in
    let b = c.in_ok-around.around.before in
    let all : resolved c.in_ok-targets.targets (map instruction_of (take b c.of-2.result ++ (code.instrs ++ drop b c.of-2.result))) ≡ activity_code p r =
    (λ i. resolved (c.in_ok-targets.ensures i) (map instruction_of (take b (c.of-2.ensures i) ++ (code.instrs ++ drop b (c.of-2.ensures i))))) ∙ whole in
    λ i. record { vars = vars i; arguments = arguments i; fetched = fetched i; written = written i; counters = counters i; budget = budget i; code = all i }
