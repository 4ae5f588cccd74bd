use Rattle.std.proofs.Common.{◌≡◌, List, ◌++◌, ap, map, ◌∙◌}
use Rattle.bus_semantics.specs.Common.{option_copied, plan_of, runnable_of, fetches_of, publications_of}
use Rattle.bus_semantics.specs.declared.plan.ServerPlan.{ServerPlan}
use Rattle.implicit_buffers.specs.Fetchings.{implicits_of}
use Rattle.task_generator.specs.Common.{served, fetching_code, publishing_code, returning_code, ending_code, fixed}
use Rattle.task_machine.specs.Instructions.{instruction_of}
use Rattle.task_generator.specs.Code.{admitting_code}
use Rattle.task_generator.proofs.Publications.{around_put}
use Rattle.task_generator.proofs.around.around_of.Goals as goal

pub returns-clause-code : goal.returns-clause-code
returns-clause-code c =
    let p = plan_of c.args.p.now in
    let r = runnable_of c.args.runnable.now in
    let fs = c.args.fetched.now in
    let ps = c.args.published.now in
    let server : option_copied c.served-server.result ≡ served p.servers r.server = c.served-server.ensures ∙ ap (λ (vs : List ServerPlan). served vs r.server) c.items.ensures in
    let fetched = c.in_ok-put_fetches.ensures ∙ (λ i. map instruction_of c.put_call.new.code.items ++ map fixed (fetching_code p fs ((ap implicits_of c.as_slice.ensures.value ∙ c.in_ok-fetches.ensures) i))) in
    let published = c.in_ok-put_publications.ensures
    ∙ (λ i. map instruction_of c.put_fetches.new.code.items ++ map fixed (publishing_code p ps ((ap implicits_of c.as_slice-2.ensures.value ∙ c.in_ok-publications.ensures) i))) in
    around_put (map instruction_of c.new-code.result.items) (map instruction_of c.put_call.new.code.items) (map instruction_of c.put_fetches.new.code.items) (map instruction_of c.put_publications.new.code.items) (map instruction_of c.put_call-2.new.code.items)
    admitting_code (fetching_code p fs (fetches_of p r)) (publishing_code p ps (publications_of p r)) (returning_code (served p.servers r.server)) ending_code
    (ap (map instruction_of) c.new-code.ensures.items) c.in_ok-put_call.ensures fetched published
    (c.in_ok-put_call-2.ensures ∙ ap (λ is. is ++ map fixed ending_code) (c.in_ok-put_return.ensures ∙ ap (λ o. map instruction_of c.put_publications.new.code.items ++ map fixed (returning_code o)) server))
