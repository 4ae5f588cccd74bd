use Rattle.std.proofs.Common.{◌≡◌, Some, ap, map, option_copied, slice_get, sym, ◌∙◌}
use Rattle.std.proofs.lemmas.Option.{get_or_from_slice_get, slice_get_within}
use Rattle.description_types.specs.declared.component.Component.{Component}
use Rattle.plan_services.specs.Shared.{accesses_of, signature_in}
use Rattle.plan_services.proofs.Few.{few_runnables}
use Rattle.plan_services.proofs.Sharing.{at_place, within}
use Rattle.plan_services.proofs.runnables.push_instance.Goals as goal

pub push_component-requires-clause-runnables : goal.push_component-requires-clause-runnables
push_component-requires-clause-runnables c =
    few_runnables c.args.source.now.d.now c.args.instance.now.component c.in-Some.component.now c.args.source.now.few.parts (sym c.component_at.ensures ∙ ap option_copied c.in-Some.is)

pub bounds-signatures-position : goal.bounds-signatures-position
bounds-signatures-position c =
    let d = c.args.source.now.d.now in
    within (map accesses_of) (λ (t : Component). map (signature_in d.types t) t.behavior.runnables) c.args.signatures.now d.components c.requires.signatures c.args.instance.now.component
    (slice_get_within d.components c.args.instance.now.component c.in-Some.component.now (sym c.component_at.ensures ∙ ap option_copied c.in-Some.is))

pub push_component-requires-clause-signatures : goal.push_component-requires-clause-signatures
push_component-requires-clause-signatures c =
    let d = c.args.source.now.d.now in
    let at : slice_get d.components c.args.instance.now.component ≡ Some c.in-Some.component.now = sym c.component_at.ensures ∙ ap option_copied c.in-Some.is in
    ap (map accesses_of) c.items-shared.ensures
    ∙ at_place (map accesses_of) (λ (t : Component). map (signature_in d.types t) t.behavior.runnables) c.args.signatures.now d.components c.requires.signatures c.args.instance.now.component
    c.index-signatures-position.result c.in-Some.component.now (slice_get_within d.components c.args.instance.now.component c.in-Some.component.now at)
    c.index-signatures-position.is (sym (get_or_from_slice_get d.components c.args.instance.now.component c.in-Some.component.now c.in-Some.component.now at))

pub push_component-requires-clause-placed : goal.push_component-requires-clause-placed
push_component-requires-clause-placed c = sym c.component_at.ensures ∙ ap option_copied c.in-Some.is
