use Rattle.std.proofs.Common.{◌≡◌, IfOk, cond, get_or, map, sym, subst, ap, ◌∙◌}
use Rattle.plan_definitions.proofs.Labels.{comes}
use Rattle.plan_elements.specs.Bundled.{lowest}
use Rattle.plan_elements.proofs.Connecting.{connected_none, connected_some}
use Rattle.plan_elements.proofs.bundles.connected.Goals as goal

pub returns-in-Some : goal.returns-in-Some
returns-in-Some c =
    let gs = c.args.groups.now in
    let ls = c.args.labels.items in
    let theirs : c.in_ok-theirs.theirs.items ≡ map (λ g. get_or ls g g) gs = c.in_ok-theirs.ensures ∙ (λ j. map (λ g. get_or (c.as_slice.ensures.value j) g g) gs) in
    subst (λ xs. IfOk c.relabeled.result (λ found. found.items ≡ xs))
    ((λ j. map (λ l. cond (comes (c.as_slice-in-Some-2.ensures.value j) l) c.in-Some.low l) (c.as_slice-in-Some.ensures.value j))
    ∙ connected_some gs ls c.in_ok-theirs.theirs.items theirs c.in-Some.low (c.in-Some.ensures ∙ ap lowest c.as_slice-2.ensures.value))
    c.relabeled.ensures

pub returns-in-None : goal.returns-in-None
returns-in-None c =
    let gs = c.args.groups.now in
    let ls = c.args.labels.items in
    let theirs : c.in_ok-theirs.theirs.items ≡ map (λ g. get_or ls g g) gs = c.in_ok-theirs.ensures ∙ (λ j. map (λ g. get_or (c.as_slice.ensures.value j) g g) gs) in
    connected_none gs ls c.in_ok-theirs.theirs.items theirs (c.in-None.ensures ∙ ap lowest c.as_slice-2.ensures.value)
