use Rattle.std.proofs.Common.{◌≡◌, IfOk, subst}
use Rattle.serde_json.specs.View.{view}
use Rattle.component_model.specs.Programs.{behavior_reading, behavior_tree}
use Rattle.component_model.proofs.component_reading.behavior.Goals as goal

pub returns : goal.returns
returns c =
    let scope = c.args.scope.now in
    subst (λ names. IfOk c.behavior_with-behavior.result (λ b. behavior_tree b ≡ behavior_reading scope.types scope.interfaces names (view c.args.inner.now))) c.in_ok-names.ensures c.behavior_with-behavior.ensures
