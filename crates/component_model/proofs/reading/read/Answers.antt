use Rattle.std.proofs.Common.{subst, sym}
use Rattle.serde_json.specs.View.{view}
use Rattle.declared_names.specs.declared.scopes.Scope.{Scope}
use Rattle.declared_names.specs.Scopes.{type_names}
use Rattle.declared_names.specs.Sizes.{HaveFewArguments}
use Rattle.declared_names.proofs.Sizes.{few_arguments}
use Rattle.component_model.proofs.reading.read.Goals as goal

pub read_in-description-requires-clause-arguments : goal.read_in-description-requires-clause-arguments
read_in-description-requires-clause-arguments c =
    let d = view c.args.value.now in
    subst (λ (s : Scope). HaveFewArguments s.interfaces) (sym c.in_ok-scope.ensures) (few_arguments (type_names d).mode_groups d c.requires)
