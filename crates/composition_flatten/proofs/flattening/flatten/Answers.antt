use Rattle.std.proofs.Common.{◌∙◌, sym, subst, List, ◌↔◌}
use Rattle.std.specs.List.Sorted.{IsStrictlySortedBy}
use Rattle.description_types.specs.declared.flat.Join.{Join}
use Rattle.description_types.specs.Joined.{IsJoined}
use Rattle.description_types.specs.Members.{Among}
use Rattle.description_types.specs.Orders.{join_order}
use Rattle.composition_flatten.proofs.flattening.flatten.Goals as goal

pub returns-clause-flat : goal.returns-clause-flat
returns-clause-flat c = record {
  nesting = c.in_ok-check_nesting.ensures.kept;
  limits = c.in_ok-within.ensures.kept.limits;
  connectors = c.in_ok-check_connectors.ensures.kept;
  instances_listed = c.of.ensures ∙ c.in_ok-within.ensures.kept.instances_listed;
  in_order = subst (IsStrictlySortedBy join_order) (sym c.of-2.ensures) c.in_ok-within.ensures.kept.in_order;
  joined = λ j. subst (λ (l : List Join). Among j l ↔ IsJoined c.args.d.now j) (sym c.of-2.ensures) (c.in_ok-within.ensures.kept.joined j);
}
