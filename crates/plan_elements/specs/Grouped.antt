-- The groups of a description, as they are kept.
use Rattle.std.specs.Prelude.{◌≡◌, length, map}
use Rattle.plan_definitions.specs.Common.{Flat, Description, leaders, group_number, heads}
use Rattle.plan_elements.specs.declared.groups.Groups.{Groups}
use Rattle.plan_elements.specs.Ends.{AreJoined}

pub record AreGroups (d : Description) (f : Flat) (g : Groups) : Type 0 where
  pub are_numbers : g.numbers.items ≡ map (group_number (leaders d f)) (leaders d f)
  pub is_count : g.count ≡ length (heads (leaders d f))
  pub are_joined : AreJoined d f g.joined.items
