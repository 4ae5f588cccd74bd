-- What a description is within the limits.
use Rattle.std.specs.Prelude.{◌≡◌, ◌≤◌, List, false, length, ◌↔◌}
use Rattle.std.specs.List.Sorted.{IsStrictlySortedBy}
use Rattle.description_types.specs.declared.description.Description.{Description}
use Rattle.description_types.specs.declared.flat.Join.{Join}
use Rattle.composition_flatten.specs.declared.limits.Within.{Within}
use Rattle.description_types.specs.Flattening.{KeepsLimits}
use Rattle.description_types.specs.Growing.{IsPastLimit}
use Rattle.description_types.specs.Instances.{instances, names_env}
use Rattle.description_types.specs.Places.{places, IsTooDeep}
use Rattle.description_types.specs.Joined.{IsJoined}
use Rattle.description_types.specs.Members.{Among}
use Rattle.description_types.specs.Orders.{join_order}

-- the limits on instances
pub record KeepsCounts (d : Description) : Type 0 where
  pub few : length (places d) ≤ 1024
  pub shallow : ¬ IsTooDeep d
  pub names : names_env d ≡ false

-- these are the joins, each once and in order, and no more than the limit
pub record AreJoins (d : Description) (joins : List Join) : Type 0 where
  pub few : ¬ IsPastLimit (IsJoined d)
  pub in_order : IsStrictlySortedBy join_order joins
  pub joined : (j : Join) → Among j joins ↔ IsJoined d j

pub record IsWithin (d : Description) (w : Within) : Type 0 where
  pub limits : KeepsLimits d
  pub instances_listed : w.instances.items ≡ instances d
  pub in_order : IsStrictlySortedBy join_order w.joins.items
  pub joined : (j : Join) → Among j w.joins.items ↔ IsJoined d j
