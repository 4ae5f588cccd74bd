use Rattle.std.proofs.Common.{◌≡◌, ◌-◌, ◌≤◌, List, ℕ, bytes_eq}
use Rattle.indexmap.specs.IndexMap.{get_by}
use Rattle.bus_semantics.specs.Plan.{plan_of}
use Rattle.script_reading.specs.Offers.{first_from, goes_by, how_many, offered}
use Rattle.script_reading.proofs.environment.index_of.Given as goal

abbrev pub invariant-loop-left : goal.invariant-loop-left
invariant-loop-left l = record {
  within : l.left ≤ how_many l.form (plan_of l.plan);
  found : (name : List ℕ) → get_by (λ k. bytes_eq name k.now) l.places ≡ first_from (λ x. goes_by name (offered l.form (plan_of l.plan) x)) (how_many l.form (plan_of l.plan) - l.left) l.left;
}

abbrev pub decreases-loop-left : goal.decreases-loop-left
decreases-loop-left l = l.left
