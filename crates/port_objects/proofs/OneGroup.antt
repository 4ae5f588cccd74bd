-- A bundle that is a group by itself, as it is made.
use Rattle.std.proofs.Common.{◌≡◌, ◌<◌, ℕ, Bool, true, false, sym, ◌∙◌, ap, subst, arith, List, length}
use Rattle.bus_semantics.specs.Common.{slice_get_within, Plan, bundles_fit}
use Rattle.bus_laws.proofs.Bundling.{homes_counted, there_home}
use Rattle.object_kinds.specs.Layout.{group_at, events_of, waits_for_data, waits_in_bundle}
use Rattle.object_kinds.proofs.Alone.{alone_events}
use Rattle.data_objects.specs.Kept as groups
use Rattle.data_objects.specs.Plans as group_plans
use Rattle.queue_objects.specs.Kept as queues
use Rattle.queue_objects.specs.Plans as queue_plans
use Rattle.port_objects.specs.Common.{of_group, of_queues, opening_of_kind, opening_where, has_queues, IsOfOneKind, IsOneGroup}

-- the group that code found is the bundle's, and of the kind that code found
module _ (p : Plan) (b g : ℕ) (one : IsOneGroup p b) (is : g ≡ group_at p b) where
  pub group_below : bundles_fit p ≡ true → g < length p.groups
  group_below fit = omega (arith, slice_get_within p.homes (group_at p b) b (there_home p fit (group_at p b) b one.alone.home), homes_counted p fit, is)

  pub kind_is : (q : Bool) → q ≡ has_queues p g → IsOfOneKind p g q
  kind_is q found = subst (λ t. IsOfOneKind p g t) (sym found) (subst (λ h. IsOfOneKind p h (has_queues p h)) (sym is) one.kind)

  pub events_are : (es : List ℕ) → es ≡ events_of p (waits_in_bundle p b) → es ≡ events_of p (waits_for_data p g)
  events_are es waiting = waiting ∙ alone_events p b one.alone ∙ ap (λ h. events_of p (waits_for_data p h)) (sym is)

  pub queues_open : (k : queues.Kept) → k ≡ queues.opening p g → true ≡ has_queues p g → of_queues k ≡ opening_where p b false
  queues_open k made found = ap of_queues made ∙ ap (λ q. opening_of_kind p g q) found ∙ ap (λ h. opening_of_kind p h (has_queues p h)) is

  pub queues_planned : (k : queues.Kept) → queue_plans.IsGroupOfPlan p g k → queue_plans.IsOfPlan p b k
  queues_planned k own = record { alone = one.alone; group = subst (λ h. queue_plans.IsGroupOfPlan p h k) is own }

  pub group_opens : (k : groups.Kept) → k ≡ groups.opening p g → false ≡ has_queues p g → of_group k ≡ opening_where p b false
  group_opens k made found = ap of_group made ∙ ap (λ q. opening_of_kind p g q) found ∙ ap (λ h. opening_of_kind p h (has_queues p h)) is

  pub group_planned : (k : groups.Kept) → group_plans.IsGroupOfPlan p g k → group_plans.IsOfPlan p b k
  group_planned k own = record { alone = one.alone; group = subst (λ h. group_plans.IsGroupOfPlan p h k) is own }
