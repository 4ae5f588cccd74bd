-- What a group keeps at first is what the definitions give from no entry.
use Rattle.std.proofs.Common.{◌≡◌, ◌≤◌, ℕ, false, refl, sym, ◌∙◌, ap, [], length, Option, Some, None}
use Rattle.std.specs.Prelude.{unwrap_or}
use Rattle.bus_semantics.specs.Common.{slice_get, option_map_or, slice_get_past, Value, words_of, empty_value, Value-by_words, Plan, kind_of, is_in_group, is_updated}
use Rattle.bus_semantics.specs.declared.plan.ElemPlan.{ElemPlan}
use Rattle.object_kinds.specs.Layout.{group_at, IsAlone, members_of, events_of, waits_for_data}
use Rattle.object_kinds.proofs.Events.{waiting_for, events_all}
use Rattle.object_kinds.proofs.Lists.{filled_all}
use Rattle.object_kinds.proofs.Members.{members_all}
use Rattle.data_objects.specs.Kept.{opening}
use Rattle.data_objects.specs.Layout.{initial_of, receiver_of, IsUnqueuedGroup}
use Rattle.data_objects.specs.Standing.{due_after, GroupKeeps, Keeps}
use Rattle.data_objects.proofs.Keeping.{due_kind}

never_updated : (p : Plan) (x : ℕ) → is_updated p x [] ≡ false
never_updated p x = by_elem (slice_get p.elements x)
  where
    by_elem : (o : Option ElemPlan) → option_map_or (λ (e : ElemPlan). unwrap_or None false) o false ≡ false
    by_elem None = refl
    by_elem (Some e) = refl

pub group_opens : (p : Plan) (g : ℕ) → IsUnqueuedGroup p g → GroupKeeps p g (opening p g) []
group_opens p g is_group = record {
  is_group = is_group;
  waiting = refl;
  inits = refl;
  receivers = refl;
  stored = refl;
  invalid = refl;
  updated = filled_all (is_in_group p g) (initial_of p) (λ x. is_updated p x []) false (members_of p g) (members_all p g) (λ x inside. never_updated p x);
  due = filled_all (λ e. waits_for_data p g (kind_of p e)) (receiver_of p g) (due_after p []) false (events_of p (waits_for_data p g)) (events_all p (waits_for_data p g))
      (λ e waits. let w = waiting_for p g (kind_of p e) waits in due_kind p e w.element [] w.kind);
}

pub object_opens : (p : Plan) (object : ℕ) → IsAlone p object → IsUnqueuedGroup p (group_at p object) → Keeps p object (opening p (group_at p object)) []
object_opens p object alone is_group = record { alone = alone; group = group_opens p (group_at p object) is_group }

-- an element that there is not begins with the empty value
pub initial_beyond : (p : Plan) (x : ℕ) (v : Value) → length p.elements ≤ x → words_of v ≡ [] → v ≡ initial_of p x
initial_beyond p x v beyond none = Value-by_words v empty_value none ∙ sym (ap (λ (o : Option ElemPlan). option_map_or (λ (e : ElemPlan). e.init) o empty_value) (slice_get_past p.elements x beyond))
