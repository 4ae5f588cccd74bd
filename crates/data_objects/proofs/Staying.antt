-- No entry changes what a group is of its plan.
use Rattle.std.proofs.Common.{◌≡◌, ℕ, ◌&&◌, ◌==◌, refl, ◌∙◌, ap, sym, subst, List, length, map, true, false, Some}
use Rattle.bus_semantics.specs.Common.{length-replicate, length-set, same_Some, Plan}
use Rattle.bus_semantics.specs.declared.entries.Deed.{Deed}
use Rattle.bus_semantics.specs.declared.entries.Deed.TheVariants as deed
use Rattle.data_objects.specs.KeptValues as data_kept
use Rattle.object_kinds.specs.Common.{place, members_of, given, is_set}
use Rattle.object_kinds.proofs.Options.{given_some, then_some}
use Rattle.data_objects.specs.Kept.{Kept}
use Rattle.data_objects.specs.Layout.{receiver_of}
use Rattle.data_objects.specs.Leading.{read_code_in, has_value, has_flag, lead_of_group}
use Rattle.data_objects.specs.Plans.{IsGroupOfPlan}

pub record Same (k after : data_kept.Kept) : Type 0 where
  pub inits : after.inits ≡ k.inits
  pub events : after.events ≡ k.events
  pub due : length after.due ≡ length k.due

pub stays : (p : Plan) (g : ℕ) (events : List ℕ) (k after : data_kept.Kept) (d : Deed) → lead_of_group p g events k d ≡ Some after → Same k after
stays p g events k after (deed.Write x value) leads = subst (Same k) (same_Some (data_kept.after_write value k) after leads) (record { inits = refl; events = refl; due = length-replicate (length k.due) true })
stays p g events k after (deed.Publish x value) leads = subst (Same k) (same_Some (data_kept.after_write value k) after leads) (record { inits = refl; events = refl; due = length-replicate (length k.due) true })
stays p g events k after (deed.Invalidate x) leads = subst (Same k) (same_Some (data_kept.after_invalidation k) after leads) (record { inits = refl; events = refl; due = refl })
stays p g events k after (deed.Read x code value) leads =
    let at = then_some (λ r. given ((code == read_code_in p x k) && has_value value r k) (data_kept.after_read r k)) (place x (members_of p g)) after leads in
    let gives = given_some ((code == read_code_in p x k) && has_value value at.item k) (data_kept.after_read at.item k) after at.gives in
    subst (Same k) gives.same (record { inits = refl; events = refl; due = refl })
stays p g events k after (deed.Fetch x value) leads =
    let at = then_some (λ r. given (has_value value r k) k) (place x (members_of p g)) after leads in
    let gives = given_some (has_value value at.item k) k after at.gives in
    subst (Same k) gives.same (record { inits = refl; events = refl; due = refl })
stays p g events k after (deed.IsUpdated x updated) leads =
    let at = then_some (λ r. given (has_flag updated k.updated r) k) (place x (members_of p g)) after leads in
    let gives = given_some (has_flag updated k.updated at.item) k after at.gives in
    subst (Same k) gives.same (record { inits = refl; events = refl; due = refl })
stays p g events k after (deed.Start e point value) leads =
    let at = then_some (λ i. given (is_set k.due i) (data_kept.after_start i k)) (place e events) after leads in
    let gives = given_some (is_set k.due at.item) (data_kept.after_start at.item k) after at.gives in
    subst (Same k) gives.same (record { inits = refl; events = refl; due = length-set k.due at.item false })
stays p g events k after d leads = absurd (cc leads)

pub stays_planned : (p : Plan) (g : ℕ) (old new : Kept) (d : Deed) → IsGroupOfPlan p g old → lead_of_group p g old.events old.unqueued d ≡ Some new.unqueued → new.events ≡ old.events → IsGroupOfPlan p g new
stays_planned p g old new d planned leads events = let same = stays p g old.events old.unqueued new.unqueued d leads in record {
  is_group = planned.is_group;
  waiting = events ∙ planned.waiting;
  inits = same.inits ∙ planned.inits;
  receivers = same.events ∙ planned.receivers ∙ ap (map (receiver_of p g)) (sym events);
}
