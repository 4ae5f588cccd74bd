-- A start goes by its flag, and only a write or a publication sets one.
use Rattle.std.proofs.Common.{◌≡◌, ℕ, false, ◌&&◌, ◌==◌, refl, sym, ◌∙◌, ap, subst, List, Option, Some, None}
use Rattle.std.specs.Prelude.{option_map, unwrap_or}
use Rattle.bus_semantics.specs.Common.{false≢true, Plan, to_start, wanted_by}
use Rattle.bus_semantics.specs.declared.entries.Deed.{Deed}
use Rattle.bus_semantics.specs.declared.entries.Deed.TheVariants as deed
use Rattle.data_objects.specs.KeptValues as data_kept
use Rattle.object_kinds.specs.Common.{StartsByFlag, OthersWakeNothing, group_at, place, members_of, given, is_set, is_pending}
use Rattle.object_kinds.proofs.Flags.{pending_cleared}
use Rattle.object_kinds.proofs.Options.{given_some, given_none, none_given, then_some, mapped_some}
use Rattle.data_objects.specs.Acting.{started_at}
use Rattle.data_objects.specs.Kept.{may_start}
use Rattle.data_objects.specs.Leading.{read_code_in, has_value, has_flag, lead_of_group, group_lead, lead, wakes}
use Rattle.data_objects.proofs.Keeping.{leading}

-- ---- a start that is not pending

not_started : (k : data_kept.Kept) (at : Option ℕ) → is_pending k.due at ≡ false → started_at k at ≡ None
not_started k None held = refl
not_started k (Some i) held = given_none (is_set k.due i) (data_kept.after_start i k) held

pub not_pending : (k : data_kept.Kept) (at : Option ℕ) → started_at k at ≡ None → is_pending k.due at ≡ false
not_pending k None none = refl
not_pending k (Some i) none = none_given (is_set k.due i) (data_kept.after_start i k) none

pub starts_by : (p : Plan) (g : ℕ) (events : List ℕ) (k : data_kept.Kept) (d : Deed) (by event : ℕ) → wanted_by by d ≡ to_start event → lead_of_group p g events k d ≡ started_at k (place event events)
starts_by p g events k (deed.Start e point value) by event same = let is : e ≡ event = cc in rw is refl
starts_by p g events k d by event same = absurd (cc same)

pub group_by_flags : (p : Plan) (g : ℕ) → StartsByFlag may_start (group_lead p g)
group_by_flags p g k event n off start =
    ap (option_map (λ d. leading k d)) (starts_by p g k.events k.unqueued n.entry.deed (unwrap_or n.event 0) event start.wish ∙ not_started k.unqueued (place event k.events) off)

pub by_flags : (p : Plan) (object : ℕ) → StartsByFlag may_start (lead p object)
by_flags p object = group_by_flags p (group_at p object)

-- ---- a flag that stays clear

group_off : (p : Plan) (g : ℕ) (events : List ℕ) (k after : data_kept.Kept) (d : Deed) (at : Option ℕ) → lead_of_group p g events k d ≡ Some after → wakes d ≡ false → is_pending k.due at ≡ false → is_pending after.due at ≡ false
group_off p g events k after (deed.Read x code value) at leads other off =
    let there = then_some (λ r. given ((code == read_code_in p x k) && has_value value r k) (data_kept.after_read r k)) (place x (members_of p g)) after leads in
    let gives = given_some ((code == read_code_in p x k) && has_value value there.item k) (data_kept.after_read there.item k) after there.gives in
    subst (λ (z : data_kept.Kept). is_pending z.due at ≡ false) gives.same off
group_off p g events k after (deed.Fetch x value) at leads other off =
    let there = then_some (λ r. given (has_value value r k) k) (place x (members_of p g)) after leads in
    let gives = given_some (has_value value there.item k) k after there.gives in
    subst (λ (z : data_kept.Kept). is_pending z.due at ≡ false) gives.same off
group_off p g events k after (deed.IsUpdated x updated) at leads other off =
    let there = then_some (λ r. given (has_flag updated k.updated r) k) (place x (members_of p g)) after leads in
    let gives = given_some (has_flag updated k.updated there.item) k after there.gives in
    subst (λ (z : data_kept.Kept). is_pending z.due at ≡ false) gives.same off
group_off p g events k after (deed.Start e point value) at leads other off =
    let there = then_some (λ i. given (is_set k.due i) (data_kept.after_start i k)) (place e events) after leads in
    let gives = given_some (is_set k.due there.item) (data_kept.after_start there.item k) after there.gives in
    subst (λ (z : data_kept.Kept). is_pending z.due at ≡ false) gives.same (pending_cleared k.due there.item at off)
group_off p g events k after (deed.Write x value) at leads other off = absurd (false≢true (sym other))
group_off p g events k after (deed.Publish x value) at leads other off = absurd (false≢true (sym other))
group_off p g events k after (deed.Invalidate x) at leads other off =
    let same : data_kept.after_invalidation k ≡ after = cc in
    subst (λ (z : data_kept.Kept). is_pending z.due at ≡ false) same off
group_off p g events k after d at leads other off = absurd (cc leads)

pub group_wakes_nothing : (p : Plan) (g : ℕ) → OthersWakeNothing wakes may_start (group_lead p g)
group_wakes_nothing p g before after n leads other event off =
    let of = mapped_some (λ d. leading before d) (lead_of_group p g before.events before.unqueued n.entry.deed) after leads in
    subst (λ z. may_start z event ≡ false) of.gives (group_off p g before.events before.unqueued of.item n.entry.deed (place event before.events) of.is other off)

pub wakes_nothing : (p : Plan) (object : ℕ) → OthersWakeNothing wakes may_start (lead p object)
wakes_nothing p object = group_wakes_nothing p (group_at p object)
