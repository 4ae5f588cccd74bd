-- A start goes by its flag, and only a write or a publication sets one.
use Rattle.std.proofs.Common.{◌≡◌, ℕ, Bool, false, refl, sym, ◌∙◌, ap, subst, List, set, Option, Some, None}
use Rattle.std.specs.Prelude.{option_and_then, option_map, unwrap_or}
use Rattle.bus_semantics.specs.Common.{slice_get, option_map_or, false≢true, words_of, same_words, Plan, elems_of, Noted, to_start, wanted_by}
use Rattle.bus_semantics.specs.declared.entries.Deed.{Deed}
use Rattle.bus_semantics.specs.declared.entries.Deed.TheVariants as deed
use Rattle.object_kinds.specs.Kinds.{IsPlainStart, StartsByFlag, OthersWakeNothing}
use Rattle.object_kinds.proofs.Options.{given_some, then_some, mapped_some}
use Rattle.data_objects.specs.Kept as groups
use Rattle.data_objects.specs.Leading as group_leading
use Rattle.data_objects.specs.Leading.{group_lead}
use Rattle.data_objects.proofs.Starting.{group_by_flags, group_wakes_nothing}
use Rattle.bundle_objects.specs.Kept.{Kept, route, may_start}
use Rattle.bundle_objects.specs.Leading.{number_at, with_part, lead_part, moment_in, part_at, lead_by, lead, wakes}
use Rattle.bundle_objects.proofs.Parts.{set_here, set_there, At, here, elsewhere, compared}

-- ---- a start that is not pending

part_held : (p : Plan) (k : Kept) (event : ℕ) (n : Noted) → IsPlainStart event n → (at : Option ℕ) → option_map_or (λ part. groups.may_start part event) (option_and_then (λ i. slice_get k.parts i) at) false ≡ false → lead_part p k n at ≡ None
part_held p k event n start None off = refl
part_held p k event n start (Some i) off = by_part (slice_get k.parts i) off
  where
    by_part : (o : Option groups.Kept) → option_map_or (λ part. groups.may_start part event) o false ≡ false
        → option_and_then (λ part. option_map (with_part k i) (group_lead p (number_at k i) part n)) o ≡ None
    by_part None none = refl
    by_part (Some part) none = ap (option_map (with_part k i)) (group_by_flags p (number_at k i) part event n none start)

pub starts_by : (p : Plan) (k : Kept) (n : Noted) (d : Deed) (by event : ℕ) → wanted_by by d ≡ to_start event → lead_by p k n d ≡ lead_part p k n (route k event)
starts_by p k n (deed.Start e point value) by event same = let is : e ≡ event = cc in ap (λ f. lead_part p k n (route k f)) is
starts_by p k n d by event same = absurd (cc same)

pub by_flags : (p : Plan) → StartsByFlag may_start (lead p)
by_flags p k event n off start = starts_by p k n n.entry.deed (unwrap_or n.event 0) event start.wish ∙ part_held p k event n start (route k event) off

-- ---- a flag that stays clear

-- where one part changes, and its flag stays clear
pub part_off : (k : Kept) (i event : ℕ) (part now : groups.Kept) → slice_get k.parts i ≡ Some part → (groups.may_start part event ≡ false → groups.may_start now event ≡ false)
    → may_start k event ≡ false → may_start (with_part k i now) event ≡ false
part_off k i event part now there stays off = by_route (route k event) off
  where
    by_place : (j : ℕ) → At i j → option_map_or (λ q. groups.may_start q event) (slice_get k.parts j) false ≡ false → option_map_or (λ q. groups.may_start q event) (slice_get (set k.parts i now) j) false ≡ false
    by_place j (here same) was =
        ap (λ o. option_map_or (λ q. groups.may_start q event) o false) (ap (slice_get (set k.parts i now)) (sym same) ∙ set_here k.parts i now part there)
        ∙ stays (sym (ap (λ o. option_map_or (λ q. groups.may_start q event) o false) (ap (slice_get k.parts) (sym same) ∙ there)) ∙ was)
    by_place j (elsewhere apart) was = ap (λ o. option_map_or (λ q. groups.may_start q event) o false) (set_there k.parts i j now apart) ∙ was

    by_route : (at : Option ℕ) → option_map_or (λ q. groups.may_start q event) (option_and_then (λ j. slice_get k.parts j) at) false ≡ false
        → option_map_or (λ q. groups.may_start q event) (option_and_then (λ j. slice_get (set k.parts i now) j) at) false ≡ false
    by_route None was = refl
    by_route (Some j) was = by_place j (compared i j) was

wakes_part : (d : Deed) → wakes d ≡ false → group_leading.wakes d ≡ false
wakes_part (deed.Write x value) other = other
wakes_part (deed.Publish x value) other = other
wakes_part (deed.PublishAll l written value) other = absurd (false≢true (sym other))
wakes_part d other = refl

one_off : (p : Plan) (k after : Kept) (n : Noted) (at : Option ℕ) → lead_part p k n at ≡ Some after → wakes n.entry.deed ≡ false → (event : ℕ) → may_start k event ≡ false → may_start after event ≡ false
one_off p k after n at leads other event off =
    let place = then_some (λ i. option_and_then (λ part. option_map (with_part k i) (group_lead p (number_at k i) part n)) (slice_get k.parts i)) at after leads in
    let i = place.item in
    let of = then_some (λ part. option_map (with_part k i) (group_lead p (number_at k i) part n)) (slice_get k.parts i) after place.gives in
    let made = mapped_some (with_part k i) (group_lead p (number_at k i) of.item n) after of.gives in
    subst (λ z. may_start z event ≡ false) made.gives
    (part_off k i event of.item made.item of.is (λ was. group_wakes_nothing p (number_at k i) of.item made.item n made.is (wakes_part n.entry.deed other) event was) off)

bundle_off : (p : Plan) (k after : Kept) (n : Noted) (d : Deed) → n.entry.deed ≡ d → lead_by p k n d ≡ Some after → wakes n.entry.deed ≡ false → (event : ℕ) → may_start k event ≡ false → may_start after event ≡ false
bundle_off p k after n (deed.FetchAll list value) is leads other event off =
    let of = given_some (same_words (words_of value) (moment_in p k (elems_of p list))) k after leads in
    subst (λ z. may_start z event ≡ false) of.same off
bundle_off p k after n (deed.PublishAll list written value) is leads other event off = absurd (false≢true (sym other ∙ ap wakes is))
bundle_off p k after n d is leads other event off = one_off p k after n (part_at p k d) leads other event off

pub wakes_nothing : (p : Plan) → OthersWakeNothing wakes may_start (lead p)
wakes_nothing p before after n leads other event off = bundle_off p before after n n.entry.deed refl leads other event off
