-- A bundle as the code has it: its groups by place, and what a call on one of them makes of the whole.
use Rattle.std.proofs.Common.{◌≡◌, ◌<◌, ◌≤◌, ◌+◌, ◌⊎◌, ℕ, true, false, not, count_by, refl, sym, ◌∙◌, ap, subst, arith, inl, inr, List, [], ◌∷◌, length, map, set, get_or, Option, Some, None}
use Rattle.std.specs.Prelude.{IfSome, nat_lt, sum_by}
use Rattle.bus_semantics.specs.Common.{Contains, list_all, slice_get, option_map_or, ltb-true, length-map, map-set, slice_get-get_or, slice_get_within, get_or_from_slice_get, Value, Plan}
use Rattle.bus_semantics.specs.Common.{Wanted}
use Rattle.std.proofs.lemmas.List.Sums.{sum_by-cons, sum_by-le-sum_by, get_or-le-sum_by, count_by-le-length}
use Rattle.bus_semantics.specs.declared.entries.Actor.{Actor}
use Rattle.object_kinds.specs.declared.acted.Acted.{Acted}
use Rattle.object_kinds.specs.declared.acted.Acted.TheVariants.{NotYet}
use Rattle.object_kinds.specs.declared.acted.Shown.{Shown}
use Rattle.object_kinds.specs.Common.{IsAnswerOf, place}
use Rattle.object_kinds.proofs.Lists.{mapped_at, all_at}
use Rattle.object_kinds.proofs.Placing.{place_within}
use Rattle.data_objects.specs.Acting.{IsWishIn}
use Rattle.data_objects.specs.Kept as groups
use Rattle.data_objects.specs.Kept.{GroupState}
use Rattle.data_objects.specs.Leading as group_leading
use Rattle.data_objects.specs.Leading.{group_lead}
use Rattle.data_objects.specs.Plans.{IsGroupOfPlan}
use Rattle.data_objects.specs.KeptValues.{after_write}
use Rattle.bundle_objects.specs.Acting.{IsPartActed, Adds}
use Rattle.bundle_objects.specs.Kept.{Kept, BundleState, clear_in}
use Rattle.bundle_objects.specs.Leading.{with_part, after_publication, store_at}
use Rattle.bundle_objects.specs.Plans.{IsOfPlan}
use Rattle.bundle_objects.proofs.Adding.{clear_counted, store_adds}

-- what each group keeps
abbrev pub kept_of : GroupState → groups.Kept
kept_of g = g.kept

-- a bundle by what the code has
abbrev pub kept_by : (numbers events places : List ℕ) → List GroupState → Kept
kept_by ns es ps gs = record { numbers = ns; events = es; places = ps; parts = map (λ (g : GroupState). g.kept) gs }

abbrev pub view_by : (numbers events places : List ℕ) → List GroupState → (woken : List ℕ) → (room : ℕ) → BundleState
view_by ns es ps gs woken room = record { kept = kept_by ns es ps gs; woken = woken; room = room }

pub there : {X : Type 0} (xs : List X) (i : ℕ) (x : X) → i < length xs → x ≡ get_or xs i x → slice_get xs i ≡ Some x
there xs i x within is = slice_get-get_or xs i x within ∙ ap (λ z. Some z) (sym is)

-- the group at a place that is within
pub group_found : (gs : List GroupState) (i : ℕ) (g : GroupState) (now inside : BundleState) → map (λ (h : GroupState). h.kept) gs ≡ inside.kept.parts → inside ≡ now → i < length now.kept.parts → g ≡ get_or gs i g → slice_get gs i ≡ Some g
group_found gs i g now inside view is within at =
    let long : length gs ≡ length now.kept.parts = sym (length-map gs (λ (h : GroupState). h.kept)) ∙ ap length view ∙ ap (λ (s : BundleState). length s.kept.parts) is in
    there gs i g (omega (arith, within, long)) at

-- one group changes
set_kept : (ns es ps : List ℕ) (gs : List GroupState) (i : ℕ) (new : GroupState) → kept_by ns es ps (set gs i new) ≡ with_part (kept_by ns es ps gs) i new.kept
set_kept ns es ps gs i new = λ j. record { numbers = ns; events = es; places = ps; parts = map-set (λ (g : GroupState). g.kept) gs i new j }

pub part_acted : (p : Plan) (a : Actor) (w : Wanted) (ns es ps : List ℕ) (gs : List GroupState) (woken : List ℕ) (room i : ℕ) (old new : GroupState) (r : Acted) → slice_get gs i ≡ Some old
    → ((group : ℕ) → IsWishIn p group w → IsGroupOfPlan p group old.kept → IsGroupOfPlan p group new.kept)
    → ((group : ℕ) → IsWishIn p group w → IsGroupOfPlan p group old.kept → IsAnswerOf p (group_lead p group) groups.may_start group_leading.why_held a w old.kept new.kept r)
    → ((group : ℕ) → IsWishIn p group w → (shown : Shown) → r ≡ NotYet shown → new ≡ old)
    → IsPartActed p i a w (view_by ns es ps gs woken room) (view_by ns es ps (set gs i new) woken room) r
part_acted p a w ns es ps gs woken room i old new r found planned answer same = record {
  before = old.kept;
  now = new.kept;
  found = mapped_at (λ (g : GroupState). g.kept) gs i old found;
  kept = set_kept ns es ps gs i new;
  woken = refl;
  room = refl;
  planned = planned;
  answer = answer;
  same = λ group inside shown is. ap (λ (g : GroupState). g.kept) (same group inside shown is);
}

-- ---- a value is stored

-- the group after it
stored_part : (v : Value) (old new : GroupState) → new.kept.events ≡ old.kept.events → new.kept.unqueued ≡ after_write v old.kept.unqueued → new.kept ≡ after_publication v old.kept
stored_part v old new events stored = λ i. record { events = events i; unqueued = stored i }

module _ (ns es ps : List ℕ) (gs : List GroupState) (i : ℕ) (v : Value) (old new : GroupState) (found : slice_get gs i ≡ Some old)
    (events : new.kept.events ≡ old.kept.events) (stored : new.kept.unqueued ≡ after_write v old.kept.unqueued) where
  after : kept_by ns es ps (set gs i new) ≡ with_part (kept_by ns es ps gs) i (after_publication v old.kept)
  after = set_kept ns es ps gs i new ∙ ap (with_part (kept_by ns es ps gs) i) (stored_part v old new events stored)

  pub part_stored : kept_by ns es ps (set gs i new) ≡ store_at (kept_by ns es ps gs) v (Some i)
  part_stored = after ∙ sym (ap (λ o. option_map_or (λ part. with_part (kept_by ns es ps gs) i (after_publication v part)) o (kept_by ns es ps gs)) (mapped_at (λ (g : GroupState). g.kept) gs i old found))

  pub part_counted : (woken told : List ℕ) → length told + count_by not new.kept.unqueued.due ≤ length woken + count_by not old.kept.unqueued.due
      → length told + clear_in (kept_by ns es ps (set gs i new)) ≤ length woken + clear_in (kept_by ns es ps gs)
  part_counted woken told counted =
      subst (λ k. length told + clear_in k ≤ length woken + clear_in (kept_by ns es ps gs)) (sym (set_kept ns es ps gs i new))
      (clear_counted (kept_by ns es ps gs) i old.kept new.kept woken told (mapped_at (λ (g : GroupState). g.kept) gs i old found) counted)

  pub part_adds : (p : Plan) (b : ℕ) → IsOfPlan p b (kept_by ns es ps gs) → (woken told : List ℕ) (room : ℕ)
      → ((event : ℕ) → groups.may_start old.kept event ≡ false → groups.may_start new.kept event ≡ true → Contains told event) → ((event : ℕ) → Contains woken event → Contains told event)
      → ((event : ℕ) → Contains told event → Contains woken event ⊎ ((groups.may_start old.kept event ≡ false) × (groups.may_start new.kept event ≡ true)))
      → length told + count_by not new.kept.unqueued.due ≤ length woken + count_by not old.kept.unqueued.due
      → Adds (view_by ns es ps gs woken room) (view_by ns es ps (set gs i new) told room)
  part_adds p b planned woken told room came stayed only counted =
      let is : new.kept ≡ after_publication v old.kept = stored_part v old new events stored in
      subst (λ k. Adds (view_by ns es ps gs woken room) (record { kept = k; woken = told; room = room })) (sym after)
      (store_adds p b (kept_by ns es ps gs) i old.kept v woken told room planned (mapped_at (λ (g : GroupState). g.kept) gs i old found)
      (subst (λ (q : groups.Kept). (event : ℕ) → groups.may_start old.kept event ≡ false → groups.may_start q event ≡ true → Contains told event) is came) stayed
      (subst (λ (q : groups.Kept). (event : ℕ) → Contains told event → Contains woken event ⊎ ((groups.may_start old.kept event ≡ false) × (groups.may_start q event ≡ true))) is only)
      (subst (λ (q : groups.Kept). length told + count_by not q.unqueued.due ≤ length woken + count_by not old.kept.unqueued.due) is counted))

-- ---- room

sum_mapped : {X Y : Type 0} (f : Y → ℕ) (g : X → Y) (xs : List X) → sum_by f (map g xs) ≡ sum_by (λ x. f (g x)) xs
sum_mapped f g [] = refl
sum_mapped f g (x ∷ xs) = sum_by-cons f (g x) (map g xs) ∙ ap (λ n. f (g x) + n) (sum_mapped f g xs) ∙ sym (sum_by-cons (λ y. f (g y)) x xs)

-- no more events are clear than there are
pub clear_few : (ns es ps : List ℕ) (gs : List GroupState) → clear_in (kept_by ns es ps gs) ≤ sum_by (λ (g : GroupState). length g.kept.unqueued.due) gs
clear_few ns es ps gs =
    let clear : groups.Kept → ℕ = λ part. count_by not part.unqueued.due in
    let mapped : sum_by clear (map (λ (g : GroupState). g.kept) gs) ≡ sum_by (λ (g : GroupState). count_by not g.kept.unqueued.due) gs = sum_mapped clear (λ (g : GroupState). g.kept) gs in
    let fewer = sum_by-le-sum_by (λ (g : GroupState). count_by not g.kept.unqueued.due) (λ (g : GroupState). length g.kept.unqueued.due) gs (λ g. count_by-le-length not g.kept.unqueued.due) in
    omega (arith, mapped, fewer)

-- the clear events of one group are among those of all
pub clear_of : (ns es ps : List ℕ) (gs : List GroupState) (i : ℕ) (g : GroupState) → slice_get gs i ≡ Some g → count_by not g.kept.unqueued.due ≤ clear_in (kept_by ns es ps gs)
clear_of ns es ps gs i g found =
    let clear : GroupState → ℕ = λ h. count_by not h.kept.unqueued.due in
    let mapped : clear_in (kept_by ns es ps gs) ≡ sum_by clear gs = sum_mapped (λ (part : groups.Kept). count_by not part.unqueued.due) (λ (h : GroupState). h.kept) gs in
    let own : clear (get_or gs i g) ≤ sum_by clear gs = get_or-le-sum_by clear gs i g (slice_get_within gs i g found) in
    let it : clear (get_or gs i g) ≡ clear g = ap clear (get_or_from_slice_get gs i g g found) in
    omega (arith, mapped, own, it)

-- ---- places

pub route_within : (places : List ℕ) (n i j : ℕ) → list_all (λ k. nat_lt k n) places ≡ true → slice_get places i ≡ Some j → j < n
route_within places n i j all at = ltb-true j n (all_at (λ k. nat_lt k n) places i j all at)

pub place_below : (g : ℕ) (numbers : List ℕ) (n : ℕ) (o : Option ℕ) → length numbers ≡ n → o ≡ place g numbers → IfSome o (λ i. i < n)
place_below g numbers n None long is = tt
place_below g numbers n (Some i) long is = omega (arith, place_within g numbers i (sym is), long)
