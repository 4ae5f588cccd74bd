-- In a sound plan a group with a queued element is a group of queued elements, and its queues are few enough.
use Rattle.std.proofs.Common.{◌≡◌, ◌<◌, ◌≤◌, ◌+◌, ◌^◌, ℕ, zero, suc, Bool, true, false, ◌&&◌, ◌||◌, ◌==◌, not, if◌then◌else◌, refl, sym, ◌∙◌, ap, subst, arith, List, [], ◌∷◌, length, map}
use Rattle.std.proofs.Common.{take, get_or, Some}
use Rattle.std.specs.Prelude.{filter, sum}
use Rattle.bus_semantics.specs.Common.{list_all, slice_get, sum_by, option_map_or, and_parts, eq-eqb, eqb-true, false≢true, leb-true, take_more, take_all, slice_get-get_or, Plan, look}
use Rattle.bus_semantics.specs.Common.{positions, is_queued, is_unqueued, is_in_group, places_at, is_variable, agrees, IsSound, sum_over, queue_lengths}
use Rattle.std.proofs.lemmas.List.Sums.{sum-map, sum_by-append}
use Rattle.bus_laws.specs.Common.{ElemPlan, ElemKind, Unqueued, Queued, Variable, Mapping}
use Rattle.object_kinds.specs.Layout.{members_of}
use Rattle.object_kinds.proofs.Lists.{all_at}
use Rattle.object_kinds.proofs.Members.{member_of, member_placed, members_all, inside_within}
use Rattle.object_kinds.proofs.Placing.{place_at}
use Rattle.queue_objects.specs.Layout.{is_receiver_at, receivers_of, is_queued_at, words_at, words_in, IsQueuedGroup}
use Rattle.queue_objects.proofs.Contents.{receiver_at}
use Rattle.queue_objects.proofs.Picking.{receiver_inside}

-- ---- the elements of a group are of one kind, and have as many words

record Alike (e f : ElemPlan) : Type 0 where
  kind : is_queued e ≡ true → is_queued f ≡ true
  words : e.words ≡ f.words

queued_both : (e f : ElemPlan) (k : ElemKind) → e.kind ≡ k → ((is_queued e && is_queued f) || (is_unqueued e && is_unqueued f) || (is_variable e && is_variable f)) ≡ true → is_queued e ≡ true → is_queued f ≡ true
queued_both e f Queued is kinds queued = by_kind f.kind refl
  where
    by_kind : (k : ElemKind) → f.kind ≡ k → is_queued f ≡ true
    by_kind Queued same = rw same refl
    by_kind Unqueued same = let no = rw (is, same) at kinds in absurd (false≢true no)
    by_kind Variable same = let no = rw (is, same) at kinds in absurd (false≢true no)
queued_both e f Unqueued is kinds queued = let no = rw is at queued in absurd (false≢true no)
queued_both e f Variable is kinds queued = let no = rw is at queued in absurd (false≢true no)

module _ (p : Plan) (m : Mapping) (sound : IsSound p m) where
  alike : (x y : ℕ) (e f : ElemPlan) → slice_get p.elements x ≡ Some e → slice_get p.elements y ≡ Some f → e.group ≡ f.group → Alike e f
  alike x y e f at_x at_y together =
      let pairs : list_all (λ a. list_all (agrees a) p.elements) p.elements ≡ true = (and_parts (list_all (λ a. list_all (agrees a) p.elements) p.elements) _ sound.joins).0 in
      let agree : agrees e f ≡ true = all_at (agrees e) p.elements y f (all_at (λ a. list_all (agrees a) p.elements) p.elements x e pairs at_x) at_y in
      let same : (e.group == f.group) ≡ true = eq-eqb e.group f.group together in
      let parts = and_parts _ _ (rw same at agree) in
      record {
        kind = queued_both e f e.kind refl parts.0;
        words = eqb-true e.words f.words (and_parts (e.words == f.words) _ parts.1).0;
      }

  group_queued : (g x : ℕ) → is_in_group p g x ≡ true → is_queued_at p x ≡ true → (y : ℕ) → is_in_group p g y ≡ true → is_queued_at p y ≡ true
  group_queued g x in_x queued y in_y =
      let at_x = member_of p g x in_x in
      let at_y = member_of p g y in_y in
      let both = alike x y at_x.elem at_y.elem at_x.found at_y.found (at_x.group ∙ sym at_y.group) in
      ap (λ o. option_map_or is_queued o false) at_y.found ∙ both.kind (sym (ap (λ o. option_map_or is_queued o false) at_x.found) ∙ queued)

  group_long : (g x : ℕ) → is_in_group p g x ≡ true → (y : ℕ) → is_in_group p g y ≡ true → words_at p x ≡ words_at p y
  group_long g x in_x y in_y =
      let at_x = member_of p g x in_x in
      let at_y = member_of p g y in_y in
      let both = alike x y at_x.elem at_y.elem at_x.found at_y.found (at_x.group ∙ sym at_y.group) in
      ap (λ o. option_map_or (λ (e : ElemPlan). e.words) o 0) at_x.found ∙ both.words ∙ sym (ap (λ o. option_map_or (λ (e : ElemPlan). e.words) o 0) at_y.found)

  -- as one of the first element
  words_first : (g x : ℕ) (xs : List ℕ) → members_of p g ≡ xs → is_in_group p g x ≡ true → words_at p x ≡ words_in p g
  words_first g x [] none inside = let at = member_placed p g x inside in absurd (cc (sym (ap (λ ys. slice_get ys at.at) none) ∙ place_at x (members_of p g) at.at at.is))
  words_first g x (y ∷ ys) first inside =
      let there : slice_get (members_of p g) 0 ≡ Some y = ap (λ zs. slice_get zs 0) first in
      let in_y : is_in_group p g y ≡ true = all_at (is_in_group p g) (members_of p g) 0 y (members_all p g) there in
      group_long g x inside y in_y ∙ sym (ap (λ o. option_map_or (words_at p) o 0) there)

  all_pass : (t ok : ℕ → Bool) (xs : List ℕ) → list_all ok xs ≡ true → ((x : ℕ) → ok x ≡ true → t x ≡ true) → list_all t xs ≡ true
  all_pass t ok [] all each = refl
  all_pass t ok (x ∷ xs) all each = let parts = and_parts (ok x) (list_all ok xs) all in
      λ i. each x parts.0 i && all_pass t ok xs parts.1 each i

  pub queued_group : (g x : ℕ) → is_in_group p g x ≡ true → is_queued_at p x ≡ true → IsQueuedGroup p g
  queued_group g x inside queued = record {
    number = inside_within p x g sound.groups inside;
    queued = all_pass (is_queued_at p) (is_in_group p g) (members_of p g) (members_all p g) (group_queued g x inside queued);
    alike = all_pass (λ y. words_at p y == words_in p g) (is_in_group p g) (members_of p g) (members_all p g) (λ y in_y. eq-eqb (words_at p y) (words_in p g) (words_first g y (members_of p g) refl in_y));
  }

-- ---- how many places their queues have

-- the length of the element's queue, where it has one
abbrev places_queued : ElemPlan → ℕ
places_queued e = if is_queued e && not e.provided then e.queue_length else 0

sum_one : {X : Type 0} (f : X → ℕ) (x : X) → sum_by f (x ∷ []) ≡ f x
sum_one f x = omega arith

sum_first : {X : Type 0} (f : X → ℕ) (x : X) (xs : List X) → sum_by f (x ∷ xs) ≡ f x + sum_by f xs
sum_first f x xs = sum_by-append f (x ∷ []) xs ∙ ap (λ n. n + sum_by f xs) (sum_one f x)

sums_agree : (f : ElemPlan → ℕ) (es : List ElemPlan) → sum_over f es ≡ sum_by f es
sums_agree f [] = refl
sums_agree f (e ∷ es) = ap (λ n. f e + n) (sums_agree f es) ∙ sym (sum_first f e es)

-- what is picked by place sums up to no more than all
picked_sum : (f h : ℕ → ℕ) (ok : ℕ → Bool) (xs : List ℕ) → ((x : ℕ) → ok x ≡ true → f x ≤ h x) → sum_by f (filter ok xs) ≤ sum_by h xs
picked_sum f h ok [] each = omega arith
picked_sum f h ok (x ∷ xs) each = by_test (ok x) refl (picked_sum f h ok xs each)
  where
    by_test : (b : Bool) → ok x ≡ b → sum_by f (filter ok xs) ≤ sum_by h xs → sum_by f (if b then x ∷ filter ok xs else filter ok xs) ≤ sum_by h (x ∷ xs)
    by_test true is rest =
        let here : f x ≤ h x = each x is in
        let picked : sum_by f (x ∷ filter ok xs) ≡ f x + sum_by f (filter ok xs) = sum_first f x (filter ok xs) in
        let all : sum_by h (x ∷ xs) ≡ h x + sum_by h xs = sum_first h x xs in
        omega arith
    by_test false is rest =
        let all : sum_by h (x ∷ xs) ≡ h x + sum_by h xs = sum_first h x xs in
        subst (λ n. sum_by f (filter ok xs) ≤ n) (sym all) (omega arith)

-- what stands by place sums up to what stands in the list
placed_sum : (f : ElemPlan → ℕ) (es : List ElemPlan) (n : ℕ) → n ≤ length es → sum_by (λ y. look es y f 0) (positions n) ≡ sum_by f (take n es)
placed_sum f es zero within = refl
placed_sum f [] (suc n) within = absurd (omega arith)
placed_sum f (e ∷ es) (suc n) within =
    let less : n < length (e ∷ es) = omega arith in
    let next : suc n ≡ n + 1 = omega arith in
    let here : look (e ∷ es) n f 0 ≡ f (get_or (e ∷ es) n e) = ap (λ o. option_map_or f o 0) (slice_get-get_or (e ∷ es) n e less) in
    let before : sum_by (λ y. look (e ∷ es) y f 0) (positions n) ≡ sum_by f (take n (e ∷ es)) = placed_sum f (e ∷ es) n (omega arith) in
    sum_by-append (λ y. look (e ∷ es) y f 0) (positions n) (n ∷ [])
    ∙ (λ i. before i + (sum_one (λ y. look (e ∷ es) y f 0) n ∙ here ∙ sym (sum_one f (get_or (e ∷ es) n e))) i)
    ∙ sym (sum_by-append f (take n (e ∷ es)) (get_or (e ∷ es) n e ∷ []))
    ∙ ap (sum_by f) (sym (take_more (e ∷ es) n e less))
    ∙ ap (λ k. sum_by f (take k (e ∷ es))) (sym next)

pub few_places : (p : Plan) (m : Mapping) (g : ℕ) → IsSound p m → IsQueuedGroup p g → sum (map (places_at p) (receivers_of p g)) < 2 ^ 32
few_places p m g sound is_group =
    let all = positions (length p.elements) in
    let own : (y : ℕ) → is_receiver_at p g y ≡ true → places_at p y ≤ look p.elements y places_queued 0 =
    λ y is.
    let r = receiver_at p g y is in
    let at = member_placed p g y (receiver_inside p g y is) in
    let queued : is_queued_at p y ≡ true = all_at (is_queued_at p) (members_of p g) at.at y is_group.queued (place_at y (members_of p g) at.at at.is) in
    let is_one : is_queued r.elem ≡ true = sym (ap (λ o. option_map_or is_queued o false) r.found) ∙ queued in
    let length_is : places_at p y ≡ r.elem.queue_length = ap (λ o. option_map_or (λ (e : ElemPlan). e.queue_length) o 0) r.found in
    let counted : look p.elements y places_queued 0 ≡ r.elem.queue_length =
    ap (λ o. option_map_or places_queued o 0) r.found ∙ (λ i. if is_one i && r.required i then r.elem.queue_length else 0) in
    omega arith in
    let fewer : sum_by (places_at p) (receivers_of p g) ≤ sum_by (λ y. look p.elements y places_queued 0) all = picked_sum (places_at p) (λ y. look p.elements y places_queued 0) (is_receiver_at p g) all own in
    let whole : sum_by (λ y. look p.elements y places_queued 0) all ≡ sum_over places_queued p.elements =
    placed_sum places_queued p.elements (length p.elements) (omega arith) ∙ ap (sum_by places_queued) (take_all (length p.elements) p.elements (omega arith)) ∙ sym (sums_agree places_queued p.elements) in
    let few : queue_lengths p ≤ 65536 = leb-true (queue_lengths p) 65536 sound.lengths in
    let counted : sum (map (places_at p) (receivers_of p g)) ≡ sum_by (places_at p) (receivers_of p g) = sum-map (places_at p) (receivers_of p g) in
    omega arith
