-- Which bundles coherent lists touch, as the lists are read one by one.
use Rattle.std.proofs.Common.{◌≡◌, ◌<◌, ◌≤◌, ◌+◌, ℕ, zero, suc, Bool, true, false, ◌||◌, ◌==◌, refl, sym, ◌∙◌, ap, arith, List, [], ◌∷◌, length, set, replicate, take, Option, Some, None}
use Rattle.std.specs.Prelude.{option_and_then}
use Rattle.bus_semantics.specs.Common.{list_any, slice_get, eq-eqb, ne_eqb, option_map_or, length-set, take_all, same_Some, same_number, Plan, group_of, home_of, bundle_of, bundles_fit}
use Rattle.bus_semantics.specs.declared.plan.CoherentList.{CoherentList}
use Rattle.object_kinds.proofs.Options.{then_some}
use Rattle.object_kinds.proofs.Ranges.{homes_within}
use Rattle.port_objects.specs.Plans.{is_listed}

-- the list touches the bundle
abbrev pub touches_it : Plan → (bundle : ℕ) → CoherentList → Bool
touches_it p b c = same_number (option_and_then (bundle_of p) (slice_get c.elems 0)) (Some b)

-- what is marked is what the first lists touch
abbrev pub AreListed : Plan → (count : ℕ) → (marks : List Bool) → Type 0
AreListed p n marks = (b : ℕ) (is : Bool) → slice_get marks b ≡ Some is → is ≡ list_any (touches_it p b) (take n p.lists)

-- what a list touches is one of the plan's bundles
pub touched_within : (p : Plan) → bundles_fit p ≡ true → (o : Option ℕ) (b : ℕ) → option_and_then (bundle_of p) o ≡ Some b → b < length p.bundles
touched_within p fit o b is =
    let elem = then_some (bundle_of p) o b is in
    let group = then_some (home_of p) (group_of p elem.item) b elem.gives in
    homes_within p fit group.item b group.gives

unmarked : (n b : ℕ) (is : Bool) → slice_get (replicate n false) b ≡ Some is → is ≡ false
unmarked zero b is there = absurd (cc there)
unmarked (suc n) zero is there = sym (same_Some false is there)
unmarked (suc n) (suc b) is there = unmarked n b is there

pub none_yet : (p : Plan) (n : ℕ) (marks : List Bool) → marks ≡ replicate n false → AreListed p 0 marks
none_yet p n marks are = λ b is there. unmarked n b is (sym (ap (λ ms. slice_get ms b) are) ∙ there)

-- what is read where one was marked
data Read (i b : ℕ) (is : Bool) (marks : List Bool) : Type 0 where
  here : i ≡ b → is ≡ true → Read i b is marks
  elsewhere : (i ≡ b → ⊥) → slice_get marks b ≡ Some is → Read i b is marks

reading : (marks : List Bool) (i b : ℕ) (is : Bool) → slice_get (set marks i true) b ≡ Some is → Read i b is marks
reading [] i b is there = absurd (cc there)
reading (m ∷ marks) zero zero is there = here refl (sym (same_Some true is there))
reading (m ∷ marks) zero (suc b) is there = elsewhere (λ e. omega (arith, e)) there
reading (m ∷ marks) (suc i) zero is there = elsewhere (λ e. omega (arith, e)) there
reading (m ∷ marks) (suc i) (suc b) is there = deeper (reading marks i b is there)
  where
    deeper : Read i b is marks → Read (suc i) (suc b) is (m ∷ marks)
    deeper (here same on) = here (ap suc same) on
    deeper (elsewhere other found) = elsewhere (λ e. other (omega (arith, e))) found

-- one more of some items
any_more : (f : CoherentList → Bool) (cs : List CoherentList) (n : ℕ) (c : CoherentList) → slice_get cs n ≡ Some c → list_any f (take (n + 1) cs) ≡ (list_any f (take n cs) || f c)
any_more f [] n c at = absurd (cc at)
any_more f (d ∷ cs) zero c at = let same : d ≡ c = same_Some d c at in by_one (f d) (ap f same)
  where
    by_one : (t : Bool) → t ≡ f c → (t || list_any f (take 0 cs)) ≡ (false || f c)
    by_one true is = is
    by_one false is = is
any_more f (d ∷ cs) (suc n) c at =
    let on : suc n + 1 ≡ suc (n + 1) = omega arith in
    ap (λ k. list_any f (take k (d ∷ cs))) on ∙ ap (λ t. f d || t) (any_more f cs n c at) ∙ or_assoc (f d) (list_any f (take n cs)) (f c)
  where
    or_assoc : (s t u : Bool) → (s || (t || u)) ≡ ((s || t) || u)
    or_assoc true t u = refl
    or_assoc false t u = refl

or_true : (t : Bool) → (t || true) ≡ true
or_true true = refl
or_true false = refl

or_false : (t : Bool) → (t || false) ≡ t
or_false true = refl
or_false false = refl

-- what stands after one more list
abbrev pub marked_by : Option ℕ → (marks : List Bool) → List Bool
marked_by o marks = option_map_or (λ bundle. set marks bundle true) o marks

pub as_long : (o : Option ℕ) (marks : List Bool) → length (marked_by o marks) ≡ length marks
as_long None marks = refl
as_long (Some bundle) marks = length-set marks bundle true

module _ (p : Plan) (n : ℕ) (c : CoherentList) (at : slice_get p.lists n ≡ Some c) (marks : List Bool) (so_far : AreListed p n marks) where
  one_list : (o : Option ℕ) → option_and_then (bundle_of p) (slice_get c.elems 0) ≡ o → AreListed p (n + 1) (marked_by o marks)
  one_list None none = λ b is there.
      so_far b is there
      ∙ sym (any_more (touches_it p b) p.lists n c at ∙ ap (λ o. list_any (touches_it p b) (take n p.lists) || same_number o (Some b)) none ∙ or_false (list_any (touches_it p b) (take n p.lists)))
  one_list (Some bundle) one = λ b is there. by_place b is (reading marks bundle b is there)
    where
      more : (b : ℕ) → list_any (touches_it p b) (take (n + 1) p.lists) ≡ (list_any (touches_it p b) (take n p.lists) || (bundle == b))
      more b = any_more (touches_it p b) p.lists n c at ∙ ap (λ o. list_any (touches_it p b) (take n p.lists) || same_number o (Some b)) one

      by_place : (b : ℕ) (is : Bool) → Read bundle b is marks → is ≡ list_any (touches_it p b) (take (n + 1) p.lists)
      by_place b is (here same on) =
          on ∙ sym (more b ∙ ap (λ t. list_any (touches_it p b) (take n p.lists) || t) (eq-eqb bundle b same) ∙ or_true (list_any (touches_it p b) (take n p.lists)))
      by_place b is (elsewhere other found) =
          so_far b is found
          ∙ sym (more b ∙ ap (λ t. list_any (touches_it p b) (take n p.lists) || t) (ne_eqb bundle b other) ∙ or_false (list_any (touches_it p b) (take n p.lists)))

  pub list_more : AreListed p (n + 1) (marked_by (option_and_then (bundle_of p) (slice_get c.elems 0)) marks)
  list_more = one_list (option_and_then (bundle_of p) (slice_get c.elems 0)) refl

-- all of them
pub all_listed : (p : Plan) (n : ℕ) (marks : List Bool) → length p.lists ≤ n → AreListed p n marks → (b : ℕ) (is : Bool) → slice_get marks b ≡ Some is → is ≡ is_listed p b
all_listed p n marks past so_far b is there = so_far b is there ∙ ap (list_any (touches_it p b)) (take_all n p.lists past)
