-- The pump's order of feeds, call by call.
use Rattle.std.proofs.Common.{◌≡◌, ◌≢◌, ◌<◌, ◌≤◌, ◌⊎◌, ⊎_elim, ◌+◌, ◌-◌, ℕ, zero, suc, refl, sym, ◌∙◌, ap, subst, arith, List, [], ◌∷◌, ◌++◌, map, set, get_or, length, true, Some, Vec}
use Rattle.std.specs.Prelude.{sum}
use Rattle.bus_semantics.specs.Common.{Global, slice_get, All, cases_lt, length_push, length-map, get_or-set_same, get_or-set_other, option_map, get_or_from_slice_get, slice_get_within}
use Rattle.bus_semantics.specs.Common.{slice_get-map, slice_get_read, All-nil, wish_fits, Plan, Wanted, wanted_of}
use Rattle.std.proofs.lemmas.List.{get_or_past}
use Rattle.std.proofs.lemmas.List.Sums.{sum_by-set, get_or-le-sum_by}
use Rattle.std.proofs.Math.Nat.{eq-or-lt_of_le}
use Rattle.std.proofs.lemmas.List.Elements.{All-push}
use mathlib.Core.Logic.{dite}
use native.Mathlib.Decide.{ℕ_discrete}
use Rattle.bus_laws.specs.Common.{Env, Stamped, Wish}
use Rattle.core_lanes.specs.Calling.{IsCall}
use Rattle.feed_queue.specs.Feeds.{length_of, times}
use Rattle.feed_queue.proofs.Counts.{times_last, times_other, times_within}
use Rattle.feed_queue.specs.declared.feeds.Feeds.{Feeds}
use Rattle.feed_queue.specs.Given.{lengths_of}
use Rattle.feed_queue.specs.Gifts.{wishes_at}
use Rattle.live_lanes.specs.Callers.{AreCalls, AreAllCalls}
use Rattle.live_lanes.specs.Calls.{HasCalled, wish_in, wishes_in}
use Rattle.live_lanes.specs.Drawn.{AreWished, IsDrawn, wanted_at}
use Rattle.live_lanes.proofs.Drawing.{none_drawn, drawn_on, wishes_on}

-- ---- each feed as often as it is long

-- a feed that is named less often than it is long might be shorter by one
fewer_at : (lengths order : List ℕ) (f : ℕ) → f < length lengths → times f order < length_of lengths f → ((g : ℕ) → times g order ≤ length_of lengths g)
    → (g : ℕ) → times g order ≤ length_of (set lengths f (length_of lengths f - 1)) g
fewer_at lengths order f there short all g = dite (ℕ_discrete g f)
    (λ is. subst (λ (x : ℕ). times x order ≤ length_of (set lengths f (length_of lengths f - 1)) x) (sym is) (omega (arith, short, get_or-set_same lengths f (length_of lengths f - 1) 0 there)))
    (λ ne. omega (arith, all g, get_or-set_other lengths f g (length_of lengths f - 1) 0 ne))

-- if as many are named as the feeds are long in all, each is named as often as it is long
times_whole : (lengths order : List ℕ) → ((f : ℕ) → times f order ≤ length_of lengths f) → length order ≡ sum lengths → (f : ℕ) → times f order ≡ length_of lengths f
times_whole lengths order all long f = ⊎_elim (λ is. is) (λ short. absurd (missing short)) (eq-or-lt_of_le (all f))
  where
    missing : times f order < length_of lengths f → ⊥
    missing short =
        let there : f < length lengths = ⊎_elim (λ less. less) (λ past. absurd (omega (arith, short, get_or_past lengths f 0 past))) (cases_lt f (length lengths)) in
        let e : sum (set lengths f (length_of lengths f - 1)) + length_of lengths f ≡ sum lengths + (length_of lengths f - 1) = sum_by-set (λ (x : ℕ). x) lengths f (length_of lengths f - 1) 0 there in
        let few : length order ≤ sum (set lengths f (length_of lengths f - 1)) = times_within (set lengths f (length_of lengths f - 1)) order (fewer_at lengths order f there short all) in
        omega (arith, e, few, long, short)

-- ---- call by call

-- a feed as long as the list of its wishes
long_at : (lists : List (Vec Wish Global)) (f : ℕ) → length_of (map (λ (v : Vec Wish Global). length v.items) lists) f ≡ length (wishes_at lists f)
long_at [] f = refl
long_at (v ∷ lists) zero = refl
long_at (v ∷ lists) (suc f) = long_at lists f

pub as_long : (feeds : Feeds) (f : ℕ) → length_of (lengths_of feeds) f ≡ length (wanted_at feeds f)
as_long feeds f = long_at feeds.wishes.items f ∙ sym (length-map (wishes_at feeds.wishes.items f) wanted_of)

module _ (p : Plan) (feeds : Feeds) where
  pub no_calls : (order : List ℕ) (made : List Stamped) → order ≡ [] → made ≡ [] → AreCalls p feeds order made
  no_calls order made none nothing = subst (λ o. AreCalls p feeds o made) (sym none) (subst (AreCalls p feeds []) (sym nothing) (record {
    called = All-nil (IsCall p);
    drawn = none_drawn feeds;
    within = λ f. omega arith;
  }))

  module _ (order : List ℕ) (made : List Stamped) (are : AreCalls p feeds order made) where
    pub as_many : length made ≡ length order
    as_many = sym (length-map made wish_in) ∙ are.drawn.count

    pub few : length order ≤ sum (lengths_of feeds)
    few = times_within (lengths_of feeds) order are.within

    module _ (f : ℕ) (left : times f order < length_of (lengths_of feeds) f) where
      within_on : (g : ℕ) → times g (order ++ f ∷ []) ≤ length_of (lengths_of feeds) g
      within_on g = dite (ℕ_discrete g f)
          (λ is. subst (λ x. times x (order ++ f ∷ []) ≤ length_of (lengths_of feeds) x) (sym is) (omega (arith, times_last f order, left)))
          (λ ne. omega (arith, times_other g f order ne, are.within g))

      -- there is a place for one more
      pub fewer : length made < sum (lengths_of feeds)
      fewer = omega (arith, as_many, times_within (lengths_of feeds) (order ++ f ∷ []) within_on, length_push order f)

      pub calls_on : (number : ℕ) (w : Wanted) (longer : List ℕ) (after : List Stamped) → number ≡ times f order → slice_get (wanted_at feeds f) number ≡ Some w
          → longer ≡ order ++ f ∷ [] → HasCalled p w made after → AreCalls p feeds longer after
      calls_on number w longer after is wish popped called = subst (λ o. AreCalls p feeds o after) (sym popped) (subst (AreCalls p feeds (order ++ f ∷ [])) (sym called.added) (record {
        called = All-push (IsCall p) made called.made are.called called.call;
        drawn = subst (IsDrawn feeds (order ++ f ∷ [])) (sym (wishes_on made called.made ∙ ap (λ x. wishes_in made ++ x ∷ []) called.wish))
            (drawn_on feeds order f (wishes_in made) w are.drawn (sym (ap (slice_get (wanted_at feeds f)) is) ∙ wish));
        within = within_on;
      }))

    -- all of them
    pub all_calls : length order ≡ sum (lengths_of feeds) → AreAllCalls p feeds order made
    all_calls long = record {
      called = are.called;
      drawn = are.drawn;
      whole = λ f. times_whole (lengths_of feeds) order are.within long f ∙ as_long feeds f;
    }

-- what is drawn of a feed the environment may have
pub may_have : (p : Plan) (feeds : Feeds) (f n : ℕ) (w : Wanted) → AreWished p feeds → slice_get (wanted_at feeds f) n ≡ Some w → wish_fits p Env w ≡ true
may_have p feeds f n w wished found = subst (λ v. wish_fits p Env v ≡ true) (get_or_from_slice_get (wanted_at feeds f) n w w found) (wished.fit f n w (slice_get_within (wanted_at feeds f) n w found))

-- ---- the list of a feed, and a wish in it

list_at : (lists : List (Vec Wish Global)) (f : ℕ) (d : Vec Wish Global) → f < length lists → wishes_at lists f ≡ (get_or lists f d).items
list_at [] f d less = absurd (omega arith)
list_at (v ∷ lists) zero d less = refl
list_at (v ∷ lists) (suc f) d less = list_at lists f d (omega arith)

module _ (feeds : Feeds) (f n : ℕ) (is : n < length_of (lengths_of feeds) f) where
  pub feed_within : f < length feeds.wishes.items
  feed_within = ⊎_elim (λ less. less) (λ past. absurd (omega (arith, is, get_or_past (lengths_of feeds) f 0 (omega (arith, past, length-map feeds.wishes.items (λ (v : Vec Wish Global). length v.items)))))) (cases_lt f (length feeds.wishes.items))

  pub wish_within : (v : Vec Wish Global) → v ≡ get_or feeds.wishes.items f v → n < length v.items
  wish_within v at = omega (arith, is, long_at feeds.wishes.items f, ap (λ (ws : List Wish). length ws) (list_at feeds.wishes.items f v feed_within), ap (λ (x : Vec Wish Global). length x.items) at)

  pub wish_is : (v : Vec Wish Global) (w : Wish) → v ≡ get_or feeds.wishes.items f v → w ≡ get_or v.items n w → slice_get (wanted_at feeds f) n ≡ Some (wanted_of w)
  wish_is v w at found =
      let list : wishes_at feeds.wishes.items f ≡ v.items = list_at feeds.wishes.items f v feed_within ∙ ap (λ (x : Vec Wish Global). x.items) (sym at) in
      ap (λ ws. slice_get (map wanted_of ws) n) list ∙ slice_get-map wanted_of v.items n ∙ ap (option_map wanted_of) (slice_get_read v.items (length v.items) n w refl (wish_within v at) found)

-- no list is longer than all together
one_within : (lengths : List ℕ) (f : ℕ) → length_of lengths f ≤ sum lengths
one_within lengths f = ⊎_elim (λ less. get_or-le-sum_by (λ (x : ℕ). x) lengths f 0 less) (λ past. omega (arith, get_or_past lengths f 0 past)) (cases_lt f (length lengths))

pub feed_few : (feeds : Feeds) (f : ℕ) (v : Vec Wish Global) → f < length feeds.wishes.items → v ≡ get_or feeds.wishes.items f v → sum (lengths_of feeds) ≤ 65536 → length v.items ≤ 65536
feed_few feeds f v less at few =
    omega (arith, few, one_within (lengths_of feeds) f, long_at feeds.wishes.items f, ap (λ (ws : List Wish). length ws) (list_at feeds.wishes.items f v less), ap (λ (x : Vec Wish Global). length x.items) at)
