-- A new clock: the groups of its flags, which are the places of the periods among the distinct ones.
use Rattle.std.proofs.Common.{◌≡◌, ◌<◌, ◌≤◌, ◌-◌, ℕ, refl, sym, ◌∙◌, ap, subst, arith, Bool, true, false, List, [], ◌∷◌, ◌++◌, length, map, get_or, if◌then◌else◌, Some, All}
use Rattle.std.specs.List.{slice_get}
use Rattle.std.proofs.lemmas.List.{get_or-map, get_or_append_left, length-map, length_push, map_push}
use Rattle.std.proofs.lemmas.List.Elements.{All-head, All-map, All-nil, All-push, All-tail, All-weaker}
use Rattle.std.proofs.lemmas.Option.{get_or_from_slice_get, slice_get_within}
use Rattle.latches.specs.Latches.{Latch, clear_in}
use Rattle.tick_events.specs.Countdowns.{Countdown, whole}
use Rattle.tick_events.specs.Kept.{fresh_timer}
use Rattle.tick_events.specs.Running.{IsRunning, IsWithin, kept_at, kept_timer}

-- the period at each of these places
abbrev pub periods_at : (distinct groups : List ℕ) → List ℕ
periods_at ds gs = map (λ g. get_or ds g 0) gs

pub record AreGroups (periods distinct groups : List ℕ) : Type 0 where
  pub least : All (λ p. 1 ≤ p) distinct
  pub there : All (λ g. g < length distinct) groups
  pub are : periods_at distinct groups ≡ periods

pub no_groups : (distinct groups : List ℕ) → distinct ≡ [] → groups ≡ [] → AreGroups [] distinct groups
no_groups ds gs no_distinct none = subst (λ xs. AreGroups [] xs gs) (sym no_distinct) (subst (AreGroups [] []) (sym none) (record { least = All-nil (λ p. 1 ≤ p); there = All-nil (λ g. g < 0); are = refl }))

-- a further period leaves those before it where they are
before_it : (ds more gs : List ℕ) → All (λ g. g < length ds) gs → periods_at (ds ++ more) gs ≡ periods_at ds gs
before_it ds more [] there = refl
before_it ds more (g ∷ gs) there =
    ap (λ p. p ∷ periods_at (ds ++ more) gs) (get_or_append_left ds more 0 g (All-head (λ h. h < length ds) g gs there))
    ∙ ap (λ ps. get_or ds g 0 ∷ ps) (before_it ds more gs (All-tail (λ h. h < length ds) g gs there))

module _ (periods ds gs : List ℕ) (period g : ℕ) (least : 1 ≤ period) (groups : AreGroups periods ds gs) where
  -- one flag more, whose period is there
  with_flag : slice_get ds g ≡ Some period → AreGroups (periods ++ period ∷ []) ds (gs ++ g ∷ [])
  with_flag found = record {
    least = groups.least;
    there = All-push (λ h. h < length ds) gs g groups.there (slice_get_within ds g period found);
    are = map_push (λ h. get_or ds h 0) gs g ∙ ap (λ p. periods_at ds gs ++ p ∷ []) (get_or_from_slice_get ds g period 0 found) ∙ ap (λ ps. ps ++ period ∷ []) groups.are;
  }

with_period : (periods ds gs : List ℕ) (period : ℕ) → 1 ≤ period → AreGroups periods ds gs → AreGroups periods (ds ++ period ∷ []) gs
with_period periods ds gs period least groups = record {
  least = All-push (λ p. 1 ≤ p) ds period groups.least least;
  there = All-weaker (λ g. g < length ds) (λ g. g < length (ds ++ period ∷ [])) (λ g below. omega (arith, length_push ds period)) gs groups.there;
  are = before_it ds (period ∷ []) gs groups.there ∙ groups.are;
}

pub one_more : (periods ds more gs : List ℕ) (period g : ℕ) (is_there : Bool) → 1 ≤ period → AreGroups periods ds gs → more ≡ (if is_there then ds else ds ++ period ∷ []) → slice_get more g ≡ Some period
    → AreGroups (periods ++ period ∷ []) more (gs ++ g ∷ [])
one_more periods ds more gs period g true least groups is found = subst (λ xs. AreGroups (periods ++ period ∷ []) xs (gs ++ g ∷ [])) (sym is) (with_flag periods ds gs period g least groups (ap (λ xs. slice_get xs g) (sym is) ∙ found))
one_more periods ds more gs period g false least groups is found =
    subst (λ xs. AreGroups (periods ++ period ∷ []) xs (gs ++ g ∷ [])) (sym is)
    (with_flag periods (ds ++ period ∷ []) gs period g least (with_period periods ds gs period least groups) (ap (λ xs. slice_get xs g) (sym is) ∙ found))

-- ---- the clock over them

pub running : (periods ds gs : List ℕ) → AreGroups periods ds gs → IsRunning (map whole ds) (map clear_in gs)
running periods ds gs groups = record {
  fit = record {
    within = All-map IsWithin whole ds (λ k d at. (groups.least k d at, omega arith));
    there = All-map (λ (l : Latch). l.group < length (map whole ds)) clear_in gs (λ k d at. let below = groups.there k d at in omega (arith, length-map ds whole));
  };
  going = All-map (λ (c : Countdown). 1 ≤ c.left) whole ds groups.least;
}

fresh_at : (period : ℕ) → kept_at (whole period) false ≡ fresh_timer period
fresh_at period = let none : period - period ≡ 0 = omega arith in ap (λ (n : ℕ). record { period = period; passed = n; due = false }) none

all_fresh : (ds gs : List ℕ) → All (λ g. g < length ds) gs → map (kept_timer (map whole ds)) (map clear_in gs) ≡ map fresh_timer (periods_at ds gs)
all_fresh ds [] there = refl
all_fresh ds (g ∷ gs) there =
    ap (λ t. t ∷ map (kept_timer (map whole ds)) (map clear_in gs)) (ap (λ c. kept_at c false) (get_or-map whole ds g 0 (whole 0) (All-head (λ h. h < length ds) g gs there)) ∙ fresh_at (get_or ds g 0))
    ∙ ap (λ ts. fresh_timer (get_or ds g 0) ∷ ts) (all_fresh ds gs (All-tail (λ h. h < length ds) g gs there))

pub fresh_kept : (periods ds gs : List ℕ) → AreGroups periods ds gs → map (kept_timer (map whole ds)) (map clear_in gs) ≡ map fresh_timer periods
fresh_kept periods ds gs groups = all_fresh ds gs groups.there ∙ ap (map fresh_timer) groups.are
