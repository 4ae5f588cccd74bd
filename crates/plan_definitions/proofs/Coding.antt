-- Runnables of one code have one program and one signature.
use Rattle.std.proofs.Common.{◌≡◌, ℕ, zero, suc, List, [], ◌∷◌, ◌++◌, Option, Some, None, slice_get, option_map, sym, ap, ◌∙◌, subst}
use Rattle.bus_semantics.specs.Common.{option_map_or, Coded, HaveOneCode, coded_of}
use Rattle.bus_semantics.specs.declared.plan.RunnablePlan.{RunnablePlan}
use Rattle.plan_definitions.specs.Common.{Component, Runnable, Description, coded_in, coded_at, IsCoded, AreCoded}

module _ (d : Description) where
  -- none
  pub coded_none : AreCoded d []
  coded_none i r there = absurd (cc)

  -- one more
  more : (old : List RunnablePlan) (x : RunnablePlan) → AreCoded d old → IsCoded d x → AreCoded d (old ++ x ∷ [])
  more [] x before is zero r there = let same : x ≡ r = cc in subst (IsCoded d) same is
  more [] x before is (suc i) r there = absurd (cc)
  more (y ∷ old) x before is zero r there = before zero r there
  more (y ∷ old) x before is (suc i) r there = more old x (λ j s at. before (suc j) s at) is i r there

  pub coded_more : (old new : List RunnablePlan) (x : RunnablePlan) → new ≡ old ++ x ∷ [] → AreCoded d old → IsCoded d x → AreCoded d new
  coded_more old new x put before is = subst (AreCoded d) (sym put) (more old x before is)

  -- the runnable of a component in its place
  pub coded_there : (n m : ℕ) (c : Component) (r : Runnable) → slice_get d.components n ≡ Some c → slice_get c.behavior.runnables m ≡ Some r → coded_at d (n, m) ≡ Some (coded_in d c r)
  coded_there n m c r there here =
      ap (λ o. option_map_or (λ (c : Component). option_map (coded_in d c) (slice_get c.behavior.runnables m)) o None) there ∙ ap (option_map (coded_in d c)) here

  pub one_code : (rs : List RunnablePlan) → AreCoded d rs → HaveOneCode rs
  one_code rs coded i j r s here there same =
      let both : Some (coded_of r) ≡ Some (coded_of s) = sym (coded i r here) ∙ ap (coded_at d) same ∙ coded j s there in
      cc
