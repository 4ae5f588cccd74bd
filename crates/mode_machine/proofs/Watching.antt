-- Events that modes may disable, as they lie, and the first that holds a mode back.
use Rattle.std.proofs.Common.{◌≡◌, ◌<◌, ◌≤◌, ◌+◌, ◌&&◌, min, ℕ, zero, suc, refl, sym, ◌∙◌, ap, subst, arith, Bool, true, false, List, [], ◌∷◌, length, get_or, map, set, replicate, inl, inr}
use Rattle.std.proofs.Common.{Option, Some, None, Vec}
use Rattle.std.specs.Global.{Global}
use Rattle.std.proofs.lemmas.Bool.{and_parts, cases_eq, cases_lt, false≢true}
use Rattle.std.proofs.lemmas.List.{get_or-set_other, get_or-set_same, get_or_past, length-set}
use Rattle.place_set.specs.Places as places
use Rattle.mode_machine.specs.Chains.{IsFirst, IsNext}
use Rattle.mode_machine.specs.Disabling.{Watched, dependencies, dependency_of, has_mode, holds_at, holds_back, idle_dependency, lesser, modes_in, no_dependency}
use Rattle.mode_machine.proofs.Nexts.{begins_earlier}

-- the modes past the end
abbrev pub modes_at : List (Vec ℕ Global) → (event : ℕ) → List ℕ
modes_at [] event = []
modes_at (modes ∷ disablings) zero = modes.items
modes_at (modes ∷ disablings) (suc event) = modes_at disablings event

pub modes_there : (disablings : List (Vec ℕ Global)) (event : ℕ) (modes : Vec ℕ Global) → event < length disablings → modes ≡ get_or disablings event modes → modes.items ≡ modes_at disablings event
modes_there [] event modes within is = absurd (omega arith)
modes_there (m ∷ disablings) zero modes within is = ap (λ (v : Vec ℕ Global). v.items) is
modes_there (m ∷ disablings) (suc event) modes within is = modes_there disablings event modes (omega (arith, within)) is

pub dependency_there : (disablings : List (Vec ℕ Global)) (running : List Bool) (event : ℕ) → length disablings ≡ length running → event < length running
    → get_or (dependencies disablings running) event no_dependency ≡ dependency_of (modes_at disablings event) (get_or running event false)
dependency_there [] [] event as_many within = absurd (omega arith)
dependency_there [] (runs ∷ running) event as_many within = absurd (omega (arith, as_many))
dependency_there (modes ∷ disablings) [] event as_many within = absurd (omega (arith, as_many))
dependency_there (modes ∷ disablings) (runs ∷ running) zero as_many within = refl
dependency_there (modes ∷ disablings) (runs ∷ running) (suc event) as_many within = dependency_there disablings running event (omega (arith, as_many)) (omega (arith, within))

pub as_many_dependencies : (disablings : List (Vec ℕ Global)) (running : List Bool) → length disablings ≡ length running → length (dependencies disablings running) ≡ length running
as_many_dependencies [] [] as_many = refl
as_many_dependencies [] (runs ∷ running) as_many = absurd (omega (arith, as_many))
as_many_dependencies (modes ∷ disablings) [] as_many = absurd (omega (arith, as_many))
as_many_dependencies (modes ∷ disablings) (runs ∷ running) as_many = ap suc (as_many_dependencies disablings running (omega (arith, as_many)))

pub dependencies_set : (disablings : List (Vec ℕ Global)) (running : List Bool) (event : ℕ) (runs : Bool) → length disablings ≡ length running → event < length running
    → dependencies disablings (set running event runs) ≡ set (dependencies disablings running) event (dependency_of (get_or (dependencies disablings running) event no_dependency).modes runs)
dependencies_set [] [] event now as_many within = absurd (omega arith)
dependencies_set [] (runs ∷ running) event now as_many within = absurd (omega (arith, as_many))
dependencies_set (modes ∷ disablings) [] event now as_many within = absurd (omega (arith, as_many))
dependencies_set (modes ∷ disablings) (runs ∷ running) zero now as_many within = refl
dependencies_set (modes ∷ disablings) (runs ∷ running) (suc event) now as_many within = ap (λ ds. dependency_of modes.items runs ∷ ds) (dependencies_set disablings running event now (omega (arith, as_many)) (omega (arith, within)))

pub idle_dependencies : (disablings : List (Vec ℕ Global)) → dependencies disablings (replicate (length disablings) false) ≡ map idle_dependency (map modes_in disablings)
idle_dependencies [] = refl
idle_dependencies (modes ∷ disablings) = ap (λ ds. idle_dependency modes.items ∷ ds) (idle_dependencies disablings)

abbrev pub lying : List (Vec ℕ Global) → List Bool → (mode : ℕ) → Watched
lying disablings running mode = record { events = dependencies disablings running; mode = mode }

pub none_idle : (disablings : List (Vec ℕ Global)) (mode event : ℕ) → holds_at (lying disablings (replicate (length disablings) false) mode) event ≡ false
none_idle [] mode event = refl
none_idle (modes ∷ disablings) mode zero = refl
none_idle (modes ∷ disablings) mode (suc event) = none_idle disablings mode event

module _ (disablings : List (Vec ℕ Global)) (running : List Bool) (mode : ℕ) (as_many : length disablings ≡ length running) where
  -- an event holds the mode back where it is in the set and the mode disables it
  pub holds_is : (event : ℕ) → holds_at (lying disablings running mode) event ≡ (get_or running event false && has_mode mode (modes_at disablings event))
  holds_is event = elim (cases_lt event (length running)) [
    | inl within ↦ ap (holds_back mode) (dependency_there disablings running event as_many within)
    | inr past ↦
        ap (holds_back mode) (get_or_past (dependencies disablings running) event no_dependency (omega (arith, as_many_dependencies disablings running as_many, past)))
        ∙ ap (λ b. b && has_mode mode (modes_at disablings event)) (sym (get_or_past running event false past))
  ]

  -- a search through the set
  module _ (from behind : ℕ) (begun : from ≤ behind) (none : (place : ℕ) → from ≤ place → place < behind → holds_at (lying disablings running mode) place ≡ false) where
    not_in_set : (place : ℕ) → get_or running place false ≡ false → holds_at (lying disablings running mode) place ≡ false
    not_in_set place out = holds_is place ∙ ap (λ b. b && has_mode mode (modes_at disablings place)) out

    none_before : (at : ℕ) → places.IsFirst running behind (length running) at → (place : ℕ) → from ≤ place → place < at → holds_at (lying disablings running mode) place ≡ false
    none_before at first place after before = elim (cases_lt place behind) [ inl early ↦ none place after early | inr past ↦ not_in_set place (first.none place past before) ]

    pub found_none : places.NoneBetween running behind (length running) → (place : ℕ) → from ≤ place → holds_at (lying disablings running mode) place ≡ false
    found_none rest place after = elim (cases_lt place behind) [
      | inl early ↦ none place after early
      | inr past ↦ elim (cases_lt place (length running)) [
        | inl inside ↦ not_in_set place (rest place past inside)
        | inr beyond ↦ not_in_set place (get_or_past running place false beyond)
      ]
    ]

    module _ (at : ℕ) (modes : Vec ℕ Global) (first : places.IsFirst running behind (length running) at) (there : modes ≡ get_or disablings at modes) where
      at_is : holds_at (lying disablings running mode) at ≡ has_mode mode modes.items
      at_is =
          let inside = first.within in
          holds_is at ∙ ap (λ b. b && has_mode mode (modes_at disablings at)) first.chosen ∙ ap (has_mode mode) (sym (modes_there disablings at modes (omega (arith, inside, as_many)) there))

      pub found_first : has_mode mode modes.items ≡ true → IsFirst (holds_at (lying disablings running mode)) from at
      found_first on =
          let past = first.behind in
          record { behind = omega (arith, begun, past); passes = at_is ∙ on; none = none_before at first }

      pub found_next : has_mode mode modes.items ≡ false → (place : ℕ) → from ≤ place → place < at + 1 → holds_at (lying disablings running mode) place ≡ false
      found_next off place after before = elim (cases_lt place at) [
        | inl early ↦ none_before at first place after early
        | inr late ↦ let same : place ≡ at = omega (arith, late, before) in ap (holds_at (lying disablings running mode)) same ∙ at_is ∙ off
      ]

module _ (disablings : List (Vec ℕ Global)) (running : List Bool) (mode : ℕ) (as_many : length disablings ≡ length running) (event : ℕ) (within : event < length running) (runs : Bool) where
  still : length disablings ≡ length (set running event runs)
  still = as_many ∙ sym (length-set running event runs)

  pub holds_elsewhere : (other : ℕ) → (other ≡ event → ⊥) → holds_at (lying disablings (set running event runs) mode) other ≡ holds_at (lying disablings running mode) other
  holds_elsewhere other differs =
      holds_is disablings (set running event runs) mode still other
      ∙ ap (λ b. b && has_mode mode (modes_at disablings other)) (get_or-set_other running event other runs false differs)
      ∙ sym (holds_is disablings running mode as_many other)

  pub holds_here : holds_at (lying disablings (set running event runs) mode) event ≡ (runs && has_mode mode (modes_at disablings event))
  holds_here = holds_is disablings (set running event runs) mode still event ∙ ap (λ b. b && has_mode mode (modes_at disablings event)) (get_or-set_same running event runs false within)

-- one more runs
module _ (disablings : List (Vec ℕ Global)) (running : List Bool) (mode : ℕ) (as_many : length disablings ≡ length running) (event : ℕ) (within : event < length running) (held : Option ℕ) (is : IsNext (holds_at (lying disablings running mode)) 0 held) where
  pub begun_held : has_mode mode (modes_at disablings event) ≡ true → IsNext (holds_at (lying disablings (set running event true) mode)) 0 (Some (lesser held event))
  begun_held on = by held is
    where
      now : holds_at (lying disablings (set running event true) mode) event ≡ true
      now = holds_here disablings running mode as_many event within true ∙ on

      same : (other : ℕ) → (other ≡ event → ⊥) → holds_at (lying disablings (set running event true) mode) other ≡ holds_at (lying disablings running mode) other
      same = holds_elsewhere disablings running mode as_many event within true

      by : (o : Option ℕ) → IsNext (holds_at (lying disablings running mode)) 0 o → IsNext (holds_at (lying disablings (set running event true) mode)) 0 (Some (lesser o event))
      by None none = record {
        behind = omega arith;
        passes = now;
        none = λ place behind before. same place (λ one. absurd (omega (arith, one, before))) ∙ none place behind;
      }
      by (Some first) before = elim (cases_lt first event) [
        | inl sooner ↦
            let least : first ≡ min first event = omega (arith, sooner) in
            subst (λ n. IsFirst (holds_at (lying disablings (set running event true) mode)) 0 n) least (record {
              behind = omega arith;
              passes = same first (λ one. absurd (omega (arith, one, sooner))) ∙ before.passes;
              none = λ place behind under. same place (λ one. absurd (omega (arith, one, sooner, under))) ∙ before.none place behind under;
            })
        | inr later ↦
            let least : event ≡ min first event = omega (arith, later) in
            subst (λ n. IsFirst (holds_at (lying disablings (set running event true) mode)) 0 n) least (record {
              behind = omega arith;
              passes = now;
              none = λ place behind under. same place (λ one. absurd (omega (arith, one, under))) ∙ before.none place behind (omega (arith, later, under));
            })
      ]

  pub not_first : has_mode mode (modes_at disablings event) ≡ false → held ≡ Some event → ⊥
  not_first off found =
      let before = subst (IsNext (holds_at (lying disablings running mode)) 0) found is in
      let on = sym (holds_is disablings running mode as_many event) ∙ before.passes in
      false≢true (sym off ∙ (and_parts (get_or running event false) (has_mode mode (modes_at disablings event)) on).1)

  -- an event that does not hold the mode back begins or ends
  pub rests_held : (runs : Bool) → (runs && has_mode mode (modes_at disablings event)) ≡ false → (held ≡ Some event → ⊥) → IsNext (holds_at (lying disablings (set running event runs) mode)) 0 held
  rests_held runs off another = by held refl
    where
      less : (other : ℕ) → holds_at (lying disablings running mode) other ≡ false → holds_at (lying disablings (set running event runs) mode) other ≡ false
      less other not_held = elim (cases_eq other event) [
        | inl one ↦ ap (holds_at (lying disablings (set running event runs) mode)) one ∙ holds_here disablings running mode as_many event within runs ∙ off
        | inr differs ↦ holds_elsewhere disablings running mode as_many event within runs other differs ∙ not_held
      ]

      by : (o : Option ℕ) → held ≡ o → IsNext (holds_at (lying disablings (set running event runs) mode)) 0 held
      by None none = subst (IsNext (holds_at (lying disablings (set running event runs) mode)) 0) (sym none) (λ place behind. less place (subst (IsNext (holds_at (lying disablings running mode)) 0) none is place behind))
      by (Some first) found =
          let before = subst (IsNext (holds_at (lying disablings running mode)) 0) found is in
          subst (IsNext (holds_at (lying disablings (set running event runs) mode)) 0) (sym found) (record {
            behind = before.behind;
            passes = holds_elsewhere disablings running mode as_many event within runs first (λ one. another (found ∙ ap (λ n. Some n) one)) ∙ before.passes;
            none = λ place behind sooner. less place (before.none place behind sooner);
          })

  -- the first that held the mode back ends, and the search went on from it
  pub ended_held : held ≡ Some event → (found : Option ℕ) → IsNext (holds_at (lying disablings (set running event false) mode)) event found → IsNext (holds_at (lying disablings (set running event false) mode)) 0 found
  ended_held was found next =
      let before = subst (IsNext (holds_at (lying disablings running mode)) 0) was is in
      begins_earlier (holds_at (lying disablings (set running event false) mode)) event 0 found (omega arith)
      (λ place behind sooner. holds_elsewhere disablings running mode as_many event within false place (λ one. absurd (omega (arith, one, sooner))) ∙ before.none place behind sooner) next
