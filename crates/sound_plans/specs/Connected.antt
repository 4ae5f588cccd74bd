-- What joins connect (SWS_RTE: sender-receiver communication 1:n and n:1).
use Rattle.std.specs.Prelude.{◌≡◌, ℕ, zero, suc, List, Option, Some, option_map, slice_get, ◌⊎◌, ◌↔◌}
use Rattle.plan_definitions.specs.Common.{Description, End, Flat, Join, end_of, elements_of}
use Rattle.plan_definitions.specs.JoinGroups.{IsJoined}
use Rattle.bus_laws.specs.Common.{BusPlan, ElemPlan}
use Rattle.plan_definitions.specs.declared.site.Site.{Site}

-- a join connects the two ends, whichever of them provides
abbrev pub AreJoined : List Join → End → End → Type 0
AreJoined joins a b = IsJoined joins a b ⊎ IsJoined joins b a

-- a chain of n joins leads from one end to another
abbrev pub Chain : List Join → End → End → ℕ → Type 0
Chain joins a b zero = a ≡ b
Chain joins a b (suc n) = (before : End) × Chain joins a before n × AreJoined joins before b

-- one data element, or two that a chain of joins connects. A variable has no end, so it is connected with itself alone
abbrev pub AreConnected : List Join → Site → Site → Type 0
AreConnected joins s t = (s ≡ t) ⊎ ((a : End) × (b : End) × (n : ℕ) × (end_of s ≡ Some a) × (end_of t ≡ Some b) × Chain joins a b n)

-- the group of the element that has this number in the plan
abbrev pub group_at : BusPlan → (element : ℕ) → Option ℕ
group_at p n = option_map (λ (e : ElemPlan). e.group) (slice_get p.elements n)

-- two elements of a plan are in one group exactly if a chain of joins connects them
abbrev pub GroupsAreConnected : Description → Flat → BusPlan → Type 0
GroupsAreConnected d f p = (i j : ℕ) (s t : Site) → slice_get (elements_of d f) i ≡ Some s → slice_get (elements_of d f) j ≡ Some t
    → (group_at p i ≡ group_at p j) ↔ AreConnected f.joins s t
