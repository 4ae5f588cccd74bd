-- The groups of a plan: no element is before the least one of its group.
use Rattle.std.proofs.Common.{◌≡◌, ℕ, ◌≤◌, List, map, true, Option, Some, None, option_map, refl, sym, ap, subst, ◌∙◌, arith, slice_get}
use mathlib.Core.List.{map-map}
use Rattle.plan_definitions.specs.Common.{Description, End, Flat, end_at, end_of, partners, Join, Key, end_key, key_of, keys_of, number_in, elements_of, Elem, element_of, elem_seen}
use Rattle.plan_definitions.specs.Common.{group_of, leaders, group_number, leader, leader_of, own_number, IsWhole}
use Rattle.bus_laws.specs.Common.{BusPlan, ElemPlan, Mapping}
use Rattle.bus_semantics.specs.Common.{plan_of, groups_fit}
use Rattle.plan_definitions.specs.declared.site.Site.{Site}
use Rattle.sound_plans.proofs.Bounded.{groups_are}
use Rattle.sound_plans.proofs.Grouping.{groups_kept}
use Rattle.sound_plans.proofs.Heads.{AreLow}
use Rattle.plan_definitions.proofs.Lists.{get_map, map_get}
use Rattle.plan_definitions.proofs.Keys.{key_is, number_low}
use Rattle.plan_definitions.proofs.Sites.{with_port}
use Rattle.sound_plans.proofs.Stars.{leader_own}
use Rattle.sound_plans.proofs.Seen.{elements_are}

-- the least number in the group of a site, by its end
pub alone : (joins : List Join) (keys : List Key) (s : Site) → end_of s ≡ None → leader_of joins keys s ≡ number_in keys (key_of s)
alone joins keys s none = by s.port refl none
  where
    by : (o : Option ℕ) → s.port ≡ o → option_map (λ port. end_at s.owner port s.item) o ≡ None → leader_of joins keys s ≡ number_in keys (key_of s)
    by None is h = with_port (λ x. leader_of joins keys x ≡ number_in keys (key_of x)) s None is refl
    by (Some k) is h = cc

pub leads : (joins : List Join) (keys : List Key) (s : Site) (e : End) → end_of s ≡ Some e → leader_of joins keys s ≡ leader joins keys e
leads joins keys s e some = by s.port refl some
  where
    by : (o : Option ℕ) → s.port ≡ o → option_map (λ port. end_at s.owner port s.item) o ≡ Some e → leader_of joins keys s ≡ leader joins keys e
    by None is h = cc
    by (Some k) is h = let same : end_at s.owner k s.item ≡ e = cc in with_port (λ x. leader_of joins keys x ≡ leader joins keys (end_at x.owner k x.item)) s (Some k) is refl ∙ ap (leader joins keys) same

module _ (d : Description) (f : Flat) where
  abbrev pub keys : List Key
  keys = keys_of (elements_of d f)

  leads_low : (n : ℕ) (s : Site) → slice_get (elements_of d f) n ≡ Some s → leader_of f.joins keys s ≤ n
  leads_low n s is = by (end_of s) refl
    where
      there : slice_get keys n ≡ Some (key_of s)
      there = map_get key_of (elements_of d f) n s is

      by : (o : Option End) → end_of s ≡ o → leader_of f.joins keys s ≤ n
      by None none = subst (λ m. m ≤ n) (sym (alone f.joins keys s none)) (number_low keys (key_of s) n there)
      by (Some e) some =
          let own = leader_own (partners f.joins) (own_number keys) e in
          let le = number_low keys (end_key e) n (there ∙ ap (λ k. Some k) (sym (key_is s e some))) in
          let is : leader_of f.joins keys s ≡ leader f.joins keys e = leads f.joins keys s e some in omega arith

  pub leaders_low : AreLow (leaders d f)
  leaders_low n l is = let p = get_map (leader_of f.joins keys) (elements_of d f) n l is in subst (λ m. m ≤ n) p.2 (leads_low n p.0 p.1)

pub groups_sound : (d : Description) (f : Flat) (p : BusPlan) (m : Mapping) → IsWhole d f p m → groups_fit (plan_of p) ≡ true
groups_sound d f p m w = groups_kept (λ (e : ElemPlan). e.group) p.elements (leaders d f) (leaders_low d f) same p.groups (groups_are d f p m w)
  where
    same : map (λ (e : ElemPlan). e.group) p.elements ≡ map (group_number (leaders d f)) (leaders d f)
    same = sym (map-map (λ (e : Elem). e.group) elem_seen p.elements) ∙ ap (map (λ (e : Elem). e.group)) (elements_are d f p w.is_plan)
        ∙ map-map (λ (e : Elem). e.group) (λ (s : Site). element_of d f (group_of d f s) s) (elements_of d f)
        ∙ sym (map-map (group_number (leaders d f)) (leader_of f.joins (keys d f)) (elements_of d f))
