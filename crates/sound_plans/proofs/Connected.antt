-- Groups of the plan are what chains of joins connect: in a star a chain is never longer than two joins.
use Rattle.std.proofs.Common.{◌≡◌, ℕ, zero, suc, List, [], ◌∷◌, Option, Some, None, option_map, inl, inr, refl, sym, ap, subst, ◌∙◌, slice_get}
use Rattle.std.proofs.lemmas.Option.{slice_get-map}
use Rattle.plan_definitions.specs.Common.{Description, refusal, End, Flat, Join, IsFlatOf, Among, end_of, partners, key_of, elements_of, Elem, elem_seen, element_of, group_of, IsWhole}
use Rattle.plan_definitions.specs.Common.{IsWellFormed}
use Rattle.plan_definitions.specs.JoinGroups.{IsJoined}
use Rattle.bus_laws.specs.Common.{BusPlan, ElemPlan, Mapping}
use Rattle.plan_definitions.specs.declared.site.Site.{Site}
use Rattle.sound_plans.specs.Connected.{AreConnected, AreJoined, Chain, GroupsAreConnected, group_at}
use Rattle.sound_plans.proofs.Linked.{Linked, group_linked, linked_group, linked_then}
use Rattle.plan_definitions.proofs.Lists.{at, map_get}
use Rattle.sound_plans.proofs.Partners.{Joins, end_site, faces, provided_touches, required_touches, same_site, touched}
use Rattle.sound_plans.proofs.Stars.{Near, Touch}
use Rattle.sound_plans.proofs.Seen.{elements_are}

-- ---- joins

among_joined : (joins : List Join) (j : Join) → Among j joins → IsJoined joins j.provided j.required
among_joined [] j h = absurd h
among_joined (k ∷ joins) j (inl e) = inl (ap (λ (x : Join). x.provided) (sym e), ap (λ (x : Join). x.required) (sym e))
among_joined (k ∷ joins) j (inr h) = inr (among_joined joins j h)

joined_among : (joins : List Join) (p r : End) → IsJoined joins p r → (j : Join) × Among j joins × (j.provided ≡ p) × (j.required ≡ r)
joined_among [] p r h = absurd h
joined_among (j ∷ joins) p r (inl h) = (j, inl refl, h.0, h.1)
joined_among (j ∷ joins) p r (inr h) = let q = joined_among joins p r h in (q.0, inr q.1, q.2, q.3)

module _ (joins : List Join) where
  touch_of : (a b : End) → AreJoined joins a b → Touch (partners joins) a b
  touch_of a b (inl h) =
      let q = joined_among joins a b h in
      subst (λ x. Touch (partners joins) x b) q.2 (subst (λ x. Touch (partners joins) q.0.provided x) q.3 (provided_touches joins q.0 q.1))
  touch_of a b (inr h) =
      let q = joined_among joins b a h in
      subst (λ x. Touch (partners joins) x b) q.3 (subst (λ x. Touch (partners joins) q.0.required x) q.2 (required_touches joins q.0 q.1))

  joined_of : (a b : End) → Touch (partners joins) a b → AreJoined joins a b
  joined_of a b touch = let q = touched joins a b touch in by q.0 q.1 q.2
    where
      by : (j : Join) → Among j joins → Joins j a b → AreJoined joins a b
      by j among (inl (own, other)) = inr (subst (λ x. IsJoined joins x a) (sym other) (subst (λ x. IsJoined joins j.provided x) own (among_joined joins j among)))
      by j among (inr (own, other)) = inl (subst (λ x. IsJoined joins a x) (sym other) (subst (λ x. IsJoined joins x j.required) own (among_joined joins j among)))

  near_chain : (a b : End) → Near (partners joins) a b → (n : ℕ) × Chain joins a b n
  near_chain a b (inl e) = (0, e)
  near_chain a b (inr (inl touch)) = (1, (a, refl, joined_of a b touch))
  near_chain a b (inr (inr (m, first, second))) = (2, (m, (a, refl, joined_of a m first), joined_of m b second))

-- ---- elements

module _ (d : Description) (w : IsWellFormed d) (f : Flat) (flat : IsFlatOf d f) (fair : refusal d f ≡ None) where
  -- the element at the end of a chain
  record Reached (s : Site) (b : End) : Type 0 where
    site : Site
    among : Among site (elements_of d f)
    is_end : end_of site ≡ Some b
    link : Linked f s site

  reached : (s : Site) (a b : End) (n : ℕ) → Among s (elements_of d f) → end_of s ≡ Some a → Chain f.joins a b n → Reached s b
  reached s a b zero here is e = record { site = s; among = here; is_end = is ∙ ap (λ x. Some x) e; link = inl refl }
  reached s a b (suc n) here is (before, chain, on) =
      let q = reached s a before n here is chain in
      let touch = touch_of f.joins before b on in
      let r = faces d w f flat fair q.site before b q.among q.is_end touch in
      record {
        site = r.site;
        among = r.among;
        is_end = r.is_end;
        link = linked_then d w f flat fair s q.site r.site here q.among r.among q.link (inr (before, b, q.is_end, r.is_end, inr (inl touch)));
      }

  connected_linked : (s t : Site) → Among s (elements_of d f) → Among t (elements_of d f) → AreConnected f.joins s t → Linked f s t
  connected_linked s t here there (inl e) = inl (ap key_of e)
  connected_linked s t here there (inr (a, b, n, x, y, chain)) =
      let q = reached s a b n here x chain in
      subst (λ z. Linked f s z) (end_site d w f flat fair q.site t b q.among there q.is_end y) q.link

  linked_connected : (s t : Site) → Among s (elements_of d f) → Among t (elements_of d f) → Linked f s t → AreConnected f.joins s t
  linked_connected s t here there (inl e) = inl (same_site d w f flat fair s t here there e)
  linked_connected s t here there (inr (a, b, x, y, near)) = let q = near_chain f.joins a b near in inr (a, b, q.0, x, y, q.1)

-- ---- the plan

module _ (d : Description) (f : Flat) (p : BusPlan) (m : Mapping) (w : IsWhole d f p m) where
  group_is : (i : ℕ) (s : Site) → slice_get (elements_of d f) i ≡ Some s → group_at p i ≡ Some (group_of d f s)
  group_is i s is = sym (by (slice_get p.elements i)) ∙ ap seen_group (sym (slice_get-map elem_seen p.elements i) ∙ ap (λ es. slice_get es i) (elements_are d f p w.is_plan) ∙ map_get (λ (x : Site). element_of d f (group_of d f x) x) (elements_of d f) i s is)
    where
      seen_group : Option Elem → Option ℕ
      seen_group o = option_map (λ (e : Elem). e.group) o

      by : (o : Option ElemPlan) → seen_group (option_map elem_seen o) ≡ option_map (λ (e : ElemPlan). e.group) o
      by None = refl
      by (Some e) = refl

  pub groups_are_connected : GroupsAreConnected d f p
  groups_are_connected i j s t here there = (forth, back)
    where
      among_s : Among s (elements_of d f)
      among_s = at (elements_of d f) i s here

      among_t : Among t (elements_of d f)
      among_t = at (elements_of d f) j t there

      forth : group_at p i ≡ group_at p j → AreConnected f.joins s t
      forth same =
          let one = group_is i s here in
          let other = group_is j t there in
          let e : group_of d f s ≡ group_of d f t = cc (one, other, same) in
          linked_connected d w.well_formed f w.is_flat w.may_join s t among_s among_t (group_linked d w.well_formed f w.is_flat w.may_join s t among_s among_t e)

      back : AreConnected f.joins s t → group_at p i ≡ group_at p j
      back h = group_is i s here ∙ ap (λ n. Some n) (linked_group d w.well_formed f w.is_flat w.may_join s t among_s among_t (connected_linked d w.well_formed f w.is_flat w.may_join s t among_s among_t h)) ∙ sym (group_is j t there)
