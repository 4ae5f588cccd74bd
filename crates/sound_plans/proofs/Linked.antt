-- Two elements have one group exactly where they are the same, are joined, or are joined with a third one.
use Rattle.std.proofs.Common.{◌≡◌, Option, Some, None, ◌⊎◌, inl, inr, refl, sym, ap, subst, ◌∙◌, slice_get}
use Rattle.plan_definitions.specs.Common.{Description, refusal, End, Flat, IsFlatOf, Among, end_of, partners, key_of, number_in, elements_of, group_of, leaders, heads, leader_of}
use Rattle.plan_definitions.specs.Common.{number_among, own_number, IsWellFormed}
use Rattle.plan_definitions.specs.declared.site.Site.{Site}
use Rattle.sound_plans.proofs.Ends.{traits}
use Rattle.sound_plans.proofs.Heads.{here_head, number_is as head_is}
use Rattle.sound_plans.proofs.Leading.{alone, keys, leads}
use Rattle.plan_definitions.proofs.Lists.{at, get_map, map_get, mapped}
use Rattle.plan_definitions.proofs.Keys.{key_is, number_is, number_same}
use Rattle.sound_plans.proofs.Partners.{Good, back, end_site, faces, good, same_site, star}
use Rattle.sound_plans.proofs.Stars.{Near, leader_is, leader_same, near_back, near_good, near_then}

-- the same element, or elements that are near
abbrev pub Linked : Flat → Site → Site → Type 0
Linked f s t = (key_of s ≡ key_of t) ⊎ ((a : End) × (b : End) × (end_of s ≡ Some a) × (end_of t ≡ Some b) × Near (partners f.joins) a b)

module _ (d : Description) (w : IsWellFormed d) (f : Flat) (flat : IsFlatOf d f) (fair : refusal d f ≡ None) where
  near : (a b c : End) → Good d w f flat fair a → Near (partners f.joins) a b → Near (partners f.joins) b c → Near (partners f.joins) a c
  near = near_then (partners f.joins) (back f.joins) (Good d w f flat fair) (good d w f flat fair) (star d w f flat fair)

  pub linked_back : (s t : Site) → Linked f s t → Linked f t s
  linked_back s t (inl e) = inl (sym e)
  linked_back s t (inr (a, b, x, y, n)) = inr (b, a, y, x, near_back (partners f.joins) (back f.joins) a b n)

  pub linked_then : (s t u : Site) → Among s (elements_of d f) → Among t (elements_of d f) → Among u (elements_of d f) → Linked f s t → Linked f t u → Linked f s u
  linked_then s t u here there yonder (inl e) link = subst (λ x. Linked f x u) (sym (same_site d w f flat fair s t here there e)) link
  linked_then s t u here there yonder (inr link) (inl e) = subst (λ x. Linked f s x) (same_site d w f flat fair t u there yonder e) (inr link)
  linked_then s t u here there yonder (inr (a, b, x, y, n)) (inr (c, e, z, v, m)) =
      let same : c ≡ b = cc (z, y) in
      inr (a, e, x, v, near a b e (s, here, x) n (subst (λ q. Near (partners f.joins) q e) same m))

  -- linked elements agree
  pub linked_agree : (s t : Site) → Among s (elements_of d f) → Among t (elements_of d f) → Linked f s t → traits d f s ≡ traits d f t
  linked_agree s t here there (inl e) = ap (traits d f) (same_site d w f flat fair s t here there e)
  linked_agree s t here there (inr (a, b, x, y, inl e)) = ap (traits d f) (end_site d w f flat fair s t b here there (x ∙ ap (λ q. Some q) e) y)
  linked_agree s t here there (inr (a, b, x, y, inr (inl touch))) =
      let p = faces d w f flat fair s a b here x touch in
      p.agrees ∙ ap (traits d f) (end_site d w f flat fair p.site t b p.among there p.is_end y)
  linked_agree s t here there (inr (a, b, x, y, inr (inr (m, first, second)))) =
      let p = faces d w f flat fair s a m here x first in
      let q = faces d w f flat fair p.site m b p.among p.is_end second in
      p.agrees ∙ q.agrees ∙ ap (traits d f) (end_site d w f flat fair q.site t b q.among there q.is_end y)

  -- ---- the least element of a group

  near_site : (s : Site) (a x : End) → Among s (elements_of d f) → end_of s ≡ Some a → Near (partners f.joins) a x → Good d w f flat fair x
  near_site s a x here is = near_good (partners f.joins) (back f.joins) (Good d w f flat fair) (good d w f flat fair) (star d w f flat fair) a x (s, here, is)

  record Leader (s : Site) : Type 0 where
    first : Site
    among : Among first (elements_of d f)
    number : leader_of f.joins (keys d f) s ≡ number_in (keys d f) (key_of first)
    link : Linked f s first
    leads_itself : leader_of f.joins (keys d f) first ≡ leader_of f.joins (keys d f) s

  has_leader : (s : Site) → Among s (elements_of d f) → Leader s
  has_leader s here = by (end_of s) refl
    where
      by : (o : Option End) → end_of s ≡ o → Leader s
      by None none = record { first = s; among = here; number = alone f.joins (keys d f) s none; link = inl refl; leads_itself = refl }
      by (Some a) some =
          let p = leader_is (partners f.joins) (own_number (keys d f)) a in
          let r = near_site s a p.0 here some p.1 in
          let same = leader_same (partners f.joins) (back f.joins) (Good d w f flat fair) (good d w f flat fair) (star d w f flat fair) (own_number (keys d f)) a p.0 (s, here, some) p.1 in
          record {
            first = r.0;
            among = r.1;
            number = leads f.joins (keys d f) s a some ∙ p.2 ∙ ap (number_in (keys d f)) (key_is r.0 p.0 r.2);
            link = inr (a, p.0, some, r.2, p.1);
            leads_itself = leads f.joins (keys d f) r.0 p.0 r.2 ∙ sym same ∙ sym (leads f.joins (keys d f) s a some);
          }

  -- it is the least of its group itself
  is_head : (s : Site) → Among s (elements_of d f) → Among (leader_of f.joins (keys d f) s) (heads (leaders d f))
  is_head s here = here_head (leaders d f) (leader_of f.joins (keys d f) s) there
    where
      l : Leader s
      l = has_leader s here

      at_number : slice_get (keys d f) (number_in (keys d f) (key_of l.first)) ≡ Some (key_of l.first)
      at_number = number_is (keys d f) (key_of l.first) (mapped key_of (elements_of d f) l.first l.among)

      there : slice_get (leaders d f) (leader_of f.joins (keys d f) s) ≡ Some (leader_of f.joins (keys d f) s)
      there =
          let p = get_map key_of (elements_of d f) (number_in (keys d f) (key_of l.first)) (key_of l.first) at_number in
          let same = same_site d w f flat fair p.0 l.first (at (elements_of d f) (number_in (keys d f) (key_of l.first)) p.0 p.1) l.among p.2 in
          ap (slice_get (leaders d f)) l.number ∙ map_get (leader_of f.joins (keys d f)) (elements_of d f) (number_in (keys d f) (key_of l.first)) p.0 p.1
          ∙ ap (λ (x : Site). Some (leader_of f.joins (keys d f) x)) same ∙ ap (λ n. Some n) l.leads_itself

  -- ---- groups

  pub linked_group : (s t : Site) → Among s (elements_of d f) → Among t (elements_of d f) → Linked f s t → group_of d f s ≡ group_of d f t
  linked_group s t here there link = ap (number_among (heads (leaders d f))) (by link)
    where
      by : Linked f s t → leader_of f.joins (keys d f) s ≡ leader_of f.joins (keys d f) t
      by (inl e) = ap (leader_of f.joins (keys d f)) (same_site d w f flat fair s t here there e)
      by (inr (a, b, x, y, n)) = leads f.joins (keys d f) s a x
          ∙ leader_same (partners f.joins) (back f.joins) (Good d w f flat fair) (good d w f flat fair) (star d w f flat fair) (own_number (keys d f)) a b (s, here, x) n
          ∙ sym (leads f.joins (keys d f) t b y)

  pub group_linked : (s t : Site) → Among s (elements_of d f) → Among t (elements_of d f) → group_of d f s ≡ group_of d f t → Linked f s t
  group_linked s t here there same =
      let a = has_leader s here in
      let b = has_leader t there in
      let x = head_is (heads (leaders d f)) (leader_of f.joins (keys d f) s) (is_head s here) in
      let y = head_is (heads (leaders d f)) (leader_of f.joins (keys d f) t) (is_head t there) in
      let z : slice_get (heads (leaders d f)) (group_of d f s) ≡ Some (leader_of f.joins (keys d f) t) = ap (slice_get (heads (leaders d f))) same ∙ y in
      let e : leader_of f.joins (keys d f) s ≡ leader_of f.joins (keys d f) t = cc (x, z) in
      let key = number_same (keys d f) (key_of a.first) (key_of b.first) (mapped key_of (elements_of d f) a.first a.among) (mapped key_of (elements_of d f) b.first b.among) (sym a.number ∙ e ∙ b.number) in
      linked_then s a.first t here a.among there a.link
      (linked_then a.first b.first t a.among b.among there (inl key) (linked_back t b.first b.link))
