-- The partners of a data element: elements of the other side that agree with it, in groups that are stars by rule 15.
use Rattle.std.proofs.Common.{◌≡◌, List, [], ◌∷◌, Bool, true, false, not, if◌then◌else◌, Some, None, option_map, ◌⊎◌, inl, inr, ⊎_elim, refl, sym, ap, subst, ◌∙◌}
use Rattle.std.proofs.lemmas.Option.{slice_get_within}
use Rattle.plan_definitions.specs.Common.{Description, is_many_to_many, providers, requirers, refusal, End, Flat, Join, IsFlatOf, Among, across, end_at, end_of, partners, same_end}
use Rattle.plan_definitions.specs.Common.{is_element, key_of, provides_at, sites, elements_of, is_provided, IsWellFormed}
use Rattle.plan_definitions.specs.declared.site.Site.{Site}
use Rattle.plan_definitions.specs.declared.site.SiteKind.TheVariants.{Element}
use Rattle.plan_definitions.proofs.Apart.{Apart, apart_filter, one_item}
use Rattle.sound_plans.proofs.Elems.{is_element_of}
use Rattle.sound_plans.proofs.Ends.{HasPorts, has_ports, traits}
use Rattle.sound_plans.proofs.Fair.{all_compatible, fair_there, one_single, provider, requirer}
use Rattle.sound_plans.proofs.Joined.{JoinSites, of_provided, of_required}
use Rattle.plan_definitions.proofs.Lists.{cases, flat, left, right, unflat, unkept}
use Rattle.plan_definitions.proofs.Keys.{key_is, same_end_is, same_end_refl}
use Rattle.plan_definitions.proofs.Sites.{AtPort, IsVariable, is_site, sites_apart}
use Rattle.sound_plans.proofs.Stars.{Single, Touch}

-- ---- who touches whom

-- a join with the one end, whose other end is the other
abbrev pub Joins : Join → End → End → Type 0
Joins j e x = ((j.required ≡ e) × (x ≡ j.provided)) ⊎ ((j.provided ≡ e) × (x ≡ j.required))

module _ (joins : List Join) where
  pub touched : (e x : End) → Touch (partners joins) e x → (j : Join) × Among j joins × Joins j e x
  touched e x touch = let p = unflat (across e) joins x touch in (
    p.0,
    p.1,
    ⊎_elim (first p.0 (same_end p.0.required e) refl) (second p.0 (same_end p.0.provided e) refl)
        (cases x (if same_end p.0.required e then p.0.provided ∷ [] else []) (if same_end p.0.provided e then p.0.required ∷ [] else []) p.2),
  )
    where
      first : (j : Join) (b : Bool) → same_end j.required e ≡ b → Among x (if b then j.provided ∷ [] else []) → Joins j e x
      first j true is (inl here) = inl (same_end_is j.required e is, here)
      first j true is (inr none) = absurd none
      first j false is none = absurd none

      second : (j : Join) (b : Bool) → same_end j.provided e ≡ b → Among x (if b then j.required ∷ [] else []) → Joins j e x
      second j true is (inl here) = inr (same_end_is j.provided e is, here)
      second j true is (inr none) = absurd none
      second j false is none = absurd none

  pub required_touches : (j : Join) → Among j joins → Touch (partners joins) j.required j.provided
  required_touches j among = flat (across j.required) joins j j.provided among (left j.provided (if same_end j.required j.required then j.provided ∷ [] else []) (if same_end j.provided j.required then j.required ∷ [] else [])
      (subst (λ b. Among j.provided (if b then j.provided ∷ [] else [])) (sym (same_end_refl j.required)) (inl refl)))

  pub provided_touches : (j : Join) → Among j joins → Touch (partners joins) j.provided j.required
  provided_touches j among = flat (across j.provided) joins j j.required among (right j.required (if same_end j.required j.provided then j.provided ∷ [] else []) (if same_end j.provided j.provided then j.required ∷ [] else [])
      (subst (λ b. Among j.required (if b then j.required ∷ [] else [])) (sym (same_end_refl j.provided)) (inl refl)))

  pub back : (a b : End) → Touch (partners joins) a b → Touch (partners joins) b a
  back a b touch = let p = touched a b touch in by p.0 p.1 p.2
    where
      by : (j : Join) → Among j joins → Joins j a b → Touch (partners joins) b a
      by j among (inl (is, also)) = subst (λ x. Touch (partners joins) x a) (sym also) (subst (λ x. Touch (partners joins) j.provided x) is (provided_touches j among))
      by j among (inr (is, also)) = subst (λ x. Touch (partners joins) x a) (sym also) (subst (λ x. Touch (partners joins) j.required x) is (required_touches j among))

module _ (d : Description) (w : IsWellFormed d) (f : Flat) (flat : IsFlatOf d f) (fair : refusal d f ≡ None) where
  -- ---- an element by its key

  pub elements_apart : Apart key_of (elements_of d f)
  elements_apart = apart_filter key_of (λ (s : Site). is_element s.kind) (sites d f) (sites_apart d f)

  pub same_site : (s t : Site) → Among s (elements_of d f) → Among t (elements_of d f) → key_of s ≡ key_of t → s ≡ t
  same_site s t here there same = one_item key_of (elements_of d f) elements_apart s t here there same

  pub end_site : (s t : Site) (e : End) → Among s (elements_of d f) → Among t (elements_of d f) → end_of s ≡ Some e → end_of t ≡ Some e → s ≡ t
  end_site s t e here there is also = same_site s t here there (sym (key_is s e is) ∙ key_is t e also)

  ports : (j : Join) → Among j f.joins → HasPorts d f j
  ports j among = has_ports d (all_compatible d f fair) f flat j ((flat.joined j).0 among)

  provided_sites : (s : Site) (j : Join) → Among s (elements_of d f) → end_of s ≡ Some j.provided → Among j f.joins → JoinSites d f j
  provided_sites s j here is among = of_provided d w f s j here is (ports j among)

  required_sites : (s : Site) (j : Join) → Among s (elements_of d f) → end_of s ≡ Some j.required → Among j f.joins → JoinSites d f j
  required_sites s j here is among = of_required d w f s j here is (ports j among)

  -- ---- the other side

  pub record Faces (s : Site) (x : End) : Type 0 where
    pub site : Site
    pub among : Among site (elements_of d f)
    pub is_end : end_of site ≡ Some x
    pub agrees : traits d f s ≡ traits d f site
    pub side : is_provided site.kind ≡ not (is_provided s.kind)

  pub faces : (s : Site) (e x : End) → Among s (elements_of d f) → end_of s ≡ Some e → Touch (partners f.joins) e x → Faces s x
  faces s e x here is touch = let p = touched f.joins e x touch in by p.0 p.1 p.2
    where
      by : (j : Join) → Among j f.joins → Joins j e x → Faces s x
      by j among (inl (own, other)) =
          let r = required_sites s j here (is ∙ ap (λ y. Some y) (sym own)) among in
          let same = end_site r.required s j.required r.is_required here r.required_end (is ∙ ap (λ y. Some y) (sym own)) in
          record {
            site = r.provided;
            among = r.is_provided;
            is_end = r.provided_end ∙ ap (λ y. Some y) (sym other);
            agrees = sym (ap (traits d f) same) ∙ sym r.agree;
            side = ap is_provided r.provides ∙ ap (λ k. not (is_provided k)) (sym r.requires) ∙ ap (λ (y : Site). not (is_provided y.kind)) same;
          }
      by j among (inr (own, other)) =
          let r = provided_sites s j here (is ∙ ap (λ y. Some y) (sym own)) among in
          let same = end_site r.provided s j.provided r.is_provided here r.provided_end (is ∙ ap (λ y. Some y) (sym own)) in
          record {
            site = r.required;
            among = r.is_required;
            is_end = r.required_end ∙ ap (λ y. Some y) (sym other);
            agrees = sym (ap (traits d f) same) ∙ r.agree;
            side = ap is_provided r.requires ∙ ap (λ k. not (is_provided k)) (sym r.provides) ∙ ap (λ (y : Site). not (is_provided y.kind)) same;
          }

  abbrev pub Good : End → Type 0
  Good e = (s : Site) × Among s (elements_of d f) × (end_of s ≡ Some e)

  pub good : (a b : End) → Good a → Touch (partners f.joins) a b → Good b
  good a b (s, here, is) touch = let t = faces s a b here is touch in (t.site, t.among, t.is_end)

  -- ---- stars

  only_requirers : (s : Site) (e x : End) → Among s (elements_of d f) → end_of s ≡ Some e → s.kind ≡ Element true → Touch (partners f.joins) e x → Among x (requirers f.joins e)
  only_requirers s e x here is provides touch = let p = touched f.joins e x touch in by p.0 p.1 p.2
    where
      by : (j : Join) → Among j f.joins → Joins j e x → Among x (requirers f.joins e)
      by j among (inl (own, other)) =
          let r = required_sites s j here (is ∙ ap (λ y. Some y) (sym own)) among in
          let same = end_site r.required s j.required r.is_required here r.required_end (is ∙ ap (λ y. Some y) (sym own)) in
          let e : is_provided s.kind ≡ false = sym (ap (λ (y : Site). is_provided y.kind) same) ∙ ap is_provided r.requires in
          let also : is_provided s.kind ≡ true = ap is_provided provides in
          cc
      by j among (inr (own, other)) = subst (λ y. Among y (requirers f.joins e)) (sym other) (requirer f.joins j among e own)

  only_providers : (s : Site) (e x : End) → Among s (elements_of d f) → end_of s ≡ Some e → s.kind ≡ Element false → Touch (partners f.joins) e x → Among x (providers f.joins e)
  only_providers s e x here is requires touch = let p = touched f.joins e x touch in by p.0 p.1 p.2
    where
      by : (j : Join) → Among j f.joins → Joins j e x → Among x (providers f.joins e)
      by j among (inl (own, other)) = subst (λ y. Among y (providers f.joins e)) (sym other) (provider f.joins j among e own)
      by j among (inr (own, other)) =
          let r = provided_sites s j here (is ∙ ap (λ y. Some y) (sym own)) among in
          let same = end_site r.provided s j.provided r.is_provided here r.provided_end (is ∙ ap (λ y. Some y) (sym own)) in
          let e : is_provided s.kind ≡ true = sym (ap (λ (y : Site). is_provided y.kind) same) ∙ ap is_provided r.provides in
          let also : is_provided s.kind ≡ false = ap is_provided requires in
          cc

  -- a required element is in no group of many to many
  fair_site : (t : Site) (r : End) → Among t (elements_of d f) → end_of t ≡ Some r → t.kind ≡ Element false → is_many_to_many f.joins r ≡ false
  fair_site t r here is requires =
      let p = unkept (λ (x : Site). is_element x.kind) (sites d f) t here in
      ⊎_elim (λ q. at_port q p.1) (λ v. absurd (variable v)) (is_site d f t p.0)
    where
      variable : IsVariable d f t → ⊥
      variable v = let none : end_of t ≡ None = ap (option_map (λ port. end_at t.owner port t.item)) v.no_port in cc

      at_port : (p : AtPort d f t) → is_element t.kind ≡ true → is_many_to_many f.joins r ≡ false
      at_port p element =
          let q = is_element_of d w f t p element in
          let side : provides_at t.owner p.port.kind ≡ false = sym (ap is_provided q.kind) ∙ ap is_provided requires in
          let there : end_of t ≡ Some (end_at t.owner p.k t.item) = ap (option_map (λ port. end_at t.owner port t.item)) p.at in
          let same : end_at t.owner p.k t.item ≡ r = cc in
          ap (is_many_to_many f.joins) (sym same) ∙ fair_there d f fair t.owner p.k p.port p.interface q.among t.item p.has_port side p.has_interface q.is (slice_get_within q.among t.item q.element q.there)

  star_of : (j : Join) → Among j f.joins → JoinSites d f j → Single (partners f.joins) j.provided ⊎ Single (partners f.joins) j.required
  star_of j among r = ⊎_elim
      (λ one. inl (λ x y t u. one x y (only_requirers r.provided j.provided x r.is_provided r.provided_end r.provides t) (only_requirers r.provided j.provided y r.is_provided r.provided_end r.provides u)))
      (λ one. inr (λ x y t u. one x y (only_providers r.required j.required x r.is_required r.required_end r.requires t) (only_providers r.required j.required y r.is_required r.required_end r.requires u)))
      (one_single f.joins j among (fair_site r.required j.required r.is_required r.required_end r.requires))

  pub star : (a b : End) → Good a → Touch (partners f.joins) a b → Single (partners f.joins) a ⊎ Single (partners f.joins) b
  star a b (s, here, is) touch = let p = touched f.joins a b touch in by p.0 p.1 p.2
    where
      by : (j : Join) → Among j f.joins → Joins j a b → Single (partners f.joins) a ⊎ Single (partners f.joins) b
      by j among (inl (own, other)) = ⊎_elim
          (λ one. inr (subst (Single (partners f.joins)) (sym other) one))
          (λ one. inl (subst (Single (partners f.joins)) own one))
          (star_of j among (required_sites s j here (is ∙ ap (λ y. Some y) (sym own)) among))
      by j among (inr (own, other)) = ⊎_elim
          (λ one. inl (subst (Single (partners f.joins)) own one))
          (λ one. inr (subst (Single (partners f.joins)) (sym other) one))
          (star_of j among (provided_sites s j here (is ∙ ap (λ y. Some y) (sym own)) among))
