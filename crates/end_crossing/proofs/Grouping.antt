-- Links of ports, by groups of ends.
use Rattle.std.proofs.Common.{◌≡◌, ℕ, List, Bool, false, Vec, ◌⊎◌, inl, ◌↔◌, ⊎_elim, true≢false, refl, sym, ap, subst, ◌∙◌}
use Rattle.std.specs.Global.{Global}
use Rattle.std.specs.HashMap.{HashMap, get}
use Rattle.description_types.specs.declared.description.Description.{Description}
use Rattle.end_crossing.specs.declared.crossings.Crossing.{Crossing}
use Rattle.composition_tables.specs.declared.links.Link.{Link}
use Rattle.end_crossing.specs.declared.matched.Matched.{Matched}
use Rattle.end_search.specs.declared.seek.Wanted.TheVariants.{Anything}
use Rattle.composition_tables.specs.declared.tree.PortEnd.{PortEnd}
use Rattle.description_types.specs.Growing.{AnyOf, Grown}
use Rattle.end_crossing.specs.PortLinks.{link_of, IsPairLink, IsCrossLink}
use Rattle.end_crossing.specs.Crossings.{same_pair, HasPairs, IsAdding, IsBetween, IsCrossingLink, IsMatched}
use Rattle.end_search.specs.Matching.{AreListed, AreMatches}
use Rattle.end_search.specs.Near.{same_gate, AreNear}
use Rattle.description_types.specs.Members.{Among}
use Rattle.end_search.specs.Tables.{AreGroups}
use Rattle.composition_tables.proofs.Growth.{grown_same}

-- the links of two ports, by the pairs of their items
pub pair_links : (d : Description) (p r : PortEnd) (pairs kept : List (ℕ × ℕ)) → AreMatches d p.interface r.interface kept → pairs ≡ kept → (before after : List Link) (is_full : Bool)
    → Grown (AnyOf (λ (items : ℕ × ℕ) x. x ≡ link_of p r items) pairs) before after is_full → Grown (IsPairLink d p r) before after is_full
pair_links d p r pairs kept is same before after is_full g =
    let are = subst (AreMatches d p.interface r.interface) (sym same) is in
    grown_same (AnyOf (λ (items : ℕ × ℕ) x. x ≡ link_of p r items) pairs) (IsPairLink d p r) before after is_full
    (λ x a. (a.0.0, a.0.1, (are a.0.0 a.0.1).0 a.1, a.2))
    (λ x h. ((h.0, h.1), (are h.0 h.1).1 h.2, h.3)) g

-- links stay, so pairs of ports stay done
module _ (d : Description) (m : Matched) (before : List Link) (adding : IsAdding d m before) where
  pub adding_more : (n : Matched) (P : Link → Type 0) (after : List Link) (is_full : Bool) → IsMatched d n → n.done ≡ m.done → n.crossed ≡ m.crossed → Grown P before after is_full → IsAdding d n after
  adding_more n P after is_full matched same crossed g = record {
    matched = matched;
    done = λ k a x h. g.stays x (adding.done k (subst (λ s. Among k s.keys) same a) x h);
    crossed = λ k a x h. g.stays x (adding.crossed k (subst (λ s. Among k s.keys) crossed a) x h);
  }

  pub adding_same : (n : Matched) → IsMatched d n → n.done ≡ m.done → n.crossed ≡ m.crossed → IsAdding d n before
  adding_same n matched same crossed = record {
    matched = matched;
    done = λ k a x h. adding.done k (subst (λ s. Among k s.keys) same a) x h;
    crossed = λ k a x h. adding.crossed k (subst (λ s. Among k s.keys) crossed a) x h;
  }

  noted_matched : (n : Matched) → n.interfaces ≡ m.interfaces → n.kept ≡ m.kept → n.sides ≡ m.sides → n.near ≡ m.near → IsMatched d n
  noted_matched n listed kept sides near = record {
    listed = subst (λ l. AreListed d l.items) (sym listed) adding.matched.listed;
    kept = λ k pairs is. adding.matched.kept k pairs (ap (λ l. get same_pair l k) (sym kept) ∙ is);
    sides = λ g s is. adding.matched.sides g s (ap (λ l. get same_gate l g) (sym sides) ∙ is);
    near = subst (AreNear d Anything) (sym near) adding.matched.near;
  }

  pub done_before : (p r : PortEnd) → Among (p, r) m.done.keys → Grown (IsPairLink d p r) before before false
  done_before p r a = record {
    sound = λ x h. inl h;
    stays = λ x h. h;
    has = λ _ x h. adding.done (p, r) a x h;
    past = λ full. absurd (true≢false (sym full));
  }

  pub done_now : (p r : PortEnd) (n : Matched) → n.interfaces ≡ m.interfaces → n.kept ≡ m.kept → n.sides ≡ m.sides → n.near ≡ m.near → n.crossed ≡ m.crossed
      → ((k : PortEnd × PortEnd) → Among k n.done.keys ↔ (Among k m.done.keys ⊎ (k ≡ (p, r)))) → ((x : Link) → IsPairLink d p r x → Among x before) → IsAdding d n before
  done_now p r n listed kept sides near crossed noted all = record {
    matched = noted_matched n listed kept sides near;
    done = λ k a x h. ⊎_elim (λ o. adding.done k o x h) (λ (e : k ≡ (p, r)). all x (subst (λ (l : PortEnd × PortEnd). IsPairLink d l.0 l.1 x) e h)) ((noted k).0 a);
    crossed = λ k a x h. adding.crossed k (subst (λ s. Among k s.keys) crossed a) x h;
  }

  pub crossed_before : (c : Crossing) → Among c m.crossed.keys → Grown (IsCrossingLink d c) before before false
  crossed_before c a = record {
    sound = λ x h. inl h;
    stays = λ x h. h;
    has = λ _ x h. adding.crossed c a x h;
    past = λ full. absurd (true≢false (sym full));
  }

  pub crossed_now : (c : Crossing) (n : Matched) → n.interfaces ≡ m.interfaces → n.kept ≡ m.kept → n.sides ≡ m.sides → n.near ≡ m.near → n.done ≡ m.done
      → ((k : Crossing) → Among k n.crossed.keys ↔ (Among k m.crossed.keys ⊎ (k ≡ c))) → ((x : Link) → IsCrossingLink d c x → Among x before) → IsAdding d n before
  crossed_now c n listed kept sides near done noted all = record {
    matched = noted_matched n listed kept sides near;
    done = λ k a x h. adding.done k (subst (λ s. Among k s.keys) done a) x h;
    crossed = λ k a x h. ⊎_elim (λ o. adding.crossed k o x h) (λ (e : k ≡ c). all x (subst (λ l. IsCrossingLink d l x) e h)) ((noted k).0 a);
  }

-- the links of ports, by pairs of their interfaces
module _ (d : Description) (provided required : List PortEnd) (pairs : List (ℕ × ℕ)) where
  pub grouped : {S T : Type 0} (first : HashMap ℕ (Vec PortEnd Global) S) (second : HashMap ℕ (Vec PortEnd Global) T) → AreGroups provided first → AreGroups required second → HasPairs d provided required pairs
      → (before after : List Link) (is_full : Bool) → Grown (AnyOf (IsBetween d first second) pairs) before after is_full → Grown (IsCrossLink d provided required) before after is_full
  grouped first second left right has before after is_full g = grown_same (AnyOf (IsBetween d first second) pairs) (IsCrossLink d provided required) before after is_full
      (λ x a. let c = a.2 in (c.0, ((left a.0.0 c.0).0 c.1).0, (c.2.0, ((right a.0.1 c.2.0).0 c.2.1).0, c.2.2)))
      (λ x c. let l = c.2.2 in
      ((c.0.interface, c.2.0.interface), has c.0 c.2.0 c.1 c.2.1 l.0 l.1 l.2, (c.0, (left c.0.interface c.0).1 (c.1, refl), (c.2.0, (right c.2.0.interface c.2.0).1 (c.2.1, refl), l)))) g
