-- The stands above a stand: those from which delegations alone lead down to it.
use Rattle.std.proofs.Common.{◌≡◌, ℕ, List, [], ◌∷◌, Bool, true, false, ◌&&◌, cond, nat_eq, Option, Some, None, inl, inr, refl, sym, ap, subst, ◌∙◌}
use Rattle.bus_semantics.specs.Common.{eqb-true, eq-eqb, and_parts, and_from, flat_map}
use Rattle.plan_definitions.specs.Common.{Connector, Assembly, Delegation, Description, InnerPort, PrototypeType, connectors_of, lets_join, Delegates, IsBelow, Stand, itself, further, Among}
use Rattle.plan_definitions.specs.Common.{type_at}
use Rattle.description_types.specs.declared.description.PrototypeType.TheVariants.{Component, Composition}
use Rattle.composition_tables.proofs.Members.{flat, unflat}

module _ (d : Description) where
  -- the connector delegates to this inner port of the composition c, and may
  abbrev leads : ℕ → ℕ → ℕ → InnerPort → ℕ → Bool
  leads c q port inner outer = nat_eq inner.prototype q && (nat_eq inner.port port && lets_join d c (Delegation inner outer))

  abbrev by_connector : ℕ → ℕ → ℕ → (ℕ → List Stand) → Connector → List Stand
  by_connector c q port above (Assembly provider requester) = []
  by_connector c q port above (Delegation inner outer) = cond (leads c q port inner outer) (above outer) []

  abbrev above : Option PrototypeType → ℕ → ℕ → (ℕ → List Stand) → List Stand
  above None q port rest = []
  above (Some (Component k)) q port rest = []
  above (Some (Composition c)) q port rest = flat_map (by_connector c q port rest) (connectors_of d c)

  pub ups : List ℕ → ℕ → List Stand
  ups [] port = record { path = []; port = port } ∷ []
  ups (q ∷ path) port = record { path = q ∷ path; port = port } ∷ above (type_at d (Composition d.root) path) q port (ups path)

  -- one that stands above by a connector
  record Above (at : Option PrototypeType) (q port : ℕ) (rest : ℕ → List Stand) (s : Stand) : Type 0 where
    composition : ℕ
    stands : at ≡ Some (Composition composition)
    outer : ℕ
    connects : Among (Delegation (record { prototype = q; port = port }) outer) (connectors_of d composition)
    lets : lets_join d composition (Delegation (record { prototype = q; port = port }) outer) ≡ true
    there : Among s (rest outer)

  made : (c q port : ℕ) (rest : ℕ → List Stand) (s : Stand) (x : Connector) → Among x (connectors_of d c) → Among s (by_connector c q port rest x) → Above (Some (Composition c)) q port rest s
  made c q port rest s (Assembly provider requester) among h = absurd h
  made c q port rest s (Delegation inner outer) among h = by (leads c q port inner outer) refl h
    where
      by : (b : Bool) → leads c q port inner outer ≡ b → Among s (cond b (rest outer) []) → Above (Some (Composition c)) q port rest s
      by false is h = absurd h
      by true is h = let p = and_parts (nat_eq inner.prototype q) (nat_eq inner.port port && lets_join d c (Delegation inner outer)) is in
          let r = and_parts (nat_eq inner.port port) (lets_join d c (Delegation inner outer)) p.1 in
          let same : inner ≡ record { prototype = q; port = port } = λ i. record { prototype = eqb-true inner.prototype q p.0 i; port = eqb-true inner.port port r.0 i } in
          record {
            composition = c;
            stands = refl;
            outer = outer;
            connects = subst (λ (x : InnerPort). Among (Delegation x outer) (connectors_of d c)) same among;
            lets = subst (λ (x : InnerPort). lets_join d c (Delegation x outer) ≡ true) same r.1;
            there = h;
          }

  from_above : (at : Option PrototypeType) (q port : ℕ) (rest : ℕ → List Stand) (s : Stand) → Among s (above at q port rest) → Above at q port rest s
  from_above None q port rest s h = absurd h
  from_above (Some (Component k)) q port rest s h = absurd h
  from_above (Some (Composition c)) q port rest s h = let (x, among, within) = unflat (by_connector c q port rest) (connectors_of d c) s h in made c q port rest s x among within

  to_above : (at : Option PrototypeType) (q port : ℕ) (rest : ℕ → List Stand) (s : Stand) → Above at q port rest s → Among s (above at q port rest)
  to_above at q port rest s a = subst (λ o. Among s (above o q port rest)) (sym a.stands)
      (flat (by_connector a.composition q port rest) (Delegation (record { prototype = q; port = port }) a.outer) (connectors_of d a.composition) s a.connects
      (subst (λ b. Among s (cond b (rest a.outer) [])) (sym (and_from (nat_eq q q) (nat_eq port port && lets_join d a.composition (Delegation (record { prototype = q; port = port }) a.outer)) (eq-eqb q q refl)
      (and_from (nat_eq port port) (lets_join d a.composition (Delegation (record { prototype = q; port = port }) a.outer)) (eq-eqb port port refl) a.lets))) a.there))

  -- ---- the stands above are those below which it is

  pub ups_self : (path : List ℕ) (port : ℕ) → Among (record { path = path; port = port }) (ups path port)
  unfolding ups
  ups_self [] port = inl refl
  ups_self (q ∷ path) port = inl refl

  extended : (lower middle upper : Stand) → Delegates d middle lower → IsBelow d middle upper → IsBelow d lower upper
  extended lower middle upper first itself = further first itself
  extended lower middle upper first (further next rest) = further next (extended lower middle _ first rest)

  delegation : (q : ℕ) (path : List ℕ) (port : ℕ) (rest : ℕ → List Stand) (s : Stand) (a : Above (type_at d (Composition d.root) path) q port rest s) → Delegates d (record { path = path; port = a.outer }) (record { path = q ∷ path; port = port })
  delegation q path port rest s a = record { composition = a.composition; stands = a.stands; prototype = q; inside = refl; connects = a.connects; lets = a.lets }

  pub ups_below : (path : List ℕ) (port : ℕ) (upper : Stand) → Among upper (ups path port) → IsBelow d (record { path = path; port = port }) upper
  unfolding ups
  ups_below [] port upper (inl is) = subst (IsBelow d (record { path = []; port = port })) (sym is) itself
  ups_below [] port upper (inr h) = absurd h
  ups_below (q ∷ path) port upper (inl is) = subst (IsBelow d (record { path = q ∷ path; port = port })) (sym is) itself
  ups_below (q ∷ path) port upper (inr h) = let a = from_above (type_at d (Composition d.root) path) q port (ups path) upper h in
      extended (record { path = q ∷ path; port = port }) (record { path = path; port = a.outer }) upper (delegation q path port (ups path) upper a) (ups_below path a.outer upper a.there)

  -- a stand that delegates to one above is above
  stepped : (q : ℕ) (path : List ℕ) (port : ℕ) (upper : Stand) → Delegates d upper (record { path = q ∷ path; port = port }) → Above (type_at d (Composition d.root) path) q port (ups path) upper
  stepped q path port upper g =
      let prototype : q ≡ g.prototype = cc g.inside in
      let inside : path ≡ upper.path = cc g.inside in
      record {
        composition = g.composition;
        stands = ap (type_at d (Composition d.root)) inside ∙ g.stands;
        outer = upper.port;
        connects = subst (λ k. Among (Delegation (record { prototype = k; port = port }) upper.port) (connectors_of d g.composition)) (sym prototype) g.connects;
        lets = subst (λ k. lets_join d g.composition (Delegation (record { prototype = k; port = port }) upper.port) ≡ true) (sym prototype) g.lets;
        there = subst (λ p. Among (record { path = p; port = upper.port }) (ups path upper.port)) inside (ups_self path upper.port);
      }

  above_step : (path : List ℕ) (port : ℕ) (next upper : Stand) → Among next (ups path port) → Delegates d upper next → Among upper (ups path port)
  unfolding ups
  above_step [] port next upper (inl is) g = absurd (cc (ap (λ (s : Stand). s.path) is, g.inside))
  above_step [] port next upper (inr h) g = absurd h
  above_step (q ∷ path) port next upper (inl is) g = inr (to_above (type_at d (Composition d.root) path) q port (ups path) upper (stepped q path port upper (subst (Delegates d upper) is g)))
  above_step (q ∷ path) port next upper (inr h) g = let a = from_above (type_at d (Composition d.root) path) q port (ups path) next h in
      inr (to_above (type_at d (Composition d.root) path) q port (ups path) upper (record { composition = a.composition; stands = a.stands; outer = a.outer; connects = a.connects; lets = a.lets; there = above_step path a.outer next upper a.there g }))

  pub below_ups : (lower upper : Stand) → IsBelow d lower upper → Among upper (ups lower.path lower.port)
  below_ups lower upper itself = ups_self lower.path lower.port
  below_ups lower upper (further {next = next} g rest) = above_step lower.path lower.port next upper (below_ups lower next rest) g
