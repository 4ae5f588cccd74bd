-- Joined data elements: both are elements of the plan, the one provided and the other required, and they agree in kind, limits and
-- words.
use Rattle.std.proofs.Common.{◌≡◌, ℕ, List, [], ◌∷◌, map, Bool, true, false, not, Option, Some, None, option_map, option_and_then, inl, inr, refl, sym, ap, subst, ◌∙◌, true≢false}
use Rattle.bus_semantics.specs.Common.{and_parts, not-true, list_any, Limits, same_numbers}
use Rattle.plan_definitions.specs.Common.{DataType, Port, PortKind, Provided, Required, Description, incompatible, Flat, Join, IsFlatOf, ItemsJoin, interface_at, IsJoined, Stand}
use Rattle.plan_definitions.specs.Common.{interface_below, stand_in, Among, provides_at, port_of, kind_of, limits_of, type_of, words_of, distinct}
use Rattle.bus_semantics.specs.declared.plan.ElemKind.{ElemKind}
use Rattle.plan_definitions.specs.declared.site.Site.{Site}
use Rattle.plan_definitions.proofs.Chains.{Faces, are_joined}
use Rattle.plan_definitions.proofs.Lists.{any_from, mapped, same_numbers_refl}
use Rattle.sound_plans.proofs.PassingElements.{Passes, SameTypes, passed}
use Rattle.plan_definitions.proofs.Stands.{interface_there, of_instance, of_root, port_below, port_there}

-- ---- names that differ

pub one_named : {X : Type 0} (name : X → List ℕ) (xs : List X) → distinct (map name xs) ≡ true → (x y : X) → Among x xs → Among y xs → name x ≡ name y → x ≡ y
one_named name [] apart x y h g same = absurd h
one_named {X = X} name (z ∷ xs) apart x y h g same = by h g (one_named name xs parts.1 x y)
  where
    parts : (not (list_any (same_numbers (name z)) (map name xs)) ≡ true) × (distinct (map name xs) ≡ true)
    parts = and_parts (not (list_any (same_numbers (name z)) (map name xs))) (distinct (map name xs)) apart

    other : (w : X) → Among w xs → name z ≡ name w → ⊥
    other w h e = true≢false (sym (any_from (same_numbers (name z)) (map name xs) (name w) (mapped name xs w h) (ap (same_numbers (name z)) (sym e) ∙ same_numbers_refl (name z))) ∙ not-true (list_any (same_numbers (name z)) (map name xs)) parts.0)

    by : Among x (z ∷ xs) → Among y (z ∷ xs) → (Among x xs → Among y xs → name x ≡ name y → x ≡ y) → x ≡ y
    by (inl e) (inl g) rest = e ∙ sym g
    by (inl e) (inr g) rest = absurd (other y g (sym (ap name e) ∙ same))
    by (inr h) (inl g) rest = absurd (other x h (sym (ap name g) ∙ sym same))
    by (inr h) (inr g) rest = rest h g same

-- ---- what joined elements have in common

abbrev pub Traits : Type 0
Traits = ElemKind × Limits × ℕ

abbrev pub traits : Description → Flat → Site → Traits
traits d f s = (kind_of d f s, limits_of (type_of d f s), words_of (type_of d f s))

pub same_limits : (a b : Option DataType) → SameTypes a b → limits_of a ≡ limits_of b
same_limits None None s = refl
same_limits None (Some b) s = absurd s
same_limits (Some a) None s = absurd s
same_limits (Some a) (Some b) s = λ j. record { low = s.low j; high = s.high j }

pub same_words : (a b : Option DataType) → SameTypes a b → words_of a ≡ words_of b
same_words None None s = refl
same_words None (Some b) s = absurd s
same_words (Some a) None s = absurd s
same_words (Some a) (Some b) s = s.words

-- the ports of the ends of a join
pub record HasPorts (d : Description) (f : Flat) (j : Join) : Type 0 where
  pub provided : Port
  pub required : Port
  pub has_provided : port_of d f j.provided.instance j.provided.port ≡ Some provided
  pub has_required : port_of d f j.required.instance j.required.port ≡ Some required
  pub provides : provides_at j.provided.instance provided.kind ≡ true
  pub requires : provides_at j.required.instance required.kind ≡ false
  pub passes : Passes d.types (interface_at d provided.interface) (interface_at d required.interface)
  pub items : ItemsJoin (interface_at d provided.interface) (interface_at d required.interface) j.provided.element j.required.element

some_kind : (o : Option Port) (k : PortKind) → option_map (λ (p : Port). p.kind) o ≡ Some k → (p : Port) × (o ≡ Some p) × (p.kind ≡ k)
some_kind None k h = cc
some_kind (Some p) k h = (p, refl, cc)

module _ (d : Description) (compatible : incompatible d ≡ None) (f : Flat) (flat : IsFlatOf d f) where
  faces : (s : Stand) (o : Option ℕ) (k : ℕ) (inner outer : PortKind) (b : Bool) → stand_in d o k ≡ Some s → Faces d s inner outer
      → ((i : ℕ) → provides_at (Some i) inner ≡ b) → provides_at None outer ≡ b → (p : Port) × (port_of d f o k ≡ Some p) × (port_below d s ≡ Some p) × (provides_at o p.kind ≡ b)
  faces s o k inner outer b there (inl (r, rest, path, is)) inside root =
      let p = some_kind (port_below d s) inner is in
      let i = of_instance d o k s there r rest path in
      (p.0, port_there d f flat o k s there ∙ p.1, p.1, ap (λ q. provides_at q p.0.kind) i.1 ∙ ap (provides_at (Some i.0)) p.2 ∙ inside i.0)
  faces s o k inner outer b there (inr (empty, is)) inside root =
      let p = some_kind (port_below d s) outer is in
      let e = of_root d o k s there empty in
      (p.0, port_there d f flat o k s there ∙ p.1, p.1, ap (λ q. provides_at q p.0.kind) e ∙ ap (provides_at None) p.2 ∙ root)

  pub has_ports : (j : Join) → IsJoined d j → HasPorts d f j
  has_ports j is =
      let a = are_joined d (Passes d.types) (passed d.types) compatible is.provided is.required is.stands in
      let p = faces is.provided j.provided.instance j.provided.port Provided Required true is.is_provided a.provides (λ i. refl) refl in
      let r = faces is.required j.required.instance j.required.port Required Provided false is.is_required a.requires (λ i. refl) refl in
      record {
        provided = p.0;
        required = r.0;
        has_provided = p.1;
        has_required = r.1;
        provides = p.3;
        requires = r.3;
        passes = subst (λ q. Passes d.types (interface_at d p.0.interface) (option_and_then (λ (x : Port). interface_at d x.interface) q)) r.2
            (subst (λ q. Passes d.types (option_and_then (λ (x : Port). interface_at d x.interface) q) (option_and_then (λ (x : Port). interface_at d x.interface) (port_below d is.required))) p.2 a.passes);
        items = subst (λ q. ItemsJoin (interface_at d p.0.interface) q j.provided.element j.required.element) (interface_there d is.required r.0 r.2)
            (subst (λ q. ItemsJoin q (interface_below d is.required) j.provided.element j.required.element) (interface_there d is.provided p.0 p.2) is.items);
      }
