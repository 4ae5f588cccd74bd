-- The first connector that breaks rule 11, or none.
use Rattle.std.proofs.Common.{◌≡◌, ℕ, zero, suc, ◌<◌, List, [], ◌∷◌, take, length, slice_get, false, Option, Some, None, ◌⊎◌, refl, sym, subst, ◌∙◌, arith}
use Rattle.bus_semantics.specs.Common.{same_Some, slice_get_within, option_map_or}
use Rattle.plan_definitions.specs.Common.{Composition, Connector, Description, IsBrokenConnector, IsFirstBroken, connectors_of, lets_join, IsFirst, Among}
use Rattle.outcome_laws.proofs.Deciding.{among_decided, as_well, connector_decided, either, false_decided, first_found}

module _ (d : Description) where
  abbrev Breaks : ℕ → ℕ → Connector → Type 0
  Breaks c m x = (lets_join d c x ≡ false) ⊎ Among x (take m (connectors_of d c))

  breaks_decided : (c m : ℕ) → Dec (IsBrokenConnector d c m)
  breaks_decided c m = by (slice_get (connectors_of d c) m) refl
    where
      by : (o : Option Connector) → slice_get (connectors_of d c) m ≡ o → Dec (IsBrokenConnector d c m)
      by None at = no (λ b. let e : None ≡ Some b.0 = sym at ∙ b.1 in cc)
      by (Some x) at = as_well (λ h. (x, at, h)) (λ b. subst (Breaks c m) (sym (same_Some x b.0 (sym at ∙ b.1))) b.2)
          (either (false_decided (lets_join d c x)) (among_decided connector_decided x (take m (connectors_of d c))))

  within : (c m : ℕ) → IsBrokenConnector d c m → m < length (connectors_of d c)
  within c m b = slice_get_within (connectors_of d c) m b.0 b.1

  declared : (c m : ℕ) → IsBrokenConnector d c m → c < length d.compositions
  declared c m b = by d.compositions c b.1
    where
      by : (xs : List Composition) (n : ℕ) → slice_get (option_map_or (λ (x : Composition). x.connectors) (slice_get xs n) []) m ≡ Some b.0 → n < length xs
      by [] n h = absurd cc
      by (x ∷ xs) zero h = omega arith
      by (x ∷ xs) (suc n) h = omega (arith, by xs n h)

  -- the first of one composition, and the first of all
  abbrev Some_in : ℕ → Type 0
  Some_in c = (m : ℕ) × IsBrokenConnector d c m

  first_in : (c : ℕ) → (o : Option ℕ) × IsFirst (IsBrokenConnector d c) (length (connectors_of d c)) o
  first_in c = first_found (IsBrokenConnector d c) (breaks_decided c) (length (connectors_of d c))

  some_decided : (c : ℕ) → Dec (Some_in c)
  some_decided c = by (first_in c).0 (first_in c).1
    where
      by : (o : Option ℕ) → IsFirst (IsBrokenConnector d c) (length (connectors_of d c)) o → Dec (Some_in c)
      by None none = no (λ f. none f.0 (within c f.0 f.1) f.1)
      by (Some m) found = yes (m, found.1)

  pub first_broken : (o : Option (ℕ × ℕ)) × IsFirstBroken d o
  first_broken = by (first_found Some_in some_decided (length d.compositions)).0 (first_found Some_in some_decided (length d.compositions)).1
    where
      at : (c : ℕ) → c < length d.compositions → ((n : ℕ) → n < c → ¬ Some_in n) → Some_in c → (o : Option ℕ) → IsFirst (IsBrokenConnector d c) (length (connectors_of d c)) o → (o : Option (ℕ × ℕ)) × IsFirstBroken d o
      at c less before broken None none = absurd (none broken.0 (within c broken.0 broken.1) broken.1)
      at c less before broken (Some m) found = (Some (c, m), (less, found.1, found.2, (λ e n h b. before e h (n, b))))

      by : (o : Option ℕ) → IsFirst Some_in (length d.compositions) o → (o : Option (ℕ × ℕ)) × IsFirstBroken d o
      by None none = (None, λ c m b. none c (declared c m b) (m, b))
      by (Some c) found = at c found.0 found.2 found.1 (first_in c).0 (first_in c).1
