-- Each description is made flat, or is refused by rule 9, 10 or 11.
use Rattle.std.proofs.Common.{◌≡◌, ℕ, ◌≤◌, List, length, codes, true, nat_le, Option, Some, None, ◌⊎◌, inl, inr, refl, arith}
use Rattle.plan_definitions.specs.Common.{Description, IsFirstBroken, IsFirst, IsRefusedAt, KeepsLimits, KeepsNesting, composition_place, connector_place, instances, names_env}
use Rattle.plan_definitions.specs.Common.{ContainsItself, places}
use Rattle.outcome_laws.specs.Flattened.{HasFlat, HasRefusal}
use Rattle.outcome_laws.proofs.Broken.{first_broken}
use Rattle.outcome_laws.proofs.Deciding.{as_well, bool_decided, both, false_decided, refused}
use Rattle.outcome_laws.proofs.Depth.{depth_decided}
use Rattle.outcome_laws.proofs.Joining.{joins, joins_are, joins_in_order, limit_decided}
use Rattle.outcome_laws.proofs.Nesting.{first_nested}

module _ (d : Description) where
  few_decided : (n limit : ℕ) → Dec (n ≤ limit)
  few_decided n limit = as_well to from (bool_decided (nat_le n limit))
    where
      to : nat_le n limit ≡ true → n ≤ limit
      to is = grind arith

      from : n ≤ limit → nat_le n limit ≡ true
      from is = grind arith

  limits_decided : Dec (KeepsLimits d)
  limits_decided = as_well (λ k. record { instances = k.0.0; depth = k.0.1; names = k.1.0; joins = k.1.1 }) (λ k. ((k.instances, k.depth), (k.names, k.joins)))
      (both (both (few_decided (length (places d)) 1024) (refused (depth_decided d))) (both (false_decided (names_env d)) (refused (limit_decided d))))

  abbrev Outcome : Type 0
  Outcome = HasFlat d ⊎ HasRefusal d

  at_rule : (rule : ℕ) (place : List ℕ) → IsRefusedAt d rule place → Outcome
  at_rule rule place refused = inr (record { rule = rule; place = place }, refused)

  of_connectors : KeepsNesting d → KeepsLimits d → (o : Option (ℕ × ℕ)) → IsFirstBroken d o → Outcome
  of_connectors nesting limits (Some p) broken = at_rule 11 (connector_place p) (inr (inr (refl, nesting, limits, (p, broken, refl))))
  of_connectors nesting limits None none = inl (
    record { instances = instances d; joins = joins d },
    record {
      nesting = nesting;
      limits = limits;
      connectors = none;
      instances_listed = refl;
      in_order = joins_in_order d;
      joined = joins_are d;
    },
  )

  of_limits : KeepsNesting d → Dec (KeepsLimits d) → Outcome
  of_limits nesting (yes limits) = of_connectors nesting limits (first_broken d).0 (first_broken d).1
  of_limits nesting (no past) = at_rule 10 (codes "/root") (inr (inl (refl, nesting, past, refl)))

  of_nesting : (o : Option ℕ) → IsFirst (ContainsItself d) (length d.compositions) o → Outcome
  of_nesting (Some c) found = at_rule 9 (composition_place c) (inl (refl, (c, found, refl)))
  of_nesting None nesting = of_limits nesting limits_decided

  -- made flat, or refused
  pub flattened : Outcome
  flattened = of_nesting (first_nested d).0 (first_nested d).1
