-- What an answer tells, of one check after another.
use Rattle.std.proofs.Common.{◌≡◌, ℕ, List, Bool, true, false, if◌then◌else◌, ap, Option, Some, None, Result, Ok, Err, OnOk, inl, inr, refl, sym, subst}
use Rattle.rte_text.specs.declared.refusal.Refused.{Refused}
use Rattle.rte_text.specs.declared.refusal.Refused.TheVariants.{Rule, Memory}
use Rattle.plan_definitions.specs.Telling.{Tells as Says}
use Rattle.plan_definitions.specs.Common.{IsAfter, Tells, mapping_text, Planned, IsThen, of_size, is_too_large}

-- the same as a relation, and of another type of what is accepted
pub as_told : {U : Type 0} (o : Option (ℕ × List ℕ)) (r : Result U Refused) → Says o r → Tells (λ x. o ≡ x) r
as_told o (Ok u) says = says
as_told o (Err (Rule x)) says = says
as_told o (Err Memory) says = tt

pub still_tells : (U V : Type 0) (told : Option (ℕ × List ℕ) → Type 0) (x : Refused) → Tells {U = U} told (Err x) → Tells {U = V} told (Err x)
still_tells U V told (Rule x) tells = tells
still_tells U V told Memory tells = tt

module _ (first later : Option (ℕ × List ℕ) → Type 0) where
  -- the first refuses nothing
  pub then_later : {U : Type 0} (r : Result U Refused) → first None → Tells later r → Tells (IsThen first later) r
  then_later (Ok u) none tells = (none, tells)
  then_later (Err (Rule x)) none tells = inr (none, tells)
  then_later (Err Memory) none tells = tt

  -- it refuses
  pub then_first : (U V : Type 0) (x : Refused) → Tells {U = U} first (Err x) → Tells {U = V} (IsThen first later) (Err x)
  then_first U V (Rule x) tells = inl tells
  then_first U V Memory tells = tt

module _ (later : Option (ℕ × List ℕ) → Type 0) (o : Option (ℕ × List ℕ)) where
  -- nothing is refused before
  pub passed_on : {U : Type 0} (r : Result U Refused) → o ≡ None → Tells later r → Tells (IsAfter o later) r
  passed_on (Ok u) none tells = subst (λ p. IsAfter p later None) (sym none) tells
  passed_on (Err (Rule x)) none tells = subst (λ p. IsAfter p later (Some (x.rule, x.place))) (sym none) tells
  passed_on (Err Memory) none tells = tt

  -- something is
  pub refused_before : (U V : Type 0) (x : Refused) → Says {U = U} o (Err x) → Tells {U = V} (IsAfter o later) (Err x)
  refused_before U V (Rule x) says = subst (λ p. IsAfter p later (Some (x.rule, x.place))) (sym says) refl
  refused_before U V Memory says = tt

-- what else is told of what is accepted
pub on_ok : {U : Type 0} (P : Type 0) (r : Result U Refused) → P → OnOk r P
on_ok P (Ok u) p = p
on_ok P (Err x) p = tt

-- rule 30
abbrev by_size : Bool → Option (ℕ × List ℕ)
by_size large = if large then Some (30, mapping_text) else None

pub size_refused : (V : Type 0) (p : Planned) (later : Option (ℕ × List ℕ) → Type 0) (x : Refused) → is_too_large p ≡ true → Says {U = Unit} (Some (30, mapping_text)) (Err x)
    → Tells {U = V} (IsThen (λ y. of_size p ≡ y) later) (Err x)
size_refused V p later x large says = then_first (λ y. of_size p ≡ y) later Unit V x (as_told {U = Unit} (of_size p) (Err x) (subst (λ o. Says {U = Unit} o (Err x)) (sym (ap by_size large)) says))

pub size_kept : {U : Type 0} (p : Planned) (later : Option (ℕ × List ℕ) → Type 0) (r : Result U Refused) → is_too_large p ≡ false → Tells later r → Tells (IsThen (λ y. of_size p ≡ y) later) r
size_kept p later r fits tells = then_later (λ y. of_size p ≡ y) later r (ap by_size fits) tells
