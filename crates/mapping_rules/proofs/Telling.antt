-- What an answer tells.
use Rattle.std.proofs.Common.{◌≡◌, ℕ, List, Some, None, Result, Ok, Err, OnOk, refl, sym, subst}
use Rattle.std.proofs.lemmas.Option.{same_Some}
use Rattle.rte_text.specs.declared.refusal.Refused.{Refused}
use Rattle.rte_text.specs.declared.refusal.Refused.TheVariants.{Rule, Memory}
use Rattle.plan_definitions.specs.Common.{Description, Flat, IsAfter, IsOfTasks, Tells, mapping_text, of_events, ReachesItself}
use Rattle.plan_definitions.specs.Telling.{Tells as Says}
use Rattle.plan_definitions.specs.MappingRefusals.{IsRefusal}

module _ (d : Description) (f : Flat) where
  -- rule 29 is broken
  pub tasks_refused : {U : Type 0} (r : Result U Refused) → ReachesItself d f → Says (Some (29, mapping_text)) r → Tells (IsOfTasks d f) r
  tasks_refused (Ok u) circle says = cc
  tasks_refused (Err (Rule x)) circle says = (is, circle)
    where
      is : ◌≡◌ {A = ℕ × List ℕ} (x.rule, x.place) (29, mapping_text)
      is = same_Some (x.rule, x.place) (29, mapping_text) (sym says)
  tasks_refused (Err Memory) circle says = tt

  -- nothing is broken before rule 29
  pub passed_on : {U : Type 0} (r : Result U Refused) → of_events d f ≡ None → Tells (IsOfTasks d f) r → Tells (IsRefusal d f) r
  passed_on (Ok u) none tells = subst (λ o. IsAfter o (IsOfTasks d f) None) (sym none) tells
  passed_on (Err (Rule x)) none tells = subst (λ o. IsAfter o (IsOfTasks d f) (Some (x.rule, x.place))) (sym none) tells
  passed_on (Err Memory) none tells = tt

  -- something is
  pub refused_before : (U : Type 0) (x : Refused) → Says {U = U} (of_events d f) (Err x) → Tells {U = U} (IsRefusal d f) (Err x)
  refused_before U (Rule x) says = subst (λ o. IsAfter o (IsOfTasks d f) (Some (x.rule, x.place))) (sym says) refl
  refused_before U Memory says = tt

pub moved : (P : Description → Flat → Type 0) (d e : Description) (f g : Flat) → d ≡ e → f ≡ g → P d f → P e g
moved P d e f g de fg p = subst (λ h. P e h) fg (subst (λ k. P k f) de p)

pub never_ok : {U : Type 0} (P : Type 0) (r : Result U Refused) → OnOk r ⊥ → OnOk r P
never_ok P (Ok u) h = absurd h
never_ok P (Err x) h = tt

-- what refuses the one refuses the other
pub passed_over : (d : Description) (f : Flat) (U : Type 0) (x : Refused) → Tells {U = Unit} (IsRefusal d f) (Err x) → Tells {U = U} (IsRefusal d f) (Err x)
passed_over d f U (Rule x) tells = tells
passed_over d f U Memory tells = tt
