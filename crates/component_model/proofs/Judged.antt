-- What the typed reading of an unbroken value tells of its bytes.
use Rattle.std.proofs.Common.{◌≡◌, ℕ, List, Result, Ok, Err, IfOk, inr, sym, ap, ◌∙◌}
use Rattle.std.specs.Prelude.{IfErr}
use Rattle.std.specs.Option.{option_or}
use Rattle.serde_json.specs.Data.{Data}
use Rattle.rte_text.specs.declared.refusal.Refused.{Refused}
use Rattle.rte_text.specs.declared.refusal.Refused.TheVariants.{Rule, Memory}
use Rattle.description_places.specs.Rules.{IsUnbroken}
use Rattle.description_types.specs.Refusals.{Tells}
use Rattle.description_types.specs.declared.description.Description.{Description}
use Rattle.component_model.specs.Descriptions.{DescriptionTree, description_of, reading}
use Rattle.component_model.specs.Refusals.{IsRead, IsRefusalOf, refusal, typed_refusal}

module _ (bytes : List ℕ) (d : Data) (tree : DescriptionTree) (unbroken : IsUnbroken bytes d) (is : tree ≡ reading d) where
  -- only the typed reading can be refused
  whole : refusal d ≡ typed_refusal tree
  whole = ap (λ o. option_or o (typed_refusal (reading d))) unbroken.1 ∙ ap typed_refusal (sym is)

  pub read : (r : Result Description Refused) → IfOk r (λ x. description_of x ≡ tree) → Tells (typed_refusal tree) r → IfOk r (λ x. IsRead bytes (description_of x))
  read (Ok x) same none = record { value = d; reads = unbroken.0; is_unbroken = whole ∙ none; is_reading = same ∙ is }
  read (Err why) same told = tt

  pub refused : (r : Result Description Refused) → Tells (typed_refusal tree) r → IfErr r (IsRefusalOf bytes)
  refused (Ok x) none = tt
  refused (Err (Rule why)) told = inr (record { value = d; reads = unbroken.0; is_least = whole ∙ told })
  refused (Err Memory) told = tt
