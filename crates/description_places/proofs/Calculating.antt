-- Nothing in a calculation is declared, and nothing refers.
use Rattle.std.proofs.Common.{◌≡◌, List, true, false, not, ◌||◌, refl, sym, ap, ◌∙◌}
use Rattle.std.proofs.lemmas.Bool.{false≢true, and_parts}
use Rattle.serde_json.specs.Data.{Data}
use Rattle.description_places.specs.declared.catalogs.Catalog.{Catalog}
use Rattle.description_shapes.specs.declared.kind.Kind.{Kind}
use Rattle.description_shapes.specs.declared.kind.Kind.TheVariants as kind
use Rattle.description_shapes.specs.Calculations.{Calculation, assignment, expression, constant, name, operator, unknown, other, kind_in, IsCalculation, Passes}
use Rattle.description_places.specs.Distinct.{breaks_distinct, is_repeated}
use Rattle.description_shapes.specs.Forms.{form_of}
use Rattle.description_places.specs.References.{breaks_references, is_found}
use Rattle.description_places.specs.Rules.{is_misnamed}
use Rattle.description_shapes.specs.Skips.{is_plain, is_declared_kind, declares_nothing, is_referring_kind, refers_to_nothing, Skips}
use Rattle.description_shapes.specs.Spots.{Level}
use Rattle.description_shapes.specs.Visits.{Visit}
use Rattle.description_shapes.proofs.Calculating.{passes, skips}

module _ (names : Catalog) where
  -- ---- nothing in it is repeated

  never_repeated : (c : Calculation) (v : Visit) → v.kind ≡ kind_in c → breaks_distinct names v ≡ false
  never_repeated c v is = ap (λ k. is_repeated names k v.value v.around) is ∙ by c
    where
      by : (c : Calculation) → is_repeated names (kind_in c) v.value v.around ≡ false
      by assignment = refl
      by expression = refl
      by constant = refl
      by name = refl
      by operator = refl
      by unknown = refl
      by other = refl

  pub distinct_pass : (kind : Kind) → IsCalculation kind → Passes (breaks_distinct names) kind
  distinct_pass kind calculation = passes (breaks_distinct names) never_repeated kind calculation

  undeclared : (k : Kind) (d : Data) (around : List Level) → declares_nothing k ≡ true → is_repeated names k d around ≡ false
  undeclared kind.DeclaredName d around h = absurd (false≢true h)
  undeclared kind.DeclaredMode d around h = absurd (false≢true h)
  undeclared kind.DeclaredArea d around h = absurd (false≢true h)
  undeclared kind.ComSpecItem d around h = absurd (false≢true h)
  undeclared kind.Position d around h = absurd (false≢true h)
  undeclared kind.ItemAccess d around h = absurd (false≢true h)
  undeclared kind.VariableAccess d around h = absurd (false≢true h)
  undeclared kind.PortAccess d around h = absurd (false≢true h)
  undeclared kind.AreaAccess d around h = absurd (false≢true h)
  undeclared _ d around h = refl

  pub distinct_skip : (kind : Kind) → declares_nothing kind ≡ true → Skips (breaks_distinct names) kind
  distinct_skip kind h = skips (breaks_distinct names) never_repeated kind (and_parts (is_plain (form_of kind)) (not (is_declared_kind kind)) h).0 (λ d s. undeclared kind d s.around h)

  -- ---- nothing in it refers

  never_refers : (c : Calculation) (v : Visit) → v.kind ≡ kind_in c → breaks_references names v ≡ false
  never_refers c v is = ap (λ k. not (is_found names k v.value v.around)) is ∙ by c
    where
      by : (c : Calculation) → not (is_found names (kind_in c) v.value v.around) ≡ false
      by assignment = refl
      by expression = refl
      by constant = refl
      by name = refl
      by operator = refl
      by unknown = refl
      by other = refl

  pub references_pass : (kind : Kind) → IsCalculation kind → Passes (breaks_references names) kind
  references_pass kind calculation = passes (breaks_references names) never_refers kind calculation

  finds : (k : Kind) (d : Data) (around : List Level) → refers_to_nothing k ≡ true → is_found names k d around ≡ true
  finds kind.TypeName d around h = absurd (false≢true h)
  finds kind.GroupName d around h = absurd (false≢true h)
  finds kind.InterfaceName d around h = absurd (false≢true h)
  finds kind.PrototypeTypeName d around h = absurd (false≢true h)
  finds kind.RootName d around h = absurd (false≢true h)
  finds kind.TaskName d around h = absurd (false≢true h)
  finds kind.InitialMode d around h = absurd (false≢true h)
  finds kind.RunnableName d around h = absurd (false≢true h)
  finds kind.ComponentPort d around h = absurd (false≢true h)
  finds kind.OuterPort d around h = absurd (false≢true h)
  finds kind.AreaName d around h = absurd (false≢true h)
  finds kind.VariableName d around h = absurd (false≢true h)
  finds kind.ComSpecItem d around h = absurd (false≢true h)
  finds kind.EventItem d around h = absurd (false≢true h)
  finds kind.AccessItem d around h = absurd (false≢true h)
  finds kind.PairItem d around h = absurd (false≢true h)
  finds kind.JoinedPrototype d around h = absurd (false≢true h)
  finds kind.JoinedPort d around h = absurd (false≢true h)
  finds kind.CoreNumber d around h = absurd (false≢true h)
  finds _ d around h = refl

  pub references_skip : (kind : Kind) → refers_to_nothing kind ≡ true → Skips (breaks_references names) kind
  references_skip kind h = skips (breaks_references names) never_refers kind (and_parts (is_plain (form_of kind)) (not (is_referring_kind kind)) h).0 (λ d s. ap not (finds kind d s.around h))

  -- ---- so neither rule is broken in it
  pub none_misnamed : (v : Visit) → IsCalculation v.kind → false ≡ is_misnamed names v
  none_misnamed v is = sym (ap (λ b. b || breaks_references names v) (never_repeated is.0 v is.1) ∙ never_refers is.0 v is.1)
