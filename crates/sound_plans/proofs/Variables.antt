-- Variables among the elements.
use Rattle.std.proofs.Common.{◌≡◌, ℕ, Bool, true, false, Option, Some, None, is_none, refl}
use Rattle.bus_semantics.specs.Common.{option_map_or, is_variable}
use Rattle.plan_definitions.specs.Common.{DataElement, SwImplPolicy, Standard, Queued, Description, Flat, declared_at, kind_of, policy_kind}
use Rattle.bus_laws.specs.Common.{ElemKind, ElemPlan}
use Rattle.bus_semantics.specs.declared.plan.ElemKind.TheVariants as kind
use Rattle.plan_definitions.specs.declared.site.Site.{Site}

-- the kind of an element tells whether it is a variable
abbrev pub variable_kind : ElemKind → Bool
variable_kind kind.Variable = true
variable_kind _ = false

with_kind : (e : ElemPlan) (k : ElemKind) → is_variable (record e { kind = k }) ≡ variable_kind k
with_kind e kind.Unqueued = refl
with_kind e kind.Queued = refl
with_kind e kind.Variable = refl

pub variable_is : (e : ElemPlan) → is_variable e ≡ variable_kind e.kind
variable_is e = with_kind e e.kind

of_policy : (s : SwImplPolicy) → variable_kind (policy_kind s) ≡ false
of_policy Standard = refl
of_policy Queued = refl

of_declared : (o : Option DataElement) → variable_kind (option_map_or (λ (e : DataElement). policy_kind e.sw_impl_policy) o kind.Unqueued) ≡ false
of_declared None = refl
of_declared (Some e) = of_policy e.sw_impl_policy

module _ (d : Description) (f : Flat) where
  with_port : (s : Site) (o : Option ℕ) → variable_kind (kind_of d f (record s { port = o })) ≡ is_none o
  with_port s None = refl
  with_port s (Some k) = of_declared (declared_at d f s.owner k s.item)

  pub no_port_is : (s : Site) → variable_kind (kind_of d f s) ≡ is_none s.port
  no_port_is s = with_port s s.port
