-- Rule 8: initial values.
use Rattle.std.specs.Prelude.{ℕ, List, ◌++◌, codes}
use Rattle.std.specs.Fmt.{decimal}
use Rattle.description_types.specs.declared.interface.TypeTable.{TypeTable}
use Rattle.description_types.specs.Initials.{keeps, keeps_element}
use Rattle.description_types.specs.Lists.{from, unless}
use Rattle.description_types.specs.declared.component.Port.{Port}
use Rattle.description_types.specs.declared.component.Variable.{Variable}
use Rattle.description_types.specs.declared.description.Composition.{Composition}
use Rattle.component_model.specs.declared.initials.Initial.{Initial}
use Rattle.component_model.specs.declared.initials.Initial.TheVariants.{OfPort, OfVariable}
use Rattle.component_model.specs.declared.initials.Owner.{Owner}
use Rattle.component_model.specs.declared.initials.Owner.TheVariants as owner
use Rattle.component_model.specs.Descriptions.{DescriptionTree}
use Rattle.component_model.specs.Programs.{ComponentTree}

-- the initial values that break the rule, in document order: those of a port, of ports, of variables, of a component, and of all components and compositions
abbrev pub broken_of_port : TypeTable → Owner → (port : ℕ) → Port → List Initial
broken_of_port types o j p = from 0 (λ k s. unless (keeps_element types p.interface s) (OfPort o j k)) p.com_specs

abbrev pub broken_of_ports : TypeTable → Owner → List Port → List Initial
broken_of_ports types o ps = from 0 (broken_of_port types o) ps

abbrev pub broken_of_variables : TypeTable → (component : ℕ) → List Variable → List Initial
broken_of_variables types i vs = from 0 (λ k v. unless (keeps types.data_types v.of_type v.init_value) (OfVariable i k)) vs

abbrev pub broken_of_component : TypeTable → ℕ → ComponentTree → List Initial
broken_of_component types i c = broken_of_ports types (owner.Component i) c.ports ++ broken_of_variables types i c.behavior.variables

abbrev pub broken_of_composition : TypeTable → ℕ → Composition → List Initial
broken_of_composition types i c = broken_of_ports types (owner.Composition i) c.ports

abbrev pub broken_initials : DescriptionTree → List Initial
broken_initials d = from 0 (broken_of_component d.types) d.components ++ from 0 (broken_of_composition d.types) d.compositions

-- the JSON pointer of an initial value
abbrev pub owner_place : Owner → List ℕ
owner_place (owner.Component i) = codes "/components/" ++ decimal i
owner_place (owner.Composition i) = codes "/compositions/" ++ decimal i

abbrev pub initial_place : Initial → List ℕ
initial_place (OfPort o j k) = ((((owner_place o ++ codes "/ports/") ++ decimal j) ++ codes "/comSpecs/") ++ decimal k) ++ codes "/initValue"
initial_place (OfVariable i k) = (((codes "/components/" ++ decimal i) ++ codes "/behavior/variables/") ++ decimal k) ++ codes "/initValue"
