-- The typed reading of a description.
use Rattle.std.specs.Prelude.{ℕ, List, map, codes, unwrap_or}
use Rattle.serde_json.specs.Data.{Data, null}
use Rattle.serde_json.specs.Find.{get}
use Rattle.description_types.specs.declared.interface.TypeTable.{TypeTable}
use Rattle.description_types.specs.declared.description.Composition.{Composition}
use Rattle.description_types.specs.declared.description.Description.{Description}
use Rattle.description_types.specs.declared.description.TaskMapping.{TaskMapping}
use Rattle.declared_names.specs.declared.scopes.Scope.{Scope}
use Rattle.component_model.specs.Compositions.{composition_reading, mapping_reading}
use Rattle.declared_names.specs.Names.{position_in}
use Rattle.component_model.specs.Programs.{ComponentTree, component_reading, component_tree}
use Rattle.declared_names.specs.Scopes.{scope_of}
use Rattle.component_model.specs.Types.{types_reading}
use Rattle.declared_names.specs.Values.{items_at, text_at}

-- a description with its programs as trees; all else as it stands
pub record DescriptionTree : Type 0 where
  pub types : TypeTable
  pub components : List ComponentTree
  pub compositions : List Composition
  pub root : ℕ
  pub mapping : TaskMapping

abbrev pub description_of : Description → DescriptionTree
description_of d = record { types = d.types; components = map component_tree d.components; compositions = d.compositions; root = d.root; mapping = d.mapping }

-- what the data is read as, where names mean what the scope says
abbrev pub reading_in : Scope → Data → DescriptionTree
reading_in scope d = record {
  types = types_reading scope.types d;
  components = map (component_reading scope) (items_at (codes "components") d);
  compositions = map (composition_reading scope.interfaces scope.prototypes) (items_at (codes "compositions") d);
  root = position_in scope.prototypes.compositions (text_at (codes "root") d);
  mapping = mapping_reading (unwrap_or (get (codes "mapping") d) null);
}

-- what the data is read as
abbrev pub reading : Data → DescriptionTree
reading d = reading_in (scope_of d) d
