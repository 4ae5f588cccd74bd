-- What the component or composition declares that a value stands in.
use Rattle.std.specs.Prelude.{slice_get, Option, Some, None}
use Rattle.description_places.specs.declared.catalogs.Catalog.{Catalog}
use Rattle.description_places.specs.declared.catalogs.ComponentLists.{ComponentLists}
use Rattle.description_places.specs.declared.catalogs.CompositionLists.{CompositionLists}
use Rattle.description_places.specs.declared.catalogs.TypeNumber.{TypeNumber}
use Rattle.description_places.specs.declared.catalogs.TypeNumber.TheVariants.{Component, Composition}

abbrev pub component_of : Catalog → Option TypeNumber → Option ComponentLists
component_of c (Some (Component n)) = slice_get c.prototypes.in_components n
component_of c _ = None

abbrev pub composition_of : Catalog → Option TypeNumber → Option CompositionLists
composition_of c (Some (Composition n)) = slice_get c.prototypes.in_compositions n
composition_of c _ = None
