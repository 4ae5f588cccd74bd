-- What the description declares, list by list.
use Rattle.std.proofs.Common.{◌≡◌, ◌%◌, ◌+◌, ℕ, List, [], ◌∷◌, ◌++◌, map, codes, refl, ap, ◌∙◌}
use Rattle.serde_json.proofs.OnLiterals.{serde_json_on_literals}
use Rattle.description_places.specs.declared.catalogs.Catalog.{Catalog}
use Rattle.description_places.specs.declared.catalogs.CompositionLists.{CompositionLists}
use Rattle.description_places.specs.declared.catalogs.TypeNumber.{TypeNumber}
use Rattle.description_places.specs.declared.catalogs.TypeNumber.TheVariants as of
use Rattle.description_places.specs.Catalogs.{catalog_of, component_lists, composition_lists, interface_lists, port_lists, prototype_type, type_lists}
use Rattle.description_places.specs.FirstPlaces.{first_places, position_text, task_text}
use Rattle.declared_names.specs.Names.{Names, short_names}
use Rattle.declared_names.specs.Values.{items_at, text_at}
use Rattle.soak_maker.specs.Json.{each}
use Rattle.soak_maker.specs.Parts.{name}
use Rattle.soak_maker.specs.Soak.{mapping, soak_value}
use Rattle.soak_maker.proofs.Lists.{map_three, three}
use Rattle.soak_maker.proofs.Reading.{composition, consumed, listed_back, of_prototypes, produced, served, task_names, tasks_named}
use Rattle.soak_maker.proofs.Soaked.{acc_name, c_name, p_name}

abbrev pub component_list : Names
component_list = codes "Prod" ∷ codes "Cons" ∷ codes "Acc" ∷ []

abbrev pub composition_list : Names
composition_list = codes "Top" ∷ []

components_named : (n : ℕ) → short_names (items_at (codes "components") (soak_value n)) ≡ component_list
unfolding serde_json_on_literals
components_named n = refl

module _ (n : ℕ) where
  abbrev pub prototype_list : Names
  prototype_list = three n p_name c_name acc_name

  abbrev pub type_list : List TypeNumber
  type_list = three n (λ i. of.Component 0) (λ i. of.Component 1) (of.Component 2)

  -- the positions in tasks
  abbrev pub produced_text : ℕ → List ℕ
  produced_text i = task_text (name (codes "P") (i % 4)) i

  abbrev pub consumed_text : ℕ → List ℕ
  consumed_text i = task_text (name (codes "C") ((i % 4 + 1) % 4)) i

  abbrev pub served_text : List ℕ
  served_text = task_text (codes "A") 0

  abbrev pub position_list : Names
  position_list = three n produced_text consumed_text served_text

  abbrev pub in_top : CompositionLists
  in_top = record { ports = port_lists (interface_lists (soak_value n)).names (composition n); prototypes = prototype_list; types = type_list }

  abbrev pub soak_catalog : Catalog
  soak_catalog = record {
    types = type_lists (soak_value n);
    interfaces = interface_lists (soak_value n);
    prototypes = record {
      components = component_list;
      compositions = composition_list;
      in_components = map (component_lists (interface_lists (soak_value n)).names) (items_at (codes "components") (soak_value n));
      in_compositions = in_top ∷ [];
    };
    mapping = record { tasks = task_names; positions = first_places position_list };
  }

  top_is : composition_lists (interface_lists (soak_value n)).names component_list composition_list (composition n) ≡ in_top
  top_is = λ i. record {
    ports = port_lists (interface_lists (soak_value n)).names (composition n);
    prototypes = of_prototypes n (text_at (codes "shortName")) i;
    types = of_prototypes n (prototype_type component_list composition_list) i;
  }

  positions_are : map position_text (items_at (codes "events") (mapping n)) ≡ position_list
  positions_are = ap (map position_text) (listed_back ((each n produced ++ each n consumed) ++ served ∷ [])) ∙ map_three position_text n produced consumed served

  pub catalog_is : catalog_of (soak_value n) ≡ soak_catalog
  catalog_is =
      (λ i. record {
        types = type_lists (soak_value n);
        interfaces = interface_lists (soak_value n);
        prototypes = record {
          components = components_named n i;
          compositions = composition_list;
          in_components = map (component_lists (interface_lists (soak_value n)).names) (items_at (codes "components") (soak_value n));
          in_compositions = composition_lists (interface_lists (soak_value n)).names (components_named n i) composition_list (composition n) ∷ [];
        };
        mapping = record { tasks = tasks_named n i; positions = first_places (positions_are i) };
      })
      ∙ (λ i. record {
        types = type_lists (soak_value n);
        interfaces = interface_lists (soak_value n);
        prototypes = record {
          components = component_list;
          compositions = composition_list;
          in_components = map (component_lists (interface_lists (soak_value n)).names) (items_at (codes "components") (soak_value n));
          in_compositions = top_is i ∷ [];
        };
        mapping = record { tasks = task_names; positions = first_places position_list };
      })
