-- Rules 16 to 24, and 31: components and their programs.
use Rattle.std.proofs.Common.{◌≡◌, ℕ, List, Option, Some, None, option_map, option_and_then, refl, ap}
use Rattle.bus_semantics.specs.Common.{arc_value, option_or, program_tree, refusal}
use Rattle.plan_definitions.specs.ComponentRefusals as components
use Rattle.plan_definitions.specs.Common.{of_programs, of_rule, path_of, program_refusal, refused_program, signature, program_text}
use Rattle.plan_definitions.specs.ComponentRefusals.{of_events}
use Rattle.plan_definitions.specs.declared.component_rule.ComponentRule.TheVariants as rule
use Rattle.description_stages.proofs.Held.{Shared, running}
use Rattle.soak_maker.proofs.Soaked.{adding, consumer_program, consumer_tree, holding, making, producer_program, producer_tree, server_program, server_tree, soak_types, soaked, taking}

module _ (n : ℕ) (p q s : Shared) (p_is : program_tree (arc_value p) ≡ producer_program) (q_is : program_tree (arc_value q) ≡ consumer_program) (s_is : program_tree (arc_value s) ≡ server_program) where
  producer_keeps : program_refusal soak_types (holding producer_tree p) (running p making) ≡ None
  producer_keeps = ap (refusal (signature soak_types (holding producer_tree p) making.accesses)) p_is

  consumer_keeps : program_refusal soak_types (holding consumer_tree q) (running q taking) ≡ None
  consumer_keeps = ap (refusal (signature soak_types (holding consumer_tree q) taking.accesses)) q_is

  server_keeps : program_refusal soak_types (holding server_tree s) (running s adding) ≡ None
  server_keeps = ap (refusal (signature soak_types (holding server_tree s) adding.accesses)) s_is

  abbrev Found : Type 0
  Found = Option (ℕ × List ℕ)

  -- the first program of a component that breaks a rule, where it has one
  abbrev first_in : (wanted component : ℕ) → Found → Option (ℕ × (ℕ × List ℕ))
  first_in wanted c found = option_map (λ x. (c, x)) (option_or (option_map (λ path. (0, path)) (option_and_then (path_of (Some wanted)) found)) None)

  programs_keep : (wanted : ℕ) → refused_program (Some wanted) (soaked n p q s) ≡ None
  programs_keep wanted = λ i. option_or (first_in wanted 0 (producer_keeps i)) (option_or (first_in wanted 1 (consumer_keeps i)) (option_or (first_in wanted 2 (server_keeps i)) None))

  accesses_keep : of_rule rule.Accesses (soaked n p q s) ≡ None
  accesses_keep = refl

  events_keep : of_events (soaked n p q s) ≡ None
  events_keep = refl

  pub lists_keep : of_rule rule.CoherentLists (soaked n p q s) ≡ None
  lists_keep = refl

  abbrev told : ℕ → Option (ℕ × (ℕ × List ℕ)) → Found
  told r found = option_map (λ (x : ℕ × (ℕ × List ℕ)). (r, program_text x.0 x.1.0 x.1.1)) found

  pub components_keep : components.refusal (soaked n p q s) ≡ None
  components_keep = λ i. option_or (accesses_keep i)
      (option_or (option_or (told 17 (programs_keep 17 i)) (option_or (told 18 (programs_keep 18 i)) (option_or (told 19 (programs_keep 19 i)) (told 20 (programs_keep 20 i))))) (events_keep i))
