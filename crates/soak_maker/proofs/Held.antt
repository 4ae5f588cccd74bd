-- A description whose tree is that of `soak N` differs from it in nothing but in how its programs lie in memory.
use Rattle.std.proofs.Common.{◌≡◌, ℕ, List, [], ◌∷◌, map, refl, sym, ap, ◌∙◌}
use Rattle.bus_semantics.specs.Common.{arc_value, program_tree}
use Rattle.plan_definitions.specs.Common.{Component, Runnable, Description}
use Rattle.component_model.specs.Descriptions.{description_of}
use Rattle.component_model.specs.Programs.{ComponentTree, RunnableTree, component_tree, runnable_tree}
use Rattle.description_stages.proofs.Held.{Shared, running}
use Rattle.soak_maker.proofs.Soaked.{adding, consumer_program, consumer_tree, holding, making, producer_program, producer_tree, server_program, server_tree, soak_tree, soaked, taking}

one_back : (rs : List Runnable) (r : RunnableTree) → map runnable_tree rs ≡ r ∷ [] → (x : Runnable) × (rs ≡ x ∷ []) × (runnable_tree x ≡ r)
one_back [] r e = absurd cc
one_back (x ∷ []) r e = (x, refl, cc)
one_back (x ∷ y ∷ rs) r e = absurd cc

three_back : (cs : List Component) (a b c : ComponentTree) → map component_tree cs ≡ a ∷ b ∷ c ∷ []
    → (x : Component) × (y : Component) × (z : Component) × (cs ≡ x ∷ y ∷ z ∷ []) × (component_tree x ≡ a) × (component_tree y ≡ b) × (component_tree z ≡ c)
three_back [] a b c e = absurd cc
three_back (x ∷ []) a b c e = absurd cc
three_back (x ∷ y ∷ []) a b c e = absurd cc
three_back (x ∷ y ∷ z ∷ []) a b c e = (x, y, z, refl, cc, cc, cc)
three_back (x ∷ y ∷ z ∷ w ∷ cs) a b c e = absurd cc

component_back : (c : Component) (t : ComponentTree) (r : RunnableTree) → t.behavior.runnables ≡ r ∷ [] → component_tree c ≡ t → (p : Shared) × (program_tree (arc_value p) ≡ r.program) × (c ≡ holding t p)
component_back c t r one e =
    let (x, is, tree) = one_back c.behavior.runnables r (ap (λ u. u.behavior.runnables) e ∙ one) in
    let same : x ≡ running x.program r = λ i. record { short_name = (tree i).short_name; can_be_invoked_concurrently = (tree i).can_be_invoked_concurrently; accesses = (tree i).accesses; coherent = (tree i).coherent; program = x.program } in
    let runnables : c.behavior.runnables ≡ map (running x.program) t.behavior.runnables = is ∙ (ap (λ y. y ∷ []) same ∙ ap (map (running x.program)) (sym one)) in (
      x.program,
      ap (λ u. u.program) tree,
      λ i. record {
        short_name = (e i).short_name;
        ports = (e i).ports;
        behavior = record { exclusive_areas = (e i).behavior.exclusive_areas; variables = (e i).behavior.variables; runnables = runnables i; events = (e i).behavior.events };
      },
    )

-- the programs of the three components
pub record IsSoaked (n : ℕ) (d : Description) : Type 0 where
  pub producing : Shared
  pub consuming : Shared
  pub serving : Shared
  pub producer_is : program_tree (arc_value producing) ≡ producer_program
  pub consumer_is : program_tree (arc_value consuming) ≡ consumer_program
  pub server_is : program_tree (arc_value serving) ≡ server_program
  pub is : d ≡ soaked n producing consuming serving

pub soaked_back : (n : ℕ) (d : Description) → description_of d ≡ soak_tree n → IsSoaked n d
soaked_back n d e =
    let (x, y, z, are, a, b, c) = three_back d.components producer_tree consumer_tree server_tree (ap (λ t. t.components) e) in
    let (p, p_is, x_is) = component_back x producer_tree making refl a in
    let (q, q_is, y_is) = component_back y consumer_tree taking refl b in
    let (s, s_is, z_is) = component_back z server_tree adding refl c in
    let components : d.components ≡ holding producer_tree p ∷ holding consumer_tree q ∷ holding server_tree s ∷ [] = are ∙ (λ i. x_is i ∷ y_is i ∷ z_is i ∷ []) in
    record {
      producing = p;
      consuming = q;
      serving = s;
      producer_is = p_is;
      consumer_is = q_is;
      server_is = s_is;
      is = λ i. record { types = (e i).types; components = components i; compositions = (e i).compositions; root = (e i).root; mapping = (e i).mapping };
    }
