-- What the rules say of a whole description, thing by thing.
use Rattle.std.proofs.Common.{◌≡◌, ℕ, ◌+◌, Bool, true, false, cond, ◌&&◌, refl, sym, ◌∙◌, ap, arith, List, [], map, length, Option, Some, None, option_map, option_and_then}
use Rattle.bus_semantics.specs.Common.{slice_get, list_all, option_or, Plan, plan_of}
use Rattle.plan_definitions.specs.Common.{Access, Component, Event, ItemPair, Port, Runnable, Variable, Description, Flat, Instance, first_of, unless, mapped_as, leaders, groups, machines}
use Rattle.plan_definitions.specs.Common.{mode_ports, points, servers, events, runnables, bundles, homes, lists, areas, object_count, seen, plan_of as whole_plan, is_too_large, IsWhole}
use Rattle.bus_laws.specs.Common.{BusPlan, ElemPlan, Mapping}
use Rattle.plan_definitions.specs.declared.component_rule.ComponentRule as rules
use Rattle.plan_definitions.specs.declared.component_rule.ComponentRule.TheVariants as rule
use Rattle.plan_definitions.specs.declared.spot.Spot.TheVariants as spot
use Rattle.plan_definitions.specs.Accesses as reaches
use Rattle.plan_definitions.specs.Calls as waiting
use Rattle.plan_definitions.specs.Coherent as coherent
use Rattle.plan_definitions.specs.Events as starting
use Rattle.plan_definitions.specs.Invocations as serving
use Rattle.plan_definitions.specs.Programs as programs
use Rattle.plan_definitions.specs.ComponentRefusals as components
use Rattle.plan_definitions.specs.MappingRefusals as mapping
use Rattle.plan_definitions.specs.MappingRules as mapped
use Rattle.plan_definitions.specs.PlanRefusals as whole
use Rattle.plan_definitions.specs.WellFormed as formed
use Rattle.plan_definitions.proofs.Firsts.{first_none, map_none, or_none, unless_none}
use Rattle.sound_plans.proofs.Places.{not_some, all_at}
use Rattle.sound_plans.proofs.Parts.{Home}

-- ---- the plan

-- the plan of a description, with elements that are seen as its own
abbrev pub planned : Description → Flat → List ElemPlan → Plan
planned d f es = record {
  names = map (λ x. x.path) f.instances;
  elements = es;
  groups = groups (leaders d f);
  points = points d f;
  servers = servers d f;
  areas = areas d f;
  machines = machines d f;
  mode_ports = mode_ports d f;
  events = events d f;
  runnables = runnables d f;
  lists = lists d f;
  homes = homes d f;
  bundles = bundles d f;
  objects = object_count (length (bundles d f)) (length (servers d f)) (length (areas d f)) (length (machines d f));
}

pub plan_is : (d : Description) (f : Flat) (p : BusPlan) → seen p ≡ whole_plan d f → plan_of p ≡ planned d f p.elements
plan_is d f p e = λ j. record {
  names = (e j).names;
  elements = p.elements;
  groups = (e j).groups;
  points = (e j).points;
  servers = (e j).servers;
  areas = (e j).areas;
  machines = (e j).machines;
  mode_ports = (e j).mode_ports;
  events = (e j).events;
  runnables = (e j).runnables;
  lists = (e j).lists;
  homes = (e j).homes;
  bundles = (e j).bundles;
  objects = (e j).objects;
}

-- ---- the first of a list that breaks a rule

pub none_at : {X Y : Type 0} (f : ℕ → X → Option Y) (xs : List X) (k : ℕ) (x : X) → first_of f 0 xs ≡ None → slice_get xs k ≡ Some x → f k x ≡ None
none_at f xs k x e at = let place : k ≡ 0 + k = omega arith in ap (λ m. f m x) place ∙ first_none f 0 xs k x e at

pub rule_kept : {X P : Type 0} (test : ℕ → X → Bool) (place : ℕ → X → P) (xs : List X) (k : ℕ) (x : X) → first_of (λ i y. unless (test i y) (place i y)) 0 xs ≡ None → slice_get xs k ≡ Some x → test k x ≡ true
rule_kept test place xs k x e at = unless_none (test k x) (place k x) (none_at (λ i y. unless (test i y) (place i y)) xs k x e at)

four_none : {X : Type 0} (a b c e : Option X) → option_or a (option_or b (option_or c e)) ≡ None → (a ≡ None) × (b ≡ None) × (c ≡ None) × (e ≡ None)
four_none a b c e h = let x = or_none a (option_or b (option_or c e)) h in let y = or_none b (option_or c e) x.1 in let z = or_none c e y.1 in (x.0, y.0, z.0, z.1)

nine : (a b c d e f g h i : Bool) → (a && (b && (c && (d && (e && (f && (g && (h && i)))))))) ≡ true → (a ≡ true) × (b ≡ true) × (c ≡ true) × (d ≡ true) × (e ≡ true) × (f ≡ true) × (g ≡ true) × (h ≡ true) × (i ≡ true)
nine true true true true true true true true true k = (refl, refl, refl, refl, refl, refl, refl, refl, refl)
nine false b c d e f g h i k = absurd (cc k)
nine true false c d e f g h i k = absurd (cc k)
nine true true false d e f g h i k = absurd (cc k)
nine true true true false e f g h i k = absurd (cc k)
nine true true true true false f g h i k = absurd (cc k)
nine true true true true true false g h i k = absurd (cc k)
nine true true true true true true false h i k = absurd (cc k)
nine true true true true true true true false i k = absurd (cc k)
nine true true true true true true true true false k = absurd (cc k)

after_none : (first : Option (ℕ × List ℕ)) (later : Option (ℕ × List ℕ) → Type 0) → mapping.IsAfter first later None → (first ≡ None) × later None
after_none None later h = (refl, h)
after_none (Some x) later h = not_some x h

-- ---- the rules on components

module _ (d : Description) (f : Flat) (p : BusPlan) (m : Mapping) (w : IsWhole d f p m) where
  kept : (components.refusal d ≡ None) × whole.IsThen (mapping.IsRefusal d f) (whole.IsThen (whole.IsOfSize d f) (whole.IsOfLists d)) None
  kept = after_none (components.refusal d) (whole.IsThen (mapping.IsRefusal d f) (whole.IsThen (whole.IsOfSize d f) (whole.IsOfLists d))) w.keeps_rules

  of_components : components.refusal d ≡ None
  of_components = kept.0

  of_mapping : mapping.IsRefusal d f None
  of_mapping = kept.1.0

  of_lists : components.of_rule rule.CoherentLists d ≡ None
  of_lists = kept.1.1.1

  pub of_size : is_too_large (whole_plan d f) ≡ false
  of_size = by (is_too_large (whole_plan d f)) kept.1.1.0
    where
      by : (b : Bool) → cond {A = Option (ℕ × List ℕ)} b (Some (30, mapping.mapping_text)) None ≡ None → b ≡ false
      by true e = absurd (cc e)
      by false e = refl

  of_mapped_events : mapping.of_events d f ≡ None
  of_mapped_events = (after_none (mapping.of_events d f) (mapping.IsOfTasks d f) of_mapping).0

  module _ (n : ℕ) (c : Component) (there : slice_get d.components n ≡ Some c) where
    component_kept : (r : rules.ComponentRule) → components.of_rule r d ≡ None → components.broken_in r d.types c ≡ None
    component_kept r e = map_none (λ place. (n, place)) (components.broken_in r d.types c)
        (none_at (λ k x. option_map (λ place. (k, place)) (components.broken_in r d.types x)) d.components n c (map_none (λ x. (components.number_of r, Rattle.plan_definitions.specs.Spots.spot_text x.0 x.1)) (components.first_broken r d) e) there)

    of_accesses : components.of_rule rule.Accesses d ≡ None
    of_accesses = (or_none (components.of_rule rule.Accesses d) (option_or (components.of_programs d) (components.of_events d)) of_components).0

    of_programs : components.of_programs d ≡ None
    of_programs = (or_none (components.of_programs d) (components.of_events d) (or_none (components.of_rule rule.Accesses d) (option_or (components.of_programs d) (components.of_events d)) of_components).1).0

    of_events : components.of_events d ≡ None
    of_events = (or_none (components.of_programs d) (components.of_events d) (or_none (components.of_rule rule.Accesses d) (option_or (components.of_programs d) (components.of_events d)) of_components).1).1

    event_rules : (components.of_rule rule.EventKinds d ≡ None) × (components.of_rule rule.Invocations d ≡ None) × (components.of_rule rule.Calls d ≡ None) × (components.of_rule rule.Disablings d ≡ None)
    event_rules = four_none (components.of_rule rule.EventKinds d) (components.of_rule rule.Invocations d) (components.of_rule rule.Calls d) (components.of_rule rule.Disablings d) of_events

    program_rules : (components.of_program 17 d ≡ None) × (components.of_program 18 d ≡ None) × (components.of_program 19 d ≡ None) × (components.of_program 20 d ≡ None)
    program_rules = four_none (components.of_program 17 d) (components.of_program 18 d) (components.of_program 19 d) (components.of_program 20 d) of_programs

    -- rule 16
    pub access_kept : (k : ℕ) (r : Runnable) (j : ℕ) (a : Access) → slice_get c.behavior.runnables k ≡ Some r → slice_get r.accesses j ≡ Some a → reaches.access_fits d.types c.ports a ≡ true
    access_kept k r j a at here =
        rule_kept (λ i x. reaches.access_fits d.types c.ports x) (λ i x. spot.Access k i) r.accesses j a
        (none_at (λ i x. reaches.misfit_among d.types c.ports i x.accesses) c.behavior.runnables k r (component_kept rule.Accesses of_accesses) at) here

    -- rule 21
    pub kind_kept : (k : ℕ) (e : Event) → slice_get c.behavior.events k ≡ Some e → starting.kind_fits d.types c.ports e.kind ≡ true
    kind_kept k e at = rule_kept (λ i (x : Event). starting.kind_fits d.types c.ports x.kind) (λ i x. spot.Event i) c.behavior.events k e (component_kept rule.EventKinds event_rules.0) at

    -- rule 22
    pub served_kept : (k : ℕ) (port : Port) → slice_get c.ports k ≡ Some port → serving.is_served d.types c.behavior.events k port ≡ true
    served_kept k port at = rule_kept (serving.is_served d.types c.behavior.events) (λ i x. spot.Port i) c.ports k port (or_none (serving.unserved d.types c) (serving.shared c) (component_kept rule.Invocations event_rules.1)).0 at

    pub alone_kept : (k : ℕ) (e : Event) → slice_get c.behavior.events k ≡ Some e → serving.is_alone c.behavior.events e ≡ true
    alone_kept k e at = rule_kept (λ i x. serving.is_alone c.behavior.events x) (λ i x. spot.Event i) c.behavior.events k e (or_none (serving.unserved d.types c) (serving.shared c) (component_kept rule.Invocations event_rules.1)).1 at

    -- rule 23
    pub call_kept : (k : ℕ) (r : Runnable) (j : ℕ) (a : Access) → slice_get c.behavior.runnables k ≡ Some r → slice_get r.accesses j ≡ Some a → waiting.access_keeps c.behavior.runnables a ≡ true
    call_kept k r j a at here =
        rule_kept (λ i x. waiting.access_keeps c.behavior.runnables x) (λ i x. spot.Access k i) r.accesses j a
        (none_at (λ i x. waiting.mixed_among c.behavior.runnables i x.accesses) c.behavior.runnables k r (or_none (waiting.mixed_access c.behavior.runnables) (waiting.mixed_event c.behavior.runnables c.behavior.events) (component_kept rule.Calls event_rules.2)).0 at) here

    pub return_kept : (k : ℕ) (e : Event) → slice_get c.behavior.events k ≡ Some e → waiting.event_keeps c.behavior.runnables e.kind ≡ true
    return_kept k e at = rule_kept (λ i (x : Event). waiting.event_keeps c.behavior.runnables x.kind) (λ i x. spot.Event i) c.behavior.events k e
        (or_none (waiting.mixed_access c.behavior.runnables) (waiting.mixed_event c.behavior.runnables c.behavior.events) (component_kept rule.Calls event_rules.2)).1 at

    -- rule 24
    pub disabling_kept : (k : ℕ) (e : Event) → slice_get c.behavior.events k ≡ Some e → starting.disabling_fits d.types c.ports e.kind e.disabled_in_modes ≡ true
    disabling_kept k e at = rule_kept (λ i (x : Event). starting.disabling_fits d.types c.ports x.kind x.disabled_in_modes) (λ i x. spot.Event i) c.behavior.events k e (component_kept rule.Disablings event_rules.3) at

    -- rule 31
    pub list_kept : (k : ℕ) (r : Runnable) (j : ℕ) (pairs : List ItemPair) → slice_get c.behavior.runnables k ≡ Some r → slice_get r.coherent j ≡ Some pairs → coherent.list_fits d.types c r pairs ≡ true
    list_kept k r j pairs at here =
        rule_kept (λ i x. coherent.list_fits d.types c r x) (λ i x. spot.List k i) r.coherent j pairs
        (none_at (λ i x. coherent.incoherent_among d.types c i x) c.behavior.runnables k r (component_kept rule.CoherentLists of_lists) at) here

    -- rules 17 to 20
    program_free : (wanted : ℕ) → components.of_program wanted d ≡ None → (k : ℕ) (r : Runnable) → slice_get c.behavior.runnables k ≡ Some r → option_and_then (programs.path_of (Some wanted)) (programs.program_refusal d.types c r) ≡ None
    program_free wanted e k r at =
        map_none (λ path. (k, path)) (option_and_then (programs.path_of (Some wanted)) (programs.program_refusal d.types c r))
        (none_at (λ i x. option_map (λ path. (i, path)) (option_and_then (programs.path_of (Some wanted)) (programs.program_refusal d.types c x))) c.behavior.runnables k r
        (map_none (λ x. (n, x)) (programs.refused_in (Some wanted) d.types c)
        (none_at (λ i x. option_map (λ y. (i, y)) (programs.refused_in (Some wanted) d.types x)) d.components n c (map_none (λ x. (wanted, Rattle.plan_definitions.specs.Spots.program_text x.0 x.1.0 x.1.1)) (programs.refused_program (Some wanted) d) e) there)) at)

    pub program_kept : (k : ℕ) (r : Runnable) → slice_get c.behavior.runnables k ≡ Some r
        → (option_and_then (programs.path_of (Some 17)) (programs.program_refusal d.types c r) ≡ None) × (option_and_then (programs.path_of (Some 18)) (programs.program_refusal d.types c r) ≡ None)
        × (option_and_then (programs.path_of (Some 19)) (programs.program_refusal d.types c r) ≡ None) × (option_and_then (programs.path_of (Some 20)) (programs.program_refusal d.types c r) ≡ None)
    program_kept k r at = (program_free 17 program_rules.0 k r at, program_free 18 program_rules.1 k r at, program_free 19 program_rules.2 k r at, program_free 20 program_rules.3 k r at)

  -- ---- the rules on instances

  in_instance : {X : Type 0} (g : ℕ → Component → Option X) → mapped.in_instances g d f ≡ None → (i : ℕ) (c : Component) → Home d f i c → g i c ≡ None
  in_instance g e i c h = ap (option_and_then (g i)) (sym h.has) ∙ none_at (λ k (x : Instance). option_and_then (g k) (slice_get d.components x.component)) f.instances i h.instance e h.there

  instance_rules : (mapping.of_named d f ≡ None) × (mapping.of_mapped d f ≡ None) × (mapping.of_spread d f ≡ None) × (mapping.of_direct d f ≡ None)
  instance_rules = four_none (mapping.of_named d f) (mapping.of_mapped d f) (mapping.of_spread d f) (mapping.of_direct d f) of_mapped_events

  module _ (i : ℕ) (c : Component) (home : Home d f i c) where
    -- rule 26
    pub mapped_kept : (k : ℕ) (e : Event) → slice_get c.behavior.events k ≡ Some e → mapped.is_mapped_well e.kind (length (mapped_as d f (i, k))) ≡ true
    mapped_kept k e at = rule_kept (λ j (x : Event). mapped.is_mapped_well x.kind (length (mapped_as d f (i, j)))) (λ j x. (i, j)) c.behavior.events k e
        (in_instance (mapped.badly_mapped_in d f) (map_none (λ x. (26, mapping.event_text d f x)) (mapped.badly_mapped d f) instance_rules.1) i c home) at

    -- rule 27
    pub spread_kept : (k : ℕ) (r : Runnable) → slice_get c.behavior.runnables k ≡ Some r → mapped.are_same (mapped.tasks_of d f (i, k)) ≡ true
    spread_kept k r at = rule_kept (λ j (x : Runnable). mapped.are_same (mapped.tasks_of d f (i, j))) (λ j x. (i, j)) c.behavior.runnables k r
        (in_instance (mapped.spread_in d f) (map_none (λ x. (27, mapping.runnable_text d f x)) (mapped.spread d f) instance_rules.2) i c home) at

    -- rule 28
    pub direct_kept : (k : ℕ) (e : Event) → slice_get c.behavior.events k ≡ Some e → mapped.keeps_direct d f i c k e ≡ true
    direct_kept k e at = rule_kept (λ j (x : Event). mapped.keeps_direct d f i c j x) (λ j x. (i, j)) c.behavior.events k e
        (in_instance (mapped.not_direct_in d f) (map_none (λ x. (28, mapping.event_text d f x)) (mapped.not_direct d f) instance_rules.3) i c home) at

  -- ---- the first rules

  module _ (n : ℕ) (c : Component) (there : slice_get d.components n ≡ Some c) where
    fits : formed.component_fits d.types c ≡ true
    fits = all_at (formed.component_fits d.types) d.components n c w.well_formed.components there

    parts : (formed.ports_fit d.types c.ports ≡ true) × (formed.names_fit c.behavior.exclusive_areas ≡ true)
        × (formed.names_fit (map (λ (v : Variable). v.short_name) c.behavior.variables) ≡ true) × (list_all (formed.variable_fits d.types) c.behavior.variables ≡ true)
        × (formed.names_fit (map (λ (r : Runnable). r.short_name) c.behavior.runnables) ≡ true) × (list_all (formed.runnable_fits d.types c) c.behavior.runnables ≡ true)
        × (formed.names_fit (map (λ (e : Event). e.short_name) c.behavior.events) ≡ true) × (list_all (formed.event_fits d.types c) c.behavior.events ≡ true)
        × (formed.serves_fit d.types c c.behavior.events [] ≡ true)
    parts = nine (formed.ports_fit d.types c.ports) (formed.names_fit c.behavior.exclusive_areas)
        (formed.names_fit (map (λ (v : Variable). v.short_name) c.behavior.variables)) (list_all (formed.variable_fits d.types) c.behavior.variables)
        (formed.names_fit (map (λ (r : Runnable). r.short_name) c.behavior.runnables)) (list_all (formed.runnable_fits d.types c) c.behavior.runnables)
        (formed.names_fit (map (λ (e : Event). e.short_name) c.behavior.events)) (list_all (formed.event_fits d.types c) c.behavior.events)
        (formed.serves_fit d.types c c.behavior.events []) fits

    pub ports_formed : formed.ports_fit d.types c.ports ≡ true
    ports_formed = parts.0

    pub runnable_formed : (k : ℕ) (r : Runnable) → slice_get c.behavior.runnables k ≡ Some r → formed.runnable_fits d.types c r ≡ true
    runnable_formed k r at = all_at (formed.runnable_fits d.types c) c.behavior.runnables k r parts.5 at

    pub event_formed : (k : ℕ) (e : Event) → slice_get c.behavior.events k ≡ Some e → formed.event_fits d.types c e ≡ true
    event_formed k e at = all_at (formed.event_fits d.types c) c.behavior.events k e parts.7 at

    pub serves_formed : formed.serves_fit d.types c c.behavior.events [] ≡ true
    serves_formed = parts.8
