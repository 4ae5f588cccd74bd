-- A plan with its mapping is sound exactly if no fact that is computed is broken and the tasks have an order; and a way to have one.
use Rattle.std.specs.Prelude.{◌≡◌, ℕ, ◌+◌, List, [], ◌∷◌, Bool, true, false, ◌&&◌, if◌then◌else◌, nat_le, Some, refl}
use Rattle.bus_semantics.specs.Common.{and_parts, and_from, false≢true, body_cost, Plan, Runnable, every_from, IsSound, WaitOrder, waits_for, names_fit, names_distinct, none_is_env}
use Rattle.bus_semantics.specs.Common.{ports_agree, access_sound, each_access, accesses_distinct, areas_rise, body_sound, has_arguments}
use Rattle.bus_semantics.specs.declared.script.Mapping.{Mapping}
use Rattle.bus_rows.specs.SoundFacts.{Fact, facts, broken, broken_facts, LacksOnly}

-- ---- facts

abbrev Each : List (Fact × Bool) → Type 0
Each [] = Unit {0}
Each (f ∷ fs) = (f.1 ≡ true) × Each fs

holds : (b : Bool) (name : Fact) (names : List Fact) → (if b then names else name ∷ names) ≡ [] → (b ≡ true) × (names ≡ [])
holds true name names e = (refl, e)
holds false name names e = cc

kept : (b : Bool) (name : Fact) (names : List Fact) → b ≡ true → names ≡ [] → (if b then names else name ∷ names) ≡ []
kept true name names h e = e
kept false name names h e = absurd (false≢true h)

each : (fs : List (Fact × Bool)) → broken fs ≡ [] → Each fs
each [] e = tt
each (f ∷ fs) e = let c = holds f.1 f.0 (broken fs) e in (c.0, each fs c.1)

none : (fs : List (Fact × Bool)) → Each fs → broken fs ≡ []
none [] e = refl
none (f ∷ fs) e = kept f.1 f.0 (broken fs) e.0 (none fs e.1)

-- ---- runnables

both : {X : Type 0} (f g : ℕ → X → Bool) (i : ℕ) (xs : List X) → every_from i f xs ≡ true → every_from i g xs ≡ true → every_from i (λ j x. f j x && g j x) xs ≡ true
both f g i [] a b = refl
both f g i (x ∷ xs) a b =
    let c = and_parts (f i x) (every_from (i + 1) f xs) a in
    let d = and_parts (g i x) (every_from (i + 1) g xs) b in
    and_from (f i x && g i x) (every_from (i + 1) (λ j y. f j y && g j y) xs) (and_from (f i x) (g i x) c.0 d.0) (both f g (i + 1) xs c.1 d.1)

apart : {X : Type 0} (f g : ℕ → X → Bool) (i : ℕ) (xs : List X) → every_from i (λ j x. f j x && g j x) xs ≡ true → (every_from i f xs ≡ true) × (every_from i g xs ≡ true)
apart f g i [] e = (refl, refl)
apart f g i (x ∷ xs) e =
    let c = and_parts (f i x && g i x) (every_from (i + 1) (λ j y. f j y && g j y) xs) e in
    let d = and_parts (f i x) (g i x) c.0 in
    let k = apart f g (i + 1) xs c.1 in
    (and_from (f i x) (every_from (i + 1) f xs) d.0 k.0, and_from (g i x) (every_from (i + 1) g xs) d.1 k.1)

-- the tests of a runnable, one by one, and together as `runnable_sound` has them
abbrev accesses : Plan → ℕ → Runnable → Bool
accesses p i r = each_access (access_sound p i (Some r.instance)) r.accesses r.targets

abbrev distinct : ℕ → Runnable → Bool
distinct i r = accesses_distinct r.accesses

abbrev rise : ℕ → Runnable → Bool
rise i r = areas_rise r.accesses r.targets

abbrev listed : ℕ → Runnable → Bool
listed i r = distinct i r && rise i r

abbrev programs : ℕ → Runnable → Bool
programs i r = body_sound r r.program.body []

abbrev costs : ℕ → Runnable → Bool
costs i r = nat_le (body_cost r.program.body) 100000

abbrev variables : ℕ → Runnable → Bool
variables i r = nat_le r.program.vars 256

abbrev arguments : Plan → ℕ → Runnable → Bool
arguments p i r = has_arguments p r

abbrev few : Plan → ℕ → Runnable → Bool
few p i r = variables i r && arguments p i r

abbrev bounded : Plan → ℕ → Runnable → Bool
bounded p i r = costs i r && few p i r

abbrev runs : Plan → ℕ → Runnable → Bool
runs p i r = programs i r && bounded p i r

abbrev has_rest : Plan → ℕ → Runnable → Bool
has_rest p i r = listed i r && runs p i r

-- ---- the whole

pub sound_of : (p : Plan) (m : Mapping) → broken_facts p m ≡ [] → WaitOrder p m → IsSound p m
sound_of p m e order =
    let t = each (facts p m) e in
    let u = t.1.1.1.1.1.1.1.1.1 in
    let v = u.1.1.1.1.1.1 in
    let w = v.1.1.1.1.1.1.1 in
    let ran = both programs (bounded p) 0 p.runnables v.1.1.1.0 (both costs (few p) 0 p.runnables v.1.1.1.1.0 (both variables (arguments p) 0 p.runnables v.1.1.1.1.1.0 v.1.1.1.1.1.1.0)) in
    record {
      names = and_from (names_fit p) (names_distinct p && (none_is_env p && ports_agree p)) t.0 (and_from (names_distinct p) (none_is_env p && ports_agree p) t.1.0 (and_from (none_is_env p) (ports_agree p) t.1.1.0 t.1.1.1.0));
      ports = t.1.1.1.1.0;
      arranged = t.1.1.1.1.1.0;
      instances = t.1.1.1.1.1.1.0;
      groups = t.1.1.1.1.1.1.1.0;
      objects = t.1.1.1.1.1.1.1.1.0;
      elements = u.0;
      joins = u.1.0;
      machines = u.1.1.0;
      mode_ports = u.1.1.1.0;
      points = u.1.1.1.1.0;
      operations = u.1.1.1.1.1.0;
      runnables = both (accesses p) (has_rest p) 0 p.runnables v.0 (both listed (runs p) 0 p.runnables (both distinct rise 0 p.runnables v.1.0 v.1.1.0) ran);
      events = w.0;
      servers = w.1.0;
      direct = w.1.1.0;
      lengths = w.1.1.1.0;
      tasks = w.1.1.1.1.0;
      few_points = w.1.1.1.1.1.0;
      lists = w.1.1.1.1.1.1.0;
      bundles = w.1.1.1.1.1.1.1.0;
      order = order;
    }

pub none_broken : (p : Plan) (m : Mapping) → IsSound p m → broken_facts p m ≡ []
none_broken p m s =
    let n = and_parts (names_fit p) (names_distinct p && (none_is_env p && ports_agree p)) s.names in
    let d = and_parts (names_distinct p) (none_is_env p && ports_agree p) n.1 in
    let k = and_parts (none_is_env p) (ports_agree p) d.1 in
    let a = apart (accesses p) (has_rest p) 0 p.runnables s.runnables in
    let b = apart listed (runs p) 0 p.runnables a.1 in
    let c = apart distinct rise 0 p.runnables b.0 in
    let f = apart programs (bounded p) 0 p.runnables b.1 in
    let g = apart costs (few p) 0 p.runnables f.1 in
    let h = apart variables (arguments p) 0 p.runnables g.1 in
    none (facts p m) (n.0, (d.0, (k.0, (k.1, (s.ports, (s.arranged, (s.instances, (s.groups, (s.objects, (s.elements, (s.joins, (s.machines, (s.mode_ports, (s.points, (s.operations, (a.0, (c.0, (c.1, (f.0, (g.0, (h.0, (h.1, (s.events, (s.servers, (s.direct, (s.lengths, (s.tasks, (s.few_points, (s.lists, (s.bundles, tt))))))))))))))))))))))))))))))

-- ---- what a plan lacks

other : (name : Fact) (names found : List Fact) → found ≡ name ∷ names → found ≡ [] → ⊥
other name names found e n = cc

pub lacks : (fact : Fact) (p : Plan) (m : Mapping) → broken_facts p m ≡ fact ∷ [] → WaitOrder p m → LacksOnly fact p m
lacks fact p m e order = record { unsound = λ s. other fact [] (broken_facts p m) e (none_broken p m s); broken = e; order = order }

-- ---- no task waits for another

pub unordered : (p : Plan) (m : Mapping) → ((a c : ℕ) → waits_for p m a c ≡ true → ⊥) → WaitOrder p m
unordered p m none = record { rank = λ t. t; later = λ a c w. absurd (none a c w) }
