-- The actor of an item is read back from its text, and so is a point.
use Rattle.std.proofs.Common.{◌≡◌, ℕ, ◌<◌, ◌≤◌, Bool, true, false, not, ◌&&◌, ◌==◌, cond, [], ◌∷◌, ◌++◌, length, nat_lt, bytes_eq, codes, is_some, option_map, Option, Some, None, refl, sym}
use Rattle.std.proofs.Common.{ap, ◌∙◌, subst, append_assoc, arith}
use Rattle.bus_semantics.specs.Common.{list_all, position, slice_get, option_and_then, option_map_or, and_parts, and_from, false_from_ne_true, leb-true, lt-ltb, ltb-true, append-nil}
use Rattle.bus_semantics.specs.Common.{slice_get_within, bytes_eq-Decides, ActKey, same_number, served_by, key_fits, serves_directly, Plan, Runnable, server_of, is_index, is_point}
use Rattle.bus_semantics.specs.Common.{is_sized_actor, is_env_path, is_name, is_pair_name, is_path, parts, instance_exists, Letters, actor_text, caller_text, instance_text, key_text}
use Rattle.bus_semantics.specs.Common.{machine_text, point_text, runnable_text}
use Rattle.bus_laws.specs.Common.{Actor, Env, Machine, Act, MachinePlan, PointPlan}
use Rattle.line_fields.proofs.Joining.{all-append, lacks}
use Rattle.line_fields.proofs.Distinct.{all_at}
use Rattle.line_fields.specs.Named.{is_text}
use Rattle.trace_reading.specs.Actors.{actor_in, caller_in, home_in, key_in, key_with, machine_in, point_in, runnable_in}
use Rattle.trace_reading.specs.Cuts.{before, behind}
use Rattle.trace_reading.specs.Fields.{numbered}
use Rattle.trace_reading.specs.Finding.{instance_at, machine_at, point_at, runnable_at}
use Rattle.trace_reading.proofs.Callers.{caller_exists}
use Rattle.trace_reading.proofs.Cutting.{cut-join, cut-whole}
use Rattle.trace_reading.proofs.Letters.{name_lacks, pair_lacks, path_lacks}
use Rattle.trace_reading.proofs.Naming.{IsNamed}
use Rattle.trace_reading.proofs.Things.{IsRead, same_home, within}
use Rattle.trace_reading.proofs.Values.{numbered_back}

-- ---- texts of two parts

joined_lacks : (c s : ℕ) → not (s == c) ≡ true → (a b : Letters) → lacks c a ≡ true → lacks c b ≡ true → lacks c (a ++ s ∷ b) ≡ true
joined_lacks c s h a b k l = all-append (λ d. not (d == c)) a (s ∷ b) k (and_from (not (s == c)) (lacks c b) h l)

pub behind-more : (s : ℕ) (t more rest : Letters) → behind s t ≡ Some rest → behind s (t ++ more) ≡ Some (rest ++ more)
behind-more s [] more rest h = absurd (cc)
behind-more s (c ∷ cs) more rest h = step (c == s) h (behind-more s cs more rest)
  where
    step : (b : Bool) → cond b (Some cs) (behind s cs) ≡ Some rest → (behind s cs ≡ Some rest → behind s (cs ++ more) ≡ Some (rest ++ more))
        → cond b (Some (cs ++ more)) (behind s (cs ++ more)) ≡ Some (rest ++ more)
    step true h ih = let same : cs ≡ rest = cc in ap (λ t. Some (t ++ more)) same
    step false h ih = ih h

-- a text with a separator that another has not
differs : (s : ℕ) (t u rest : Letters) → behind s t ≡ Some rest → behind s u ≡ None → bytes_eq t u ≡ false
differs s t u rest some none = false_from_ne_true (bytes_eq t u) (λ same. let e : behind s t ≡ behind s u = ap (behind s) ((bytes_eq-Decides t u).0 same) in let f : Some rest ≡ None = sym some ∙ e ∙ none in cc)

module _ (p : Plan) (r : IsNamed p) where
  -- ---- INSTANCE

  record IsPath (i : ℕ) : Type 0 where
    path : is_path (instance_text p (Some i)) ≡ true
    found : instance_at p (instance_text p (Some i)) ≡ Some i
    other : bytes_eq (instance_text p (Some i)) (codes "env") ≡ false

  path_read : (i : ℕ) → nat_lt i (length p.names) ≡ true → IsPath i
  path_read i h = within p.names i (IsPath i) h of_text
    where
      of_text : (t : Letters) → slice_get p.names i ≡ Some t → IsPath i
      of_text t there =
          let text : instance_text p (Some i) ≡ t = ap (λ o. option_map_or (λ (u : Letters). u) o []) there in
          let less : i < length p.names = ltb-true i (length p.names) h in
          let few : length p.names ≤ 1024 = leb-true (length p.names) 1024 r.few in
          let index : is_index i ≡ true = lt-ltb i 4294967296 (omega arith) in
          let found : position (is_text t) p.names ≡ Some i = r.find_instances i t there in
          let plain : not (is_env_path (parts 47 t)) ≡ true = all_at (λ u. not (is_env_path (parts 47 u))) p.names i t r.no_env there in
          record {
            path = ap is_path text ∙ all_at is_path p.names i t r.paths there;
            found = ap (instance_at p) text ∙ ap numbered found ∙ numbered_back i index;
            other = ap (λ u. bytes_eq u (codes "env")) text
                ∙ false_from_ne_true (bytes_eq t (codes "env"))
                (λ same. let env : false ≡ not (is_env_path (parts 47 t)) = ap (λ u. not (is_env_path (parts 47 u))) (sym ((bytes_eq-Decides t (codes "env")).0 same)) in let no : false ≡ true = env ∙ plain in cc);
          }

  -- ---- INSTANCE:RUNNABLE

  record IsCaller (t : Letters) (x : ℕ) : Type 0 where
    found : runnable_in p t ≡ Some x
    no_dot : lacks 46 t ≡ true
    no_at : lacks 64 t ≡ true
    name : Letters
    colon : behind 58 t ≡ Some name

  runnable_read : (x : ℕ) → nat_lt x (length p.runnables) ≡ true → IsCaller (runnable_text p x) x
  runnable_read x h = within p.runnables x (IsCaller (runnable_text p x) x) h of_runnable
    where
      of_runnable : (v : Runnable) → slice_get p.runnables x ≡ Some v → IsCaller (runnable_text p x) x
      of_runnable v there =
          let path = instance_text p (Some v.instance) in
          let text : runnable_text p x ≡ path ++ 58 ∷ v.name = ap (λ o. option_map_or (λ (u : Runnable). instance_text p (Some u.instance) ++ codes ":" ++ u.name) o []) there ∙ append_assoc path (codes ":") v.name in
          let i = path_read v.instance (all_at (λ (u : Runnable). instance_exists p (Some u.instance)) p.runnables x v r.runnable_homes there) in
          let name : is_name v.name ≡ true = all_at (λ (u : Runnable). is_name u.name) p.runnables x v r.runnables there in
          let cut = cut-join 58 path v.name (path_lacks 58 refl refl path i.path) in
          subst (λ t. IsCaller t x) (sym text) (record {
            found = ap (runnable_by_cut (before 58 (path ++ 58 ∷ v.name))) cut.1
                ∙ ap (λ u. option_and_then (λ k. runnable_at p (Some k) v.name) (instance_at p u)) cut.0
                ∙ ap (λ o. option_and_then (λ k. runnable_at p (Some k) v.name) o) i.found
                ∙ r.find_runnables x v there;
            no_dot = joined_lacks 46 58 refl path v.name (path_lacks 46 refl refl path i.path) (name_lacks 46 refl v.name name);
            no_at = joined_lacks 64 58 refl path v.name (path_lacks 64 refl refl path i.path) (name_lacks 64 refl v.name name);
            name = v.name;
            colon = cut.1;
          })
        where
          runnable_by_cut : Letters → Option Letters → Option ℕ
          runnable_by_cut path None = None
          runnable_by_cut path (Some name) = option_and_then (λ i. runnable_at p (Some i) name) (instance_at p path)

  -- ---- CALLER, and CALLER.PORT.OPERATION

  record IsCallerText (c : Option ℕ) : Type 0 where
    found : caller_in p (caller_text p c) ≡ Some c
    no_dot : lacks 46 (caller_text p c) ≡ true

  caller_read : (c : Option ℕ) → ((x : ℕ) → c ≡ Some x → x < length p.runnables) → IsCallerText c
  caller_read None h = record { found = refl; no_dot = refl }
  caller_read (Some x) h =
      let k = runnable_read x (lt-ltb x (length p.runnables) (h x refl)) in
      record {
        found = ap (λ b. cond b (Some None) (option_map (λ n. Some n) (runnable_in p (runnable_text p x)))) (differs 58 (runnable_text p x) (codes "env") k.name k.colon refl)
            ∙ ap (option_map (λ n. Some n)) k.found;
        no_dot = k.no_dot;
      }

  pub point_read_in : (q : ℕ) → is_index q ≡ true → nat_lt q (length p.points) ≡ true → IsRead (point_in p (point_text p q)) (point_text p q) q
  point_read_in q index h = within p.points q (IsRead (point_in p (point_text p q)) (point_text p q) q) h of_point
    where
      by_cut : Letters → Option Letters → Option ℕ
      by_cut caller None = None
      by_cut caller (Some name) = option_and_then (λ c. point_at p c name) (caller_in p caller)

      of_point : (t : PointPlan) → slice_get p.points q ≡ Some t → IsRead (point_in p (point_text p q)) (point_text p q) q
      of_point t there =
          let caller = caller_text p t.runnable in
          let text : point_text p q ≡ caller ++ 46 ∷ t.name = ap (λ o. option_map_or (λ (u : PointPlan). caller_text p u.runnable ++ codes "." ++ u.name) o []) there ∙ append_assoc caller (codes ".") t.name in
          let c = caller_read t.runnable (λ x is. caller_exists p r q t there x is) in
          let cut = cut-join 46 caller t.name c.no_dot in
          subst (λ u. IsRead (point_in p u) u q) (sym text) (record {
            found = ap (by_cut (before 46 (caller ++ 46 ∷ t.name))) cut.1
                ∙ ap (λ u. option_and_then (λ k. point_at p k t.name) (caller_in p u)) cut.0
                ∙ ap (λ o. option_and_then (λ k. point_at p k t.name) o) c.found
                ∙ ap numbered (r.find_points q t there)
                ∙ numbered_back q index;
          })

  -- ---- INSTANCE.PORT.ELEMENT

  record IsHome (i : Option ℕ) : Type 0 where
    found : home_in p (instance_text p i) ≡ Some i
    no_dot : lacks 46 (instance_text p i) ≡ true
    no_colon : lacks 58 (instance_text p i) ≡ true

  home_read : (i : Option ℕ) → instance_exists p i ≡ true → IsHome i
  home_read None h = record { found = refl; no_dot = refl; no_colon = refl }
  home_read (Some i) h =
      let k = path_read i h in
      let t = instance_text p (Some i) in
      record {
        found = ap (λ b. cond b (Some None) (option_map (λ n. Some n) (instance_at p t))) k.other ∙ ap (option_map (λ n. Some n)) k.found;
        no_dot = path_lacks 46 refl refl t k.path;
        no_colon = path_lacks 58 refl refl t k.path;
      }

  record IsMachineText (t : Letters) (m : ℕ) : Type 0 where
    read : IsRead (machine_in p t) t m
    no_colon : lacks 58 t ≡ true
    dot : Letters
    dotted : behind 46 t ≡ Some dot

  machine_read_in : (m : ℕ) → is_index m ≡ true → nat_lt m (length p.machines) ≡ true → IsMachineText (machine_text p m) m
  machine_read_in m index h = within p.machines m (IsMachineText (machine_text p m) m) h of_machine
    where
      by_cut : Letters → Option Letters → Option ℕ
      by_cut home None = None
      by_cut home (Some name) = option_and_then (λ k. machine_at p k name) (home_in p home)

      of_machine : (n : MachinePlan) → slice_get p.machines m ≡ Some n → IsMachineText (machine_text p m) m
      of_machine n there =
          let home = instance_text p n.instance in
          let text : machine_text p m ≡ home ++ 46 ∷ n.name = ap (λ o. option_map_or (λ (u : MachinePlan). instance_text p u.instance ++ codes "." ++ u.name) o []) there ∙ append_assoc home (codes ".") n.name in
          let c = home_read n.instance (all_at (λ (u : MachinePlan). instance_exists p u.instance) p.machines m n r.machine_homes there) in
          let name : is_pair_name n.name ≡ true = (and_parts (is_pair_name n.name) (list_all is_name n.modes) (all_at (λ (u : MachinePlan). is_pair_name u.name && list_all is_name u.modes) p.machines m n r.machines there)).0 in
          let cut = cut-join 46 home n.name c.no_dot in
          subst (λ u. IsMachineText u m) (sym text) (record {
            read = record {
              found = ap (by_cut (before 46 (home ++ 46 ∷ n.name))) cut.1
                  ∙ ap (λ u. option_and_then (λ k. machine_at p k n.name) (home_in p u)) cut.0
                  ∙ ap (λ o. option_and_then (λ k. machine_at p k n.name) o) c.found
                  ∙ ap numbered (r.find_machines m n there)
                  ∙ numbered_back m index;
            };
            no_colon = joined_lacks 58 46 refl home n.name c.no_colon (pair_lacks 58 refl refl n.name name);
            dot = n.name;
            dotted = cut.1;
          })

  -- ---- INSTANCE:RUNNABLE@POINT

  record IsKeyText (t : Letters) (k : ActKey) : Type 0 where
    found : key_in p t ≡ Some k
    name : Letters
    colon : behind 58 t ≡ Some name

  key_read : (x : ℕ) (o : Option ℕ) → is_index x ≡ true → is_point o ≡ true → nat_lt x (length p.runnables) ≡ true → ((q : ℕ) → o ≡ Some q → nat_lt q (length p.points) ≡ true)
      → IsKeyText (key_text p (record { runnable = x; point = o })) (record { runnable = x; point = o })
  key_read x None index small here there =
      let c = runnable_read x here in
      let t = runnable_text p x in
      let cut = cut-whole 64 t c.no_at in
      subst (λ u. IsKeyText u (record { runnable = x; point = None })) (sym (append-nil t)) (record {
        found = ap (λ o. option_and_then (λ k. key_with p k o) (numbered (runnable_in p (before 64 t)))) cut.1
            ∙ ap (λ u. option_and_then (λ k. key_with p k None) (numbered (runnable_in p u))) cut.0
            ∙ ap (λ o. option_and_then (λ k. key_with p k None) (numbered o)) c.found
            ∙ ap (λ o. option_and_then (λ k. key_with p k None) o) (numbered_back x index);
        name = c.name;
        colon = c.colon;
      })
  key_read x (Some q) index small here there =
      let c = runnable_read x here in
      let t = runnable_text p x in
      let at = point_read_in q small (there q refl) in
      let u = point_text p q in
      let cut = cut-join 64 t u c.no_at in
      record {
        found = ap (λ o. option_and_then (λ k. key_with p k o) (numbered (runnable_in p (before 64 (t ++ 64 ∷ u))))) cut.1
            ∙ ap (λ w. option_and_then (λ k. key_with p k (Some u)) (numbered (runnable_in p w))) cut.0
            ∙ ap (λ o. option_and_then (λ k. key_with p k (Some u)) (numbered o)) c.found
            ∙ ap (λ o. option_and_then (λ k. key_with p k (Some u)) o) (numbered_back x index)
            ∙ ap (option_map (λ n. record { runnable = x; point = Some n })) at.found;
        name = c.name ++ 64 ∷ u;
        colon = behind-more 58 t (64 ∷ u) c.name c.colon;
      }

  pub served_within : (q : ℕ) (s : Option ℕ) → is_some s ≡ true → same_number (server_of p q) s ≡ true → nat_lt q (length p.points) ≡ true
  served_within q s some h = step (slice_get p.points q) refl h
    where
      step : (o : Option PointPlan) → slice_get p.points q ≡ o → same_number (option_map_or (λ (t : PointPlan). t.server) o None) s ≡ true → nat_lt q (length p.points) ≡ true
      step None is h = let none : None ≡ s = same_home None s h in let no : is_some s ≡ false = sym (ap is_some none) in absurd (cc)
      step (Some t) is h = lt-ltb q (length p.points) (slice_get_within p.points q t is)

  key_point : (x : ℕ) (o : Option ℕ) → key_fits p (record { runnable = x; point = o }) ≡ true → (q : ℕ) → o ≡ Some q → nat_lt q (length p.points) ≡ true
  key_point x None h q is = absurd (cc)
  key_point x (Some n) h q is =
      let k : ActKey = record { runnable = x; point = Some n } in
      let two = and_parts (nat_lt x (length p.runnables)) _ h in
      let served = and_parts (serves_directly p k) (same_number (server_of p n) (served_by p (Act k))) two.1 in
      let some = (and_parts (is_some (served_by p (Act k))) _ served.0).0 in
      let same : n ≡ q = cc in
      subst (λ m. nat_lt m (length p.points) ≡ true) same (served_within n (served_by p (Act k)) some served.1)

  -- ---- actors

  -- the actor is one that there is
  abbrev pub IsThere : Actor → Type 0
  IsThere Env = Unit {0}
  IsThere (Machine m) = nat_lt m (length p.machines) ≡ true
  IsThere (Act k) = key_fits p k ≡ true

  pub record IsActorText (a : Actor) : Type 0 where
    pub found : actor_in p (actor_text p a) ≡ Some a

  pub actor_read : (a : Actor) → IsThere a → is_sized_actor a ≡ true → IsActorText a
  actor_read Env there sized = record { found = refl }
  actor_read (Machine m) there sized =
      let t = machine_text p m in
      let k = machine_read_in m sized there in
      let other : bytes_eq t (codes "env") ≡ false = differs 46 t (codes "env") k.dot k.dotted refl in
      let cut = cut-whole 58 t k.no_colon in
      record { found = ap (λ b. cond b (Some Env) (by_colon t (behind 58 t))) other ∙ ap (by_colon t) cut.1 ∙ ap (option_map (λ n. Machine n)) k.read.found }
    where
      by_colon : Letters → Option Letters → Option Actor
      by_colon t None = option_map (λ m. Machine m) (machine_in p t)
      by_colon t (Some name) = option_map (λ k. Act k) (key_in p t)
  actor_read (Act a) there sized =
      let t = key_text p a in
      let two = and_parts (is_index a.runnable) (is_point a.point) sized in
      let k = key_read a.runnable a.point two.0 two.1 (and_parts (nat_lt a.runnable (length p.runnables)) _ there).0 (key_point a.runnable a.point there) in
      let other : bytes_eq t (codes "env") ≡ false = differs 58 t (codes "env") k.name k.colon refl in
      record { found = ap (λ b. cond b (Some Env) (by_colon t (behind 58 t))) other ∙ ap (by_colon t) k.colon ∙ ap (option_map (λ n. Act n)) k.found }
    where
      by_colon : Letters → Option Letters → Option Actor
      by_colon t None = option_map (λ m. Machine m) (machine_in p t)
      by_colon t (Some name) = option_map (λ k. Act k) (key_in p t)
