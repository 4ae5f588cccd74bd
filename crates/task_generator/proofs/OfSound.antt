-- What a sound plan bounds of its runnables.
use Rattle.std.proofs.Common.{◌≡◌, ◌≤◌, ℕ, ◌+◌, suc, Bool, true, false, ◌&&◌, ◌||◌, not, if◌then◌else◌, refl, sym, ap, ◌∙◌, subst, arith, List, [], ◌∷◌, length, replicate, Option, Some, None}
use Rattle.std.specs.Prelude.{nat_le, ◌==◌}
use Rattle.bus_semantics.specs.Common.{slice_get, and_parts, false≢true, leb-true, length-replicate, Limits, same_number, AccessKind, AccessSig, body_cost, Plan, Runnable, same_kind, is_to}
use Rattle.bus_semantics.specs.Common.{found, is_in, same_limits, access_sound, each_access, point_takes, accesses_distinct, areas_rise, body_sound, IsSound}
use Rattle.runnable_lang.specs.declared.program.AccessKind.TheVariants as kind
use Rattle.bus_semantics.specs.declared.plan.ElemPlan.{ElemPlan}
use Rattle.bus_semantics.specs.declared.plan.PointPlan.{PointPlan}
use Rattle.bus_semantics.specs.declared.script.Mapping.{Mapping}
use Rattle.bus_semantics.specs.SoundAccesses.{takes_words}
use Rattle.history_laws.specs.LookUps.{sought}
use Rattle.history_laws.proofs.Served.{kind_same, sound_of_kind}
use Rattle.history_laws.proofs.Accesses.{elem_is, point_is, whole, accesses_sound}
use Rattle.history_laws.proofs.SoundServers.{server_is, server_fits}
use Rattle.task_generator.specs.Servers.{served, arguments_in}
use Rattle.task_generator.specs.Bounded.{gives, IsBounded}
use Rattle.task_generator.proofs.Resolving.{ins}

-- limits that are the same are as many
as_many : (ls bs : List Limits) → same_limits ls bs ≡ true → length ls ≡ length bs
as_many [] [] same = refl
as_many [] (b ∷ bs) same = absurd (false≢true same)
as_many (l ∷ ls) [] same = absurd (false≢true same)
as_many (l ∷ ls) (b ∷ bs) same = ap (λ n. suc n) (as_many ls bs (and_parts _ (same_limits ls bs) same).1)

-- there is a target for each access
as_many_targets : (f : AccessSig → ℕ → Bool) (sigs : List AccessSig) (ts : List ℕ) → each_access f sigs ts ≡ true → length sigs ≡ length ts
as_many_targets f [] [] all = refl
as_many_targets f [] (t ∷ ts) all = absurd (false≢true all)
as_many_targets f (a ∷ sigs) [] all = absurd (false≢true all)
as_many_targets f (a ∷ sigs) (t ∷ ts) all = ap (λ n. suc n) (as_many_targets f sigs ts (and_parts (f a t) (each_access f sigs ts) all).1)

module _ (p : Plan) (m : Mapping) (sound : IsSound p m) where
  -- an element takes few words
  elem_few : (x : ℕ) (limits : List Limits) → takes_words p x limits ≡ true → length limits ≤ 16
  elem_few x limits takes =
      let at = sought p.elements x (λ (e : ElemPlan). same_limits limits (replicate e.words e.limits)) takes in
      let count : length limits ≡ at.item.words = as_many limits (replicate at.item.words at.item.limits) at.holds ∙ length-replicate at.item.words at.item.limits in
      let few : at.item.words ≤ 16 = leb-true at.item.words 16 (and_parts (nat_le 1 at.item.words) (nat_le at.item.words 16) (and_parts (is_in 1 16 at.item.words) _ (elem_is p m sound x at.item at.found)).0).1 in
      omega arith

  -- a point takes few words
  point_few : (i : ℕ) (asynchronous : Bool) (ins outs : List Limits) (q : ℕ) → point_takes p i asynchronous ins outs q ≡ true → length ins ≤ 16
  point_few i asynchronous ins outs q takes =
      let at = sought p.points q
      (λ (t : PointPlan). (same_number t.runnable (Some i) && (if asynchronous then t.asynchronous else not t.asynchronous)) && (same_limits ins t.ins && (asynchronous || same_limits outs t.outs))) takes in
      let same : same_limits ins at.item.ins ≡ true = (and_parts (same_limits ins at.item.ins) _ (and_parts _ (same_limits ins at.item.ins && (asynchronous || same_limits outs at.item.outs)) at.holds).1).0 in
      let count : length ins ≡ length at.item.ins = as_many ins at.item.ins same in
      let few : length at.item.ins + length at.item.outs ≤ 16 = leb-true (length at.item.ins + length at.item.outs) 16 (and_parts (nat_le (length at.item.ins + length at.item.outs) 16) _ (point_is p m sound q at.item at.found)).0 in
      omega arith

  module _ (i : ℕ) (home : Option ℕ) where
    -- what a sound access gives
    few_of_kind : (k : AccessKind) (a : AccessSig) (t : ℕ) → gives k ≡ true → access_sound p i home (record { kind = k; port = a.port; item = a.item; ins = a.ins; outs = a.outs; modes = a.modes }) t ≡ true → length a.ins ≤ 16
    few_of_kind kind.Write a t gives fits = elem_few t a.ins (and_parts _ (takes_words p t a.ins) fits).1
    few_of_kind kind.Send a t gives fits = elem_few t a.ins (and_parts _ (takes_words p t a.ins) fits).1
    few_of_kind kind.IWrite a t gives fits = elem_few t a.ins (and_parts _ (takes_words p t a.ins) fits).1
    few_of_kind kind.IrvWrite a t gives fits = elem_few t a.ins (and_parts _ (takes_words p t a.ins) fits).1
    few_of_kind kind.IrvIWrite a t gives fits = elem_few t a.ins (and_parts _ (takes_words p t a.ins) fits).1
    few_of_kind kind.Call a t gives fits = point_few i false a.ins a.outs t fits
    few_of_kind kind.ACall a t gives fits = point_few i true a.ins a.outs t fits
    few_of_kind k a t gives fits = absurd (false≢true gives)

    few_found : (k : AccessKind) (port item : ℕ) → gives k ≡ true → (sigs : List AccessSig) (targets : List ℕ) → each_access (access_sound p i home) sigs targets ≡ true → length (found (is_to k port item) sigs targets).ins ≤ 16
    few_found k port item gives [] [] all = omega arith
    few_found k port item gives [] (t ∷ ts) all = omega arith
    few_found k port item gives (a ∷ sigs) [] all = absurd (false≢true all)
    few_found k port item gives (a ∷ sigs) (t ∷ ts) all =
        let parts = and_parts (access_sound p i home a t) (each_access (access_sound p i home) sigs ts) all in
        by_test (is_to k port item a) refl parts.0 (few_found k port item gives sigs ts parts.1)
      where
        by_test : (b : Bool) → is_to k port item a ≡ b → access_sound p i home a t ≡ true → length (found (is_to k port item) sigs ts).ins ≤ 16
            → length (if b then record { target = t; ins = a.ins } else found (is_to k port item) sigs ts).ins ≤ 16
        by_test true at fits rest =
            let same = kind_same a.kind k (and_parts (same_kind a.kind k) (a.port == port) (and_parts (same_kind a.kind k && (a.port == port)) (a.item == item) at).0).0 in
            few_of_kind k a t gives (sound_of_kind p i home a k t same fits)
        by_test false at fits rest = rest

  module _ (i : ℕ) (r : Runnable) (there : slice_get p.runnables i ≡ Some r) where
    few_arguments : (o : Option ℕ) → r.server ≡ o → length (arguments_in (served p.servers o)) ≤ 16
    few_arguments None is = omega arith
    few_arguments (Some n) is =
        let of = server_is p m sound i r there n is in
        subst (λ v. length (arguments_in v) ≤ 16) (sym of.there) (leb-true (length of.server.arguments) 16 (server_fits of.server of.sound).few)

    low_cost : body_cost r.program.body ≤ 100000
    low_cost =
        let after_accesses = (and_parts (each_access (access_sound p i (Some r.instance)) r.accesses r.targets) _ (whole p m sound i r there)).1 in
        let after_areas = (and_parts (accesses_distinct r.accesses && areas_rise r.accesses r.targets) _ after_accesses).1 in
        let after_body = (and_parts (body_sound r r.program.body []) _ after_areas).1 in
        leb-true (body_cost r.program.body) 100000 (and_parts (nat_le (body_cost r.program.body) 100000) _ after_body).0

    all_targets : length r.accesses ≡ length r.targets
    all_targets = as_many_targets (access_sound p i (Some r.instance)) r.accesses r.targets (accesses_sound p m sound i r there)

    pub bounded : IsBounded p r
    bounded = record {
      words = λ k port item gives. subst (λ (ls : List Limits). length ls ≤ 16) (sym (ins r all_targets k port item)) (few_found i (Some r.instance) k port item gives r.accesses r.targets (accesses_sound p m sound i r there));
      targets = all_targets;
      arguments = few_arguments r.server refl;
      cost = low_cost;
    }
