-- A mode is read back from its text, and so is a point at which a runnable of an instance calls without waiting.
use Rattle.std.proofs.Common.{◌≡◌, ℕ, ◌<◌, ◌≤◌, Bool, true, false, not, ◌&&◌, ◌||◌, ◌==◌, cond, List, [], ◌∷◌, length, nat_lt, bytes_eq, codes, get_or, Option, Some, None, inl, inr, refl}
use Rattle.std.proofs.Common.{sym, ap, ◌∙◌, subst, arith}
use Rattle.bus_semantics.specs.Common.{list_all, position, position_or_len, slice_get, option_map_or, and_parts, and_from, eq-eqb, eqb-true, false_from_ne_true, lt-ltb}
use Rattle.bus_semantics.specs.Common.{get_or_from_slice_get, slice_get-get_or, slice_get_within, bytes_eq-Decides, same_number, result_point, Plan, every_from, instance_of, look, is_index}
use Rattle.bus_semantics.specs.Common.{same_operation, is_name, is_pair_name, same_numbers, Letters, mode_text, point_name}
use Rattle.std.proofs.lemmas.List.Sums.{position_or_len_is}
use Rattle.std.proofs.lemmas.Option.{slice_get_cases}
use Rattle.bus_laws.specs.Common.{MachinePlan, PointPlan, Version, One, Two}
use Rattle.bus_laws.proofs.Thinning.{every_at}
use Rattle.line_fields.proofs.Distinct.{all_at}
use Rattle.line_fields.specs.Named.{is_text}
use Rattle.trace_reading.specs.Deeds.{mode_at}
use Rattle.trace_reading.specs.Fields.{numbered}
use Rattle.trace_reading.specs.Finding.{home_of_caller, is_result, mode_named, result_at}
use Rattle.trace_reading.proofs.Naming.{IsNamed}
use Rattle.trace_reading.proofs.Things.{IsRead, same_home}
use Rattle.trace_reading.proofs.Values.{number_back, numbered_back}

module _ (p : Plan) (r : IsNamed p) where
  -- ---- modes

  -- a mode of a machine, or its transition value
  pub record IsModeOf (m : Option ℕ) (mode : ℕ) : Type 0 where
    pub place : ℕ
    pub machine : MachinePlan
    pub is : m ≡ Some place
    pub there : slice_get p.machines place ≡ Some machine
    pub most : mode ≤ length machine.modes

  by_name : (i : ℕ) (n : MachinePlan) → slice_get p.machines i ≡ Some n → (mode : ℕ) → mode ≤ length n.modes → is_index mode ≡ true
      → IsRead (mode_named p i (mode_text Two p (Some i) mode)) (mode_text Two p (Some i) mode) mode
  by_name i n there mode most index = step (slice_get n.modes mode) refl
    where
      looked : mode_text Two p (Some i) mode ≡ look n.modes mode (λ (t : Letters). t) (codes "-")
      looked = ap (λ o. look (option_map_or (λ (k : MachinePlan). k.modes) o []) mode (λ (t : Letters). t) (codes "-")) there

      named : (t : Letters) → mode_named p i t ≡ numbered (cond (bytes_eq t (codes "-")) (Some (length n.modes)) (position (is_text t) n.modes))
      named t = ap (λ o. option_map_or (λ (k : MachinePlan). numbered (cond (bytes_eq t (codes "-")) (Some (length k.modes)) (position (is_text t) k.modes))) o None) there

      step : (o : Option Letters) → slice_get n.modes mode ≡ o → IsRead (mode_named p i (mode_text Two p (Some i) mode)) (mode_text Two p (Some i) mode) mode
      step None is =
          let text : mode_text Two p (Some i) mode ≡ codes "-" = looked ∙ ap (λ o. option_map_or (λ (t : Letters). t) o (codes "-")) is in
          let last : length n.modes ≡ mode = elim (slice_get_cases n.modes mode).1 [ inl c ↦ (let some : Some c.0 ≡ None = sym c.2 ∙ is in absurd (cc)) | inr c ↦ (let past : length n.modes ≤ mode = c.0 in omega arith) ] in
          subst (λ t. IsRead (mode_named p i t) t mode) (sym text) (record { found = named (codes "-") ∙ ap (λ k. numbered (Some k)) last ∙ numbered_back mode index })
      step (Some t) is =
          let text : mode_text Two p (Some i) mode ≡ t = looked ∙ ap (λ o. option_map_or (λ (u : Letters). u) o (codes "-")) is in
          let names : list_all is_name n.modes ≡ true =
          (and_parts (is_pair_name n.name) (list_all is_name n.modes) (all_at (λ (k : MachinePlan). is_pair_name k.name && list_all is_name k.modes) p.machines i n r.machines there)).1 in
          let name : is_name t ≡ true = all_at is_name n.modes mode t names is in
          let other : bytes_eq t (codes "-") ≡ false = false_from_ne_true (bytes_eq t (codes "-")) (λ same. let no : is_name t ≡ false = ap is_name ((bytes_eq-Decides t (codes "-")).0 same) in cc) in
          subst (λ u. IsRead (mode_named p i u) u mode) (sym text) (record {
            found = named t ∙ ap (λ b. numbered (cond b (Some (length n.modes)) (position (is_text t) n.modes))) other
                ∙ ap numbered (r.find_modes i n there mode t is) ∙ numbered_back mode index;
          })

  pub mode_read : (v : Version) (m : Option ℕ) (mode : ℕ) → IsModeOf m mode → is_index mode ≡ true → IsRead (mode_at v p m (mode_text v p m mode)) (mode_text v p m mode) mode
  mode_read One m mode k index = record { found = number_back mode index }
  mode_read Two m mode k index = subst (λ o. IsRead (mode_at Two p o (mode_text Two p o mode)) (mode_text Two p o mode) mode) (sym k.is) (by_name k.place k.machine k.there mode k.most index)

  -- ---- results

  same_texts : (t : List ℕ) → same_numbers t t ≡ true
  same_texts [] = refl
  same_texts (n ∷ ns) = and_from (n == n) (same_numbers ns ns) (eq-eqb n n refl) (same_texts ns)

  pub result_read : (home : Option ℕ) (q : ℕ) → result_point p home q ≡ true → is_index q ≡ true → IsRead (result_at p home (point_name p q)) (point_name p q) q
  result_read home q fit index = step (slice_get p.points q) refl fit
    where
      of_home : Option ℕ → Bool
      of_home None = false
      of_home (Some x) = same_number (instance_of p x) home

      called : Option ℕ → Bool
      called o = same_number (home_of_caller p o) home

      step : (o : Option PointPlan) → slice_get p.points q ≡ o → option_map_or (λ (t : PointPlan). t.asynchronous && of_home t.runnable) o false ≡ true
          → IsRead (result_at p home (point_name p q)) (point_name p q) q
      step None is h = absurd (cc)
      step (Some t) is h = record { found = ap (result_at p home) text ∙ ap numbered place ∙ numbered_back q index }
        where
          text : point_name p q ≡ t.name
          text = ap (λ o. option_map_or (λ (u : PointPlan). u.name) o []) is

          two : (t.asynchronous ≡ true) × (of_home t.runnable ≡ true)
          two = and_parts t.asynchronous (of_home t.runnable) h

          own : (o : Option ℕ) → of_home o ≡ true → called o ≡ true
          own None k = absurd (cc)
          own (Some x) k = k

          here : is_result p home t.name t ≡ true
          here = and_from t.asynchronous (called t.runnable && bytes_eq t.name t.name) two.0 (and_from (called t.runnable) (bytes_eq t.name t.name) (own t.runnable two.1) ((bytes_eq-Decides t.name t.name).1 refl))

          less : q < length p.points
          less = slice_get_within p.points q t is

          -- no earlier one: it would be the same operation, called without waiting
          none : (k : ℕ) → k < q → is_result p home t.name (get_or p.points k t) ≡ false
          none k before = false_from_ne_true (is_result p home t.name (get_or p.points k t)) twice
            where
              u : PointPlan
              u = get_or p.points k t

              at : slice_get p.points k ≡ Some u
              at = slice_get-get_or p.points k t (omega (arith, less))

              twice : is_result p home t.name u ≡ true → ⊥
              twice both =
                  let parts = and_parts u.asynchronous (called u.runnable && bytes_eq u.name t.name) both in
                  let more = and_parts (called u.runnable) (bytes_eq u.name t.name) parts.1 in
                  let name : u.name ≡ t.name = (bytes_eq-Decides u.name t.name).0 more.1 in
                  let homes : home_of_caller p u.runnable ≡ home_of_caller p t.runnable = same_home (home_of_caller p u.runnable) home more.0 ∙ sym (same_home (home_of_caller p t.runnable) home (own t.runnable two.1)) in
                  let same : same_operation p u t ≡ true = and_from (same_numbers u.name t.name) _ (subst (λ n. same_numbers u.name n ≡ true) name (same_texts u.name)) (same_homes u.runnable t.runnable homes) in
                  let outer = every_at (λ i (a : PointPlan). every_from 0 (λ j (c : PointPlan). (i == j) || (not (same_operation p a c) || not (a.asynchronous || c.asynchronous))) p.points) 0 p.points r.operations k k u (omega arith) at in
                  let inner = every_at (λ j (c : PointPlan). (k == j) || (not (same_operation p u c) || not (u.asynchronous || c.asynchronous))) 0 p.points outer q q t (omega arith) is in
                  let apart : (k == q) ≡ false = false_from_ne_true (k == q) (λ e. let one : k ≡ q = eqb-true k q e in absurd (omega arith)) in
                  let wrong : (false || (not true || not (true || t.asynchronous))) ≡ true = subst (λ b. (b || (not true || not (true || t.asynchronous))) ≡ true) apart
                  (subst (λ b. ((k == q) || (not b || not (true || t.asynchronous))) ≡ true) same (subst (λ b. ((k == q) || (not (same_operation p u t) || not (b || t.asynchronous))) ≡ true) parts.0 inner)) in
                  cc
                where
                  of_runnable : Option ℕ → Option ℕ
                  of_runnable None = None
                  of_runnable (Some x) = instance_of p x

                  itself : (o : Option ℕ) → same_number o o ≡ true
                  itself None = refl
                  itself (Some x) = eq-eqb x x refl

                  same_homes : (a b : Option ℕ) → home_of_caller p a ≡ home_of_caller p b → same_number (of_runnable a) (of_runnable b) ≡ true
                  same_homes a b e = subst (λ o. same_number (home_of_caller p a) o ≡ true) e (itself (home_of_caller p a))

          place : position (is_result p home t.name) p.points ≡ Some q
          place =
              let at : position_or_len (is_result p home t.name) p.points ≡ q = position_or_len_is (is_result p home t.name) p.points q t (omega (arith, less)) none (λ l. ap (is_result p home t.name) (get_or_from_slice_get p.points q t t is) ∙ here) in
              ap (λ n. cond (nat_lt n (length p.points)) (Some n) None) at ∙ ap (λ b. cond b (Some q) None) (lt-ltb q (length p.points) less)
