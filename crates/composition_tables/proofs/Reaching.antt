-- The search for the compositions below others.
use Rattle.std.proofs.Common.{◌≡◌, ℕ, ◌+◌, ◌-◌, ◌<◌, ◌≤◌, List, [], ◌∷◌, length, get_or, slice_get, Bool, true, false, cond, nat_eq, nat_lt, Some, None, option_and_then, ⊎_elim, ◌↔◌, refl}
use Rattle.std.proofs.Common.{sym, ap, subst, ◌∙◌, arith}
use Rattle.std.proofs.lemmas.Bool.{ltb-true, lt-ltb, cases_lt}
use Rattle.std.proofs.lemmas.Map.Steps.{length-le_from_distinct_below}
use Rattle.std.proofs.lemmas.Option.{get_or_from_slice_get, slice_get_within}
use Rattle.std.specs.List.{IsDistinct}
use Rattle.description_types.specs.declared.description.Description.{Description}
use Rattle.description_types.specs.declared.description.PrototypeType.{PrototypeType}
use Rattle.description_types.specs.declared.description.PrototypeType.TheVariants.{Component, Composition}
use Rattle.indexmap.specs.IndexSet.{insert_all}
use Rattle.description_types.specs.Members.{Among}
use Rattle.description_types.specs.Paths.{prototypes_of, type_in, type_at, held_by, declared_in, declared_composition, IsReached}
use Rattle.composition_tables.proofs.Members.{place, pick, unpick, found, numbers_keep, numbers_have, numbers_only, all_stay, get_some, past_end}
use Rattle.composition_tables.proofs.Steps.{step_is, step_of, last_step, holder_declared}

-- what a declared composition of a prototype is
pub declared_is : (count : ℕ) (t : PrototypeType) (e : ℕ) → declared_in count t ≡ Some e → (t ≡ Composition e) × (e < count)
declared_is count (Component k) e h = cc
declared_is count (Composition c) e h = by (nat_lt c count) refl
  where
    by : (b : Bool) → nat_lt c count ≡ b → (Composition c ≡ Composition e) × (e < count)
    by true is =
        let same : Some c ≡ Some e = sym (ap (λ b. cond b (Some c) None) is) ∙ h in
        let equal : c ≡ e = cc in
        (ap (λ x. Composition x) equal, subst (λ x. x < count) equal (ltb-true c count is))
    by false is = let none : None ≡ Some e = sym (ap (λ b. cond b (Some c) None) is) ∙ h in cc

pub declared_from : (count e : ℕ) → e < count → declared_in count (Composition e) ≡ Some e
declared_from count e h = ap (λ b. cond b (Some e) None) (lt-ltb e count h)

module _ (d : Description) where
  -- a composition that is held stands at the end of one more step
  pub held_step : (h e : ℕ) → Among e (held_by d h) → (q : ℕ) × (type_in d (Composition h) q ≡ Some (Composition e)) × (e < length d.compositions)
  held_step h e among =
      let p = unpick (declared_composition d) (prototypes_of d h) e among in
      let is = declared_is (length d.compositions) p.0.of_type e p.2 in
      let k = step_of d h p.0 p.1 in
      (k.0, k.1 ∙ ap (λ t. Some t) is.0, is.1)

  pub step_held : (h e q : ℕ) → type_in d (Composition h) q ≡ Some (Composition e) → e < length d.compositions → Among e (held_by d h)
  step_held h e q is within =
      let p = step_is d h q (Composition e) is in
      pick (declared_composition d) p.0 (prototypes_of d h) e (get_some (prototypes_of d h) q p.0 p.1)
      (ap (declared_in (length d.compositions)) p.2 ∙ declared_from (length d.compositions) e within)

  module _ (starts : List ℕ) where
    pub further : (h e : ℕ) → IsReached d starts h → Among e (held_by d h) → IsReached d starts e
    further h e reached among =
        let s = held_step h e among in
        (reached.0, reached.1, (s.0 ∷ reached.2.0, ap (option_and_then (λ holder. type_in d holder s.0)) reached.2.1 ∙ s.1), s.2)

    -- the keys that were found, up to next with all that they hold
    pub record Search (keys : List ℕ) (next : ℕ) : Type 0 where
      pub has : (e : ℕ) → Among e starts → Among e keys
      pub sound : (e : ℕ) → Among e keys → IsReached d starts e
      pub closed : (k e : ℕ) → k < next → Among e (held_by d (get_or keys k 0)) → Among e keys

    pub search_begins : ((e : ℕ) → Among e starts → e < length d.compositions) → Search starts 0
    search_begins declared = record {
      has = λ e h. h;
      sound = λ e h. (e, h, ([], refl), declared e h);
      closed = λ k e h. absurd (omega arith);
    }

    pub search_goes : (keys after : List ℕ) (next holder : ℕ) → Search keys next → slice_get keys next ≡ Some holder → after ≡ insert_all nat_eq keys (held_by d holder)
        → Search after (next + 1)
    search_goes keys after next holder s some is =
        let within = slice_get_within keys next holder some in
        let here : get_or keys next 0 ≡ holder = get_or_from_slice_get keys next holder 0 some in
        subst (λ ks. Search ks (next + 1)) (sym is) (record {
          has = λ e h. numbers_keep (held_by d holder) keys e (s.has e h);
          sound = λ e h. ⊎_elim (λ old. s.sound e old) (λ fresh. further holder e (s.sound holder (get_some keys next holder some)) fresh) (numbers_only (held_by d holder) keys e h);
          closed = λ k e below h.
              let stays : get_or (insert_all nat_eq keys (held_by d holder)) k 0 ≡ get_or keys k 0 = all_stay (held_by d holder) keys k (omega arith) in
              let was : Among e (held_by d (get_or keys k 0)) = subst (λ x. Among e (held_by d x)) stays h in
              ⊎_elim (λ earlier. numbers_keep (held_by d holder) keys e (s.closed k e earlier was))
              (λ (now : next ≤ k). let same : k ≡ next = omega arith in
              numbers_have (held_by d holder) keys e (subst (λ x. Among e (held_by d x)) (ap (λ i. get_or keys i 0) same ∙ here) was))
              (cases_lt k next);
        })

    module _ (keys : List ℕ) (next : ℕ) (s : Search keys next) (past : length keys ≤ next) (start : ℕ) (h : Among start starts) where
      one_further : (q : ℕ) (path : List ℕ) (e : ℕ) → type_at d (Composition start) (q ∷ path) ≡ Some (Composition e) → e < length d.compositions
          → ((m : ℕ) → type_at d (Composition start) path ≡ Some (Composition m) → m < length d.compositions → Among m keys) → Among e keys
      one_further q path e is declared before =
          let l = last_step d (Composition start) (Composition e) q path is in
          let k = place l.0 keys (before l.0 l.1 (holder_declared d l.0 q (Composition e) l.2)) in
          s.closed k.0 e (omega (arith, k.1)) (subst (λ x. Among e (held_by d x)) (k.2 0) (step_held l.0 e q l.2 declared))

      arrives : (path : List ℕ) (e : ℕ) → type_at d (Composition start) path ≡ Some (Composition e) → e < length d.compositions → Among e keys
      arrives [] e is declared = let same : start ≡ e = cc in subst (λ x. Among x keys) same (s.has start h)
      arrives (q ∷ path) e is declared = one_further q path e is declared (λ m. arrives path m)

    pub search_ends : (keys : List ℕ) (next : ℕ) → Search keys next → slice_get keys next ≡ None → (e : ℕ) → Among e keys ↔ IsReached d starts e
    search_ends keys next s none e = (s.sound e, λ r. arrives keys next s (past_end keys next none) r.0 r.1 r.2.0 e r.2.1 r.3)

    -- a search ends, since no more compositions are found than there are
    pub search_shrinks : (keys : List ℕ) (next holder : ℕ) → Search keys next → slice_get keys next ≡ Some holder → IsDistinct nat_eq keys
        → length d.compositions - (next + 1) < length d.compositions - next
    search_shrinks keys next holder s some apart =
        let within = slice_get_within keys next holder some in
        let few : length keys ≤ length d.compositions = length-le_from_distinct_below keys (length d.compositions) apart (λ e h. (s.sound e (found e keys h)).3) in
        omega arith
