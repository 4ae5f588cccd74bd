-- What is kept of partners.
use Rattle.std.proofs.Common.{◌≡◌, ℕ, zero, suc, ◌+◌, ◌<◌, ◌≤◌, List, [], ◌∷◌, length, get_or, drop, map, filter, Bool, true, false, cond, ◌&&◌, ◌||◌, not, Option, Some, None, refl, sym, ap}
use Rattle.std.proofs.Common.{◌++◌, take, ◌∙◌, arith, add-one, true≢false}
use Rattle.std.proofs.lemmas.List.{append-nil, take_more}
use Rattle.std.specs.Prelude.{is_none as is_absent}
use Rattle.std.specs.List.{list_any}
use Rattle.std.specs.Option.{unwrap_or}
use Rattle.indexmap.specs.IndexMap.{get}
use Rattle.indexmap.specs.IndexSet.{contains}
use Rattle.plan_definitions.specs.Common.{End, Join, are_several, providers, requirers}
use Rattle.join_search.specs.declared.partners.Kept.{Kept}
use Rattle.join_search.specs.declared.partners.Kept.TheVariants as kept
use Rattle.join_search.specs.declared.partners.Partners.{Partners}
use Rattle.plan_definitions.specs.Joins.{is_none, same_end, partners}
use Rattle.join_search.specs.Partners.{added, has_several, summary, with_one, key_of, same_key, IsKeptBy, Key, TellsAll}
use Rattle.plan_definitions.proofs.Keys.{same_end_is, same_end_refl}

-- a partner that is kept already as the first changes nothing
pub set_first : (kept : Option Partners) (x : End) → with_one (Some (unwrap_or kept (with_one None x))) x ≡ with_one kept x
set_first None x = (λ j. record { first = x; several = not (same_end_refl x j) })
set_first (Some p) x = refl

-- what is kept of some partners, and of those that come after them
added_some : (x : End) (s : Bool) (xs : List End) → added (Some (record { first = x; several = s })) xs ≡ Some (record { first = x; several = s || list_any (λ y. not (same_end x y)) xs })
added_some x true [] = refl
added_some x false [] = refl
added_some x true (y ∷ xs) = added_some x true xs
added_some x false (y ∷ xs) = added_some x (not (same_end x y)) xs

pub added_all : (xs : List End) → added None xs ≡ summary xs
added_all [] = refl
added_all (x ∷ xs) = added_some x false xs

module _ (own other : Join → End) (e : End) where
  partners_next : (joins : List Join) (i : ℕ) (d : Join) → i < length joins
      → partners own other (drop i joins) e ≡ cond (same_end (own (get_or joins i d)) e) (other (get_or joins i d) ∷ partners own other (drop (suc i) joins) e) (partners own other (drop (suc i) joins) e)
  partners_next [] i d within = absurd (omega arith)
  partners_next (k ∷ joins) zero d within = by (same_end (own k) e)
    where
      by : (b : Bool) → map other (cond b (k ∷ filter (λ j. same_end (own j) e) joins) (filter (λ j. same_end (own j) e) joins)) ≡ cond b (other k ∷ partners own other joins e) (partners own other joins e)
      by true = refl
      by false = refl
  partners_next (k ∷ joins) (suc i) d within = partners_next joins i d (omega arith)

  module _ (old new : Key → Option Partners) (a x : End) (noted : (q : Key) → new q ≡ cond (same_key (key_of a) q) (Some (with_one (old (key_of a)) x)) (old q)) (rest : List End) where
    noted_here : (b : Bool) → same_end a e ≡ b → added (old (key_of e)) (cond b (x ∷ rest) rest) ≡ added (cond b (Some (with_one (old (key_of a)) x)) (old (key_of e))) rest
    noted_here true h = λ t. added (Some (with_one (old (key_of (sym (same_end_is a e h) t))) x)) rest
    noted_here false h = refl

    noted_now : added (old (key_of e)) (cond (same_end a e) (x ∷ rest) rest) ≡ added (new (key_of e)) rest
    noted_now = noted_here (same_end a e) refl ∙ (λ t. added (sym (noted (key_of e)) t) rest)

  -- one more join is noted
  pub noted_more : (joins : List Join) (i : ℕ) (d : Join) (old new : Key → Option Partners) (a x : End) (whole : Option Partners) → i < length joins → a ≡ own (get_or joins i d) → x ≡ other (get_or joins i d)
      → ((q : Key) → new q ≡ cond (same_key (key_of a) q) (Some (with_one (old (key_of a)) x)) (old q))
      → whole ≡ added (old (key_of e)) (partners own other (drop i joins) e) → whole ≡ added (new (key_of e)) (partners own other (drop (i + 1) joins) e)
  noted_more joins i d old new a x whole within isa isx noted so_far = so_far ∙ ap (added (old (key_of e))) (partners_next joins i d within)
      ∙ (λ t. added (old (key_of e)) (cond (same_end (sym isa t) e) (sym isx t ∷ partners own other (drop (suc i) joins) e) (partners own other (drop (suc i) joins) e)))
      ∙ noted_now old new a x noted (partners own other (drop (suc i) joins) e) ∙ (λ t. added (new (key_of e)) (partners own other (drop (sym (add-one i) t) joins) e))

  pub none_left : (joins : List Join) (i : ℕ) (kept : Option Partners) → length joins ≤ i → added kept (partners own other (drop i joins) e) ≡ kept
  none_left [] zero kept past = refl
  none_left [] (suc i) kept past = refl
  none_left (k ∷ joins) zero kept past = absurd (omega arith)
  none_left (k ∷ joins) (suc i) kept past = none_left joins i kept (omega arith)

-- whether several are kept
pub several_is : (xs : List End) (kept : Option Partners) → kept ≡ summary xs → has_several kept ≡ are_several xs
several_is [] kept is = ap has_several is
several_is (x ∷ xs) kept is = ap has_several is

-- a join more, of which the required end is not among those before
module _ (e : End) where
  providers_pushed : (joins : List Join) (j : Join) → providers (joins ++ j ∷ []) e ≡ providers joins e ++ cond (same_end j.required e) (j.provided ∷ []) []
  providers_pushed [] j = by (same_end j.required e)
    where
      by : (b : Bool) → map (λ j. j.provided) (cond b (j ∷ []) []) ≡ cond b (j.provided ∷ []) []
      by true = refl
      by false = refl
  providers_pushed (k ∷ joins) j = by (same_end k.required e) (providers_pushed joins j)
    where
      more : List End
      more = cond (same_end j.required e) (j.provided ∷ []) []

      by : (b : Bool) → providers (joins ++ j ∷ []) e ≡ providers joins e ++ more
          → map (λ j. j.provided) (cond b (k ∷ filter (λ j. same_end j.required e) (joins ++ j ∷ [])) (filter (λ j. same_end j.required e) (joins ++ j ∷ [])))
          ≡ map (λ j. j.provided) (cond b (k ∷ filter (λ j. same_end j.required e) joins) (filter (λ j. same_end j.required e) joins)) ++ more
      by true rest = ap (λ xs. k.provided ∷ xs) rest
      by false rest = rest

single_next : (ps : List End) (b had : Bool) (x : End) → (b ≡ true → had ≡ false) → are_several ps ≡ false → had ≡ not (is_none ps)
    → (are_several (ps ++ cond b (x ∷ []) []) ≡ false) × ((b || had) ≡ not (is_none (ps ++ cond b (x ∷ []) [])))
single_next [] true had x fresh one is = (refl, refl)
single_next [] false had x fresh one is = (refl, is)
single_next (p ∷ ps) true had x fresh one is = absurd (true≢false (sym is ∙ fresh refl))
single_next (p ∷ ps) false had x fresh one is = (ap are_several (append-nil (p ∷ ps)) ∙ one, is)

-- an end that is new was not among those before
pub unseen : (had is_new : Bool) → is_new ≡ not had → is_new ≡ true → had ≡ false
unseen true is_new is new = sym new ∙ is
unseen false is_new is new = refl

pub single_more : (joins : List Join) (i : ℕ) (d : Join) (old new : Key → Bool) (a : End) → i < length joins → a ≡ (get_or joins i d).required → old (key_of a) ≡ false → ((q : Key) → new q ≡ (same_key (key_of a) q || old q))
    → ((e : End) → (are_several (providers (take i joins) e) ≡ false) × (old (key_of e) ≡ not (is_none (providers (take i joins) e))))
    → (e : End) → (are_several (providers (take (i + 1) joins) e) ≡ false) × (new (key_of e) ≡ not (is_none (providers (take (i + 1) joins) e)))
single_more joins i d old new a within is unseen noted so_far e =
    let h = so_far e in
    let fresh : same_end (get_or joins i d).required e ≡ true → old (key_of e) ≡ false = λ same. ap (λ k. old (key_of k)) (sym (is ∙ same_end_is (get_or joins i d).required e same)) ∙ unseen in
    let next = single_next (providers (take i joins) e) (same_end (get_or joins i d).required e) (old (key_of e)) (get_or joins i d).provided fresh h.0 h.1 in
    let grown = ap (λ xs. providers xs e) (take_more joins i d within) ∙ providers_pushed e (take i joins) (get_or joins i d) in
    (ap are_several grown ∙ next.0, noted (key_of e) ∙ ap (λ r. same_end r e || old (key_of e)) is ∙ next.1 ∙ ap (λ ps. not (is_none ps)) (sym grown))

-- what is kept tells all
not_both : (a b : Bool) → b ≡ false → false ≡ (a && b)
not_both true b none = sym none
not_both false b none = refl

turned : (a b : Bool) → a ≡ not b → not a ≡ b
turned a true h = ap not h
turned a false h = ap not h

none_is : (xs : List End) (kept : Option Partners) → kept ≡ summary xs → is_absent kept ≡ is_none xs
none_is [] kept is = ap is_absent is
none_is (x ∷ xs) kept is = ap is_absent is

pub tells_all : (joins : List Join) (k : Kept) → IsKeptBy joins k → TellsAll joins k
tells_all joins (kept.Single ends) h = record {
  several = λ e. sym ((h e).0);
  none = λ e. turned (contains same_key ends (key_of e)) (is_none (providers joins e)) ((h e).1);
  crowded = λ p r. not_both (are_several (requirers joins p)) (are_several (providers joins r)) ((h r).0);
}
tells_all joins (kept.Several required provided) h = record {
  several = λ e. several_is (providers joins e) (get same_key required (key_of e)) (h.0 e);
  none = λ e. none_is (providers joins e) (get same_key required (key_of e)) (h.0 e);
  crowded = λ p r. (λ j. several_is (requirers joins p) (get same_key provided (key_of p)) (h.1 p) j && several_is (providers joins r) (get same_key required (key_of r)) (h.0 r) j);
}
