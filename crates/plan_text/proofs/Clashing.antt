-- Where names clash, and where they do not.
use Rattle.std.proofs.Common.{◌≡◌, ◌≢◌, ◌⊎◌, inl, inr, suc, List, [], ◌∷◌, ◌++◌, Bool, true, false, cond, bytes_eq, Some, None, is_some, unwrap_or, refl, sym, ap, ◌∙◌, subst, true≢false}
use Rattle.std.proofs.Common.{arith, append_assoc}
use Rattle.std.specs.Cmp.Lexicographic.{bytes_decides}
use Rattle.std.proofs.lemmas.List.{append-nil}
use Rattle.std.proofs.lemmas.Bool.{or_cases, or_parts}
use Rattle.std.specs.List.{Any}
use Rattle.plan_text.specs.Clashes.{HaveNamesOfTheirOwn, IsFirstClash}
use Rattle.plan_text.specs.Listing.{each_once, first_clash, has_name}
use Rattle.plan_text.specs.Noting.{is_among}
use Rattle.plan_text.specs.Targets.{Letters, Target, name_of, same_target}
use Rattle.plan_text.proofs.Names.{none_own, own_names_more, same_refl}
use Rattle.plan_text.proofs.Unseen.{none_seen, unseen, unseen_known, unseen_new}

none_is : {name : Letters} → Some name ≡ None → ⊥
none_is h = true≢false (ap is_some h)

-- none of these comes before
abbrev AreNew : List Target → List Target → Type 0
AreNew before [] = Unit {0}
AreNew before (t ∷ ts) = (is_among before t ≡ false) × AreNew (before ++ t ∷ []) ts

unseen_are_new : (ts before : List Target) → AreNew before (unseen before ts)
unseen_are_new [] before = tt
unseen_are_new (t ∷ ts) before = by (is_among before t) refl (unseen_are_new ts before) (unseen_are_new ts (before ++ t ∷ []))
  where
    by : (known : Bool) → is_among before t ≡ known → AreNew before (unseen before ts) → AreNew (before ++ t ∷ []) (unseen (before ++ t ∷ []) ts) → AreNew before (unseen before (t ∷ ts))
    by true is passed taken = subst (AreNew before) (sym (unseen_known before t ts is)) passed
    by false is passed taken = subst (AreNew before) (sym (unseen_new before t ts is)) (is, taken)

-- one of these has the name and is another
another : (before : List Target) (t : Target) → has_name before (name_of t) ≡ true → is_among before t ≡ false → Any (λ u. (u ≢ t) × (name_of u ≡ name_of t)) before
another [] t has new = absurd (true≢false (sym has))
another (u ∷ before) t has new =
    let parts = or_parts (same_target t u) (is_among before t) new in
    by (or_cases (bytes_eq (name_of t) (name_of u)) (has_name before (name_of t)) has) parts.0 (λ there. another before t there parts.1)
  where
    by : ((bytes_eq (name_of t) (name_of u) ≡ true) ⊎ (has_name before (name_of t) ≡ true)) → same_target t u ≡ false → (has_name before (name_of t) ≡ true → Any (λ v. (v ≢ t) × (name_of v ≡ name_of t)) before)
        → Any (λ v. (v ≢ t) × (name_of v ≡ name_of t)) (u ∷ before)
    by (inl here) apart more = (0, u, omega arith, refl, ((λ is. true≢false (sym (same_refl t) ∙ ap (same_target t) (sym is) ∙ apart)), sym ((bytes_decides (name_of t) (name_of u)).0 here)))
    by (inr there) apart more = let found = more there in (suc found.0, found.1, omega (arith, found.2), found.3, found.4)

appended : (before : List Target) (t : Target) (ts : List Target) → (before ++ t ∷ []) ++ ts ≡ before ++ t ∷ ts
appended before t ts = append_assoc before (t ∷ []) ts

own : (ts before : List Target) → HaveNamesOfTheirOwn before → first_clash before ts ≡ None → HaveNamesOfTheirOwn (before ++ ts)
own [] before names none = subst HaveNamesOfTheirOwn (sym (append-nil before)) names
own (t ∷ ts) before names none = by (has_name before (name_of t)) refl (own ts (before ++ t ∷ []))
  where
    by : (has : Bool) → has_name before (name_of t) ≡ has → (HaveNamesOfTheirOwn (before ++ t ∷ []) → first_clash (before ++ t ∷ []) ts ≡ None → HaveNamesOfTheirOwn ((before ++ t ∷ []) ++ ts)) → HaveNamesOfTheirOwn (before ++ t ∷ ts)
    by true is more = absurd (none_is (ap (λ b. cond b (Some (name_of t)) (first_clash (before ++ t ∷ []) ts)) (sym is) ∙ none))
    by false is more = subst HaveNamesOfTheirOwn (appended before t ts)
        (more (own_names_more before t names is) (ap (λ b. cond b (Some (name_of t)) (first_clash (before ++ t ∷ []) ts)) (sym is) ∙ none))

clash : (ts before : List Target) (name : Letters) → HaveNamesOfTheirOwn before → AreNew before ts → first_clash before ts ≡ Some name → IsFirstClash (before ++ ts) name
clash [] before name names new some = absurd (none_is (sym some))
clash (t ∷ ts) before name names new some = by (has_name before (name_of t)) refl (λ own. clash ts (before ++ t ∷ []) name own new.1)
  where
    by : (has : Bool) → has_name before (name_of t) ≡ has → (HaveNamesOfTheirOwn (before ++ t ∷ []) → first_clash (before ++ t ∷ []) ts ≡ Some name → IsFirstClash ((before ++ t ∷ []) ++ ts) name) → IsFirstClash (before ++ t ∷ ts) name
    by true is more =
        let this : name_of t ≡ name = ap (λ o. unwrap_or o name) (ap (λ b. cond b (Some (name_of t)) (first_clash (before ++ t ∷ []) ts)) (sym is) ∙ some) in
        let other = another before t is new.0 in
        record {
          before = before;
          later = t;
          after = ts;
          whole = refl;
          named = this;
          another = (other.0, other.1, other.2, other.3, (other.4.0, other.4.1 ∙ this));
          first = names;
        }
    by false is more = subst (λ us. IsFirstClash us name) (appended before t ts)
        (more (own_names_more before t names is) (ap (λ b. cond b (Some (name_of t)) (first_clash (before ++ t ∷ []) ts)) (sym is) ∙ some))

pub own_names : (ts : List Target) → first_clash [] (each_once ts) ≡ None → HaveNamesOfTheirOwn (each_once ts)
own_names ts none = own (each_once ts) [] none_own none

pub first_of_two : (ts : List Target) (name : Letters) → first_clash [] (each_once ts) ≡ Some name → IsFirstClash (each_once ts) name
first_of_two ts name some = clash (each_once ts) [] name none_own (subst (AreNew []) (none_seen ts) (unseen_are_new ts [])) some
