-- Calls under their names.
use Rattle.std.proofs.Common.{◌≡◌, ℕ, List, [], ◌∷◌, ◌++◌, Bool, true, false, cond, drop, map, bytes_eq, Option, Some, None, option_map, is_some, unwrap_or, slice_get, Vec, refl, sym, ap}
use Rattle.std.proofs.Common.{◌∙◌, subst, true≢false, codes}
use Rattle.std.specs.Global.{Global}
use Rattle.indexmap.specs.IndexMap.{IndexMap}
use Rattle.std.specs.List.{AllByRecursion, find, flat_map}
use Rattle.std.specs.Map.{lookup}
use Rattle.std.proofs.lemmas.Bool.{or_from, or_left, or_parts, or_right}
use Rattle.std.proofs.lemmas.Map.Keys.{IsDistinct-head, IsDistinct-tail}
use Rattle.std.specs.Cmp.Lexicographic.{bytes_decides}
use Rattle.plan_text.specs.declared.calls.Call.{Call}
use Rattle.plan_text.specs.Calls.{seen}
use Rattle.plan_text.specs.Clashes.{HaveNamesOfTheirOwn}
use Rattle.plan_text.specs.Listing.{has_name}
use Rattle.plan_text.specs.Headers.{header_text, line, title}
use Rattle.plan_text.specs.Noting.{AreKept, is_among, kept}
use Rattle.plan_text.specs.Targets.{Letters, Target, name_of, same_target}
use Rattle.plan_text.proofs.Names.{name_apart, new_is_not_among, none_own, own_names_more}

abbrev pub Entry : Type 0
Entry = Vec ℕ Global × Call

abbrev pub targets_in : List Entry → List Target
targets_in es = map seen (map (λ e. e.1) es)

-- the first of the name among these
abbrev pub named_in : List Target → Letters → Option Target
named_in ts name = find (λ t. bytes_eq name (name_of t)) ts

-- a look-up by the name finds it
pub found : (es : List Entry) (name : Letters) → map (λ e. e.0.items) es ≡ map name_of (targets_in es) → option_map seen (lookup (λ k. bytes_eq name k.items) es) ≡ named_in (targets_in es) name
found [] name named = refl
found (e ∷ es) name named = by (bytes_eq name e.0.items) refl (found es name (ap (drop 1) named))
  where
    here : e.0.items ≡ name_of (seen e.1)
    here = ap (λ names. unwrap_or (slice_get names 0) []) named

    by : (same : Bool) → bytes_eq name e.0.items ≡ same → option_map seen (lookup (λ k. bytes_eq name k.items) es) ≡ named_in (targets_in es) name
        → option_map seen (lookup (λ k. bytes_eq name k.items) (e ∷ es)) ≡ named_in (targets_in (e ∷ es)) name
    by true is rest = ap (λ b. option_map seen (cond b (Some e.1) (lookup (λ k. bytes_eq name k.items) es))) is
        ∙ ap (λ b. cond b (Some (seen e.1)) (named_in (targets_in es) name)) (sym is ∙ ap (bytes_eq name) here)
    by false is rest = ap (λ b. option_map seen (cond b (Some e.1) (lookup (λ k. bytes_eq name k.items) es))) is
        ∙ rest
        ∙ ap (λ b. cond b (Some (seen e.1)) (named_in (targets_in es) name)) (sym is ∙ ap (bytes_eq name) here)

-- ---- what the first of the name says of a call

pub not_found : (ts : List Target) (name : Letters) → None ≡ named_in ts name → has_name ts name ≡ false
not_found [] name none = refl
not_found (u ∷ ts) name none = by (bytes_eq name (name_of u)) refl (not_found ts name)
  where
    by : (same : Bool) → bytes_eq name (name_of u) ≡ same → (None ≡ named_in ts name → has_name ts name ≡ false) → has_name (u ∷ ts) name ≡ false
    by true is rest = absurd (true≢false (sym (ap is_some (none ∙ ap (λ b. cond b (Some u) (named_in ts name)) is))))
    by false is rest = or_from (bytes_eq name (name_of u)) (has_name ts name) is (rest (none ∙ ap (λ b. cond b (Some u) (named_in ts name)) is))

pub found_has : (ts : List Target) (name : Letters) (x : Target) → Some x ≡ named_in ts name → has_name ts name ≡ true
found_has [] name x some = absurd (true≢false (ap is_some some))
found_has (u ∷ ts) name x some = by (bytes_eq name (name_of u)) refl (found_has ts name x)
  where
    by : (same : Bool) → bytes_eq name (name_of u) ≡ same → (Some x ≡ named_in ts name → has_name ts name ≡ true) → has_name (u ∷ ts) name ≡ true
    by true is rest = or_left (bytes_eq name (name_of u)) (has_name ts name) is
    by false is rest = or_right (bytes_eq name (name_of u)) (has_name ts name) (rest (some ∙ ap (λ b. cond b (Some u) (named_in ts name)) is))

pub found_same : (ts : List Target) (t x : Target) → Some x ≡ named_in ts (name_of t) → same_target t x ≡ true → is_among ts t ≡ true
found_same [] t x some same = absurd (true≢false (ap is_some some))
found_same (u ∷ ts) t x some same = by (bytes_eq (name_of t) (name_of u)) refl (λ there. found_same ts t x there same)
  where
    by : (b : Bool) → bytes_eq (name_of t) (name_of u) ≡ b → (Some x ≡ named_in ts (name_of t) → is_among ts t ≡ true) → is_among (u ∷ ts) t ≡ true
    by true is rest = or_left (same_target t u) (is_among ts t) (ap (λ o. same_target t (unwrap_or o x)) (sym (some ∙ ap (λ b. cond b (Some u) (named_in ts (name_of t))) is)) ∙ same)
    by false is rest = or_right (same_target t u) (is_among ts t) (rest (some ∙ ap (λ b. cond b (Some u) (named_in ts (name_of t))) is))

no_more : (ts : List Target) (name other : Letters) → name ≡ other → AllByRecursion (λ y. bytes_eq other y ≡ false) (map name_of ts) → has_name ts name ≡ false
no_more [] name other is all = refl
no_more (u ∷ ts) name other is all = or_from (bytes_eq name (name_of u)) (has_name ts name) (ap (λ n. bytes_eq n (name_of u)) is ∙ all.0) (no_more ts name other is all.1)

-- where each has a name of its own, another of this name shows that the call is none of them
pub found_other : (ts : List Target) (t x : Target) → HaveNamesOfTheirOwn ts → Some x ≡ named_in ts (name_of t) → same_target t x ≡ false → is_among ts t ≡ false
found_other [] t x own some other = absurd (true≢false (ap is_some some))
found_other (u ∷ ts) t x own some other =
    by (bytes_eq (name_of t) (name_of u)) refl (λ there. found_other ts t x (IsDistinct-tail bytes_eq (name_of u) (map name_of ts) own) there other)
  where
    by : (b : Bool) → bytes_eq (name_of t) (name_of u) ≡ b → (Some x ≡ named_in ts (name_of t) → is_among ts t ≡ false) → is_among (u ∷ ts) t ≡ false
    by true is rest = or_from (same_target t u) (is_among ts t)
        (ap (λ o. same_target t (unwrap_or o x)) (sym (some ∙ ap (λ b. cond b (Some u) (named_in ts (name_of t))) is)) ∙ other)
        (new_is_not_among ts t (no_more ts (name_of t) (name_of u) ((bytes_decides (name_of t) (name_of u)).0 is) (IsDistinct-head bytes_eq (name_of u) (map name_of ts) own)))
    by false is rest = or_from (same_target t u) (is_among ts t) (name_apart t u is) (rest (some ∙ ap (λ b. cond b (Some u) (named_in ts (name_of t))) is))

-- ---- one more call, behind the others

pub targets_more : (es : List Entry) (e : Entry) → targets_in (es ++ e ∷ []) ≡ targets_in es ++ seen e.1 ∷ []
targets_more [] e = refl
targets_more (d ∷ es) e = ap (λ ts. seen d.1 ∷ ts) (targets_more es e)

pub named_more : (es : List Entry) (e : Entry) → e.0.items ≡ name_of (seen e.1) → map (λ d. d.0.items) es ≡ map name_of (targets_in es) → map (λ d. d.0.items) (es ++ e ∷ []) ≡ map name_of (targets_in (es ++ e ∷ []))
named_more [] e is named = ap (λ name. name ∷ []) is
named_more (d ∷ es) e is named = (λ j. unwrap_or (slice_get (named j) 0) [] ∷ named_more es e is (ap (drop 1) named) j)

none_named : (ts : List Target) (name : Letters) → has_name ts name ≡ false → named_in ts name ≡ None
none_named [] name none = refl
none_named (t ∷ ts) name none =
    let parts = or_parts (bytes_eq name (name_of t)) (has_name ts name) none in
    ap (λ b. cond b (Some t) (named_in ts name)) parts.0 ∙ none_named ts name parts.1

map_none : (o : Option Call) → option_map seen o ≡ None → o ≡ None
map_none None none = refl
map_none (Some x) none = absurd (true≢false (ap is_some none))

-- a name that none has is not found
pub absent : (es : List Entry) (name : Letters) → map (λ e. e.0.items) es ≡ map name_of (targets_in es) → has_name (targets_in es) name ≡ false → lookup (λ k. bytes_eq name k.items) es ≡ None
absent es name named none = map_none (lookup (λ k. bytes_eq name k.items) es) (found es name named ∙ none_named (targets_in es) name none)

-- what is kept of one more
pub kept_more : {S : Type 0} (m n : IndexMap (Vec ℕ Global) Call S) (e : Entry) → AreKept m → e.0.items ≡ name_of (seen e.1) → has_name (kept m) (name_of (seen e.1)) ≡ false → n.entries ≡ m.entries ++ e ∷ []
    → AreKept n × (kept n ≡ kept m ++ seen e.1 ∷ [])
kept_more m n e are is none more = (
  record {
    named = subst (λ es. map (λ d. d.0.items) es ≡ map name_of (targets_in es)) (sym more) (named_more m.entries e is are.named);
    own_names = subst (λ es. HaveNamesOfTheirOwn (targets_in es)) (sym more) (subst HaveNamesOfTheirOwn (sym (targets_more m.entries e)) (own_names_more (targets_in m.entries) (seen e.1) are.own_names none));
  },
  ap targets_in more ∙ targets_more m.entries e,
)

-- ---- the text

lines : (es : List Entry) → map (λ e. e.0.items) es ≡ map name_of (targets_in es) → flat_map (λ name. name.items ++ codes "\n") (map (λ e. e.0) es) ≡ flat_map line (targets_in es)
lines [] named = refl
lines (e ∷ es) named = (λ j. (unwrap_or (slice_get (named j) 0) [] ++ codes "\n") ++ lines es (ap (drop 1) named) j)

pub whole_text : (text first name : Letters) (es : List Entry) → map (λ e. e.0.items) es ≡ map name_of (targets_in es) → first ≡ title name
    → text ≡ first ++ flat_map (λ name. name.items ++ codes "\n") (map (λ e. e.0) es) → text ≡ header_text name (targets_in es)
whole_text text first name es named titled is = is ∙ (λ j. titled j ++ lines es named j)

-- ---- none yet

pub none_kept : {S : Type 0} (m : IndexMap (Vec ℕ Global) Call S) → m.entries ≡ [] → AreKept m
none_kept m none = record {
  named = subst (λ es. map (λ d. d.0.items) es ≡ map name_of (targets_in es)) (sym none) refl;
  own_names = subst (λ es. HaveNamesOfTheirOwn (targets_in es)) (sym none) none_own;
}
