-- What becomes of labels, one list after the other.
use Rattle.std.proofs.Common.{◌≡◌, ℕ, ◌+◌, ◌^◌, ◌<◌, ◌≤◌, List, [], ◌∷◌, map, length, get_or, drop, Bool, true, false, ◌==◌, cond, Option, Some, None, inl, refl, sym, ap, ◌∙◌, arith}
use Rattle.bus_semantics.specs.Common.{length-map, list_all, least, leaders_on, together}
use Rattle.std.proofs.lemmas.List.{at_drop_more, at_drop_all}
use Rattle.bus_semantics.specs.declared.plan.CoherentList.{CoherentList}
use Rattle.plan_definitions.specs.Common.{Elem, groups_listed}
use Rattle.plan_definitions.proofs.Labels.{comes, label, low_label, many_leaders, one_label}
use Rattle.plan_elements.specs.Bundled.{leaders_over, lowest}

-- where all have one label, and where they differ
module _ (gs labels theirs : List ℕ) (are : theirs ≡ map (λ g. get_or labels g g) gs) where
  relabeled : map (label theirs) labels ≡ together gs labels
  relabeled = λ j. map (label (are j)) labels

  pub connected_none : None ≡ lowest theirs → labels ≡ together gs labels
  connected_none none = sym (by theirs refl none) ∙ relabeled
    where
      all_one : (t : ℕ) (ts : List ℕ) (b : Bool) → list_all (λ l. l == t) (t ∷ ts) ≡ b → None ≡ cond b None (Some (least t (t ∷ ts))) → b ≡ true
      all_one t ts true is h = refl
      all_one t ts false is h = absurd cc

      unmoved : (ls : List ℕ) → map (label []) ls ≡ ls
      unmoved [] = refl
      unmoved (l ∷ ls) = ap (λ ms. l ∷ ms) (unmoved ls)

      by : (ts : List ℕ) → ts ≡ theirs → None ≡ lowest ts → map (label theirs) labels ≡ labels
      by [] is h = ap (λ ts. map (label ts) labels) (sym is) ∙ unmoved labels
      by (t ∷ ts) is h = ap (λ ts. map (label ts) labels) (sym is) ∙ one_label t (t ∷ ts) labels (let e = all_one t ts (list_all (λ l. l == t) (t ∷ ts)) refl h in e)

  pub connected_some : (low : ℕ) → Some low ≡ lowest theirs → map (λ l. cond (comes theirs l) low l) labels ≡ together gs labels
  connected_some low some = by theirs refl some ∙ relabeled
    where
      is_least : (t : ℕ) (ts : List ℕ) (b : Bool) → Some low ≡ cond b None (Some (least t (t ∷ ts))) → low ≡ least t (t ∷ ts)
      is_least t ts true h = absurd cc
      is_least t ts false h = cc

      by : (ts : List ℕ) → ts ≡ theirs → Some low ≡ lowest ts → map (λ l. cond (comes theirs l) low l) labels ≡ map (label theirs) labels
      by [] is h = absurd cc
      by (t ∷ ts) is h =
          let same = is_least t ts (list_all (λ l. l == t) (t ∷ ts)) h in
          (λ j. map (λ l. cond (comes (sym is j) l) (same j) l) labels) ∙ (low_label t (t ∷ ts) labels (inl refl) ∙ ap (λ us. map (label us) labels) is)

-- the turn of the loop over lists, and its end
module _ (groups : CoherentList → List ℕ) where
  pub leaders_more : (whole labels new : List ℕ) (lists : List CoherentList) (i : ℕ) (c : CoherentList) → i < length lists → c ≡ get_or lists i c → new ≡ together (groups c) labels
      → whole ≡ leaders_on labels (map groups (drop i lists)) → whole ≡ leaders_on new (map groups (drop (i + 1) lists))
  leaders_more whole labels new lists i c within is next so_far = so_far ∙ at_drop_more (λ cs. leaders_on labels (map groups cs)) lists i c within
      ∙ (λ j. leaders_on (together (groups (sym is j)) labels) (map groups (drop (i + 1) lists))) ∙ ap (λ ls. leaders_on ls (map groups (drop (i + 1) lists))) (sym next)

  pub leaders_all : (whole labels : List ℕ) (lists : List CoherentList) (i : ℕ) → length lists ≤ i → whole ≡ leaders_on labels (map groups (drop i lists)) → labels ≡ whole
  leaders_all whole labels lists i past so_far = sym (so_far ∙ at_drop_all (λ cs. leaders_on labels (map groups cs)) lists i past)

-- 32 bits number the labels, as they number the groups, and the numbers that they get
pub few_leaders : (es : List Elem) (lists : List CoherentList) (n : ℕ) (labels : List ℕ) → n < 2 ^ 32 → labels ≡ leaders_over es lists n → length labels < 2 ^ 32
few_leaders es lists n labels few are =
    let as_many : length labels ≡ length (leaders_over es lists n) = ap length are in omega (arith, few, as_many, many_leaders n (map (groups_listed es) lists))

pub few_numbers : (f : ℕ → ℕ) (labels numbers : List ℕ) → length labels < 2 ^ 32 → numbers ≡ map f labels → length numbers < 2 ^ 32
few_numbers f labels numbers few are =
    let as_many : length numbers ≡ length labels = ap length are ∙ length-map labels f in omega (arith, few, as_many)
