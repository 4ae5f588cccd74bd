-- Where names stand: one more before those that have been placed, and at most behind all.
use Rattle.std.proofs.Common.{◌≡◌, ℕ, suc, ◌+◌, ◌<◌, ◌≤◌, Bool, true, false, cond, List, [], ◌∷◌, bytes_eq, map, drop, length, get_or, Option, Some, unwrap_or, Bor, sym, ap, ◌∙◌, arith}
use Rattle.std.proofs.lemmas.List.{at_drop_more}
use Rattle.std.proofs.lemmas.Map.Text.{hash_map_updates_str}
use Rattle.std.specs.HashMap.{HashMap, UpdatesBy, get_by}
use Rattle.declared_names.specs.Names.{Names, position_in, text_of}

chosen : (same : Bool) (rest : Option ℕ) (count j left : ℕ) → unwrap_or rest count ≡ (j + 1) + left → unwrap_or (cond same (Some j) rest) count ≡ j + cond same 0 (1 + left)
chosen true rest count j left h = omega arith
chosen false rest count j left h = omega arith

pub placed : {S : Type 0} (names : List (Bor (List ℕ))) (j : ℕ) (d : Bor (List ℕ)) (m n : HashMap (Bor (List ℕ)) ℕ S) (count : ℕ) → j < length names
    → UpdatesBy (λ x y. bytes_eq x.now y.now) (λ k. bytes_eq (get_or names j d).now k.now) m n (Some j)
    → ((q : List ℕ) → unwrap_or (get_by (λ k. bytes_eq q k.now) m) count ≡ (j + 1) + position_in (map text_of (drop (j + 1) names)) q)
    → (q : List ℕ) → unwrap_or (get_by (λ k. bytes_eq q k.now) n) count ≡ j + position_in (map text_of (drop j names)) q
placed names j d m n count h put before q =
    let found = hash_map_updates_str (get_or names j d).now m n (Some j) put q in
    let left = at_drop_more (λ ns. position_in (map text_of ns) q) names j d h in
    ap (λ r. unwrap_or r count) found
    ∙ chosen (bytes_eq (get_or names j d).now q) (get_by (λ k. bytes_eq q k.now) m) count j (position_in (map text_of (drop (j + 1) names)) q) (before q)
    ∙ ap (λ p. j + p) (sym left)

pub position_most : (ns : Names) (name : List ℕ) → position_in ns name ≤ length ns
position_most [] name = omega arith
position_most (n ∷ ns) name = by (bytes_eq n name) (position_most ns name)
  where
    by : (b : Bool) → position_in ns name ≤ length ns → cond b 0 (1 + position_in ns name) ≤ suc (length ns)
    by true h = omega arith
    by false h = omega (arith, h)

-- one more name is looked at
pub place_turn : (names : List (Bor (List ℕ))) (i : ℕ) (d : Bor (List ℕ)) (name : List ℕ) → i < length names
    → position_in (map text_of (drop i names)) name ≡ cond (bytes_eq (text_of (get_or names i d)) name) 0 (1 + position_in (map text_of (drop (i + 1) names)) name)
place_turn names i d name h = at_drop_more (λ ns. position_in (map text_of ns) name) names i d h
