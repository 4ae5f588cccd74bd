-- Lists that are filled up to 16 words with zeros.
use Rattle.std.proofs.Common.{◌≡◌, ℕ, suc, ◌-◌, ◌<◌, ℤ, pos, List, [], ◌∷◌, ◌++◌, length, take, drop, set, replicate, sym, ◌∙◌, ap, subst, append_assoc, length-append, arith}
use Rattle.std.proofs.Math.Seq.{take-append_seam, set-append_seam}
use Rattle.std.proofs.lemmas.List.{drop-replicate}
use Rattle.rte_value.specs.Padding.{padded}

-- its words stand at the front
pub take-padded : (ws : List ℤ) (n : ℕ) → n ≡ length ws → take n (padded ws) ≡ ws
take-padded ws n e = rw e (take-append_seam ws (replicate (16 - length ws) (pos 0)))

-- words written over the front of 16 zeros
pub append-drop_zeros : (ws : List ℤ) → ws ++ drop (length ws) (replicate 16 (pos 0)) ≡ padded ws
append-drop_zeros ws = ap (λ zs. ws ++ zs) (drop-replicate (length ws) 16 (pos 0))

-- a word written over the first of the zeros behind
set-zeros : (ws : List ℤ) (left : ℕ) (x : ℤ) → set (ws ++ replicate (suc left) (pos 0)) (length ws) x ≡ (ws ++ x ∷ []) ++ replicate left (pos 0)
set-zeros ws left x =
    set-append_seam ws (pos 0) (replicate left (pos 0)) x
    ∙ sym (append_assoc ws (x ∷ []) (replicate left (pos 0)))

-- a word written behind the last one
pub set-padded : (ws : List ℤ) (n : ℕ) (x : ℤ) → n ≡ length ws → length ws < 16 → set (padded ws) n x ≡ padded (ws ++ x ∷ [])
set-padded ws n x e room =
    let left : ℕ = 16 - length (ws ++ x ∷ []) in
    let one_less : 16 - length ws ≡ suc left = rw (length-append ws (x ∷ [])) (omega arith) in
    rw e (subst (λ k. set (ws ++ replicate k (pos 0)) (length ws) x ≡ (ws ++ x ∷ []) ++ replicate left (pos 0)) (sym one_less) (set-zeros ws left x))

-- a filled list is its own front, filled
pub padded-itself : (xs ws : List ℤ) (n : ℕ) → n ≡ length ws → xs ≡ padded ws → xs ≡ padded (take n xs)
padded-itself xs ws n e filled =
    let front : take n xs ≡ ws = ap (take n) filled ∙ take-padded ws n e in
    filled ∙ ap padded (sym front)
