-- Two texts, compared by their first eight bytes and by what stands behind them.
use Rattle.std.specs.Int.{from_le_bytes, to_le_bytes}
use Rattle.std.proofs.Common.{◌≡◌, ◌≢◌, ℕ, ◌<◌, List, Bool, true, false, Decides, w64, length, take, drop, get_or, ◌++◌, nat_eq, bytes_eq, refl, sym, ap, ◌∙◌, take-append-drop, eq-eqb, eqb-true}
use Rattle.std.proofs.lemmas.Bool.Decides.{same_from_decides}
use Rattle.std.proofs.lemmas.Nat.{le_bytes_8}
use Rattle.std.proofs.lemmas.Slice.Eq.{bytes_eq-Decides}

-- numbers that are read from eight bytes each are the same exactly if the bytes are
module _ (xs ys : List ℕ) (xs_long : length xs ≡ 8) (ys_long : length ys ≡ 8) (xs_small : (i : ℕ) → get_or xs i 0 < 256) (ys_small : (i : ℕ) → get_or ys i 0 < 256)
    (m n : ℕ) (m_is : m ≡ from_le_bytes w64 xs) (n_is : n ≡ from_le_bytes w64 ys)
  where
    bytes_same : m ≡ n → xs ≡ ys
    bytes_same same =
        sym (le_bytes_8 xs m xs_long xs_small m_is) ∙ ap (to_le_bytes w64) same ∙ le_bytes_8 ys n ys_long ys_small n_is

    pub words_decide : Decides (nat_eq m n) (xs ≡ ys)
    words_decide = ((λ t. bytes_same (eqb-true m n t)), (λ e. eq-eqb m n (m_is ∙ ap (from_le_bytes w64) e ∙ sym n_is)))

module _ (xs ys : List ℕ) where
  joined : take 8 xs ≡ take 8 ys → drop 8 xs ≡ drop 8 ys → xs ≡ ys
  joined front rest =
      sym (take-append-drop 8 xs) ∙ ap (λ t. t ++ drop 8 xs) front ∙ ap (λ t. take 8 ys ++ t) rest ∙ take-append-drop 8 ys

  -- if the first eight bytes are the same, the rest decides
  pub rest_decides : take 8 xs ≡ take 8 ys → bytes_eq (drop 8 xs) (drop 8 ys) ≡ bytes_eq xs ys
  rest_decides front =
      same_from_decides (bytes_eq (drop 8 xs) (drop 8 ys)) (bytes_eq xs ys)
      ((λ t. joined front ((bytes_eq-Decides (drop 8 xs) (drop 8 ys)).0 t)), (λ e. (bytes_eq-Decides (drop 8 xs) (drop 8 ys)).1 (ap (drop 8) e)))
      (bytes_eq-Decides xs ys)

  never_true : (b : Bool) → (b ≢ true) → b ≡ false
  never_true true f = absurd (f refl)
  never_true false f = refl

  -- texts whose first eight bytes differ are not the same
  pub other_front : take 8 xs ≢ take 8 ys → bytes_eq xs ys ≡ false
  other_front front = never_true (bytes_eq xs ys) (λ t. front (ap (take 8) ((bytes_eq-Decides xs ys).0 t)))
