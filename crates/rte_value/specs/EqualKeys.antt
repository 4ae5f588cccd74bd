-- What the comparison of numbers and of keys tells.
use Rattle.std.specs.Prelude.{◌≡◌, ℕ, ◌==◌, Option, Some, None, is_some}
use Rattle.std.specs.Bool.{Decides}
use Rattle.std.specs.Cmp.{unsigned_Decides}
use Rattle.std.specs.Option.{unwrap_or}
use Rattle.std.proofs.Common.{true≢false, refl, sym, ap}
use Rattle.std.proofs.lemmas.Bool.Decides.{Decides-and}
use Rattle.rte_value.specs.declared.kinds.ActKey.{ActKey}
use Rattle.rte_value.specs.Values.{same_number, same_key}

-- two numbers that may be missing are the same exactly if the comparison says so
pub same_number-Decides : (a b : Option ℕ) → Decides (same_number a b) (a ≡ b)
same_number-Decides None None = (λ _. refl, λ _. refl)
same_number-Decides None (Some b) = (λ e. absurd (true≢false (sym e)), ap is_some)
same_number-Decides (Some a) None = (λ e. absurd (true≢false (sym e)), λ e. sym (ap is_some e))
same_number-Decides (Some a) (Some b) =
    let number = unsigned_Decides a b in
    (λ e. ap (λ n. Some n) (number.0 e), λ e. number.1 (ap (λ o. unwrap_or o 0) e))

-- two keys are the same exactly if the comparison says so
pub same_key-Decides : (a b : ActKey) → Decides (same_key a b) (a ≡ b)
same_key-Decides a b =
    let both = Decides-and (a.runnable == b.runnable) (same_number a.point b.point)
    (unsigned_Decides a.runnable b.runnable) (same_number-Decides a.point b.point) in (
      λ e. λ i. record { runnable = (both.0 e).0 i; point = (both.0 e).1 i },
      λ e. both.1 (ap (λ (k : ActKey). k.runnable) e, ap (λ (k : ActKey). k.point) e),
    )
