-- One more number is looked at.
use Rattle.std.proofs.Common.{◌≡◌, ℕ, ◌+◌, ◌<◌, ◌≤◌, Bool, false, ◌↔◌, IsTrue, sym, ◌∙◌, true≢false, arith}
use borrow.Author.Count.{below_more}

pub refuted : (P : Type 0) (answer : Bool) → IsTrue answer ↔ P → answer ≡ false → ¬ P
refuted P answer says is p = true≢false (sym (says.1 p) ∙ is)

pub none_more : (P : ℕ → Type 0) (i : ℕ) (answer : Bool) → ((n : ℕ) → n < i → ¬ P n) → IsTrue answer ↔ P i → answer ≡ false → (n : ℕ) → n < i + 1 → ¬ P n
none_more P i answer none says is = below_more (λ n. ¬ P n) i none (refuted (P i) answer says is)

pub none_all : (P : ℕ → Type 0) (i limit : ℕ) → ((n : ℕ) → n < i → ¬ P n) → limit ≤ i → (n : ℕ) → n < limit → ¬ P n
none_all P i limit none past n h = none n (omega arith)
