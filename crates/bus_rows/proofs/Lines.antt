-- What has no newline begins with no item's line.
use Rattle.std.proofs.Common.{◌≡◌, ℕ, Bool, true, not, ◌==◌, ◌∷◌, ◌++◌, codes, refl, sym, ap, ◌∙◌, subst, append_assoc}
use Rattle.bus_semantics.specs.Common.{list_all, and_parts, false≢true, list_all-append, Plan, item_fits, Item, Letters, header, item_text}
use Rattle.bus_laws.specs.Common.{Version, One, Two}
use Rattle.trace_reading.specs.Reads.{ItemsHaveOneLine}

abbrev unbroken : Letters → Bool
unbroken t = list_all (λ c. not (c == 10)) t

pub no_item : (v : Version) (p : Plan) → ItemsHaveOneLine p → (left : Letters) → unbroken left ≡ true → (i : Item) (more : Letters) → item_fits p i ≡ true → left ≡ item_text v p i ++ more → ⊥
no_item v p lines left none i more fit e =
    let one = lines v i fit in
    let whole : left ≡ one.line ++ (10 ∷ more) = e ∙ ap (λ t. t ++ more) one.whole ∙ append_assoc one.line (codes "\n") more in
    let all : unbroken (one.line ++ (10 ∷ more)) ≡ true = subst (λ t. unbroken t ≡ true) whole none in
    let two = and_parts (unbroken one.line) (unbroken (10 ∷ more)) (sym (list_all-append (λ c. not (c == 10)) one.line (10 ∷ more)) ∙ all) in
    false≢true two.1

eleventh : Letters → ℕ
eleventh (a ∷ b ∷ c ∷ d ∷ e ∷ f ∷ g ∷ h ∷ i ∷ j ∷ k ∷ t) = k
eleventh t = 0

pub version_nine : (v : Version) (more left : Letters) → codes "rte-trace 9\n" ++ more ≡ header v ++ left → ⊥
unfolding eleventh
version_nine One more left e = let same : 57 ≡ 49 = ap eleventh e in false≢true (subst (λ n. (57 == n) ≡ true) same refl)
version_nine Two more left e = let same : 57 ≡ 50 = ap eleventh e in false≢true (subst (λ n. (57 == n) ≡ true) same refl)
