-- Bodies that share code.
use Rattle.std.proofs.Common.{◌≡◌, ℕ, zero, suc, ◌+◌, ◌≤◌, cond, subst, List, [], ◌∷◌, ◌++◌, Bool, true, false, map, take, length, Option, Some, refl, sym, ap, ◌∙◌, arith}
use Rattle.std.specs.Prelude.{slice_get, nat_eq}
use Rattle.bus_semantics.specs.Common.{map-append, and_parts, eqb-true, HaveOneCode, coded_of}
use Rattle.bus_semantics.specs.declared.plan.BusPlan.{BusPlan}
use Rattle.bus_semantics.specs.declared.plan.RunnablePlan.{RunnablePlan}
use Rattle.task_machine.specs.declared.instr.Body.{Body}
use Rattle.task_generator.specs.Coded.{coded_shape, code_of_body, HaveCodes, same_code}

-- a body at its place
nth : {Y : Type 0} (f : Body → Y) (g : RunnablePlan → Y) (bodies : List Body) (rs : List RunnablePlan) (n : ℕ) (b : Body) (s : RunnablePlan)
    → map f bodies ≡ map g (take (length bodies) rs) → slice_get bodies n ≡ Some b → slice_get rs n ≡ Some s → f b ≡ g s
nth f g [] rs n b s same body there = absurd (cc)
nth f g (c ∷ bodies) [] n b s same body there = absurd (cc)
nth f g (c ∷ bodies) (r ∷ rs) zero b s same body there =
    let left : c ≡ b = cc in
    let right : r ≡ s = cc in
    let first : f c ≡ g r = cc in
    sym (ap f left) ∙ first ∙ ap g right
nth f g (c ∷ bodies) (r ∷ rs) (suc n) b s same body there =
    let rest : map f bodies ≡ map g (take (length bodies) rs) = cc in
    nth f g bodies rs n b s rest body there

-- the code of a body whose runnable has the same code as another one
pub shared_with : (p : BusPlan) (bodies : List Body) (n place : ℕ) (b : Body) (s r : RunnablePlan) → HaveOneCode p.runnables → HaveCodes p bodies → slice_get bodies n ≡ Some b → slice_get p.runnables n ≡ Some s
    → slice_get p.runnables place ≡ Some r → s.code ≡ r.code → code_of_body b ≡ coded_shape (coded_of r)
shared_with p bodies n place b s r one have body there here same =
    nth code_of_body (λ (x : RunnablePlan). coded_shape (coded_of x)) bodies p.runnables n b s have body there ∙ ap coded_shape (one n place s r there here same)

-- one more at the end
take_one : {X : Type 0} (xs : List X) (n : ℕ) (x : X) → slice_get xs n ≡ Some x → take (n + 1) xs ≡ take n xs ++ x ∷ []
take_one [] n x there = absurd (cc)
take_one (y ∷ xs) zero x there = let same : y ≡ x = cc in ap (λ z. z ∷ []) same
take_one (y ∷ xs) (suc n) x there = let e : suc n + 1 ≡ suc (n + 1) = omega arith in ap (λ k. take k (y ∷ xs)) e ∙ ap (λ ys. y ∷ ys) (take_one xs n x there)

pub listed_more : {X Y Z : Type 0} (f : X → Z) (g : Y → Z) (old new : List X) (b : X) (rs : List Y) (n : ℕ) (r : Y) → new ≡ old ++ b ∷ [] → slice_get rs n ≡ Some r → f b ≡ g r
    → map f old ≡ map g (take n rs) → map f new ≡ map g (take (n + 1) rs)
listed_more f g old new b rs n r put there same so_far =
    ap (map f) put
    ∙ map-append f old (b ∷ [])
    ∙ (λ i. so_far i ++ same i ∷ [])
    ∙ sym (map-append g (take n rs) (r ∷ []))
    ∙ ap (map g) (sym (take_one rs n r there))

pub all_listed : {X Y Z : Type 0} (f : Y → Z) (g : X → Y) (rs : List X) (n : ℕ) → length rs ≤ n → map (λ r. f (g r)) (take n rs) ≡ map f (map g rs)
all_listed f g [] zero all = refl
all_listed f g [] (suc n) all = refl
all_listed f g (r ∷ rs) zero all = absurd (omega (arith, all))
all_listed f g (r ∷ rs) (suc n) all = ap (λ ys. f (g r) ∷ ys) (all_listed f g rs n (omega (arith, all)))

-- one runnable more has a body
same_numbers : (a b : ℕ × ℕ) → same_code a b ≡ true → a ≡ b
same_numbers a b same =
    let parts = and_parts (nat_eq a.0 b.0) (nat_eq a.1 b.1) same in
    let first : a.0 ≡ b.0 = eqb-true a.0 b.0 parts.0 in
    let second : a.1 ≡ b.1 = eqb-true a.1 b.1 parts.1 in
    λ i. (first i, second i)

abbrev pub IsOf : BusPlan → ℕ × ℕ → ℕ → Type 0
IsOf p k n = (s : RunnablePlan) × ((slice_get p.runnables n ≡ Some s) × (s.code ≡ k))

pub made_more : (p : BusPlan) (place : ℕ) (old new : ℕ × ℕ → Option ℕ) (x : RunnablePlan) → slice_get p.runnables place ≡ Some x
    → ((q : ℕ × ℕ) → new q ≡ cond (same_code x.code q) (Some place) (old q)) → ((k : ℕ × ℕ) (n : ℕ) → old k ≡ Some n → IsOf p k n) → (k : ℕ × ℕ) (n : ℕ) → new k ≡ Some n → IsOf p k n
made_more p place old new x there updates before k n at = by_test (same_code x.code k) refl (sym (updates k) ∙ at) (before k n)
  where
    by_test : (b : Bool) → same_code x.code k ≡ b → cond b (Some place) (old k) ≡ Some n → (old k ≡ Some n → IsOf p k n) → IsOf p k n
    by_test true same is rest = let here : place ≡ n = cc in (x, (subst (λ i. slice_get p.runnables i ≡ Some x) here there, same_numbers x.code k same))
    by_test false other is rest = rest is
