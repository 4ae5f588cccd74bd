-- How the log of a round grows.
use Rattle.std.proofs.Common.{◌≡◌, ◌≢◌, ◌<◌, ◌≤◌, ◌+◌, ◌*◌, ◌^◌, ℕ, zero, suc, Bool, true, false, if◌then◌else◌, List, [], ◌∷◌, ◌++◌, map, length, length-append, refl, sym, ◌∙◌, ap, subst}
use Rattle.std.proofs.Common.{arith, eq-eqb, ne_eqb, suc-mul, zero-mul, mul-le-mul_right, Option, Some, None, option_and_then, slice_get}
use mathlib.Core.Logic.{dite}
use native.Mathlib.Decide.{ℕ_discrete}
use Rattle.bus_semantics.specs.Common.{same_number, Plan, Noted, touches, touched_by, Logged}
use Rattle.bus_semantics.specs.declared.entries.Stamped.{Stamped}
use Rattle.port_objects.specs.declared.object.Object.{Object}
use Rattle.port_objects.specs.Common.{Kept, lead, leads, kept_of}
use Rattle.cross_core_table.specs.Common.{Opening, noted_as, on_object, made_by, AreOf, plan_in, kept_after}

-- an entry with its core
abbrev pub logged : ℕ → Stamped → Logged
logged c s = record { core = c; stamped = s }

-- ---- which object an entry touches

pub touches_it : (p : Plan) (o : ℕ) (n : Noted) → touched_by p n ≡ Some o → touches p o n ≡ true
touches_it p o n e = ap (λ t. same_number t (Some o)) e ∙ eq-eqb o o refl

pub touches_no_other : (p : Plan) (o x : ℕ) (n : Noted) → touched_by p n ≡ Some o → x ≢ o → touches p x n ≡ false
touches_no_other p o x n e ne = ap (λ t. same_number t (Some x)) e ∙ ne_eqb o x (λ q. ne (sym q))

pub touches_none : (p : Plan) (x : ℕ) (n : Noted) → touched_by p n ≡ None → touches p x n ≡ false
touches_none p x n e = ap (λ t. same_number t (Some x)) e

-- ---- the entries of an object, and those of a core

pub on_it : (p : Plan) (o c : ℕ) (s : Stamped) (log : List Logged) → touches p o (noted_as s) ≡ true → on_object p o (logged c s ∷ log) ≡ s ∷ on_object p o log
on_it p o c s log e = ap (λ (b : Bool). if b then s ∷ on_object p o log else on_object p o log) e

pub off_it : (p : Plan) (o c : ℕ) (s : Stamped) (log : List Logged) → touches p o (noted_as s) ≡ false → on_object p o (logged c s ∷ log) ≡ on_object p o log
off_it p o c s log e = ap (λ (b : Bool). if b then s ∷ on_object p o log else on_object p o log) e

pub on_newer : (p : Plan) (o c : ℕ) (s : Stamped) (log : List Logged) → (new : List Stamped) × (on_object p o (logged c s ∷ log) ≡ new ++ on_object p o log)
on_newer p o c s log = by_test (touches p o (noted_as s))
  where
    by_test : (b : Bool) → (new : List Stamped) × ((if b then s ∷ on_object p o log else on_object p o log) ≡ new ++ on_object p o log)
    by_test true = (s ∷ [], refl)
    by_test false = ([], refl)

pub made_here : (c : ℕ) (s : Stamped) (log : List Logged) → made_by c (logged c s ∷ log) ≡ made_by c log ++ s ∷ []
made_here c s log = ap (λ (b : Bool). if b then made_by c log ++ s ∷ [] else made_by c log) (eq-eqb c c refl)

pub made_there : (c j : ℕ) (s : Stamped) (log : List Logged) → j ≢ c → made_by j (logged c s ∷ log) ≡ made_by j log
made_there c j s log ne = ap (λ (b : Bool). if b then made_by j log ++ s ∷ [] else made_by j log) (ne_eqb c j (λ q. ne (sym q)))

-- ---- how long the log is

-- the lengths of the parts of the cores below a number
abbrev sum_parts : ℕ → List Logged → ℕ
sum_parts zero log = 0
sum_parts (suc n) log = sum_parts n log + length (made_by n log)

sum_none : (n : ℕ) → sum_parts n [] ≡ 0
sum_none zero = refl
sum_none (suc n) = omega (arith, sum_none n)

sum_under : (n : ℕ) (l : Logged) (log : List Logged) → n ≤ l.core → sum_parts n (l ∷ log) ≡ sum_parts n log
sum_under zero l log h = refl
sum_under (suc n) l log h =
    let e : made_by n (l ∷ log) ≡ made_by n log = made_there l.core n l.stamped log (λ q. omega arith) in
    omega (arith, sum_under n l log (omega arith), ap (λ (xs : List Stamped). length xs) e)

sum_over : (n : ℕ) (l : Logged) (log : List Logged) → l.core < n → sum_parts n (l ∷ log) ≡ suc (sum_parts n log)
sum_over zero l log h = absurd (omega arith)
sum_over (suc n) l log h = dite (ℕ_discrete n l.core)
    (λ is.
    let e : made_by n (l ∷ log) ≡ made_by n log ++ l.stamped ∷ [] = subst (λ (c : ℕ). made_by c (l ∷ log) ≡ made_by c log ++ l.stamped ∷ []) (sym is) (made_here l.core l.stamped log) in
    omega (arith, sum_under n l log (omega arith), ap (λ (xs : List Stamped). length xs) e, length-append (made_by n log) (l.stamped ∷ [])))
    (λ ne.
    let e : made_by n (l ∷ log) ≡ made_by n log = made_there l.core n l.stamped log ne in
    omega (arith, sum_over n l log (omega arith), ap (λ (xs : List Stamped). length xs) e))

sum_all : (n : ℕ) (log : List Logged) → AreOf n log → sum_parts n log ≡ length log
sum_all n [] all = sum_none n
sum_all n (l ∷ log) all = omega (arith, sum_over n l log all.0, sum_all n log all.1)

sum_room : (n room : ℕ) (log : List Logged) → ((c : ℕ) → length (made_by c log) ≤ room) → sum_parts n log ≤ n * room
sum_room zero room log h = omega (arith, zero-mul room)
sum_room (suc n) room log h = omega (arith, sum_room n room log h, h n, suc-mul n room)

pub log_within : (n room : ℕ) (log : List Logged) → AreOf n log → ((c : ℕ) → length (made_by c log) ≤ room) → length log ≤ n * room
log_within n room log all parts = omega (arith, sum_all n log all, sum_room n room log parts)

-- word 0 never wraps
pub log_is_short : (n room : ℕ) (log : List Logged) → AreOf n log → ((c : ℕ) → length (made_by c log) ≤ room) → n ≤ 8 → room < 2 ^ 32 → length log < 2 ^ 36
log_is_short n room log all parts few small =
    let whole = sum_all n log all in
    let each = sum_room n room log parts in
    let most : n * room ≤ 8 * room = mul-le-mul_right room few in
    omega arith

pub of_more : (n m : ℕ) (log : List Logged) → n ≤ m → AreOf n log → AreOf m log
of_more n m [] h all = tt
of_more n m (l ∷ log) h all = let below : l.core < n = all.0 in (omega arith, of_more n m log h all.1)

-- a core that has no seat has made nothing
pub none_above : (n c : ℕ) (log : List Logged) → n ≤ c → AreOf n log → made_by c log ≡ []
none_above n c [] h all = refl
none_above n c (l ∷ log) h all = let below : l.core < n = all.0 in made_there l.core c l.stamped log (λ e. omega arith) ∙ none_above n c log h all.1

-- ---- what an object keeps

then_again : {X B C : Type 0} (f : X → Option B) (g : B → Option C) (x : Option X) (b : B) → option_and_then f x ≡ Some b → option_and_then (λ y. option_and_then g (f y)) x ≡ g b
then_again f g None b e = absurd (cc e)
then_again f g (Some y) b e = ap (option_and_then g) e

-- one more entry leads on by the lead
pub kept_next : (k : Opening) (o : ℕ) (l : List Stamped) (s : Stamped) (before : Kept) → kept_after k o l ≡ Some before → kept_after k o (s ∷ l) ≡ lead (plan_in k) o before (noted_as s)
unfolding kept_after
kept_next k o l s before e =
    then_again (λ (x : Object). leads (plan_in k) o (kept_of x) (map noted_as l)) (λ (b : Kept). lead (plan_in k) o b (noted_as s)) (slice_get k.objects.value.items o) before e

pub kept_first : (k : Opening) (o : ℕ) (x : Object) → slice_get k.objects.value.items o ≡ Some x → kept_after k o [] ≡ Some (kept_of x)
unfolding kept_after
kept_first k o x e = ap (option_and_then (λ (y : Object). leads (plan_in k) o (kept_of y) [])) e
