-- In a sound plan a point is one of a runnable that there is, or of the environment.
use Rattle.std.proofs.Common.{◌≡◌, ℕ, zero, suc, ◌<◌, Bool, true, false, not, ◌&&◌, ◌||◌, ◌==◌, cond, List, [], ◌∷◌, ◌++◌, length, nat_lt, is_none, Option, Some, ◌⊎◌, inl, inr, refl, sym}
use Rattle.std.proofs.Common.{ap, ◌∙◌, subst, arith}
use Rattle.bus_semantics.specs.Common.{list_any, slice_get, option_map_or, and_parts, cases_lt, eqb-true, eq-eqb, ltb-true, or_left, or_right, slice_get_within, AccessKind, AccessSig}
use Rattle.bus_semantics.specs.Common.{same_number, Plan, Runnable, every_from, positions, gathered, access_sound, called_points, each_access, point_takes, same_limits, same_numbers}
use Rattle.bus_semantics.specs.Common.{runnable_sound}
use Rattle.runnable_lang.specs.declared.program.AccessKind.TheVariants as kind
use Rattle.bus_semantics.specs.declared.plan.PointPlan.{PointPlan}
use Rattle.bus_laws.proofs.Thinning.{every_at}
use Rattle.trace_reading.proofs.Letters.{either}
use Rattle.trace_reading.proofs.Naming.{IsNamed}
use Rattle.trace_reading.proofs.Things.{same_home}

abbrev has : ℕ → List ℕ → Bool
has q xs = list_any (λ k. k == q) xs

has_itself : (q : ℕ) (xs : List ℕ) → has q (q ∷ xs) ≡ true
has_itself q xs = or_left (q == q) (has q xs) (eq-eqb q q refl)

has_left : (q : ℕ) (xs ys : List ℕ) → has q xs ≡ true → has q (xs ++ ys) ≡ true
has_left q [] ys h = absurd (cc)
has_left q (x ∷ xs) ys h = either (x == q) (has q xs) (has q (x ∷ (xs ++ ys)) ≡ true) (or_left (x == q) (has q (xs ++ ys))) (λ k. or_right (x == q) (has q (xs ++ ys)) (has_left q xs ys k)) h

has_right : (q : ℕ) (xs ys : List ℕ) → has q ys ≡ true → has q (xs ++ ys) ≡ true
has_right q [] ys h = h
has_right q (x ∷ xs) ys h = or_right (x == q) (has q (xs ++ ys)) (has_right q xs ys h)

has_one : (q : ℕ) (xs ys : List ℕ) (P : Type 0) → (has q xs ≡ true → P) → (has q ys ≡ true → P) → has q (xs ++ ys) ≡ true → P
has_one q [] ys P f g h = g h
has_one q (x ∷ xs) ys P f g h = either (x == q) (has q (xs ++ ys)) P (λ e. f (or_left (x == q) (has q xs) e)) (λ k. has_one q xs ys P (λ l. f (or_right (x == q) (has q xs) l)) g k) h

has_position : (n q : ℕ) → q < n → has q (positions n) ≡ true
has_position zero q less = absurd (omega arith)
has_position (suc n) q less = elim (cases_lt q n) [
  | inl l ↦ has_left q (positions n) (n ∷ []) (has_position n q l)
  | inr ge ↦ has_right q (positions n) (n ∷ []) (let same : n ≡ q = omega arith in subst (λ m. has q (m ∷ []) ≡ true) (sym same) (has_itself q []))
]

has_same : (q : ℕ) (xs ys : List ℕ) → same_numbers xs ys ≡ true → has q ys ≡ true → has q xs ≡ true
has_same q [] [] e h = h
has_same q [] (y ∷ ys) e h = absurd (cc)
has_same q (x ∷ xs) [] e h = absurd (cc)
has_same q (x ∷ xs) (y ∷ ys) e h =
    let two = and_parts (x == y) (same_numbers xs ys) e in
    either (y == q) (has q ys) (has q (x ∷ xs) ≡ true)
    (λ k. or_left (x == q) (has q xs) (eq-eqb x q (eqb-true x y two.0 ∙ eqb-true y q k)))
    (λ k. or_right (x == q) (has q xs) (has_same q xs ys two.1 k)) h

-- ---- who calls

record IsCalledBy (rs : List Runnable) (q : ℕ) : Type 0 where
  place : ℕ
  runnable : Runnable
  there : slice_get rs place ≡ Some runnable
  calls : has q (called_points runnable) ≡ true

called_by : (rs : List Runnable) (q : ℕ) → has q (gathered called_points rs) ≡ true → IsCalledBy rs q
called_by [] q h = absurd (cc)
called_by (r ∷ rs) q h = has_one q (called_points r) (gathered called_points rs) (IsCalledBy (r ∷ rs) q)
    (λ k. record { place = 0; runnable = r; there = refl; calls = k })
    (λ k. let c = called_by rs q k in record { place = suc c.place; runnable = c.runnable; there = c.there; calls = c.calls }) h

-- an access that calls at the point
record IsCall (f : AccessSig → ℕ → Bool) (q : ℕ) : Type 0 where
  access : AccessSig
  passes : f access q ≡ true
  is_call : (access.kind ≡ kind.Call) ⊎ (access.kind ≡ kind.ACall)

abbrev calls_out : AccessKind → Bool
calls_out kind.Call = true
calls_out kind.ACall = true
calls_out _ = false

abbrev pairs : List AccessSig → List ℕ → List ℕ
pairs (a ∷ more) (t ∷ ts) = cond (calls_out a.kind) (t ∷ pairs more ts) (pairs more ts)
pairs _ _ = []

call_in : (f : AccessSig → ℕ → Bool) (q : ℕ) (xs : List AccessSig) (ts : List ℕ) → each_access f xs ts ≡ true → has q (pairs xs ts) ≡ true → IsCall f q
call_in f q [] [] e h = absurd (cc)
call_in f q [] (t ∷ ts) e h = absurd (cc)
call_in f q (a ∷ xs) [] e h = absurd (cc)
call_in f q (a ∷ xs) (t ∷ ts) e h =
    let two = and_parts (f a t) (each_access f xs ts) e in
    step a.kind refl h (call_in f q xs ts two.1) (λ k same. record { access = a; passes = subst (λ n. f a n ≡ true) same two.0; is_call = k })
  where
    at_call : (P : Type 0) → has q (t ∷ pairs xs ts) ≡ true → (has q (pairs xs ts) ≡ true → P) → (t ≡ q → P) → P
    at_call P h later here = either (t == q) (has q (pairs xs ts)) P (λ k. here (eqb-true t q k)) later h

    step : (k : AccessKind) → a.kind ≡ k → has q (cond (calls_out k) (t ∷ pairs xs ts) (pairs xs ts)) ≡ true → (has q (pairs xs ts) ≡ true → IsCall f q)
        → ((a.kind ≡ kind.Call) ⊎ (a.kind ≡ kind.ACall) → t ≡ q → IsCall f q) → IsCall f q
    step kind.Call is h later here = at_call (IsCall f q) h later (here (inl is))
    step kind.ACall is h later here = at_call (IsCall f q) h later (here (inr is))
    step _ is h later here = later h

module _ (p : Plan) (r : IsNamed p) where
  takes_at : (x : ℕ) (b : Bool) (a : AccessSig) (q : ℕ) → point_takes p x b a.ins a.outs q ≡ true → (t : PointPlan) → slice_get p.points q ≡ Some t → t.runnable ≡ Some x
  takes_at x b a q takes t there =
      let here : test t ≡ true = sym (ap (λ o. option_map_or test o false) there) ∙ takes in
      same_home t.runnable (Some x) (and_parts (same_number t.runnable (Some x)) (waits t) (and_parts (same_number t.runnable (Some x) && waits t) (limits t) here).0).0
    where
      waits : PointPlan → Bool
      waits t = cond b t.asynchronous (not t.asynchronous)

      limits : PointPlan → Bool
      limits t = same_limits a.ins t.ins && (b || same_limits a.outs t.outs)

      test : PointPlan → Bool
      test t = (same_number t.runnable (Some x) && waits t) && limits t

  called_at : (x : ℕ) (home : Option ℕ) (a : AccessSig) (q : ℕ) → access_sound p x home a q ≡ true → (a.kind ≡ kind.Call) ⊎ (a.kind ≡ kind.ACall)
      → (t : PointPlan) → slice_get p.points q ≡ Some t → t.runnable ≡ Some x
  called_at x home a q sound (inl is) t there = takes_at x false a q (sym (λ i. access_sound p x home (record a { kind = is i }) q) ∙ sound) t there
  called_at x home a q sound (inr is) t there = takes_at x true a q (sym (λ i. access_sound p x home (record a { kind = is i }) q) ∙ sound) t there

  pub caller_exists : (q : ℕ) (t : PointPlan) → slice_get p.points q ≡ Some t → (x : ℕ) → t.runnable ≡ Some x → x < length p.runnables
  caller_exists q t there x is =
      either (nat_lt q (length called)) (is_none t.runnable && t.asynchronous) (x < length p.runnables) inner outer
      (every_at (λ k (u : PointPlan). nat_lt k (length called) || (is_none u.runnable && u.asynchronous)) 0 p.points two.1 q q t (omega arith) there)
    where
      called : List ℕ
      called = gathered called_points p.runnables

      two : (same_numbers called (positions (length called)) ≡ true) × (every_from 0 (λ k (u : PointPlan). nat_lt k (length called) || (is_none u.runnable && u.asynchronous)) p.points ≡ true)
      two = and_parts (same_numbers called (positions (length called))) (every_from 0 (λ k (u : PointPlan). nat_lt k (length called) || (is_none u.runnable && u.asynchronous)) p.points) r.arranged

      outer : (is_none t.runnable && t.asynchronous) ≡ true → x < length p.runnables
      outer h = let none : is_none t.runnable ≡ true = (and_parts (is_none t.runnable) t.asynchronous h).0 in let some : is_none t.runnable ≡ false = ap is_none is in absurd (cc)

      inner : nat_lt q (length called) ≡ true → x < length p.runnables
      inner h =
          let c = called_by p.runnables q (has_same q called (positions (length called)) two.0 (has_position (length called) q (ltb-true q (length called) h))) in
          let sound = every_at (runnable_sound p) 0 p.runnables r.sound_runnables c.place c.place c.runnable (omega arith) c.there in
          let accesses = (and_parts (each_access (access_sound p c.place (Some c.runnable.instance)) c.runnable.accesses c.runnable.targets) _ sound).0 in
          let k = call_in (access_sound p c.place (Some c.runnable.instance)) q c.runnable.accesses c.runnable.targets accesses c.calls in
          let own : t.runnable ≡ Some c.place = called_at c.place (Some c.runnable.instance) k.access q k.passes k.is_call t there in
          let same : x ≡ c.place = cc in
          subst (λ n. n < length p.runnables) (sym same) (slice_get_within p.runnables c.place c.runnable c.there)
