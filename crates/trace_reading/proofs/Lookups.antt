-- What stands at a place of a list that was looked up, each told as the plan tells it.
use Rattle.std.proofs.Common.{◌≡◌, ℕ, ◌<◌, ◌≤◌, ◌==◌, Bool, true, false, ◌&&◌, not, if◌then◌else◌, List, length, get_or, Option, Some, None, refl, sym, ap, ◌∙◌}
use Rattle.std.specs.Bool.{beq}
use Rattle.bus_semantics.specs.Common.{eq-eqb, eqb-true, slice_get, slice_get_read, slice_get_past, option_map_or, same_number, Plan, instance_of, look, Letters, result_point}
use Rattle.bus_laws.specs.Common.{PointPlan}
use Rattle.trace_reading.specs.Tables.{Label}

pub looked_at : {X B : Type 0} (f : X → B) (o : B) (ys xs : List X) (i : ℕ) (x : X) → ys ≡ xs → i < length ys → x ≡ get_or ys i x → f x ≡ look xs i f o
looked_at f o ys xs i x same within is =
    ap (λ r. option_map_or f r o) (sym (slice_get_read ys (length ys) i x refl within is) ∙ ap (λ zs. slice_get zs i) same)

-- nothing stands there
pub looked_past : {X B : Type 0} (f : X → B) (o : B) (ys xs : List X) (i : ℕ) → ys ≡ xs → length ys ≤ i → o ≡ look xs i f o
looked_past f o ys xs i same past =
    ap (λ r. option_map_or f r o) (sym (slice_get_past ys i past) ∙ ap (λ zs. slice_get zs i) same)

-- a label of a home and a name
abbrev pub labelled : Option ℕ → Letters → Option Label
labelled home name = Some (home, name)

pub keyed : {a b : Option ℕ} {s t : Letters} → a ≡ b → s ≡ t → labelled a s ≡ labelled b t
keyed {a} {b} {s} {t} home name = ap (λ h. labelled h s) home ∙ ap (labelled b) name

-- a point at which a runnable calls without waiting
pub result_at : (p : Plan) (home : Option ℕ) (ys : List PointPlan) (q : ℕ) (t : PointPlan) → ys ≡ p.points → q < length ys → t ≡ get_or ys q t → (r : ℕ) → t.runnable ≡ Some r → t.asynchronous ≡ true → same_number (instance_of p r) home ≡ result_point p home q
result_at p home ys q t same within is r run asy =
    let found : slice_get p.points q ≡ Some t = ap (λ zs. slice_get zs q) (sym same) ∙ slice_get_read ys (length ys) q t refl within is in
    cc

-- the same of one that is called and waited for
pub result_off : (p : Plan) (home : Option ℕ) (ys : List PointPlan) (q : ℕ) (t : PointPlan) → ys ≡ p.points → q < length ys → t ≡ get_or ys q t → (r : ℕ) → t.runnable ≡ Some r → t.asynchronous ≡ false → t.asynchronous ≡ result_point p home q
result_off p home ys q t same within is r run off =
    let found : slice_get p.points q ≡ Some t = ap (λ zs. slice_get zs q) (sym same) ∙ slice_get_read ys (length ys) q t refl within is in
    cc

-- the same of a point of the environment
pub result_alone : (p : Plan) (home : Option ℕ) (ys : List PointPlan) (q : ℕ) (t : PointPlan) → ys ≡ p.points → q < length ys → t ≡ get_or ys q t → t.runnable ≡ None → false ≡ result_point p home q
result_alone p home ys q t same within is none = by t.asynchronous refl (ap (λ zs. slice_get zs q) (sym same) ∙ slice_get_read ys (length ys) q t refl within is)
  where
    by : (b : Bool) → t.asynchronous ≡ b → slice_get p.points q ≡ Some t → false ≡ result_point p home q
    by true asy found = cc
    by false asy found = cc

-- a coherent list of the runnable fits as it reads or writes
pub as_it_reads : (a r : ℕ) (x y : Bool) → a ≡ r → beq x y ≡ (a == r) && (if y then x else not x)
as_it_reads a r x y same = by x y ∙ ap (λ b. b && (if y then x else not x)) (sym (eq-eqb a r same))
  where
    by : (x y : Bool) → beq x y ≡ (if y then x else not x)
    by true true = refl
    by true false = refl
    by false true = refl
    by false false = refl

-- that of another runnable does not
pub as_another_has : (a r : ℕ) (x : Bool) → (a ≡ r → ⊥) → (a == r) ≡ (a == r) && x
as_another_has a r x other = by (a == r) refl
  where
    by : (b : Bool) → (a == r) ≡ b → (a == r) ≡ (a == r) && x
    by true is = absurd (other (eqb-true a r is))
    by false is = is ∙ ap (λ b. b && x) (sym is)
