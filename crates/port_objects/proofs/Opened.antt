-- The objects of a plan as they are made: one more each time, kind after kind, and the clock at last.
use Rattle.std.proofs.Common.{◌≡◌, ℕ, zero, suc, ◌+◌, ◌<◌, length-append, refl, sym, ◌∙◌, ap, subst, arith, List, [], ◌∷◌, ◌++◌, length, map, Some}
use Rattle.bus_semantics.specs.Common.{slice_get, append-nil, length-map, Plan, positions, first_server, first_area, first_machine, clock}
use Rattle.std.proofs.Math.Numerals.{suc-eq-add-one}
use Rattle.std.proofs.lemmas.List.{append_assoc, map_push}
use Rattle.object_kinds.proofs.Positions.{length_positions, mapped_more}
use Rattle.area_objects.specs.Kept as areas
use Rattle.area_objects.specs.Layout.{IsArea}
use Rattle.machine_objects.specs.Kept as machines
use Rattle.machine_objects.specs.Layout.{machine_of}
use Rattle.machine_objects.specs.Standing as machine_standing
use Rattle.clock_objects.specs.Kept as clocks
use Rattle.port_objects.specs.Common.{Object, Kept, of_area, of_clock, kept_of, IsOfPlan, before_servers, before_areas, before_machines, before_clock, opening, opening_of_bundle}
use Rattle.port_objects.specs.Common.{opening_of_server, opening_of_machine, AreFirst, AreMade, HasObjects, Stands}

-- ---- one object more

data Which (xs : List Object) (y z : Object) (i : ℕ) : Type 0 where
  inside : slice_get xs i ≡ Some z → Which xs y z i
  last : i ≡ length xs → y ≡ z → Which xs y z i

at_append : (xs : List Object) (y z : Object) (i : ℕ) → slice_get (xs ++ y ∷ []) i ≡ Some z → Which xs y z i
at_append [] y z zero e = last refl cc
at_append [] y z (suc i) e = absurd (cc e)
at_append (x ∷ xs) y z zero e = inside e
at_append (x ∷ xs) y z (suc i) e = deeper (at_append xs y z i e)
  where
    deeper : Which xs y z i → Which (x ∷ xs) y z (suc i)
    deeper (inside found) = inside found
    deeper (last at same) = last (ap (λ n. suc n) at) same

pub none_first : (p : Plan) (objects : List Object) → objects ≡ [] → AreFirst p [] objects
none_first p objects none = subst (AreFirst p []) (sym none) (record { keep = refl; planned = λ i o found. absurd (cc found); standing = λ i o found. absurd (cc found) })

each_more : (P : ℕ → Object → Type 0) (objects new : List Object) (o : Object) → new ≡ objects ++ o ∷ [] → ((i : ℕ) (x : Object) → slice_get objects i ≡ Some x → P i x) → P (length objects) o
    → (i : ℕ) (x : Object) → slice_get new i ≡ Some x → P i x
each_more P objects new o is before here i x found = by_place (at_append objects o x i (subst (λ os. slice_get os i ≡ Some x) is found))
  where
    by_place : Which objects o x i → P i x
    by_place (inside at) = before i x at
    by_place (last at same) = subst (P i) same (subst (λ n. P n o) (sym at) here)

-- an object more, at its number
one_more : (p : Plan) (kept : List Kept) (k : Kept) (objects new : List Object) (o : Object) (number : ℕ) → AreFirst p kept objects → length kept ≡ number → kept_of o ≡ k → IsOfPlan p number o → Stands p number k []
    → new ≡ objects ++ o ∷ [] → AreFirst p (kept ++ k ∷ []) new
one_more p kept k objects new o number first count keeps planned stands is = record {
  keep = ap (map kept_of) is ∙ map_push kept_of objects o ∙ (λ i. first.keep i ++ keeps i ∷ []);
  planned = each_more (IsOfPlan p) objects new o is first.planned (subst (λ n. IsOfPlan p n o) (sym at) planned);
  standing = each_more (λ n x. Stands p n (kept_of x) []) objects new o is first.standing
      (subst (λ n. Stands p n (kept_of o) []) (sym at) (subst (λ z. Stands p number z []) (sym keeps) stands));
}
  where
    at : length objects ≡ number
    at = sym (length-map objects kept_of) ∙ ap length first.keep ∙ count

-- ---- a row of objects of one kind, after others

row_count : (before : List Kept) (f : ℕ → Kept) (n : ℕ) → length (before ++ map f (positions n)) ≡ length before + n
row_count before f n = length-append before (map f (positions n)) ∙ ap (λ k. length before + k) (length-map (positions n) f ∙ length_positions n)

-- none of them at first
pub row_none : (p : Plan) (before : List Kept) (f : ℕ → Kept) (objects : List Object) → AreFirst p before objects → AreFirst p (before ++ map f (positions 0)) objects
row_none p before f objects first = subst (λ kept. AreFirst p kept objects) (sym (append-nil before)) first

-- one more
pub row_more : (p : Plan) (before : List Kept) (f : ℕ → Kept) (n next : ℕ) (objects new : List Object) (o : Object) (number : ℕ) → next ≡ suc n → AreFirst p (before ++ map f (positions n)) objects
    → length before + n ≡ number → kept_of o ≡ f n → IsOfPlan p number o → Stands p number (f n) [] → new ≡ objects ++ o ∷ [] → AreFirst p (before ++ map f (positions next)) new
row_more p before f n next objects new o number after first at keeps planned stands is =
    subst (λ kept. AreFirst p kept new) (append_assoc before (map f (positions n)) (f n ∷ []) ∙ ap (λ kept. before ++ kept) (mapped_more f n next after))
    (one_more p (before ++ map f (positions n)) (f n) objects new o number first (row_count before f n ∙ at) keeps planned stands is)

-- all of them
pub row_all : (p : Plan) (before : List Kept) (f : ℕ → Kept) (n many : ℕ) (objects : List Object) → n ≡ many → AreFirst p (before ++ map f (positions n)) objects → AreFirst p (before ++ map f (positions many)) objects
row_all p before f n many objects all first = subst (λ k. AreFirst p (before ++ map f (positions k)) objects) all first

-- ---- numbers

module _ (p : Plan) (sound : HasObjects p) where
  pub servers_from : length (before_servers p) ≡ first_server p
  servers_from = length-map (positions (length p.bundles)) (opening_of_bundle p) ∙ length_positions (length p.bundles)

  pub areas_from : length (before_areas p) ≡ first_area p
  areas_from = row_count (before_servers p) (opening_of_server p) (length p.servers) ∙ ap (λ n. n + length p.servers) servers_from

  pub machines_from : length (before_machines p) ≡ first_machine p
  machines_from = row_count (before_areas p) (λ x. of_area areas.opening) (length p.areas) ∙ ap (λ n. n + length p.areas) areas_from

  pub clock_from : length (before_clock p) ≡ clock p
  clock_from = row_count (before_machines p) (opening_of_machine p) (length p.machines) ∙ ap (λ n. n + length p.machines) machines_from

-- ---- bundles, areas and the clock

pub bundle_more : (p : Plan) (b next : ℕ) (objects new : List Object) (o : Object) → next ≡ suc b → AreFirst p (map (opening_of_bundle p) (positions b)) objects → kept_of o ≡ opening_of_bundle p b → IsOfPlan p b o
    → Stands p b (kept_of o) [] → new ≡ objects ++ o ∷ [] → AreFirst p (map (opening_of_bundle p) (positions next)) new
bundle_more p b next objects new o after first keeps planned stands is =
    let at : 0 + b ≡ b = omega arith in
    row_more p [] (opening_of_bundle p) b next objects new o b after first at keeps planned (subst (λ k. Stands p b k []) keeps stands) is

-- the number of an area that there is
pub this_area : (p : Plan) (n : ℕ) → n < length p.areas → IsArea p (first_area p + n)
this_area p n within = record { from = omega arith; below = omega arith }

-- a machine, by its number
pub first_stands : (p : Plan) (n : ℕ) → machine_standing.Keeps p (first_machine p + n) (machines.opening p (machine_of p (first_machine p + n))) [] → machine_standing.Keeps p (first_machine p + n) (machines.opening p n) []
first_stands p n stands = let same : machine_of p (first_machine p + n) ≡ n = omega arith in subst (λ k. machine_standing.Keeps p (first_machine p + n) (machines.opening p k) []) same stands

pub clock_more : (p : Plan) → HasObjects p → (objects new : List Object) (o : Object) → AreFirst p (before_clock p) objects → kept_of o ≡ of_clock (clocks.opening p)
    → IsOfPlan p (clock p) o → Stands p (clock p) (of_clock (clocks.opening p)) [] → new ≡ objects ++ o ∷ [] → AreMade p new
clock_more p sound objects new o first keeps planned stands is = record {
  kept = whole.keep;
  planned = record { count = sym (length-map new kept_of) ∙ ap length whole.keep ∙ opening_count; each = whole.planned };
  standing = whole.standing;
}
  where
    whole : AreFirst p (opening p) new
    whole = one_more p (before_clock p) (of_clock (clocks.opening p)) objects new o (clock p) first (clock_from p sound) keeps planned stands is

    opening_count : length (opening p) ≡ suc (clock p)
    opening_count = length-append (before_clock p) (of_clock (clocks.opening p) ∷ []) ∙ ap (λ k. k + 1) (clock_from p sound) ∙ sym (suc-eq-add-one (clock p))
