-- What an activation asked so far, each wish with its answer, the newest first; and what holds of such a trail where each answer is one to
-- its wish.
use Rattle.std.proofs.Common.{◌≡◌, ℕ, suc, ◌+◌, refl, ◌∙◌, ap, arith, List, [], ◌∷◌, ◌++◌, if◌then◌else◌, Bool, true, false}
use Rattle.bus_semantics.specs.declared.entries.Deed.{Deed}
use Rattle.bus_semantics.specs.declared.entries.Deed.TheVariants as deed
use Rattle.bus_semantics.specs.Common.{count, Wanted, to_enter, to_leave, to_return, wanted_by}
use Rattle.history_laws.specs.OpenAreas.{all_but_innermost, open_after, opened_on, open_areas}
use Rattle.history_laws.specs.Wishes.{is_return}

abbrev pub Trail : Type 0
Trail = List (Wanted × Deed)

abbrev pub open_on : Wanted → List ℕ → List ℕ
open_on (to_enter x) areas = x ∷ areas
open_on (to_leave x) areas = all_but_innermost areas
open_on w areas = areas

abbrev pub open_of : Trail → List ℕ
open_of [] = []
open_of (x ∷ t) = open_on x.0 (open_of t)

abbrev pub returned_on : Wanted → ℕ → ℕ
returned_on (to_return code ws) n = suc n
returned_on w n = n

abbrev pub returns_of : Trail → ℕ
returns_of [] = 0
returns_of (x ∷ t) = returned_on x.0 (returns_of t)

-- these areas are open, and nothing was returned
abbrev pub At : List ℕ → Trail → Type 0
At areas t = (open_of t ≡ areas) × (returns_of t ≡ 0)

-- answers, each with the wish that it is an answer to
abbrev pub trail_on : (event : ℕ) → Trail → List Deed → Trail
trail_on event t [] = t
trail_on event t (d ∷ ds) = trail_on event ((wanted_by event d, d) ∷ t) ds

abbrev pub trail_of : (event : ℕ) → List Deed → Trail
trail_of event ds = trail_on event [] ds

opens_as_answered : (event : ℕ) (d : Deed) (areas : List ℕ) → open_on (wanted_by event d) areas ≡ open_after d areas
opens_as_answered event (deed.Enter x) areas = refl
opens_as_answered event (deed.Leave x) areas = refl
opens_as_answered event d areas = refl

pub open_on_trail : (event : ℕ) (ds : List Deed) (t : Trail) → open_of (trail_on event t ds) ≡ opened_on (open_of t) ds
open_on_trail event [] t = refl
open_on_trail event (d ∷ ds) t = open_on_trail event ds ((wanted_by event d, d) ∷ t) ∙ ap (λ areas. opened_on areas ds) (opens_as_answered event d (open_of t))

pub open_of_trail : (event : ℕ) (ds : List Deed) → open_of (trail_of event ds) ≡ open_areas ds
open_of_trail event ds = open_on_trail event ds []

returns_as_answered : (event : ℕ) (d : Deed) (n : ℕ) → returned_on (wanted_by event d) n ≡ (if is_return d then suc n else n)
returns_as_answered event (deed.Return code value) n = refl
returns_as_answered event d n = refl

pub returns_on_trail : (event : ℕ) (ds : List Deed) (t : Trail) → returns_of (trail_on event t ds) ≡ count is_return ds + returns_of t
returns_on_trail event [] t = omega arith
returns_on_trail event (d ∷ ds) t = returns_on_trail event ds ((wanted_by event d, d) ∷ t) ∙ ap (λ n. count is_return ds + n) (returns_as_answered event d (returns_of t)) ∙ by_answer (is_return d)
  where
    by_answer : (b : Bool) → count is_return ds + (if b then suc (returns_of t) else returns_of t) ≡ (if b then suc (count is_return ds) else count is_return ds) + returns_of t
    by_answer true = omega arith
    by_answer false = refl

pub returns_of_trail : (event : ℕ) (ds : List Deed) → returns_of (trail_of event ds) ≡ count is_return ds
returns_of_trail event ds = returns_on_trail event ds [] ∙ omega arith

pub trail_more : (event : ℕ) (before : List Deed) (d : Deed) (t : Trail) → trail_on event t (before ++ d ∷ []) ≡ (wanted_by event d, d) ∷ trail_on event t before
trail_more event [] d t = refl
trail_more event (b ∷ before) d t = trail_more event before d ((wanted_by event b, b) ∷ t)

-- answers have a last one, or are none
pub data Last (ds : List Deed) : Type 0 where
  no_answer : ds ≡ [] → Last ds
  after : (before : List Deed) (d : Deed) → ds ≡ before ++ d ∷ [] → Last ds

pub last_of : (ds : List Deed) → Last ds
last_of [] = no_answer refl
last_of (d ∷ ds) = longer (last_of ds)
  where
    longer : Last ds → Last (d ∷ ds)
    longer (no_answer e) = after [] d (ap (λ xs. d ∷ xs) e)
    longer (after before x e) = after (d ∷ before) x (ap (λ xs. d ∷ xs) e)
