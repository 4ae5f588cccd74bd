-- Scripts that receive nothing from reserved elements are those scripts whose lines ask for no such thing.
use Rattle.std.proofs.Common.{◌≡◌, ◌↔◌, ℕ, ◌+◌, Bool, true, false, not, ◌&&◌, cond, List, [], ◌∷◌, ◌++◌, length, map, Option, Some, None, refl, sym, ap, ◌∙◌}
use Rattle.bus_semantics.specs.Common.{list_all, and_from, and_parts, not-true, list_all-append, Plan, Letters}
use Rattle.bus_semantics.specs.declared.script.Line.{Line}
use Rattle.line_fields.specs.Texts.{lines_of}
use Rattle.script_reading.specs.Common.{are_too_many, runs_in, runs_said, ticks_in, ticks_said, Asked, ticks, a_run, a_call, Saying, nothing, asks, is_bad, no_such, asked_of, saying}
use Rattle.script_reading.specs.Common.{IsScript, IsScriptBy, asked_by, asked_in, bad_or, cause_of, first_bad, least_cause, passes, saying_around}
use Rattle.script_reading.specs.Reserved.{around, is_reserved, keeps_off, takes_reserved}
use Rattle.script_reading.proofs.Scripts.{none_or}

-- ---- limits are the same

ticks_around : (r : List Bool) (s : Saying) → ticks_said (around r s) ≡ ticks_said s
ticks_around r nothing = refl
ticks_around r (is_bad cause) = refl
ticks_around r (asks (ticks n)) = refl
ticks_around r (asks a_run) = refl
ticks_around r (asks (a_call w)) = step (takes_reserved r (a_call w))
  where
    step : (b : Bool) → ticks_said (cond b (is_bad no_such) (asks (a_call w))) ≡ 0
    step true = refl
    step false = refl

runs_around : (r : List Bool) (s : Saying) → runs_said (around r s) ≡ runs_said s
runs_around r nothing = refl
runs_around r (is_bad cause) = refl
runs_around r (asks (ticks n)) = refl
runs_around r (asks a_run) = refl
runs_around r (asks (a_call w)) = step (takes_reserved r (a_call w))
  where
    step : (b : Bool) → runs_said (cond b (is_bad no_such) (asks (a_call w))) ≡ 0
    step true = refl
    step false = refl

ticks_in_around : (p : Plan) (r : List Bool) (ts : List Letters) → ticks_in (saying_around p r) ts ≡ ticks_in (saying p) ts
ticks_in_around p r [] = refl
ticks_in_around p r (t ∷ ts) = ap (λ n. n + ticks_in (saying_around p r) ts) (ticks_around r (saying p t)) ∙ ap (λ n. ticks_said (saying p t) + n) (ticks_in_around p r ts)

runs_in_around : (p : Plan) (r : List Bool) (ts : List Letters) → runs_in (saying_around p r) ts ≡ runs_in (saying p) ts
runs_in_around p r [] = refl
runs_in_around p r (t ∷ ts) = ap (λ n. n + runs_in (saying_around p r) ts) (runs_around r (saying p t)) ∙ ap (λ n. runs_said (saying p t) + n) (runs_in_around p r ts)

passes_around : (p : Plan) (r : List Bool) (before : List Letters) (s : Saying) → passes (saying_around p r) before (around r s) ≡ passes (saying p) before s
passes_around p r before s =
    ap (λ n. are_too_many (length before + 1) (n + ticks_said (around r s)) (runs_in (saying_around p r) before + runs_said (around r s))) (ticks_in_around p r before)
    ∙ ap (λ n. are_too_many (length before + 1) (ticks_in (saying p) before + n) (runs_in (saying_around p r) before + runs_said (around r s))) (ticks_around r s)
    ∙ ap (λ n. are_too_many (length before + 1) (ticks_in (saying p) before + ticks_said s) (n + runs_said (around r s))) (runs_in_around p r before)
    ∙ ap (λ n. are_too_many (length before + 1) (ticks_in (saying p) before + ticks_said s) (runs_in (saying p) before + n)) (runs_around r s)

-- ---- causes

pub reserved_cause : (p : Plan) (r : List Bool) (before : List Letters) (t : Letters) → is_reserved r (saying p t) ≡ true → cause_of (saying_around p r) before t ≡ Some no_such
reserved_cause p r before t h = ap (least_cause (passes (saying_around p r) before (saying_around p r t))) (ap (λ b. cond b (is_bad no_such) (saying p t)) h)

other_said : (r : List Bool) (s : Saying) → is_reserved r s ≡ false → around r s ≡ s
other_said r s h = ap (λ b. cond b (is_bad no_such) s) h

pub other_cause : (p : Plan) (r : List Bool) (before : List Letters) (t : Letters) → is_reserved r (saying p t) ≡ false → cause_of (saying_around p r) before t ≡ cause_of (saying p) before t
other_cause p r before t h =
    ap (λ b. least_cause b (saying_around p r t)) (passes_around p r before (saying p t))
    ∙ ap (least_cause (passes (saying p) before (saying p t))) (other_said r (saying p t) h)

-- ---- lines that keep off

kept_said : (r : List Bool) (s : Saying) → list_all (keeps_off r) (asked_by s) ≡ true → is_reserved r s ≡ false
kept_said r nothing h = refl
kept_said r (is_bad cause) h = refl
kept_said r (asks a) h = not-true (takes_reserved r a) (and_parts (keeps_off r a) true h).0

-- a good line keeps off
good_kept : (r : List Bool) (past : Bool) (s : Saying) → least_cause past (around r s) ≡ None → list_all (keeps_off r) (asked_by s) ≡ true
good_kept r past nothing h = refl
good_kept r past (is_bad cause) h = refl
good_kept r past (asks a) h = step (takes_reserved r a) h
  where
    step : (b : Bool) → least_cause past (cond b (is_bad no_such) (asks a)) ≡ None → (not b && true) ≡ true
    step true h = absurd (cc)
    step false h = refl

all_kept : (p : Plan) (r : List Bool) (before ts : List Letters) → first_bad (saying_around p r) before ts ≡ None → list_all (keeps_off r) (asked_in (saying p) ts) ≡ true
all_kept p r before [] h = refl
all_kept p r before (t ∷ ts) h =
    let two = none_or (length before + 1) (cause_of (saying_around p r) before t) (first_bad (saying_around p r) (before ++ t ∷ []) ts) h in
    list_all-append (keeps_off r) (asked_by (saying p t)) (asked_in (saying p) ts)
    ∙ and_from (list_all (keeps_off r) (asked_by (saying p t))) (list_all (keeps_off r) (asked_in (saying p) ts))
    (good_kept r (passes (saying_around p r) before (saying_around p r t)) (saying p t) two.0) (all_kept p r (before ++ t ∷ []) ts two.1)

-- where they do, they say the same
record AreAlike (p : Plan) (r : List Bool) (before ts : List Letters) : Type 0 where
  bad : first_bad (saying_around p r) before ts ≡ first_bad (saying p) before ts
  asked : asked_in (saying_around p r) ts ≡ asked_in (saying p) ts

kept_alike : (p : Plan) (r : List Bool) (before ts : List Letters) → list_all (keeps_off r) (asked_in (saying p) ts) ≡ true → AreAlike p r before ts
kept_alike p r before [] h = record { bad = refl; asked = refl }
kept_alike p r before (t ∷ ts) h =
    let two = and_parts (list_all (keeps_off r) (asked_by (saying p t))) (list_all (keeps_off r) (asked_in (saying p) ts))
    (sym (list_all-append (keeps_off r) (asked_by (saying p t)) (asked_in (saying p) ts)) ∙ h) in
    let other = kept_said r (saying p t) two.0 in
    let more = kept_alike p r (before ++ t ∷ []) ts two.1 in
    record {
      bad = ap (λ o. bad_or (length before + 1) o (first_bad (saying_around p r) (before ++ t ∷ []) ts)) (other_cause p r before t other)
          ∙ ap (bad_or (length before + 1) (cause_of (saying p) before t)) more.bad;
      asked = ap (λ s. asked_by s ++ asked_in (saying_around p r) ts) (other_said r (saying p t) other)
          ∙ ap (λ xs. asked_by (saying p t) ++ xs) more.asked;
    }

pub is_around : (p : Plan) (r : List Bool) (bytes : Letters) (lines : List Line)
    → IsScriptBy (saying_around p r) bytes lines ↔ (IsScript p bytes lines × (list_all (keeps_off r) (map asked_of lines) ≡ true))
is_around p r bytes lines = (from, back)
  where
    from : IsScriptBy (saying_around p r) bytes lines → IsScript p bytes lines × (list_all (keeps_off r) (map asked_of lines) ≡ true)
    from s =
        let kept = all_kept p r [] (lines_of bytes) s.good in
        let same = kept_alike p r [] (lines_of bytes) kept in
        let are : map asked_of lines ≡ asked_in (saying p) (lines_of bytes) = s.lines_are ∙ same.asked in
        (record { good = sym same.bad ∙ s.good; lines_are = are }, ap (list_all (keeps_off r)) are ∙ kept)

    back : IsScript p bytes lines × (list_all (keeps_off r) (map asked_of lines) ≡ true) → IsScriptBy (saying_around p r) bytes lines
    back (s, kept) =
        let same = kept_alike p r [] (lines_of bytes) (ap (list_all (keeps_off r)) (sym s.lines_are) ∙ kept) in
        record { good = same.bad ∙ s.good; lines_are = s.lines_are ∙ sym same.asked }
