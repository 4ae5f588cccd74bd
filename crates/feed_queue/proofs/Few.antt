-- Good stimuli give no more wishes than they may.
use Rattle.std.proofs.Common.{◌≡◌, ◌≢◌, ◌<◌, ◌≤◌, ◌+◌, ℕ, List, [], ◌∷◌, ◌++◌, map, length, length-append, Bool, true, false, nat_lt, if◌then◌else◌, Option, Some, None, Vec, refl, sym, ap}
use Rattle.std.proofs.Common.{◌∙◌, subst, append_assoc, arith, ne_eqb}
use Rattle.std.specs.Prelude.{sum}
use Rattle.bus_semantics.specs.Common.{Global, or_parts, ltb-false, append-nil, length-map, Plan, Letters, Wanted, wanted_of}
use mathlib.Core.Logic.{dite}
use native.Mathlib.Decide.{ℕ_discrete}
use Rattle.bus_semantics.specs.declared.entries.Wish.{Wish}
use Rattle.line_fields.specs.Texts.{lines_of}
use Rattle.script_reading.specs.Reading.{bad_or}
use Rattle.feed_queue.specs.declared.feeds.Feeds.{Feeds}
use Rattle.feed_queue.specs.Gifts.{wishes_at}
use Rattle.feed_queue.specs.Given.{lengths_of}
use Rattle.feed_queue.specs.Stimuli.{Stimulus, silent, stops, gives, unfit, stimulus}
use Rattle.feed_queue.specs.Reading.{AreFeeds, are_too_many, cause_of, first_bad, given_to, has_stopped, how_many, least_cause, wishes_for, wishes_in}
use Rattle.feed_queue.proofs.ReadingSteps.{wishes_in-more}

-- ---- no line passes the limit

good_both : (n : ℕ) (c : Option ℕ) (later : Option (ℕ × ℕ)) → bad_or n c later ≡ None → (c ≡ None) × (later ≡ None)
good_both n None later e = (refl, e)
good_both n (Some cause) later e = absurd (cc e)

not_past : (stopped past : Bool) (s : Stimulus) → least_cause stopped past s ≡ None → past ≡ false
not_past true past s e = absurd (cc e)
not_past false past (unfit cause) e = absurd (cc e)
not_past false true silent e = absurd (cc e)
not_past false true stops e = absurd (cc e)
not_past false true (gives f ws) e = absurd (cc e)
not_past false false silent e = refl
not_past false false stops e = refl
not_past false false (gives f ws) e = refl

some_wishes : (n w : ℕ) → are_too_many n w ≡ false → w ≤ 65536
some_wishes n w e = ltb-false 65536 w (or_parts (nat_lt 100000 n) (nat_lt 65536 w) e).1

few_in : (p : Plan) (before ts : List Letters) → wishes_in p before ≤ 65536 → first_bad p before ts ≡ None → wishes_in p (before ++ ts) ≤ 65536
few_in p before [] few good = subst (λ (xs : List Letters). wishes_in p xs ≤ 65536) (sym (append-nil before)) few
few_in p before (t ∷ ts) few good =
    let both = good_both (length before + 1) (cause_of p before t) (first_bad p (before ++ t ∷ []) ts) good in
    let past = are_too_many (length before + 1) (wishes_in p before + how_many (stimulus p t)) in
    let some = some_wishes (length before + 1) (wishes_in p before + how_many (stimulus p t)) (not_past (has_stopped p before) past (stimulus p t) both.0) in
    let more : wishes_in p (before ++ t ∷ []) ≤ 65536 = omega (arith, some, wishes_in-more p before t) in
    subst (λ (xs : List Letters). wishes_in p xs ≤ 65536) (append_assoc before (t ∷ []) ts) (few_in p (before ++ t ∷ []) ts more both.1)

-- ---- what the feeds are given is all that is given

abbrev four : (ℕ → ℕ) → ℕ
four n = n 0 + n 1 + n 2 + n 3

given_in_all : (g : ℕ) (ws : List Wanted) → four (λ f. length (given_to f (gives g ws))) ≤ length ws
given_in_all g ws = dite (ℕ_discrete g 0) (λ is. subst Fits (sym is) (omega arith)) (λ n0. dite (ℕ_discrete g 1) (λ is. subst Fits (sym is) (omega arith))
    (λ n1. dite (ℕ_discrete g 2) (λ is. subst Fits (sym is) (omega arith)) (λ n2. dite (ℕ_discrete g 3) (λ is. subst Fits (sym is) (omega arith))
    (λ n3. omega (arith, none 0 n0, none 1 n1, none 2 n2, none 3 n3)))))
  where
    Fits : ℕ → Type 0
    Fits h = four (λ f. length (given_to f (gives h ws))) ≤ length ws

    none : (f : ℕ) → g ≢ f → length (given_to f (gives g ws)) ≡ 0
    none f ne = ap (λ (b : Bool). length (if b then ws else [])) (ne_eqb g f ne)

said_in_all : (s : Stimulus) → four (λ f. length (given_to f s)) ≤ how_many s
said_in_all silent = omega arith
said_in_all stops = omega arith
said_in_all (gives g ws) = given_in_all g ws
said_in_all (unfit cause) = omega arith

in_all : (p : Plan) (ts : List Letters) → four (λ f. length (wishes_for p f ts)) ≤ wishes_in p ts
in_all p [] = omega arith
in_all p (t ∷ ts) =
    let each : (f : ℕ) → length (wishes_for p f (t ∷ ts)) ≡ length (given_to f (stimulus p t)) + length (wishes_for p f ts) = λ f. length-append (given_to f (stimulus p t)) (wishes_for p f ts) in
    omega (arith, each 0, each 1, each 2, each 3, said_in_all (stimulus p t), in_all p ts)

-- ---- four lists

counted : (lists : List (Vec Wish Global)) → length lists ≡ 4 → sum (map (λ (v : Vec Wish Global). length v.items) lists) ≡ four (λ f. length (wishes_at lists f))
counted [] e = absurd (omega (arith, e))
counted (a ∷ []) e = absurd (omega (arith, e))
counted (a ∷ b ∷ []) e = absurd (omega (arith, e))
counted (a ∷ b ∷ c ∷ []) e = absurd (omega (arith, e))
counted (a ∷ b ∷ c ∷ d ∷ []) e = omega arith
counted (a ∷ b ∷ c ∷ d ∷ x ∷ xs) e = absurd (omega (arith, e))

pub few : (p : Plan) (bytes : Letters) (feeds : Feeds) → AreFeeds p bytes feeds → sum (lengths_of feeds) ≤ 65536
few p bytes feeds a =
    let lists = feeds.wishes.items in let ts = lines_of bytes in
    let each : (f : ℕ) → f < 4 → length (wishes_at lists f) ≡ length (wishes_for p f ts) = λ f small. sym (length-map (wishes_at lists f) wanted_of) ∙ ap length (a.given f small) in
    let all : wishes_in p ts ≤ 65536 = few_in p [] ts (omega arith) a.good in
    omega (arith, counted lists a.four, each 0 (omega arith), each 1 (omega arith), each 2 (omega arith), each 3 (omega arith), in_all p ts, all)
