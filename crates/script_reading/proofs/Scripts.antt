-- In a sound plan a script is the spellings of its lines.
use Rattle.std.proofs.Common.{◌≡◌, ℕ, ◌+◌, ◌≤◌, Bool, true, false, not, ◌||◌, cond, ◌==◌, List, [], ◌∷◌, ◌++◌, length, map, nat_lt, Option, Some, None, refl, sym, ap, ◌∙◌, subst}
use Rattle.std.proofs.Common.{append_assoc, length-append, arith}
use Rattle.bus_semantics.specs.Common.{list_all, and_parts, and_from, ltb-false, or_from, or_parts, append-nil, Plan, IsSound, Letters}
use Rattle.std.proofs.lemmas.Bool.{le-ltb}
use Rattle.bus_semantics.specs.declared.script.Line.{Line}
use Rattle.bus_semantics.specs.declared.script.Mapping.{Mapping}
use Rattle.script_reading.specs.Common.{Form, Write, Send, Read, Receive, Ask, TakeResult, Switch, SeeMode, Phrase, to_wait, to_run, to_call, behind, phrase_in, runs_in, ticks_in, Asked}
use Rattle.script_reading.specs.Common.{Saying, nothing, asks, is_bad, not_of_type, asked_of, call_at, meaning_in, named_call, saying, switch_call, mode_of, number_of, takes, IsScript}
use Rattle.script_reading.specs.Common.{asked_by, asked_in, bad_or, cause_of, first_bad, least_cause, passes, may_ask, pass_limit, text_of}
use Rattle.line_fields.specs.Numbers.{words_in}
use Rattle.script_reading.specs.Scripts.{SpellsScript, spoken}
use Rattle.script_reading.specs.Sentences.{is_blank}
use Rattle.line_fields.specs.Texts.{lines_of}
use Rattle.script_reading.proofs.Answered.{asks_said}
use Rattle.script_reading.proofs.Asking.{saying_asks}
use Rattle.script_reading.proofs.Causes.{passes_is}

-- ---- blank lines

choice_said : (b : Bool) (a : Asked) (cause : ℕ) → cond b (asks a) (is_bad cause) ≡ nothing → ⊥
choice_said true a cause h = cc
choice_said false a cause h = cc

switch_said : (x : ℕ) (o : Option ℕ) → switch_call x o ≡ nothing → ⊥
switch_said x None h = cc
switch_said x (Some k) h = cc

call_said : (p : Plan) (f : Form) (x : ℕ) (third : Option Letters) → call_at p f (behind f) x third ≡ nothing → ⊥
call_said p Write x None h = cc
call_said p Write x (Some t) h = choice_said (takes Write p x (words_in t)) _ not_of_type h
call_said p Send x None h = cc
call_said p Send x (Some t) h = choice_said (takes Send p x (words_in t)) _ not_of_type h
call_said p Ask x None h = cc
call_said p Ask x (Some t) h = choice_said (takes Ask p x (words_in t)) _ not_of_type h
call_said p Read x third h = cc
call_said p Receive x third h = cc
call_said p TakeResult x third h = cc
call_said p SeeMode x third h = cc
call_said p Switch x None h = cc
call_said p Switch x (Some t) h = switch_said x (mode_of p x t) h

named_said : (p : Plan) (f : Form) (third : Option Letters) (o : Option ℕ) → named_call p f third o ≡ nothing → ⊥
named_said p f third None h = cc
named_said p f third (Some x) h = call_said p f x third h

phrase_said : (p : Plan) (o : Option Phrase) → meaning_in p o ≡ nothing → ⊥
phrase_said p None h = cc
phrase_said p (Some (to_wait n)) h = cc
phrase_said p (Some to_run) h = cc
phrase_said p (Some (to_call f name third)) h = named_said p f third (number_of f p name) h

blank_says : (p : Plan) (t : Letters) → is_blank t ≡ true → saying p t ≡ nothing
blank_says p [] h = refl
blank_says p (c ∷ cs) h = ap (λ b. cond b nothing (meaning_in p (phrase_in (c ∷ cs)))) h

says_blank : (p : Plan) (t : Letters) → saying p t ≡ nothing → is_blank t ≡ true
says_blank p [] h = refl
says_blank p (c ∷ cs) h = step (c == 35) refl h
  where
    step : (b : Bool) → (c == 35) ≡ b → cond b nothing (meaning_in p (phrase_in (c ∷ cs))) ≡ nothing → (c == 35) ≡ true
    step true is h = is
    step false is h = absurd (phrase_said p (phrase_in (c ∷ cs)) h)

-- a line that asks is spoken
asks_spoken : (p : Plan) (t : Letters) (a : Asked) → saying p t ≡ asks a → is_blank t ≡ false
asks_spoken p t a h = step (is_blank t) refl
  where
    step : (b : Bool) → is_blank t ≡ b → is_blank t ≡ false
    step true is = let other : nothing ≡ asks a = sym (blank_says p t is) ∙ h in absurd (cc)
    step false is = is

spoken_blank : (t : Letters) (ts : List Letters) → is_blank t ≡ true → spoken (t ∷ ts) ≡ spoken ts
spoken_blank t ts h = ap (λ b. cond (not b) (t ∷ spoken ts) (spoken ts)) h

spoken_more : (t : Letters) (ts : List Letters) → is_blank t ≡ false → spoken (t ∷ ts) ≡ t ∷ spoken ts
spoken_more t ts h = ap (λ b. cond (not b) (t ∷ spoken ts) (spoken ts)) h

-- ---- limits

ticks_in-append : (say : Letters → Saying) (xs ys : List Letters) → ticks_in say (xs ++ ys) ≡ ticks_in say xs + ticks_in say ys
ticks_in-append say [] ys = omega arith
ticks_in-append say (x ∷ xs) ys = let h = ticks_in-append say xs ys in omega arith

runs_in-append : (say : Letters → Saying) (xs ys : List Letters) → runs_in say (xs ++ ys) ≡ runs_in say xs + runs_in say ys
runs_in-append say [] ys = omega arith
runs_in-append say (x ∷ xs) ys = let h = runs_in-append say xs ys in omega arith

-- what passes no limit with more lines passes none with fewer
fewer : (say : Letters → Saying) (xs ys : List Letters) → pass_limit say (xs ++ ys) ≡ false → pass_limit say xs ≡ false
fewer say xs ys h =
    let n = length (xs ++ ys) in
    let k = ticks_in say (xs ++ ys) in
    let r = runs_in say (xs ++ ys) in
    let one = or_parts (nat_lt 100000 n) (nat_lt 1000000 k || nat_lt 1000 r) h in
    let two = or_parts (nat_lt 1000000 k) (nat_lt 1000 r) one.1 in
    let lines : n ≤ 100000 = ltb-false 100000 n one.0 in
    let ticks : k ≤ 1000000 = ltb-false 1000000 k two.0 in
    let runs : r ≤ 1000 = ltb-false 1000 r two.1 in
    let n_is : n ≡ length xs + length ys = length-append xs ys in
    let k_is : k ≡ ticks_in say xs + ticks_in say ys = ticks_in-append say xs ys in
    let r_is : r ≡ runs_in say xs + runs_in say ys = runs_in-append say xs ys in
    or_from (nat_lt 100000 (length xs)) _ (le-ltb 100000 (length xs) (omega arith))
    (or_from (nat_lt 1000000 (ticks_in say xs)) _ (le-ltb 1000000 (ticks_in say xs) (omega arith)) (le-ltb 1000 (runs_in say xs) (omega arith)))

-- ---- from a script to its spelling

-- where no line is bad, this one is not
pub none_or : (n : ℕ) (o : Option ℕ) (later : Option (ℕ × ℕ)) → bad_or n o later ≡ None → (o ≡ None) × (later ≡ None)
none_or n None later h = (refl, h)
none_or n (Some cause) later h = absurd (cc)

past_none : (b : Bool) (s : Saying) → least_cause b s ≡ None → b ≡ false
past_none false s h = refl
past_none true nothing h = absurd (cc)
past_none true (asks a) h = absurd (cc)
past_none true (is_bad cause) h = absurd (cc)

within_limits : (say : Letters → Saying) (before ts : List Letters) → first_bad say before ts ≡ None → pass_limit say before ≡ false → pass_limit say (before ++ ts) ≡ false
within_limits say before [] h k = ap (pass_limit say) (append-nil before) ∙ k
within_limits say before (t ∷ ts) h k =
    let two = none_or (length before + 1) (cause_of say before t) (first_bad say (before ++ t ∷ []) ts) h in
    let now = sym (passes_is say before t) ∙ past_none (passes say before (say t)) (say t) two.0 in
    ap (pass_limit say) (sym (append_assoc before (t ∷ []) ts)) ∙ within_limits say (before ++ t ∷ []) ts two.1 now

record AreSpelt (p : Plan) (ts : List Letters) (asked : List Asked) : Type 0 where
  texts : spoken ts ≡ map (text_of p) asked
  may : list_all (may_ask p) asked ≡ true

are_spelt : (p : Plan) (before ts : List Letters) → first_bad (saying p) before ts ≡ None → AreSpelt p ts (asked_in (saying p) ts)
are_spelt p before [] h = record { texts = refl; may = refl }
are_spelt p before (t ∷ ts) h =
    let two = none_or (length before + 1) (cause_of (saying p) before t) (first_bad (saying p) (before ++ t ∷ []) ts) h in
    step (saying p t) refl two.0 (are_spelt p (before ++ t ∷ []) ts two.1)
  where
    step : (s : Saying) → saying p t ≡ s → least_cause (passes (saying p) before (saying p t)) (saying p t) ≡ None → AreSpelt p ts (asked_in (saying p) ts) → AreSpelt p (t ∷ ts) (asked_by (saying p t) ++ asked_in (saying p) ts)
    step nothing is good more = subst (λ (s : Saying). AreSpelt p (t ∷ ts) (asked_by s ++ asked_in (saying p) ts)) (sym is) (record { texts = spoken_blank t ts (says_blank p t is) ∙ more.texts; may = more.may })
    step (asks a) is good more = let f = (saying_asks p t a is).spelling in
        subst (λ (s : Saying). AreSpelt p (t ∷ ts) (asked_by s ++ asked_in (saying p) ts)) (sym is) (record {
          texts = spoken_more t ts (asks_spoken p t a is) ∙ ap (λ u. u ∷ spoken ts) f.text ∙ ap (λ us. text_of p a ∷ us) more.texts;
          may = and_from (may_ask p a) _ f.may more.may;
        })
    step (is_bad cause) is good more = let bad : least_cause (passes (saying p) before (saying p t)) (is_bad cause) ≡ None = subst (λ (s : Saying). least_cause (passes (saying p) before (saying p t)) s ≡ None) is good in absurd (cc)

-- ---- and back

no_cause : (p : Plan) (before : List Letters) (t : Letters) (ts : List Letters) (s : Saying) → saying p t ≡ s → pass_limit (saying p) (before ++ t ∷ ts) ≡ false → ((b : Bool) → b ≡ false → least_cause b s ≡ None) → cause_of (saying p) before t ≡ None
no_cause p before t ts s is within good =
    let now : passes (saying p) before (saying p t) ≡ false = passes_is (saying p) before t ∙ fewer (saying p) (before ++ t ∷ []) ts (ap (pass_limit (saying p)) (append_assoc before (t ∷ []) ts) ∙ within) in
    ap (least_cause (passes (saying p) before (saying p t))) is ∙ good (passes (saying p) before (saying p t)) now

no_limit : (s : Saying) → ((cause : ℕ) → s ≡ is_bad cause → ⊥) → (b : Bool) → b ≡ false → least_cause b s ≡ None
no_limit nothing good b h = ap (λ x. least_cause x nothing) h
no_limit (asks a) good b h = ap (λ x. least_cause x (asks a)) h
no_limit (is_bad cause) good b h = absurd (good cause refl)

read_back : (p : Plan) (m : Mapping) → IsSound p m → (before ts : List Letters) (asked : List Asked) → AreSpelt p ts asked → pass_limit (saying p) (before ++ ts) ≡ false → (first_bad (saying p) before ts ≡ None) × (asked_in (saying p) ts ≡ asked)
read_back p m s before [] [] h within = (refl, refl)
read_back p m s before [] (a ∷ asked) h within = let no_text : [] ≡ text_of p a ∷ map (text_of p) asked = h.texts in absurd (cc)
read_back p m s before (t ∷ ts) asked h within = step (is_blank t) refl asked h (read_back p m s (before ++ t ∷ []) ts)
  where
    later_within : pass_limit (saying p) ((before ++ t ∷ []) ++ ts) ≡ false
    later_within = ap (pass_limit (saying p)) (append_assoc before (t ∷ []) ts) ∙ within

    joined : (x : Saying) (a b : List Asked) → saying p t ≡ x → cause_of (saying p) before t ≡ None → (first_bad (saying p) (before ++ t ∷ []) ts ≡ None) × (asked_in (saying p) ts ≡ a) → asked_by x ++ a ≡ b → (first_bad (saying p) before (t ∷ ts) ≡ None) × (asked_in (saying p) (t ∷ ts) ≡ b)
    joined x a b is none more e = (
      ap (λ o. bad_or (length before + 1) o (first_bad (saying p) (before ++ t ∷ []) ts)) none ∙ more.0,
      ap (λ y. asked_by y ++ asked_in (saying p) ts) is ∙ ap (λ ys. asked_by x ++ ys) more.1 ∙ e,
    )

    step : (b : Bool) → is_blank t ≡ b → (asked : List Asked) → AreSpelt p (t ∷ ts) asked
        → ((xs : List Asked) → AreSpelt p ts xs → pass_limit (saying p) ((before ++ t ∷ []) ++ ts) ≡ false → (first_bad (saying p) (before ++ t ∷ []) ts ≡ None) × (asked_in (saying p) ts ≡ xs))
        → (first_bad (saying p) before (t ∷ ts) ≡ None) × (asked_in (saying p) (t ∷ ts) ≡ asked)
    step true is asked h more =
        let says = blank_says p t is in
        joined nothing asked asked says (no_cause p before t ts nothing says within (no_limit nothing (λ k e. cc)))
        (more asked (record { texts = sym (spoken_blank t ts is) ∙ h.texts; may = h.may }) later_within) refl
    step false is [] h more = let no_text : t ∷ spoken ts ≡ [] = sym (spoken_more t ts is) ∙ h.texts in absurd (cc)
    step false is (a ∷ asked) h more =
        let texts : t ∷ spoken ts ≡ text_of p a ∷ map (text_of p) asked = sym (spoken_more t ts is) ∙ h.texts in
        let two = and_parts (may_ask p a) (list_all (may_ask p) asked) h.may in
        let text : t ≡ text_of p a = cc in
        let rest : spoken ts ≡ map (text_of p) asked = cc in
        let says = asks_said p m t a s (record { may = two.0; text = text }) in
        joined (asks a) asked (a ∷ asked) says (no_cause p before t ts (asks a) says within (no_limit (asks a) (λ k e. cc)))
        (more asked (record { texts = rest; may = two.1 }) later_within) refl

pub script_is_spelt : (p : Plan) (bytes : Letters) (lines : List Line) → IsScript p bytes lines → SpellsScript p bytes lines
script_is_spelt p bytes lines s =
    let h = are_spelt p [] (lines_of bytes) s.good in
    record {
      texts = h.texts ∙ ap (map (text_of p)) (sym s.lines_are);
      may = ap (list_all (may_ask p)) s.lines_are ∙ h.may;
      limits = within_limits (saying p) [] (lines_of bytes) s.good refl;
    }

pub spelt_is_script : (p : Plan) (m : Mapping) (bytes : Letters) (lines : List Line) → IsSound p m → SpellsScript p bytes lines → IsScript p bytes lines
spelt_is_script p m bytes lines s h =
    let two = read_back p m s [] (lines_of bytes) (map asked_of lines) (record { texts = h.texts; may = h.may }) h.limits in
    record { good = two.0; lines_are = sym two.1 }
