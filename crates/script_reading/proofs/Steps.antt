-- How far reading has come, and what each step of it shows.
use Rattle.std.proofs.Common.{◌≡◌, ℕ, ◌+◌, List, [], ◌∷◌, ◌++◌, length, map, Some, None, refl, sym, ap, ◌∙◌, subst, append_assoc, length-append, arith}
use Rattle.bus_semantics.specs.Common.{append-nil, Letters}
use Rattle.bus_semantics.specs.declared.script.Line.{Line}
use Rattle.script_reading.specs.declared.counts.Counts.{Counts}
use Rattle.line_fields.specs.Texts.{lines_of}
use Rattle.script_reading.specs.Common.{Saying, asked_of, ticks_said, runs_said, ticks_in, runs_in, IsScriptBy, asked_by, asked_in, bad_or, cause_of, first_bad}
use Rattle.script_reading.specs.Pieces.{AreCountedWith, cause_after}

-- these lines were read, with these counts, and the rest was not
pub record HasRead (say : Letters → Saying) (bytes : Letters) (lines : List Line) (c : Counts) (rest : Letters) : Type 0 where
  pub seen : List Letters
  pub good : first_bad say [] (lines_of bytes) ≡ first_bad say seen (lines_of rest)
  pub asked : asked_in say (lines_of bytes) ≡ map asked_of lines ++ asked_in say (lines_of rest)
  pub lines_are : c.lines ≡ length seen
  pub ticks_are : c.ticks ≡ ticks_in say seen
  pub runs_are : c.runs ≡ runs_in say seen

pub ticks_in-more : (say : Letters → Saying) (ts : List Letters) (t : Letters) → ticks_in say (ts ++ t ∷ []) ≡ ticks_in say ts + ticks_said (say t)
ticks_in-more say [] t = omega arith
ticks_in-more say (x ∷ xs) t = let h = ticks_in-more say xs t in omega arith

pub runs_in-more : (say : Letters → Saying) (ts : List Letters) (t : Letters) → runs_in say (ts ++ t ∷ []) ≡ runs_in say ts + runs_said (say t)
runs_in-more say [] t = omega arith
runs_in-more say (x ∷ xs) t = let h = runs_in-more say xs t in omega arith

pub has_read_none : (say : Letters → Saying) (bytes : Letters) (c : Counts) → c.lines ≡ 0 → c.ticks ≡ 0 → c.runs ≡ 0 → HasRead say bytes [] c bytes
has_read_none say bytes c l t r = record { seen = []; good = refl; asked = refl; lines_are = l; ticks_are = t; runs_are = r }

-- the cause of the next line
cause_is : (say : Letters → Saying) (bytes : Letters) (lines : List Line) (c : Counts) (rest text : Letters) (h : HasRead say bytes lines c rest) → cause_after c (say text) ≡ cause_of say h.seen text
cause_is say bytes lines c rest text h = rw (h.lines_are, h.ticks_are, h.runs_are) refl

pub has_read_more : (say : Letters → Saying) (bytes : Letters) (lines more : List Line) (c d : Counts) (rest text after : Letters) → HasRead say bytes lines c rest
    → lines_of rest ≡ text ∷ lines_of after → cause_after c (say text) ≡ None → AreCountedWith c (say text) d
    → map asked_of more ≡ map asked_of lines ++ asked_by (say text) → HasRead say bytes more d after
has_read_more say bytes lines more c d rest text after h split good counted pushed = record {
  seen = h.seen ++ text ∷ [];
  good = h.good ∙ ap (first_bad say h.seen) split ∙ ap (λ k. bad_or (length h.seen + 1) k (first_bad say (h.seen ++ text ∷ []) (lines_of after))) (sym (cause_is say bytes lines c rest text h) ∙ good);
  asked = h.asked
      ∙ ap (λ ts. map asked_of lines ++ asked_in say ts) split
      ∙ sym (append_assoc (map asked_of lines) (asked_by (say text)) (asked_in say (lines_of after)))
      ∙ ap (λ xs. xs ++ asked_in say (lines_of after)) (sym pushed);
  lines_are = let n = length-append h.seen (text ∷ []) in omega (arith, n, h.lines_are, counted.0);
  ticks_are = let n = ticks_in-more say h.seen text in omega (arith, n, h.ticks_are, counted.1);
  runs_are = let n = runs_in-more say h.seen text in omega (arith, n, h.runs_are, counted.2);
}

pub has_read_next : (say : Letters → Saying) (bytes : Letters) (lines more : List Line) (c d : Counts) (rest text after : Letters) (s : Saying) → HasRead say bytes lines c rest
    → lines_of rest ≡ text ∷ lines_of after → s ≡ say text → cause_after c s ≡ None → AreCountedWith c s d
    → map asked_of more ≡ map asked_of lines ++ asked_by s → HasRead say bytes more d after
has_read_next say bytes lines more c d rest text after s h split is good counted pushed =
    subst (λ x. cause_after c x ≡ None → AreCountedWith c x d → map asked_of more ≡ map asked_of lines ++ asked_by x → HasRead say bytes more d after) (sym is)
    (λ g k q. has_read_more say bytes lines more c d rest text after h split g k q) good counted pushed

pub has_read_bad : (say : Letters → Saying) (bytes : Letters) (lines : List Line) (c : Counts) (rest text after : Letters) (cause : ℕ) → HasRead say bytes lines c rest
    → lines_of rest ≡ text ∷ lines_of after → cause_after c (say text) ≡ Some cause → first_bad say [] (lines_of bytes) ≡ Some (c.lines + 1, cause)
has_read_bad say bytes lines c rest text after cause h split bad =
    h.good
    ∙ ap (first_bad say h.seen) split
    ∙ ap (λ k. bad_or (length h.seen + 1) k (first_bad say (h.seen ++ text ∷ []) (lines_of after))) (sym (cause_is say bytes lines c rest text h) ∙ bad)
    ∙ ap (λ n. Some (n + 1, cause)) (sym h.lines_are)

pub has_read_all : (say : Letters → Saying) (bytes : Letters) (lines : List Line) (c : Counts) (rest : Letters) → HasRead say bytes lines c rest → rest ≡ [] → IsScriptBy say bytes lines
has_read_all say bytes lines c rest h none = record {
  good = h.good ∙ ap (λ r. first_bad say h.seen (lines_of r)) none;
  lines_are = sym (h.asked ∙ ap (λ r. map asked_of lines ++ asked_in say (lines_of r)) none ∙ append-nil (map asked_of lines));
}
