-- Where a line is that of any entry, then of the one that is guessed. So each line has at most one reading.
use Rattle.std.proofs.Common.{◌≡◌, ◌-◌, ◌+◌, true, ◌&&◌, cond, List, ◌∷◌, ◌++◌, length, take, codes, Some, ap, ◌∙◌, length-append, arith}
use Rattle.bus_semantics.specs.Common.{list_all, option_and_then, and_parts, take-append_seam, activation_fits, answer_fits, fits, wish_fits, needs_event, Plan, IsReadingOf, is_sized}
use Rattle.bus_semantics.specs.Common.{is_sized_actor, item_fits, made, Letters, actor_text, wanted_by}
use Rattle.bus_laws.specs.Common.{Actor, Deed, Entry, Version}
use Rattle.trace_reading.specs.Deeds.{line_at}
use Rattle.trace_reading.specs.Guess.{deed_in, guess, guess_of}
use Rattle.trace_reading.proofs.ActorTexts.{actor_read}
use Rattle.trace_reading.proofs.Cutting.{are_visible, field-line, line_of}
use Rattle.trace_reading.proofs.DeedTexts.{deed_read, deed_there, line_with}
use Rattle.trace_reading.proofs.Lines.{entry-line, fields_of, text_of, word_of}
use Rattle.trace_reading.proofs.Naming.{IsNamed}
use Rattle.trace_reading.proofs.Visible.{actor_visible, deed_visible}

-- the fields of a line are those that it was written in
line_back : (a w : Letters) (ts : List Letters) → are_visible a ≡ true → list_all are_visible (w ∷ ts) ≡ true → line_at (line_of a (w ∷ ts)) ≡ line_with a w ts
line_back a w ts h k = λ i. record {
  who = field-line 0 a (w ∷ ts) h k i;
  word = field-line 1 a (w ∷ ts) h k i;
  first = field-line 2 a (w ∷ ts) h k i;
  second = field-line 3 a (w ∷ ts) h k i;
  third = field-line 4 a (w ∷ ts) h k i;
  fourth = field-line 5 a (w ∷ ts) h k i;
}

pub entry_read : (v : Version) (p : Plan) → IsNamed p → (e : Entry) → item_fits p (made e) ≡ true → guess_of v p (text_of v p e) ≡ Some e
entry_read v p r e fit =
    let two = and_parts (fits p e) (is_sized_actor e.actor && is_sized e.deed) fit in
    let sized = and_parts (is_sized_actor e.actor) (is_sized e.deed) two.1 in
    let made = and_parts (cond (needs_event e.deed) (activation_fits p e.actor) (wish_fits p e.actor (wanted_by 0 e.deed))) (answer_fits p e.actor e.deed) two.0 in
    let there = deed_there p r e.actor e.deed made.0 in
    let a = actor_read p r e.actor there sized.0 in
    let d = deed_read v p r e.actor e.deed there made.0 made.1 sized.1 in
    let t = actor_text p e.actor in
    let l = line_with t (word_of e.deed) (fields_of v p e.actor e.deed) in
    ap (guess v p) (line_back t (word_of e.deed) (fields_of v p e.actor e.deed) (actor_visible p r e.actor) (deed_visible p r v e.actor e.deed))
    ∙ ap (option_and_then (λ (who : Actor). option_and_then (λ (done : Deed). Some (record { actor = who; deed = done })) (deed_in v p who l))) a.found
    ∙ ap (option_and_then (λ (done : Deed). Some (record { actor = e.actor; deed = done }))) (d.found t)

without_newline : (t : Letters) → take (length (t ++ codes "\n") - 1) (t ++ codes "\n") ≡ t
without_newline t =
    let long : length (t ++ codes "\n") ≡ length t + 1 = length-append t (codes "\n") in
    let short : length (t ++ codes "\n") - 1 ≡ length t = omega arith in
    ap (λ n. take n (t ++ codes "\n")) short ∙ take-append_seam t (codes "\n")

-- the line without its last byte guesses the entry
pub reading_guessed : (v : Version) (p : Plan) → IsNamed p → (line : Letters) (e : Entry) → IsReadingOf v p line (made e) → guess_of v p (take (length line - 1) line) ≡ Some e
reading_guessed v p r line e k =
    ap (λ t. guess_of v p (take (length t - 1) t)) (k.text ∙ entry-line v p e) ∙ ap (guess_of v p) (without_newline (text_of v p e)) ∙ entry_read v p r e k.fit
