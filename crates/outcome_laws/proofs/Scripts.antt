-- Bytes are a script over a plan, or have a first bad line.
use Rattle.std.proofs.Common.{◌≡◌, ℕ, ℤ, ◌≤◌, List, [], ◌∷◌, ◌++◌, map, length, Bool, true, false, cond, ◌==◌, nat_le, Option, Some, None, ◌⊎◌, inl, inr, refl, sym, ap, true≢false, arith}
use Rattle.bus_semantics.specs.Common.{and_parts, list_all, Plan, look, Letters, to_ask, to_send, to_write, Value, words_of}
use Rattle.bus_semantics.specs.declared.entries.Wish.TheVariants as wish
use Rattle.bus_semantics.specs.declared.plan.ElemPlan.{ElemPlan}
use Rattle.bus_semantics.specs.declared.plan.PointPlan.{PointPlan}
use Rattle.bus_semantics.specs.declared.script.Line.{Line}
use Rattle.bus_semantics.specs.declared.script.Line.TheVariants as line
use Rattle.line_fields.specs.Numbers.{are_held, is_held, words_in}
use Rattle.line_fields.specs.Texts.{lines_of}
use Rattle.script_reading.specs.declared.forms.Follows.{Follows}
use Rattle.script_reading.specs.declared.forms.Follows.TheVariants as follow
use Rattle.script_reading.specs.declared.forms.Form.{Form}
use Rattle.script_reading.specs.declared.forms.Form.TheVariants.{Write, Send, Read, Receive, Ask, TakeResult, SeeMode}
use Rattle.script_reading.specs.Forms.{Phrase, behind, phrase_in, to_call, to_run, to_wait}
use Rattle.script_reading.specs.Meaning.{Asked, Saying, a_call, asked_of, asks, call_at, call_with, is_bad, meaning, meaning_in, named_call, no_such, not_of_type, nothing, plain_call}
use Rattle.script_reading.specs.Meaning.{saying, switch_call, value_call}
use Rattle.script_reading.specs.Offers.{are_within, elem_takes, mode_of, number_of, takes}
use Rattle.script_reading.specs.Reading.{asked_by, asked_in, first_bad}
use Rattle.script_reading.specs.Reserved.{around, is_reserved, saying_around}
use Rattle.outcome_laws.specs.Outcomes.{HasBadLine, HasScript}
use Rattle.outcome_laws.proofs.Values.{value_for}

-- what is asked for is what a line asks for
abbrev HasLine : Saying → Type 0
HasLine nothing = Unit {0}
HasLine (asks a) = (l : Line) × (asked_of l ≡ a)
HasLine (is_bad cause) = Unit {0}

-- ---- values

held_short : (ws : List ℤ) → are_held ws ≡ true → length ws ≤ 16
held_short ws h = by (nat_le (length ws) 16) refl (and_parts (nat_le (length ws) 16) (list_all is_held ws) h).0
  where
    by : (b : Bool) → nat_le (length ws) 16 ≡ b → b ≡ true → length ws ≤ 16
    by true is h = grind arith
    by false is h = absurd (true≢false (sym h))

takes_short : (f : Form) (p : Plan) (x : ℕ) (ws : List ℤ) → takes f p x ws ≡ true → length ws ≤ 16
takes_short Write p x ws h = held_short ws (and_parts (are_held ws) (look p.elements x (λ (e : ElemPlan). elem_takes e ws) false) h).0
takes_short Send p x ws h = held_short ws (and_parts (are_held ws) (look p.elements x (λ (e : ElemPlan). elem_takes e ws) false) h).0
takes_short Ask p x ws h = held_short ws (and_parts (are_held ws) (look p.points x (λ (t : PointPlan). are_within t.ins ws) false) h).0
takes_short _ p x ws h = absurd (true≢false (sym h))

with_value : (f : Form) (x : ℕ) (ws : List ℤ) → (v : Value) × (words_of v ≡ ws) → HasLine (call_with f x ws)
with_value Write x ws (v, is) = (line.Call (wish.Write x v), ap (λ us. a_call (to_write x us)) is)
with_value Send x ws (v, is) = (line.Call (wish.Send x v), ap (λ us. a_call (to_send x us)) is)
with_value Ask x ws (v, is) = (line.Call (wish.Ask x v), ap (λ us. a_call (to_ask x us)) is)
with_value _ x ws (v, is) = tt

with_words : (p : Plan) (f : Form) (x : ℕ) (ws : List ℤ) → HasLine (value_call p f x ws)
with_words p f x ws = by (takes f p x ws) refl
  where
    by : (b : Bool) → takes f p x ws ≡ b → HasLine (cond b (call_with f x ws) (is_bad not_of_type))
    by true is = with_value f x ws (value_for ws (takes_short f p x ws is))
    by false is = tt

-- ---- calls

plain : (f : Form) (x : ℕ) → HasLine (plain_call f x)
plain Read x = (line.Call (wish.Read x), refl)
plain Receive x = (line.Call (wish.Receive x), refl)
plain TakeResult x = (line.Call (wish.TakeResult x), refl)
plain SeeMode x = (line.Call (wish.Mode x), refl)
plain _ x = tt

switched : (m : ℕ) (o : Option ℕ) → HasLine (switch_call m o)
switched m None = tt
switched m (Some mode) = (line.Call (wish.Switch m mode), refl)

called : (p : Plan) (f : Form) (after : Follows) (x : ℕ) (third : Option Letters) → HasLine (call_at p f after x third)
called p f follow.Nothing x None = plain f x
called p f follow.Nothing x (Some t) = plain f x
called p f follow.Value x None = tt
called p f follow.Value x (Some t) = with_words p f x (words_in t)
called p f follow.Mode x None = tt
called p f follow.Mode x (Some t) = switched x (mode_of p x t)

named : (p : Plan) (f : Form) (third : Option Letters) (o : Option ℕ) → HasLine (named_call p f third o)
named p f third None = tt
named p f third (Some x) = called p f (behind f) x third

-- ---- lines

of_phrase : (p : Plan) (phrase : Phrase) → HasLine (meaning p phrase)
of_phrase p (to_wait n) = (line.Tick n, refl)
of_phrase p to_run = (line.Run, refl)
of_phrase p (to_call f name third) = named p f third (number_of f p name)

of_phrase_in : (p : Plan) (o : Option Phrase) → HasLine (meaning_in p o)
of_phrase_in p None = tt
of_phrase_in p (Some phrase) = of_phrase p phrase

of_text : (p : Plan) (t : Letters) → HasLine (saying p t)
of_text p [] = tt
of_text p (c ∷ cs) = by (c == 35)
  where
    by : (b : Bool) → HasLine (cond b nothing (meaning_in p (phrase_in (c ∷ cs))))
    by true = tt
    by false = of_phrase_in p (phrase_in (c ∷ cs))

abbrev Lines : List Asked → Type 0
Lines as' = (ls : List Line) × (map asked_of ls ≡ as')

one_more : (s : Saying) (rest : List Asked) → HasLine s → Lines rest → Lines (asked_by s ++ rest)
one_more nothing rest has lines = lines
one_more (asks a) rest (l, is) (ls, are) = (l ∷ ls, λ i. is i ∷ are i)
one_more (is_bad cause) rest has lines = lines

-- all lines of a text are lines, where each text of a line is
of_texts : (say : Letters → Saying) → ((t : Letters) → HasLine (say t)) → (ts : List Letters) → Lines (asked_in say ts)
of_texts say has [] = ([], refl)
of_texts say has (t ∷ ts) = one_more (say t) (asked_in say ts) (has t) (of_texts say has ts)

-- what is not received is no line
around_has : (reserved : List Bool) (s : Saying) → HasLine s → HasLine (around reserved s)
around_has reserved s has = by (is_reserved reserved s)
  where
    by : (b : Bool) → HasLine (cond b (is_bad no_such) s)
    by true = tt
    by false = has

-- ---- the bytes

read_by : (say : Letters → Saying) → ((t : Letters) → HasLine (say t)) → (bytes : List ℕ) → HasScript say bytes ⊎ HasBadLine say bytes
read_by say has bytes = by (first_bad say [] (lines_of bytes)) refl (of_texts say has (lines_of bytes))
  where
    by : (o : Option (ℕ × ℕ)) → first_bad say [] (lines_of bytes) ≡ o → Lines (asked_in say (lines_of bytes)) → HasScript say bytes ⊎ HasBadLine say bytes
    by None good (ls, are) = inl (ls, record { good = good; lines_are = are })
    by (Some (n, cause)) bad lines = inr (n, cause, bad)

pub read_or_bad : (p : Plan) (bytes : List ℕ) → HasScript (saying p) bytes ⊎ HasBadLine (saying p) bytes
read_or_bad p bytes = read_by (saying p) (of_text p) bytes

pub read_or_bad_around : (p : Plan) (reserved : List Bool) (bytes : List ℕ) → HasScript (saying_around p reserved) bytes ⊎ HasBadLine (saying_around p reserved) bytes
read_or_bad_around p reserved bytes = read_by (saying_around p reserved) (λ t. around_has reserved (saying p t) (of_text p t)) bytes
