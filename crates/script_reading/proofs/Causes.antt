-- A line is bad exactly for the causes that stand in `Sentences`.
use Rattle.std.proofs.Common.{◌≡◌, ℕ, ◌+◌, Bool, true, false, cond, ◌==◌, List, [], ◌∷◌, ◌++◌, length, Option, Some, None, inl, inr, refl, sym, ap, ◌∙◌, length-append}
use Rattle.bus_semantics.specs.Common.{slice_get, and_parts, Plan, Letters, to_write, to_send, to_ask}
use Rattle.bus_semantics.specs.declared.plan.MachinePlan.{MachinePlan}
use Rattle.script_reading.specs.Common.{Form, Write, Send, Read, Receive, Ask, TakeResult, Switch, SeeMode, Phrase, to_wait, to_run, to_call, behind, phrase_in, phrase_text, third_fits}
use Rattle.script_reading.specs.Common.{are_too_many, runs_in, runs_said, ticks_in, ticks_said, Asked, a_call, Saying, nothing, asks, is_bad, no_such, not_of_type, call_at, call_with}
use Rattle.script_reading.specs.Common.{meaning, meaning_in, named_call, saying, switch_call, mode_in, mode_of, number_of, offered, takes, cause_of, least_cause, passes, HasForm, IsNamed}
use Rattle.script_reading.specs.Common.{pass_limit}
use Rattle.script_reading.specs.declared.forms.Follows.TheVariants as follow
use Rattle.script_reading.specs.Meaning.{no_form}
use Rattle.line_fields.specs.Numbers.{words_in}
use Rattle.script_reading.specs.Reading.{too_many}
use Rattle.script_reading.specs.Sentences.{GivesNoValue, HasNoForm, IsBadItself, IsCauseOf, IsModeOf, NamesNoMode, NamesNothing}
use Rattle.script_reading.proofs.Asking.{at_place, is_machine}
use Rattle.script_reading.proofs.Naming.{is_named, mode_found, named_is, named_nothing, no_mode_found, nothing_named}
use Rattle.script_reading.proofs.Phrasing.{only_phrase, phrase_back, phrase_found}
use Rattle.script_reading.proofs.Steps.{runs_in-more, ticks_in-more}

-- ---- a line with a form says what its phrase means

text_says : (p : Plan) (ph : Phrase) → saying p (phrase_text ph) ≡ meaning_in p (phrase_in (phrase_text ph))
text_says p (to_wait n) = refl
text_says p to_run = refl
text_says p (to_call Write name third) = refl
text_says p (to_call Send name third) = refl
text_says p (to_call Read name third) = refl
text_says p (to_call Receive name third) = refl
text_says p (to_call Ask name third) = refl
text_says p (to_call TakeResult name third) = refl
text_says p (to_call Switch name third) = refl
text_says p (to_call SeeMode name third) = refl

pub form_says : (p : Plan) (t : Letters) (ph : Phrase) → HasForm t ph → saying p t ≡ meaning p ph
form_says p t ph h = ap (saying p) h.text ∙ text_says p ph ∙ ap (meaning_in p) (phrase_back ph h.fits)

-- ---- modes

no_mode : (p : Plan) (m : ℕ) (name mode : Letters) → offered Switch p m ≡ Some name → mode_of p m mode ≡ None → (k : ℕ) → IsModeOf p m k mode → ⊥
no_mode p m name mode there none k is =
    let n = is_machine p m name there in
    no_mode_found n.machine.modes mode (sym (at_place p.machines m n.machine n.place (λ (v : MachinePlan). mode_in v.modes mode) None) ∙ none) k
    (sym (at_place p.machines m n.machine n.place (λ (v : MachinePlan). slice_get v.modes k) None) ∙ is)

mode_none : (p : Plan) (m : ℕ) (name mode : Letters) → offered Switch p m ≡ Some name → ((k : ℕ) → IsModeOf p m k mode → ⊥) → mode_of p m mode ≡ None
mode_none p m name mode there none = step (mode_of p m mode) refl
  where
    step : (o : Option ℕ) → mode_of p m mode ≡ o → mode_of p m mode ≡ None
    step None is = is
    step (Some k) is =
        let n = is_machine p m name there in
        let found = mode_found n.machine.modes mode k (sym (at_place p.machines m n.machine n.place (λ (v : MachinePlan). mode_in v.modes mode) None) ∙ is) in
        absurd (none k (at_place p.machines m n.machine n.place (λ (v : MachinePlan). slice_get v.modes k) None ∙ found))

-- ---- what is said of a bad line

same_cause : (a b : ℕ) → is_bad a ≡ is_bad b → b ≡ a
same_cause a b h = cc

value_bad : (p : Plan) (t : Letters) (f : Form) (name v : Letters) (x cause : ℕ) (a : Asked) → HasForm t (to_call f name (Some v)) → behind f ≡ follow.Value → IsNamed p f name x
    → cond (takes f p x (words_in v)) (asks a) (is_bad not_of_type) ≡ is_bad cause → IsBadItself p t cause
value_bad p t f name v x cause a form kind named h = step (takes f p x (words_in v)) refl h
  where
    step : (b : Bool) → takes f p x (words_in v) ≡ b → cond b (asks a) (is_bad not_of_type) ≡ is_bad cause → IsBadItself p t cause
    step true is h = absurd (cc)
    step false is h = inr (inr (same_cause not_of_type cause h, record { form = f; name = name; value = v; thing = x; call = form; with_value = kind; named = named; not_taken = is }))

call_bad : (p : Plan) (t : Letters) (f : Form) (name : Letters) (third : Option Letters) (x cause : ℕ) → third_fits (behind f) third ≡ true → HasForm t (to_call f name third) → IsNamed p f name x
    → call_at p f (behind f) x third ≡ is_bad cause → IsBadItself p t cause
call_bad p t Write name None x cause fits form named h = absurd (cc)
call_bad p t Write name (Some v) x cause fits form named h = value_bad p t Write name v x cause (a_call (to_write x (words_in v))) form refl named h
call_bad p t Send name None x cause fits form named h = absurd (cc)
call_bad p t Send name (Some v) x cause fits form named h = value_bad p t Send name v x cause (a_call (to_send x (words_in v))) form refl named h
call_bad p t Ask name None x cause fits form named h = absurd (cc)
call_bad p t Ask name (Some v) x cause fits form named h = value_bad p t Ask name v x cause (a_call (to_ask x (words_in v))) form refl named h
call_bad p t Read name third x cause fits form named h = absurd (cc)
call_bad p t Receive name third x cause fits form named h = absurd (cc)
call_bad p t TakeResult name third x cause fits form named h = absurd (cc)
call_bad p t SeeMode name third x cause fits form named h = absurd (cc)
call_bad p t Switch name None x cause fits form named h = absurd (cc)
call_bad p t Switch name (Some v) x cause fits form named h = step (mode_of p x v) refl h
  where
    step : (o : Option ℕ) → mode_of p x v ≡ o → switch_call x o ≡ is_bad cause → IsBadItself p t cause
    step (Some k) is h = absurd (cc)
    step None is h = inr (inl (same_cause no_such cause h, inr (record { machine = x; name = name; mode = v; call = form; named = named; nothing = no_mode p x name v named.named is })))

phrase_bad : (p : Plan) (t : Letters) (ph : Phrase) (cause : ℕ) → HasForm t ph → meaning p ph ≡ is_bad cause → IsBadItself p t cause
phrase_bad p t (to_wait n) cause form h = absurd (cc)
phrase_bad p t to_run cause form h = absurd (cc)
phrase_bad p t (to_call f name third) cause form h = step (number_of f p name) refl h
  where
    step : (o : Option ℕ) → number_of f p name ≡ o → named_call p f third o ≡ is_bad cause → IsBadItself p t cause
    step None is h = inr (inl (same_cause no_such cause h, inl (record { form = f; name = name; third = third; call = form; nothing = nothing_named p f name is })))
    step (Some x) is h = call_bad p t f name third x cause (and_parts _ (third_fits (behind f) third) form.fits).1 form (is_named p f name x is) h

pub said_bad : (p : Plan) (t : Letters) (cause : ℕ) → saying p t ≡ is_bad cause → IsBadItself p t cause
said_bad p [] cause h = absurd (cc)
said_bad p (c ∷ cs) cause h = blank (c == 35) refl h
  where
    of_phrase : (c == 35) ≡ false → (o : Option Phrase) → phrase_in (c ∷ cs) ≡ o → meaning_in p o ≡ is_bad cause → IsBadItself p (c ∷ cs) cause
    of_phrase more None is h = inl (same_cause no_form cause h, record { not_blank = more; none = λ ph form. let one : phrase_in (c ∷ cs) ≡ Some ph = only_phrase (c ∷ cs) ph form in absurd (cc) })
    of_phrase more (Some ph) is h = phrase_bad p (c ∷ cs) ph cause (phrase_found (c ∷ cs) ph is) h

    blank : (b : Bool) → (c == 35) ≡ b → cond b nothing (meaning_in p (phrase_in (c ∷ cs))) ≡ is_bad cause → IsBadItself p (c ∷ cs) cause
    blank true is h = absurd (cc)
    blank false is h = of_phrase is (phrase_in (c ∷ cs)) refl h

-- ---- and back

no_form_said : (p : Plan) (t : Letters) → HasNoForm t → saying p t ≡ is_bad no_form
no_form_said p [] h = let no : true ≡ false = h.not_blank in absurd (cc)
no_form_said p (c ∷ cs) h = ap (λ b. cond b nothing (meaning_in p (phrase_in (c ∷ cs)))) h.not_blank ∙ step (phrase_in (c ∷ cs)) refl
  where
    step : (o : Option Phrase) → phrase_in (c ∷ cs) ≡ o → meaning_in p o ≡ is_bad no_form
    step None is = refl
    step (Some ph) is = absurd (h.none ph (phrase_found (c ∷ cs) ph is))

nothing_said : (p : Plan) (t : Letters) → NamesNothing p t → saying p t ≡ is_bad no_such
nothing_said p t h = form_says p t (to_call h.form h.name h.third) h.call ∙ ap (named_call p h.form h.third) (named_nothing p h.form h.name h.nothing)

no_mode_said : (p : Plan) (t : Letters) → NamesNoMode p t → saying p t ≡ is_bad no_such
no_mode_said p t h =
    form_says p t (to_call Switch h.name (Some h.mode)) h.call
    ∙ ap (named_call p Switch (Some h.mode)) (named_is p Switch h.name h.machine h.named)
    ∙ ap (switch_call h.machine) (mode_none p h.machine h.name h.mode h.named.named h.nothing)

no_value_said : (p : Plan) (t : Letters) → GivesNoValue p t → saying p t ≡ is_bad not_of_type
no_value_said p t h =
    form_says p t (to_call h.form h.name (Some h.value)) h.call
    ∙ ap (named_call p h.form (Some h.value)) (named_is p h.form h.name h.thing h.named)
    ∙ ap (λ k. call_at p h.form k h.thing (Some h.value)) h.with_value
    ∙ ap (λ b. cond b (call_with h.form h.thing (words_in h.value)) (is_bad not_of_type)) h.not_taken

pub bad_said : (p : Plan) (t : Letters) (cause : ℕ) → IsBadItself p t cause → saying p t ≡ is_bad cause
bad_said p t cause (inl h) = no_form_said p t h.1 ∙ ap is_bad (sym h.0)
bad_said p t cause (inr (inl (e, inl h))) = nothing_said p t h ∙ ap is_bad (sym e)
bad_said p t cause (inr (inl (e, inr h))) = no_mode_said p t h ∙ ap is_bad (sym e)
bad_said p t cause (inr (inr h)) = no_value_said p t h.1 ∙ ap is_bad (sym h.0)

-- ---- the least cause

pub passes_is : (say : Letters → Saying) (before : List Letters) (t : Letters) → passes say before (say t) ≡ pass_limit say (before ++ t ∷ [])
passes_is say before t =
    ap (λ n. are_too_many n (ticks_in say before + ticks_said (say t)) (runs_in say before + runs_said (say t))) (sym (length-append before (t ∷ [])))
    ∙ ap (λ n. are_too_many (length (before ++ t ∷ [])) n (runs_in say before + runs_said (say t))) (sym (ticks_in-more say before t))
    ∙ ap (are_too_many (length (before ++ t ∷ [])) (ticks_in say (before ++ t ∷ []))) (sym (runs_in-more say before t))

not_itself : (p : Plan) (t : Letters) (s : Saying) → saying p t ≡ s → ((cause : ℕ) → s ≡ is_bad cause → ⊥) → (cause : ℕ) → IsBadItself p t cause → ⊥
not_itself p t s is none cause bad = none cause (sym is ∙ bad_said p t cause bad)

past_cause : (p : Plan) (before : List Letters) (t : Letters) (cause : ℕ) → (b : Bool) → pass_limit (saying p) (before ++ t ∷ []) ≡ b → ((k : ℕ) → IsBadItself p t k → ⊥)
    → cond b (Some too_many) None ≡ Some cause → IsCauseOf p before t cause
past_cause p before t cause true is good h = inr ((let same : too_many ≡ cause = cc in sym same), record { good_itself = good; passes = is })
past_cause p before t cause false is good h = absurd (cc)

pub cause_is_one : (p : Plan) (before : List Letters) (t : Letters) (cause : ℕ) → cause_of (saying p) before t ≡ Some cause → IsCauseOf p before t cause
cause_is_one p before t cause h = step (saying p t) refl (sym (ap (λ b. least_cause b (saying p t)) (passes_is (saying p) before t)) ∙ h)
  where
    step : (s : Saying) → saying p t ≡ s → least_cause (pass_limit (saying p) (before ++ t ∷ [])) s ≡ Some cause → IsCauseOf p before t cause
    step (is_bad k) is h = let same : k ≡ cause = cc in inl (said_bad p t cause (is ∙ ap is_bad same))
    step nothing is h = past_cause p before t cause (pass_limit (saying p) (before ++ t ∷ [])) refl (not_itself p t nothing is (λ k e. cc)) h
    step (asks a) is h = past_cause p before t cause (pass_limit (saying p) (before ++ t ∷ [])) refl (not_itself p t (asks a) is (λ k e. cc)) h

past_is : (p : Plan) (t : Letters) (s : Saying) → saying p t ≡ s → ((k : ℕ) → IsBadItself p t k → ⊥) → least_cause true s ≡ Some too_many
past_is p t (is_bad k) is good = absurd (good k (said_bad p t k is))
past_is p t nothing is good = refl
past_is p t (asks a) is good = refl

pub one_is_cause : (p : Plan) (before : List Letters) (t : Letters) (cause : ℕ) → IsCauseOf p before t cause → cause_of (saying p) before t ≡ Some cause
one_is_cause p before t cause (inl bad) = ap (least_cause (passes (saying p) before (saying p t))) (bad_said p t cause bad)
one_is_cause p before t cause (inr past) =
    ap (λ b. least_cause b (saying p t)) (passes_is (saying p) before t ∙ past.1.passes)
    ∙ past_is p t (saying p t) refl past.1.good_itself
    ∙ ap (λ k. Some k) (sym past.0)
