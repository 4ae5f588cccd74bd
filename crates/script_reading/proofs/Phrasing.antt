-- A text has one of the forms exactly where it is the text of a phrase, and that phrase is the only one.
use Rattle.std.proofs.Common.{◌≡◌, ℕ, ◌^◌, ◌<◌, ◌≤◌, Bool, true, false, ◌&&◌, cond, List, [], ◌∷◌, ◌++◌, bytes_eq, codes, decimal, Option, Some, None, refl, sym, ap, ◌∙◌, subst}
use Rattle.std.proofs.Common.{append_assoc, arith, nat_le}
use Rattle.bus_semantics.specs.Common.{and_parts, and_from, leb-true, append-nil, bytes_eq-Decides, is_in, Letters, spaced}
use Rattle.script_reading.specs.Common.{Form, Write, Send, Read, Receive, Ask, TakeResult, Switch, SeeMode, Phrase, to_wait, to_run, to_call, behind, is_phrase, phrase_in, phrase_text}
use Rattle.script_reading.specs.Common.{third_fits, HasForm}
use Rattle.script_reading.specs.declared.forms.Follows.{Follows}
use Rattle.script_reading.specs.declared.forms.Follows.TheVariants as follow
use Rattle.script_reading.specs.Forms.{by_fields, call_phrase, form_of, keyword, third_text, tick_phrase}
use Rattle.line_fields.specs.Numbers.{is_number, number_in}
use Rattle.line_fields.specs.Texts.{is_pair_name, parts}
use Rattle.line_fields.proofs.Spelt.{decimal_back, decimal_is_number, number_spelt}
use Rattle.line_fields.proofs.Joining.{joined, joined-parts, lacks, parts-join, parts-one}
use Rattle.line_fields.proofs.Spaces.{name_lacks, number_lacks, pair_lacks, value_lacks}

-- so few ticks have few digits
few : (n : ℕ) → is_in 1 100000 n ≡ true → n < 2 ^ 64
few n h = let top : n ≤ 100000 = leb-true n 100000 (and_parts (nat_le 1 n) (nat_le n 100000) h).1 in omega arith

-- ---- words

same_text : (t u : Letters) → bytes_eq t u ≡ true → t ≡ u
same_text t u h = (bytes_eq-Decides t u).0 h

-- what a choice between some phrase and none, or further choices, comes from
if_some : {X : Type 0} (b : Bool) (x y : X) → cond b (Some x) None ≡ Some y → (b ≡ true) × (x ≡ y)
if_some {X} true x y h = (refl, cc)
if_some {X} false x y h = absurd (cc)

one_form : (t : Letters) (g f : Form) (other : Option Form) → (other ≡ Some f → t ≡ keyword f) → cond (bytes_eq t (keyword g)) (Some g) other ≡ Some f → t ≡ keyword f
one_form t g f other later h = step (bytes_eq t (keyword g)) refl h
  where
    step : (b : Bool) → bytes_eq t (keyword g) ≡ b → cond b (Some g) other ≡ Some f → t ≡ keyword f
    step true is h = let same : g ≡ f = cc in same_text t (keyword g) is ∙ ap keyword same
    step false is h = later h

form_is : (t : Letters) (f : Form) → form_of t ≡ Some f → t ≡ keyword f
form_is t f h = one_form t Write f _ (λ h. one_form t Send f _ (λ h. one_form t Read f _ (λ h. one_form t Receive f _ (λ h. one_form t Ask f _ (λ h. one_form t TakeResult f _
    (λ h. one_form t Switch f _ (λ h. one_form t SeeMode f None (λ h. absurd (cc)) h) h) h) h) h) h) h) h

keyword_form : (f : Form) → form_of (keyword f) ≡ Some f
keyword_form Write = refl
keyword_form Send = refl
keyword_form Read = refl
keyword_form Receive = refl
keyword_form Ask = refl
keyword_form TakeResult = refl
keyword_form Switch = refl
keyword_form SeeMode = refl

keyword_lacks : (f : Form) → lacks 32 (keyword f) ≡ true
keyword_lacks Write = refl
keyword_lacks Send = refl
keyword_lacks Read = refl
keyword_lacks Receive = refl
keyword_lacks Ask = refl
keyword_lacks TakeResult = refl
keyword_lacks Switch = refl
keyword_lacks SeeMode = refl

keyword_no_tick : (f : Form) → bytes_eq (keyword f) (codes "tick") ≡ false
keyword_no_tick Write = refl
keyword_no_tick Send = refl
keyword_no_tick Read = refl
keyword_no_tick Receive = refl
keyword_no_tick Ask = refl
keyword_no_tick TakeResult = refl
keyword_no_tick Switch = refl
keyword_no_tick SeeMode = refl

-- ---- from a text to its phrase

tick_back : (w x : Letters) (ph : Phrase) → bytes_eq w (codes "tick") ≡ true → tick_phrase x ≡ Some ph → HasForm (joined 32 (w ∷ x ∷ [])) ph
tick_back w x ph is h =
    let found = if_some (is_number x && is_in 1 100000 (number_in x)) (to_wait (number_in x)) ph h in
    let two = and_parts (is_number x) (is_in 1 100000 (number_in x)) found.0 in
    let spelt : decimal (number_in x) ≡ x = number_spelt x two.0 (few (number_in x) two.1) in
    subst (λ p. HasForm (joined 32 (w ∷ x ∷ [])) p) found.1 (record {
      fits = two.1;
      text = ap (λ t. t ++ 32 ∷ (x ++ [])) (same_text w (codes "tick") is) ∙ ap (λ t. codes "tick" ++ 32 ∷ t) (append-nil x ∙ sym spelt);
    })

call_back : (w x : Letters) (third : Option Letters) (ph : Phrase) (o : Option Form) → (o ≡ form_of w) → call_phrase o x third ≡ Some ph → HasForm (w ++ spaced x ++ third_text third) ph
call_back w x third ph None is h = absurd (cc)
call_back w x third ph (Some f) is h =
    let found = if_some (is_phrase (to_call f x third)) (to_call f x third) ph h in
    subst (λ p. HasForm (w ++ spaced x ++ third_text third) p) found.1 (record {
      fits = found.0;
      text = ap (λ t. t ++ spaced x ++ third_text third) (form_is w f (sym is));
    })

fields_back : (ts : List Letters) (ph : Phrase) → by_fields ts ≡ Some ph → HasForm (joined 32 ts) ph
fields_back [] ph h = absurd (cc)
fields_back (w ∷ []) ph h =
    let found = if_some (bytes_eq w (codes "run")) to_run ph h in
    subst (λ p. HasForm (joined 32 (w ∷ [])) p) found.1 (record { fits = refl; text = append-nil w ∙ same_text w (codes "run") found.0 })
fields_back (w ∷ x ∷ []) ph h = step (bytes_eq w (codes "tick")) refl h
  where
    step : (b : Bool) → bytes_eq w (codes "tick") ≡ b → cond b (tick_phrase x) (call_phrase (form_of w) x None) ≡ Some ph → HasForm (joined 32 (w ∷ x ∷ [])) ph
    step true is h = tick_back w x ph is h
    step false is h = subst (λ t. HasForm t ph) (append_assoc w (spaced x) []) (call_back w x None ph (form_of w) refl h)
fields_back (w ∷ x ∷ y ∷ []) ph h =
    subst (λ t. HasForm t ph) (append_assoc w (spaced x) (spaced y) ∙ ap (λ t. w ++ 32 ∷ (x ++ 32 ∷ t)) (sym (append-nil y))) (call_back w x (Some y) ph (form_of w) refl h)
fields_back (w ∷ x ∷ y ∷ z ∷ more) ph h = absurd (cc)

pub phrase_found : (t : Letters) (ph : Phrase) → phrase_in t ≡ Some ph → HasForm t ph
phrase_found t ph h = subst (λ u. HasForm u ph) (joined-parts 32 t) (fields_back (parts 32 t) ph h)

-- ---- from a phrase to its text, and back

kind_lacks : (k : Follows) (t : Letters) → third_fits k (Some t) ≡ true → lacks 32 t ≡ true
kind_lacks follow.Nothing t h = absurd (cc)
kind_lacks follow.Value t h = value_lacks t h
kind_lacks follow.Mode t h = name_lacks t h

call_parts : (f : Form) (name : Letters) (third : Option Letters) → is_phrase (to_call f name third) ≡ true → by_fields (parts 32 (phrase_text (to_call f name third))) ≡ call_phrase (form_of (keyword f)) name third
call_parts f name None h =
    let named = pair_lacks name (and_parts (is_pair_name name) _ h).0 in
    ap (λ t. by_fields (parts 32 t)) (append-nil (keyword f ++ spaced name))
    ∙ ap by_fields (parts-join 32 (keyword f) name (keyword_lacks f) ∙ ap (λ ts. keyword f ∷ ts) (parts-one 32 name named))
    ∙ ap (λ b. cond b (tick_phrase name) (call_phrase (form_of (keyword f)) name None)) (keyword_no_tick f)
call_parts f name (Some t) h =
    let two = and_parts (is_pair_name name) (third_fits (behind f) (Some t)) h in
    ap (λ u. by_fields (parts 32 u)) (append_assoc (keyword f) (spaced name) (spaced t))
    ∙ ap by_fields (parts-join 32 (keyword f) (name ++ 32 ∷ t) (keyword_lacks f)
    ∙ ap (λ ts. keyword f ∷ ts) (parts-join 32 name t (pair_lacks name two.0) ∙ ap (λ ts. name ∷ ts) (parts-one 32 t (kind_lacks (behind f) t two.1))))

pub phrase_back : (ph : Phrase) → is_phrase ph ≡ true → phrase_in (phrase_text ph) ≡ Some ph
phrase_back (to_wait n) h =
    let less = few n h in
    let number = decimal_is_number n less in
    ap by_fields (parts-join 32 (codes "tick") (decimal n) refl ∙ ap (λ ts. codes "tick" ∷ ts) (parts-one 32 (decimal n) (number_lacks 32 refl (decimal n) number)))
    ∙ ap (λ v. cond (is_number (decimal n) && is_in 1 100000 v) (Some (to_wait v)) None) (decimal_back n less)
    ∙ ap (λ b. cond b (Some (to_wait n)) None) (and_from (is_number (decimal n)) (is_in 1 100000 n) number h)
phrase_back to_run h = refl
phrase_back (to_call f name third) h =
    call_parts f name third h
    ∙ ap (λ o. call_phrase o name third) (keyword_form f)
    ∙ ap (λ b. cond b (Some (to_call f name third)) None) h

pub only_phrase : (t : Letters) (ph : Phrase) → HasForm t ph → phrase_in t ≡ Some ph
only_phrase t ph h = ap phrase_in h.text ∙ phrase_back ph h.fits
