-- What a line asks for is what it spells, and the environment may ask for it.
use Rattle.std.proofs.Common.{◌≡◌, ℕ, ◌<◌, Bool, true, false, not, ◌&&◌, cond, ◌==◌, List, [], ◌∷◌, ◌++◌, length, codes, ℤ, is_none, nat_lt, Option, Some, None, refl, sym, ap, ◌∙◌, subst}
use Rattle.bus_semantics.specs.Common.{list_all, slice_get, option_map_or, and_parts, and_from, lt-ltb, append-nil, slice_get_within, same_number, holds, is_queued, is_unqueued, own_point}
use Rattle.bus_semantics.specs.Common.{Plan, look, is_within, Letters, elem_name, point_name, machine_name, mode_port_name, spaced, words_text, to_write, to_send, to_read, to_receive}
use Rattle.bus_semantics.specs.Common.{to_ask, to_take_result, to_switch, to_see_mode}
use Rattle.bus_semantics.specs.declared.plan.ElemPlan.{ElemPlan}
use Rattle.bus_semantics.specs.declared.plan.PointPlan.{PointPlan}
use Rattle.bus_semantics.specs.declared.plan.MachinePlan.{MachinePlan}
use Rattle.bus_semantics.specs.declared.plan.ModePortPlan.{ModePortPlan}
use Rattle.script_reading.specs.declared.forms.Form.{Form}
use Rattle.script_reading.specs.declared.forms.Form.TheVariants.{Write, Send, Read, Receive, Ask, TakeResult, Switch, SeeMode}
use Rattle.script_reading.specs.Forms.{Phrase, to_wait, to_run, to_call, behind, is_phrase, phrase_in, phrase_text, third_fits}
use Rattle.script_reading.specs.Meaning.{Asked, ticks, a_run, a_call, nothing, asks, is_bad, not_of_type, call_at, meaning, meaning_in, named_call, saying, switch_call}
use Rattle.line_fields.specs.Numbers.{are_held, words_in}
use Rattle.script_reading.specs.Offers.{elem_offered, elem_takes, is_for, machine_offered, mode_in, mode_of, mode_port_offered, named_if, number_of, point_offered, takes}
use Rattle.script_reading.specs.Sentences.{AsksFor, AsksOfFirst, IsFirst, IsFirstMode, IsNamed, may_ask, mode_name, text_of}
use Rattle.script_reading.proofs.Naming.{is_named, looked_up, mode_found, none_before}
use Rattle.script_reading.proofs.Phrasing.{phrase_found}
use Rattle.line_fields.proofs.Words.{value_spelt}

-- ---- names

pub if_named : (b : Bool) (t name : Letters) → named_if b t ≡ Some name → (b ≡ true) × (t ≡ name)
if_named true t name h = (refl, cc)
if_named false t name h = absurd (cc)

no_home : (o : Option ℕ) → is_none o ≡ true → same_number o None ≡ true
no_home None h = refl
no_home (Some i) h = absurd (cc)

-- what is looked up at a place
pub at_place : {X B : Type 0} (xs : List X) (x : ℕ) (e : X) → slice_get xs x ≡ Some e → (f : X → B) (otherwise : B) → look xs x f otherwise ≡ f e
at_place {X} {B} xs x e is f otherwise = ap (λ o. option_map_or f o otherwise) is

-- an element of an outer port that the form is for
record IsElem (p : Plan) (f : Form) (x : ℕ) (name : Letters) : Type 0 where
  element : ElemPlan
  place : slice_get p.elements x ≡ Some element
  outer : same_number element.instance None ≡ true
  kind : is_for f element ≡ true
  named : elem_name p x ≡ name

is_elem : (p : Plan) (f : Form) (x : ℕ) (name : Letters) → look p.elements x (elem_offered f) None ≡ Some name → IsElem p f x name
is_elem p f x name h =
    let l = looked_up p.elements x (elem_offered f) name h in
    let n = if_named (is_none l.item.instance && is_for f l.item) l.item.name name l.gives in
    let two = and_parts (is_none l.item.instance) (is_for f l.item) n.0 in
    record {
      element = l.item;
      place = l.at_is;
      outer = no_home l.item.instance two.0;
      kind = two.1;
      named = at_place p.elements x l.item l.at_is (λ (e : ElemPlan). e.name) [] ∙ n.1;
    }

elem_fits_at : (p : Plan) (f : Form) (x : ℕ) (name : Letters) (e : IsElem p f x name) (test : ElemPlan → Bool) → test e.element ≡ true
    → look p.elements x (λ (v : ElemPlan). same_number v.instance None && test v) false ≡ true
elem_fits_at p f x name e test h = at_place p.elements x e.element e.place (λ (v : ElemPlan). same_number v.instance None && test v) false ∙ and_from (same_number e.element.instance None) (test e.element) e.outer h

-- a value that it takes has as many words as it
elem_holds : (p : Plan) (f : Form) (x : ℕ) (name : Letters) (e : IsElem p f x name) (ws : List ℤ) → (are_held ws && look p.elements x (λ (v : ElemPlan). elem_takes v ws) false) ≡ true → holds ws e.element ≡ true
elem_holds p f x name e ws h =
    let taken = (and_parts (are_held ws) _ h).1 in
    (and_parts (length ws == e.element.words) (list_all (is_within e.element.limits) ws) (sym (at_place p.elements x e.element e.place (λ (v : ElemPlan). elem_takes v ws) false) ∙ taken)).0

record IsPoint (p : Plan) (q : ℕ) (name : Letters) : Type 0 where
  own : own_point p None q ≡ true
  named : point_name p q ≡ name

is_point : (p : Plan) (q : ℕ) (name : Letters) → look p.points q point_offered None ≡ Some name → IsPoint p q name
is_point p q name h =
    let l = looked_up p.points q point_offered name h in
    let n = if_named (is_none l.item.runnable) l.item.name name l.gives in
    let within : q < length p.points = slice_get_within p.points q l.item l.at_is in
    record {
      own = and_from (nat_lt q (length p.points)) _ (lt-ltb q (length p.points) within)
          (ap (λ o. same_number o None) (at_place p.points q l.item l.at_is (λ (t : PointPlan). t.runnable) None) ∙ no_home l.item.runnable n.0);
      named = at_place p.points q l.item l.at_is (λ (t : PointPlan). t.name) [] ∙ n.1;
    }

pub record IsMachine (p : Plan) (m : ℕ) (name : Letters) : Type 0 where
  pub machine : MachinePlan
  pub place : slice_get p.machines m ≡ Some machine
  outer : same_number machine.instance None ≡ true
  named : machine_name p m ≡ name

pub is_machine : (p : Plan) (m : ℕ) (name : Letters) → look p.machines m machine_offered None ≡ Some name → IsMachine p m name
is_machine p m name h =
    let l = looked_up p.machines m machine_offered name h in
    let n = if_named (is_none l.item.instance) l.item.name name l.gives in
    record { machine = l.item; place = l.at_is; outer = no_home l.item.instance n.0; named = at_place p.machines m l.item l.at_is (λ (v : MachinePlan). v.name) [] ∙ n.1 }

record IsModePort (p : Plan) (x : ℕ) (name : Letters) : Type 0 where
  fits : look p.mode_ports x (λ (t : ModePortPlan). same_number t.instance None) false ≡ true
  named : mode_port_name p x ≡ name

is_mode_port : (p : Plan) (x : ℕ) (name : Letters) → look p.mode_ports x mode_port_offered None ≡ Some name → IsModePort p x name
is_mode_port p x name h =
    let l = looked_up p.mode_ports x mode_port_offered name h in
    let n = if_named (is_none l.item.instance) l.item.name name l.gives in
    record {
      fits = at_place p.mode_ports x l.item l.at_is (λ (t : ModePortPlan). same_number t.instance None) false ∙ no_home l.item.instance n.0;
      named = at_place p.mode_ports x l.item l.at_is (λ (t : ModePortPlan). t.name) [] ∙ n.1;
    }

-- ---- texts

plain_text : (k : Letters) (n name : Letters) → n ≡ name → k ++ spaced name ++ [] ≡ k ++ spaced n
plain_text k n name e = append-nil (k ++ spaced name) ∙ ap (λ t. k ++ spaced t) (sym e)

full_text : (k : Letters) (n name v t : Letters) → n ≡ name → v ≡ t → k ++ spaced name ++ spaced t ≡ k ++ spaced n ++ spaced v
full_text k n name v t e d = ap (λ u. k ++ spaced u ++ spaced t) (sym e) ∙ ap (λ u. k ++ spaced n ++ spaced u) (sym d)

-- ---- calls

asked_same : (a b : Asked) → asks a ≡ asks b → a ≡ b
asked_same a b h = cc

good : (p : Plan) (t : Letters) (a b : Asked) → asks a ≡ asks b → AsksOfFirst p a → may_ask p a ≡ true → t ≡ text_of p a → AsksFor p t b
good p t a b e first may text = subst (λ x. AsksFor p t x) (asked_same a b e) (record { spelling = record { may = may; text = text }; first = first })

-- the first of a name, under the name that it has
still_first : (p : Plan) (f : Form) (x : ℕ) (name own : Letters) → own ≡ name → IsFirst p f x name → IsFirst p f x own
still_first p f x name own e first y less h = first y less (h ∙ ap (λ t. Some t) e)

-- a choice between what is asked for and a cause
if_asks : (b : Bool) (a c : Asked) (cause : ℕ) → cond b (asks a) (is_bad cause) ≡ asks c → (b ≡ true) × (asks a ≡ asks c)
if_asks true a c cause h = (refl, h)
if_asks false a c cause h = absurd (cc)

first_mode : (p : Plan) (m k : ℕ) (name : Letters) (n : MachinePlan) → slice_get p.machines m ≡ Some n → mode_in n.modes name ≡ Some k → mode_name p m k ≡ name → IsFirstMode p m k
first_mode p m k name n place found own y less is =
    none_before n.modes name k found y less (sym (at_place p.machines m n place (λ (v : MachinePlan). slice_get v.modes y) None) ∙ is ∙ ap (λ t. Some t) own)

call_asks : (p : Plan) (f : Form) (name : Letters) (third : Option Letters) (x : ℕ) (a : Asked) → third_fits (behind f) third ≡ true → IsNamed p f name x
    → call_at p f (behind f) x third ≡ asks a → AsksFor p (phrase_text (to_call f name third)) a
call_asks p Write name None x a fits n h = absurd (cc)
call_asks p Write name (Some t) x a fits n h =
    let e = is_elem p Write x name n.named in
    let c = if_asks (takes Write p x (words_in t)) (a_call (to_write x (words_in t))) a not_of_type h in
    let held = (and_parts (are_held (words_in t)) _ c.0).0 in
    good p _ (a_call (to_write x (words_in t))) a c.1 (still_first p Write x name (elem_name p x) e.named n.first)
    (and_from _ _ (elem_fits_at p Write x name e (λ v. (is_unqueued v && v.provided) && holds (words_in t) v) (and_from _ _ e.kind (elem_holds p Write x name e (words_in t) c.0))) c.0)
    (full_text (codes "write") (elem_name p x) name (words_text (words_in t)) t e.named (value_spelt t fits held))
call_asks p Send name None x a fits n h = absurd (cc)
call_asks p Send name (Some t) x a fits n h =
    let e = is_elem p Send x name n.named in
    let c = if_asks (takes Send p x (words_in t)) (a_call (to_send x (words_in t))) a not_of_type h in
    let held = (and_parts (are_held (words_in t)) _ c.0).0 in
    good p _ (a_call (to_send x (words_in t))) a c.1 (still_first p Send x name (elem_name p x) e.named n.first)
    (and_from _ _ (elem_fits_at p Send x name e (λ v. (is_queued v && v.provided) && holds (words_in t) v) (and_from _ _ e.kind (elem_holds p Send x name e (words_in t) c.0))) c.0)
    (full_text (codes "send") (elem_name p x) name (words_text (words_in t)) t e.named (value_spelt t fits held))
call_asks p Ask name None x a fits n h = absurd (cc)
call_asks p Ask name (Some t) x a fits n h =
    let q = is_point p x name n.named in
    let c = if_asks (takes Ask p x (words_in t)) (a_call (to_ask x (words_in t))) a not_of_type h in
    let held = (and_parts (are_held (words_in t)) _ c.0).0 in
    good p _ (a_call (to_ask x (words_in t))) a c.1 (still_first p Ask x name (point_name p x) q.named n.first) (and_from _ _ q.own c.0)
    (full_text (codes "ask") (point_name p x) name (words_text (words_in t)) t q.named (value_spelt t fits held))
call_asks p Read name None x a fits n h =
    let e = is_elem p Read x name n.named in
    good p _ (a_call (to_read x)) a h (still_first p Read x name (elem_name p x) e.named n.first) (elem_fits_at p Read x name e (λ v. is_unqueued v && not v.provided) e.kind) (plain_text (codes "read") (elem_name p x) name e.named)
call_asks p Read name (Some t) x a fits n h = absurd (cc)
call_asks p Receive name None x a fits n h =
    let e = is_elem p Receive x name n.named in
    good p _ (a_call (to_receive x)) a h (still_first p Receive x name (elem_name p x) e.named n.first) (elem_fits_at p Receive x name e (λ v. is_queued v && not v.provided) e.kind) (plain_text (codes "receive") (elem_name p x) name e.named)
call_asks p Receive name (Some t) x a fits n h = absurd (cc)
call_asks p TakeResult name None x a fits n h =
    let q = is_point p x name n.named in
    good p _ (a_call (to_take_result x)) a h (still_first p TakeResult x name (point_name p x) q.named n.first) q.own (plain_text (codes "result") (point_name p x) name q.named)
call_asks p TakeResult name (Some t) x a fits n h = absurd (cc)
call_asks p SeeMode name None x a fits n h =
    let m = is_mode_port p x name n.named in
    good p _ (a_call (to_see_mode x)) a h (still_first p SeeMode x name (mode_port_name p x) m.named n.first) m.fits (plain_text (codes "mode") (mode_port_name p x) name m.named)
call_asks p SeeMode name (Some t) x a fits n h = absurd (cc)
call_asks p Switch name None x a fits n h = absurd (cc)
call_asks p Switch name (Some t) x a fits n h = by_mode (mode_of p x t) refl h
  where
    by_mode : (o : Option ℕ) → mode_of p x t ≡ o → switch_call x o ≡ asks a → AsksFor p (phrase_text (to_call Switch name (Some t))) a
    by_mode None is h = absurd (cc)
    by_mode (Some k) is h =
        let m = is_machine p x name n.named in
        let found : mode_in m.machine.modes t ≡ Some k = sym (at_place p.machines x m.machine m.place (λ (n : MachinePlan). mode_in n.modes t) None) ∙ is in
        let place : slice_get m.machine.modes k ≡ Some t = mode_found m.machine.modes t k found in
        let within : k < length m.machine.modes = slice_get_within m.machine.modes k t place in
        let spelt : mode_name p x k ≡ t = at_place p.machines x m.machine m.place (λ (n : MachinePlan). look n.modes k (λ (u : Letters). u) []) [] ∙ at_place m.machine.modes k t place (λ (u : Letters). u) [] in
        good p _ (a_call (to_switch x k)) a h (still_first p Switch x name (machine_name p x) m.named n.first, first_mode p x k t m.machine m.place found spelt)
        (at_place p.machines x m.machine m.place (λ (n : MachinePlan). same_number n.instance None && nat_lt k (length n.modes)) false ∙ and_from (same_number m.machine.instance None) _ m.outer (lt-ltb k (length m.machine.modes) within))
        (full_text (codes "switch") (machine_name p x) name (mode_name p x k) t m.named spelt)

-- ---- lines

phrase_asks : (p : Plan) (ph : Phrase) (a : Asked) → is_phrase ph ≡ true → meaning p ph ≡ asks a → AsksFor p (phrase_text ph) a
phrase_asks p (to_wait n) a fits h = good p _ (ticks n) a h tt fits refl
phrase_asks p to_run a fits h = good p _ a_run a h tt refl refl
phrase_asks p (to_call f name third) a fits h = by_number (number_of f p name) refl h
  where
    by_number : (o : Option ℕ) → number_of f p name ≡ o → named_call p f third o ≡ asks a → AsksFor p (phrase_text (to_call f name third)) a
    by_number None is h = absurd (cc)
    by_number (Some x) is h = call_asks p f name third x a (and_parts _ (third_fits (behind f) third) fits).1 (is_named p f name x is) h

text_asks : (p : Plan) (t : Letters) (a : Asked) (o : Option Phrase) → phrase_in t ≡ o → meaning_in p o ≡ asks a → AsksFor p t a
text_asks p t a None is h = absurd (cc)
text_asks p t a (Some ph) is h = let f = phrase_found t ph is in subst (λ u. AsksFor p u a) (sym f.text) (phrase_asks p ph a f.fits h)

-- a line that asks for something is spelt so
pub saying_asks : (p : Plan) (t : Letters) (a : Asked) → saying p t ≡ asks a → AsksFor p t a
saying_asks p [] a h = absurd (cc)
saying_asks p (c ∷ cs) a h = step (c == 35) h
  where
    step : (b : Bool) → cond b nothing (meaning_in p (phrase_in (c ∷ cs))) ≡ asks a → AsksFor p (c ∷ cs) a
    step true h = absurd (cc)
    step false h = text_asks p (c ∷ cs) a (phrase_in (c ∷ cs)) refl h
