-- Values whose kind a word of theirs tells.
use Rattle.std.proofs.Common.{◌≡◌, ℕ, List, [], ◌∷◌, Bool, true, false, ◌&&◌, cond, bytes_eq, codes, Option, Some, None, refl, sym, ap, subst, ◌∙◌, ◌⊎◌, inl, inr}
use Rattle.bus_semantics.specs.Common.{find, list_all, slice_get, option_and_then, unwrap_or, and_parts, and_from, or_cases, false≢true, bytes_eq-Decides}
use Rattle.std.proofs.lemmas.Bool.{cond_both}
use Rattle.serde_json.specs.Data.{Data, null, boolean, number, string, array, object}
use Rattle.serde_json.specs.Find.{as_str}
use Rattle.declared_names.specs.Values.{text_at}
use Rattle.description_shapes.specs.declared.kind.Kind.{Kind}
use Rattle.description_shapes.specs.declared.kind.Kind.TheVariants as of_kind
use Rattle.description_shapes.specs.Alternatives.{Choice, by_activation, choice, choices_of, kind_of, pick_if, resolved, word_at}
use Rattle.description_places.specs.declared.catalogs.Catalog.{Catalog}
use Rattle.description_shapes.specs.Forms.{form_of}
use Rattle.description_shapes.specs.Keys.{Key, keys_of, needed}
use Rattle.description_shapes.specs.Rows.{words_of}
use Rattle.description_shapes.specs.Shape.{holds, is_among}
use Rattle.description_shapes.specs.Spots.{Spot, inside}
use Rattle.description_shapes.specs.Visits.{visit_at, visits, items_visits, members_visits, in_array, in_object}
use Rattle.description_stages.proofs.Shapes.{is_object}
use Rattle.description_stages.proofs.Kept.{Part, Kept, shape_here}
use Rattle.description_stages.proofs.Lists.{IsIn}
use Rattle.description_stages.proofs.Shorts.{Value, needed_value, same_key}

-- ---- the kind that a word picks

-- the kind passes a test that each choice passes
kind_fine : (test : Kind → Bool) (other : Kind) (c : Option Choice) (cs : List Choice) (word : List ℕ) → c ≡ find (λ c. bytes_eq c.word word) cs
    → test other ≡ true → list_all (λ (c : Choice). test c.kind) cs ≡ true → test (kind_of other c) ≡ true
kind_fine test other c [] word e fine h = subst (λ c. test (kind_of other c) ≡ true) (sym e) fine
kind_fine test other c (x ∷ cs) word e fine h =
    subst (λ c. test (kind_of other c) ≡ true) (sym e)
    (cond_both (bytes_eq x.word word) (Some x) (find (λ c. bytes_eq c.word word) cs) (λ c. test (kind_of other c) ≡ true)
    (λ is. (and_parts _ _ h).0)
    (λ is. kind_fine test other (find (λ c. bytes_eq c.word word) cs) cs word refl fine (and_parts _ _ h).1))

pub pick_fine : (test : Kind → Bool) (cs : List Choice) (other : Kind) (word : Option (List ℕ)) → test other ≡ true → list_all (λ (c : Choice). test c.kind) cs ≡ true
    → test (pick_if cs other word) ≡ true
pick_fine test cs other None fine h = fine
pick_fine test cs other (Some word) fine h = kind_fine test other (find (λ c. bytes_eq c.word word) cs) cs word refl fine h

pub activation_fine : (test : Kind → Bool) (kind : Kind) (d : Data) → test of_kind.ModeTransitionEvent ≡ true → test kind ≡ true → test (by_activation kind d) ≡ true
activation_fine test of_kind.ModeSwitchEvent d other fine = pick_fine test (choices_of of_kind.ModeSwitchEvent) of_kind.ModeSwitchEvent (word_at (codes "activation") d) fine (and_from _ _ other refl)
activation_fine test _ d other fine = fine

-- ---- values

pub same_visits : (d : Data) (kind other : Kind) (s : Spot) → resolved kind d ≡ other → resolved other d ≡ other → visits d kind s ≡ visits d other s
same_visits null kind other s e f = ap (λ r. visit_at s r null ∷ []) (e ∙ sym f)
same_visits (boolean b) kind other s e f = ap (λ r. visit_at s r (boolean b) ∷ []) (e ∙ sym f)
same_visits (number n) kind other s e f = ap (λ r. visit_at s r (number n) ∷ []) (e ∙ sym f)
same_visits (string t) kind other s e f = ap (λ r. visit_at s r (string t) ∷ []) (e ∙ sym f)
same_visits (array ps) kind other s e f = ap (λ r. visit_at s r (array ps) ∷ in_array r (array ps) s (items_visits ps)) (e ∙ sym f)
same_visits (object ms) kind other s e f = ap (λ r. visit_at s r (object ms) ∷ in_object r (object ms) s (members_visits ms)) (e ∙ sym f)

pub among_in : (words : List (List ℕ)) (text : List ℕ) → is_among words text ≡ true → IsIn text words
among_in [] text h = absurd (false≢true h)
among_in (w ∷ words) text h = by_case (or_cases (bytes_eq w text) (is_among words text) h) (among_in words text)
  where
    by_case : (bytes_eq w text ≡ true) ⊎ (is_among words text ≡ true) → (is_among words text ≡ true → IsIn text words) → IsIn text (w ∷ words)
    by_case (inl e) more = inl (sym ((bytes_eq-Decides w text).0 e))
    by_case (inr h) more = inr (more h)

-- a value that is one of the words of its kind
pub word_value : (words : List (List ℕ)) (o : Option (List ℕ)) → holds (is_among words) o ≡ true → (w : List ℕ) × (o ≡ Some w) × IsIn w words
word_value words None h = absurd (false≢true h)
word_value words (Some w) h = (w, refl, among_in words w h)

-- ---- the word at the key `kind`, which stands first in each table

abbrev is_interface_word : Kind → Bool
is_interface_word of_kind.InterfaceKind = true
is_interface_word _ = false

abbrev is_event_word : Kind → Bool
is_event_word of_kind.EventKind = true
is_event_word _ = false

interface_word : (kind : Kind) → is_interface_word kind ≡ true → kind ≡ of_kind.InterfaceKind
interface_word of_kind.InterfaceKind h = refl
interface_word _ h = absurd (false≢true h)

event_word : (kind : Kind) → is_event_word kind ≡ true → kind ≡ of_kind.EventKind
event_word of_kind.EventKind h = refl
event_word _ h = absurd (false≢true h)

abbrev is_kind_key : (Kind → Bool) → Option Key → Bool
is_kind_key test None = false
is_kind_key test (Some k) = k.is_needed && (bytes_eq k.name (codes "kind") && test k.kind)

abbrev pub begins_with_kind : (Kind → Bool) → Kind → Bool
begins_with_kind test kind = is_object (form_of kind) && is_kind_key test (slice_get (keys_of kind) 0)

kind_value : (lists : Catalog) (x : Data) (kind : Kind) (s : Spot) (test : Kind → Bool) (word : Kind) → ((k : Kind) → test k ≡ true → k ≡ word) → begins_with_kind test (resolved kind x) ≡ true → Kept lists x kind s
    → Value lists x kind s (needed "kind" word)
kind_value lists x kind s test word same h kept = by_key (slice_get (keys_of (resolved kind x)) 0) refl (and_parts (is_object (form_of (resolved kind x))) _ h).1
  where
    by_key : (o : Option Key) → slice_get (keys_of (resolved kind x)) 0 ≡ o → is_kind_key test o ≡ true → Value lists x kind s (needed "kind" word)
    by_key None e is = absurd (false≢true is)
    by_key (Some k) e is =
        let parts = and_parts k.is_needed _ is in
        let rest = and_parts (bytes_eq k.name (codes "kind")) _ parts.1 in
        let key_is = same_key k (codes "kind") word parts.0 ((bytes_eq-Decides k.name (codes "kind")).0 rest.0) (same k.kind rest.1) in
        needed_value lists x kind s 0 (needed "kind" word) (and_parts (is_object (form_of (resolved kind x))) _ h).0 (e ∙ ap (λ j. Some j) key_is) refl kept

-- the word, which the text there is
pub record Worded (x : Data) (words : List (List ℕ)) : Type 0 where
  pub word : List ℕ
  pub there : word_at (codes "kind") x ≡ Some word
  pub one : IsIn word words

worded_from : (lists : Catalog) (x : Data) (kind : Kind) (s : Spot) (k : Kind) (words : List (List ℕ)) (v : Value lists x kind s (needed "kind" k)) → holds (is_among words) (as_str v.value) ≡ true → Worded x words
worded_from lists x kind s k words v h =
    let w = word_value words (as_str v.value) h in
    record { word = w.0; there = ap (option_and_then as_str) v.there ∙ w.1; one = w.2 }

pub interface_worded : (lists : Catalog) (x : Data) (s : Spot) → Kept lists x of_kind.Interface s → Worded x (words_of of_kind.InterfaceKind)
interface_worded lists x s kept =
    let v = kind_value lists x of_kind.Interface s is_interface_word of_kind.InterfaceKind interface_word
    (pick_fine (begins_with_kind is_interface_word) (choices_of of_kind.Interface) of_kind.UnknownInterface (word_at (codes "kind") x) refl refl) kept in
    worded_from lists x of_kind.Interface s of_kind.InterfaceKind (words_of of_kind.InterfaceKind) v (shape_here lists v.value of_kind.InterfaceKind (inside s (resolved of_kind.Interface x) x (codes "kind")) v.kept)

-- an interface is one of three kinds
pub record Found (x : Data) (kind other : Kind) (s : Spot) (word : List ℕ) : Type 0 where
  pub word_is : text_at (codes "kind") x ≡ word
  pub seen : visits x kind s ≡ visits x other s

pub interface_found : (lists : Catalog) (x : Data) (s : Spot) → Kept lists x of_kind.Interface s
    → Found x of_kind.Interface of_kind.SenderReceiverInterface s (codes "SenderReceiverInterface")
    ⊎ (Found x of_kind.Interface of_kind.ClientServerInterface s (codes "ClientServerInterface") ⊎ Found x of_kind.Interface of_kind.ModeSwitchInterface s (codes "ModeSwitchInterface"))
interface_found lists x s kept = by_word (interface_worded lists x s kept)
  where
    found : (word : List ℕ) (other : Kind) → word_at (codes "kind") x ≡ Some word → pick_if (choices_of of_kind.Interface) of_kind.UnknownInterface (Some word) ≡ other → resolved other x ≡ other → Found x of_kind.Interface other s word
    found word other there is still = record {
      word_is = ap (λ o. unwrap_or o []) there;
      seen = same_visits x of_kind.Interface other s (ap (pick_if (choices_of of_kind.Interface) of_kind.UnknownInterface) there ∙ is) still;
    }

    by_word : Worded x (words_of of_kind.InterfaceKind)
        → Found x of_kind.Interface of_kind.SenderReceiverInterface s (codes "SenderReceiverInterface")
        ⊎ (Found x of_kind.Interface of_kind.ClientServerInterface s (codes "ClientServerInterface") ⊎ Found x of_kind.Interface of_kind.ModeSwitchInterface s (codes "ModeSwitchInterface"))
    by_word w = by_case w.one
      where
        at : (word : List ℕ) → w.word ≡ word → word_at (codes "kind") x ≡ Some word
        at word e = w.there ∙ ap (λ t. Some t) e

        by_case : IsIn w.word (words_of of_kind.InterfaceKind)
            → Found x of_kind.Interface of_kind.SenderReceiverInterface s (codes "SenderReceiverInterface")
            ⊎ (Found x of_kind.Interface of_kind.ClientServerInterface s (codes "ClientServerInterface") ⊎ Found x of_kind.Interface of_kind.ModeSwitchInterface s (codes "ModeSwitchInterface"))
        by_case (inl e) = inl (found (codes "SenderReceiverInterface") of_kind.SenderReceiverInterface (at (codes "SenderReceiverInterface") e) refl refl)
        by_case (inr (inl e)) = inr (inl (found (codes "ClientServerInterface") of_kind.ClientServerInterface (at (codes "ClientServerInterface") e) refl refl))
        by_case (inr (inr (inl e))) = inr (inr (found (codes "ModeSwitchInterface") of_kind.ModeSwitchInterface (at (codes "ModeSwitchInterface") e) refl refl))
        by_case (inr (inr (inr none))) = absurd none

pub kept_as : (lists : Catalog) (x : Data) (kind other : Kind) (s : Spot) → visits x kind s ≡ visits x other s → Kept lists x kind s → Kept lists x other s
kept_as lists x kind other s e kept = subst (Part lists) e kept

-- ---- events

pub event_worded : (lists : Catalog) (x : Data) (s : Spot) → Kept lists x of_kind.Event s → Worded x (words_of of_kind.EventKind)
event_worded lists x s kept =
    let v = kind_value lists x of_kind.Event s is_event_word of_kind.EventKind event_word
    (activation_fine (begins_with_kind is_event_word) (pick_if (choices_of of_kind.Event) of_kind.UnknownEvent (word_at (codes "kind") x)) x refl
    (pick_fine (begins_with_kind is_event_word) (choices_of of_kind.Event) of_kind.UnknownEvent (word_at (codes "kind") x) refl refl)) kept in
    worded_from lists x of_kind.Event s of_kind.EventKind (words_of of_kind.EventKind) v (shape_here lists v.value of_kind.EventKind (inside s (resolved of_kind.Event x) x (codes "kind")) v.kept)

-- an event is of one of eight kinds, two of which have one word
abbrev pub EventFound : Data → Spot → Type 0
EventFound x s =
    Found x of_kind.Event of_kind.TimingEvent s (codes "TimingEvent")
    ⊎ (Found x of_kind.Event of_kind.InitEvent s (codes "InitEvent")
    ⊎ (Found x of_kind.Event of_kind.DataReceivedEvent s (codes "DataReceivedEvent")
    ⊎ (Found x of_kind.Event of_kind.OperationInvokedEvent s (codes "OperationInvokedEvent")
    ⊎ (Found x of_kind.Event of_kind.CallReturnsEvent s (codes "AsynchronousServerCallReturnsEvent")
    ⊎ (Found x of_kind.Event of_kind.ModeSwitchEvent s (codes "SwcModeSwitchEvent")
    ⊎ (Found x of_kind.Event of_kind.ModeTransitionEvent s (codes "SwcModeSwitchEvent")
    ⊎ Found x of_kind.Event of_kind.ModeSwitchAckEvent s (codes "ModeSwitchedAckEvent")))))))

pub event_found : (lists : Catalog) (x : Data) (s : Spot) → Kept lists x of_kind.Event s → EventFound x s
event_found lists x s kept = by_word (event_worded lists x s kept)
  where
    found : (word : List ℕ) (other : Kind) → word_at (codes "kind") x ≡ Some word → by_activation (pick_if (choices_of of_kind.Event) of_kind.UnknownEvent (Some word)) x ≡ other → resolved other x ≡ other → Found x of_kind.Event other s word
    found word other there is still = record {
      word_is = ap (λ o. unwrap_or o []) there;
      seen = same_visits x of_kind.Event other s (ap (λ o. by_activation (pick_if (choices_of of_kind.Event) of_kind.UnknownEvent o) x) there ∙ is) still;
    }

    switched : (o : Option (List ℕ)) → (pick_if (choices_of of_kind.ModeSwitchEvent) of_kind.ModeSwitchEvent o ≡ of_kind.ModeSwitchEvent) ⊎ (pick_if (choices_of of_kind.ModeSwitchEvent) of_kind.ModeSwitchEvent o ≡ of_kind.ModeTransitionEvent)
    switched None = inl refl
    switched (Some w) = by_test (bytes_eq (codes "onTransition") w)
      where
        by_test : (b : Bool) → (kind_of of_kind.ModeSwitchEvent (cond b (Some (choice "onTransition" of_kind.ModeTransitionEvent)) None) ≡ of_kind.ModeSwitchEvent) ⊎ (kind_of of_kind.ModeSwitchEvent (cond b (Some (choice "onTransition" of_kind.ModeTransitionEvent)) None) ≡ of_kind.ModeTransitionEvent)
        by_test true = inr refl
        by_test false = inl refl

    by_word : Worded x (words_of of_kind.EventKind) → EventFound x s
    by_word w = by_case w.one
      where
        at : (word : List ℕ) → w.word ≡ word → word_at (codes "kind") x ≡ Some word
        at word e = w.there ∙ ap (λ t. Some t) e

        by_mode : w.word ≡ codes "SwcModeSwitchEvent" → (pick_if (choices_of of_kind.ModeSwitchEvent) of_kind.ModeSwitchEvent (word_at (codes "activation") x) ≡ of_kind.ModeSwitchEvent) ⊎ (pick_if (choices_of of_kind.ModeSwitchEvent) of_kind.ModeSwitchEvent (word_at (codes "activation") x) ≡ of_kind.ModeTransitionEvent)
            → EventFound x s
        by_mode e (inl is) = inr (inr (inr (inr (inr (inl (found (codes "SwcModeSwitchEvent") of_kind.ModeSwitchEvent (at (codes "SwcModeSwitchEvent") e) is refl))))))
        by_mode e (inr is) = inr (inr (inr (inr (inr (inr (inl (found (codes "SwcModeSwitchEvent") of_kind.ModeTransitionEvent (at (codes "SwcModeSwitchEvent") e) is refl)))))))

        by_case : IsIn w.word (words_of of_kind.EventKind) → EventFound x s
        by_case (inl e) = inl (found (codes "TimingEvent") of_kind.TimingEvent (at (codes "TimingEvent") e) refl refl)
        by_case (inr (inl e)) = inr (inl (found (codes "InitEvent") of_kind.InitEvent (at (codes "InitEvent") e) refl refl))
        by_case (inr (inr (inl e))) = inr (inr (inl (found (codes "DataReceivedEvent") of_kind.DataReceivedEvent (at (codes "DataReceivedEvent") e) refl refl)))
        by_case (inr (inr (inr (inl e)))) = inr (inr (inr (inl (found (codes "OperationInvokedEvent") of_kind.OperationInvokedEvent (at (codes "OperationInvokedEvent") e) refl refl))))
        by_case (inr (inr (inr (inr (inl e))))) = inr (inr (inr (inr (inl (found (codes "AsynchronousServerCallReturnsEvent") of_kind.CallReturnsEvent (at (codes "AsynchronousServerCallReturnsEvent") e) refl refl)))))
        by_case (inr (inr (inr (inr (inr (inl e)))))) = by_mode e (switched (word_at (codes "activation") x))
        by_case (inr (inr (inr (inr (inr (inr (inl e))))))) = inr (inr (inr (inr (inr (inr (inr (found (codes "ModeSwitchedAckEvent") of_kind.ModeSwitchAckEvent (at (codes "ModeSwitchedAckEvent") e) refl refl)))))))
        by_case (inr (inr (inr (inr (inr (inr (inr none))))))) = absurd none
