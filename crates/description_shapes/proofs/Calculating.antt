-- What a calculation holds is of a calculation; and where a plain value need not be looked at.
use Rattle.std.proofs.Common.{◌≡◌, ℕ, zero, suc, ◌+◌, List, [], ◌∷◌, ◌++◌, map, replicate, Bool, true, false, cond, Option, Some, None, option_map, bytes_eq, is_some, refl, sym, ap, ◌∙◌}
use Rattle.std.proofs.lemmas.Bool.{false≢true}
use Rattle.std.specs.List.{find, flat_map}
use Rattle.serde_json.specs.Data.{Data, null, boolean, number, string, array, object, Items, no_items, item, Members}
use Rattle.serde_json.specs.Find.{as_number, as_str, get_member}
use Rattle.description_shapes.specs.declared.form.Form.{Form}
use Rattle.description_shapes.specs.declared.form.Form.TheVariants as form
use Rattle.description_shapes.specs.declared.kind.Kind.{Kind}
use Rattle.description_shapes.specs.declared.kind.Kind.TheVariants as kind
use Rattle.description_shapes.specs.Alternatives.{Choice, choices_of, first_word, kind_of, pick_if, resolved}
use Rattle.description_shapes.specs.Calculations.{Calculation, assignment, expression, constant, name, operator, unknown, other, kind_in, IsCalculation, Passes}
use Rattle.description_shapes.specs.Forms.{form_of}
use Rattle.description_shapes.specs.Keys.{Key, keys_of}
use Rattle.description_shapes.specs.Skips.{is_plain, Skips}
use Rattle.description_shapes.specs.Spots.{Spot, inside, inside_part}
use Rattle.description_shapes.specs.Visits.{Visit, visit_at, at_key, visits, items_visits, members_visits, in_array, in_object, in_parts, part_of, under_keys, first_broken}
use Rattle.description_shapes.proofs.Walks.{at_key_found, visits_at}

-- ---- kinds

from_choices : (test : Choice → Bool) (n : ℕ) (cs : List Choice) → map (λ c. c.kind) cs ≡ replicate n kind.Operator → IsCalculation (kind_of kind.UnknownExpression (find test cs))
from_choices test n [] are = (unknown, refl)
from_choices test zero (c ∷ cs) are = absurd cc
from_choices test (suc n) (c ∷ cs) are = by (test c) (from_choices test n cs cc)
  where
    by : (b : Bool) → IsCalculation (kind_of kind.UnknownExpression (find test cs)) → IsCalculation (kind_of kind.UnknownExpression (cond b (Some c) (find test cs)))
    by true later = let e : c.kind ≡ kind.Operator = cc in (operator, e)
    by false later = later

picked : (word : Option (List ℕ)) → IsCalculation (pick_if (choices_of kind.Expression) kind.UnknownExpression word)
picked None = (unknown, refl)
picked (Some w) = from_choices (λ c. bytes_eq c.word w) 8 (choices_of kind.Expression) refl

found : (c : Calculation) (d : Data) → IsCalculation (resolved (kind_in c) d)
found assignment d = (assignment, refl)
found expression d = by (is_some (as_number d)) (is_some (as_str d))
  where
    by : (x y : Bool) → IsCalculation (cond x kind.Constant (cond y kind.LocalName (pick_if (choices_of kind.Expression) kind.UnknownExpression (first_word d))))
    by true y = (constant, refl)
    by false true = (name, refl)
    by false false = picked (first_word d)
found constant d = (constant, refl)
found name d = (name, refl)
found operator d = (operator, refl)
found unknown d = (unknown, refl)
found other d = (other, refl)

part : (c : Calculation) (i : ℕ) → IsCalculation (part_of (form_of (kind_in c)) (kind_in c) i)
part assignment zero = (other, refl)
part assignment (suc zero) = (name, refl)
part assignment (suc (suc zero)) = (expression, refl)
part assignment (suc (suc (suc i))) = (other, refl)
part expression i = (other, refl)
part constant i = (other, refl)
part name i = (other, refl)
part operator zero = (other, refl)
part operator (suc zero) = (expression, refl)
part operator (suc (suc zero)) = (expression, refl)
part operator (suc (suc (suc i))) = (other, refl)
part unknown i = (other, refl)
part other i = (other, refl)

no_keys : (c : Calculation) → keys_of (kind_in c) ≡ []
no_keys assignment = refl
no_keys expression = refl
no_keys constant = refl
no_keys name = refl
no_keys operator = refl
no_keys unknown = refl
no_keys other = refl

-- ---- plain kinds

plain_same : (k : Kind) (d : Data) → is_plain (form_of k) ≡ true → resolved k d ≡ k
plain_same kind.Interface d h = absurd (false≢true h)
plain_same kind.Event d h = absurd (false≢true h)
plain_same kind.Connector d h = absurd (false≢true h)
plain_same kind.Access d h = absurd (false≢true h)
plain_same kind.Statement d h = absurd (false≢true h)
plain_same kind.Expression d h = absurd (false≢true h)
plain_same _ d h = refl

plain_part : (f : Form) (k : Kind) (i : ℕ) → is_plain f ≡ true → part_of f k i ≡ kind.Anything
plain_part (form.List part) k i h = absurd (false≢true h)
plain_part (form.Counted least most part) k i h = absurd (false≢true h)
plain_part form.Row k i h = absurd (false≢true h)
plain_part _ k i h = refl

plain_keys : (k : Kind) → is_plain (form_of k) ≡ true → keys_of k ≡ []
plain_keys kind.Description h = absurd (false≢true h)
plain_keys kind.DataType h = absurd (false≢true h)
plain_keys kind.ModeGroup h = absurd (false≢true h)
plain_keys kind.SenderReceiverInterface h = absurd (false≢true h)
plain_keys kind.ClientServerInterface h = absurd (false≢true h)
plain_keys kind.ModeSwitchInterface h = absurd (false≢true h)
plain_keys kind.UnknownInterface h = absurd (false≢true h)
plain_keys kind.DataElement h = absurd (false≢true h)
plain_keys kind.Operation h = absurd (false≢true h)
plain_keys kind.Argument h = absurd (false≢true h)
plain_keys kind.OperationError h = absurd (false≢true h)
plain_keys kind.ModeElement h = absurd (false≢true h)
plain_keys kind.Component h = absurd (false≢true h)
plain_keys kind.Port h = absurd (false≢true h)
plain_keys kind.ComSpec h = absurd (false≢true h)
plain_keys kind.Behavior h = absurd (false≢true h)
plain_keys kind.Variable h = absurd (false≢true h)
plain_keys kind.Runnable h = absurd (false≢true h)
plain_keys kind.TimingEvent h = absurd (false≢true h)
plain_keys kind.InitEvent h = absurd (false≢true h)
plain_keys kind.DataReceivedEvent h = absurd (false≢true h)
plain_keys kind.OperationInvokedEvent h = absurd (false≢true h)
plain_keys kind.CallReturnsEvent h = absurd (false≢true h)
plain_keys kind.ModeSwitchEvent h = absurd (false≢true h)
plain_keys kind.ModeTransitionEvent h = absurd (false≢true h)
plain_keys kind.ModeSwitchAckEvent h = absurd (false≢true h)
plain_keys kind.UnknownEvent h = absurd (false≢true h)
plain_keys kind.DisabledModes h = absurd (false≢true h)
plain_keys kind.Composition h = absurd (false≢true h)
plain_keys kind.Prototype h = absurd (false≢true h)
plain_keys kind.AssemblyConnector h = absurd (false≢true h)
plain_keys kind.DelegationConnector h = absurd (false≢true h)
plain_keys kind.UnknownConnector h = absurd (false≢true h)
plain_keys kind.Mapping h = absurd (false≢true h)
plain_keys kind.Task h = absurd (false≢true h)
plain_keys kind.MappedEvent h = absurd (false≢true h)
plain_keys _ h = refl

-- ---- the values of a calculation

module _ (X : Type 0) (look : Visit → List X) (nothing : (c : Calculation) (v : Visit) → v.kind ≡ kind_in c → look v ≡ []) where
  both : {xs ys : List X} → xs ≡ [] → ys ≡ [] → xs ++ ys ≡ []
  both left right = λ j. left j ++ right j

  flat_append : (vs ws : List Visit) → flat_map look vs ≡ [] → flat_map look ws ≡ [] → flat_map look (vs ++ ws) ≡ []
  flat_append [] ws left right = right
  flat_append (v ∷ vs) ws left right = by (look v) (flat_map look vs) left (λ rest. flat_append vs ws rest right)
    where
      by : (xs ys : List X) → xs ++ ys ≡ [] → (ys ≡ [] → flat_map look (vs ++ ws) ≡ []) → xs ++ flat_map look (vs ++ ws) ≡ []
      by [] ys none later = later none
      by (x ∷ xs) ys none later = absurd cc

  mutual
    in_calculation : (d : Data) (k : Kind) (s : Spot) (c : Calculation) → resolved k d ≡ kind_in c → flat_map look (visits d k s) ≡ []
    in_calculation null k s c is = both (nothing c _ is) refl
    in_calculation (boolean b) k s c is = both (nothing c _ is) refl
    in_calculation (number n) k s c is = both (nothing c _ is) refl
    in_calculation (string t) k s c is = both (nothing c _ is) refl
    in_calculation (array ds) k s c is = both (nothing c _ is)
        (ap (λ q. flat_map look (in_array q (array ds) s (items_visits ds))) is ∙ in_its_parts ds c (inside_part s (kind_in c) (array ds)) 0)
    in_calculation (object ms) k s c is = both (nothing c _ is)
        (ap (λ q. flat_map look (in_object q (object ms) s (members_visits ms))) is ∙ ap (λ ks. flat_map look (under_keys ks (inside s (kind_in c) (object ms)) (members_visits ms))) (no_keys c))

    in_its_parts : (ds : Items) (c : Calculation) (spots : ℕ → Spot) (i : ℕ) → flat_map look (in_parts (part_of (form_of (kind_in c)) (kind_in c)) spots i (items_visits ds)) ≡ []
    in_its_parts no_items c spots i = refl
    in_its_parts (item d ds) c spots i =
        let here = part c i in
        let is = found here.0 d in
        flat_append (visits d (part_of (form_of (kind_in c)) (kind_in c) i) (spots i)) (in_parts (part_of (form_of (kind_in c)) (kind_in c)) spots (i + 1) (items_visits ds))
        (in_calculation d (part_of (form_of (kind_in c)) (kind_in c) i) (spots i) is.0 (ap (λ k. resolved k d) here.1 ∙ is.1))
        (in_its_parts ds c spots (i + 1))

  -- ---- a plain value

  in_plain : (d : Data) (k : Kind) (s : Spot) → is_plain (form_of k) ≡ true → look (visit_at s k d) ≡ [] → flat_map look (visits d k s) ≡ []
  in_plain null k s plain none = both (ap (λ q. look (visit_at s q null)) (plain_same k null plain) ∙ none) refl
  in_plain (boolean b) k s plain none = both (ap (λ q. look (visit_at s q (boolean b))) (plain_same k (boolean b) plain) ∙ none) refl
  in_plain (number n) k s plain none = both (ap (λ q. look (visit_at s q (number n))) (plain_same k (number n) plain) ∙ none) refl
  in_plain (string t) k s plain none = both (ap (λ q. look (visit_at s q (string t))) (plain_same k (string t) plain) ∙ none) refl
  in_plain (array ds) k s plain none = both (ap (λ q. look (visit_at s q (array ds))) (plain_same k (array ds) plain) ∙ none)
      (ap (λ q. flat_map look (in_array q (array ds) s (items_visits ds))) (plain_same k (array ds) plain)
      ∙ (λ j. flat_map look (in_parts (λ i. plain_part (form_of k) k i plain j) (inside_part s k (array ds)) 0 (items_visits ds)))
      ∙ in_its_parts ds other (inside_part s k (array ds)) 0)
  in_plain (object ms) k s plain none = both (ap (λ q. look (visit_at s q (object ms))) (plain_same k (object ms) plain) ∙ none)
      (ap (λ q. flat_map look (in_object q (object ms) s (members_visits ms))) (plain_same k (object ms) plain)
      ∙ ap (λ ks. flat_map look (under_keys ks (inside s k (object ms)) (members_visits ms))) (plain_keys k plain))

-- at a key whose values the rule skips
pub none_at_key : (breaks : Visit → Bool) (key : Key) (spots : List ℕ → Spot) (ms : Members) → Skips breaks key.kind
    → None ≡ first_broken breaks (at_key key spots (members_visits ms))
none_at_key breaks key spots ms skips = sym (ap (first_broken breaks) (at_key_found key spots ms) ∙ by (get_member key.name ms))
  where
    by : (o : Option Data) → first_broken breaks (visits_at key spots o) ≡ None
    by None = refl
    by (Some d) = skips d (spots key.name)

-- ---- a rule that nothing in a calculation breaks

module _ (breaks : Visit → Bool) (never : (c : Calculation) (v : Visit) → v.kind ≡ kind_in c → breaks v ≡ false) where
  abbrev broken_at : Visit → List (List ℕ)
  broken_at v = cond (breaks v) (v.place ∷ []) []

  nowhere : (c : Calculation) (v : Visit) → v.kind ≡ kind_in c → broken_at v ≡ []
  nowhere c v is = ap (λ b. cond b (v.place ∷ []) []) (never c v is)

  none_broken : (vs : List Visit) → flat_map broken_at vs ≡ [] → first_broken breaks vs ≡ None
  none_broken [] none = refl
  none_broken (v ∷ vs) none = by (breaks v) none (λ rest. none_broken vs rest)
    where
      by : (b : Bool) → cond b (v.place ∷ []) [] ++ flat_map broken_at vs ≡ [] → (flat_map broken_at vs ≡ [] → first_broken breaks vs ≡ None)
          → option_map (λ u. u.place) (cond b (Some v) (find breaks vs)) ≡ None
      by true none later = absurd cc
      by false none later = later none

  pub passes : (kind : Kind) → IsCalculation kind → Passes breaks kind
  passes kind calculation = λ k d s is. none_broken (visits d k s) (in_calculation (List ℕ) broken_at nowhere d k s calculation.0 (is ∙ calculation.1))

  pub skips : (kind : Kind) → is_plain (form_of kind) ≡ true → ((d : Data) (s : Spot) → breaks (visit_at s kind d) ≡ false) → Skips breaks kind
  skips kind plain unbroken = λ d s. none_broken (visits d kind s) (in_plain (List ℕ) broken_at nowhere d kind s plain (ap (λ b. cond b (s.place ∷ []) []) (unbroken d s)))
