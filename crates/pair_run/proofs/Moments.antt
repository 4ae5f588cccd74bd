-- What a FetchAll gives is the moment before it.
use Rattle.std.proofs.Common.{◌≡◌, ◌≤◌, ℕ, zero, suc, ℤ, true, refl, sym, ◌∙◌, ap, subst, arith, List, [], ◌∷◌, ◌++◌, map, length, drop, Option, Some, None, is_some}
use Rattle.bus_semantics.specs.Common.{false≢true, same_Some, slice_get, option_map_or, Value, words_of, length-words_of, same_words-Decides, Plan, elems_of, words_at, marked, split}
use Rattle.bus_semantics.specs.Common.{home_of, bundle_of, bundle_of_list, History, Past, noted, last_stored, value_at, moment_of, IsLegal, unqueued_allows, IsSound}
use Rattle.std.proofs.lemmas.List.{take_at, drop_at}
use Rattle.std.specs.Prelude.{option_and_then, unwrap_or}
use Rattle.bus_laws.specs.Common.{ElemPlan, Mapping, Deed, Entry}
use Rattle.bus_semantics.specs.declared.entries.Deed.TheVariants as deed
use Rattle.bus_laws.proofs.Thinning.{clash}
use Rattle.bus_laws.proofs.Local.{proper_legal}
use Rattle.bus_laws.proofs.OneBundle.{has_at, list_home, list_bundled}
use Rattle.history_laws.proofs.Moments.{value_words, moment_words}
use Rattle.pair_run.specs.Given.{published, gives, given_in, reaches, IsLastGiven}
use Rattle.pair_run.specs.OneMoment.{shown, StandsAt, was_given, never_given, ShowsHistory, ShowsWhole, FetchesOneMoment, SeesAllOf}
use Rattle.pair_run.proofs.Giving.{none_stored, last_one, since, given_from, reached, each_reaches, bit_marks}

-- ---- words

pub words : (p : Plan) (m : Mapping) (h : History) (x : ℕ) → IsSound p m → IsLegal p h → length (value_at p x (noted h)) ≡ words_at p x
words p m h x sound legal = value_words p m sound x (noted h) (proper_legal p h legal)

pub few : (p : Plan) (m : Mapping) (h : History) (l : ℕ) → IsSound p m → IsLegal p h → length (moment_of p (elems_of p l) (noted h)) ≤ 16
few p m h l sound legal =
    let all = moment_words p m sound l (noted h) (proper_legal p h legal) in
    let count = length-words_of all.value in
    let same : length (words_of all.value) ≡ length (moment_of p (elems_of p l) (noted h)) = ap length all.is in
    let short = all.value.short in
    omega arith

-- ---- the moment

pub moment : (p : Plan) (h : History) (e : Entry) (l : ℕ) (value : Value) → IsLegal p (e ∷ h) → e.deed ≡ deed.FetchAll l value → words_of value ≡ moment_of p (elems_of p l) (noted h)
moment p h e l value legal is =
    let allowed : unqueued_allows p (noted h) (deed.FetchAll l value) ≡ true = subst (λ (d : Deed). unqueued_allows p (noted h) d ≡ true) is legal.1.answers.unqueued in
    (same_words-Decides (words_of value) (moment_of p (elems_of p l) (noted h))).0 allowed

-- ---- what each element shows

item_mapped : {X Y : Type 0} (f : X → Y) (xs : List X) (i : ℕ) (y : Y) → slice_get (map f xs) i ≡ Some y → (x : X) × (slice_get xs i ≡ Some x) × (f x ≡ y)
item_mapped f [] i y at = absurd (cc at)
item_mapped f (x ∷ xs) zero y at = (x, refl, same_Some (f x) y at)
item_mapped f (x ∷ xs) (suc i) y at = item_mapped f xs i y at

known : (p : Plan) (x b : ℕ) → bundle_of p x ≡ Some b → (e : ElemPlan) × (slice_get p.elements x ≡ Some e)
known p x b is = by_element (slice_get p.elements x) refl is
  where
    by_element : (o : Option ElemPlan) → slice_get p.elements x ≡ o → option_and_then (home_of p) (option_map_or (λ (e : ElemPlan). Some e.group) o None) ≡ Some b → (e : ElemPlan) × (slice_get p.elements x ≡ Some e)
    by_element None at is = absurd (cc is)
    by_element (Some e) at is = (e, at)

elem_value : (p : Plan) (x : ℕ) (h : Past) (e : ElemPlan) → slice_get p.elements x ≡ Some e → value_at p x h ≡ unwrap_or (last_stored p e.group h) (words_of e.init)
elem_value p x h e at = ap (λ (o : Option ElemPlan). option_map_or (λ (v : ElemPlan). unwrap_or (last_stored p v.group h) (words_of v.init)) o []) at

module _ (p : Plan) (m : Mapping) (sound : IsSound p m) (h : History) (legal : IsLegal p h) where
  abbrev standing : ℕ → ℕ × List ℤ
  standing x = (x, value_at p x (noted h))

  cut : (xs : List ℕ) → split p xs (moment_of p xs (noted h)) ≡ map standing xs
  cut [] = refl
  cut (x ∷ xs) =
      let own = value_at p x (noted h) in
      let others = moment_of p xs (noted h) in
      let count = words p m h x sound legal in
      ap (λ (ws : List ℤ). (x, ws) ∷ split p xs (drop (words_at p x) (own ++ others))) (take_at own others (words_at p x) count)
      ∙ ap (λ (ws : List ℤ). (x, own) ∷ split p xs ws) (drop_at own others (words_at p x) count)
      ∙ ap (λ (pairs : List (ℕ × List ℤ)). (x, own) ∷ pairs) (cut xs)

  -- an element that is shown, with its words
  record Seen (l x : ℕ) (ws : List ℤ) : Type 0 where
    elem : ElemPlan
    at : slice_get p.elements x ≡ Some elem
    is : ws ≡ unwrap_or (last_stored p elem.group (noted h)) (words_of elem.init)

  listed : (l i x : ℕ) → slice_get (elems_of p l) i ≡ Some x → (e : ElemPlan) × (slice_get p.elements x ≡ Some e)
  listed l i x at =
      let there = has_at (elems_of p l) i x at in
      by_bundle (bundle_of_list p l) refl (list_home p m sound l x there) (list_bundled p m sound l x there)
    where
      by_bundle : (o : Option ℕ) → bundle_of_list p l ≡ o → bundle_of p x ≡ bundle_of_list p l → is_some (bundle_of_list p l) ≡ true → (e : ElemPlan) × (slice_get p.elements x ≡ Some e)
      by_bundle None none same some = absurd (false≢true (sym (ap is_some none) ∙ some))
      by_bundle (Some b) is same some = known p x b (same ∙ is)

  seen : (l : ℕ) (value : Value) (i x : ℕ) (ws : List ℤ) → words_of value ≡ moment_of p (elems_of p l) (noted h) → slice_get (shown p l value) i ≡ Some (x, ws) → Seen l x ws
  seen l value i x ws moment at =
      let pairs : shown p l value ≡ map standing (elems_of p l) = ap (split p (elems_of p l)) moment ∙ cut (elems_of p l) in
      by_item (item_mapped standing (elems_of p l) i (x, ws) (sym (ap (λ (pairs : List (ℕ × List ℤ)). slice_get pairs i) pairs) ∙ at))
    where
      by_elem : value_at p x (noted h) ≡ ws → (e : ElemPlan) × (slice_get p.elements x ≡ Some e) → Seen l x ws
      by_elem is elem = record { elem = elem.0; at = elem.1; is = sym is ∙ elem_value p x (noted h) elem.0 elem.1 }

      by_item : (y : ℕ) × (slice_get (elems_of p l) i ≡ Some y) × (standing y ≡ (x, ws)) → Seen l x ws
      by_item item =
          let same : item.0 ≡ x = ap (λ (pair : ℕ × List ℤ). pair.0) item.2 in
          by_elem (subst (λ (y : ℕ). value_at p y (noted h) ≡ ws) same (ap (λ (pair : ℕ × List ℤ). pair.1) item.2))
          (listed l i x (subst (λ (y : ℕ). slice_get (elems_of p l) i ≡ Some y) same item.1))

  stood : (l : ℕ) (value : Value) → words_of value ≡ moment_of p (elems_of p l) (noted h) → ShowsHistory p h l value
  stood l value moment i x ws at = let s = seen l value i x ws moment at in by_stored s (last_stored p s.elem.group (noted h)) refl
    where
      by_stored : (s : Seen l x ws) (o : Option (List ℤ)) → last_stored p s.elem.group (noted h) ≡ o → StandsAt p h x ws
      by_stored s None none = never_given s.elem s.at (none_stored p s.elem.group h none) (s.is ∙ ap (λ (o : Option (List ℤ)). unwrap_or o (words_of s.elem.init)) none)
      by_stored s (Some us) some =
          let same : ws ≡ us = s.is ∙ ap (λ (o : Option (List ℤ)). unwrap_or o (words_of s.elem.init)) some in
          was_given s.elem s.at (last_one p s.elem.group h ws (some ∙ ap (λ (vs : List ℤ). Some vs) (sym same)))

  whole : (l : ℕ) (value : Value) → words_of value ≡ moment_of p (elems_of p l) (noted h) → ShowsWhole p h l value
  whole l value moment after old b i x group ws parts at of some =
      let s = seen l value i x ws moment at in
      let own : s.elem.group ≡ group = same_Some s.elem.group group (sym (ap (λ (o : Option ElemPlan). option_map_or (λ (e : ElemPlan). Some e.group) o None) s.at) ∙ of) in
      let recent : last_stored p group (noted h) ≡ last_stored p group (noted (after ++ b ∷ [])) =
      ap (λ (t : History). last_stored p group (noted t)) parts ∙ since p group after old b some in
      let is : ws ≡ unwrap_or (last_stored p group (noted (after ++ b ∷ []))) (words_of s.elem.init) =
      s.is ∙ ap (λ (g : ℕ). unwrap_or (last_stored p g (noted h)) (words_of s.elem.init)) own ∙ ap (λ (o : Option (List ℤ)). unwrap_or o (words_of s.elem.init)) recent in
      by_stored (words_of s.elem.init) is (last_stored p group (noted (after ++ b ∷ []))) refl
    where
      by_stored : (otherwise : List ℤ) → ws ≡ unwrap_or (last_stored p group (noted (after ++ b ∷ []))) otherwise → (o : Option (List ℤ)) → last_stored p group (noted (after ++ b ∷ [])) ≡ o
          → IsLastGiven p group (given_in p (after ++ b ∷ [])) ws
      by_stored otherwise is None none = clash (reaches p group (given_in p (after ++ b ∷ []))) (reached p group after b some) (none_stored p group (after ++ b ∷ []) none)
      by_stored otherwise is (Some us) at =
          let same : ws ≡ us = is ∙ ap (λ (o : Option (List ℤ)). unwrap_or o otherwise) at in
          last_one p group (after ++ b ∷ []) ws (at ∙ ap (λ (vs : List ℤ). Some vs) (sym same))

pub fetches : (p : Plan) (m : Mapping) (h : History) (e : Entry) (l : ℕ) (value : Value) → IsSound p m → IsLegal p (e ∷ h) → e.deed ≡ deed.FetchAll l value → FetchesOneMoment p h l value
fetches p m h e l value sound legal is =
    let now = moment p h e l value legal is in
    record { moment = now; stood = stood p m sound h legal.0 l value now; whole = whole p m sound h legal.0 l value now }

-- ---- of a publication all or none

pub all : (p : Plan) (m : Mapping) (after old : History) (f b : Entry) (l k written : ℕ) (value what : Value) → IsSound p m → IsLegal p (f ∷ (after ++ b ∷ old))
    → f.deed ≡ deed.FetchAll l value → b.deed ≡ deed.PublishAll k written what → SeesAllOf p k written what after l value
all p m after old f b l k written value what sound legal fetched put i x y group ws at there of own =
    let is : gives p b.deed ≡ published p k written (words_of what) = ap (gives p) put in
    let some : reaches p group (gives p b.deed) ≡ true = ap (reaches p group) is ∙ each_reaches p group y own (marked written (elems_of p k)) (words_of what) (bit_marks y (elems_of p k) written there.place there.there there.set) in
    let last = (fetches p m (after ++ b ∷ old) f l value sound legal fetched).whole after old b i x group ws refl at of some in
    let from : given_in p (after ++ b ∷ []) ≡ published p k written (words_of what) ++ given_in p after = given_from p after b ∙ ap (λ (given : List (ℕ × List ℤ)). given ++ given_in p after) is in
    subst (λ (given : List (ℕ × List ℤ)). IsLastGiven p group given ws) from last

legal_before : (p : Plan) (after h : History) → IsLegal p (after ++ h) → IsLegal p h
legal_before p [] h legal = legal
legal_before p (e ∷ after) h legal = legal_before p after h legal.0

pub none : (p : Plan) (m : Mapping) (after old : History) (f : Entry) (l : ℕ) (value : Value) → IsSound p m → IsLegal p (after ++ f ∷ old) → f.deed ≡ deed.FetchAll l value → ShowsHistory p old l value
none p m after old f l value sound legal fetched = (fetches p m old f l value sound (legal_before p after (f ∷ old) legal) fetched).stood
