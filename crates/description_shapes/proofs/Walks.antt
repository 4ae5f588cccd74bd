-- One more turn of the walk.
use Rattle.std.proofs.Common.{◌≡◌, ℕ, ◌+◌, ◌<◌, List, [], ◌++◌, map, drop, length, get_or, Bool, true, false, cond, Option, Some, None, is_none, option_map, is_eq, nat_cmp, Ordering, Less, Equal, Greater, String}
use Rattle.std.proofs.Common.{Global, string_bytes, Bor, Result, Ok, Err, IfOk, refl, rules, sym, ap, ◌∙◌}
use Rattle.std.proofs.lemmas.Bool.{false≢true}
use Rattle.std.proofs.lemmas.List.{at_drop_more}
use Rattle.std.proofs.lemmas.List.Folds.{find-append}
use Rattle.std.proofs.lemmas.Map.Text.{is_eq-slice_cmp}
use Rattle.std.specs.Cmp.Lexicographic.{slice_cmp}
use Rattle.std.specs.declared.alloc.AllocError.{AllocError}
use Rattle.std.specs.List.{find}
use Rattle.std.specs.Option.{option_or}
use Rattle.std.specs.Ordering.{match_ordering}
use Rattle.serde_json.specs.Data.{Data, Members, no_members, member}
use Rattle.serde_json.specs.Find.{get_member}
use Rattle.serde_json.specs.View.{view, items_view}
use Rattle.serde_json.specs.declared.value.Value.{Value}
use Rattle.description_shapes.specs.declared.keys.Field.{Field}
use Rattle.description_shapes.specs.declared.kind.Kind.{Kind}
use Rattle.description_shapes.specs.Keys.{Key, key_of}
use Rattle.description_shapes.specs.declared.trail.Trail as trail
use Rattle.description_shapes.specs.declared.trail.Trail.{Trail, Part, the_lemmas}
use Rattle.description_shapes.specs.Spots.{Spot, inside, inside_part}
use Rattle.description_shapes.specs.Trails.{spot_of}
use Rattle.description_shapes.specs.Visits.{Visit, Member, visits, items_visits, members_visits, in_parts, at_key, under_keys, first_broken}

map_or : {X Y : Type 0} (f : X → Y) (x z : Option X) → option_map f (option_or x z) ≡ option_or (option_map f x) (option_map f z)
map_or f None z = refl
map_or f (Some x) z = refl

pub first_in_both : (fails : Visit → Bool) (vs ws : List Visit) → first_broken fails (vs ++ ws) ≡ option_or (first_broken fails vs) (first_broken fails ws)
first_in_both fails vs ws = ap (option_map (λ v. v.place)) (find-append fails vs ws) ∙ map_or (λ v. v.place) (find fails vs) (find fails ws)

-- the keys that are left, and the parts that are left
pub keys_turn : (fails : Visit → Bool) (keys : List Field) (spots : List ℕ → Spot) (ms : List Member) (i : ℕ) (d : Field) → i < length keys
    → first_broken fails (under_keys (map key_of (drop i keys)) spots ms)
    ≡ option_or (first_broken fails (at_key (key_of (get_or keys i d)) spots ms)) (first_broken fails (under_keys (map key_of (drop (i + 1) keys)) spots ms))
keys_turn fails keys spots ms i d h =
    at_drop_more (λ ks. first_broken fails (under_keys (map key_of ks) spots ms)) keys i d h
    ∙ first_in_both fails (at_key (key_of (get_or keys i d)) spots ms) (under_keys (map key_of (drop (i + 1) keys)) spots ms)

pub parts_turn : (fails : Visit → Bool) (parts : List Value) (kinds : ℕ → Kind) (spots : ℕ → Spot) (i : ℕ) (d : Value) → i < length parts
    → first_broken fails (in_parts kinds spots i (items_visits (items_view (drop i parts))))
    ≡ option_or (first_broken fails (visits (view (get_or parts i d)) (kinds i) (spots i))) (first_broken fails (in_parts kinds spots (i + 1) (items_visits (items_view (drop (i + 1) parts)))))
parts_turn fails parts kinds spots i d h =
    at_drop_more (λ vs. first_broken fails (in_parts kinds spots i (items_visits (items_view vs)))) parts i d h
    ∙ first_in_both fails (visits (view (get_or parts i d)) (kinds i) (spots i)) (in_parts kinds spots (i + 1) (items_visits (items_view (drop (i + 1) parts))))

-- what stands at a key of the table, once the value there is found
abbrev pub visits_at : Key → (List ℕ → Spot) → Option Data → List Visit
visits_at k spots None = []
visits_at k spots (Some d) = visits d k.kind (spots k.name)

at_one : (k : Key) (spots : List ℕ → Spot) (o : Ordering) (d : Data) (rest : List Visit) (later : Option Data) → rest ≡ visits_at k spots later
    → cond (is_eq o) (visits d k.kind (spots k.name)) rest ≡ visits_at k spots (match_ordering o later (Some d) later)
at_one k spots Less d rest later e = e
at_one k spots Equal d rest later e = refl
at_one k spots Greater d rest later e = e

pub at_key_found : (k : Key) (spots : List ℕ → Spot) (ms : Members) → at_key k spots (members_visits ms) ≡ visits_at k spots (get_member k.name ms)
at_key_found k spots no_members = refl
at_key_found k spots (member l d ms) =
    ap (λ b. cond b (visits d k.kind (spots k.name)) (at_key k spots (members_visits ms))) (sym (is_eq-slice_cmp k.name l))
    ∙ at_one k spots (slice_cmp nat_cmp k.name l) d _ _ (at_key_found k spots ms)

first_here : (whole rest later : Option (List ℕ)) (found : Option (String Global)) (place : String Global) → whole ≡ option_or rest later
    → option_map string_bytes found ≡ rest → found ≡ Some place → Some (string_bytes place) ≡ whole
first_here whole rest later found place turn is some =
    let here : Some (string_bytes place) ≡ rest = sym (ap (option_map string_bytes) some) ∙ is in
    ap (λ r. option_or r later) here ∙ sym turn

first_later : (whole rest later : Option (List ℕ)) (found : Option (String Global)) → whole ≡ option_or rest later
    → option_map string_bytes found ≡ rest → found ≡ None → whole ≡ later
first_later whole rest later found turn is none =
    let here : None ≡ rest = sym (ap (option_map string_bytes) none) ∙ is in
    turn ∙ sym (ap (λ r. option_or r later) here)

pub key_broken : (fails : Visit → Bool) (keys : List Field) (spots : List ℕ → Spot) (ms : List Member) (i : ℕ) (d : Field) (whole : Option (List ℕ)) (found : Option (String Global)) (place : String Global) → i < length keys
    → whole ≡ first_broken fails (under_keys (map key_of (drop i keys)) spots ms)
    → option_map string_bytes found ≡ first_broken fails (at_key (key_of (get_or keys i d)) spots ms) → found ≡ Some place → Some (string_bytes place) ≡ whole
key_broken fails keys spots ms i d whole found place h inv is some = first_here whole _ _ found place (inv ∙ keys_turn fails keys spots ms i d h) is some

pub key_unbroken : (fails : Visit → Bool) (keys : List Field) (spots : List ℕ → Spot) (ms : List Member) (i : ℕ) (d : Field) (whole : Option (List ℕ)) (found : Option (String Global)) → i < length keys
    → whole ≡ first_broken fails (under_keys (map key_of (drop i keys)) spots ms)
    → option_map string_bytes found ≡ first_broken fails (at_key (key_of (get_or keys i d)) spots ms) → found ≡ None
    → whole ≡ first_broken fails (under_keys (map key_of (drop (i + 1) keys)) spots ms)
key_unbroken fails keys spots ms i d whole found h inv is none = first_later whole _ _ found (inv ∙ keys_turn fails keys spots ms i d h) is none

-- the same with the part, its kind and its spot as they were found
part_turn : (fails : Visit → Bool) (parts : List Value) (kinds : ℕ → Kind) (spots : ℕ → Spot) (i : ℕ) (part : Value) (kind : Kind) (spot : Spot) (whole : Option (List ℕ)) → i < length parts
    → part ≡ get_or parts i part → kind ≡ kinds i → spot ≡ spots i → whole ≡ first_broken fails (in_parts kinds spots i (items_visits (items_view (drop i parts))))
    → whole ≡ option_or (first_broken fails (visits (view part) kind spot)) (first_broken fails (in_parts kinds spots (i + 1) (items_visits (items_view (drop (i + 1) parts)))))
part_turn fails parts kinds spots i part kind spot whole h part_is kind_is spot_is inv =
    let later = first_broken fails (in_parts kinds spots (i + 1) (items_visits (items_view (drop (i + 1) parts)))) in
    inv ∙ parts_turn fails parts kinds spots i part h
    ∙ sym (ap (λ v. option_or (first_broken fails (visits (view v) (kinds i) (spots i))) later) part_is)
    ∙ sym (ap (λ k. option_or (first_broken fails (visits (view part) k (spots i))) later) kind_is)
    ∙ sym (ap (λ s. option_or (first_broken fails (visits (view part) kind s)) later) spot_is)

pub part_broken : (fails : Visit → Bool) (parts : List Value) (kinds : ℕ → Kind) (spots : ℕ → Spot) (i : ℕ) (part : Value) (kind : Kind) (spot : Spot) (whole : Option (List ℕ)) (found : Option (String Global)) (place : String Global) → i < length parts
    → part ≡ get_or parts i part → kind ≡ kinds i → spot ≡ spots i → whole ≡ first_broken fails (in_parts kinds spots i (items_visits (items_view (drop i parts))))
    → option_map string_bytes found ≡ first_broken fails (visits (view part) kind spot) → found ≡ Some place → Some (string_bytes place) ≡ whole
part_broken fails parts kinds spots i part kind spot whole found place h part_is kind_is spot_is inv is some =
    first_here whole _ _ found place (part_turn fails parts kinds spots i part kind spot whole h part_is kind_is spot_is inv) is some

pub part_unbroken : (fails : Visit → Bool) (parts : List Value) (kinds : ℕ → Kind) (spots : ℕ → Spot) (i : ℕ) (part : Value) (kind : Kind) (spot : Spot) (whole : Option (List ℕ)) (found : Option (String Global)) → i < length parts
    → part ≡ get_or parts i part → kind ≡ kinds i → spot ≡ spots i → whole ≡ first_broken fails (in_parts kinds spots i (items_visits (items_view (drop i parts))))
    → option_map string_bytes found ≡ first_broken fails (visits (view part) kind spot) → found ≡ None
    → whole ≡ first_broken fails (in_parts kinds spots (i + 1) (items_visits (items_view (drop (i + 1) parts))))
part_unbroken fails parts kinds spots i part kind spot whole found h part_is kind_is spot_is inv is none =
    first_later whole _ _ found (part_turn fails parts kinds spots i part kind spot whole h part_is kind_is spot_is inv) is none

-- whether none is broken: where one is here, and where none is here
broken_here : (whole here later : Option (List ℕ)) → whole ≡ option_or here later → false ≡ is_none here → false ≡ is_none whole
broken_here whole None later turn is = absurd (false≢true is)
broken_here whole (Some place) later turn is = ap is_none (sym turn)

none_here : (whole here later : Option (List ℕ)) → whole ≡ option_or here later → true ≡ is_none here → whole ≡ later
none_here whole None later turn is = turn
none_here whole (Some place) later turn is = absurd (false≢true (sym is))

pub key_judged : (fails : Visit → Bool) (keys : List Field) (spots : List ℕ → Spot) (ms : List Member) (i : ℕ) (d : Field) (whole : Option (List ℕ)) → i < length keys
    → whole ≡ first_broken fails (under_keys (map key_of (drop i keys)) spots ms) → false ≡ is_none (first_broken fails (at_key (key_of (get_or keys i d)) spots ms)) → false ≡ is_none whole
key_judged fails keys spots ms i d whole h inv is = broken_here whole _ _ (inv ∙ keys_turn fails keys spots ms i d h) is

pub key_passed : (fails : Visit → Bool) (keys : List Field) (spots : List ℕ → Spot) (ms : List Member) (i : ℕ) (d : Field) (whole : Option (List ℕ)) → i < length keys
    → whole ≡ first_broken fails (under_keys (map key_of (drop i keys)) spots ms) → true ≡ is_none (first_broken fails (at_key (key_of (get_or keys i d)) spots ms))
    → whole ≡ first_broken fails (under_keys (map key_of (drop (i + 1) keys)) spots ms)
key_passed fails keys spots ms i d whole h inv is = none_here whole _ _ (inv ∙ keys_turn fails keys spots ms i d h) is

pub part_judged : (fails : Visit → Bool) (parts : List Value) (kinds : ℕ → Kind) (spots : ℕ → Spot) (i : ℕ) (part : Value) (kind : Kind) (spot : Spot) (whole : Option (List ℕ)) → i < length parts
    → part ≡ get_or parts i part → kind ≡ kinds i → spot ≡ spots i → whole ≡ first_broken fails (in_parts kinds spots i (items_visits (items_view (drop i parts))))
    → false ≡ is_none (first_broken fails (visits (view part) kind spot)) → false ≡ is_none whole
part_judged fails parts kinds spots i part kind spot whole h part_is kind_is spot_is inv is =
    broken_here whole _ _ (part_turn fails parts kinds spots i part kind spot whole h part_is kind_is spot_is inv) is

pub part_passed : (fails : Visit → Bool) (parts : List Value) (kinds : ℕ → Kind) (spots : ℕ → Spot) (i : ℕ) (part : Value) (kind : Kind) (spot : Spot) (whole : Option (List ℕ)) → i < length parts
    → part ≡ get_or parts i part → kind ≡ kinds i → spot ≡ spots i → whole ≡ first_broken fails (in_parts kinds spots i (items_visits (items_view (drop i parts))))
    → true ≡ is_none (first_broken fails (visits (view part) kind spot))
    → whole ≡ first_broken fails (in_parts kinds spots (i + 1) (items_visits (items_view (drop (i + 1) parts))))
part_passed fails parts kinds spots i part kind spot whole h part_is kind_is spot_is inv is =
    none_here whole _ _ (part_turn fails parts kinds spots i part kind spot whole h part_is kind_is spot_is inv) is

-- the spot of a trail that goes one level deeper
pub spot_of_part : (outer : Bor Trail) (owner : Bor Value) (kind : Kind) (i : ℕ) → spot_of (Part outer owner kind i) ≡ inside_part (spot_of outer.now) kind (view owner.now) i
spot_of_part outer owner kind i = search (rules, the_lemmas)

pub spot_of_member : (outer : Bor Trail) (owner : Bor Value) (kind : Kind) (key : Bor (List ℕ)) → spot_of (trail.Member outer owner kind key) ≡ inside (spot_of outer.now) kind (view owner.now) key.now
spot_of_member outer owner kind key = search (rules, the_lemmas)

-- what was found at a key
pub value_found : (fails : Visit → Bool) (k : Key) (spots : List ℕ → Spot) (ms : Members) (d : Data) (spot : Spot) → Some d ≡ get_member k.name ms → spot ≡ spots k.name
    → first_broken fails (visits d k.kind spot) ≡ first_broken fails (at_key k spots (members_visits ms))
value_found fails k spots ms d spot is spot_is =
    ap (λ s. first_broken fails (visits d k.kind s)) spot_is
    ∙ ap (λ found. first_broken fails (visits_at k spots found)) is
    ∙ sym (ap (first_broken fails) (at_key_found k spots ms))

pub none_found : (fails : Visit → Bool) (k : Key) (spots : List ℕ → Spot) (ms : Members) → None ≡ get_member k.name ms
    → None ≡ first_broken fails (at_key k spots (members_visits ms))
none_found fails k spots ms is =
    ap (λ found. first_broken fails (visits_at k spots found)) is
    ∙ sym (ap (first_broken fails) (at_key_found k spots ms))

pub same_found : (found : Result (Option (String Global)) AllocError) (left right : Option (List ℕ)) → left ≡ right → IfOk found (λ f. option_map string_bytes f ≡ left) → IfOk found (λ f. option_map string_bytes f ≡ right)
same_found (Ok f) left right e h = h ∙ e
same_found (Err x) left right e h = h
