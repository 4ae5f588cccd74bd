-- What the accesses of a runnable keep.
use Rattle.std.proofs.Common.{◌≡◌, ℕ, suc, List, [], ◌∷◌, ◌++◌, map, length, Bool, true, false, not, ◌&&◌, eqb, ltb, codes, Some, refl, sym, ap, subst, arith, ◌∙◌, inl, inr}
use Rattle.bus_semantics.specs.Common.{list_all, list_any, slice_get, slice_index_or, option_and_then, unwrap_or, and_parts, and_from, false≢true, eqb-true, or_from, false_from_ne_true}
use Rattle.bus_semantics.specs.Common.{AccessKind, kind_number}
use Rattle.serde_json.specs.Data.{Data, null, boolean, number, string, array, object, Items, no_items, item}
use Rattle.serde_json.specs.Events.{items_len}
use Rattle.serde_json.specs.Find.{get, get_item}
use Rattle.runnable_lang.specs.declared.program.AccessKind.TheVariants as kind
use Rattle.description_shapes.specs.declared.kind.Kind.{Kind}
use Rattle.description_shapes.specs.declared.kind.Kind.TheVariants as of_kind
use Rattle.description_shapes.specs.declared.kind.Kind.TheVariants.{Description}
use Rattle.description_shapes.specs.Alternatives.{Choice, choices_of, first_word, resolved}
use Rattle.description_places.specs.Around.{number_of, type_around}
use Rattle.description_places.specs.Distinct.{is_access_before, is_later, is_later_in, is_repeated, stands_before}
use Rattle.description_places.specs.declared.catalogs.Catalog.{Catalog}
use Rattle.description_places.specs.Catalogs.{access_firsts, catalog_of}
use Rattle.description_places.specs.declared.catalogs.ComponentLists.{ComponentLists}
use Rattle.description_places.specs.declared.catalogs.TypeNumber.TheVariants as of
use Rattle.description_places.specs.FirstPlaces.{access_text, first_places}
use Rattle.description_shapes.specs.Keys.{optional}
use Rattle.description_places.specs.Owners.{component_of}
use Rattle.description_places.specs.References.{port_has}
use Rattle.description_shapes.specs.Shape.{holds, part_count}
use Rattle.description_shapes.specs.Spots.{Spot, Level, top, inside, inside_part}
use Rattle.plan_definitions.specs.Common.{TypeTable, Access, Port, accesses_distinct, items_of_port, same_access}
use Rattle.declared_names.specs.declared.in_component.ComponentNames.{ComponentNames}
use Rattle.declared_names.specs.declared.scopes.InterfaceNames.{InterfaceNames}
use Rattle.declared_names.specs.Components.{component_names, item_in}
use Rattle.declared_names.specs.Names.{has_name, position_in, short_names, texts}
use Rattle.declared_names.specs.Scopes.{interface_names, type_names}
use Rattle.declared_names.specs.Values.{items_at, listed, text_at, text_in, text_of_part}
use Rattle.component_model.specs.Components.{access_reading, item_of_access, port_of_access}
use Rattle.component_model.specs.Ports.{port_reading}
use Rattle.component_model.specs.Types.{types_reading}
use Rattle.program_reading.specs.Words.{access_kind_of}
use Rattle.description_stages.proofs.Kept.{Kept, kept_part, shape_here, repeated_here, found_here}
use Rattle.description_stages.proofs.Lists.{IsIn}
use Rattle.description_stages.proofs.Naming.{all_listed, apart, EachFirst, on_list, rest_first}
use Rattle.description_stages.proofs.PortItems.{HasItem, item_low, item_text, item_text_at, lists_there, owned, port_low, port_owned}
use Rattle.description_stages.proofs.Positions.{first_placed, items_there, low_in, nth_position}
use Rattle.description_stages.proofs.Rowed.{never_nothing, part_text, PartAt, row_part, Spoken, spoken}
use Rattle.description_stages.proofs.Words.{kept_as, same_visits}

-- ---- the text of an access, by its parts

name_two : (x : Data) → holds (λ n. eqb n 2) (part_count x) ≡ true → access_text x ≡ codes " " ++ (text_of_part 0 x ++ (codes " " ++ (text_of_part 1 x ++ [])))
name_two null h = absurd (false≢true h)
name_two (boolean b) h = absurd (false≢true h)
name_two (number n) h = absurd (false≢true h)
name_two (string t) h = absurd (false≢true h)
name_two (object ms) h = absurd (false≢true h)
name_two (array no_items) h = absurd (false≢true h)
name_two (array (item a no_items)) h = absurd (false≢true h)
name_two (array (item a (item b no_items))) h = refl
name_two (array (item a (item b (item c ps)))) h = let long : suc (suc (suc (items_len ps))) ≡ 2 = eqb-true (suc (suc (suc (items_len ps)))) 2 h in absurd (omega arith)

name_three : (x : Data) → holds (λ n. eqb n 3) (part_count x) ≡ true → access_text x ≡ codes " " ++ (text_of_part 0 x ++ (codes " " ++ (text_of_part 1 x ++ (codes " " ++ (text_of_part 2 x ++ [])))))
name_three null h = absurd (false≢true h)
name_three (boolean b) h = absurd (false≢true h)
name_three (number n) h = absurd (false≢true h)
name_three (string t) h = absurd (false≢true h)
name_three (object ms) h = absurd (false≢true h)
name_three (array no_items) h = absurd (false≢true h)
name_three (array (item a no_items)) h = absurd (false≢true h)
name_three (array (item a (item b no_items))) h = absurd (false≢true h)
name_three (array (item a (item b (item c no_items)))) h = refl
name_three (array (item a (item b (item c (item e ps))))) h = let long : suc (suc (suc (suc (items_len ps)))) ≡ 3 = eqb-true (suc (suc (suc (suc (items_len ps))))) 3 h in absurd (omega arith)

-- ---- accesses by their kinds

abbrev pub access_low : TypeTable → List Port → (variables areas : ℕ) → Access → Bool
access_low t ps nv na a = low_by a.kind a.port a.item
  where
    low_by : AccessKind → ℕ → ℕ → Bool
    low_by kind.IrvWrite p n = ltb n nv
    low_by kind.IrvRead p n = ltb n nv
    low_by kind.IrvIWrite p n = ltb n nv
    low_by kind.IrvIRead p n = ltb n nv
    low_by kind.Enter p n = ltb n na
    low_by kind.Switch p n = ltb p (length ps) && eqb n 0
    low_by kind.Mode p n = ltb p (length ps) && eqb n 0
    low_by _ p n = ltb n (items_of_port t ps p)

-- the words in the order of their kinds
abbrev words : List (List ℕ)
words =
    codes "write" ∷ codes "read" ∷ codes "invalidate" ∷ codes "isUpdated" ∷ codes "send" ∷ codes "receive" ∷ codes "iwrite" ∷ codes "iread"
    ∷ codes "irvWrite" ∷ codes "irvRead" ∷ codes "irvIWrite" ∷ codes "irvIRead" ∷ codes "call" ∷ codes "acall" ∷ codes "result" ∷ codes "switch" ∷ codes "mode" ∷ codes "enter" ∷ []

-- accesses of one kind, port and item have one text
pub texts_same : (a c : Access) (decode : ℕ → ℕ → ℕ → List ℕ) → same_access a c ≡ true → decode (kind_number a.kind) a.port a.item ≡ decode (kind_number c.kind) c.port c.item
texts_same a c decode h =
    let first = and_parts (eqb (kind_number a.kind) (kind_number c.kind)) _ h in
    let second = and_parts (eqb a.port c.port) (eqb a.item c.item) first.1 in
    ap (λ k. decode k a.port a.item) (eqb-true (kind_number a.kind) (kind_number c.kind) first.0)
    ∙ ap (λ p. decode (kind_number c.kind) p a.item) (eqb-true a.port c.port second.0)
    ∙ ap (λ n. decode (kind_number c.kind) c.port n) (eqb-true a.item c.item second.1)

none_same : (f : Data → Access) (a : Access) (ps : Items) → ((i : ℕ) (x : Data) → get_item i ps ≡ Some x → same_access a (f x) ≡ true → ⊥) → list_any (same_access a) (map f (listed ps)) ≡ false
none_same f a no_items h = refl
none_same f a (item x ps) h = or_from _ _ (false_from_ne_true _ (h 0 x refl)) (none_same f a ps (λ i y is. h (suc i) y is))

-- accesses of which none stands at an earlier place are distinct, where an access tells its text
pub distinct_accesses : (f : Data → Access) (decode : ℕ → ℕ → ℕ → List ℕ) (ps : Items) → EachFirst access_text ps
    → ((i : ℕ) (x : Data) → get_item i ps ≡ Some x → access_text x ≡ decode (kind_number (f x).kind) (f x).port (f x).item)
    → accesses_distinct (map f (listed ps)) ≡ true
distinct_accesses f decode no_items h tell = refl
distinct_accesses f decode (item p ps) h tell =
    and_from _ _
    (ap not (none_same f (f p) ps (λ i x is same. apart access_text p ps h i x is (tell 0 p refl ∙ texts_same (f p) (f x) decode same ∙ sym (tell (suc i) x is)))))
    (distinct_accesses f decode ps (rest_first access_text p ps h) (λ i x is. tell (suc i) x is))

module _ (d : Data) (kept : Kept (catalog_of d) d Description top) (i : ℕ) (c : Data) (cs : Items) (here : get_item i cs ≡ Some c) (components : get (codes "components") d ≡ Some (array cs))
    (kept_c : Kept (catalog_of d) c of_kind.Component (inside_part (inside top Description d (codes "components")) of_kind.Components (array cs) i))
    (b : Data) (behavior : get (codes "behavior") c ≡ Some b) where
  abbrev lists : Catalog
  lists = catalog_of d

  abbrev table : TypeTable
  table = types_reading (type_names d) d

  abbrev scope : InterfaceNames
  scope = interface_names (type_names d).mode_groups d

  abbrev names : ComponentNames
  names = component_names scope c b

  abbrev ports : List Port
  ports = map (port_reading scope) (items_at (codes "ports") c)

  abbrev variables : ℕ
  variables = length (items_at (codes "variables") b)

  abbrev areas : ℕ
  areas = length (items_at (codes "exclusiveAreas") b)

  -- the text that a kind, a port and an item stand for
  abbrev item_tail : ℕ → ℕ → List ℕ
  item_tail p n = codes " " ++ (slice_index_or (short_names (items_at (codes "ports") c)) p [] ++ (codes " " ++ (item_text_at d c p n ++ [])))

  abbrev variable_tail : ℕ → ℕ → List ℕ
  variable_tail p n = codes " " ++ (slice_index_or (short_names (items_at (codes "variables") b)) n [] ++ [])

  abbrev port_tail : ℕ → ℕ → List ℕ
  port_tail p n = codes " " ++ (slice_index_or (short_names (items_at (codes "ports") c)) p [] ++ [])

  abbrev area_tail : ℕ → ℕ → List ℕ
  area_tail p n = codes " " ++ (slice_index_or (texts (items_at (codes "exclusiveAreas") b)) n [] ++ [])

  abbrev tails : List (ℕ → ℕ → List ℕ)
  tails =
      item_tail ∷ item_tail ∷ item_tail ∷ item_tail ∷ item_tail ∷ item_tail ∷ item_tail ∷ item_tail ∷ variable_tail ∷ variable_tail ∷ variable_tail ∷ variable_tail
      ∷ item_tail ∷ item_tail ∷ item_tail ∷ port_tail ∷ port_tail ∷ area_tail ∷ []

  abbrev decode : ℕ → ℕ → ℕ → List ℕ
  decode k p n = codes " " ++ (slice_index_or words k [] ++ slice_index_or tails k (λ p n. []) p n)

  abbrev access_by : List ℕ → Data → Access
  access_by w x = record { kind = access_kind_of w; port = port_of_access names (access_kind_of w) x; item = item_of_access scope names (access_kind_of w) x }

  -- what is wanted of an access
  pub record Told (x : Data) (s : Spot) : Type 0 where
    pub fits : access_low table ports variables areas (access_reading scope names x) ≡ true
    pub name_is : access_text x ≡ decode (kind_number (access_reading scope names x).kind) (access_reading scope names x).port (access_reading scope names x).item
    pub is_first : is_access_before lists s.around ≡ false

  abbrev Home : List Level → Type 0
  Home around = type_around around ≡ Some (of.Component i)

  module _ (x : Data) (s : Spot) (kept_x : Kept lists x of_kind.Access s) (home : Home s.around) where
    told : (w : List ℕ) (other : Kind) → text_of_part 0 x ≡ w → resolved of_kind.Access x ≡ other → is_repeated lists other x s.around ≡ is_access_before lists s.around
        → access_low table ports variables areas (access_by w x) ≡ true → access_text x ≡ decode (kind_number (access_by w x).kind) (access_by w x).port (access_by w x).item → Told x s
    told w other word_is found repeats fits name_is = record {
      fits = subst (λ t. access_low table ports variables areas (access_by t x) ≡ true) (sym word_is) fits;
      name_is = subst (λ t. access_text x ≡ decode (kind_number (access_by t x).kind) (access_by t x).port (access_by t x).item) (sym word_is) name_is;
      is_first = sym repeats ∙ subst (λ k. is_repeated lists k x s.around ≡ false) found (repeated_here lists x of_kind.Access s kept_x);
    }

    kept_other : (other : Kind) → resolved of_kind.Access x ≡ other → resolved other x ≡ other → Kept lists x other s
    kept_other other found still = kept_as lists x of_kind.Access other s (same_visits x of_kind.Access other s found still) kept_x

    -- the values round the parts of the access
    abbrev within : Kind → ℕ → List Level
    within kind n = record { kind = kind; value = x; number = n } ∷ s.around

    port_part : (kind : Kind) (v : PartAt lists x kind of_kind.ComponentPort s 1) → type_around (within (resolved kind x) 1) ≡ type_around s.around → has_name names.ports (text_of_part 1 x) ≡ true
    port_part kind v same =
        subst (λ t. has_name names.ports t ≡ true) (sym (part_text lists x kind of_kind.ComponentPort s 1 v))
        (port_owned d i c cs here components (text_in v.value) (within (resolved kind x) 1) (same ∙ home) (found_here lists v.value of_kind.ComponentPort (inside_part s (resolved kind x) x 1) v.kept))

    told_item : (w : List ℕ) → first_word x ≡ Some w → resolved of_kind.Access x ≡ of_kind.ItemAccess
        → ((p n : ℕ) → ltb n (items_of_port table ports p) ≡ true → access_low table ports variables areas (record { kind = access_kind_of w; port = p; item = n }) ≡ true)
        → port_of_access names (access_kind_of w) x ≡ position_in names.ports (text_of_part 1 x)
        → item_of_access scope names (access_kind_of w) x ≡ item_in scope names (position_in names.ports (text_of_part 1 x)) (text_of_part 2 x)
        → ((p n : ℕ) → decode (kind_number (access_kind_of w)) p n ≡ codes " " ++ (w ++ item_tail p n)) → Told x s
    told_item w first found low port_is item_is decoded =
        let word_is : text_of_part 0 x ≡ w = ap (λ o. unwrap_or o []) first in
        let k = kept_other of_kind.ItemAccess found refl in
        let p = port_part of_kind.ItemAccess (row_part lists x of_kind.ItemAccess s 1 refl refl k) refl in
        let v = row_part lists x of_kind.ItemAccess s 2 refl refl k in
        let has : HasItem d c (text_of_part 1 x) (text_of_part 2 x) =
        subst (HasItem d c (text_of_part 1 x)) (sym (part_text lists x of_kind.ItemAccess of_kind.AccessItem s 2 v))
        (owned d i c cs here components b behavior (port_has (catalog_of d) (text_in v.value) (text_of_part 1 x)) (within of_kind.ItemAccess 2) home (found_here lists v.value of_kind.AccessItem (inside_part s of_kind.ItemAccess x 2) v.kept)) in
        let port = position_in names.ports (text_of_part 1 x) in
        let item = item_in scope names port (text_of_part 2 x) in
        let item_fits : ltb item (items_of_port table ports port) ≡ true = item_low d c b (text_of_part 1 x) (text_of_part 2 x) has in
        let port_text : slice_index_or (short_names (items_at (codes "ports") c)) port [] ≡ text_of_part 1 x = nth_position (short_names (items_at (codes "ports") c)) (text_of_part 1 x) p in
        let item_read : item_text_at d c port item ≡ text_of_part 2 x = item_text d c b (text_of_part 1 x) (text_of_part 2 x) has in
        told w of_kind.ItemAccess word_is found refl
        (ap (λ q. access_low table ports variables areas (record { kind = access_kind_of w; port = q; item = item_of_access scope names (access_kind_of w) x })) port_is
        ∙ ap (λ q. access_low table ports variables areas (record { kind = access_kind_of w; port = port; item = q })) item_is ∙ low port item item_fits)
        (name_three x (shape_here lists x of_kind.ItemAccess s k)
        ∙ ap (λ t. codes " " ++ (t ++ (codes " " ++ (text_of_part 1 x ++ (codes " " ++ (text_of_part 2 x ++ [])))))) word_is
        ∙ ap (λ t. codes " " ++ (w ++ (codes " " ++ (t ++ (codes " " ++ (text_of_part 2 x ++ [])))))) (sym port_text)
        ∙ ap (λ t. codes " " ++ (w ++ (codes " " ++ (slice_index_or (short_names (items_at (codes "ports") c)) port [] ++ (codes " " ++ (t ++ [])))))) (sym item_read)
        ∙ sym (decoded port item)
        ∙ sym (ap (λ q. decode (kind_number (access_kind_of w)) q item) port_is)
        ∙ sym (ap (λ q. decode (kind_number (access_kind_of w)) (port_of_access names (access_kind_of w) x) q) item_is))

    told_variable : (w : List ℕ) → first_word x ≡ Some w → resolved of_kind.Access x ≡ of_kind.VariableAccess
        → ((p n : ℕ) → ltb n variables ≡ true → access_low table ports variables areas (record { kind = access_kind_of w; port = p; item = n }) ≡ true)
        → item_of_access scope names (access_kind_of w) x ≡ position_in names.variables (text_of_part 1 x)
        → ((p n : ℕ) → decode (kind_number (access_kind_of w)) p n ≡ codes " " ++ (w ++ variable_tail p n)) → Told x s
    told_variable w first found low item_is decoded =
        let word_is : text_of_part 0 x ≡ w = ap (λ o. unwrap_or o []) first in
        let k = kept_other of_kind.VariableAccess found refl in
        let v = row_part lists x of_kind.VariableAccess s 1 refl refl k in
        let h : has_name names.variables (text_of_part 1 x) ≡ true =
        subst (λ t. has_name names.variables t ≡ true) (sym (part_text lists x of_kind.VariableAccess of_kind.VariableName s 1 v))
        (owned d i c cs here components b behavior (λ (l : ComponentLists). has_name l.behavior.variables (text_in v.value)) (within of_kind.VariableAccess 1) home (found_here lists v.value of_kind.VariableName (inside_part s of_kind.VariableAccess x 1) v.kept)) in
        let n = position_in names.variables (text_of_part 1 x) in
        let p = port_of_access names (access_kind_of w) x in
        let text : slice_index_or (short_names (items_at (codes "variables") b)) n [] ≡ text_of_part 1 x = nth_position (short_names (items_at (codes "variables") b)) (text_of_part 1 x) h in
        told w of_kind.VariableAccess word_is found refl
        (ap (λ q. access_low table ports variables areas (record { kind = access_kind_of w; port = p; item = q })) item_is
        ∙ low p n (low_in (text_at (codes "shortName")) (items_at (codes "variables") b) (text_of_part 1 x) h))
        (name_two x (shape_here lists x of_kind.VariableAccess s k)
        ∙ ap (λ t. codes " " ++ (t ++ (codes " " ++ (text_of_part 1 x ++ [])))) word_is
        ∙ ap (λ t. codes " " ++ (w ++ (codes " " ++ (t ++ [])))) (sym text)
        ∙ sym (decoded p n) ∙ sym (ap (λ q. decode (kind_number (access_kind_of w)) p q) item_is))

    told_area : (w : List ℕ) → first_word x ≡ Some w → resolved of_kind.Access x ≡ of_kind.AreaAccess
        → ((p n : ℕ) → ltb n areas ≡ true → access_low table ports variables areas (record { kind = access_kind_of w; port = p; item = n }) ≡ true)
        → item_of_access scope names (access_kind_of w) x ≡ position_in names.areas (text_of_part 1 x)
        → ((p n : ℕ) → decode (kind_number (access_kind_of w)) p n ≡ codes " " ++ (w ++ area_tail p n)) → Told x s
    told_area w first found low item_is decoded =
        let word_is : text_of_part 0 x ≡ w = ap (λ o. unwrap_or o []) first in
        let k = kept_other of_kind.AreaAccess found refl in
        let v = row_part lists x of_kind.AreaAccess s 1 refl refl k in
        let h : has_name names.areas (text_of_part 1 x) ≡ true =
        subst (λ t. has_name names.areas t ≡ true) (sym (part_text lists x of_kind.AreaAccess of_kind.AreaName s 1 v))
        (owned d i c cs here components b behavior (λ (l : ComponentLists). has_name l.behavior.areas (text_in v.value)) (within of_kind.AreaAccess 1) home (found_here lists v.value of_kind.AreaName (inside_part s of_kind.AreaAccess x 1) v.kept)) in
        let n = position_in names.areas (text_of_part 1 x) in
        let p = port_of_access names (access_kind_of w) x in
        let text : slice_index_or (texts (items_at (codes "exclusiveAreas") b)) n [] ≡ text_of_part 1 x = nth_position (texts (items_at (codes "exclusiveAreas") b)) (text_of_part 1 x) h in
        told w of_kind.AreaAccess word_is found refl
        (ap (λ q. access_low table ports variables areas (record { kind = access_kind_of w; port = p; item = q })) item_is
        ∙ low p n (low_in text_in (items_at (codes "exclusiveAreas") b) (text_of_part 1 x) h))
        (name_two x (shape_here lists x of_kind.AreaAccess s k)
        ∙ ap (λ t. codes " " ++ (t ++ (codes " " ++ (text_of_part 1 x ++ [])))) word_is
        ∙ ap (λ t. codes " " ++ (w ++ (codes " " ++ (t ++ [])))) (sym text)
        ∙ sym (decoded p n) ∙ sym (ap (λ q. decode (kind_number (access_kind_of w)) p q) item_is))

    told_port : (w : List ℕ) → first_word x ≡ Some w → resolved of_kind.Access x ≡ of_kind.PortAccess
        → ((p : ℕ) → ltb p (length ports) ≡ true → access_low table ports variables areas (record { kind = access_kind_of w; port = p; item = 0 }) ≡ true)
        → port_of_access names (access_kind_of w) x ≡ position_in names.ports (text_of_part 1 x)
        → item_of_access scope names (access_kind_of w) x ≡ 0
        → ((p n : ℕ) → decode (kind_number (access_kind_of w)) p n ≡ codes " " ++ (w ++ port_tail p n)) → Told x s
    told_port w first found low port_is item_is decoded =
        let word_is : text_of_part 0 x ≡ w = ap (λ o. unwrap_or o []) first in
        let k = kept_other of_kind.PortAccess found refl in
        let h = port_part of_kind.PortAccess (row_part lists x of_kind.PortAccess s 1 refl refl k) refl in
        let p = position_in names.ports (text_of_part 1 x) in
        let text : slice_index_or (short_names (items_at (codes "ports") c)) p [] ≡ text_of_part 1 x = nth_position (short_names (items_at (codes "ports") c)) (text_of_part 1 x) h in
        told w of_kind.PortAccess word_is found refl
        (ap (λ q. access_low table ports variables areas (record { kind = access_kind_of w; port = q; item = item_of_access scope names (access_kind_of w) x })) port_is
        ∙ ap (λ q. access_low table ports variables areas (record { kind = access_kind_of w; port = p; item = q })) item_is
        ∙ low p (port_low d c (text_of_part 1 x) h))
        (name_two x (shape_here lists x of_kind.PortAccess s k)
        ∙ ap (λ t. codes " " ++ (t ++ (codes " " ++ (text_of_part 1 x ++ [])))) word_is
        ∙ ap (λ t. codes " " ++ (w ++ (codes " " ++ (t ++ [])))) (sym text)
        ∙ sym (decoded p 0) ∙ sym (ap (λ q. decode (kind_number (access_kind_of w)) q 0) port_is) ∙ sym (ap (λ q. decode (kind_number (access_kind_of w)) (port_of_access names (access_kind_of w) x) q) item_is))

    pub access_told : Told x s
    access_told = by_choice (spoken x (choices_of of_kind.Access) of_kind.UnknownAccess (never_nothing lists x of_kind.Access s kept_x of_kind.UnknownAccess refl))
      where
        by_choice : Spoken x (choices_of of_kind.Access) (resolved of_kind.Access x) → Told x s
        by_choice f = by_case f.picked.one
          where
            word : (k : Choice) → f.picked.choice ≡ k → first_word x ≡ Some k.word
            word k e = f.there ∙ ap (λ t. Some t) (sym f.picked.word_is ∙ ap (λ (j : Choice). j.word) e)

            found : (k : Choice) → f.picked.choice ≡ k → resolved of_kind.Access x ≡ k.kind
            found k e = f.picked.kind_is ∙ ap (λ (j : Choice). j.kind) e

            by_case : IsIn f.picked.choice (choices_of of_kind.Access) → Told x s
            by_case (inl e) = told_item (codes "write") (word _ e) (found _ e) (λ p n h. h) refl refl (λ p n. refl)
            by_case (inr (inl e)) = told_item (codes "read") (word _ e) (found _ e) (λ p n h. h) refl refl (λ p n. refl)
            by_case (inr (inr (inl e))) = told_item (codes "invalidate") (word _ e) (found _ e) (λ p n h. h) refl refl (λ p n. refl)
            by_case (inr (inr (inr (inl e)))) = told_item (codes "isUpdated") (word _ e) (found _ e) (λ p n h. h) refl refl (λ p n. refl)
            by_case (inr (inr (inr (inr (inl e))))) = told_item (codes "send") (word _ e) (found _ e) (λ p n h. h) refl refl (λ p n. refl)
            by_case (inr (inr (inr (inr (inr (inl e)))))) = told_item (codes "receive") (word _ e) (found _ e) (λ p n h. h) refl refl (λ p n. refl)
            by_case (inr (inr (inr (inr (inr (inr (inl e))))))) = told_item (codes "iwrite") (word _ e) (found _ e) (λ p n h. h) refl refl (λ p n. refl)
            by_case (inr (inr (inr (inr (inr (inr (inr (inl e)))))))) = told_item (codes "iread") (word _ e) (found _ e) (λ p n h. h) refl refl (λ p n. refl)
            by_case (inr (inr (inr (inr (inr (inr (inr (inr (inl e))))))))) = told_item (codes "call") (word _ e) (found _ e) (λ p n h. h) refl refl (λ p n. refl)
            by_case (inr (inr (inr (inr (inr (inr (inr (inr (inr (inl e)))))))))) = told_item (codes "acall") (word _ e) (found _ e) (λ p n h. h) refl refl (λ p n. refl)
            by_case (inr (inr (inr (inr (inr (inr (inr (inr (inr (inr (inl e))))))))))) = told_item (codes "result") (word _ e) (found _ e) (λ p n h. h) refl refl (λ p n. refl)
            by_case (inr (inr (inr (inr (inr (inr (inr (inr (inr (inr (inr (inl e)))))))))))) = told_variable (codes "irvWrite") (word _ e) (found _ e) (λ p n h. h) refl (λ p n. refl)
            by_case (inr (inr (inr (inr (inr (inr (inr (inr (inr (inr (inr (inr (inl e))))))))))))) = told_variable (codes "irvRead") (word _ e) (found _ e) (λ p n h. h) refl (λ p n. refl)
            by_case (inr (inr (inr (inr (inr (inr (inr (inr (inr (inr (inr (inr (inr (inl e)))))))))))))) = told_variable (codes "irvIWrite") (word _ e) (found _ e) (λ p n h. h) refl (λ p n. refl)
            by_case (inr (inr (inr (inr (inr (inr (inr (inr (inr (inr (inr (inr (inr (inr (inl e))))))))))))))) = told_variable (codes "irvIRead") (word _ e) (found _ e) (λ p n h. h) refl (λ p n. refl)
            by_case (inr (inr (inr (inr (inr (inr (inr (inr (inr (inr (inr (inr (inr (inr (inr (inl e)))))))))))))))) = told_port (codes "switch") (word _ e) (found _ e) (λ p h. and_from _ _ h refl) refl refl (λ p n. refl)
            by_case (inr (inr (inr (inr (inr (inr (inr (inr (inr (inr (inr (inr (inr (inr (inr (inr (inl e))))))))))))))))) = told_port (codes "mode") (word _ e) (found _ e) (λ p h. and_from _ _ h refl) refl refl (λ p n. refl)
            by_case (inr (inr (inr (inr (inr (inr (inr (inr (inr (inr (inr (inr (inr (inr (inr (inr (inr (inl e)))))))))))))))))) = told_area (codes "enter") (word _ e) (found _ e) (λ p n h. h) refl (λ p n. refl)
            by_case (inr (inr (inr (inr (inr (inr (inr (inr (inr (inr (inr (inr (inr (inr (inr (inr (inr (inr none)))))))))))))))))) = absurd none

  pub accesses_law : (x : Data) (s : Spot) → Home (record { kind = of_kind.Runnable; value = x; number = 0 } ∷ s.around) → slice_get (map access_firsts (items_at (codes "runnables") b)) (number_of 0 s.around) ≡ Some (access_firsts x)
      → Kept lists x of_kind.Runnable s
      → (list_all (access_low table ports variables areas) (map (access_reading scope names) (items_at (codes "accesses") x)) && accesses_distinct (map (access_reading scope names) (items_at (codes "accesses") x))) ≡ true
  accesses_law x s home first kept_x = on_list lists x of_kind.Runnable s 2 (optional "accesses" of_kind.Accesses) refl refl (λ v h. h) kept_x
      (λ xs. (list_all (access_low table ports variables areas) (map (access_reading scope names) xs) && accesses_distinct (map (access_reading scope names) xs)) ≡ true) refl
      (λ ps at kept_ps.
      let list = inside s of_kind.Runnable x (codes "accesses") in
      let all : (j : ℕ) (y : Data) → get_item j ps ≡ Some y → Told y (inside_part list of_kind.Accesses (array ps) j) = λ j y is. access_told y (inside_part list of_kind.Accesses (array ps) j) (kept_part lists ps of_kind.Accesses list j y kept_ps is) home in
      and_from _ _
      (all_listed (access_low table ports variables areas) (access_reading scope names) ps (λ j y is. (all j y is).fits))
      (distinct_accesses (access_reading scope names) decode ps
      (λ j y is. sym (firsts_are ps at j y is) ∙ (all j y is).is_first)
      (λ j y is. (all j y is).name_is)))
    where
      firsts_are : (ps : Items) → get (codes "accesses") x ≡ Some (array ps) → (j : ℕ) (y : Data) → get_item j ps ≡ Some y
          → is_access_before lists (inside_part (inside s of_kind.Runnable x (codes "accesses")) of_kind.Accesses (array ps) j).around ≡ stands_before (map access_text (listed ps)) (access_text y) j
      firsts_are ps at j y is =
          let around = (inside_part (inside s of_kind.Runnable x (codes "accesses")) of_kind.Accesses (array ps) j).around in
          ap (λ t. is_later (option_and_then (λ (l : ComponentLists). slice_get l.behavior.accesses (number_of 0 s.around)) (component_of lists t)) j) home
          ∙ ap (λ o. is_later (option_and_then (λ (l : ComponentLists). slice_get l.behavior.accesses (number_of 0 s.around)) o) j) (lists_there d i c cs here components b behavior)
          ∙ ap (λ o. is_later o j) first
          ∙ ap (λ xs. is_later_in (first_places (map access_text xs)) j) (items_there (codes "accesses") x ps at)
          ∙ first_placed access_text ps j y is
