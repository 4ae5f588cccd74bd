-- What the objects of a sound plan need of its coherent lists: the elements of a list are unqueued, and a group that no list names is a
-- bundle by itself, which no list touches.
use Rattle.std.proofs.Common.{◌≡◌, ◌⊎◌, ◌<◌, ◌≤◌, ◌/◌, ◌%◌, ℕ, ℤ, take, drop, zero, suc, Bool, true, false, ◌||◌, ◌==◌, if◌then◌else◌, refl, sym, ◌∙◌, ap, subst, arith, inl, inr, List, []}
use Rattle.std.proofs.Common.{◌∷◌, ◌++◌, map, length, get_or, Option, Some, None}
use mathlib.Core.Logic.{dite}
use native.Mathlib.Decide.{ℕ_discrete}
use Rattle.std.specs.Prelude.{flat_map, option_and_then, option_map, option_to_list}
use Rattle.bus_semantics.specs.Common.{list_any, slice_get, option_or, option_map_or, or_left, or_right, false≢true, eqb-true, cases_lt, same_Some, slice_get_within, slice_get-get_or}
use Rattle.bus_semantics.specs.Common.{slice_get-map, same_number, Plan, look, positions, group_of, elems_of, words_at, marked, split, is_in_group, last_in, listed_in, home_of, bundle_of}
use Rattle.bus_semantics.specs.Common.{bundle_of_list, groups_at, least, together, leaders_on, is_unqueued, groups_listed, IsSound}
use Rattle.std.proofs.lemmas.List.{get_or_past}
use Rattle.bus_laws.specs.Common.{CoherentList, Mapping}
use Rattle.bus_laws.proofs.Thinning.{same_test, option_same}
use Rattle.bus_laws.proofs.Bundling.{Begins, some_of, position_at, positions_counted, homes_counted, there_home, home_leads, leaders, one_passes}
use Rattle.bus_laws.proofs.OneBundle.{has, has_group, least_is, theirs, relabel, leaders_counted, list_home, listed_plain}

-- ---- numbers among others

-- of a test that would be true against a fact it is false
never : (b : Bool) → (b ≡ true → ⊥) → b ≡ false
never true against = absurd (against refl)
never false against = refl

-- an element whose group is among those of others is one of them
record Named (p : Plan) (g : ℕ) (xs : List ℕ) : Type 0 where
  elem : ℕ
  there : has xs elem ≡ true
  group : group_of p elem ≡ Some g

has_named : (p : Plan) (g : ℕ) (xs : List ℕ) → has (flat_map (λ x. option_to_list (group_of p x)) xs) g ≡ true → Named p g xs
has_named p g [] h = absurd (false≢true h)
has_named p g (x ∷ xs) h = by_group (group_of p x) refl h (has_named p g xs)
  where
    others : List ℕ
    others = flat_map (λ y. option_to_list (group_of p y)) xs

    later : Named p g xs → Named p g (x ∷ xs)
    later n = record { elem = n.elem; there = or_right (x == n.elem) (has xs n.elem) n.there; group = n.group }

    by_test : (f : ℕ) (b : Bool) → group_of p x ≡ Some f → (f == g) ≡ b → (b || has others g) ≡ true → (has others g ≡ true → Named p g xs) → Named p g (x ∷ xs)
    by_test f true is same h rest = record { elem = x; there = or_left (x == x) (has xs x) (same_test x); group = is ∙ ap (λ k. Some k) (eqb-true f g same) }
    by_test f false is other h rest = later (rest h)

    by_group : (o : Option ℕ) → group_of p x ≡ o → has (option_to_list o ++ others) g ≡ true → (has others g ≡ true → Named p g xs) → Named p g (x ∷ xs)
    by_group None is h rest = later (rest h)
    by_group (Some f) is h rest = by_test f (f == g) is refl h rest

-- ---- labels: a group that no list names keeps its own, and no other group gets it

record Own (g : ℕ) (labels : List ℕ) : Type 0 where
  own : slice_get labels g ≡ Some g
  others : (h y : ℕ) → slice_get labels h ≡ Some y → (h ≡ g → ⊥) → y ≡ g → ⊥

-- with the label that a group without one would have
apart : (g : ℕ) (labels : List ℕ) → Own g labels → (h : ℕ) → (h ≡ g → ⊥) → get_or labels h h ≡ g → ⊥
apart g labels own h other same = by_length (cases_lt h (length labels))
  where
    by_length : (h < length labels) ⊎ (length labels ≤ h) → ⊥
    by_length (inl below) = own.others h (get_or labels h h) (slice_get-get_or labels h h below) other same
    by_length (inr past) = other (sym (get_or_past labels h h past) ∙ same)

not_theirs : (g : ℕ) (labels : List ℕ) → Own g labels → (gs : List ℕ) → has gs g ≡ false → has (theirs gs labels) g ≡ false
not_theirs g labels own [] none = refl
not_theirs g labels own (h ∷ gs) none = never (has (theirs (h ∷ gs) labels) g) (λ is. by_first (get_or labels h h == g) refl (not_theirs g labels own gs rest) is)
  where
    differs : h ≡ g → ⊥
    differs same = false≢true (sym none ∙ or_left (h == g) (has gs g) (subst (λ k. (h == k) ≡ true) same (same_test h)))

    rest : has gs g ≡ false
    rest = never (has gs g) (λ is. false≢true (sym none ∙ or_right (h == g) (has gs g) is))

    by_first : (b : Bool) → (get_or labels h h == g) ≡ b → has (theirs gs labels) g ≡ false → (b || has (theirs gs labels) g) ≡ true → ⊥
    by_first true same others is = apart g labels own h differs (eqb-true (get_or labels h h) g same)
    by_first false other others is = false≢true (sym others ∙ is)

module _ (g : ℕ) (labels : List ℕ) (own : Own g labels) (gs : List ℕ) (none : has gs g ≡ false) where
  absent : has (theirs gs labels) g ≡ false
  absent = not_theirs g labels own gs none

  -- no label of another becomes the group's
  relabels : (l : ℕ) → (l ≡ g → ⊥) → relabel gs labels l ≡ g → ⊥
  relabels l other is = by_test (list_any (λ t. t == l) (theirs gs labels)) is
    where
      by_test : (b : Bool) → (if b then least l (theirs gs labels) else l) ≡ g → ⊥
      by_test false same = other same
      by_test true same = by_least (least_is l (theirs gs labels))
        where
          by_least : (least l (theirs gs labels) ≡ l) ⊎ (has (theirs gs labels) (least l (theirs gs labels)) ≡ true) → ⊥
          by_least (inl kept) = other (sym kept ∙ same)
          by_least (inr among) = false≢true (sym absent ∙ subst (λ k. has (theirs gs labels) k ≡ true) same among)

  stays_own : Own g (together gs labels)
  stays_own = record {
    own = slice_get-map (relabel gs labels) labels g ∙ ap (option_map (relabel gs labels)) own.own ∙ ap (λ b. Some (if b then least g (theirs gs labels) else g)) absent;
    others = λ h y at other same. by_label h y (slice_get labels h) refl at other same;
  }
    where
      by_label : (h y : ℕ) (o : Option ℕ) → slice_get labels h ≡ o → slice_get (together gs labels) h ≡ Some y → (h ≡ g → ⊥) → y ≡ g → ⊥
      by_label h y None is at other same = cc (sym at ∙ slice_get-map (relabel gs labels) labels h ∙ ap (option_map (relabel gs labels)) is)
      by_label h y (Some l) is at other same =
          let gives : relabel gs labels l ≡ y = same_Some (relabel gs labels l) y (sym (slice_get-map (relabel gs labels) labels h ∙ ap (option_map (relabel gs labels)) is) ∙ at) in
          relabels l (λ e. own.others h l is other e) (gives ∙ same)

keeps_own : (g : ℕ) (lists : List (List ℕ)) (labels : List ℕ) → ((k : ℕ) (gs : List ℕ) → slice_get lists k ≡ Some gs → has gs g ≡ false) → Own g labels → Own g (leaders_on labels lists)
keeps_own g [] labels none own = own
keeps_own g (gs ∷ lists) labels none own = keeps_own g lists (together gs labels) (λ k hs at. none (suc k) hs at) (stays_own g labels own gs (none 0 gs refl))

first_own : (g n : ℕ) → g < n → Own g (positions n)
first_own g n below = record {
  own = position_at n g below;
  others = λ h y at other same.
      let within : h < n = omega (arith, slice_get_within (positions n) h y at, positions_counted n) in
      other (same_Some h y (sym (position_at n h within) ∙ at) ∙ same);
}

-- ---- groups that no list names

-- no list names an element of the group
abbrev pub IsUnnamed : Plan → (group : ℕ) → Type 0
IsUnnamed p g = (l x : ℕ) → has (elems_of p l) x ≡ true → group_of p x ≡ Some g → ⊥

module _ (p : Plan) (m : Mapping) (sound : IsSound p m) where
  -- the elements of a list are unqueued elements of ports
  pub listed_unqueued : (l x : ℕ) → has (elems_of p l) x ≡ true → look p.elements x is_unqueued false ≡ true
  listed_unqueued l x there = by_list (slice_get p.lists l) refl there
    where
      by_list : (o : Option CoherentList) → slice_get p.lists l ≡ o → has (option_map_or (λ (c : CoherentList). c.elems) o []) x ≡ true → look p.elements x is_unqueued false ≡ true
      by_list None at h = absurd (false≢true h)
      by_list (Some c) at h = listed_plain p m sound l x c at h

  leads_itself : (g : ℕ) → g < length p.groups → IsUnnamed p g → Own g (leaders p)
  leads_itself g below unnamed = keeps_own g (map (groups_listed p) p.lists) (positions (length p.groups)) none (first_own g (length p.groups) below)
    where
      none_at : (k : ℕ) (gs : List ℕ) (o : Option CoherentList) → slice_get p.lists k ≡ o → option_map (groups_listed p) o ≡ Some gs → has gs g ≡ false
      none_at k gs None at is = absurd (cc is)
      none_at k gs (Some c) at is = never (has gs g) (λ h.
          let named = has_named p g c.elems (subst (λ hs. has hs g ≡ true) (sym (same_Some (groups_listed p c) gs is)) h) in
          unnamed k named.elem (ap (λ (o : Option CoherentList). has (option_map_or (λ (d : CoherentList). d.elems) o []) named.elem) at ∙ named.there) named.group)

      none : (k : ℕ) (gs : List ℕ) → slice_get (map (groups_listed p) p.lists) k ≡ Some gs → has gs g ≡ false
      none k gs at = none_at k gs (slice_get p.lists k) refl (sym (slice_get-map (groups_listed p) p.lists k) ∙ at)

  -- it shares its bundle with no other group
  pub unnamed_alone : (g b : ℕ) → IsUnnamed p g → home_of p g ≡ Some b → (h : ℕ) → home_of p h ≡ Some b → h ≡ g
  unnamed_alone g b unnamed home h other_home =
      let fit = sound.bundles in
      let here = there_home p fit g b home in
      let there = there_home p fit h b other_home in
      let own = leads_itself g (omega (arith, slice_get_within p.homes g b here, homes_counted p fit)) unnamed in
      let long : length (leaders p) ≡ length p.groups = leaders_counted (map (groups_listed p) p.lists) (positions (length p.groups)) ∙ positions_counted (length p.groups) in
      let leader = some_of (leaders p) h (omega (arith, slice_get_within p.homes h b there, homes_counted p fit, long)) in
      let mine : Begins p b g = home_leads p fit g b g here own.own in
      let theirs : Begins p b leader.0 = home_leads p fit h b leader.0 there leader.1 in
      let same : leader.0 ≡ g = cc (theirs.is, mine.is) in
      dite (ℕ_discrete h g) (λ e. e) (λ other. absurd (own.others h leader.0 leader.1 other same))

  -- no list touches its bundle
  pub unnamed_untouched : (g b : ℕ) → IsUnnamed p g → home_of p g ≡ Some b → (l : ℕ) → bundle_of_list p l ≡ Some b → ⊥
  unnamed_untouched g b unnamed home l is = by_elems (elems_of p l) refl is
    where
      by_home : (x : ℕ) → has (elems_of p l) x ≡ true → (o : Option ℕ) → group_of p x ≡ o → option_and_then (home_of p) o ≡ Some b → ⊥
      by_home x there None at e = cc e
      by_home x there (Some h) at e = unnamed l x there (at ∙ ap (λ k. Some k) (unnamed_alone g b unnamed home h e))

      by_elems : (xs : List ℕ) → elems_of p l ≡ xs → option_and_then (bundle_of p) (slice_get xs 0) ≡ Some b → ⊥
      by_elems [] at e = cc e
      by_elems (x ∷ xs) at e = by_home x (subst (λ ys. has ys x ≡ true) (sym at) (or_left (x == x) (has xs x) (same_test x))) (group_of p x) refl e

  -- where no list touches a bundle, none names an element of its groups
  pub untouched_unnamed : (g b : ℕ) → ((l : ℕ) → bundle_of_list p l ≡ Some b → ⊥) → home_of p g ≡ Some b → IsUnnamed p g
  untouched_unnamed g b untouched home l x there group = untouched l (sym (list_home p m sound l x there) ∙ ap (option_and_then (home_of p)) group ∙ home)

-- and nothing that a list publishes is stored in it
last_none : (p : Plan) (g w : ℕ) (xs : List ℕ) (ws : List ℤ) → ((x : ℕ) → has xs x ≡ true → group_of p x ≡ Some g → ⊥) → last_in p g (split p (marked w xs) ws) ≡ None
last_none p g w [] ws other = refl
last_none p g w (x ∷ xs) ws other = by_mark (w % 2 == 1) (λ vs. last_none p g (w / 2) xs vs (λ y there. other y (or_right (x == y) (has xs y) there)))
  where
    off : is_in_group p g x ≡ false
    off = never (is_in_group p g x) (λ is. other x (or_left (x == x) (has xs x) (same_test x)) (option_same (group_of p x) (Some g) is))

    by_mark : (b : Bool) → ((vs : List ℤ) → last_in p g (split p (marked (w / 2) xs) vs) ≡ None) → last_in p g (split p (if b then x ∷ marked (w / 2) xs else marked (w / 2) xs) ws) ≡ None
    by_mark false rest = rest ws
    by_mark true rest = (λ i. option_or (rest (drop (words_at p x) ws) i) (if off i then Some (take (words_at p x) ws) else None))

pub unnamed_stores_none : (p : Plan) (g : ℕ) → IsUnnamed p g → (l w : ℕ) (ws : List ℤ) → listed_in p g l w ws ≡ None
unnamed_stores_none p g unnamed l w ws = last_none p g w (elems_of p l) ws (unnamed l)

-- a bundle of one group
pub one_group : (p : Plan) (g b : ℕ) → home_of p g ≡ Some b → ((h : ℕ) → home_of p h ≡ Some b → h ≡ g) → groups_at p b ≡ g ∷ []
one_group p g b home only = one_passes (λ x. same_number (home_of p x) (Some b)) g (length p.homes) (λ x less. by_test x (same_number (home_of p x) (Some b)) refl) within
  where
    by_test : (x : ℕ) (t : Bool) → same_number (home_of p x) (Some b) ≡ t → t ≡ (x == g)
    by_test x true is = sym (subst (λ k. (x == k) ≡ true) (only x (option_same (home_of p x) (Some b) is)) (same_test x))
    by_test x false is = sym (never (x == g) (λ same. false≢true (sym is ∙ ap (λ k. same_number (home_of p k) (Some b)) (eqb-true x g same) ∙ ap (λ o. same_number o (Some b)) home ∙ same_test b)))

    within : g < length p.homes
    within = by_home (slice_get p.homes g) refl home
      where
        by_home : (o : Option ℕ) → slice_get p.homes g ≡ o → option_map_or (λ (n : ℕ). Some n) o None ≡ Some b → g < length p.homes
        by_home None at e = absurd (cc e)
        by_home (Some n) at e = slice_get_within p.homes g n at

-- ---- which groups lists name

-- a list names an element of the group
abbrev names_group : Plan → (group : ℕ) → Bool
names_group p g = list_any (λ (c : CoherentList). has (groups_listed p c) g) p.lists

pub record IsNamed (p : Plan) (g : ℕ) : Type 0 where
  pub list : ℕ
  pub elem : ℕ
  pub there : has (elems_of p list) elem ≡ true
  pub group : group_of p elem ≡ Some g

named_in : (p : Plan) (g : ℕ) (cs : List CoherentList) → list_any (λ (c : CoherentList). has (groups_listed p c) g) cs ≡ true → (k : ℕ) × ((c : CoherentList) × ((slice_get cs k ≡ Some c) × (has (groups_listed p c) g ≡ true)))
named_in p g [] h = absurd (false≢true h)
named_in p g (c ∷ cs) h = by_first (has (groups_listed p c) g) refl h (named_in p g cs)
  where
    by_first : (b : Bool) → has (groups_listed p c) g ≡ b → (b || list_any (λ (d : CoherentList). has (groups_listed p d) g) cs) ≡ true
        → (list_any (λ (d : CoherentList). has (groups_listed p d) g) cs ≡ true → (k : ℕ) × ((d : CoherentList) × ((slice_get cs k ≡ Some d) × (has (groups_listed p d) g ≡ true))))
        → (k : ℕ) × ((d : CoherentList) × ((slice_get (c ∷ cs) k ≡ Some d) × (has (groups_listed p d) g ≡ true)))
    by_first true is h rest = (0, (c, (refl, is)))
    by_first false is h rest = let found = rest h in (suc found.0, (found.1.0, (found.1.1.0, found.1.1.1)))

pub named_or_not : (p : Plan) (g : ℕ) → IsNamed p g ⊎ IsUnnamed p g
named_or_not p g = by_test (names_group p g) refl
  where
    by_test : (b : Bool) → names_group p g ≡ b → IsNamed p g ⊎ IsUnnamed p g
    by_test true is =
        let found = named_in p g p.lists is in
        let named = has_named p g found.1.0.elems found.1.1.1 in
        inl (record {
          list = found.0;
          elem = named.elem;
          there = ap (λ (o : Option CoherentList). has (option_map_or (λ (d : CoherentList). d.elems) o []) named.elem) found.1.1.0 ∙ named.there;
          group = named.group;
        })
    by_test false is = inr (λ l x there group. false≢true (sym is ∙ names l x there group))
      where
        any_at : (cs : List CoherentList) (k : ℕ) (c : CoherentList) → slice_get cs k ≡ Some c → has (groups_listed p c) g ≡ true → list_any (λ (d : CoherentList). has (groups_listed p d) g) cs ≡ true
        any_at [] k c at h = absurd (cc at)
        any_at (d ∷ cs) zero c at h =
            let same : d ≡ c = same_Some d c at in
            or_left (has (groups_listed p d) g) (list_any (λ (e : CoherentList). has (groups_listed p e) g) cs) (subst (λ e. has (groups_listed p e) g ≡ true) (sym same) h)
        any_at (d ∷ cs) (suc k) c at h = or_right (has (groups_listed p d) g) (list_any (λ (e : CoherentList). has (groups_listed p e) g) cs) (any_at cs k c at h)

        names : (l x : ℕ) → has (elems_of p l) x ≡ true → group_of p x ≡ Some g → names_group p g ≡ true
        names l x there group = by_list (slice_get p.lists l) refl there
          where
            by_list : (o : Option CoherentList) → slice_get p.lists l ≡ o → has (option_map_or (λ (c : CoherentList). c.elems) o []) x ≡ true → names_group p g ≡ true
            by_list None at h = absurd (false≢true h)
            by_list (Some c) at h = any_at p.lists l c at (has_group p x g c.elems h group)
