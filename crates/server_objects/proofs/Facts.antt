-- A server of a plan: what an entry that touches it says of its actor and its event, and its points by place.
use Rattle.std.proofs.Common.{◌≡◌, ◌<◌, ◌+◌, ℕ, ℤ, Bool, true, false, not, ◌==◌, if◌then◌else◌, refl, sym, ◌∙◌, ap, subst, arith, List, length, get_or, set, Option, Some, None, ◌⊎◌, inl, inr}
use Rattle.std.specs.Prelude.{is_none, nat_lt}
use Rattle.bus_semantics.specs.Common.{list_all, slice_get, and_parts, cases_eq, eqb-true, false≢true, get_or-set_same, get_or-set_other, same_Some, get_or_from_slice_get, ActKey, Value}
use Rattle.bus_semantics.specs.Common.{words_of, same_number, same_key-Decides, same_number-Decides, Plan, server_of, queue_of, kind_of, runnable_of_event, positions, needs_event, made_by}
use Rattle.bus_semantics.specs.Common.{wanted_by, first_server, server_object, served_by, serves_directly, key_fits, fits, start_fits, activation_may_want, instance_of, starts_its_own}
use Rattle.bus_semantics.specs.Common.{is_proper}
use Rattle.bus_semantics.specs.declared.plan.EventKind.{EventKind}
use Rattle.bus_semantics.specs.declared.plan.EventKind.TheVariants.{Invoked, Returns}
use Rattle.bus_semantics.specs.declared.entries.Actor.{Actor}
use Rattle.bus_semantics.specs.declared.entries.Actor.TheVariants.{Act}
use Rattle.bus_semantics.specs.declared.entries.Deed.{Deed}
use Rattle.bus_semantics.specs.declared.entries.Deed.TheVariants as deed
use Rattle.client_server.specs.declared.point.Point.{Point}
use Rattle.client_server.specs.Points.{new_point}
use Rattle.object_kinds.specs.Common.{place, is_rising}
use Rattle.object_kinds.proofs.Lists.{all_at, all_filter}
use Rattle.object_kinds.proofs.Proper.{noting, wish_part, answer_part}
use Rattle.object_kinds.proofs.Rising.{place_here, rising_positions}
use Rattle.server_objects.specs.Layout.{server_in, runnable_in, is_joined_to, points_of, IsServer}
use Rattle.server_objects.specs.Standing.{number_at}

pub if_same : {X : Type 0} (b : Bool) (x : X) → (if b then x else x) ≡ x
if_same true x = refl
if_same false x = refl

pub same_option : (a b : Option ℕ) → same_number a b ≡ true → a ≡ b
same_option a b = (same_number-Decides a b).0

-- ---- keys

pub own_key : (k : ActKey) → made_by k (Act k) ≡ true
own_key k = (same_key-Decides k k).1 refl

pub same_keys : (j k : ActKey) → made_by j (Act k) ≡ true → j ≡ k
same_keys j k = (same_key-Decides j k).0

-- of another runnable
pub other_runnable : (j k : ActKey) → (j.runnable ≡ k.runnable → ⊥) → made_by j (Act k) ≡ false
other_runnable j k apart = by_test (made_by j (Act k)) refl
  where
    by_test : (b : Bool) → made_by j (Act k) ≡ b → b ≡ false
    by_test true same = absurd (apart (ap (λ (z : ActKey). z.runnable) (same_keys j k same)))
    by_test false same = refl

-- or for another point
pub other_point : (j k : ActKey) → (j.point ≡ k.point → ⊥) → made_by j (Act k) ≡ false
other_point j k apart = by_test (made_by j (Act k)) refl
  where
    by_test : (b : Bool) → made_by j (Act k) ≡ b → b ≡ false
    by_test true same = absurd (apart (ap (λ (z : ActKey). z.point) (same_keys j k same)))
    by_test false same = refl

pub apart_numbers : (q r : ℕ) → (q ≡ r → ⊥) → (q == r) ≡ false
apart_numbers q r apart = by_test (q == r) refl
  where
    by_test : (b : Bool) → (q == r) ≡ b → b ≡ false
    by_test true same = absurd (apart (eqb-true q r same))
    by_test false same = refl

-- ---- points by place

pub points_joined : (p : Plan) (s : ℕ) (points : List ℕ) (i q : ℕ) → points ≡ points_of p s → slice_get points i ≡ Some q → server_of p q ≡ Some s
points_joined p s points i q is there =
    same_option (server_of p q) (Some s)
    (all_at (is_joined_to p s) points i q (subst (λ qs. list_all (is_joined_to p s) qs ≡ true) (sym is) (all_filter (is_joined_to p s) (positions (length p.points)))) there)

pub points_rise : (p : Plan) (s : ℕ) (points : List ℕ) → points ≡ points_of p s → is_rising points ≡ true
points_rise p s points is = subst (λ qs. is_rising qs ≡ true) (sym is) (rising_positions (is_joined_to p s) (length p.points))

-- in rising numbers one number stands at one place
pub one_place : (points : List ℕ) (i j q r : ℕ) → is_rising points ≡ true → slice_get points i ≡ Some q → slice_get points j ≡ Some r → q ≡ r → i ≡ j
one_place points i j q r up at_i at_j same =
    same_Some i j (sym (place_here points i q up at_i) ∙ ap (λ x. place x points) same ∙ place_here points j r up at_j)

pub number_there : (points : List ℕ) (i q : ℕ) → slice_get points i ≡ Some q → number_at points i ≡ q
number_there points i q there = get_or_from_slice_get points i q 0 there

-- of a changed list of points, what holds of the changed one and of all others
pub set_point : (P : Point → Type 0) (ts : List Point) (i j : ℕ) (x : Point) → i < length ts → (j ≡ i → P x) → ((j ≡ i → ⊥) → P (get_or ts j new_point)) → P (get_or (set ts i x) j new_point)
set_point P ts i j x within here others = by_place (cases_eq j i)
  where
    by_place : (j ≡ i) ⊎ (j ≡ i → ⊥) → P (get_or (set ts i x) j new_point)
    by_place (inl same) = subst P (sym (ap (λ n. get_or (set ts i x) n new_point) same ∙ get_or-set_same ts i x new_point within)) (here same)
    by_place (inr apart) = subst P (sym (get_or-set_other ts i j x new_point apart)) (others apart)

-- an activation of a point that calls the server
pub record OwnPoint (p : Plan) (s : ℕ) (k : ActKey) : Type 0 where
  pub point : ℕ
  pub own : k.point ≡ Some point
  pub joined : server_of p point ≡ Some s

-- ---- the server that an entry touches

module _ (p : Plan) (object : ℕ) (is : IsServer p object) where
  abbrev s : ℕ
  s = server_in p object

  pub server_is : (o : Option ℕ) → same_number (server_object p o) (Some object) ≡ true → o ≡ Some s
  server_is None touching = absurd (false≢true touching)
  server_is (Some t) touching =
      let same : first_server p + t ≡ object = eqb-true (first_server p + t) object touching in
      ap (λ n. Some n) (omega arith)

  -- the object of the server
  pub object_is : first_server p + s ≡ object
  object_is = let from = is.from in omega arith

  -- ---- keys

  pub home_of : (k : ActKey) → k.runnable ≡ runnable_in p s → served_by p (Act k) ≡ Some s
  home_of k same = subst (λ r. served_by p (Act (record { runnable = r; point = k.point })) ≡ Some s) (sym same) is.serves

  pub runnable_is : (k : ActKey) → served_by p (Act k) ≡ Some s → k.runnable ≡ runnable_in p s
  runnable_is k home = is.one_runnable k.runnable home

  module _ (k : ActKey) (fit : key_fits p k ≡ true) (home : served_by p (Act k) ≡ Some s) where
    directly : serves_directly p k ≡ is_none (queue_of p s)
    directly = rw home refl

    named : (o : Option ℕ) → k.point ≡ o → key_fits p (record { runnable = k.runnable; point = o }) ≡ true
    named o at = subst (λ (x : Option ℕ). key_fits p (record { runnable = k.runnable; point = x }) ≡ true) at fit

    -- an activation of a queued server has no point of its own
    pub queued_point : (most : ℕ) → queue_of p s ≡ Some most → k.point ≡ None
    queued_point most queue = by_point k.point refl
      where
        by_point : (o : Option ℕ) → k.point ≡ o → o ≡ None
        by_point None at = refl
        by_point (Some q) at =
            let direct = (and_parts (serves_directly p k) _ (and_parts (nat_lt k.runnable (length p.runnables)) _ (named (Some q) at)).1).0 in
            absurd (false≢true (sym (directly ∙ ap is_none queue) ∙ direct))

    -- and one of a direct server has one that calls it
    pub direct_point : queue_of p s ≡ None → OwnPoint p s k
    direct_point queue = by_point k.point refl
      where
        by_point : (o : Option ℕ) → k.point ≡ o → OwnPoint p s k
        by_point None at =
            let free : not (serves_directly p k) ≡ true = (and_parts (nat_lt k.runnable (length p.runnables)) (not (serves_directly p k)) (named None at)).1 in
            absurd (false≢true (sym (ap not (directly ∙ ap is_none queue)) ∙ free))
        by_point (Some q) at =
            let parts = and_parts (serves_directly p k) (same_number (server_of p q) (served_by p (Act k))) (and_parts (nat_lt k.runnable (length p.runnables)) _ (named (Some q) at)).1 in
            record { point = q; own = at; joined = same_option (server_of p q) (served_by p (Act k)) parts.1 ∙ home }

  pub key_is : (k : ActKey) (o : Option ℕ) → served_by p (Act k) ≡ Some s → k.point ≡ o → k ≡ record { runnable = runnable_in p s; point = o }
  key_is k o home at = λ i. record { runnable = runnable_is k home i; point = at i }

-- ---- the parts of a proper entry of an activation

pub key_part : (p : Plan) (k : ActKey) (d : Deed) (event : Option ℕ) → needs_event d ≡ false → is_proper p (noting (Act k) d event) ≡ true → key_fits p k ≡ true
key_part p k d event free proper = (and_parts (key_fits p k) (activation_may_want p k (instance_of p k.runnable) (wanted_by 0 d)) (wish_part p (Act k) d event free proper)).0

pub own_event : (p : Plan) (k : ActKey) (e : ℕ) (point : Option ℕ) (value : Value) (event : Option ℕ) → is_proper p (noting (Act k) (deed.Start e point value) event) ≡ true → runnable_of_event p e ≡ Some k.runnable
own_event p k e point value event proper =
    same_option (runnable_of_event p e) (Some k.runnable)
    (and_parts (fits p (record { actor = Act k; deed = deed.Start e point value })) (starts_its_own p (Act k) (deed.Start e point value)) proper).1

pub start_part : (p : Plan) (a : Actor) (e : ℕ) (point : Option ℕ) (value : Value) (event : Option ℕ) → is_proper p (noting a (deed.Start e point value) event) ≡ true → start_fits p (kind_of p e) point (words_of value) ≡ true
start_part p a e point value event proper = answer_part p (noting a (deed.Start e point value) event) proper

-- the start of a server names a point, and no other start does
pub record Named (p : Plan) (s : ℕ) (point : Option ℕ) : Type 0 where
  pub number : ℕ
  pub names : point ≡ Some number
  pub joined : server_of p number ≡ Some s

pub invoked_names : (p : Plan) (k : EventKind) (s : ℕ) (point : Option ℕ) (ws : List ℤ) → k ≡ Invoked s → start_fits p k point ws ≡ true → Named p s point
invoked_names p k s None ws is fit = let no = rw is at fit in absurd (false≢true no)
invoked_names p k s (Some q) ws is fit = let joined = rw is at fit in record { number = q; names = refl; joined = same_option (server_of p q) (Some s) joined }

pub returns_unnamed : (p : Plan) (k : EventKind) (q : ℕ) (point : Option ℕ) (ws : List ℤ) → k ≡ Returns q → start_fits p k point ws ≡ true → point ≡ None
returns_unnamed p k q None ws is fit = refl
returns_unnamed p k q (Some r) ws is fit = let no = rw is at fit in absurd (false≢true no)
