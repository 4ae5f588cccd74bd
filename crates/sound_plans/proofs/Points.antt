-- Calls: each access that calls is a point, whose number is its place; those of the environment stand last.
use Rattle.std.proofs.Common.{◌≡◌, ℕ, zero, suc, ◌+◌, ◌<◌, ◌≤◌, Bool, true, false, ◌==◌, nat_eq, refl, sym, ◌∙◌, ap, subst, arith, List, [], ◌∷◌, ◌++◌, length, Some, ◌⊎◌, inl, inr}
use Rattle.bus_semantics.specs.Common.{slice_get, flat_map, eqb-true, eq-eqb, and_from, and_parts, same_Some, slice_get_within, AccessKind}
use Rattle.runnable_lang.specs.declared.program.AccessKind.TheVariants as kind
use Rattle.plan_definitions.specs.Common.{Access, Component, Port, PortKind, Provided, Required, Runnable, Description, Flat, called_by, left_by, called, left, is_left, access_keeps, count}
use Rattle.plan_definitions.specs.Common.{same_operation, from, positions, of_instances, root_ports, calling_of, callings_in, callings_of_component, operations_at, outer_calling}
use Rattle.plan_definitions.specs.Common.{outer_callings, callings, IsWhole}
use Rattle.bus_laws.specs.Common.{BusPlan, Mapping}
use Rattle.plan_definitions.specs.declared.calling.Calling.{Calling}
use Rattle.plan_definitions.proofs.Lists.{many_positions, position_there}
use Rattle.sound_plans.proofs.Places.{before, in_from, reach, within_before, append_left, Later, map_at, counted_at, once}
use Rattle.sound_plans.proofs.Members.{Has, has_flat}
use Rattle.sound_plans.proofs.Parts.{Home, start, of_instance, to_instance}
use Rattle.sound_plans.proofs.Rules.{call_kept}

-- ---- lists joined end to end

pub flat_from : {X Y : Type 0} (g : X → List Y) (n : ℕ) (xs : List X) → flat_map g xs ≡ from n (λ k x. g x) xs
flat_from g n [] = refl
flat_from g n (x ∷ xs) = ap (λ ys. g x ++ ys) (flat_from g (n + 1) xs)

-- a place in the joined list is in one part alone
pub part_once : {X Y : Type 0} (g : ℕ → X → List Y) (n : ℕ) (xs : List X) (a b : ℕ) (x y : X) (s t : ℕ) → slice_get xs a ≡ Some x → slice_get xs b ≡ Some y → s < length (g (n + a) x) → t < length (g (n + b) y)
    → before g n xs a + s ≡ before g n xs b + t → (a ≡ b) × (s ≡ t)
part_once g n xs a b x y s t there here l k e = by (Rattle.std.proofs.lemmas.Bool.cases_lt a b) (Rattle.std.proofs.lemmas.Bool.cases_lt b a)
  where
    by : (a < b) ⊎ (b ≤ a) → (b < a) ⊎ (a ≤ b) → (a ≡ b) × (s ≡ t)
    by (inl less) other = let w = within_before g n xs a b x there less in absurd (omega arith)
    by (inr most) (inl less) = let w = within_before g n xs b a y here less in absurd (omega arith)
    by (inr most) (inr least) = let same : a ≡ b = omega arith in let equal : before g n xs a ≡ before g n xs b = ap (before g n xs) same in (same, omega arith)

-- ---- what an access calls

-- an access calls, waiting or not
pub data Calls : AccessKind → Bool → Type 0 where
  waits : Calls kind.Call false
  goes_on : Calls kind.ACall true

abbrev pub call : ℕ → ℕ → Access → Bool → Calling
call i m a asynchronous = record { caller = Some (i, m); port = a.port; item = a.item; asynchronous = asynchronous }

pub record IsCall (i m : ℕ) (a : Access) (y : Calling) : Type 0 where
  pub asynchronous : Bool
  pub calls : Calls a.kind asynchronous
  pub is : y ≡ call i m a asynchronous

one_item : {X : Type 0} (x y : X) (k : ℕ) → slice_get (x ∷ []) k ≡ Some y → (x ≡ y) × (k ≡ 0)
one_item x y zero e = (same_Some x y e, refl)
one_item x y (suc k) e = absurd (cc e)

call_at : (i m : ℕ) (k : AccessKind) (port item : ℕ) (j : ℕ) (y : Calling) → slice_get (calling_of i m (record { kind = k; port = port; item = item })) j ≡ Some y → IsCall i m (record { kind = k; port = port; item = item }) y × (j ≡ 0)
call_at i m kind.Call port item j y e = let one = one_item (record { caller = Some (i, m); port = port; item = item; asynchronous = false }) y j e in (record { asynchronous = false; calls = waits; is = sym one.0 }, one.1)
call_at i m kind.ACall port item j y e = let one = one_item (record { caller = Some (i, m); port = port; item = item; asynchronous = true }) y j e in (record { asynchronous = true; calls = goes_on; is = sym one.0 }, one.1)
call_at i m k port item j y e = absurd (cc e)

pub is_call_at : (i m : ℕ) (a : Access) (j : ℕ) (y : Calling) → slice_get (calling_of i m a) j ≡ Some y → IsCall i m a y × (j ≡ 0)
is_call_at i m a j y e = call_at i m a.kind a.port a.item j y e

call_has : (i m : ℕ) (k : AccessKind) (port item : ℕ) (b : Bool) → Calls k b → calling_of i m (record { kind = k; port = port; item = item }) ≡ record { caller = Some (i, m); port = port; item = item; asynchronous = b } ∷ []
call_has i m _ port item _ waits = refl
call_has i m _ port item _ goes_on = refl

pub has_call : (i m : ℕ) (a : Access) (b : Bool) → Calls a.kind b → calling_of i m a ≡ call i m a b ∷ []
has_call i m a b c = call_has i m a.kind a.port a.item b c

call_called : (k : AccessKind) (port item : ℕ) (b : Bool) → Calls k b → called_by (record { kind = k; port = port; item = item }) ≡ (port, item) ∷ []
call_called _ port item _ waits = refl
call_called _ port item _ goes_on = refl

left_kind : (k : AccessKind) (port item : ℕ) (x : ℕ × ℕ) → Has (ℕ × ℕ) (left_by (record { kind = k; port = port; item = item })) x → (k ≡ kind.ACall) × (x ≡ (port, item))
left_kind kind.ACall port item x h = (refl, sym (one_item (port, item) x h.place h.there).0)
left_kind k port item x h = absurd (cc h.there)

module _ (d : Description) (f : Flat) where
  -- ---- the points of instances

  abbrev pub inner : List Calling
  inner = of_instances callings_of_component d f

  abbrev pub outer : List Calling
  outer = from 0 (outer_callings d) (root_ports d)

  abbrev pub calls_of : ℕ → ℕ → ℕ → Access → List Calling
  calls_of i m j a = calling_of i m a

  -- where the call of an access stands
  pub call_place : ℕ → Component → ℕ → Runnable → ℕ → ℕ
  call_place i c m r j = start d f callings_of_component i + (before (callings_in i) 0 c.behavior.runnables m + before (calls_of i m) 0 r.accesses j)

  pub record InnerCall (q : ℕ) (y : Calling) : Type 0 where
    pub i : ℕ
    pub c : Component
    pub home : Home d f i c
    pub m : ℕ
    pub runnable : Runnable
    pub there : slice_get c.behavior.runnables m ≡ Some runnable
    pub j : ℕ
    pub access : Access
    pub here : slice_get runnable.accesses j ≡ Some access
    pub is : IsCall i m access y
    pub place : q ≡ call_place i c m runnable j

  pub inner_call : (q : ℕ) (y : Calling) → slice_get inner q ≡ Some y → InnerCall q y
  unfolding call_place
  inner_call q y e =
      let w = of_instance d f callings_of_component q y e in
      let u = in_from (callings_in w.i) 0 w.c.behavior.runnables w.place y w.inside in
      let none : 0 + u.at ≡ u.at = omega arith in
      let inside : slice_get (callings_in w.i u.at u.item) u.place ≡ Some y = subst (λ n. slice_get (callings_in w.i n u.item) u.place ≡ Some y) none u.inside in
      let v = in_from (calls_of w.i u.at) 0 u.item.accesses u.place y (ap (λ ys. slice_get ys u.place) (sym (flat_from (calling_of w.i u.at) 0 u.item.accesses)) ∙ inside) in
      let one = is_call_at w.i u.at v.item v.place y v.inside in
      let a = w.sum in let b = u.sum in let c = v.sum in let zero_there = one.1 in
      record { i = w.i; c = w.c; home = w.home; m = u.at; runnable = u.item; there = u.there; j = v.at; access = v.item; here = v.there; is = one.0; place = omega arith }

  pub call_there : (i : ℕ) (c : Component) → Home d f i c → (m : ℕ) (r : Runnable) → slice_get c.behavior.runnables m ≡ Some r → (j : ℕ) (a : Access) → slice_get r.accesses j ≡ Some a → (b : Bool) → Calls a.kind b
      → slice_get (callings d f) (call_place i c m r j) ≡ Some (call i m a b)
  unfolding call_place
  call_there i c home m r at j a here b calls =
      let none : m ≡ 0 + m = omega arith in
      let first : slice_get (calls_of i m (0 + j) a) 0 ≡ Some (call i m a b) = ap (λ ys. slice_get ys 0) (has_call i m a b calls) in
      let second : slice_get (from 0 (calls_of i m) r.accesses) (before (calls_of i m) 0 r.accesses j + 0) ≡ Some (call i m a b) = reach (calls_of i m) 0 r.accesses j a 0 (call i m a b) here first in
      let nought : before (calls_of i m) 0 r.accesses j + 0 ≡ before (calls_of i m) 0 r.accesses j = omega arith in
      let third : slice_get (callings_in i m r) (before (calls_of i m) 0 r.accesses j) ≡ Some (call i m a b) = ap (λ ys. slice_get ys (before (calls_of i m) 0 r.accesses j)) (flat_from (calling_of i m) 0 r.accesses) ∙ ap (slice_get (from 0 (calls_of i m) r.accesses)) (sym nought) ∙ second in
      let fourth = reach (callings_in i) 0 c.behavior.runnables m r (before (calls_of i m) 0 r.accesses j) (call i m a b) at (subst (λ n. slice_get (callings_in i n r) (before (calls_of i m) 0 r.accesses j) ≡ Some (call i m a b)) none third) in
      append_left inner outer (start d f callings_of_component i + (before (callings_in i) 0 c.behavior.runnables m + before (calls_of i m) 0 r.accesses j)) (call i m a b)
      (to_instance d f callings_of_component i c home (before (callings_in i) 0 c.behavior.runnables m + before (calls_of i m) 0 r.accesses j) (call i m a b) fourth)

  -- ---- the points of the environment

  pub record OuterCall (q : ℕ) (y : Calling) : Type 0 where
    pub k : ℕ
    pub port : Port
    pub there : slice_get (root_ports d) k ≡ Some port
    pub side : port.kind ≡ Provided
    pub n : ℕ
    pub within : n < operations_at d port
    pub is : y ≡ outer_calling k n
    pub place : q ≡ length inner + (before (outer_callings d) 0 (root_ports d) k + n)

  outer_at : (short_name : List ℕ) (side : PortKind) (interface : ℕ) (port : Port) → port.kind ≡ side → (k j : ℕ) (y : Calling) → slice_get (outer_callings d k port) j ≡ Some y → (port.kind ≡ Provided) × (j < operations_at d port) × (y ≡ outer_calling k j)
  outer_at short_name Provided interface port is k j y e =
      let at : slice_get (outer_callings d k (record { short_name = port.short_name; kind = Provided; interface = port.interface; com_specs = port.com_specs })) j ≡ Some y =
      subst (λ (p : Port). slice_get (outer_callings d k p) j ≡ Some y) (λ q. record { short_name = port.short_name; kind = is q; interface = port.interface; com_specs = port.com_specs }) e in
      let x = map_at (outer_calling k) (positions 0 (operations_at d port)) j y at in
      let within : j < length (positions 0 (operations_at d port)) = slice_get_within (positions 0 (operations_at d port)) j x.item x.there in
      let long : length (positions 0 (operations_at d port)) ≡ operations_at d port = many_positions 0 (operations_at d port) in
      let less : j < operations_at d port = omega arith in
      let none : 0 + j ≡ j = omega arith in
      let item : x.item ≡ j = same_Some x.item j (sym x.there ∙ position_there 0 (operations_at d port) j less ∙ ap (λ n. Some n) none) in
      (is, less, x.is ∙ ap (outer_calling k) item)
  outer_at short_name Required interface port is k j y e =
      let at : slice_get (outer_callings d k (record { short_name = port.short_name; kind = Required; interface = port.interface; com_specs = port.com_specs })) j ≡ Some y =
      subst (λ (p : Port). slice_get (outer_callings d k p) j ≡ Some y) (λ q. record { short_name = port.short_name; kind = is q; interface = port.interface; com_specs = port.com_specs }) e in
      absurd (cc at)

  pub outer_call : (q : ℕ) (y : Calling) → Later Calling inner outer q y → OuterCall q y
  outer_call q y l =
      let w = in_from (outer_callings d) 0 (root_ports d) l.place y l.there in
      let none : 0 + w.at ≡ w.at = omega arith in
      let x = outer_at w.item.short_name w.item.kind w.item.interface w.item refl w.at w.place y (subst (λ n. slice_get (outer_callings d n w.item) w.place ≡ Some y) none w.inside) in
      let a = l.sum in let b = w.sum in
      record { k = w.at; port = w.item; there = w.there; side = x.0; n = w.place; within = x.1; is = x.2; place = omega arith }

  -- ---- no two calls of one operation, where one goes on

  module _ (p : BusPlan) (m : Mapping) (w : IsWhole d f p m) (t : ℕ) (c : Component) (at : slice_get d.components t ≡ Some c) where
    abbrev calls_in : ℕ → Access → List (ℕ × ℕ)
    calls_in j a = called_by a

    abbrev calls_by : ℕ → Runnable → List (ℕ × ℕ)
    calls_by k r = flat_map called_by r.accesses

    -- where an access calls among all that are called
    called_place : ℕ → Runnable → ℕ → ℕ
    called_place k r j = before calls_by 0 c.behavior.runnables k + before calls_in 0 r.accesses j

    called_there : (k : ℕ) (r : Runnable) → slice_get c.behavior.runnables k ≡ Some r → (j : ℕ) (a : Access) → slice_get r.accesses j ≡ Some a → (b : Bool) → Calls a.kind b → slice_get (called c.behavior.runnables) (called_place k r j) ≡ Some (a.port, a.item)
    unfolding called_place
    called_there k r there j a here b calls =
        let nought : before calls_in 0 r.accesses j + 0 ≡ before calls_in 0 r.accesses j = omega arith in
        let first : slice_get (flat_map called_by r.accesses) (before calls_in 0 r.accesses j) ≡ Some (a.port, a.item) =
        ap (λ ys. slice_get ys (before calls_in 0 r.accesses j)) (flat_from called_by 0 r.accesses) ∙ ap (slice_get (from 0 calls_in r.accesses)) (sym nought)
        ∙ reach calls_in 0 r.accesses j a 0 (a.port, a.item) here (ap (λ ys. slice_get ys 0) (call_called a.kind a.port a.item b calls)) in
        ap (λ ys. slice_get ys (before calls_by 0 c.behavior.runnables k + before calls_in 0 r.accesses j)) (flat_from (λ (x : Runnable). flat_map called_by x.accesses) 0 c.behavior.runnables)
        ∙ reach calls_by 0 c.behavior.runnables k r (before calls_in 0 r.accesses j) (a.port, a.item) there first

    one_place : (k l : ℕ) (r s : Runnable) → slice_get c.behavior.runnables k ≡ Some r → slice_get c.behavior.runnables l ≡ Some s → (i j : ℕ) (a b : Access) → slice_get r.accesses i ≡ Some a → slice_get s.accesses j ≡ Some b
        → (x y : Bool) → Calls a.kind x → Calls b.kind y → called_place k r i ≡ called_place l s j → (k ≡ l) × (i ≡ j)
    unfolding called_place
    one_place k l r s there here i j a b at_i at_j x y u v e =
        let long_i : length (called_by a) ≡ 1 = ap length (call_called a.kind a.port a.item x u) in
        let long_j : length (called_by b) ≡ 1 = ap length (call_called b.kind b.port b.item y v) in
        let within_i : before calls_in 0 r.accesses i < length (flat_map called_by r.accesses) = slice_get_within (flat_map called_by r.accesses) (before calls_in 0 r.accesses i) (a.port, a.item) (first r i a at_i x u) in
        let within_j : before calls_in 0 s.accesses j < length (flat_map called_by s.accesses) = slice_get_within (flat_map called_by s.accesses) (before calls_in 0 s.accesses j) (b.port, b.item) (first s j b at_j y v) in
        let outer_part = part_once calls_by 0 c.behavior.runnables k l r s (before calls_in 0 r.accesses i) (before calls_in 0 s.accesses j) there here within_i within_j e in
        let same : r ≡ s = same_Some r s (sym there ∙ ap (slice_get c.behavior.runnables) outer_part.0 ∙ here) in
        let at_j_r : slice_get r.accesses j ≡ Some b = subst (λ (z : Runnable). slice_get z.accesses j ≡ Some b) (sym same) at_j in
        let equal : before calls_in 0 r.accesses i + 0 ≡ before calls_in 0 r.accesses j + 0 = ap (λ n. n + 0) (outer_part.1 ∙ ap (λ (z : Runnable). before calls_in 0 z.accesses j) (sym same)) in
        let inner_part = part_once calls_in 0 r.accesses i j a b 0 0 at_i at_j_r (omega arith) (omega arith) equal in
        (outer_part.0, inner_part.0)
      where
        first : (r : Runnable) (j : ℕ) (a : Access) → slice_get r.accesses j ≡ Some a → (b : Bool) → Calls a.kind b → slice_get (flat_map called_by r.accesses) (before calls_in 0 r.accesses j) ≡ Some (a.port, a.item)
        first r j a here b calls =
            let nought : before calls_in 0 r.accesses j + 0 ≡ before calls_in 0 r.accesses j = omega arith in
            ap (λ ys. slice_get ys (before calls_in 0 r.accesses j)) (flat_from called_by 0 r.accesses) ∙ ap (slice_get (from 0 calls_in r.accesses)) (sym nought)
            ∙ reach calls_in 0 r.accesses j a 0 (a.port, a.item) here (ap (λ ys. slice_get ys 0) (call_called a.kind a.port a.item b calls))

    -- where one of two calls of an operation goes on, they are one
    pub called_once : (k l : ℕ) (r s : Runnable) → slice_get c.behavior.runnables k ≡ Some r → slice_get c.behavior.runnables l ≡ Some s → (i j : ℕ) (a b : Access) → slice_get r.accesses i ≡ Some a → slice_get s.accesses j ≡ Some b
        → a.kind ≡ kind.ACall → (y : Bool) → Calls b.kind y → a.port ≡ b.port → a.item ≡ b.item → (k ≡ l) × (i ≡ j)
    called_once k l r s there here i j a b at_i at_j goes y v port item =
        let calls : Calls a.kind true = subst (λ x. Calls x true) (sym goes) goes_on in
        let kept : (count (same_operation (a.port, a.item)) (called c.behavior.runnables) == 1) ≡ true =
        subst (λ (x : Access). access_keeps c.behavior.runnables x ≡ true) (λ q. record { kind = goes q; port = a.port; item = a.item }) (call_kept d f p m w t c at k r i a there at_i) in
        let one = eqb-true (count (same_operation (a.port, a.item)) (called c.behavior.runnables)) 1 kept in
        let same = once (same_operation (a.port, a.item)) (called c.behavior.runnables) (called_place k r i) (called_place l s j) (a.port, a.item) (b.port, b.item) (omega arith)
        (called_there k r there i a at_i true calls) (and_from (nat_eq a.port a.port) (nat_eq a.item a.item) (eq-eqb a.port a.port refl) (eq-eqb a.item a.item refl))
        (called_there l s here j b at_j y v) (and_from (nat_eq a.port b.port) (nat_eq a.item b.item) (eq-eqb a.port b.port port) (eq-eqb a.item b.item item)) in
        one_place k l r s there here i j a b at_i at_j true y calls v same

    -- an operation that is called without waiting has an access that does so
    pub record LeftBy (k n : ℕ) : Type 0 where
      pub number : ℕ
      pub runnable : Runnable
      pub there : slice_get c.behavior.runnables number ≡ Some runnable
      pub j : ℕ
      pub access : Access
      pub here : slice_get runnable.accesses j ≡ Some access
      pub goes : access.kind ≡ kind.ACall
      pub port : access.port ≡ k
      pub item : access.item ≡ n

    pub left_by_access : (k n : ℕ) → is_left c.behavior.runnables (k, n) ≡ true → LeftBy k n
    left_by_access k n e =
        let u = counted_at (same_operation (k, n)) (left c.behavior.runnables) (Rattle.std.proofs.lemmas.Bool.ltb-true 0 (count (same_operation (k, n)) (left c.behavior.runnables)) e) in
        let v = has_flat (λ (r : Runnable). flat_map left_by r.accesses) c.behavior.runnables u.item (record { place = u.place; there = u.there }) in
        let x = has_flat left_by v.item.accesses u.item v.inside in
        let y = left_kind x.item.kind x.item.port x.item.item u.item x.inside in
        let two = and_parts (nat_eq k u.item.0) (nat_eq n u.item.1) u.passes in
        record {
          number = v.has.place;
          runnable = v.item;
          there = v.has.there;
          j = x.has.place;
          access = x.item;
          here = x.has.there;
          goes = y.0;
          port = sym (eqb-true k u.item.0 two.0 ∙ ap (λ (z : ℕ × ℕ). z.0) y.1);
          item = sym (eqb-true n u.item.1 two.1 ∙ ap (λ (z : ℕ × ℕ). z.1) y.1);
        }
