-- The points of calls, as they are looked up.
use Rattle.std.proofs.Common.{◌≡◌, ℕ, ◌+◌, List, [], ◌∷◌, map, Bool, true, false, cond, ◌&&◌, nat_eq, Option, Some, None, refl, ap, ◌∙◌}
use Rattle.bus_semantics.specs.Common.{position_from, option_eq, option_map, option_map_or, unwrap_or}
use Rattle.std.proofs.Math.Bool.{and_assoc}
use Rattle.plan_definitions.specs.Common.{same_pair, call_key, first_calling, is_calling, leaves, left_key}
use Rattle.plan_definitions.specs.declared.calling.Calling.{Calling}
use Rattle.plan_definitions.proofs.Keys.{nat_eq_sym}

-- the position of a key is that of the first thing that has it
pub position_map : {X K : Type 0} (key : X → K) (test : K → Bool) (passes : X → Bool) → ((x : X) → test (key x) ≡ passes x) → (n : ℕ) (xs : List X)
    → position_from test n (map key xs) ≡ position_from passes n xs
position_map key test passes same n [] = refl
position_map key test passes same n (x ∷ xs) = (λ j. cond (same x j) (Some n) (position_map key test passes same (n + 1) xs j))

abbrev pub same_call : Option (ℕ × ℕ) × ℕ × ℕ → Option (ℕ × ℕ) × ℕ × ℕ → Bool
same_call a b = (option_eq same_pair a.0 b.0 && nat_eq a.1 b.1) && nat_eq a.2 b.2

abbrev pub same_left : Option ℕ × ℕ × ℕ → Option ℕ × ℕ × ℕ → Bool
same_left a b = (option_eq nat_eq a.0 b.0 && nat_eq a.1 b.1) && nat_eq a.2 b.2

rest_same : (b : Bool) (k n : ℕ) (c : Calling) → ((b && nat_eq k c.port) && nat_eq n c.item) ≡ (b && (nat_eq c.port k && nat_eq c.item n))
rest_same b k n c = and_assoc b (nat_eq k c.port) (nat_eq n c.item) ∙ (λ j. b && (nat_eq_sym k c.port j && nat_eq_sym n c.item j))

caller_same : (i m : ℕ) (caller : Option (ℕ × ℕ)) → option_eq same_pair (Some (i, m)) caller ≡ option_map_or (λ x. nat_eq x.0 i && nat_eq x.1 m) caller false
caller_same i m None = refl
caller_same i m (Some x) = λ j. nat_eq_sym i x.0 j && nat_eq_sym m x.1 j

call_same : (i m k n : ℕ) (c : Calling) → same_call (Some (i, m), k, n) (call_key c) ≡ is_calling (i, m) k n c
call_same i m k n c = (λ j. (caller_same i m c.caller j && nat_eq k c.port) && nat_eq n c.item) ∙ rest_same (option_map_or (λ x. nat_eq x.0 i && nat_eq x.1 m) c.caller false) k n c

owner_same : (i : ℕ) (caller : Option (ℕ × ℕ)) (b : Bool) → option_eq nat_eq (Some i) (cond b (option_map (λ (x : ℕ × ℕ). x.0) caller) None) ≡ (option_map_or (λ (x : ℕ × ℕ). nat_eq x.0 i) caller false && b)
owner_same i None true = refl
owner_same i None false = refl
owner_same i (Some x) true = nat_eq_sym i x.0 ∙ by (nat_eq x.0 i)
  where
    by : (b : Bool) → b ≡ (b && true)
    by true = refl
    by false = refl
owner_same i (Some x) false = by (nat_eq x.0 i)
  where
    by : (b : Bool) → false ≡ (b && false)
    by true = refl
    by false = refl

left_same : (i k n : ℕ) (c : Calling) → same_left (Some i, k, n) (left_key c) ≡ leaves i k n c
left_same i k n c = (λ j. (owner_same i c.caller c.asynchronous j && nat_eq k c.port) && nat_eq n c.item) ∙ rest_same (option_map_or (λ x. nat_eq x.0 i) c.caller false && c.asynchronous) k n c

pub called_at : (i m k n : ℕ) (keys : List (Option (ℕ × ℕ) × ℕ × ℕ)) (list : List Calling) → keys ≡ map call_key list
    → unwrap_or (position_from (same_call (Some (i, m), k, n)) 0 keys) 0 ≡ first_calling (is_calling (i, m) k n) list
called_at i m k n keys list are = ap (λ ks. unwrap_or (position_from (same_call (Some (i, m), k, n)) 0 ks) 0) are
    ∙ ap (λ p. unwrap_or p 0) (position_map call_key (same_call (Some (i, m), k, n)) (is_calling (i, m) k n) (call_same i m k n) 0 list)

pub left_at : (i k n : ℕ) (keys : List (Option ℕ × ℕ × ℕ)) (list : List Calling) → keys ≡ map left_key list
    → unwrap_or (position_from (same_left (Some i, k, n)) 0 keys) 0 ≡ first_calling (leaves i k n) list
left_at i k n keys list are = ap (λ ks. unwrap_or (position_from (same_left (Some i, k, n)) 0 ks) 0) are
    ∙ ap (λ p. unwrap_or p 0) (position_map left_key (same_left (Some i, k, n)) (leaves i k n) (left_same i k n) 0 list)
