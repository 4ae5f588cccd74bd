-- The users of a machine, as they are found among what is kept.
use Rattle.std.proofs.Common.{◌≡◌, ℕ, zero, suc, ◌+◌, ◌<◌, ◌≤◌, List, [], ◌∷◌, length, map, filter, take, get_or, Bool, true, false, cond, ◌&&◌, ◌||◌, not, nat_eq, is_some, if◌then◌else◌}
use Rattle.std.proofs.Common.{refl, sym, ap, ◌∙◌, arith, add-one}
use Rattle.std.specs.List.{list_any}
use Rattle.plan_definitions.specs.Common.{Description, Flat, mode_ports_of, is_user, machine_required, refuses_asynchronous, supports_asynchronous, waits_of}
use Rattle.plan_definitions.specs.declared.site.Site.{Site}
use Rattle.indexmap.specs.IndexSet.{contains}
use Rattle.plan_definitions.proofs.Keys.{nat_eq_sym}
use Rattle.plan_services.specs.declared.users.Users.{Users}
use Rattle.plan_services.specs.Users.{AreUsers, is_refusal, is_use}

-- a number is that of one of those that are kept
module _ (number : Site → ℕ) (kept : Site → Bool) (n : ℕ) (test : Site → Bool) (is : (s : Site) → (kept s && nat_eq n (number s)) ≡ test s) where
  any_kept : (sites : List Site) → list_any (nat_eq n) (map number (filter kept sites)) ≡ list_any test sites
  any_kept [] = refl
  any_kept (s ∷ sites) = by (kept s) (is s) (any_kept sites)
    where
      by : (b : Bool) → (b && nat_eq n (number s)) ≡ test s → list_any (nat_eq n) (map number (filter kept sites)) ≡ list_any test sites
          → list_any (nat_eq n) (map number (if b then s ∷ filter kept sites else filter kept sites)) ≡ (test s || list_any test sites)
      by true e rest = λ j. e j || rest j
      by false e rest = rest ∙ ap (λ b. b || list_any test sites) e

module _ (d : Description) (f : Flat) (n : ℕ) where
  is_user_of : (s : Site) → (is_use s && nat_eq n (machine_required d f s)) ≡ is_user d f n s
  is_user_of s = refl

  refuses : (s : Site) → (is_refusal d f s && nat_eq n (machine_required d f s)) ≡ refuses_asynchronous d f n s
  refuses s = by (is_some s.owner) (not (supports_asynchronous d f s)) (nat_eq n (machine_required d f s))
    where
      by : (owned refusing here : Bool) → ((owned && refusing) && here) ≡ ((owned && here) && refusing)
      by true true true = refl
      by true true false = refl
      by true false true = refl
      by true false false = refl
      by false refusing here = refl

  any_user : (sites : List Site) → list_any (nat_eq n) (map (machine_required d f) (filter is_use sites)) ≡ list_any (is_user d f n) sites
  any_user = any_kept (machine_required d f) is_use n (is_user d f n) is_user_of

  any_refusal : (sites : List Site) → list_any (nat_eq n) (map (machine_required d f) (filter (is_refusal d f) sites)) ≡ list_any (refuses_asynchronous d f n) sites
  any_refusal = any_kept (machine_required d f) (is_refusal d f) n (refuses_asynchronous d f n) refuses

  pub waits_kept : (u : Users) → AreUsers d f u → waits_of d f n ≡ (not (contains nat_eq u.used n) || contains nat_eq u.refused n)
  unfolding waits_of
  waits_kept u kept = (λ j. not (sym (kept.used n ∙ any_user (mode_ports_of d f)) j) || sym (kept.refused n ∙ any_refusal (mode_ports_of d f)) j)

-- the numbers of those that are kept among the first
module _ {X : Type 0} (number : X → ℕ) (kept : X → Bool) (n : ℕ) where
  abbrev among : List X → Bool
  among xs = list_any (nat_eq n) (map number (filter kept xs))

  or_swap : (a b c : Bool) → (a || (b || c)) ≡ (b || (a || c))
  or_swap true true c = refl
  or_swap true false c = refl
  or_swap false b c = refl

  among_first : (x : X) (xs : List X) → among (x ∷ xs) ≡ ((kept x && nat_eq n (number x)) || among xs)
  among_first x xs = by (kept x)
    where
      by : (b : Bool) → list_any (nat_eq n) (map number (if b then x ∷ filter kept xs else filter kept xs)) ≡ ((b && nat_eq n (number x)) || among xs)
      by true = refl
      by false = refl

  among_next : (xs : List X) (i : ℕ) (d : X) → i < length xs → among (take (suc i) xs) ≡ ((kept (get_or xs i d) && nat_eq n (number (get_or xs i d))) || among (take i xs))
  among_next [] i d within = absurd (omega arith)
  among_next (y ∷ xs) zero d within = among_first y []
  among_next (y ∷ xs) (suc i) d within = among_first y (take (suc i) xs) ∙ ap (λ b. (kept y && nat_eq n (number y)) || b) (among_next xs i d (omega arith))
      ∙ or_swap (kept y && nat_eq n (number y)) (kept (get_or xs i d) && nat_eq n (number (get_or xs i d))) (among (take i xs))
      ∙ ap (λ b. (kept (get_or xs i d) && nat_eq n (number (get_or xs i d))) || b) (sym (among_first y (take i xs)))

  take_all : (xs : List X) (i : ℕ) → length xs ≤ i → take i xs ≡ xs
  take_all [] zero past = refl
  take_all [] (suc i) past = refl
  take_all (y ∷ xs) zero past = absurd (omega arith)
  take_all (y ∷ xs) (suc i) past = ap (λ ys. y ∷ ys) (take_all xs i (omega arith))

  cond_or : (a old : Bool) → cond a true old ≡ (a || old)
  cond_or true old = refl
  cond_or false old = refl

  module _ (xs : List X) (i : ℕ) (d : X) (within : i < length xs) where
    abbrev here : X
    here = get_or xs i d

    pub among_more : (new old : Bool) → kept here ≡ true → new ≡ cond (nat_eq (number here) n) true old → old ≡ among (take i xs) → new ≡ among (take (i + 1) xs)
    among_more new old keeps more so_far = more ∙ cond_or (nat_eq (number here) n) old ∙ (λ j. (sym keeps j && nat_eq_sym (number here) n j) || so_far j) ∙ sym (among_next xs i d within)
        ∙ (λ j. among (take (sym (add-one i) j) xs))

    pub among_same : (old : Bool) → kept here ≡ false → old ≡ among (take i xs) → old ≡ among (take (i + 1) xs)
    among_same old leaves so_far = so_far ∙ (λ j. (sym leaves j && nat_eq n (number here)) || among (take i xs)) ∙ sym (among_next xs i d within) ∙ (λ j. among (take (sym (add-one i) j) xs))

  pub among_all : (xs : List X) (i : ℕ) (found : Bool) → length xs ≤ i → found ≡ among (take i xs) → found ≡ among xs
  among_all xs i found past so_far = so_far ∙ ap among (take_all xs i past)
