-- What is noted of the flags that are clear, as flags are cleared and set.
use Rattle.std.proofs.Common.{◌≡◌, ◌≢◌, ◌<◌, ◌≤◌, ◌+◌, ◌==◌, ◌&&◌, ℕ, refl, sym, ◌∙◌, ap, subst, arith, Bool, true, false, not, List, [], ◌∷◌, ◌++◌, length, set, Some, Vec, ◌⊎◌, inl, inr}
use Rattle.std.specs.Global.{Global}
use Rattle.std.specs.List.{slice_get, Contains, count_by}
use Rattle.std.specs.Vec.{vec_len, vec_capacity}
use Rattle.std.proofs.lemmas.Bool.{eq-eqb, ne_eqb, cases_eq}
use Rattle.std.proofs.lemmas.List.{length-set, length_push}
use Rattle.std.proofs.lemmas.List.Elements.{Contains-push, Contains-push_cases, Contains-append_left}
use Rattle.std.proofs.lemmas.List.Sums.{sum_by-le-sum_by}
use Rattle.std.proofs.lemmas.Option.{same_Some}
use Rattle.std.proofs.Math.Bool.{and-false}
use Rattle.latches.specs.Latches.{Latch, clear_in}
use Rattle.latches.specs.Noted.{is_of, is_clear_of, IsOf, IsNoted, AreNoted}
use Rattle.latches.proofs.Counts.{one_if, count_same, count_more}
use Rattle.latches.proofs.Places.{Placed, here, there, placed, set_here, set_there}

-- ---- a flag is cleared

-- the list of its group, with one place more
module _ (xs : List Latch) (at : ℕ) (x : Latch) (found : slice_get xs at ≡ Some x) (was_set : x.is_set ≡ true) where
  abbrev ys : List Latch
  ys = set xs at (clear_in x.group)

  one_more : count_by (is_clear_of x.group) ys ≡ count_by (is_clear_of x.group) xs + 1
  one_more =
      let own = eq-eqb x.group x.group refl in
      count_more (is_clear_of x.group) xs at x (clear_in x.group) found (ap (λ b. (x.group == x.group) && not b) was_set ∙ and-false (x.group == x.group)) (ap (λ b. b && true) own)

  as_many : (group : ℕ) → count_by (is_of group) ys ≡ count_by (is_of group) xs
  as_many group = count_same (is_of group) xs at x (clear_in x.group) found refl

  clear_is_of : (group : ℕ) (l : Latch) → one_if (is_clear_of group l) ≤ one_if (is_of group l)
  clear_is_of group l = by_test (l.group == group) (not l.is_set)
    where
      by_test : (b c : Bool) → one_if (b && c) ≤ one_if b
      by_test true true = omega arith
      by_test true false = omega arith
      by_test false c = omega arith

  pub has_room : (places : Vec ℕ Global) → IsNoted x.group xs places → vec_len places < vec_capacity places
  has_room places own =
      let fewer = sum_by-le-sum_by (λ l. one_if (is_clear_of x.group l)) (λ l. one_if (is_of x.group l)) ys (λ l. clear_is_of x.group l) in
      omega (arith, fewer, one_more, as_many x.group, own.few, own.room, places.ok)

  own_noted : (places more : Vec ℕ Global) → more.items ≡ places.items ++ at ∷ [] → vec_capacity more ≡ vec_capacity places → IsNoted x.group xs places → IsNoted x.group ys more
  own_noted places more pushed capacity own = record {
    listed = record { inside = inside; listed = listed };
    few = omega (arith, ap length pushed, length_push places.items at, one_more, own.few);
    room = omega (arith, as_many x.group, own.room, capacity);
  }
    where
      inside : (p : ℕ) → Contains more.items p → IsOf x.group ys p
      inside p among = of_place (cases_eq p at)
        where
          of_part : p ≢ at → Contains places.items p ⊎ (at ≡ p) → IsOf x.group ys p
          of_part other (inl before) = let was = own.listed.inside p before in record { latch = was.latch; is = set_there xs at p was.latch (clear_in x.group) other was.is; group_is = was.group_is }
          of_part other (inr same) = absurd (other (sym same))

          of_place : (p ≡ at) ⊎ (p ≡ at → ⊥) → IsOf x.group ys p
          of_place (inl same) = record { latch = clear_in x.group; is = ap (slice_get ys) same ∙ set_here xs at x (clear_in x.group) found; group_is = refl }
          of_place (inr other) = of_part other (Contains-push_cases places.items at p (subst (λ zs. Contains zs p) pushed among))

      listed : (p : ℕ) (l : Latch) → slice_get ys p ≡ Some l → l.group ≡ x.group → l.is_set ≡ false → Contains more.items p
      listed p l is of clear = subst (λ zs. Contains zs p) (sym pushed) (of_place (placed xs at (clear_in x.group) p l is))
        where
          of_place : Placed Latch xs at (clear_in x.group) p l → Contains (places.items ++ at ∷ []) p
          of_place (here same now) = subst (Contains (places.items ++ at ∷ [])) (sym same) (Contains-push places.items at)
          of_place (there other was) = Contains-append_left places.items (at ∷ []) p (own.listed.listed p l was of clear)

  -- that of another group
  other_noted : (group : ℕ) (places : Vec ℕ Global) → group ≢ x.group → IsNoted group xs places → IsNoted group ys places
  other_noted group places apart own = record {
    listed = record { inside = inside; listed = listed };
    few = omega (arith, count_same (is_clear_of group) xs at x (clear_in x.group) found (ap (λ b. b && true) not_of ∙ sym (ap (λ b. b && not x.is_set) not_of)), own.few);
    room = omega (arith, as_many group, own.room);
  }
    where
      not_of : (x.group == group) ≡ false
      not_of = ne_eqb x.group group (λ same. apart (sym same))

      inside : (p : ℕ) → Contains places.items p → IsOf group ys p
      inside p among =
          let was = own.listed.inside p among in
          let other : p ≢ at = λ same. apart (sym was.group_is ∙ ap (λ (l : Latch). l.group) (same_Some was.latch x (sym was.is ∙ ap (slice_get xs) same ∙ found))) in
          record { latch = was.latch; is = set_there xs at p was.latch (clear_in x.group) other was.is; group_is = was.group_is }

      listed : (p : ℕ) (l : Latch) → slice_get ys p ≡ Some l → l.group ≡ group → l.is_set ≡ false → Contains places.items p
      listed p l is of clear = of_place (placed xs at (clear_in x.group) p l is)
        where
          of_place : Placed Latch xs at (clear_in x.group) p l → Contains places.items p
          of_place (here same now) = absurd (apart (sym of ∙ ap (λ (m : Latch). m.group) now))
          of_place (there other was) = own.listed.listed p l was of clear

  pub one_cleared : (lists : List (Vec ℕ Global)) (places more : Vec ℕ Global) → slice_get lists x.group ≡ Some places → more.items ≡ places.items ++ at ∷ [] → vec_capacity more ≡ vec_capacity places → AreNoted xs lists → AreNoted ys (set lists x.group more)
  one_cleared lists places more is pushed capacity all = record { grouped = grouped; noted = noted }
    where
      grouped : (p : ℕ) (l : Latch) → slice_get ys p ≡ Some l → l.group < length (set lists x.group more)
      grouped p l now = of_place (placed xs at (clear_in x.group) p l now)
        where
          of_place : Placed Latch xs at (clear_in x.group) p l → l.group < length (set lists x.group more)
          of_place (here same own) = let within = all.grouped at x found in let group = ap (λ (m : Latch). m.group) own in omega (arith, length-set lists x.group more, within, group)
          of_place (there other was) = omega (arith, length-set lists x.group more, all.grouped p l was)

      noted : (group : ℕ) (list : Vec ℕ Global) → slice_get (set lists x.group more) group ≡ Some list → IsNoted group ys list
      noted group list now = of_place (placed lists x.group more group list now)
        where
          of_place : Placed (Vec ℕ Global) lists x.group more group list → IsNoted group ys list
          of_place (here same own) = subst (λ g. IsNoted g ys list) (sym same) (subst (IsNoted x.group ys) (sym own) (own_noted places more pushed capacity (all.noted x.group places is)))
          of_place (there other was) = other_noted group list other (all.noted group list was)

-- a flag that is clear already
pub clear_is : (x : Latch) → x.is_set ≡ false → x ≡ clear_in x.group
clear_is x clear = ap (λ b. record { group = x.group; is_set = b }) clear
