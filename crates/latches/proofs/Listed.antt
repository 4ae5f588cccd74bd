-- The flags that a list names are set, one after the other.
use Rattle.std.proofs.Common.{◌≡◌, ◌≢◌, ◌<◌, ◌==◌, ◌||◌, ℕ, zero, suc, refl, sym, ◌∙◌, ap, arith, Bool, true, false, List, [], ◌∷◌, ◌++◌, length, set, map, Some, ◌⊎◌, inl, inr}
use Rattle.std.specs.List.{slice_get, Contains}
use Rattle.std.proofs.lemmas.Bool.{eqb-true, eq-eqb, cases_eq, false≢true}
use Rattle.std.proofs.lemmas.List.{map-set, set-get_or}
use Rattle.std.proofs.lemmas.List.Elements.{Contains-push, Contains-push_cases, Contains-append_left}
use Rattle.std.proofs.lemmas.Option.{slice_get_within, get_or_from_slice_get, same_Some}
use Rattle.latches.specs.Latches.{Latch, set_in, after_set}
use Rattle.latches.specs.Noted.{IsOf, IsListed}
use Rattle.latches.proofs.Places.{Placed, here, there, placed, set_here, set_there}

pub last_within : (group : ℕ) (xs : List Latch) (places : List ℕ) (p : ℕ) → IsListed group xs (places ++ p ∷ []) → p < length xs
last_within group xs places p listed =
    let last = listed.inside p (Contains-push places p) in
    slice_get_within xs p last.latch last.is

-- a list still names what it has to after its last flag was set
module _ (group : ℕ) (xs : List Latch) (places : List ℕ) (p : ℕ) (x : Latch) (found : slice_get xs p ≡ Some x) (all : IsListed group xs (places ++ p ∷ [])) where
  of_last : x.group ≡ group
  of_last =
      let last = all.inside p (Contains-push places p) in
      ap (λ (l : Latch). l.group) (same_Some x last.latch (sym found ∙ last.is)) ∙ last.group_is

  inside : (at : ℕ) → Contains places at → IsOf group (set xs p (set_in x.group)) at
  inside at among = of_place (cases_eq at p)
    where
      of_place : (at ≡ p) ⊎ (at ≡ p → ⊥) → IsOf group (set xs p (set_in x.group)) at
      of_place (inl same) = record { latch = set_in x.group; is = ap (slice_get (set xs p (set_in x.group))) same ∙ set_here xs p x (set_in x.group) found; group_is = of_last }
      of_place (inr other) =
          let was = all.inside at (Contains-append_left places (p ∷ []) at among) in
          record { latch = was.latch; is = set_there xs p at was.latch (set_in x.group) other was.is; group_is = was.group_is }

  listed : (at : ℕ) (l : Latch) → slice_get (set xs p (set_in x.group)) at ≡ Some l → l.group ≡ group → l.is_set ≡ false → Contains places at
  listed at l is of clear = of_place (placed xs p (set_in x.group) at l is)
    where
      of_part : at ≢ p → Contains places at ⊎ (p ≡ at) → Contains places at
      of_part other (inl among) = among
      of_part other (inr same) = absurd (other (sym same))

      of_place : Placed Latch xs p (set_in x.group) at l → Contains places at
      of_place (here same now) = absurd (false≢true (sym clear ∙ ap (λ (m : Latch). m.is_set) now))
      of_place (there other was) = of_part other (Contains-push_cases places p at (all.listed at l was of clear))

  pub one_set : IsListed group (set xs p (set_in x.group)) places
  one_set = record { inside = inside; listed = listed }

  -- it makes no difference to what all flags are after the group was set
  pub same_after : map (after_set group) (set xs p (set_in x.group)) ≡ map (after_set group) xs
  same_after =
      map-set (after_set group) xs p (set_in x.group) ∙ ap (set (map (after_set group) xs) p) same ∙ sym (map-set (after_set group) xs p x)
      ∙ ap (map (after_set group)) (ap (set xs p) (sym (get_or_from_slice_get xs p x x found)) ∙ set-get_or xs p x)
    where
      or_true : (b c d : Bool) → b ≡ true → (b || c) ≡ (b || d)
      or_true true c d e = refl
      or_true false c d e = absurd (false≢true e)

      same : after_set group (set_in x.group) ≡ after_set group x
      same = ap (λ b. record { group = x.group; is_set = b }) (or_true (x.group == group) true x.is_set (eq-eqb x.group group of_last))

-- where no flag of the group is clear, setting the group changes nothing
pub none_clear : (group : ℕ) (xs : List Latch) → ((at : ℕ) (l : Latch) → slice_get xs at ≡ Some l → l.group ≡ group → l.is_set ≡ false → ⊥) → map (after_set group) xs ≡ xs
none_clear group [] none = refl
none_clear group (x ∷ xs) none = ap (λ y. y ∷ map (after_set group) xs) first ∙ ap (λ ys. x ∷ ys) (none_clear group xs (λ at l. none (suc at) l))
  where
    by_flag : (b c : Bool) → (x.group == group) ≡ b → x.is_set ≡ c → (b || c) ≡ c
    by_flag false c of is = refl
    by_flag true true of is = refl
    by_flag true false of is = absurd (none zero x refl (eqb-true x.group group of) is)

    first : after_set group x ≡ x
    first = ap (λ b. record { group = x.group; is_set = b }) (by_flag (x.group == group) x.is_set refl refl)

nothing_in : (at : ℕ) → Contains [] at → ⊥
nothing_in at among = let less = among.1 in omega arith

pub all_listed_set : (group : ℕ) (xs : List Latch) (places : List ℕ) → places ≡ [] → IsListed group xs places → map (after_set group) xs ≡ xs
all_listed_set group xs [] empty all = none_clear group xs (λ at l is of clear. nothing_in at (all.listed at l is of clear))
all_listed_set group xs (p ∷ places) empty all = absurd (cc empty)
