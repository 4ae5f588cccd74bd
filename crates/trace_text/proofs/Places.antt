-- The place of a coherent list of a sound plan among those of its runnable, and how many elements it has.
use Rattle.std.proofs.Common.{◌≡◌, ℕ, ◌+◌, ◌≤◌, List, [], ◌∷◌, length, Option, Some, None, true, refl, sym, ap, ◌∙◌, subst, arith}
use Rattle.std.specs.Prelude.{◌==◌, position, unwrap_or}
use Rattle.bus_semantics.specs.Common.{slice_get, option_map_or, elems_of, Plan, Runnable, look, lists_sound, position_of}
use Rattle.bus_semantics.specs.declared.plan.CoherentList.{CoherentList}
use Rattle.bus_laws.proofs.ListFacts.{few_in_list, list_position, listed, lists_in_a_row}
use Rattle.trace_text.specs.Beside.{first_beside}

module _ (p : Plan) (sound : lists_sound p ≡ true) where
  pub elems_few : (l : ℕ) → length (elems_of p l) ≤ 16
  elems_few l = by_list (slice_get p.lists l) refl
    where
      by_list : (o : Option CoherentList) → slice_get p.lists l ≡ o → length (option_map_or (λ (c : CoherentList). c.elems) o []) ≤ 16
      by_list None at = omega arith
      by_list (Some c) at = (few_in_list p sound l c at).few

  -- the lists of a runnable have consecutive numbers
  pub behind_first : (l f : ℕ) → first_beside p l ≡ Some f → l ≡ f + position_of p l
  behind_first l f first = by_list (slice_get p.lists l) refl first
    where
      by_list : (o : Option CoherentList) → slice_get p.lists l ≡ o → option_map_or (λ (c : CoherentList). look p.runnables c.runnable (λ (r : Runnable). slice_get r.lists 0) None) o None ≡ Some f
          → l ≡ f + position_of p l
      by_list None at is = absurd (cc is)
      by_list (Some c) at is =
          let own = listed p sound l c at in
          let head : slice_get own.runnable.lists 0 ≡ Some f = subst (λ (o : Option Runnable). option_map_or (λ (r : Runnable). slice_get r.lists 0) o None ≡ Some f) own.there is in
          lists_in_a_row p sound c.runnable own.place f l own.runnable own.there head own.among
          ∙ ap (λ n. f + n) (sym (list_position p sound c.runnable own.place l own.runnable own.there own.among))

-- a runnable without lists has no place for one
pub nowhere : (p : Plan) (l : ℕ) → first_beside p l ≡ None → position_of p l ≡ 0
nowhere p l none = by_list (slice_get p.lists l) none
  where
    by_lists : (xs : List ℕ) → slice_get xs 0 ≡ None → unwrap_or (position (λ n. n == l) xs) 0 ≡ 0
    by_lists [] is = refl
    by_lists (x ∷ xs) is = absurd (cc is)

    by_runnable : (o : Option Runnable) → option_map_or (λ (r : Runnable). slice_get r.lists 0) o None ≡ None
        → option_map_or (λ (r : Runnable). unwrap_or (position (λ n. n == l) r.lists) 0) o 0 ≡ 0
    by_runnable None is = refl
    by_runnable (Some r) is = by_lists r.lists is

    by_list : (o : Option CoherentList) → option_map_or (λ (c : CoherentList). look p.runnables c.runnable (λ (r : Runnable). slice_get r.lists 0) None) o None ≡ None
        → option_map_or (λ (c : CoherentList). look p.runnables c.runnable (λ (r : Runnable). unwrap_or (position (λ n. n == l) r.lists) 0) 0) o 0 ≡ 0
    by_list None is = refl
    by_list (Some c) is = by_runnable (slice_get p.runnables c.runnable) is
