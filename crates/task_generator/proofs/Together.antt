-- What lies in the slots of a coherent list's elements is what stands under the elements.
use Rattle.std.proofs.Common.{◌≡◌, ℕ, zero, suc, ◌≤◌, ℤ, List, [], ◌∷◌, ◌++◌, take, drop, length, ◌||◌, if◌then◌else◌, Option, Some, None, refl, sym, ap, ◌∙◌, arith}
use Rattle.std.specs.Prelude.{◌+◌, ◌*◌, flat_map, is_some}
use Rattle.bus_semantics.specs.Common.{list_any, Plan, mask_of, split, words_at, State, found_under, words_under, keep_fetched, keep_each, is_written}
use Rattle.task_machine.specs.Store.{written_in, words_or_none}
use Rattle.task_machine.specs.Listed.{has_written, any_written, marks_of, words_written, with_parts}
use Rattle.task_generator.specs.Common.{slot_of, slots_among, parts_of}
use Rattle.task_generator.proofs.Slots.{HaveSlots}
use Rattle.task_generator.proofs.Agreeing.{Slots, store_in, Agrees, after_fetch, fetch_agrees}

-- all of a short list
pub take_whole : {X : Type 0} (n : ℕ) (xs : List X) → length xs ≤ n → take n xs ≡ xs
take_whole zero [] short = refl
take_whole zero (x ∷ xs) short = absurd (omega (arith, short))
take_whole (suc n) [] short = refl
take_whole (suc n) (x ∷ xs) short = ap (λ ys. x ∷ ys) (take_whole n xs (omega (arith, short)))

-- the words under an element
words_found : (x : ℕ) (pairs : List (ℕ × List ℤ)) (o : Option (List ℤ)) → found_under x pairs ≡ o → words_under x pairs ≡ words_or_none o
words_found x pairs None is = rw is refl
words_found x pairs (Some ws) is = rw is refl

module _ (p : Plan) (fetches publishes : List ℕ) where
  abbrev pub Fit : State → Slots → Type 0
  Fit s c = Agrees fetches publishes s.fetched s.written c

  -- ---- fetched together

  pub record Fetched (xs : List ℕ) (ws : List ℤ) (s : State) (c : Slots) : Type 0 where
    pub slots : Slots
    pub is : with_parts (parts_of p fetches xs) ws (store_in s c) ≡ store_in (keep_each (split p xs ws) s) slots
    pub fits : Fit (keep_each (split p xs ws) s) slots

  pub fetch_together : (xs : List ℕ) (ws : List ℤ) (s : State) (c : Slots) → HaveSlots fetches xs → Fit s c → Fetched xs ws s c
  fetch_together [] ws s c have fit = record { slots = c; is = refl; fits = fit }
  fetch_together (x ∷ xs) ws s c have fit =
      let own = take (words_at p x) ws in
      let next = after_fetch fetches publishes s.fetched s.written c fit x own in
      let rest = fetch_together xs (drop (words_at p x) ws) (keep_fetched x own s) next have.1 (fetch_agrees fetches publishes s.fetched s.written c fit x own have.0) in
      record { slots = rest.slots; is = rest.is; fits = rest.fits }

  -- ---- written together

  module _ (s : State) (c : Slots) (fit : Fit s c) where
    one_written : (x : ℕ) (xs : List ℕ) → HaveSlots publishes (x ∷ xs) → has_written (store_in s c) (slot_of x publishes) ≡ is_written s x
    one_written x xs have = ap is_some (fit.has_written x have.0)

    pub any_of_them : (xs : List ℕ) → HaveSlots publishes xs → any_written (slots_among publishes xs) (store_in s c) ≡ list_any (is_written s) xs
    any_of_them [] have = refl
    any_of_them (x ∷ xs) have = λ i. one_written x xs have i || any_of_them xs have.1 i

    marks_of_them : (n : ℕ) (xs : List ℕ) → HaveSlots publishes xs → mask_of (has_written (store_in s c)) (take n (slots_among publishes xs)) ≡ mask_of (is_written s) (take n xs)
    marks_of_them zero xs have = refl
    marks_of_them (suc n) [] have = refl
    marks_of_them (suc n) (x ∷ xs) have = λ i. (if one_written x xs have i then 1 else 0) + 2 * marks_of_them n xs have.1 i

    pub marks_are : (xs : List ℕ) → length xs ≤ 16 → HaveSlots publishes xs → marks_of (slots_among publishes xs) (store_in s c) ≡ mask_of (is_written s) xs
    marks_are xs few have = marks_of_them 16 xs have ∙ ap (mask_of (is_written s)) (take_whole 16 xs few)

    words_of_them : (xs : List ℕ) → HaveSlots publishes xs
        → flat_map (λ slot. words_or_none (written_in slot (store_in s c))) (slots_among publishes xs) ≡ flat_map (λ x. words_under x s.written) xs
    words_of_them [] have = refl
    words_of_them (x ∷ xs) have =
        let own : words_or_none (written_in (slot_of x publishes) (store_in s c)) ≡ words_under x s.written =
        ap words_or_none (fit.has_written x have.0) ∙ sym (words_found x s.written (found_under x s.written) refl) in
        λ i. own i ++ words_of_them xs have.1 i

    pub words_are : (xs : List ℕ) → HaveSlots publishes xs → words_written (slots_among publishes xs) (store_in s c) ≡ take 16 (flat_map (λ x. words_under x s.written) xs)
    words_are xs have = ap (take 16) (words_of_them xs have)
