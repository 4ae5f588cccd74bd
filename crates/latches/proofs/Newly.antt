-- Groups of flags that are set one after the other: what is told are the names of the flags that were clear before them all.
use Rattle.std.proofs.Common.{◌≡◌, ◌==◌, ◌||◌, ℕ, refl, sym, ◌∙◌, ap, Bool, true, false, List, map, Some, ◌⊎◌, inl, inr, Contains}
use Rattle.std.specs.List.{slice_get}
use Rattle.std.specs.Option.{option_map}
use Rattle.std.proofs.lemmas.Bool.{eq-eqb, false≢true, or_left, or_right}
use Rattle.std.proofs.lemmas.Option.{slice_get-map}
use Rattle.latches.specs.Latches.{IsNamedIn, IsNewlySet, Latch, after_set, clear_in, set_in}
use Rattle.latches.proofs.Grouped.{Mapped, mapped}
use Rattle.latches.proofs.Told.{Stays}

is_clear_in : (l : Latch) → l.is_set ≡ false → l ≡ clear_in l.group
is_clear_in l clear = λ i. record { group = l.group; is_set = clear i }

module _ (old xs ys : List Latch) (group : ℕ) (changed : ys ≡ map (after_set group) xs) where
  -- a flag of the group, or one that is set, is set then
  set_at : (at : ℕ) (l : Latch) → slice_get xs at ≡ Some l → ((l.group == group) || l.is_set) ≡ true → slice_get ys at ≡ Some (set_in l.group)
  set_at at l is set =
      ap (λ zs. slice_get zs at) changed ∙ slice_get-map (after_set group) xs at ∙ ap (option_map (after_set group)) is
      ∙ ap (λ b. Some (record { group = l.group; is_set = b })) set

  -- what is clear then was so before
  pub stays_next : Stays old xs → Stays old ys
  stays_next stays at l is clear = by_set was.item.is_set refl
    where
      was : Mapped Latch Latch (after_set group) xs at l
      was = mapped (after_set group) xs at l (ap (λ zs. slice_get zs at) (sym changed) ∙ is)

      by_set : (b : Bool) → was.item.is_set ≡ b → slice_get old at ≡ Some l
      by_set true on = absurd (false≢true (sym clear ∙ ap (λ (m : Latch). m.is_set) was.gives ∙ or_right (was.item.group == group) was.item.is_set on))
      by_set false off = stays at was.item was.is off
          ∙ ap (λ m. Some m) (is_clear_in was.item off ∙ ap (λ (m : Latch). clear_in m.group) (sym was.gives) ∙ sym (is_clear_in l clear))

  pub newly_next : (names first told more : List ℕ) → Stays old xs → ((name : ℕ) → Contains told name → Contains first name ⊎ IsNewlySet old xs names name)
      → ((name : ℕ) → Contains more name → Contains told name ⊎ IsNamedIn group xs names name) → (name : ℕ) → Contains more name → Contains first name ⊎ IsNewlySet old ys names name
  newly_next names first told more stays before added name among = of_now (added name among)
    where
      of_before : Contains first name ⊎ IsNewlySet old xs names name → Contains first name ⊎ IsNewlySet old ys names name
      of_before (inl at_first) = inl at_first
      of_before (inr n) = inr (record { at = n.at; group = n.group; was = n.was; is = set_at n.at (set_in n.group) n.is (or_right (n.group == group) true refl); named = n.named })

      of_now : Contains told name ⊎ IsNamedIn group xs names name → Contains first name ⊎ IsNewlySet old ys names name
      of_now (inl earlier) = of_before (before name earlier)
      of_now (inr n) = inr (record {
        at = n.at;
        group = n.latch.group;
        was = stays n.at n.latch n.is n.clear ∙ ap (λ l. Some l) (is_clear_in n.latch n.clear);
        is = set_at n.at n.latch n.is (or_left (n.latch.group == group) n.latch.is_set (eq-eqb n.latch.group group n.group_is));
        named = n.named;
      })
