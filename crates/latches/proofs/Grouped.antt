-- What is noted of the flags that are clear, after all flags of a group were set.
use Rattle.std.proofs.Common.{◌≡◌, ◌≢◌, ◌<◌, ◌≤◌, ◌==◌, ◌&&◌, ◌||◌, ℕ, zero, suc, refl, sym, ◌∙◌, ap, subst, arith, Bool, true, false, not, List, [], ◌∷◌, length, set, map, Some, Vec}
use Rattle.std.specs.Global.{Global}
use Rattle.std.specs.List.{slice_get, Contains, count_by}
use Rattle.std.specs.Option.{option_map}
use Rattle.std.specs.Vec.{vec_capacity}
use Rattle.std.proofs.lemmas.Bool.{eq-eqb, ne_eqb, eqb-true, false≢true, or_left}
use Rattle.std.proofs.lemmas.List.{length-set}
use Rattle.std.proofs.lemmas.Option.{slice_get-map}
use Rattle.latches.specs.Latches.{Latch, after_set}
use Rattle.latches.specs.Noted.{is_of, is_clear_of, IsNoted, AreNoted}
use Rattle.latches.proofs.Counts.{count_map}
use Rattle.latches.proofs.Listed.{none_clear}
use Rattle.latches.proofs.Places.{Placed, here, there, placed}

-- what stands in a list of results comes from what stands in the list
pub record Mapped (X Y : Type 0) (f : X → Y) (xs : List X) (at : ℕ) (y : Y) : Type 0 where
  pub item : X
  pub is : slice_get xs at ≡ Some item
  pub gives : y ≡ f item

pub mapped : {X Y : Type 0} (f : X → Y) (xs : List X) (at : ℕ) (y : Y) → slice_get (map f xs) at ≡ Some y → Mapped X Y f xs at y
mapped f [] at y e = absurd (cc e)
mapped f (x ∷ xs) zero y e = record { item = x; is = refl; gives = cc }
mapped f (x ∷ xs) (suc at) y e = let rest = mapped f xs at y e in record { item = rest.item; is = rest.is; gives = rest.gives }

-- an empty list, where no flag of its group is clear
pub none_noted : (group : ℕ) (xs : List Latch) (places : Vec ℕ Global) → places.items ≡ [] → ((at : ℕ) (l : Latch) → slice_get xs at ≡ Some l → l.group ≡ group → l.is_set ≡ true) → count_by (is_of group) xs ≤ vec_capacity places → IsNoted group xs places
none_noted group xs places empty all room = record {
  listed = record {
    inside = λ at among. absurd (nothing_in at (subst (λ zs. Contains zs at) empty among));
    listed = λ at l is of clear. absurd (false≢true (sym clear ∙ all at l is of));
  };
  few = omega (arith, ap length empty);
  room = room;
}
  where
    nothing_in : (at : ℕ) → Contains {X = ℕ} [] at → ⊥
    nothing_in at among = let less = among.1 in omega arith

module _ (group : ℕ) (xs : List Latch) where
  abbrev ys : List Latch
  ys = map (after_set group) xs

  -- its own list, which is empty
  own_noted : (places none : Vec ℕ Global) → none.items ≡ [] → vec_capacity none ≡ vec_capacity places → IsNoted group xs places → IsNoted group ys none
  own_noted places none empty capacity own = none_noted group ys none empty all (omega (arith, count_map (is_of group) (is_of group) (after_set group) (λ l. refl) xs, own.room, capacity))
    where
      all : (at : ℕ) (l : Latch) → slice_get ys at ≡ Some l → l.group ≡ group → l.is_set ≡ true
      all at l is of =
          let was = mapped (after_set group) xs at l is in
          ap (λ (m : Latch). m.is_set) was.gives ∙ or_left (was.item.group == group) was.item.is_set (eq-eqb was.item.group group (sym (ap (λ (m : Latch). m.group) was.gives) ∙ of))

  -- that of another group
  other_noted : (other : ℕ) (places : Vec ℕ Global) → other ≢ group → IsNoted other xs places → IsNoted other ys places
  other_noted other places apart own = record {
    listed = record {
      inside = λ at among. let was = own.listed.inside at among in record { latch = after_set group was.latch; is = slice_get-map (after_set group) xs at ∙ ap (option_map (after_set group)) was.is; group_is = was.group_is };
      listed = listed;
    };
    few = omega (arith, count_map (is_clear_of other) (is_clear_of other) (after_set group) same_clear xs, own.few);
    room = omega (arith, count_map (is_of other) (is_of other) (after_set group) (λ l. refl) xs, own.room);
  }
    where
      or_false : (b c : Bool) → b ≡ false → (b || c) ≡ c
      or_false false c e = refl
      or_false true c e = absurd (false≢true (sym e))

      not_of : (l : Latch) → l.group ≡ other → (l.group == group) ≡ false
      not_of l of = ne_eqb l.group group (λ same. apart (sym of ∙ same))

      same_clear : (l : Latch) → is_clear_of other (after_set group l) ≡ is_clear_of other l
      same_clear l = by_group (l.group == other) refl
        where
          by_group : (b : Bool) → (l.group == other) ≡ b → (b && not ((l.group == group) || l.is_set)) ≡ (b && not l.is_set)
          by_group false of = refl
          by_group true of = ap (λ c. true && not c) (or_false (l.group == group) l.is_set (not_of l (eqb-true l.group other of)))

      listed : (at : ℕ) (l : Latch) → slice_get ys at ≡ Some l → l.group ≡ other → l.is_set ≡ false → Contains places.items at
      listed at l is of clear =
          let was = mapped (after_set group) xs at l is in
          let of_other : was.item.group ≡ other = sym (ap (λ (m : Latch). m.group) was.gives) ∙ of in
          own.listed.listed at was.item was.is of_other
          (sym (or_false (was.item.group == group) was.item.is_set (not_of was.item of_other)) ∙ sym (ap (λ (m : Latch). m.is_set) was.gives) ∙ clear)

  pub group_set : (lists : List (Vec ℕ Global)) (places none : Vec ℕ Global) → slice_get lists group ≡ Some places → none.items ≡ [] → vec_capacity none ≡ vec_capacity places → AreNoted xs lists → AreNoted ys (set lists group none)
  group_set lists places none is empty capacity all = record { grouped = grouped; noted = noted }
    where
      grouped : (at : ℕ) (l : Latch) → slice_get ys at ≡ Some l → l.group < length (set lists group none)
      grouped at l now =
          let was = mapped (after_set group) xs at l now in
          omega (arith, length-set lists group none, all.grouped at was.item was.is, ap (λ (m : Latch). m.group) was.gives)

      noted : (other : ℕ) (list : Vec ℕ Global) → slice_get (set lists group none) other ≡ Some list → IsNoted other ys list
      noted other list now = of_place (placed lists group none other list now)
        where
          of_place : Placed (Vec ℕ Global) lists group none other list → IsNoted other ys list
          of_place (here same own) = subst (λ g. IsNoted g ys list) (sym same) (subst (IsNoted group ys) (sym own) (own_noted places none empty capacity (all.noted group places is)))
          of_place (there apart was) = other_noted other list apart (all.noted other list was)

  -- a group that there is not
  pub none_of : (lists : List (Vec ℕ Global)) → length lists ≤ group → AreNoted xs lists → (at : ℕ) (l : Latch) → slice_get xs at ≡ Some l → l.group ≡ group → ⊥
  none_of lists past all at l is of = let within = all.grouped at l is in omega arith

  pub none_set : (lists : List (Vec ℕ Global)) → length lists ≤ group → AreNoted xs lists → ys ≡ xs
  none_set lists past all = none_clear group xs (λ at l is of clear. none_of lists past all at l is of)
