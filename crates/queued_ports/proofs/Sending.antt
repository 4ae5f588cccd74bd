-- A value is sent to one queue after the other.
use Rattle.std.proofs.Common.{◌≡◌, ◌≢◌, ◌≤◌, ◌==◌, ◌&&◌, ◌||◌, ℕ, zero, suc, refl, sym, ◌∙◌, ap, arith, Bool, true, false, not, List, [], ◌∷◌, ◌++◌, length, map, set, take, drop, nat_lt}
use Rattle.std.proofs.Common.{if◌then◌else◌, Some, ◌⊎◌, inl, inr}
use Rattle.std.specs.List.{slice_get, list_any, Contains}
use Rattle.std.specs.Option.{option_map, unwrap_or}
use Rattle.std.proofs.lemmas.Bool.{cases_eq, eq-eqb, ne_eqb, false≢true, le-ltb, lt-ltb, ltb-false, ltb-true}
use Rattle.std.proofs.lemmas.Option.{same_Some, slice_get-map, slice_get_past}
use Rattle.rte_value.specs.declared.value.Value.{Value}
use Rattle.latches.specs.Latches.{IsNewlySet, Latch, after_set}
use Rattle.queued_ports.specs.Kept.{Queue, after_arrival, due_after, has_room, takes}

-- ---- the queues

-- the first queues got the value
abbrev pub after_some : (at : ℕ) → Value → List Queue → List Queue
after_some at v queues = map (after_arrival v) (take at queues) ++ drop at queues

pub next_as : (at : ℕ) (v : Value) (queues : List Queue) → slice_get (after_some at v queues) at ≡ slice_get queues at
next_as zero v queues = refl
next_as (suc at) v [] = refl
next_as (suc at) v (q ∷ queues) = next_as at v queues

pub next_got : (at : ℕ) (v : Value) (queues : List Queue) (q : Queue) → slice_get queues at ≡ Some q → set (after_some at v queues) at (after_arrival v q) ≡ after_some (suc at) v queues
next_got at v [] q found = absurd (cc found)
next_got zero v (p ∷ queues) q found = ap (λ r. after_arrival v r ∷ queues) (sym (same_Some p q found))
next_got (suc at) v (p ∷ queues) q found = ap (λ qs. after_arrival v p ∷ qs) (next_got at v queues q found)

pub as_many : (at : ℕ) (v : Value) (queues : List Queue) → length (after_some at v queues) ≡ length queues
as_many zero v queues = refl
as_many (suc at) v [] = refl
as_many (suc at) v (q ∷ queues) = ap suc (as_many at v queues)

pub all_got : (at : ℕ) (v : Value) (queues : List Queue) → length queues ≤ at → after_some at v queues ≡ map (after_arrival v) queues
all_got zero v [] past = refl
all_got zero v (q ∷ queues) past = absurd (omega arith)
all_got (suc at) v [] past = refl
all_got (suc at) v (q ∷ queues) past = ap (λ qs. after_arrival v q ∷ qs) (all_got at v queues (omega arith))

-- ---- the answer

abbrev pub is_full : Queue → Bool
is_full q = not (has_room q)

any_next : (queues : List Queue) (at : ℕ) (q : Queue) → slice_get queues at ≡ Some q → list_any is_full (take (suc at) queues) ≡ (list_any is_full (take at queues) || is_full q)
any_next [] at q found = absurd (cc found)
any_next (p ∷ queues) zero q found = or_comm (is_full p) ∙ ap is_full (same_Some p q found)
  where
    or_comm : (b : Bool) → (b || false) ≡ b
    or_comm true = refl
    or_comm false = refl
any_next (p ∷ queues) (suc at) q found = ap (λ b. is_full p || b) (any_next queues at q found) ∙ or_assoc (is_full p)
  where
    or_assoc : (b : Bool) → (b || (list_any is_full (take at queues) || is_full q)) ≡ ((b || list_any is_full (take at queues)) || is_full q)
    or_assoc true = refl
    or_assoc false = refl

abbrev pub answer_so_far : (at : ℕ) → List Queue → ℕ
answer_so_far at queues = if list_any is_full (take at queues) then 130 else 0

pub answer_taken : (queues : List Queue) (at : ℕ) (q : Queue) → slice_get queues at ≡ Some q → has_room q ≡ true → answer_so_far at queues ≡ answer_so_far (suc at) queues
answer_taken queues at q found room = sym (ap (λ b. if b then 130 else 0) (any_next queues at q found ∙ ap (λ b. list_any is_full (take at queues) || not b) room ∙ or_false (list_any is_full (take at queues))))
  where
    or_false : (b : Bool) → (b || false) ≡ b
    or_false true = refl
    or_false false = refl

pub answer_lost : (queues : List Queue) (at : ℕ) (q : Queue) → slice_get queues at ≡ Some q → has_room q ≡ false → 130 ≡ answer_so_far (suc at) queues
answer_lost queues at q found full = sym (ap (λ b. if b then 130 else 0) (any_next queues at q found ∙ ap (λ b. list_any is_full (take at queues) || not b) full ∙ or_true (list_any is_full (take at queues))))
  where
    or_true : (b : Bool) → (b || true) ≡ true
    or_true true = refl
    or_true false = refl

-- ---- the events

-- an event after the first queues got the value
abbrev pub lit_by : List Queue → (at : ℕ) → Latch → Latch
lit_by queues at l = record { group = l.group; is_set = (nat_lt l.group at && takes queues l.group) || l.is_set }

pub none_lit : (queues : List Queue) (latches : List Latch) → latches ≡ map (lit_by queues 0) latches
none_lit queues [] = refl
none_lit queues (l ∷ latches) =
    ap (λ b. record { group = l.group; is_set = (b && takes queues l.group) || l.is_set } ∷ latches) (sym (le-ltb l.group 0 (omega arith)))
    ∙ ap (λ ls. lit_by queues 0 l ∷ ls) (none_lit queues latches)

module _ (queues : List Queue) (at : ℕ) where
  same_below : (g : ℕ) → g ≢ at → nat_lt g at ≡ nat_lt g (suc at)
  same_below g apart = by_test (nat_lt g at) refl
    where
      by_test : (b : Bool) → nat_lt g at ≡ b → b ≡ nat_lt g (suc at)
      by_test true is = let less = ltb-true g at is in sym (lt-ltb g (suc at) (omega arith))
      by_test false is = let past = ltb-false g at is in sym (le-ltb g (suc at) (omega arith))

  set_next : takes queues at ≡ true → (l : Latch) → after_set at (lit_by queues at l) ≡ lit_by queues (suc at) l
  set_next takes_it l = ap (λ b. record { group = l.group; is_set = b }) (by_group (cases_eq l.group at))
    where
      by_group : (l.group ≡ at) ⊎ (l.group ≡ at → ⊥) → ((l.group == at) || ((nat_lt l.group at && takes queues l.group) || l.is_set)) ≡ ((nat_lt l.group (suc at) && takes queues l.group) || l.is_set)
      by_group (inl same) =
          ap (λ b. b || ((nat_lt l.group at && takes queues l.group) || l.is_set)) (eq-eqb l.group at same)
          ∙ sym (ap (λ b. (b && takes queues l.group) || l.is_set) (lt-ltb l.group (suc at) (omega arith)) ∙ ap (λ b. b || l.is_set) (ap (takes queues) same ∙ takes_it))
      by_group (inr apart) =
          ap (λ b. b || ((nat_lt l.group at && takes queues l.group) || l.is_set)) (ne_eqb l.group at apart)
          ∙ ap (λ b. (b && takes queues l.group) || l.is_set) (same_below l.group apart)

  -- the events of a queue that took the value
  pub next_lit : takes queues at ≡ true → (latches : List Latch) → map (after_set at) (map (lit_by queues at) latches) ≡ map (lit_by queues (suc at)) latches
  next_lit takes_it [] = refl
  next_lit takes_it (l ∷ latches) = ap (λ m. m ∷ map (after_set at) (map (lit_by queues at) latches)) (set_next takes_it l) ∙ ap (λ ls. lit_by queues (suc at) l ∷ ls) (next_lit takes_it latches)

  -- those of a queue that did not
  stay_next : takes queues at ≡ false → (l : Latch) → lit_by queues at l ≡ lit_by queues (suc at) l
  stay_next refuses l = ap (λ b. record { group = l.group; is_set = b || l.is_set }) (by_group (cases_eq l.group at))
    where
      and_false : (b : Bool) → (b && false) ≡ false
      and_false true = refl
      and_false false = refl

      by_group : (l.group ≡ at) ⊎ (l.group ≡ at → ⊥) → (nat_lt l.group at && takes queues l.group) ≡ (nat_lt l.group (suc at) && takes queues l.group)
      by_group (inl same) =
          let off : takes queues l.group ≡ false = ap (takes queues) same ∙ refuses in
          ap (λ b. nat_lt l.group at && b) off ∙ and_false (nat_lt l.group at) ∙ sym (and_false (nat_lt l.group (suc at))) ∙ sym (ap (λ b. nat_lt l.group (suc at) && b) off)
      by_group (inr apart) = ap (λ b. b && takes queues l.group) (same_below l.group apart)

  pub next_stays : takes queues at ≡ false → (latches : List Latch) → map (lit_by queues at) latches ≡ map (lit_by queues (suc at)) latches
  next_stays refuses [] = refl
  next_stays refuses (l ∷ latches) = ap (λ m. m ∷ map (lit_by queues at) latches) (stay_next refuses l) ∙ ap (λ ls. lit_by queues (suc at) l ∷ ls) (next_stays refuses latches)

pub same_events : (queues : List Queue) (at : ℕ) (latches : List Latch) → map (λ (l : Latch). l.group) (map (lit_by queues at) latches) ≡ map (λ (l : Latch). l.group) latches
same_events queues at [] = refl
same_events queues at (l ∷ latches) = ap (λ gs. l.group ∷ gs) (same_events queues at latches)

pub all_lit : (queues : List Queue) (at : ℕ) (latches : List Latch) → length queues ≤ at → map (λ (l : Latch). l.is_set) (map (lit_by queues at) latches) ≡ due_after queues (map (λ (l : Latch). l.group) latches) (map (λ (l : Latch). l.is_set) latches)
all_lit queues at [] past = refl
all_lit queues at (l ∷ latches) past =
    ap (λ b. (b || l.is_set) ∷ map (λ (m : Latch). m.is_set) (map (lit_by queues at) latches)) (by_test (nat_lt l.group at) refl)
    ∙ ap (λ ds. (takes queues l.group || l.is_set) ∷ ds) (all_lit queues at latches past)
  where
    by_test : (b : Bool) → nat_lt l.group at ≡ b → (b && takes queues l.group) ≡ takes queues l.group
    by_test true is = refl
    by_test false is =
        let beyond = ltb-false l.group at is in
        sym (ap (λ o. unwrap_or (option_map has_room o) false) (slice_get_past queues l.group (omega arith)))

-- ---- what is told

-- each event that was not pending is still so, or its name was told
abbrev pub Tells : (names : List ℕ) (old new : List Latch) (told : List ℕ) → Type 0
Tells names old new told = (at name : ℕ) (l : Latch) → slice_get old at ≡ Some l → l.is_set ≡ false → slice_get names at ≡ Some name → (slice_get new at ≡ Some l) ⊎ Contains told name

pub tells_next : (names : List ℕ) (old xs ys : List Latch) (told more : List ℕ) (receiver : ℕ) → ys ≡ map (after_set receiver) xs → ((at name : ℕ) (l : Latch) → slice_get xs at ≡ Some l → l.group ≡ receiver → l.is_set ≡ false → slice_get names at ≡ Some name → Contains more name) → ((name : ℕ) → Contains told name → Contains more name) → Tells names old xs told → Tells names old ys more
tells_next names old xs ys told more receiver changed here kept tells at name l was clear named = of_now (tells at name l was clear named)
  where
    of_group : slice_get xs at ≡ Some l → (l.group ≡ receiver) ⊎ (l.group ≡ receiver → ⊥) → (slice_get ys at ≡ Some l) ⊎ Contains more name
    of_group now (inl same) = inr (here at name l now same clear named)
    of_group now (inr apart) = inl (
        ap (λ zs. slice_get zs at) changed ∙ slice_get-map (after_set receiver) xs at ∙ ap (option_map (after_set receiver)) now
        ∙ ap (λ b. Some (record { group = l.group; is_set = b || l.is_set })) (ne_eqb l.group receiver apart))

    of_now : (slice_get xs at ≡ Some l) ⊎ Contains told name → (slice_get ys at ≡ Some l) ⊎ Contains more name
    of_now (inl now) = of_group now (cases_eq l.group receiver)
    of_now (inr before) = inr (kept name before)

-- the flag behind what is seen
pub record Behind (latches : List Latch) (at : ℕ) (b : Bool) : Type 0 where
  pub latch : Latch
  pub is : slice_get latches at ≡ Some latch
  pub shown : latch.is_set ≡ b

pub behind : (latches : List Latch) (at : ℕ) (b : Bool) → slice_get (map (λ (l : Latch). l.is_set) latches) at ≡ Some b → Behind latches at b
behind [] at b e = absurd (cc e)
behind (l ∷ latches) zero b e = record { latch = l; is = refl; shown = same_Some l.is_set b e }
behind (l ∷ latches) (suc at) b e = let rest = behind latches at b e in record { latch = rest.latch; is = rest.is; shown = rest.shown }

pub all_told : (names : List ℕ) (old new : List Latch) (told : List ℕ) → Tells names old new told → (at name : ℕ) → slice_get (map (λ (l : Latch). l.is_set) old) at ≡ Some false → slice_get (map (λ (l : Latch). l.is_set) new) at ≡ Some true → slice_get names at ≡ Some name → Contains told name
all_told names old new told tells at name was now named = of_now (tells at name before.latch before.is before.shown named)
  where
    before : Behind old at false
    before = behind old at false was

    after : Behind new at true
    after = behind new at true now

    of_now : (slice_get new at ≡ Some before.latch) ⊎ Contains told name → Contains told name
    of_now (inl still) = absurd (false≢true (sym before.shown ∙ ap (λ (l : Latch). l.is_set) (same_Some before.latch after.latch (sym still ∙ after.is)) ∙ after.shown))
    of_now (inr said) = said

-- ---- and nothing else is told

-- what is told are names that were there at first, and those of flags that were clear and are set
abbrev pub IsOnly : (names : List ℕ) (old new : List Latch) (first told : List ℕ) → Type 0
IsOnly names old new first told = (name : ℕ) → Contains told name → Contains first name ⊎ IsNewlySet old new names name

pub only_told : (names : List ℕ) (old new : List Latch) (first told : List ℕ) → first ≡ [] → IsOnly names old new first told → (name : ℕ) → Contains told name → IsNewlySet old new names name
only_told names old new (x ∷ first) told empty only name among = absurd (cc empty)
only_told names old new [] told empty only name among = of_now (only name among)
  where
    of_now : Contains [] name ⊎ IsNewlySet old new names name → IsNewlySet old new names name
    of_now (inl before) = let less = before.1 in absurd (omega arith)
    of_now (inr newly) = newly

pub shown : (latches : List Latch) (at : ℕ) (l : Latch) → slice_get latches at ≡ Some l → slice_get (map (λ (m : Latch). m.is_set) latches) at ≡ Some l.is_set
shown latches at l is = slice_get-map (λ (m : Latch). m.is_set) latches at ∙ ap (option_map (λ (m : Latch). m.is_set)) is
