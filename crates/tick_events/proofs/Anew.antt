-- A tick: countdowns with one less left, and those that end begun anew.
use Rattle.std.proofs.Common.{◌≡◌, ◌<◌, ◌≤◌, ◌+◌, ◌-◌, ◌%◌, ◌==◌, ◌||◌, ◌⊎◌, ℕ, suc, cond, inl, inr, refl, sym, ◌∙◌, ap, subst, arith, Bool, true, false, true≢false, List, [], ◌∷◌, length}
use Rattle.std.proofs.Common.{map, set, Option, Some, None, All}
use Rattle.std.specs.Prelude.{count_by}
use Rattle.std.specs.List.{slice_get}
use Rattle.std.specs.Cmp.{unsigned_Decides}
use Rattle.std.specs.Option.{option_map}
use Rattle.std.proofs.Math.Nat.{mod_self, mod-eq_of_lt}
use Rattle.std.proofs.lemmas.Bool.{cases_eq, cases_lt, eq-eqb, ne_eqb, or_left, or_right}
use Rattle.std.proofs.lemmas.List.{get_or-map, get_or-set_other, get_or-set_same, length-map, length-set}
use Rattle.std.proofs.lemmas.List.Elements.{All-head, All-map, All-set, All-tail}
use Rattle.std.proofs.lemmas.List.Sums.{sum_by-set}
use Rattle.std.proofs.lemmas.Option.{slice_get-map, slice_get_within, get_or_from_slice_get}
use Rattle.latches.specs.Latches.{Latch, after_set}
use Rattle.tick_events.specs.Countdowns.{Countdown, one_less, whole}
use Rattle.tick_events.specs.Kept as kept
use Rattle.tick_events.specs.Running.{AreFit, IsRunning, IsWithin, countdown_of, kept_at, kept_timer, pending, settled_at, settled_timer}

-- two that keep the same
same_kept : (p q r : ℕ) (d e : Bool) → q ≡ r → d ≡ e → ◌≡◌ {A = kept.Timer} (record { period = p; passed = q; due = d }) (record { period = p; passed = r; due = e })
same_kept p q r d e passed due = ap (λ (x : ℕ). record { period = p; passed = x; due = d }) passed ∙ ap (λ (x : Bool). record { period = p; passed = r; due = x }) due

-- ---- a countdown begun anew

-- how much one counts, and a count after one is another
abbrev count : (Countdown → Bool) → Countdown → ℕ
count p x = cond (p x) 1 0

counted : (p : Countdown → Bool) (xs : List Countdown) (i : ℕ) (x y : Countdown) → slice_get xs i ≡ Some x → count_by p (set xs i y) + count p x ≡ count_by p xs + count p y
counted p xs i x y found =
    ap (λ z. count_by p (set xs i y) + count p z) (sym (get_or_from_slice_get xs i x x found))
    ∙ sum_by-set (count p) xs i y x (slice_get_within xs i x found)

abbrev pub has_ended : Countdown → Bool
has_ended c = c.left == 0

anew_at : (c : Countdown) (of due : Bool) → c.left ≡ 0 → IsWithin c → of ≡ true → settled_at (whole c.period) (of || due) ≡ settled_at c due
anew_at c of due ended within is =
    let p = c.period in
    let none : (p - p) % p ≡ 0 = ap (λ x. x % p) (nothing p) ∙ mod-eq_of_lt within.0 in
    let whole_left : p - c.left ≡ p = omega arith in
    let all : (p - c.left) % p ≡ 0 = ap (λ x. x % p) whole_left ∙ mod_self p in
    same_kept p ((p - p) % p) ((p - c.left) % p) ((p == 0) || (of || due)) ((c.left == 0) || due) (none ∙ sym all)
    (or_right (p == 0) (of || due) (or_left of due is) ∙ sym (or_left (c.left == 0) due (eq-eqb c.left 0 ended)))
  where
    nothing : (n : ℕ) → n - n ≡ 0
    nothing n = omega arith

anew : (cs : List Countdown) (b : ℕ) (c : Countdown) (l : Latch) → slice_get cs b ≡ Some c → c.left ≡ 0 → IsWithin c → settled_timer (set cs b (whole c.period)) (after_set b l) ≡ settled_timer cs l
anew cs b c l found ended within = elim (cases_eq l.group b) [
  | inl here ↦
      let now : countdown_of (set cs b (whole c.period)) l ≡ whole c.period = rw here (get_or-set_same cs b (whole c.period) (whole 0) (slice_get_within cs b c found)) in
      let was : countdown_of cs l ≡ c = rw here (get_or_from_slice_get cs b c (whole 0) found) in
      ap (λ x. settled_at x ((l.group == b) || l.is_set)) now ∙ anew_at c (l.group == b) l.is_set ended within (eq-eqb l.group b here) ∙ ap (λ x. settled_at x l.is_set) (sym was)
  | inr apart ↦
      ap (λ x. settled_at x ((l.group == b) || l.is_set)) (get_or-set_other cs b l.group (whole c.period) (whole 0) apart)
      ∙ ap (λ x. settled_at (countdown_of cs l) (x || l.is_set)) (ne_eqb l.group b apart)
]

pub all_anew : (cs : List Countdown) (b : ℕ) (c : Countdown) (ls : List Latch) → slice_get cs b ≡ Some c → c.left ≡ 0 → IsWithin c → map (settled_timer (set cs b (whole c.period))) (map (after_set b) ls) ≡ map (settled_timer cs) ls
all_anew cs b c [] found ended within = refl
all_anew cs b c (l ∷ ls) found ended within =
    ap (λ x. x ∷ map (settled_timer (set cs b (whole c.period))) (map (after_set b) ls)) (anew cs b c l found ended within)
    ∙ ap (λ xs. settled_timer cs l ∷ xs) (all_anew cs b c ls found ended within)

pub within_at : (cs : List Countdown) (b : ℕ) (c : Countdown) → slice_get cs b ≡ Some c → All IsWithin cs → IsWithin c
within_at cs b c found within = subst IsWithin (get_or_from_slice_get cs b c c found) (within b c (slice_get_within cs b c found))

pub all_within : (cs : List Countdown) (b : ℕ) (c : Countdown) → slice_get cs b ≡ Some c → All IsWithin cs → All IsWithin (set cs b (whole c.period))
all_within cs b c found within = let period = (within_at cs b c found within).0 in All-set IsWithin cs b (whole c.period) (period, omega arith) within

-- one less has ended
pub fewer : (cs : List Countdown) (b : ℕ) (c : Countdown) → slice_get cs b ≡ Some c → c.left ≡ 0 → All IsWithin cs → count_by has_ended (set cs b (whole c.period)) < count_by has_ended cs
fewer cs b c found ended within =
    let period = (within_at cs b c found within).0 in
    let one : count has_ended c ≡ 1 = ap (λ x. cond x 1 0) (eq-eqb c.left 0 ended) in
    let none : count has_ended (whole c.period) ≡ 0 = ap (λ x. cond x 1 0) (ne_eqb c.period 0 (λ e. omega arith)) in
    omega (arith, counted has_ended cs b c (whole c.period) found)

-- ---- a tick

ticked_at : (c : Countdown) (due : Bool) → IsWithin c → 1 ≤ c.left → settled_at (one_less c) due ≡ kept.ticked (kept_at c due)
ticked_at c due within going =
    let p = c.period in
    let first = within.0 in
    let most = within.1 in
    let on : p - (c.left - 1) ≡ suc (p - c.left) = omega arith in
    same_kept p ((p - (c.left - 1)) % p) (suc (p - c.left) % p) ((c.left - 1 == 0) || due) ((suc (p - c.left) % p == 0) || due) (ap (λ x. x % p) on) (ap (λ x. x || due) (complete (cases_lt 1 c.left)))
  where
    complete : (1 < c.left) ⊎ (c.left ≤ 1) → (c.left - 1 == 0) ≡ (suc (c.period - c.left) % c.period == 0)
    complete (inl more) =
        let most = within.1 in
        let below : suc (c.period - c.left) < c.period = omega arith in
        ne_eqb (c.left - 1) 0 (λ e. omega arith) ∙ sym (ap (λ x. x == 0) (mod-eq_of_lt below) ∙ ne_eqb (suc (c.period - c.left)) 0 (λ e. omega arith))
    complete (inr last) =
        let period = within.0 in
        let most = within.1 in
        let all : suc (c.period - c.left) ≡ c.period = omega arith in
        eq-eqb (c.left - 1) 0 (omega arith) ∙ sym (eq-eqb (suc (c.period - c.left) % c.period) 0 (ap (λ x. x % c.period) all ∙ mod_self c.period))

pub all_ticked : (cs : List Countdown) (ls : List Latch) → All IsWithin cs → All (λ (c : Countdown). 1 ≤ c.left) cs → All (λ (l : Latch). l.group < length cs) ls
    → map (settled_timer (map one_less cs)) ls ≡ map kept.ticked (map (kept_timer cs) ls)
all_ticked cs [] within going there = refl
all_ticked cs (l ∷ ls) within going there =
    let here : l.group < length cs = All-head (λ (k : Latch). k.group < length cs) l ls there in
    let c = countdown_of cs l in
    ap (λ x. settled_at x l.is_set ∷ map (settled_timer (map one_less cs)) ls) (get_or-map one_less cs l.group (whole 0) (whole 0) here)
    ∙ ap (λ x. x ∷ map (settled_timer (map one_less cs)) ls) (ticked_at c l.is_set (within l.group (whole 0) here) (going l.group (whole 0) here))
    ∙ ap (λ xs. kept.ticked (kept_at c l.is_set) ∷ xs) (all_ticked cs ls within going (All-tail (λ (k : Latch). k.group < length cs) l ls there))

-- where no countdown has ended
settled_going : (c : Countdown) (due : Bool) → IsWithin c → 1 ≤ c.left → settled_at c due ≡ kept_at c due
settled_going c due within going =
    let period = within.0 in
    let most = within.1 in
    let below : c.period - c.left < c.period = omega arith in
    same_kept c.period ((c.period - c.left) % c.period) (c.period - c.left) ((c.left == 0) || due) due (mod-eq_of_lt below) (ap (λ x. x || due) (ne_eqb c.left 0 (λ e. omega arith)))

pub all_settled : (cs : List Countdown) (ls : List Latch) → All IsWithin cs → All (λ (c : Countdown). 1 ≤ c.left) cs → All (λ (l : Latch). l.group < length cs) ls → map (settled_timer cs) ls ≡ map (kept_timer cs) ls
all_settled cs [] within going there = refl
all_settled cs (l ∷ ls) within going there =
    let here : l.group < length cs = All-head (λ (k : Latch). k.group < length cs) l ls there in
    ap (λ x. x ∷ map (settled_timer cs) ls) (settled_going (countdown_of cs l) l.is_set (within l.group (whole 0) here) (going l.group (whole 0) here))
    ∙ ap (λ xs. kept_timer cs l ∷ xs) (all_settled cs ls within going (All-tail (λ (k : Latch). k.group < length cs) l ls there))

pub one_less_within : (cs : List Countdown) → All IsWithin cs → All IsWithin (map one_less cs)
one_less_within cs within = All-map IsWithin one_less cs (λ k d at. let w = within k d at in (w.0, (let most = w.1 in omega arith)))

-- ---- what is pending

pub same_due : (cs : List Countdown) (ls : List Latch) (event : ℕ) → option_map (λ (t : kept.Timer). t.due) (slice_get (map (kept_timer cs) ls) event) ≡ pending ls event
same_due cs ls event = ap (option_map (λ (t : kept.Timer). t.due)) (slice_get-map (kept_timer cs) ls event) ∙ by (slice_get ls event)
  where
    by : (o : Option Latch) → option_map (λ (t : kept.Timer). t.due) (option_map (kept_timer cs) o) ≡ option_map (λ (l : Latch). l.is_set) o
    by None = refl
    by (Some l) = refl

first_only : (a b : Bool) → b ≡ false → (a || b) ≡ true → a ≡ true
first_only true b off e = refl
first_only false b off e = absurd (true≢false (sym e ∙ off))

-- what is pending after the flags of a group were set was so before, or is one of them that was clear
pub data Pending (before : List Latch) (group event : ℕ) : Type 0 where
  already : pending before event ≡ Some true → Pending before group event
  newly : (l : Latch) → slice_get before event ≡ Some l → l.group ≡ group → l.is_set ≡ false → Pending before group event

pub pending_after : (before now : List Latch) (group event : ℕ) → now ≡ map (after_set group) before → pending now event ≡ Some true → Pending before group event
pending_after before now group event set due = of_flag (slice_get before event) refl (ap (option_map (λ (l : Latch). l.is_set)) (sym (ap (λ ls. slice_get ls event) set ∙ slice_get-map (after_set group) before event)) ∙ due)
  where
    of_flag : (o : Option Latch) → slice_get before event ≡ o → option_map (λ (l : Latch). l.is_set) (option_map (after_set group) o) ≡ Some true → Pending before group event
    of_flag None is e = absurd (cc e)
    of_flag (Some l) is e = by_set l.is_set refl
      where
        both : ((l.group == group) || l.is_set) ≡ true
        both = cc

        by_set : (b : Bool) → l.is_set ≡ b → Pending before group event
        by_set true on = already (ap (option_map (λ (k : Latch). k.is_set)) is ∙ ap (λ b. Some b) on)
        by_set false off = newly l is ((unsigned_Decides l.group group).0 (first_only (l.group == group) l.is_set off both)) off

-- each flag has its countdown still
pub there_still : (cs now : List Countdown) (ls : List Latch) (group : ℕ) → length now ≡ length cs → All (λ (l : Latch). l.group < length cs) ls → All (λ (l : Latch). l.group < length now) (map (after_set group) ls)
there_still cs now ls group count there = All-map (λ (l : Latch). l.group < length now) (after_set group) ls (λ k d at. let below = there k d at in omega (arith, count))

-- one countdown begun anew, and the flags of its group set
module _ (cs new : List Countdown) (b : ℕ) (c : Countdown) (ls now : List Latch) (found : slice_get cs b ≡ Some c) where
  pub fit_anew : new ≡ set cs b (whole c.period) → now ≡ map (after_set b) ls → AreFit cs ls → AreFit new now
  fit_anew anew set_all fit = record {
    within = subst (All IsWithin) (sym anew) (all_within cs b c found fit.within);
    there = subst (All (λ (l : Latch). l.group < length new)) (sym set_all) (there_still cs new ls b (ap length anew ∙ length-set cs b (whole c.period)) fit.there);
  }

  pub settled_anew : c.left ≡ 0 → new ≡ set cs b (whole c.period) → now ≡ map (after_set b) ls → All IsWithin cs → map (settled_timer new) now ≡ map (settled_timer cs) ls
  settled_anew ended anew set_all within =
      (λ i. map (settled_timer (anew i)) (set_all i)) ∙ all_anew cs b c ls found ended (within_at cs b c found within)

-- ---- the whole tick

-- with one less left, each flag has its countdown
pub fit_ticked : (cs new : List Countdown) (ls : List Latch) → new ≡ map one_less cs → IsRunning cs ls → AreFit new ls
fit_ticked cs new ls ticked was =
    subst (λ (ds : List Countdown). AreFit ds ls) (sym ticked)
    (record { within = one_less_within cs was.fit.within; there = subst (λ n. All (λ (l : Latch). l.group < n) ls) (sym (length-map cs one_less)) was.fit.there })

pub kept_ticked : (cs ticked new : List Countdown) (ls now : List Latch) → ticked ≡ map one_less cs → IsRunning cs ls → IsRunning new now → map (settled_timer new) now ≡ map (settled_timer ticked) ls
    → map (kept_timer new) now ≡ map kept.ticked (map (kept_timer cs) ls)
kept_ticked cs ticked new ls now less was running settled =
    sym (all_settled new now running.fit.within running.going running.fit.there)
    ∙ settled
    ∙ ap (λ (ds : List Countdown). map (settled_timer ds) ls) less
    ∙ all_ticked cs ls was.fit.within was.going was.fit.there
