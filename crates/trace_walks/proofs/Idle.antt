-- No flag is set exactly where no activation runs.
use Rattle.std.proofs.Common.{◌≡◌, ℕ, zero, suc, ◌<◌, inl, inr, Bool, true, false, ◌&&◌, not, refl, sym, ◌∙◌, ap, subst, arith, List, [], ◌∷◌, length, get_or, is_some, Option, Some, None}
use Rattle.bus_semantics.specs.Common.{list_all, option_map_or, and_from, and_parts, false≢true, list_all-append, list_all-map, ActKey, Plan, positions, History, runs, direct_key, plain_key}
use Rattle.bus_semantics.specs.Common.{plain_keys, direct_keys, option_list, none_runs, IsSound}
use Rattle.bus_semantics.specs.declared.script.Mapping.{Mapping}
use Rattle.no_stall.proofs.Lists.{Among, all_from, all_at, all_positions, gathered_from, among_gathered, among_positions}
use Rattle.no_stall.proofs.Keys.{direct_is, joined_point}
use Rattle.place_set.specs.Places.{IsNext}
use Rattle.trace_walks.specs.declared.runners.Runners.{Runners}
use Rattle.trace_walks.specs.Runners.{RunnersStand, point_runs}

-- ---- flags

all_clear : (flags : List Bool) → ((i : ℕ) → i < length flags → get_or flags i false ≡ false) → list_all not flags ≡ true
all_clear [] each = refl
all_clear (b ∷ flags) each = and_from (not b) (list_all not flags) (ap not (each zero (omega arith))) (all_clear flags (λ i less. each (suc i) (omega (arith, less))))

clear_at : (flags : List Bool) (i : ℕ) → list_all not flags ≡ true → get_or flags i false ≡ false
clear_at [] i all = refl
clear_at (b ∷ flags) zero all = by_flag b (and_parts (not b) (list_all not flags) all).0
  where
    by_flag : (b : Bool) → not b ≡ true → b ≡ false
    by_flag true n = absurd (false≢true n)
    by_flag false n = refl
clear_at (b ∷ flags) (suc i) all = clear_at flags i (and_parts (not b) (list_all not flags) all).1

-- no place is found exactly where none is set
pub empty_is : (flags : List Bool) (next : Option ℕ) → IsNext flags 0 (length flags) next → (empty : Bool) → is_some next ≡ not empty → empty ≡ list_all not flags
empty_is flags None none true is = sym (all_clear flags (λ i less. none i (omega arith) less))
empty_is flags None none false is = absurd (false≢true is)
empty_is flags (Some at) first true is = absurd (false≢true (sym is))
empty_is flags (Some at) first false is = sym (by_all (list_all not flags) refl)
  where
    by_all : (b : Bool) → list_all not flags ≡ b → b ≡ false
    by_all true all = absurd (false≢true (sym (clear_at flags at all) ∙ first.chosen))
    by_all false all = refl

same_truth : (a b : Bool) → (a ≡ true → b ≡ true) → (b ≡ true → a ≡ true) → a ≡ b
same_truth true b to from = sym (to refl)
same_truth false true to from = from refl
same_truth false false to from = refl

-- ---- keys

module _ (p : Plan) (m : Mapping) (sound : IsSound p m) (h : History) (rs : Runners) (stands : RunnersStand p h rs) where
  abbrev rests : ActKey → Bool
  rests k = not (runs k h)

  unless : (b : Bool) → not b ≡ true → b ≡ false
  unless true n = absurd (false≢true n)
  unless false n = refl

  plain_rests : (r : ℕ) → r < length p.runnables → list_all rests (plain_keys p) ≡ true → rests (plain_key r) ≡ true
  plain_rests r less all = all_at (λ n. rests (plain_key n)) r (positions (length p.runnables)) (sym (list_all-map rests plain_key (positions (length p.runnables))) ∙ all) (among_positions r (length p.runnables) less)

  direct_rests : (q : ℕ) (k : ActKey) → direct_key p q ≡ Some k → list_all rests (direct_keys p) ≡ true → rests k ≡ true
  direct_rests q k key all =
      let of = direct_is p m sound q k key in
      let there : Among k (option_list (direct_key p q)) = subst (λ (o : Option ActKey). Among k (option_list o)) (sym key) (inl refl) in
      all_at rests k (direct_keys p) all (among_gathered (λ n. option_list (direct_key p n)) q k (positions (length p.points)) (among_positions q (length p.points) (joined_point p m sound q of.server of.joined)) there)

  listed_key : (q : ℕ) (k : ActKey) → Among k (option_list (direct_key p q)) → direct_key p q ≡ Some k
  listed_key q k there = by_key (direct_key p q) refl there
    where
      by_key : (o : Option ActKey) → direct_key p q ≡ o → Among k (option_list o) → o ≡ Some k
      by_key None is never = absurd never
      by_key (Some j) is (inl same) = ap (λ x. Some x) same
      by_key (Some j) is (inr never) = absurd never

  plain_is : list_all not rs.plain ≡ list_all rests (plain_keys p)
  plain_is = same_truth (list_all not rs.plain) (list_all rests (plain_keys p)) to from
    where
      to : list_all not rs.plain ≡ true → list_all rests (plain_keys p) ≡ true
      to clear = list_all-map rests plain_key (positions (length p.runnables))
          ∙ all_positions (λ r. rests (plain_key r)) (length p.runnables) (λ r less. ap not (sym (stands.plain r less) ∙ clear_at rs.plain r clear))

      from : list_all rests (plain_keys p) ≡ true → list_all not rs.plain ≡ true
      from all = all_clear rs.plain each
        where
          each : (r : ℕ) → r < length rs.plain → get_or rs.plain r false ≡ false
          each r less = let within : r < length p.runnables = subst (λ n. r < n) stands.runnables less in
              stands.plain r within ∙ unless (runs (plain_key r) h) (plain_rests r within all)

  direct_are : list_all not rs.direct ≡ list_all rests (direct_keys p)
  direct_are = same_truth (list_all not rs.direct) (list_all rests (direct_keys p)) to from
    where
      to : list_all not rs.direct ≡ true → list_all rests (direct_keys p) ≡ true
      to clear = all_from rests (direct_keys p) each
        where
          each : (k : ActKey) → Among k (direct_keys p) → rests k ≡ true
          each k there =
              let source = gathered_from (λ n. option_list (direct_key p n)) k (positions (length p.points)) there in
              let key = listed_key source.item k source.gives in
              let flag : point_runs p h source.item ≡ false = sym (stands.direct source.item) ∙ clear_at rs.direct source.item clear in
              ap not (sym (ap (λ (o : Option ActKey). option_map_or (λ j. runs j h) o false) key) ∙ flag)

      from : list_all rests (direct_keys p) ≡ true → list_all not rs.direct ≡ true
      from all = all_clear rs.direct (λ q less. stands.direct q ∙ by_key q (direct_key p q) refl)
        where
          by_key : (q : ℕ) (o : Option ActKey) → direct_key p q ≡ o → option_map_or (λ k. runs k h) o false ≡ false
          by_key q None key = refl
          by_key q (Some k) key = unless (runs k h) (direct_rests q k key all)

  pub none_set : (list_all not rs.plain && list_all not rs.direct) ≡ none_runs p h
  none_set = (λ i. plain_is i && direct_are i) ∙ sym (list_all-append rests (plain_keys p) (direct_keys p))
