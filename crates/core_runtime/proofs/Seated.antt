-- Seats that are added to the lists of their events.
use Rattle.std.proofs.Common.{◌≡◌, ℕ, zero, suc, ◌<◌, ◌≤◌, ◌+◌, ◌==◌, Bool, true, false, ◌⊎◌, inl, inr, refl, sym, ◌∙◌, ap, subst, arith, List, [], ◌∷◌, ◌++◌, length, get_or, set, Some, None}
use Rattle.std.specs.Prelude.{Vec, All, nat_lt}
use Rattle.bus_semantics.specs.Common.{Global, unsigned_Decides, list_all, slice_get, cases_lt, false≢true, ltb-true, length-set, same_Some, slice_get_within}
use Rattle.std.proofs.lemmas.List.Folds.{list_all_at}
use Rattle.core_runtime.specs.Common.{Seat, IsOfTask, IsOfCore, IsOfCores, IsAt, Adds, AreSeated}
use Rattle.core_runtime.proofs.NewNodes.{Last, earlier, last, last_or}
use Rattle.latches.proofs.Places.{Placed, here, there, placed, set_here, set_there}

-- ---- one

append_keeps : (xs : List Seat) (y : Seat) (i : ℕ) (x : Seat) → slice_get xs i ≡ Some x → slice_get (xs ++ y ∷ []) i ≡ Some x
append_keeps [] y i x e = absurd (cc e)
append_keeps (z ∷ xs) y zero x e = e
append_keeps (z ∷ xs) y (suc i) x e = append_keeps xs y i x e

append_puts : (xs : List Seat) (y : Seat) → slice_get (xs ++ y ∷ []) (length xs) ≡ Some y
append_puts [] y = refl
append_puts (z ∷ xs) y = append_puts xs y

-- the seat alone
abbrev pub IsOne : (event : ℕ) → Seat → (e : ℕ) → Seat → Type 0
IsOne event seat e s = (e ≡ event) × (s ≡ seat)

module _ (seats : List (Vec Seat Global)) (event : ℕ) (row new : Vec Seat Global) (seat : Seat) (found : slice_get seats event ≡ Some row) (pushed : new.items ≡ row.items ++ seat ∷ []) where
  abbrev put : List (Vec Seat Global)
  put = set seats event new

  here_is : slice_get put event ≡ Some new
  here_is = set_here seats event row new found

  kept_at : (e : ℕ) (s : Seat) → IsAt seats e s → IsAt put e s
  kept_at e s at = by_test (e == event) refl
    where
      by_test : (b : Bool) → (e == event) ≡ b → IsAt put e s
      by_test true same =
          let place : e ≡ event = (unsigned_Decides e event).0 same in
          let own : at.row ≡ row = same_Some _ _ (sym at.row_is ∙ ap (slice_get seats) place ∙ found) in
          record {
            row = new;
            at = at.at;
            row_is = ap (slice_get put) place ∙ here_is;
            is = ap (λ xs. slice_get xs at.at) pushed ∙ append_keeps row.items seat at.at s (ap (λ (v : Vec Seat Global). slice_get v.items at.at) (sym own) ∙ at.is);
          }
      by_test false other = record { row = at.row; at = at.at; row_is = set_there seats event e at.row new (λ same. false≢true (sym other ∙ (unsigned_Decides e event).1 same)) at.row_is; is = at.is }

  only_at : (e : ℕ) (s : Seat) → IsAt put e s → IsAt seats e s ⊎ IsOne event seat e s
  only_at e s at = of_place (placed seats event new e at.row at.row_is)
    where
      of_place : Placed (Vec Seat Global) seats event new e at.row → IsAt seats e s ⊎ IsOne event seat e s
      of_place (there other row_is) = inl (record { row = at.row; at = at.at; row_is = row_is; is = at.is })
      of_place (here place same) = of_last (last_or row.items seat at.at s (ap (λ xs. slice_get xs at.at) (sym pushed) ∙ ap (λ (v : Vec Seat Global). slice_get v.items at.at) (sym same) ∙ at.is))
        where
          of_last : Last Seat row.items seat at.at s → IsAt seats e s ⊎ IsOne event seat e s
          of_last (earlier is) = inl (record { row = row; at = at.at; row_is = ap (slice_get seats) place ∙ found; is = is })
          of_last (last end is) = inr (place, is)

  pub one_added : Adds (IsOne event seat) seats put
  one_added = record {
    count = length-set seats event new;
    kept = kept_at;
    added = λ e s is. record {
      row = new;
      at = length row.items;
      row_is = ap (slice_get put) is.0 ∙ here_is;
      is = ap (λ xs. slice_get xs (length row.items)) pushed ∙ append_puts row.items seat ∙ ap (λ x. Some x) (sym is.1);
    };
    only = only_at;
  }

-- ---- some, and then more

-- those of which a place is below k
abbrev pub Below : (place : Seat → ℕ) → (all : (event : ℕ) → Seat → Type 0) → (k event : ℕ) → Seat → Type 0
Below place all k event s = (place s < k) × all event s

module _ (place : Seat → ℕ) (all : (event : ℕ) → Seat → Type 0) (old : List (Vec Seat Global)) where
  pub adds_none : Adds (Below place all 0) old old
  adds_none = record { count = refl; kept = λ event s at. at; added = λ event s is. let below = is.0 in absurd (omega arith); only = λ event s at. inl at }

  -- and then those at k
  module _ (those : (event : ℕ) → Seat → Type 0) (mid new : List (Vec Seat Global)) (k : ℕ) (to : (event : ℕ) (s : Seat) → place s ≡ k → all event s → those event s)
      (back : (event : ℕ) (s : Seat) → those event s → (place s ≡ k) × all event s) (one : Adds (Below place all k) old mid) (other : Adds those mid new) where
    added_at : (event : ℕ) (s : Seat) → Below place all (k + 1) event s → (place s < k) ⊎ (k ≤ place s) → IsAt new event s
    added_at event s is (inl less) = other.kept event s (one.added event s (less, is.1))
    added_at event s is (inr past) = let below = is.0 in let at : place s ≡ k = omega arith in other.added event s (to event s at is.1)

    of_early : (event : ℕ) (s : Seat) → IsAt old event s ⊎ Below place all k event s → IsAt old event s ⊎ Below place all (k + 1) event s
    of_early event s (inl at) = inl at
    of_early event s (inr is) = let below = is.0 in inr (omega arith, is.1)

    of_late : (event : ℕ) (s : Seat) → IsAt mid event s ⊎ those event s → IsAt old event s ⊎ Below place all (k + 1) event s
    of_late event s (inl at) = of_early event s (one.only event s at)
    of_late event s (inr is) = let both = back event s is in let at = both.0 in inr (omega arith, both.1)

    pub adds_more : Adds (Below place all (k + 1)) old new
    adds_more = record {
      count = other.count ∙ one.count;
      kept = λ event s at. other.kept event s (one.kept event s at);
      added = λ event s is. added_at event s is (cases_lt (place s) k);
      only = λ event s at. of_late event s (other.only event s at);
    }

  -- all of them
  pub adds_all : (new : List (Vec Seat Global)) (k : ℕ) → ((event : ℕ) (s : Seat) → all event s → place s < k) → Adds (Below place all k) old new → Adds all old new
  adds_all new k within adds = record { count = adds.count; kept = adds.kept; added = λ event s is. adds.added event s (within event s is, is); only = λ event s at. of_part event s (adds.only event s at) }
    where
      of_part : (event : ℕ) (s : Seat) → IsAt old event s ⊎ Below place all k event s → IsAt old event s ⊎ all event s
      of_part event s (inl at) = inl at
      of_part event s (inr is) = inr is.1

-- ---- the events of a task, the tasks of a core, the cores

abbrev pub OfTaskBelow : (events : List ℕ) (core slot k event : ℕ) → Seat → Type 0
OfTaskBelow events core slot = Below (λ s. s.place) (IsOfTask events core slot)

abbrev pub OfCoreBelow : (tasks : List (List ℕ)) (core k event : ℕ) → Seat → Type 0
OfCoreBelow tasks core = Below (λ s. s.slot) (IsOfCore tasks core)

abbrev pub OfCoresBelow : (table : List (List (List ℕ))) (k event : ℕ) → Seat → Type 0
OfCoresBelow table = Below (λ s. s.core) (IsOfCores table)

abbrev at_place : (core slot k : ℕ) → Seat
at_place core slot k = record { core = core; slot = slot; place = k }

module _ (old mid new : List (Vec Seat Global)) where
  pub task_on : (events : List ℕ) (core slot k event : ℕ) → slice_get events k ≡ Some event → Adds (OfTaskBelow events core slot k) old mid → Adds (IsOne event (at_place core slot k)) mid new → Adds (OfTaskBelow events core slot (k + 1)) old new
  task_on events core slot k event found = adds_more (λ s. s.place) (IsOfTask events core slot) old (IsOne event (at_place core slot k)) mid new k to back
    where
      to : (e : ℕ) (s : Seat) → s.place ≡ k → IsOfTask events core slot e s → IsOne event (at_place core slot k) e s
      to e s at is = (same_Some _ _ (sym is.place_is ∙ ap (slice_get events) at ∙ found), λ i. record { core = is.core_is i; slot = is.slot_is i; place = at i })

      back : (e : ℕ) (s : Seat) → IsOne event (at_place core slot k) e s → (s.place ≡ k) × IsOfTask events core slot e s
      back e s is =
          let at : s.place ≡ k = ap (λ (x : Seat). x.place) is.1 in
          (at, record { core_is = ap (λ (x : Seat). x.core) is.1; slot_is = ap (λ (x : Seat). x.slot) is.1; place_is = ap (slice_get events) at ∙ found ∙ ap (λ n. Some n) (sym is.0) })

  pub core_on : (tasks : List (List ℕ)) (core k : ℕ) (events : List ℕ) → slice_get tasks k ≡ Some events → Adds (OfCoreBelow tasks core k) old mid → Adds (IsOfTask events core k) mid new → Adds (OfCoreBelow tasks core (k + 1)) old new
  core_on tasks core k events found = adds_more (λ s. s.slot) (IsOfCore tasks core) old (IsOfTask events core k) mid new k to back
    where
      to : (e : ℕ) (s : Seat) → s.slot ≡ k → IsOfCore tasks core e s → IsOfTask events core k e s
      to e s at is =
          let own : is.events ≡ events = same_Some _ _ (sym is.task_is ∙ ap (slice_get tasks) at ∙ found) in
          record { core_is = is.seat.core_is; slot_is = at; place_is = ap (λ es. slice_get es s.place) (sym own) ∙ is.seat.place_is }

      back : (e : ℕ) (s : Seat) → IsOfTask events core k e s → (s.slot ≡ k) × IsOfCore tasks core e s
      back e s is = (is.slot_is, record { events = events; task_is = ap (slice_get tasks) is.slot_is ∙ found; seat = record { core_is = is.core_is; slot_is = refl; place_is = is.place_is } })

  pub cores_on : (table : List (List (List ℕ))) (k : ℕ) (tasks : List (List ℕ)) → slice_get table k ≡ Some tasks → Adds (OfCoresBelow table k) old mid → Adds (IsOfCore tasks k) mid new → Adds (OfCoresBelow table (k + 1)) old new
  cores_on table k tasks found = adds_more (λ s. s.core) (IsOfCores table) old (IsOfCore tasks k) mid new k to back
    where
      to : (e : ℕ) (s : Seat) → s.core ≡ k → IsOfCores table e s → IsOfCore tasks k e s
      to e s at is =
          let own : is.tasks ≡ tasks = same_Some _ _ (sym is.core_is ∙ ap (slice_get table) at ∙ found) in
          subst (λ n. IsOfCore tasks n e s) at (subst (λ ts. IsOfCore ts s.core e s) own is.seat)

      back : (e : ℕ) (s : Seat) → IsOfCore tasks k e s → (s.core ≡ k) × IsOfCores table e s
      back e s is = let at = is.seat.core_is in (at, record { tasks = tasks; core_is = ap (slice_get table) at ∙ found; seat = subst (λ n. IsOfCore tasks n e s) (sym at) is })

pub task_all : (old new : List (Vec Seat Global)) (events : List ℕ) (core slot k : ℕ) → length events ≤ k → Adds (OfTaskBelow events core slot k) old new → Adds (IsOfTask events core slot) old new
task_all old new events core slot k end = adds_all (λ s. s.place) (IsOfTask events core slot) old new k (λ e s is. let within : s.place < length events = slice_get_within events s.place e is.place_is in omega arith)

pub core_all : (old new : List (Vec Seat Global)) (tasks : List (List ℕ)) (core k : ℕ) → length tasks ≤ k → Adds (OfCoreBelow tasks core k) old new → Adds (IsOfCore tasks core) old new
core_all old new tasks core k end = adds_all (λ s. s.slot) (IsOfCore tasks core) old new k (λ e s is. let within : s.slot < length tasks = slice_get_within tasks s.slot is.events is.task_is in omega arith)

pub cores_all : (old new : List (Vec Seat Global)) (table : List (List (List ℕ))) (k : ℕ) → length table ≤ k → AreSeated [] old → Adds (OfCoresBelow table k) old new → AreSeated table new
cores_all old new table k end none adds = record { all = λ e s is. all.added e s is; only = λ e s at. of_part e s (all.only e s at) }
  where
    all : Adds (IsOfCores table) old new
    all = adds_all (λ s. s.core) (IsOfCores table) old new k (λ e s is. let within : s.core < length table = slice_get_within table s.core is.tasks is.core_is in omega arith) adds

    of_part : (e : ℕ) (s : Seat) → IsAt old e s ⊎ IsOfCores table e s → IsOfCores table e s
    of_part e s (inl at) = let was = none.only e s at in absurd (cc was.core_is)
    of_part e s (inr is) = is

-- ---- what is asked of the lists

pub all_below : (events : List ℕ) (count : ℕ) → list_all (λ e. nat_lt e count) events ≡ true → All (λ e. e < count) events
all_below events count all = λ k d within. of_test k d within (nat_lt (get_or events k d) count) refl
  where
    of_test : (k d : ℕ) → k < length events → (b : Bool) → nat_lt (get_or events k d) count ≡ b → get_or events k d < count
    of_test k d within true is = ltb-true (get_or events k d) count is
    of_test k d within false is = absurd (false≢true (sym (list_all_at (λ e. nat_lt e count) events k d within is) ∙ all))

-- ---- no seats yet

pub none_yet : (seats : List (Vec Seat Global)) → seats ≡ [] → AreSeated [] seats
none_yet seats empty = subst (AreSeated []) (sym empty) (record { all = λ e s is. absurd (cc is.core_is); only = λ e s at. absurd (cc at.row_is) })

pub no_more : (seats : List (Vec Seat Global)) (row : Vec Seat Global) → row.items ≡ [] → AreSeated [] seats → AreSeated [] (seats ++ row ∷ [])
no_more seats row empty none = record { all = λ e s is. absurd (cc is.core_is); only = λ e s at. of_row e s at (last_or seats row e at.row at.row_is) }
  where
    of_row : (e : ℕ) (s : Seat) (at : IsAt (seats ++ row ∷ []) e s) → Last (Vec Seat Global) seats row e at.row → IsOfCores [] e s
    of_row e s at (earlier found) = none.only e s (record { row = at.row; at = at.at; row_is = found; is = at.is })
    of_row e s at (last end same) =
        let nothing : None ≡ Some s = ap (λ xs. slice_get xs at.at) (sym empty) ∙ ap (λ (v : Vec Seat Global). slice_get v.items at.at) (sym same) ∙ at.is in
        absurd (cc nothing)
