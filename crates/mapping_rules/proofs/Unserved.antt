-- Where no component serves an operation, no task waits for one.
use Rattle.std.proofs.Common.{◌≡◌, ℕ, zero, suc, ◌+◌, List, [], ◌∷◌, map, length, ◌==◌, Bool, true, false, ◌||◌, is_some, Option, Some, None, option_and_then, slice_get, refl, sym, ap, ◌∙◌, arith}
use Rattle.bus_semantics.specs.Common.{and_parts, eqb-true, list_all-map, list_all, position_from, lookup, option_map_or, AccessKind}
use Rattle.runnable_lang.specs.declared.program.AccessKind.TheVariants as kind
use Rattle.plan_definitions.specs.Common.{Access, Component, Description, End, Flat, Instance, end_at, provider_of, same_pair, invokes, task_of_server, tasks_behind, tasks_from}
use Rattle.plan_definitions.specs.Common.{tasks_of_event, waits_by}
use Rattle.mapping_rules.specs.Listed.{invoked_in}
use Rattle.mapping_rules.specs.Waiting.{any_at, has_wait, leads, pairs, waits_in}
use Rattle.mapping_rules.proofs.Invoked.{invoked_from}

nil_of : {X : Type 0} (xs : List X) → (length xs == 0) ≡ true → xs ≡ []
nil_of [] h = refl
nil_of (x ∷ xs) h = let none = eqb-true (suc (length xs)) 0 h in absurd (omega arith)

-- nothing is found
pub where_none : {X : Type 0} (o : Option X) (b : Bool) → o ≡ None → (is_some o || b) ≡ true → b ≡ true
where_none None b none h = h
where_none (Some x) b none h = cc

-- no table has an entry, so no component has an event by which an operation is invoked
pub tables_empty : {X : Type 0} (entries : X → List ((ℕ × ℕ) × ℕ)) (tables : List X) (cs : List Component) → map entries tables ≡ map invoked_in cs
    → list_all (λ t. length (entries t) == 0) tables ≡ true → list_all (λ c. length (invoked_in c) == 0) cs ≡ true
tables_empty entries tables cs same none = sym (sym none ∙ sym (list_all-map (λ (l : List ((ℕ × ℕ) × ℕ)). length l == 0) entries tables)
    ∙ ap (list_all (λ (l : List ((ℕ × ℕ) × ℕ)). length l == 0)) same ∙ list_all-map (λ (l : List ((ℕ × ℕ) × ℕ)). length l == 0) invoked_in cs)

module _ (k n : ℕ) where
  unserved_in : (c : Component) → (length (invoked_in c) == 0) ≡ true → position_from (λ e. invokes k n e.kind) 0 c.behavior.events ≡ None
  unserved_in c none = sym (invoked_from k n 0 c.behavior.events) ∙ ap (lookup (same_pair (k, n))) (nil_of (invoked_in c) none)

  unserved_at : (cs : List Component) (m : ℕ) → list_all (λ c. length (invoked_in c) == 0) cs ≡ true
      → option_and_then (λ c. position_from (λ e. invokes k n e.kind) 0 c.behavior.events) (slice_get cs m) ≡ None
  unserved_at [] m none = refl
  unserved_at (c ∷ cs) zero none = unserved_in c (and_parts (length (invoked_in c) == 0) (list_all (λ c. length (invoked_in c) == 0) cs) none).0
  unserved_at (c ∷ cs) (suc m) none = unserved_at cs m (and_parts (length (invoked_in c) == 0) (list_all (λ c. length (invoked_in c) == 0) cs) none).1

  module _ (d : Description) (none : list_all (λ c. length (invoked_in c) == 0) d.components ≡ true) where
    unserved_by : (o : Option Instance)
        → option_and_then (λ c. position_from (λ e. invokes k n e.kind) 0 c.behavior.events) (option_and_then (λ x. slice_get d.components x.component) o) ≡ None
    unserved_by None = refl
    unserved_by (Some x) = unserved_at d.components x.component none

    no_server : (f : Flat) (i : ℕ) → task_of_server d f i k n ≡ []
    no_server f i = ap (λ o. option_map_or (λ m. tasks_of_event d f (i, m)) o []) (unserved_by (slice_get f.instances i))

module _ (d : Description) (f : Flat) (none : list_all (λ c. length (invoked_in c) == 0) d.components ≡ true) where
  behind_owner : (e : End) (o : Option ℕ) → option_map_or (λ s. task_of_server d f s e.port e.element) o [] ≡ []
  behind_owner e None = refl
  behind_owner e (Some s) = no_server e.port e.element d none f s

  -- no task is behind a provided end
  pub none_behind : (o : Option End) → [] ≡ option_map_or (tasks_behind d f) o []
  none_behind None = refl
  none_behind (Some e) = sym (behind_owner e e.instance)

  by_kind : (i p n : ℕ) (k : AccessKind) → waits_by d f i (record { kind = k; port = p; item = n }) ≡ []
  by_kind i p n kind.Write = refl
  by_kind i p n kind.Read = refl
  by_kind i p n kind.Invalidate = refl
  by_kind i p n kind.IsUpdated = refl
  by_kind i p n kind.Send = refl
  by_kind i p n kind.Receive = refl
  by_kind i p n kind.IWrite = refl
  by_kind i p n kind.IRead = refl
  by_kind i p n kind.IrvWrite = refl
  by_kind i p n kind.IrvRead = refl
  by_kind i p n kind.IrvIWrite = refl
  by_kind i p n kind.IrvIRead = refl
  by_kind i p n kind.Call = sym (none_behind (provider_of f.joins (end_at (Some i) p n)))
  by_kind i p n kind.ACall = refl
  by_kind i p n kind.TakeResult = refl
  by_kind i p n kind.Switch = refl
  by_kind i p n kind.Mode = refl
  by_kind i p n kind.Enter = refl

  -- so nobody waits
  pub waits_by_none : (i : ℕ) (a : Access) → waits_by d f i a ≡ []
  waits_by_none i a = by_kind i a.port a.item a.kind

any_none : {X : Type 0} (test : ℕ → X → Bool) → ((k : ℕ) (x : X) → test k x ≡ false) → (n : ℕ) (xs : List X) → any_at test n xs ≡ false
any_none test h n [] = refl
any_none test h n (x ∷ xs) = λ j. h n x j || any_none test h (n + 1) xs j

no_pairs : (e : ℕ × ℕ) (tasks : List ℕ) → pairs e tasks [] ≡ false
no_pairs e tasks = any_none (λ k t. leads e t []) (λ k t. refl) 0 tasks

module _ (d : Description) (f : Flat) (none : (i : ℕ) (a : Access) → waits_by d f i a ≡ []) (e : ℕ × ℕ) where
  no_wait_in : (i : ℕ) (o : Option Component) → option_map_or (waits_in d f e i) o false ≡ false
  no_wait_in i None = refl
  no_wait_in i (Some c) = any_none (λ m r. any_at (λ k a. pairs e (tasks_from d f i m 0 c.behavior.events) (waits_by d f i a)) 0 r.accesses)
      (λ m r. any_none (λ k a. pairs e (tasks_from d f i m 0 c.behavior.events) (waits_by d f i a))
      (λ k a. ap (pairs e (tasks_from d f i m 0 c.behavior.events)) (none i a) ∙ no_pairs e (tasks_from d f i m 0 c.behavior.events)) 0 r.accesses) 0 c.behavior.runnables

  pub no_wait : false ≡ has_wait d f e
  no_wait = sym (any_none (λ i x. option_map_or (waits_in d f e i) (slice_get d.components x.component) false) (λ i x. no_wait_in i (slice_get d.components x.component)) 0 f.instances)
