-- An event that is added to the list of its runnable, and all of them.
use Rattle.std.proofs.Common.{◌≡◌, ◌<◌, ◌≤◌, ◌+◌, ℕ, sym, ◌∙◌, ap, subst, arith, List, [], ◌∷◌, ◌++◌, length, set, None, Some}
use Rattle.std.specs.Prelude.{Vec}
use Rattle.bus_semantics.specs.Common.{Global, Contains, slice_get, option_map_or, cases_eq, cases_lt, length-set, same_Some, slice_get_past, Plan, runnable_of_event}
use Rattle.std.proofs.lemmas.List.Elements.{Contains-push, Contains-append_left}
use Rattle.std.proofs.Common.{◌⊎◌, inl, inr}
use Rattle.bus_semantics.specs.declared.plan.EventPlan.{EventPlan}
use Rattle.core_runtime.specs.Watching.{AreStarters, IsListed, IsStarter}
use Rattle.latches.proofs.Places.{set_here, set_there}

pub starter_added : (p : Plan) (event runnable : ℕ) (lists : List (Vec ℕ Global)) (row new : Vec ℕ Global) → runnable_of_event p event ≡ Some runnable → slice_get lists runnable ≡ Some row → new.items ≡ row.items ++ event ∷ [] → IsStarter p event lists (set lists runnable new)
starter_added p event runnable lists row new starts found pushed = record {
  count = length-set lists runnable new;
  kept = λ r e listed. by_place r e listed (cases_eq r runnable);
  added = λ r is within.
      let same : runnable ≡ r = same_Some _ _ (sym starts ∙ is) in
      subst (λ k. IsListed (set lists runnable new) k event) same (record {
        row = new;
        row_is = set_here lists runnable row new found;
        among = subst (λ es. Contains es event) (sym pushed) (Contains-push row.items event);
      });
}
  where
    by_place : (r e : ℕ) → IsListed lists r e → (r ≡ runnable) ⊎ (r ≡ runnable → ⊥) → IsListed (set lists runnable new) r e
    by_place r e listed (inl same) =
        let own : listed.row ≡ row = same_Some _ _ (sym listed.row_is ∙ ap (slice_get lists) same ∙ found) in
        record {
          row = new;
          row_is = ap (slice_get (set lists runnable new)) same ∙ set_here lists runnable row new found;
          among = subst (λ es. Contains es e) (sym pushed) (Contains-append_left row.items (event ∷ []) e (subst (λ (v : Vec ℕ Global). Contains v.items e) own listed.among));
        }
    by_place r e listed (inr other) = record { row = listed.row; row_is = set_there lists runnable r listed.row new other listed.row_is; among = listed.among }

-- the events before this one are listed
abbrev pub ListedBefore : Plan → (event : ℕ) → (lists : List (Vec ℕ Global)) → Type 0
ListedBefore p n lists = (event runnable : ℕ) → event < n → runnable_of_event p event ≡ Some runnable → runnable < length p.runnables → IsListed lists runnable event

pub listed_on : (p : Plan) (n : ℕ) (old new : List (Vec ℕ Global)) → length old ≡ length p.runnables → IsStarter p n old new → ListedBefore p n old → ListedBefore p (n + 1) new
listed_on p n old new count on before = λ event runnable below starts inside. elim (cases_lt event n) [
  | inl earlier ↦ on.kept runnable event (before event runnable earlier starts inside)
  | inr later ↦
      let same : n ≡ event = omega (arith, below, later) in
      subst (λ e. IsListed new runnable e) same (on.added runnable (ap (runnable_of_event p) same ∙ starts) (omega (arith, count, inside)))
]

pub listed_all : (p : Plan) (n : ℕ) (lists : List (Vec ℕ Global)) → length lists ≡ length p.runnables → length p.events ≤ n → ListedBefore p n lists → AreStarters p lists
listed_all p n lists count far before = record {
  count = count;
  all = λ event runnable starts inside. elim (cases_lt event n) [
    | inl earlier ↦ before event runnable earlier starts inside
    | inr past ↦
        let none : slice_get p.events event ≡ None = slice_get_past p.events event (omega (arith, far, past)) in
        absurd (cc (sym (ap (λ o. option_map_or (λ (v : EventPlan). Some v.runnable) o None) none) ∙ starts))
  ];
}
