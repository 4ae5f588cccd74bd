-- An item and the order of a script.
use Rattle.std.proofs.Common.{◌≡◌, Bool, true, false, not, if◌then◌else◌, List, [], ◌∷◌, ◌++◌, sym, ap, ◌∙◌, subst, append_assoc}
use Rattle.bus_semantics.specs.Common.{and_from, wanted_by, is_environment, Ordered, Session, a_call, a_run, made, run_begins, IsBeginningOf, is_inside, is_placed, orders_of}
use Rattle.bus_semantics.specs.Common.{orders_of_script}
use Rattle.std.proofs.lemmas.List.{append_cancel_left}
use Rattle.bus_semantics.specs.declared.script.Line.{Line}
use Rattle.bus_semantics.specs.declared.entries.Entry.{Entry}
use Rattle.trace_check.specs.Orders.{Takes}
use Rattle.trace_check.specs.Order.{Leaves, TakesItem}

module _ (script : List Line) (s : Session) (old : List Ordered) (leaves : Leaves script s old) where
  -- ---- a run mark

  pub mark_taken : (new : List Ordered) → is_inside s ≡ false → old ≡ a_run ∷ new → Leaves script (run_begins ∷ s) new
  mark_taken new outside took = record {
    orders = append_assoc (orders_of s) (a_run ∷ []) new ∙ ap (λ t. orders_of s ++ t) (sym took) ∙ leaves.orders;
    placed = and_from (is_placed s) (not (is_inside s)) leaves.placed (ap not outside);
  }

  pub mark_not_next : ((more : List Ordered) → old ≡ a_run ∷ more → ⊥) → IsBeginningOf script (run_begins ∷ s) → ⊥
  mark_not_next other begun =
      other begun.left
      (append_cancel_left (orders_of s) old (a_run ∷ begun.left) (leaves.orders ∙ sym begun.orders ∙ append_assoc (orders_of s) (a_run ∷ []) begun.left))

  pub mark_judged : is_inside s ≡ false → (b : Bool) (new : List Ordered) → Takes a_run old new b → TakesItem script s run_begins new b
  mark_judged outside true new took = mark_taken new outside took
  mark_judged outside false new other = mark_not_next other.1

  -- ---- an entry of the environment

  module _ (e : Entry) (env : is_environment e.actor ≡ true) where
    pub call_taken : (new : List Ordered) → is_inside s ≡ false → old ≡ a_call (wanted_by 0 e.deed) ∷ new → Leaves script (made e ∷ s) new
    call_taken new outside took =
        let orders : (orders_of s ++ a_call (wanted_by 0 e.deed) ∷ []) ++ new ≡ orders_of_script script =
        append_assoc (orders_of s) (a_call (wanted_by 0 e.deed) ∷ []) new ∙ ap (λ t. orders_of s ++ t) (sym took) ∙ leaves.orders in
        record {
          orders = subst (λ b. (orders_of s ++ (if b then a_call (wanted_by 0 e.deed) ∷ [] else [])) ++ new ≡ orders_of_script script) (sym env) orders;
          placed = and_from (is_placed s) _ leaves.placed (subst (λ b. (if b then not (is_inside s) else is_inside s) ≡ true) (sym env) (ap not outside));
        }

    pub call_not_next : ((more : List Ordered) → old ≡ a_call (wanted_by 0 e.deed) ∷ more → ⊥) → IsBeginningOf script (made e ∷ s) → ⊥
    call_not_next other begun =
        let orders = subst (λ b. (orders_of s ++ (if b then a_call (wanted_by 0 e.deed) ∷ [] else [])) ++ begun.left ≡ orders_of_script script) env begun.orders in
        other begun.left
        (append_cancel_left (orders_of s) old (a_call (wanted_by 0 e.deed) ∷ begun.left)
        (leaves.orders ∙ sym orders ∙ append_assoc (orders_of s) (a_call (wanted_by 0 e.deed) ∷ []) begun.left))

    pub call_judged : is_inside s ≡ false → (b : Bool) (new : List Ordered) → Takes (a_call (wanted_by 0 e.deed)) old new b → TakesItem script s (made e) new b
    call_judged outside true new took = call_taken new outside took
    call_judged outside false new other = call_not_next other.1
