-- What is added to a session at whose end no run line is open is a session of its own.
use Rattle.std.proofs.Common.{◌≡◌, ℕ, true, false, not, cond, List, [], ◌∷◌, ◌++◌, Option, refl, sym, ap, ◌∙◌, subst, append_assoc, append-nil}
use Rattle.bus_semantics.specs.Common.{and_from, and_parts, History, is_environment, Plan, Session, made, run_begins, run_closes, Ordered, a_run, orders_of, orders_of_entry}
use Rattle.bus_semantics.specs.Common.{orders_of_script, is_inside, is_placed, IsSessionOf, IsBeginningOf}
use Rattle.std.proofs.lemmas.List.{append_cancel_left}
use Rattle.bus_semantics.specs.declared.script.Line.{Line}
use Rattle.bus_semantics.specs.declared.script.Mapping.{Mapping}
use Rattle.core_runtime.specs.Nodes.{NodeState}
use Rattle.script_run.specs.declared.writing.Writing.{Writing}
use Rattle.script_run.specs.Standing.{outside, StandsIn, IsCut}

orders-onto : (items s : Session) → orders_of (items ++ s) ≡ orders_of s ++ orders_of items
orders-onto [] s = sym (append-nil (orders_of s))
orders-onto (made e ∷ items) s = ap (λ os. os ++ orders_of_entry e) (orders-onto items s) ∙ append_assoc (orders_of s) (orders_of items) (orders_of_entry e)
orders-onto (run_begins ∷ items) s = ap (λ os. os ++ a_run ∷ []) (orders-onto items s) ∙ append_assoc (orders_of s) (orders_of items) (a_run ∷ [])
orders-onto (run_closes word ∷ items) s = orders-onto items s

inside-onto : (items s : Session) → is_inside s ≡ false → is_inside (items ++ s) ≡ is_inside items
inside-onto [] s out = out
inside-onto (made e ∷ items) s out = inside-onto items s out
inside-onto (run_begins ∷ items) s out = refl
inside-onto (run_closes word ∷ items) s out = refl

placed-onto : (items s : Session) → is_inside s ≡ false → is_placed (items ++ s) ≡ true → is_placed items ≡ true
placed-onto [] s out placed = refl
placed-onto (made e ∷ items) s out placed =
    let two = and_parts (is_placed (items ++ s)) (cond (is_environment e.actor) (not (is_inside (items ++ s))) (is_inside (items ++ s))) placed in
    and_from (is_placed items) _ (placed-onto items s out two.0)
    (subst (λ b. cond (is_environment e.actor) (not b) b ≡ true) (inside-onto items s out) two.1)
placed-onto (run_begins ∷ items) s out placed =
    let two = and_parts (is_placed (items ++ s)) (not (is_inside (items ++ s))) placed in
    and_from (is_placed items) _ (placed-onto items s out two.0) (subst (λ b. not b ≡ true) (inside-onto items s out) two.1)
placed-onto (run_closes word ∷ items) s out placed =
    let two = and_parts (is_placed (items ++ s)) (is_inside (items ++ s)) placed in
    and_from (is_placed items) _ (placed-onto items s out two.0) (subst (λ b. b ≡ true) (inside-onto items s out) two.1)

pub added_is_session : (p : Plan) (m : Mapping) (h : History) (orders : List Ordered) (old new : NodeState) (s items : Session) (script : List Line)
    → StandsIn p m h orders outside old s → StandsIn p m h (orders ++ orders_of_script script) outside new (items ++ s) → IsSessionOf script items
added_is_session p m h orders old new s items script before now = record {
  orders = append_cancel_left orders (orders_of items) (orders_of_script script) (ap (λ os. os ++ orders_of items) (sym before.did) ∙ sym (orders-onto items s) ∙ now.did);
  placed = placed-onto items s before.at now.placed;
  closed = sym (inside-onto items s before.at) ∙ now.at;
}

pub cut_is_beginning : (w : Writing) (p : Plan) (m : Mapping) (h : History) (orders : List Ordered) (old : NodeState) (s : Session) (script : List Line) (before after : Option (List ℕ))
    → StandsIn p m h orders outside old s → (cut : IsCut w p m h (orders ++ orders_of_script script) s before after) → IsBeginningOf script cut.items
cut_is_beginning w p m h orders old s script before now stands cut = record {
  left = cut.left;
  orders = append_cancel_left orders (orders_of cut.items ++ cut.left) (orders_of_script script)
      (ap (λ os. os ++ (orders_of cut.items ++ cut.left)) (sym stands.did)
      ∙ sym (append_assoc (orders_of s) (orders_of cut.items) cut.left)
      ∙ ap (λ os. os ++ cut.left) (sym (orders-onto cut.items s))
      ∙ cut.did);
  placed = placed-onto cut.items s stands.at cut.placed;
}
