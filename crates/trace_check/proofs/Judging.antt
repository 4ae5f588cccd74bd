-- The check after an item.
use Rattle.std.proofs.Common.{◌≡◌, ℕ, suc, min, true, false, not, ◌&&◌, if◌then◌else◌, List, [], ◌∷◌, ◌++◌, Some, None, refl, inr, sym, ap, ◌∙◌, subst, ◌≤◌, ◌==◌, eq-eqb, arith}
use Rattle.bus_semantics.specs.Common.{and_from, eqb-true, false≢true, le-leb, leb-true, append-nil, IsLegal, wanted_by, fits, is_environment, Closing, Ordered, Session, a_call, unsettled}
use Rattle.bus_semantics.specs.Common.{made, run_begins, run_closes, Holds, IsBeginningOf, IsSessionOf, history_of, is_inside, is_placed, made_in_line, orders_of, orders_of_script}
use Rattle.std.proofs.lemmas.List.{append_cancel_left}
use Rattle.bus_semantics.specs.declared.script.Line.{Line}
use Rattle.bus_semantics.specs.declared.entries.Actor.{Actor}
use Rattle.bus_semantics.specs.declared.entries.Entry.{Entry}
use Rattle.trace_reading.specs.Refusals.{IsRefused}
use Rattle.trace_check.specs.declared.rules.Rules.{Rules}
use Rattle.trace_check.specs.declared.bus_state.BusState.{BusState}
use Rattle.trace_check.specs.declared.check.Check.{Check}
use Rattle.trace_check.specs.Along.{IsAlong, Makes, StateStands, plan_in}
use Rattle.trace_check.specs.Checking.{Stands, most_made}
use Rattle.trace_check.specs.Order.{Leaves}
use Rattle.trace_check.proofs.Making.{legal_history, legal_then}
use Rattle.trace_check.proofs.Taking.{call_taken}

pub begins : (script : List Line) (s : Session) (left : List Ordered) → Leaves script s left → IsBeginningOf script s
begins script s left leaves = record { left = left; orders = leaves.orders; placed = leaves.placed }

closing_leaves : (script : List Line) (s : Session) (left : List Ordered) (word : Closing) → Leaves script s left → is_inside s ≡ true → Leaves script (run_closes word ∷ s) left
closing_leaves script s left word leaves inside = record { orders = leaves.orders; placed = and_from (is_placed s) (is_inside s) leaves.placed inside }

module _ (r : Rules) (s : Session) (old : Check) (stands : Stands r s old) where
  pub along : IsAlong r.tasks.now (plan_in r) old.state
  along = record { history = history_of s; legal = legal_history (plan_in r) r.mapping.now s stands.legal; stands = stands.state }

  -- ---- an entry

  pub entry_refused : (e : Entry) (left : List Ordered) (new : BusState) (clause : ℕ) → Leaves r.script.now.lines (made e ∷ s) left → Makes r.tasks.now (plan_in r) (history_of s) e new (Some clause)
      → IsRefused (plan_in r) r.mapping.now r.script.now.lines s (made e) clause
  entry_refused e left new clause leaves makes = inr (record { in_order = begins r.script.now.lines (made e ∷ s) left leaves; broken = sym makes.clause })

  pub entry_made : (e : Entry) (new : Check) → fits (plan_in r) e ≡ true → Leaves r.script.now.lines (made e ∷ s) new.orders → Makes r.tasks.now (plan_in r) (history_of s) e new.state None
      → new.inside ≡ old.inside → new.made ≡ min (if is_environment e.actor then made_in_line s else suc (made_in_line s)) most_made → Stands r (made e ∷ s) new
  entry_made e new fit leaves makes inside count = record {
    legal = (stands.legal, (legal_then (plan_in r) (history_of s) e (legal_history (plan_in r) r.mapping.now s stands.legal) fit (sym makes.clause)).1);
    state = makes.stands refl;
    leaves = leaves;
    inside = inside ∙ stands.inside;
    made = count;
  }

  -- an entry of a machine or an activation, inside a run line
  pub entry_went : (a : Actor) (e : Entry) (new : Check) → is_environment a ≡ false → e.actor ≡ a → IsLegal (plan_in r) (e ∷ history_of s) → StateStands r.tasks.now (plan_in r) (e ∷ history_of s) new.state
      → old.inside ≡ true → new.inside ≡ old.inside → new.orders ≡ old.orders → ((n : ℕ) → old.made ≡ min n most_made → new.made ≡ min (if is_environment a then n else suc n) most_made) → Stands r (made e ∷ s) new
  entry_went a e new plain who legal state within inside orders count =
      let other : is_environment e.actor ≡ false = ap is_environment who ∙ plain in
      let left : (orders_of s ++ []) ++ old.orders ≡ orders_of_script r.script.now.lines = ap (λ t. t ++ old.orders) (append-nil (orders_of s)) ∙ stands.leaves.orders in
      record {
        legal = (stands.legal, legal.1);
        state = state;
        leaves = record {
          orders = subst (λ b. (orders_of s ++ (if b then a_call (wanted_by 0 e.deed) ∷ [] else [])) ++ new.orders ≡ orders_of_script r.script.now.lines) (sym other)
              (subst (λ t. (orders_of s ++ []) ++ t ≡ orders_of_script r.script.now.lines) (sym orders) left);
          placed = and_from (is_placed s) _ stands.leaves.placed (subst (λ b. (if b then not (is_inside s) else is_inside s) ≡ true) (sym other) (sym stands.inside ∙ within));
        };
        inside = inside ∙ stands.inside;
        made = count (made_in_line s) stands.made ∙ ap (λ x. min (if is_environment x then made_in_line s else suc (made_in_line s)) most_made) (sym who);
      }

  -- an entry of the environment, outside
  pub entry_called : (e : Entry) (new : Check) → is_environment e.actor ≡ true → IsLegal (plan_in r) (e ∷ history_of s) → StateStands r.tasks.now (plan_in r) (e ∷ history_of s) new.state
      → old.inside ≡ false → new.inside ≡ old.inside → old.orders ≡ a_call (wanted_by 0 e.deed) ∷ new.orders → new.made ≡ old.made → Stands r (made e ∷ s) new
  entry_called e new env legal state outside inside took count = record {
    legal = (stands.legal, legal.1);
    state = state;
    leaves = call_taken r.script.now.lines s old.orders stands.leaves e env new.orders (sym stands.inside ∙ outside) took;
    inside = inside ∙ stands.inside;
    made = count ∙ stands.made ∙ sym (ap (λ b. min (if b then made_in_line s else suc (made_in_line s)) most_made) env);
  }

  -- ---- a run mark

  pub mark_made : (new : Check) → Leaves r.script.now.lines (run_begins ∷ s) new.orders → new.state ≡ old.state → new.inside ≡ true → new.made ≡ 0 → Stands r (run_begins ∷ s) new
  mark_made new leaves same inside count = record {
    legal = stands.legal;
    state = subst (StateStands r.tasks.now (plan_in r) (history_of s)) (sym same) stands.state;
    leaves = leaves;
    inside = inside;
    made = count;
  }

  -- ---- a closing word

  pub closes_outside : (word : Closing) → old.inside ≡ false → IsRefused (plan_in r) r.mapping.now r.script.now.lines s (run_closes word) 15
  closes_outside word outside = record { closes_not = λ closes. false≢true (sym outside ∙ stands.inside ∙ closes.inside); clause_is = refl }

  pub settled : (old.inside && (old.made == most_made)) ≡ false → IsRefused (plan_in r) r.mapping.now r.script.now.lines s (run_closes unsettled) 15
  settled not = record {
    closes_not = λ closes.
        let enough : 100000 ≤ made_in_line s = leb-true 100000 (made_in_line s) closes.holds in
        let all : old.made ≡ most_made = stands.made ∙ omega (arith, enough) in
        false≢true (sym not ∙ and_from old.inside (old.made == most_made) (stands.inside ∙ closes.inside) (eq-eqb old.made most_made all));
    clause_is = refl;
  }

  pub unsettled_then : (old.made == most_made) ≡ true → Holds (plan_in r) r.mapping.now s unsettled
  unsettled_then all =
      let made : old.made ≡ 100000 = eqb-true old.made most_made all in
      let few : min (made_in_line s) 100000 ≡ 100000 = sym stands.made ∙ made in
      le-leb 100000 (made_in_line s) (omega (arith, few))

  pub holds_not : (word : Closing) → (Holds (plan_in r) r.mapping.now s word → ⊥) → IsRefused (plan_in r) r.mapping.now r.script.now.lines s (run_closes word) 15
  holds_not word not = record { closes_not = λ closes. not closes.holds; clause_is = refl }

  pub closed : (word : Closing) (new : Check) → Holds (plan_in r) r.mapping.now s word → StateStands r.tasks.now (plan_in r) (history_of s) new.state → old.inside ≡ true
      → new.orders ≡ old.orders → new.inside ≡ false → new.made ≡ 0 → Stands r (run_closes word ∷ s) new
  closed word new holds state was same inside count =
      let within : is_inside s ≡ true = sym stands.inside ∙ was in
      record {
        legal = (stands.legal, within, holds);
        state = state;
        leaves = subst (Leaves r.script.now.lines (run_closes word ∷ s)) (sym same) (closing_leaves r.script.now.lines s old.orders word stands.leaves within);
        inside = inside;
        made = count;
      }

  -- ---- the end

  pub whole : old.inside ≡ false → old.orders ≡ [] → IsSessionOf r.script.now.lines s
  whole outside none = record {
    orders = sym (append-nil (orders_of s)) ∙ ap (λ t. orders_of s ++ t) (sym none) ∙ stands.leaves.orders;
    placed = stands.leaves.placed;
    closed = sym stands.inside ∙ outside;
  }

  pub whole_over : IsSessionOf r.script.now.lines s → old.orders ≡ []
  whole_over session = append_cancel_left (orders_of s) old.orders [] (stands.leaves.orders ∙ sym session.orders ∙ sym (append-nil (orders_of s)))
