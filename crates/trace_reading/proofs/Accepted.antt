-- Items that are accepted go on a begun run, and none is both accepted and refused.
use Rattle.std.proofs.Common.{◌≡◌, ℕ, true, ◌&&◌, List, ◌∷◌, Some, inl, inr, sym, ◌∙◌}
use Rattle.bus_semantics.specs.Common.{and_parts, and_from, Plan, fits, item_fits, is_sized, is_sized_actor, Item, made, run_begins, run_closes, Session, history_of, is_inside, is_placed}
use Rattle.bus_semantics.specs.Common.{IsBegunRunOf}
use Rattle.bus_laws.specs.Common.{Line, Mapping, Entry}
use Rattle.trace_reading.specs.Refusals.{IsAccepted, IsRefused}
use Rattle.trace_reading.proofs.Clauses.{unbroken, breaks_none}

fitting : (p : Plan) (e : Entry) → item_fits p (made e) ≡ true → fits p e ≡ true
fitting p e fit = (and_parts (fits p e) (is_sized_actor e.actor && is_sized e.deed) fit).0

-- ---- accepted items go on

pub goes_on : (p : Plan) (m : Mapping) (script : List Line) (s : Session) (i : Item) → IsBegunRunOf p m script s → item_fits p i ≡ true → IsAccepted p m script s i → IsBegunRunOf p m script (i ∷ s)
goes_on p m script s (made e) begun fit accepted =
    let free = unbroken p (history_of s) e accepted.unbroken in
    record {
      session = accepted.in_order;
      legal = (begun.legal, record { fit = fitting p e fit; actor = free.program; answers = free.answers });
    }
goes_on p m script s run_begins begun fit accepted = record { session = accepted; legal = begun.legal }
goes_on p m script s (run_closes word) begun fit accepted = record {
  session = record { left = begun.session.left; orders = begun.session.orders; placed = and_from (is_placed s) (is_inside s) begun.session.placed accepted.inside };
  legal = (begun.legal, accepted.inside, accepted.holds);
}

pub was_accepted : (p : Plan) (m : Mapping) (script : List Line) (s : Session) (i : Item) → IsBegunRunOf p m script (i ∷ s) → IsAccepted p m script s i
was_accepted p m script s (made e) begun = record {
  in_order = begun.session;
  unbroken = breaks_none p (history_of s) e begun.legal.1.actor begun.legal.1.answers;
}
was_accepted p m script s run_begins begun = begun.session
was_accepted p m script s (run_closes word) begun = record { inside = begun.legal.1; holds = begun.legal.2 }

-- ---- refused items

pub not_both : (p : Plan) (m : Mapping) (script : List Line) (s : Session) (i : Item) (clause : ℕ) → IsRefused p m script s i clause → IsAccepted p m script s i → ⊥
not_both p m script s (made e) clause refused accepted = elim refused [ inl out ↦ out.no_beginning accepted.in_order | inr broken ↦ (let is = sym broken.broken ∙ accepted.unbroken in cc) ]
not_both p m script s run_begins clause refused accepted = refused.no_beginning accepted
not_both p m script s (run_closes word) clause refused accepted = refused.closes_not accepted

same_clause : (one other : ℕ) → Some one ≡ Some other → one ≡ other
same_clause one other e = cc

pub one_clause : (p : Plan) (m : Mapping) (script : List Line) (s : Session) (i : Item) (one other : ℕ) → IsRefused p m script s i one → IsRefused p m script s i other → one ≡ other
one_clause p m script s (made e) one other a b =
    elim a [
      | inl x ↦ elim b [ inl y ↦ x.clause_is ∙ sym y.clause_is | inr y ↦ absurd (x.no_beginning y.in_order) ]
      | inr x ↦ elim b [ inl y ↦ absurd (y.no_beginning x.in_order) | inr y ↦ same_clause one other (sym x.broken ∙ y.broken) ]
    ]
one_clause p m script s run_begins one other a b = a.clause_is ∙ sym b.clause_is
one_clause p m script s (run_closes word) one other a b = a.clause_is ∙ sym b.clause_is
