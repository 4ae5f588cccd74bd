-- No trace is without a verdict.
use Rattle.std.proofs.Common.{◌≡◌, ℕ, zero, suc, ◌≤◌, List, [], ◌∷◌, ◌++◌, length, codes, true, Option, Some, None, inl, inr, refl, sym, ap, subst, ◌∙◌, append_assoc, length-append, arith}
use Rattle.bus_semantics.specs.Common.{and_from, append-nil, list_all, broken_clause, Plan, item_fits, Closing, IsBeginningOf, Item, Session, history_of, idle, made, orders_of_script}
use Rattle.bus_semantics.specs.Common.{run_begins, run_closes, unsettled, Letters, actor_text, closing_text, deed_text, header, item_text, spaced, spelling_of}
use Rattle.bus_semantics.specs.declared.script.Line.{Line}
use Rattle.bus_semantics.specs.declared.script.Mapping.{Mapping}
use Rattle.bus_semantics.specs.declared.version.Version.{Version}
use Rattle.trace_reading.specs.declared.checked.Checked.{Checked}
use Rattle.trace_reading.specs.declared.checked.Checked.TheVariants.{BadLine, Illegal, Legal}
use Rattle.trace_reading.specs.Refusals.{IsAccepted, IsRefused}
use Rattle.trace_reading.specs.Verdicts.{GoesOn, IsVerdict, line_after}
use Rattle.trace_reading.specs.Laws.{AcceptedItemsGoOn}

-- the line of an item has a character
closing_some : (word : Closing) → 1 ≤ length (closing_text word)
closing_some idle = omega arith
closing_some unsettled = omega arith

item_some : (v : Version) (p : Plan) (i : Item) → 1 ≤ length (item_text v p i)
item_some v p (made e) = omega (arith, length-append (actor_text p e.actor ++ spaced (deed_text v p e.actor e.deed)) (codes "\n"))
item_some v p run_begins = omega arith
item_some v p (run_closes word) = closing_some word

module _ (p : Plan) (m : Mapping) (go_on : AcceptedItemsGoOn p m) (script : List Line) (trace : Letters) (none : (c : Checked) → ¬ IsVerdict p m script trace c) where
  -- an item that goes on is not refused, so it is accepted, and the trace goes on
  module _ (v : Version) (s : Session) (i : Item) (more : Letters) (so_far : GoesOn v p m script trace s (item_text v p i ++ more)) (fit : item_fits p i ≡ true) where
    longer : IsAccepted p m script s i → GoesOn v p m script trace (i ∷ s) more
    longer accepted = record {
      fit = and_from (item_fits p i) (list_all (item_fits p) s) fit so_far.fit;
      text = so_far.text ∙ sym (append_assoc (spelling_of v p s) (item_text v p i) more);
      run = (go_on script s i so_far.run fit).0 accepted;
    }

    refused_not : (clause : ℕ) → ¬ IsRefused p m script s i clause
    refused_not clause refused = none (Illegal (line_after s) clause) (inr (record {
      version = v;
      session = s;
      item = i;
      more = more;
      so_far = so_far;
      fit = fit;
      line_is = refl;
      refused = refused;
    }))

  accepted_at_last : (v : Version) (s : Session) (i : Item) (more : Letters) → GoesOn v p m script trace s (item_text v p i ++ more) → item_fits p i ≡ true → ¬ IsAccepted p m script s i → ⊥
  accepted_at_last v s (made e) more so_far fit not = refused_not v s (made e) more so_far fit 16 (inl (record {
    no_beginning = λ begins. by begins (broken_clause p (history_of s) e) refl;
    clause_is = refl;
  }))
    where
      by : IsBeginningOf script (made e ∷ s) → (o : Option ℕ) → broken_clause p (history_of s) e ≡ o → ⊥
      by begins (Some clause) is = refused_not v s (made e) more so_far fit clause (inr (record { in_order = begins; broken = is }))
      by begins None is = not (record { in_order = begins; unbroken = is })
  accepted_at_last v s run_begins more so_far fit not = refused_not v s run_begins more so_far fit 16 (record { no_beginning = not; clause_is = refl })
  accepted_at_last v s (run_closes word) more so_far fit not = refused_not v s (run_closes word) more so_far fit 15 (record { closes_not = not; clause_is = refl })

  -- nothing is left: the run is whole, or ends early
  ends_not : (v : Version) (s : Session) → GoesOn v p m script trace s [] → ⊥
  ends_not v s so_far = none (Illegal (line_after s) 16) (inl (inr (record {
    version = v;
    session = s;
    so_far = so_far;
    open_end = λ whole. none Legal (record { version = v; session = s; fit = so_far.fit; text = so_far.text ∙ append-nil (spelling_of v p s); run = record { session = whole; legal = so_far.run.legal } });
    line_is = refl;
    clause_is = refl;
  })))

  -- so it never ends
  goes_not : (n : ℕ) (v : Version) (s : Session) (left : Letters) → length left ≤ n → GoesOn v p m script trace s left → ⊥
  goes_not n v s [] short so_far = ends_not v s so_far
  goes_not zero v s (c ∷ left) short so_far = absurd (omega (arith, short))
  goes_not (suc n) v s (c ∷ left) short so_far = none (BadLine (line_after s)) (inr (record {
    version = v;
    session = s;
    left = c ∷ left;
    so_far = so_far;
    some = λ e. cc;
    none = λ i more fit is.
        let here : GoesOn v p m script trace s (item_text v p i ++ more) = subst (GoesOn v p m script trace s) is so_far in
        let shorter : length more ≤ n = omega (arith, short, ap length is, length-append (item_text v p i) more, item_some v p i) in
        accepted_at_last v s i more here fit (λ accepted. goes_not n v (i ∷ s) more shorter (longer v s i more here fit accepted));
    line_is = refl;
  }))

  begins : (v : Version) (left : Letters) → trace ≡ header v ++ left → GoesOn v p m script trace [] left
  begins v left is = record { fit = refl; text = is; run = record { session = record { left = orders_of_script script; orders = refl; placed = refl }; legal = tt } }

  pub no_verdict_not : ⊥
  no_verdict_not = by trace refl
    where
      by : (t : Letters) → trace ≡ t → ⊥
      by [] is = none (Illegal 1 16) (inl (inl (record { none = is; line_is = refl; clause_is = refl })))
      by (c ∷ t) is = none (BadLine 1) (inl (record {
        some = λ empty. let e : c ∷ t ≡ [] = sym is ∙ empty in cc;
        none = λ v left at. goes_not (length left) v [] left (omega arith) (begins v left at);
        line_is = refl;
      }))
