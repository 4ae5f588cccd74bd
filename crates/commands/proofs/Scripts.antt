-- A verdict depends on what a script asks for alone: over two readings of the same bytes it is the same.
use Rattle.std.proofs.Common.{◌≡◌, ℕ, List, [], ◌∷◌, ◌++◌, map, replicate, refl, sym, ap, ◌∙◌, inl, inr}
use Rattle.bus_semantics.specs.declared.script.Line.{Line}
use Rattle.bus_semantics.specs.declared.script.Line.TheVariants as line
use Rattle.bus_semantics.specs.declared.script.Mapping.{Mapping}
use Rattle.bus_semantics.specs.declared.version.Version.{Version}
use Rattle.bus_semantics.specs.Common.{Plan, to_tick, Item, made, run_begins, run_closes, Session, Ordered, IsSessionOf, IsBeginningOf, orders_of_line, orders_of_script, Letters}
use Rattle.bus_semantics.specs.Run as run
use Rattle.trace_reading.specs.declared.checked.Checked.{Checked}
use Rattle.trace_reading.specs.declared.checked.Checked.TheVariants.{Legal, BadLine, Illegal}
use Rattle.trace_reading.specs.Refusals.{IsRefused}
use Rattle.trace_reading.specs.Verdicts.{IsVerdict, GoesOn}
use Rattle.script_reading.specs.Common.{Asked, asked_of, IsScript}
use Rattle.script_reading.specs.Meaning as asked

-- ---- what is asked for

orders_asked : Asked → List Ordered
orders_asked (asked.ticks n) = replicate n (run.a_call to_tick)
orders_asked asked.a_run = run.a_run ∷ []
orders_asked (asked.a_call w) = run.a_call w ∷ []

orders_all : List Asked → List Ordered
orders_all [] = []
orders_all (a ∷ rest) = orders_asked a ++ orders_all rest

of_line : (l : Line) → orders_of_line l ≡ orders_asked (asked_of l)
unfolding orders_asked
of_line (line.Tick n) = refl
of_line line.Run = refl
of_line (line.Call w) = refl

of_script : (ls : List Line) → orders_of_script ls ≡ orders_all (map asked_of ls)
unfolding orders_all
of_script [] = refl
of_script (l ∷ ls) = rw (of_line l, of_script ls) refl

pub same_orders : (p : Plan) (bytes : Letters) (a b : List Line) → IsScript p bytes a → IsScript p bytes b → orders_of_script a ≡ orders_of_script b
same_orders p bytes a b x y = of_script a ∙ ap orders_all (x.lines_are ∙ sym y.lines_are) ∙ sym (of_script b)

-- ---- the same of what rests on it

beginning : (a b : List Line) → orders_of_script a ≡ orders_of_script b → (s : Session) → IsBeginningOf a s → IsBeginningOf b s
beginning a b e s x = record { left = x.left; orders = x.orders ∙ e; placed = x.placed }

whole : (a b : List Line) → orders_of_script a ≡ orders_of_script b → (s : Session) → IsSessionOf a s → IsSessionOf b s
whole a b e s x = record { orders = x.orders ∙ e; placed = x.placed; closed = x.closed }

goes : (v : Version) (p : Plan) (m : Mapping) (a b : List Line) → orders_of_script a ≡ orders_of_script b → (trace : Letters) (s : Session) (left : Letters) → GoesOn v p m a trace s left → GoesOn v p m b trace s left
goes v p m a b e trace s left x = record { fit = x.fit; text = x.text; run = record { session = beginning a b e s x.run.session; legal = x.run.legal } }

refused : (p : Plan) (m : Mapping) (a b : List Line) → orders_of_script a ≡ orders_of_script b → (s : Session) (i : Item) (clause : ℕ) → IsRefused p m a s i clause → IsRefused p m b s i clause
refused p m a b e s (made x) clause (inl out) = inl (record { no_beginning = λ y. out.no_beginning (beginning b a (sym e) (made x ∷ s) y); clause_is = out.clause_is })
refused p m a b e s (made x) clause (inr broken) = inr (record { in_order = beginning a b e (made x ∷ s) broken.in_order; broken = broken.broken })
refused p m a b e s run_begins clause out = record { no_beginning = λ y. out.no_beginning (beginning b a (sym e) (run_begins ∷ s) y); clause_is = out.clause_is }
refused p m a b e s (run_closes word) clause out = out

pub same_verdict : (p : Plan) (m : Mapping) (a b : List Line) → orders_of_script a ≡ orders_of_script b → (trace : Letters) (verdict : Checked) → IsVerdict p m a trace verdict → IsVerdict p m b trace verdict
same_verdict p m a b e trace Legal x = record { version = x.version; session = x.session; fit = x.fit; text = x.text; run = record { session = whole a b e x.session x.run.session; legal = x.run.legal } }
same_verdict p m a b e trace (BadLine n) (inl x) = inl x
same_verdict p m a b e trace (BadLine n) (inr x) = inr (record {
  version = x.version;
  session = x.session;
  left = x.left;
  so_far = goes x.version p m a b e trace x.session x.left x.so_far;
  some = x.some;
  none = x.none;
  line_is = x.line_is;
})
same_verdict p m a b e trace (Illegal n c) (inl (inl x)) = inl (inl x)
same_verdict p m a b e trace (Illegal n c) (inl (inr x)) = inl (inr (record {
  version = x.version;
  session = x.session;
  so_far = goes x.version p m a b e trace x.session [] x.so_far;
  open_end = λ y. x.open_end (whole b a (sym e) x.session y);
  line_is = x.line_is;
  clause_is = x.clause_is;
}))
same_verdict p m a b e trace (Illegal n c) (inr x) = inr (record {
  version = x.version;
  session = x.session;
  item = x.item;
  more = x.more;
  so_far = goes x.version p m a b e trace x.session _ x.so_far;
  fit = x.fit;
  line_is = x.line_is;
  refused = refused p m a b e x.session x.item c x.refused;
})
