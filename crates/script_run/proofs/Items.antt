-- A session and entries of runnables and machines that follow it inside a run line.
use Rattle.std.proofs.Common.{◌≡◌, suc, ◌+◌, Bool, true, false, not, ◌&&◌, List, [], ◌∷◌, ◌++◌, length, refl, sym, ap, ◌∙◌, append_assoc, append-nil, arith}
use Rattle.bus_semantics.specs.Common.{list_all, and_parts, and_from, Plan, History, is_environment, IsLegal, fits, item_fits, Session, made, run_begins, run_closes, history_of, is_inside}
use Rattle.bus_semantics.specs.Common.{is_placed, made_in_line, orders_of, entry_text, item_text}
use Rattle.bus_semantics.specs.declared.entries.Entry.{Entry}
use Rattle.bus_semantics.specs.declared.entries.Stamped.{Stamped}
use Rattle.bus_semantics.specs.declared.script.Mapping.{Mapping}
use Rattle.core_runtime.specs.After.{after, are_within}
use Rattle.script_run.specs.Legal.{IsLegalFrom}
use Rattle.script_run.specs.Sizes.{is_sized_entry, is_sized_stamped, is_sized_item}
use Rattle.script_run.specs.declared.writing.Writing.{Writing}
use Rattle.script_run.specs.Texts.{behind, entries_text, lines_of}

-- the session and then these entries, of which the oldest comes first
abbrev pub items_after : List Stamped → Session → Session
items_after [] s = s
items_after (e ∷ more) s = items_after more (made e.entry ∷ s)

pub history-items : (es : List Stamped) (s : Session) (h : History) → history_of (items_after es s) ++ h ≡ after es (history_of s ++ h)
history-items [] s h = refl
history-items (e ∷ es) s h = history-items es (made e.entry ∷ s) h

-- before a session as after it
pub items-onto : (es : List Stamped) (a s : Session) → items_after es (a ++ s) ≡ items_after es a ++ s
items-onto [] a s = refl
items-onto (e ∷ es) a s = items-onto es (made e.entry ∷ a) s

pub lines-items : (w : Writing) (p : Plan) (es : List Stamped) (s : Session) → lines_of w p (items_after es s) ≡ lines_of w p s ++ entries_text w p es
lines-items w p [] s = sym (append-nil (lines_of w p s))
lines-items w p (e ∷ es) s = lines-items w p es (made e.entry ∷ s) ∙ append_assoc (lines_of w p s) (behind w (entry_text w.version p e.entry)) (entries_text w p es)

-- the newer items stand first, and their lines last
pub lines-append : (w : Writing) (p : Plan) (newer older : Session) → lines_of w p (newer ++ older) ≡ lines_of w p older ++ lines_of w p newer
lines-append w p [] older = sym (append-nil (lines_of w p older))
lines-append w p (i ∷ newer) older =
    ap (λ t. t ++ behind w (item_text w.version p i)) (lines-append w p newer older)
    ∙ append_assoc (lines_of w p older) (lines_of w p newer) (behind w (item_text w.version p i))

legal_before : (p : Plan) (es : List Stamped) (g : History) → IsLegal p (after es g) → IsLegal p g
legal_before p [] g legal = legal
legal_before p (e ∷ es) g legal = (legal_before p es (e.entry ∷ g) legal).0

pub legal-items : (p : Plan) (m : Mapping) (h : History) (es : List Stamped) (s : Session) → IsLegalFrom p m h s → IsLegal p (after es (history_of s ++ h)) → IsLegalFrom p m h (items_after es s)
legal-items p m h [] s legal all = legal
legal-items p m h (e ∷ es) s legal all =
    legal-items p m h es (made e.entry ∷ s) (legal, (legal_before p es (e.entry ∷ (history_of s ++ h)) all).1) all

pub inside-items : (es : List Stamped) (s : Session) → is_inside (items_after es s) ≡ is_inside s
inside-items [] s = refl
inside-items (e ∷ es) s = inside-items es (made e.entry ∷ s)

within_both : (a b : Bool) → (not a && b) ≡ true → (a ≡ false) × (b ≡ true)
within_both false b h = (refl, h)
within_both true b h = absurd (cc)

placed_inside : (e : Entry) (s : Session) → is_environment e.actor ≡ false → is_placed s ≡ true → is_inside s ≡ true → is_placed (made e ∷ s) ≡ true
placed_inside e s env placed inside = rw (env, placed, inside) refl

pub placed-items : (es : List Stamped) (s : Session) → are_within es ≡ true → is_placed s ≡ true → is_inside s ≡ true → is_placed (items_after es s) ≡ true
placed-items [] s within placed inside = placed
placed-items (e ∷ es) s within placed inside =
    let both = within_both (is_environment e.entry.actor) (are_within es) within in
    placed-items es (made e.entry ∷ s) both.1 (placed_inside e.entry s both.0 placed inside) inside

pub orders-items : (es : List Stamped) (s : Session) → are_within es ≡ true → orders_of (items_after es s) ≡ orders_of s
orders-items [] s within = refl
orders-items (e ∷ es) s within =
    let both = within_both (is_environment e.entry.actor) (are_within es) within in
    let none : orders_of (made e.entry ∷ s) ≡ orders_of s = rw both.0 (append-nil (orders_of s)) in
    orders-items es (made e.entry ∷ s) both.1 ∙ none

pub made-items : (es : List Stamped) (s : Session) → are_within es ≡ true → made_in_line (items_after es s) ≡ made_in_line s + length es
made-items [] s within = omega arith
made-items (e ∷ es) s within =
    let both = within_both (is_environment e.entry.actor) (are_within es) within in
    let one : made_in_line (made e.entry ∷ s) ≡ suc (made_in_line s) = rw both.0 refl in
    let more = made-items es (made e.entry ∷ s) both.1 in
    omega (arith, one, more)

-- ---- sizes

pub sized-items : (es : List Stamped) (s : Session) → list_all is_sized_stamped es ≡ true → list_all is_sized_item s ≡ true → list_all is_sized_item (items_after es s) ≡ true
sized-items [] s sized before = before
sized-items (e ∷ es) s sized before =
    let both = and_parts (is_sized_entry e.entry) (list_all is_sized_stamped es) sized in
    sized-items es (made e.entry ∷ s) both.1 (and_from (is_sized_entry e.entry) (list_all is_sized_item s) both.0 before)

-- what goes on legally fits
pub items_fit : (p : Plan) (m : Mapping) (h : History) (s : Session) → IsLegalFrom p m h s → list_all is_sized_item s ≡ true → list_all (item_fits p) s ≡ true
items_fit p m h [] legal sized = refl
items_fit p m h (made e ∷ s) legal sized =
    let both = and_parts (is_sized_entry e) (list_all is_sized_item s) sized in
    and_from (item_fits p (made e)) (list_all (item_fits p) s) (and_from (fits p e) (is_sized_entry e) legal.1.fit both.0) (items_fit p m h s legal.0 both.1)
items_fit p m h (run_begins ∷ s) legal sized = items_fit p m h s legal sized
items_fit p m h (run_closes word ∷ s) legal sized = items_fit p m h s legal.0 sized
