-- A line is that of one item, and a text that of one session in one version.
use Rattle.std.proofs.Common.{◌≡◌, ◌+◌, true, false, not, ◌==◌, List, [], ◌∷◌, ◌++◌, length, bytes_eq, codes, Some, None, refl, sym, ap, ◌∙◌, append_assoc, length-append, arith}
use Rattle.bus_semantics.specs.Common.{list_all, and_parts, and_from, append-nil, Plan, IsReadingOf, item_fits, Item, Session, idle, made, run_begins, run_closes, unsettled, IsSound}
use Rattle.bus_semantics.specs.Common.{Letters, actor_text, item_text, spelling_of}
use Rattle.bus_laws.specs.Common.{Entry, Version, One, Two, Mapping}
use Rattle.line_fields.specs.Texts.{parts}
use Rattle.line_fields.proofs.Joining.{all-append, joined, lacks, more, parts-join, parts-one}
use Rattle.trace_reading.specs.Cuts.{behind}
use Rattle.trace_reading.specs.Reads.{TextsHaveOneSession, TextsHaveOneVersion}
use Rattle.trace_reading.proofs.ActorTexts.{behind-more}
use Rattle.trace_reading.proofs.Cutting.{are_visible, cut-join, line_of, visible_lacks}
use Rattle.trace_reading.proofs.Guessing.{reading_guessed}
use Rattle.trace_reading.proofs.Lines.{entry-line, fields_of, text_of, word_of}
use Rattle.trace_reading.proofs.Naming.{IsNamed, named, readable}
use Rattle.trace_reading.proofs.Visible.{actor_visible, deed_visible}

-- ---- one line, one item

-- an entry's line has a space; that of any other item has none
entry_spaced : (v : Version) (p : Plan) (r : IsNamed p) (e : Entry) (u : Letters) → behind 32 u ≡ None → item_text v p (made e) ≡ u → ⊥
entry_spaced v p r e u none same =
    let a = actor_text p e.actor in
    let rest = line_of (word_of e.deed) (fields_of v p e.actor e.deed) in
    let cut = (cut-join 32 a rest (visible_lacks 32 refl a (actor_visible p r e.actor))).1 in
    let some : behind 32 (item_text v p (made e)) ≡ Some (rest ++ codes "\n") = ap (behind 32) (entry-line v p e) ∙ behind-more 32 (text_of v p e) (codes "\n") rest cut in
    let other : behind 32 (item_text v p (made e)) ≡ None = ap (behind 32) same ∙ none in
    cc

-- two texts that are not the same
apart : (t u : Letters) → bytes_eq t u ≡ false → bytes_eq u u ≡ true → t ≡ u → ⊥
apart t u h k e = let same : bytes_eq t u ≡ true = ap (λ x. bytes_eq x u) e ∙ k in cc

pub one_item : (v : Version) (p : Plan) → IsNamed p → (line : Letters) (i j : Item) → IsReadingOf v p line i → IsReadingOf v p line j → i ≡ j
one_item v p r line (made e) (made d) a b = let same : Some e ≡ Some d = sym (reading_guessed v p r line e a) ∙ reading_guessed v p r line d b in let one : e ≡ d = cc in ap made one
one_item v p r line (made e) run_begins a b = absurd (entry_spaced v p r e (codes "run\n") refl (sym a.text ∙ b.text))
one_item v p r line (made e) (run_closes idle) a b = absurd (entry_spaced v p r e (codes "idle\n") refl (sym a.text ∙ b.text))
one_item v p r line (made e) (run_closes unsettled) a b = absurd (entry_spaced v p r e (codes "unsettled\n") refl (sym a.text ∙ b.text))
one_item v p r line run_begins (made d) a b = absurd (entry_spaced v p r d (codes "run\n") refl (sym b.text ∙ a.text))
one_item v p r line run_begins run_begins a b = refl
one_item v p r line run_begins (run_closes idle) a b = absurd (apart (codes "run\n") (codes "idle\n") refl refl (sym a.text ∙ b.text))
one_item v p r line run_begins (run_closes unsettled) a b = absurd (apart (codes "run\n") (codes "unsettled\n") refl refl (sym a.text ∙ b.text))
one_item v p r line (run_closes idle) (made d) a b = absurd (entry_spaced v p r d (codes "idle\n") refl (sym b.text ∙ a.text))
one_item v p r line (run_closes idle) run_begins a b = absurd (apart (codes "idle\n") (codes "run\n") refl refl (sym a.text ∙ b.text))
one_item v p r line (run_closes idle) (run_closes idle) a b = refl
one_item v p r line (run_closes idle) (run_closes unsettled) a b = absurd (apart (codes "idle\n") (codes "unsettled\n") refl refl (sym a.text ∙ b.text))
one_item v p r line (run_closes unsettled) (made d) a b = absurd (entry_spaced v p r d (codes "unsettled\n") refl (sym b.text ∙ a.text))
one_item v p r line (run_closes unsettled) run_begins a b = absurd (apart (codes "unsettled\n") (codes "run\n") refl refl (sym a.text ∙ b.text))
one_item v p r line (run_closes unsettled) (run_closes idle) a b = absurd (apart (codes "unsettled\n") (codes "idle\n") refl refl (sym a.text ∙ b.text))
one_item v p r line (run_closes unsettled) (run_closes unsettled) a b = refl

-- ---- the lines of a text

-- the line of an item without its newline
abbrev pub line_in : Version → Plan → Item → Letters
line_in v p (made e) = text_of v p e
line_in v p run_begins = codes "run"
line_in v p (run_closes idle) = codes "idle"
line_in v p (run_closes unsettled) = codes "unsettled"

pub item-line : (v : Version) (p : Plan) (i : Item) → item_text v p i ≡ line_in v p i ++ codes "\n"
item-line v p (made e) = entry-line v p e
item-line v p run_begins = refl
item-line v p (run_closes idle) = refl
item-line v p (run_closes unsettled) = refl

fields_lack : (t : Letters) (ts : List Letters) → are_visible t ≡ true → list_all are_visible ts ≡ true → lacks 10 (line_of t ts) ≡ true
fields_lack t [] h k = visible_lacks 10 refl t h
fields_lack t (u ∷ us) h k =
    let two = and_parts (are_visible u) (list_all are_visible us) k in
    all-append (λ c. not (c == 10)) t (32 ∷ line_of u us) (visible_lacks 10 refl t h) (and_from (not (32 == 10)) (lacks 10 (line_of u us)) refl (fields_lack u us two.0 two.1))

pub line_lacks : (v : Version) (p : Plan) → IsNamed p → (i : Item) → item_fits p i ≡ true → lacks 10 (line_in v p i) ≡ true
line_lacks v p r (made e) h = fields_lack (actor_text p e.actor) (word_of e.deed ∷ fields_of v p e.actor e.deed) (actor_visible p r e.actor) (deed_visible p r v e.actor e.deed)
line_lacks v p r run_begins h = refl
line_lacks v p r (run_closes idle) h = refl
line_lacks v p r (run_closes unsettled) h = refl

-- the lines of a session, the oldest first
abbrev lines_in : Version → Plan → Session → List Letters
lines_in v p [] = []
lines_in v p (i ∷ s) = lines_in v p s ++ line_in v p i ∷ []

abbrev first_line : Version → Letters
first_line One = codes "rte-trace 1"
first_line Two = codes "rte-trace 2"

more-last : (ts : List Letters) (t : Letters) → more 10 (ts ++ t ∷ [] ++ [] ∷ []) ≡ more 10 (ts ++ [] ∷ []) ++ (t ++ codes "\n")
more-last [] t = refl
more-last (u ∷ us) t = ap (λ x. 10 ∷ (u ++ x)) (more-last us t) ∙ ap (λ x. 10 ∷ x) (sym (append_assoc u (more 10 (us ++ [] ∷ [])) (t ++ codes "\n")))

-- a spelling is its lines with a newline between them, and nothing behind the last
spelt : (v : Version) (p : Plan) (s : Session) → spelling_of v p s ≡ joined 10 (first_line v ∷ (lines_in v p s ++ [] ∷ []))
spelt One p [] = refl
spelt Two p [] = refl
spelt v p (i ∷ s) =
    ap (λ t. t ++ item_text v p i) (spelt v p s)
    ∙ ap (λ t. joined 10 (first_line v ∷ (lines_in v p s ++ [] ∷ [])) ++ t) (item-line v p i)
    ∙ append_assoc (first_line v) (more 10 (lines_in v p s ++ [] ∷ [])) (line_in v p i ++ codes "\n")
    ∙ ap (λ t. first_line v ++ t) (sym (more-last (lines_in v p s) (line_in v p i)))

parts-joined : (t : Letters) (ts : List Letters) → lacks 10 t ≡ true → list_all (lacks 10) ts ≡ true → parts 10 (joined 10 (t ∷ ts)) ≡ t ∷ ts
parts-joined t [] h k = ap (parts 10) (append-nil t) ∙ parts-one 10 t h
parts-joined t (u ∷ us) h k =
    let two = and_parts (lacks 10 u) (list_all (lacks 10) us) k in
    parts-join 10 t (joined 10 (u ∷ us)) h ∙ ap (λ ws. t ∷ ws) (parts-joined u us two.0 two.1)

all_with : (ts : List Letters) (t : Letters) → list_all (lacks 10) ts ≡ true → lacks 10 t ≡ true → list_all (lacks 10) (ts ++ t ∷ []) ≡ true
all_with [] t h k = and_from (lacks 10 t) true k refl
all_with (u ∷ us) t h k = let two = and_parts (lacks 10 u) (list_all (lacks 10) us) h in and_from (lacks 10 u) (list_all (lacks 10) (us ++ t ∷ [])) two.0 (all_with us t two.1 k)

lines_lack : (v : Version) (p : Plan) → IsNamed p → (s : Session) → list_all (item_fits p) s ≡ true → list_all (lacks 10) (lines_in v p s) ≡ true
lines_lack v p r [] h = refl
lines_lack v p r (i ∷ s) h =
    let two = and_parts (item_fits p i) (list_all (item_fits p) s) h in
    all_with (lines_in v p s) (line_in v p i) (lines_lack v p r s two.1) (line_lacks v p r i two.0)

first_lacks : (v : Version) → lacks 10 (first_line v) ≡ true
first_lacks One = refl
first_lacks Two = refl

lines_back : (v : Version) (p : Plan) → IsNamed p → (s : Session) → list_all (item_fits p) s ≡ true → parts 10 (spelling_of v p s) ≡ first_line v ∷ (lines_in v p s ++ [] ∷ [])
lines_back v p r s h = ap (parts 10) (spelt v p s) ∙ parts-joined (first_line v) (lines_in v p s ++ [] ∷ []) (first_lacks v) (all_with (lines_in v p s) [] (lines_lack v p r s h) refl)

-- ---- one text, one version and one session

same_version : (v w : Version) → first_line v ≡ first_line w → v ≡ w
same_version One One e = refl
same_version One Two e = absurd (apart (codes "rte-trace 1") (codes "rte-trace 2") refl refl e)
same_version Two One e = absurd (apart (codes "rte-trace 2") (codes "rte-trace 1") refl refl e)
same_version Two Two e = refl

no_line : (xs : List Letters) (a : Letters) → [] ≡ xs ++ a ∷ [] → ⊥
no_line xs a e = let none : 0 ≡ length (xs ++ a ∷ []) = ap length e in let long : length (xs ++ a ∷ []) ≡ length xs + 1 = length-append xs (a ∷ []) in absurd (omega arith)

last_same : (xs ys : List Letters) (a b : Letters) → xs ++ a ∷ [] ≡ ys ++ b ∷ [] → (xs ≡ ys) × (a ≡ b)
last_same [] [] a b e = (refl, cc)
last_same [] (y ∷ ys) a b e = let rest : [] ≡ ys ++ b ∷ [] = cc in absurd (no_line ys b rest)
last_same (x ∷ xs) [] a b e = let rest : [] ≡ xs ++ a ∷ [] = cc in absurd (no_line xs a rest)
last_same (x ∷ xs) (y ∷ ys) a b e =
    let rest : xs ++ a ∷ [] ≡ ys ++ b ∷ [] = cc in
    let first : x ≡ y = cc in
    let two = last_same xs ys a b rest in
    (ap (λ z. z ∷ xs) first ∙ ap (λ zs. y ∷ zs) two.0, two.1)

same_items : (v : Version) (p : Plan) → IsNamed p → (s u : Session) → list_all (item_fits p) s ≡ true → list_all (item_fits p) u ≡ true → lines_in v p s ≡ lines_in v p u → s ≡ u
same_items v p r [] [] h k e = refl
same_items v p r [] (j ∷ u) h k e = absurd (no_line (lines_in v p u) (line_in v p j) e)
same_items v p r (i ∷ s) [] h k e = absurd (no_line (lines_in v p s) (line_in v p i) (sym e))
same_items v p r (i ∷ s) (j ∷ u) h k e =
    let a = and_parts (item_fits p i) (list_all (item_fits p) s) h in
    let b = and_parts (item_fits p j) (list_all (item_fits p) u) k in
    let two = last_same (lines_in v p s) (lines_in v p u) (line_in v p i) (line_in v p j) e in
    let text : item_text v p i ≡ item_text v p j = item-line v p i ∙ ap (λ t. t ++ codes "\n") two.1 ∙ sym (item-line v p j) in
    let one : i ≡ j = one_item v p r (item_text v p i) i j (record { fit = a.0; text = refl }) (record { fit = b.0; text = text }) in
    ap (λ x. x ∷ s) one ∙ ap (λ xs. j ∷ xs) (same_items v p r s u a.1 b.1 two.0)

pub one_version : (p : Plan) (m : Mapping) → IsSound p m → TextsHaveOneVersion p
one_version p m sound v w t s u h k a b =
    let r = named p (readable p m sound) in
    let same : first_line v ∷ (lines_in v p s ++ [] ∷ []) ≡ first_line w ∷ (lines_in w p u ++ [] ∷ []) = sym (lines_back v p r s h) ∙ ap (parts 10) (sym a ∙ b) ∙ lines_back w p r u k in
    let first : first_line v ≡ first_line w = cc in
    same_version v w first

pub one_session : (p : Plan) (m : Mapping) → IsSound p m → TextsHaveOneSession p
one_session p m sound v t s u h k a b =
    let r = named p (readable p m sound) in
    let same : first_line v ∷ (lines_in v p s ++ [] ∷ []) ≡ first_line v ∷ (lines_in v p u ++ [] ∷ []) = sym (lines_back v p r s h) ∙ ap (parts 10) (sym a ∙ b) ∙ lines_back v p r u k in
    let lines : lines_in v p s ++ [] ∷ [] ≡ lines_in v p u ++ [] ∷ [] = cc in
    same_items v p r s u h k (last_same (lines_in v p s) (lines_in v p u) [] [] lines).0
