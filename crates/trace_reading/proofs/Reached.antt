-- A trace has one verdict.
use Rattle.std.proofs.Common.{◌≡◌, ◌≢◌, ◌⊎◌, inl, inr, ℕ, true, List, [], ◌∷◌, ◌++◌, refl, sym, ap, ◌∙◌, subst, append_assoc}
use Rattle.bus_semantics.specs.Common.{and_parts, append-nil, Plan, item_fits, Item, made, run_begins, run_closes, Session, IsSessionOf, IsBegunRunOf, orders_of, orders_of_entry, a_run}
use Rattle.bus_semantics.specs.Common.{Letters, header, item_text, spelling_of}
use Rattle.bus_laws.specs.Common.{Line, Mapping, Version, One, Two}
use Rattle.trace_reading.specs.Reads.{ItemsHaveOneLine, LinesHaveOneReading}
use Rattle.trace_reading.specs.declared.checked.Checked.{Checked}
use Rattle.trace_reading.specs.declared.checked.Checked.TheVariants.{Legal, BadLine, Illegal}
use Rattle.trace_reading.specs.Refusals.{IsRefused}
use Rattle.trace_reading.specs.Verdicts.{GoesOn, IsVerdict, line_after}
use Rattle.trace_reading.proofs.Accepted.{was_accepted, not_both, one_clause}
use Rattle.trace_reading.proofs.TextCuts.{texts, onto, oldest, onto-append, onto-oldest, spelt, all_oldest, level, first_longer, second_longer, same_line, some_text, compare, one_and_two}

-- ---- a beginning of a begun run is one

begun_before : (p : Plan) (m : Mapping) (script : List Line) (i : Item) (s : Session) → IsBegunRunOf p m script (i ∷ s) → IsBegunRunOf p m script s
begun_before p m script (made e) s b = record {
  session = record { left = orders_of_entry e ++ b.session.left; orders = sym (append_assoc (orders_of s) (orders_of_entry e) b.session.left) ∙ b.session.orders; placed = (and_parts _ _ b.session.placed).0 };
  legal = b.legal.0;
}
begun_before p m script run_begins s b = record {
  session = record { left = a_run ∷ b.session.left; orders = sym (append_assoc (orders_of s) (a_run ∷ []) b.session.left) ∙ b.session.orders; placed = (and_parts _ _ b.session.placed).0 };
  legal = b.legal;
}
begun_before p m script (run_closes word) s b = record {
  session = record { left = b.session.left; orders = b.session.orders; placed = (and_parts _ _ b.session.placed).0 };
  legal = b.legal.0;
}

begun_under : (p : Plan) (m : Mapping) (script : List Line) (is : List Item) (s : Session) → IsBegunRunOf p m script (onto is s) → IsBegunRunOf p m script s
begun_under p m script [] s b = b
begun_under p m script (i ∷ is) s b = begun_before p m script i s (begun_under p m script is (i ∷ s) b)

-- ---- what is left, and what comes of it

record NothingLeft (script : List Line) (s : Session) (l : Letters) : Type 0 where
  pub none : l ≡ []
  pub whole : IsSessionOf script s

record NoItemLeft (v : Version) (p : Plan) (s : Session) (l : Letters) (n : ℕ) : Type 0 where
  pub some : l ≢ []
  pub none : (i : Item) (more : Letters) → item_fits p i ≡ true → l ≡ item_text v p i ++ more → ⊥
  pub line_is : n ≡ line_after s

record NoMoreLeft (script : List Line) (s : Session) (l : Letters) (n c : ℕ) : Type 0 where
  pub none : l ≡ []
  pub open_end : IsSessionOf script s → ⊥
  pub line_is : n ≡ line_after s
  pub clause_is : c ≡ 16

record RefusedLeft (v : Version) (p : Plan) (m : Mapping) (script : List Line) (s : Session) (l : Letters) (n c : ℕ) : Type 0 where
  pub item : Item
  pub more : Letters
  pub left : l ≡ item_text v p item ++ more
  pub fit : item_fits p item ≡ true
  pub line_is : n ≡ line_after s
  pub refused : IsRefused p m script s item c

abbrev Comes : Version → Plan → Mapping → List Line → Session → Letters → Checked → Type 0
Comes v p m script s l Legal = NothingLeft script s l
Comes v p m script s l (BadLine n) = NoItemLeft v p s l n
Comes v p m script s l (Illegal n c) = NoMoreLeft script s l n c ⊎ RefusedLeft v p m script s l n c

data Placed (p : Plan) (m : Mapping) (script : List Line) (trace : Letters) (a : Checked) : Type 0 where
  empty : trace ≡ [] → a ≡ Illegal 1 16 → Placed p m script trace a
  headless : trace ≢ [] → ((v : Version) (left : Letters) → trace ≡ header v ++ left → ⊥) → a ≡ BadLine 1 → Placed p m script trace a
  placed_at : (v : Version) (s : Session) (l : Letters) → GoesOn v p m script trace s l → Comes v p m script s l a → Placed p m script trace a

two_numbers : (n c k d : ℕ) → n ≡ k → c ≡ d → Illegal n c ≡ Illegal k d
two_numbers n c k d e f = λ i. Illegal (e i) (f i)

placed : (p : Plan) (m : Mapping) (script : List Line) (trace : Letters) (a : Checked) → IsVerdict p m script trace a → Placed p m script trace a
placed p m script trace Legal r =
    placed_at r.version r.session []
    (record {
      fit = r.fit;
      text = r.text ∙ sym (append-nil (spelling_of r.version p r.session));
      run = record { session = record { left = []; orders = append-nil (orders_of r.session) ∙ r.run.session.orders; placed = r.run.session.placed }; legal = r.run.legal };
    })
    (record { none = refl; whole = r.run.session })
placed p m script trace (BadLine n) r = elim r [
  | inl x ↦ headless x.some x.none (ap BadLine x.line_is)
  | inr x ↦ placed_at x.version x.session x.left x.so_far (record { some = x.some; none = x.none; line_is = x.line_is })
]
placed p m script trace (Illegal n c) r = elim r [
  | inl y ↦ elim y [
    | inl x ↦ empty x.none (two_numbers n c 1 16 x.line_is x.clause_is)
    | inr x ↦ placed_at x.version x.session [] x.so_far (inl (record { none = refl; open_end = x.open_end; line_is = x.line_is; clause_is = x.clause_is }))
  ]
  | inr x ↦ placed_at x.version x.session (item_text x.version p x.item ++ x.more) x.so_far
      (inr (record { item = x.item; more = x.more; left = refl; fit = x.fit; line_is = x.line_is; refused = x.refused }))
]

module _ (p : Plan) (m : Mapping) (script : List Line) (trace : Letters) (one_line : ItemsHaveOneLine p) (one_reading : LinesHaveOneReading p) where
  -- ---- no longer begun run begins the trace

  stops : (v : Version) (s : Session) (l : Letters) (a : Checked) → Comes v p m script s l a →
      (i : Item) (more : Letters) → item_fits p i ≡ true → l ≡ item_text v p i ++ more → IsBegunRunOf p m script (i ∷ s) → ⊥
  stops v s l Legal r i more fit e longer = some_text v p one_line one_reading i more fit (sym r.none ∙ e)
  stops v s l (BadLine n) r i more fit e longer = r.none i more fit e
  stops v s l (Illegal n c) r i more fit e longer = elim r [
    | inl x ↦ some_text v p one_line one_reading i more fit (sym x.none ∙ e)
    | inr x ↦
        (let same = same_line v p one_line one_reading i x.item more x.more fit x.fit (sym e ∙ x.left) in
        not_both p m script s i c (subst (λ j. IsRefused p m script s j c) (sym same.0) x.refused) (was_accepted p m script s i longer))
  ]

  -- ---- one place

  begins : (v : Version) (s : Session) (l : Letters) → GoesOn v p m script trace s l → trace ≡ header v ++ (texts v p (oldest s) ++ l)
  begins v s l g = g.text ∙ ap (λ t. t ++ l) (spelt v p s) ∙ append_assoc (header v) (texts v p (oldest s)) l

  longer_run : (s u : Session) (i : Item) (more : List Item) → oldest u ≡ oldest s ++ i ∷ more → IsBegunRunOf p m script u → IsBegunRunOf p m script (i ∷ s)
  longer_run s u i more e b =
      let is : u ≡ onto more (i ∷ s) = sym (onto-oldest u) ∙ ap (λ x. onto x []) e ∙ onto-append (oldest s) (i ∷ more) [] ∙ ap (λ x. onto more (i ∷ x)) (onto-oldest s) in
      begun_under p m script more (i ∷ s) (subst (λ x. IsBegunRunOf p m script x) is b)

  same_place : (v : Version) (s u : Session) (l k : Letters) (a b : Checked) → GoesOn v p m script trace s l → GoesOn v p m script trace u k → Comes v p m script s l a → Comes v p m script u k b → (s ≡ u) × (l ≡ k)
  same_place v s u l k a b x y ca cb =
      let both : texts v p (oldest s) ++ l ≡ texts v p (oldest u) ++ k = behind v (sym (begins v s l x) ∙ begins v u k y) in
      elim (compare v p one_line one_reading (oldest s) (oldest u) l k (all_oldest p s x.fit) (all_oldest p u y.fit) both) [
        | level same rest ↦ (sym (onto-oldest s) ∙ ap (λ t. onto t []) same ∙ onto-oldest u, rest)
        | first_longer i more same fit rest ↦ absurd (stops v u k b cb i (texts v p more ++ l) fit rest (longer_run u s i more same x.run))
        | second_longer i more same fit rest ↦ absurd (stops v s l a ca i (texts v p more ++ k) fit rest (longer_run s u i more same y.run))
      ]
    where
      behind : (v : Version) {t u : Letters} → header v ++ t ≡ header v ++ u → t ≡ u
      behind One {t} {u} e = cc
      behind Two {t} {u} e = cc

  -- ---- one outcome

  one_outcome : (v : Version) (s : Session) (l : Letters) (a b : Checked) → Comes v p m script s l a → Comes v p m script s l b → a ≡ b
  one_outcome v s l Legal Legal x y = refl
  one_outcome v s l Legal (BadLine n) x y = absurd (y.some x.none)
  one_outcome v s l Legal (Illegal n c) x y = elim y [
    | inl z ↦ absurd (z.open_end x.whole)
    | inr z ↦ absurd (some_text v p one_line one_reading z.item z.more z.fit (sym x.none ∙ z.left))
  ]
  one_outcome v s l (BadLine n) Legal x y = absurd (x.some y.none)
  one_outcome v s l (BadLine n) (BadLine k) x y = ap BadLine (x.line_is ∙ sym y.line_is)
  one_outcome v s l (BadLine n) (Illegal k c) x y = elim y [ inl z ↦ absurd (x.some z.none) | inr z ↦ absurd (x.none z.item z.more z.fit z.left) ]
  one_outcome v s l (Illegal n c) Legal x y = elim x [
    | inl z ↦ absurd (z.open_end y.whole)
    | inr z ↦ absurd (some_text v p one_line one_reading z.item z.more z.fit (sym y.none ∙ z.left))
  ]
  one_outcome v s l (Illegal n c) (BadLine k) x y = elim x [ inl z ↦ absurd (y.some z.none) | inr z ↦ absurd (y.none z.item z.more z.fit z.left) ]
  one_outcome v s l (Illegal n c) (Illegal k d) x y = elim x [
    | inl z ↦ elim y [
      | inl w ↦ two_numbers n c k d (z.line_is ∙ sym w.line_is) (z.clause_is ∙ sym w.clause_is)
      | inr w ↦ absurd (some_text v p one_line one_reading w.item w.more w.fit (sym z.none ∙ w.left))
    ]
    | inr z ↦ elim y [
      | inl w ↦ absurd (some_text v p one_line one_reading z.item z.more z.fit (sym w.none ∙ z.left))
      | inr w ↦
          (let same = same_line v p one_line one_reading z.item w.item z.more w.more z.fit w.fit (sym z.left ∙ w.left) in
          two_numbers n c k d (z.line_is ∙ sym w.line_is) (one_clause p m script s w.item c d (subst (λ j. IsRefused p m script s j c) same.0 z.refused) w.refused))
    ]
  ]

  at_one : (v : Version) (s u : Session) (l k : Letters) (a b : Checked) → GoesOn v p m script trace s l → GoesOn v p m script trace u k → Comes v p m script s l a → Comes v p m script u k b → a ≡ b
  at_one v s u l k a b x y ca cb =
      let same = same_place v s u l k a b x y ca cb in
      let cb' = subst (λ t. Comes v p m script s t b) (sym same.1) (subst (λ t. Comes v p m script t k b) (sym same.0) cb) in
      one_outcome v s l a b ca cb'

  at_two : (v w : Version) (s u : Session) (l k : Letters) (a b : Checked) → GoesOn v p m script trace s l → GoesOn w p m script trace u k → Comes v p m script s l a → Comes w p m script u k b → a ≡ b
  at_two One One s u l k a b x y ca cb = at_one One s u l k a b x y ca cb
  at_two Two Two s u l k a b x y ca cb = at_one Two s u l k a b x y ca cb
  at_two One Two s u l k a b x y ca cb = absurd (one_and_two (texts One p (oldest s) ++ l) (texts Two p (oldest u) ++ k) (sym (begins One s l x) ∙ begins Two u k y))
  at_two Two One s u l k a b x y ca cb = absurd (one_and_two (texts One p (oldest u) ++ k) (texts Two p (oldest s) ++ l) (sym (begins One u k y) ∙ begins Two s l x))

  -- ---- one verdict

  some_header : (v : Version) (t : Letters) → [] ≡ header v ++ t → ⊥
  some_header One t e = cc
  some_header Two t e = cc

  one_placed : (a b : Checked) → Placed p m script trace a → Placed p m script trace b → a ≡ b
  one_placed a b (empty e is) (empty f same) = is ∙ sym same
  one_placed a b (empty e is) (headless some none same) = absurd (some e)
  one_placed a b (empty e is) (placed_at v s l g c) = absurd (some_header v (texts v p (oldest s) ++ l) (sym e ∙ begins v s l g))
  one_placed a b (headless some none is) (empty f same) = absurd (some f)
  one_placed a b (headless some none is) (headless some' none' same) = is ∙ sym same
  one_placed a b (headless some none is) (placed_at v s l g c) = absurd (none v (texts v p (oldest s) ++ l) (begins v s l g))
  one_placed a b (placed_at v s l g c) (empty f same) = absurd (some_header v (texts v p (oldest s) ++ l) (sym f ∙ begins v s l g))
  one_placed a b (placed_at v s l g c) (headless some none same) = absurd (none v (texts v p (oldest s) ++ l) (begins v s l g))
  one_placed a b (placed_at v s l g c) (placed_at w u k h d) = at_two v w s u l k a b g h c d

  pub one_verdict : (a b : Checked) → IsVerdict p m script trace a → IsVerdict p m script trace b → a ≡ b
  one_verdict a b x y = one_placed a b (placed p m script trace a x) (placed p m script trace b y)
