-- Two runs of items whose lines begin one text: the one goes on the other.
use Rattle.std.proofs.Common.{◌≡◌, ℕ, ◌+◌, Bool, true, not, ◌&&◌, ◌==◌, List, [], ◌∷◌, ◌++◌, length, codes, refl, sym, ap, ◌∙◌, subst, append_assoc, length-append, arith}
use Rattle.bus_semantics.specs.Common.{list_all, and_parts, and_from, false≢true, append-nil, list_all-append, Plan, item_fits, Item, Session, Letters, header, item_text, spelling_of}
use Rattle.bus_laws.specs.Common.{Version, One, Two}
use Rattle.trace_reading.specs.Reads.{ItemsHaveOneLine, LinesHaveOneReading}

-- ---- lines

abbrev pub unbroken : Letters → Bool
unbroken t = list_all (λ c. not (c == 10)) t

heads : (x y : ℕ) (xs ys : Letters) → x ∷ xs ≡ y ∷ ys → x ≡ y
heads x y xs ys e = cc

tails : (x y : ℕ) (xs ys : Letters) → x ∷ xs ≡ y ∷ ys → xs ≡ ys
tails x y xs ys e = cc

no_newline : (c : ℕ) (t : Letters) → unbroken (c ∷ t) ≡ true → c ≡ 10 → ⊥
no_newline c t h e = false≢true (subst (λ n. not (n == 10) ≡ true) e (and_parts (not (c == 10)) (unbroken t) h).0)

pub cut : (t u a b : Letters) → unbroken t ≡ true → unbroken u ≡ true → t ++ (10 ∷ a) ≡ u ++ (10 ∷ b) → (t ≡ u) × (a ≡ b)
cut [] [] a b h k e = (refl, tails 10 10 a b e)
cut [] (c ∷ u) a b h k e = absurd (no_newline c u k (sym (heads 10 c a (u ++ (10 ∷ b)) e)))
cut (c ∷ t) [] a b h k e = absurd (no_newline c t h (heads c 10 (t ++ (10 ∷ a)) b e))
cut (c ∷ t) (d ∷ u) a b h k e =
    let first : c ≡ d = heads c d (t ++ (10 ∷ a)) (u ++ (10 ∷ b)) e in
    let two = cut t u a b (and_parts (not (c == 10)) (unbroken t) h).1 (and_parts (not (d == 10)) (unbroken u) k).1 (tails c d (t ++ (10 ∷ a)) (u ++ (10 ∷ b)) e) in
    (ap (λ x. x ∷ t) first ∙ ap (λ x. d ∷ x) two.0, two.1)

-- ---- runs of items, the oldest first

abbrev pub texts : Version → Plan → List Item → Letters
texts v p [] = []
texts v p (i ∷ is) = item_text v p i ++ texts v p is

abbrev pub onto : List Item → Session → Session
onto [] s = s
onto (i ∷ is) s = onto is (i ∷ s)

abbrev pub oldest : Session → List Item
oldest [] = []
oldest (i ∷ s) = oldest s ++ i ∷ []

pub onto-append : (xs ys : List Item) (s : Session) → onto (xs ++ ys) s ≡ onto ys (onto xs s)
onto-append [] ys s = refl
onto-append (x ∷ xs) ys s = onto-append xs ys (x ∷ s)

pub onto-oldest : (s : Session) → onto (oldest s) [] ≡ s
onto-oldest [] = refl
onto-oldest (i ∷ s) = onto-append (oldest s) (i ∷ []) [] ∙ ap (λ x. i ∷ x) (onto-oldest s)

spelt_onto : (v : Version) (p : Plan) (is : List Item) (s : Session) → spelling_of v p (onto is s) ≡ spelling_of v p s ++ texts v p is
spelt_onto v p [] s = sym (append-nil (spelling_of v p s))
spelt_onto v p (i ∷ is) s = spelt_onto v p is (i ∷ s) ∙ append_assoc (spelling_of v p s) (item_text v p i) (texts v p is)

pub spelt : (v : Version) (p : Plan) (s : Session) → spelling_of v p s ≡ header v ++ texts v p (oldest s)
spelt v p s = ap (spelling_of v p) (sym (onto-oldest s)) ∙ spelt_onto v p (oldest s) []

pub all_oldest : (p : Plan) (s : Session) → list_all (item_fits p) s ≡ true → list_all (item_fits p) (oldest s) ≡ true
all_oldest p [] h = refl
all_oldest p (i ∷ s) h =
    let two = and_parts (item_fits p i) (list_all (item_fits p) s) h in
    list_all-append (item_fits p) (oldest s) (i ∷ []) ∙ and_from (list_all (item_fits p) (oldest s)) (item_fits p i && true) (all_oldest p s two.1) (and_from (item_fits p i) true two.0 refl)

-- ---- the one goes on the other

pub data Compared (v : Version) (p : Plan) (is js : List Item) (l k : Letters) : Type 0 where
  level : is ≡ js → l ≡ k → Compared v p is js l k
  first_longer : (i : Item) (more : List Item) → is ≡ js ++ i ∷ more → item_fits p i ≡ true → k ≡ item_text v p i ++ (texts v p more ++ l) → Compared v p is js l k
  second_longer : (j : Item) (more : List Item) → js ≡ is ++ j ∷ more → item_fits p j ≡ true → l ≡ item_text v p j ++ (texts v p more ++ k) → Compared v p is js l k

module _ (v : Version) (p : Plan) (one_line : ItemsHaveOneLine p) (one_reading : LinesHaveOneReading p) where
  pub same_line : (i j : Item) (a b : Letters) → item_fits p i ≡ true → item_fits p j ≡ true → item_text v p i ++ a ≡ item_text v p j ++ b → (i ≡ j) × (a ≡ b)
  same_line i j a b fi fj e =
      let x = one_line v i fi in
      let y = one_line v j fj in
      let ends : x.line ++ (10 ∷ a) ≡ y.line ++ (10 ∷ b) =
      sym (append_assoc x.line (codes "\n") a) ∙ ap (λ t. t ++ a) (sym x.whole) ∙ e ∙ ap (λ t. t ++ b) y.whole ∙ append_assoc y.line (codes "\n") b in
      let two = cut x.line y.line a b x.unbroken y.unbroken ends in
      let text : item_text v p i ≡ item_text v p j = x.whole ∙ ap (λ t. t ++ codes "\n") two.0 ∙ sym y.whole in
      (one_reading v (item_text v p i) i j (record { fit = fi; text = refl }) (record { fit = fj; text = text }), two.1)

  pub some_text : (i : Item) (a : Letters) → item_fits p i ≡ true → [] ≡ item_text v p i ++ a → ⊥
  some_text i a fi e =
      let x = one_line v i fi in
      let none : 0 ≡ length (item_text v p i ++ a) = ap length e in
      let whole : length (item_text v p i) ≡ length x.line + 1 = ap length x.whole ∙ length-append x.line (codes "\n") in
      let sum : length (item_text v p i ++ a) ≡ length (item_text v p i) + length a = length-append (item_text v p i) a in
      absurd (omega arith)

  pub compare : (is js : List Item) (l k : Letters) → list_all (item_fits p) is ≡ true → list_all (item_fits p) js ≡ true → texts v p is ++ l ≡ texts v p js ++ k → Compared v p is js l k
  compare [] [] l k h g e = level refl e
  compare [] (j ∷ js) l k h g e =
      let two = and_parts (item_fits p j) (list_all (item_fits p) js) g in
      second_longer j js refl two.0 (e ∙ append_assoc (item_text v p j) (texts v p js) k)
  compare (i ∷ is) [] l k h g e =
      let two = and_parts (item_fits p i) (list_all (item_fits p) is) h in
      first_longer i is refl two.0 (sym e ∙ append_assoc (item_text v p i) (texts v p is) l)
  compare (i ∷ is) (j ∷ js) l k h g e =
      let a = and_parts (item_fits p i) (list_all (item_fits p) is) h in
      let b = and_parts (item_fits p j) (list_all (item_fits p) js) g in
      let split = same_line i j (texts v p is ++ l) (texts v p js ++ k) a.0 b.0 (sym (append_assoc (item_text v p i) (texts v p is) l) ∙ e ∙ append_assoc (item_text v p j) (texts v p js) k) in
      elim (compare is js l k a.1 b.1 split.1) as (λ c. Compared v p (i ∷ is) (j ∷ js) l k) [
        | level same rest ↦ level (ap (λ x. x ∷ is) split.0 ∙ ap (λ x. j ∷ x) same) rest
        | first_longer n more same fit rest ↦ first_longer n more (ap (λ x. x ∷ is) split.0 ∙ ap (λ x. j ∷ x) same) fit rest
        | second_longer n more same fit rest ↦ second_longer n more (ap (λ x. x ∷ js) (sym split.0) ∙ ap (λ x. i ∷ x) same) fit rest
      ]

-- ---- headers

eleventh : Letters → ℕ
eleventh (a ∷ b ∷ c ∷ d ∷ e ∷ f ∷ g ∷ h ∷ i ∷ j ∷ k ∷ t) = k
eleventh t = 0

pub one_and_two : (a b : Letters) → header One ++ a ≡ header Two ++ b → ⊥
unfolding eleventh
one_and_two a b e = let same : 49 ≡ 50 = ap eleventh e in false≢true (subst (λ n. (49 == n) ≡ true) same refl)
