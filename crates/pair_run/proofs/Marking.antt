-- Marks of the elements that are linked.
use Rattle.std.proofs.Common.{◌≡◌, ◌<◌, ◌≤◌, ℕ, ◌+◌, ◌==◌, Bool, true, false, ◌||◌, List, [], length, get_or, set, take, replicate, inl, inr, refl, sym, ap, ◌∙◌, subst, arith, ext_get_or}
use Rattle.std.proofs.Common.{get_or-set_same, get_or-set_other, length-set}
use Rattle.bus_semantics.specs.Common.{list_any, cases_eq, eq-eqb, ne_eqb, or_right, get_or-map, length-map, length-replicate, take_all, Plan}
use Rattle.std.specs.List.{range_with_len}
use Rattle.std.proofs.lemmas.List.{get_or-replicate}
use Rattle.std.proofs.lemmas.List.Folds.{list_any_more}
use Rattle.std.proofs.lemmas.List.FromFn.{length-range_with_len, get_or-range_with_len}
use Rattle.signal_link.specs.declared.link_elem.LinkElem.{LinkElem}
use Rattle.pair_run.specs.Linked.{linked_in}

abbrev pub leaves : (x : ℕ) → LinkElem → Bool
leaves x l = l.out_elem == x

-- the element is that of a link
abbrev pub is_linked : List LinkElem → (x : ℕ) → Bool
is_linked links x = list_any (leaves x) links

-- these marks are those of the links
pub record AreMarks (count : ℕ) (links : List LinkElem) (marks : List Bool) : Type 0 where
  pub many : length marks ≡ count
  pub each : (x : ℕ) → x < count → get_or marks x false ≡ is_linked links x

pub none_marked : (count : ℕ) → AreMarks count [] (replicate count false)
none_marked count = record { many = length-replicate count false; each = λ x h. get_or-replicate count x false false h }

mark_at : (x : ℕ) (l : LinkElem) (links : List LinkElem) (i : ℕ) → i < length links → l ≡ get_or links i l → is_linked (take (i + 1) links) x ≡ (is_linked (take i links) x || leaves x l)
mark_at x l links i h is = list_any_more (leaves x) links i l h ∙ ap (λ (k : LinkElem). is_linked (take i links) x || leaves x k) (sym is)

or_no : (b : Bool) → (b || false) ≡ b
or_no true = refl
or_no false = refl

-- one link more, whose element is there
pub next_marked : (count : ℕ) (links : List LinkElem) (i : ℕ) (l : LinkElem) (marks : List Bool) → i < length links → l ≡ get_or links i l → l.out_elem < count
    → AreMarks count (take i links) marks → AreMarks count (take (i + 1) links) (set marks l.out_elem true)
next_marked count links i l marks h is there m = record { many = length-set marks l.out_elem true ∙ m.many; each = one }
  where
    within : l.out_elem < length marks
    within = subst (λ (n : ℕ). l.out_elem < n) (sym m.many) there

    one : (x : ℕ) → x < count → get_or (set marks l.out_elem true) x false ≡ is_linked (take (i + 1) links) x
    one x less =
        elim (cases_eq x l.out_elem) [
          | inl same ↦
              ap (λ (y : ℕ). get_or (set marks l.out_elem true) y false) same
              ∙ get_or-set_same marks l.out_elem true false within
              ∙ sym (or_right (is_linked (take i links) x) (leaves x l) (eq-eqb l.out_elem x (sym same)))
              ∙ sym (mark_at x l links i h is)
          | inr other ↦
              get_or-set_other marks l.out_elem x true false other
              ∙ m.each x less
              ∙ sym (or_no (is_linked (take i links) x))
              ∙ ap (λ (b : Bool). is_linked (take i links) x || b) (sym (ne_eqb l.out_elem x (λ e. other (sym e))))
              ∙ sym (mark_at x l links i h is)
        ]

-- or is not there
pub next_past : (count : ℕ) (links : List LinkElem) (i : ℕ) (l : LinkElem) (marks : List Bool) → i < length links → l ≡ get_or links i l → count ≤ l.out_elem
    → AreMarks count (take i links) marks → AreMarks count (take (i + 1) links) marks
next_past count links i l marks h is past m = record {
  many = m.many;
  each = λ x less.
      m.each x less
      ∙ sym (or_no (is_linked (take i links) x))
      ∙ ap (λ (b : Bool). is_linked (take i links) x || b) (sym (ne_eqb l.out_elem x (λ e. (let apart : x < l.out_elem = omega (arith, less, past) in omega (arith, apart, e)))))
      ∙ sym (mark_at x l links i h is);
}

pub linked_at : (p : Plan) (links : List LinkElem) (x : ℕ) → x < length p.elements → get_or (linked_in p links) x false ≡ is_linked links x
linked_at p links x h =
    let n = length p.elements in
    let long = length-range_with_len 0 n in
    get_or-map (λ (y : ℕ). is_linked links y) (range_with_len 0 n) x 0 false (omega (arith, long, h))
    ∙ ap (is_linked links) (get_or-range_with_len 0 n x 0 h ∙ (let e : 0 + x ≡ x = omega arith in e))

pub marks_are : (p : Plan) (links : List LinkElem) (i : ℕ) (marks : List Bool) → length links ≤ i → AreMarks (length p.elements) (take i links) marks → marks ≡ linked_in p links
marks_are p links i marks past m =
    let all : take i links ≡ links = take_all i links past in
    let as_many : length marks ≡ length (linked_in p links) = m.many ∙ sym (length-map (range_with_len 0 (length p.elements)) (λ (y : ℕ). is_linked links y) ∙ length-range_with_len 0 (length p.elements)) in
    ext_get_or false marks (linked_in p links) as_many (λ x h.
    (let less : x < length p.elements = subst (λ (n : ℕ). x < n) m.many h in
    m.each x less ∙ ap (λ (ls : List LinkElem). is_linked ls x) all ∙ sym (linked_at p links x less)))
