-- Trees of winners.
use Rattle.std.proofs.Common.{◌≡◌, ◌≢◌, ℕ, zero, suc, ◌+◌, ◌-◌, ◌*◌, ◌/◌, ◌<◌, ◌≤◌, ◌⊎◌, inl, inr, List, [], ◌∷◌, length, map, set, get_or, nat_lt, Some, refl, sym, ◌∙◌, ap, subst, arith}
use Rattle.std.proofs.Common.{length-set, get_or-set_same, get_or-set_other}
use Rattle.std.specs.List.{slice_get, All}
use Rattle.std.proofs.lemmas.Bool.{cases_lt, cases_eq, lt-ltb, le-ltb, ltb-true, ltb-false, cond-true, cond-false, cond_both}
use Rattle.std.proofs.lemmas.List.{length-map}
use Rattle.tick_events.specs.Countdowns.{Countdown, one_less}
use Rattle.tick_events.specs.Winners.{left_at, winner_at, better, settled, ArePlaces, IsOrdered, IsTree, IsTreeBut, IsAbove}
use Rattle.tick_events.specs.Winners.IsAbove.{itself, beyond}

-- the winner of a node

winner_inner : (best : List ℕ) (node : ℕ) → node < length best → winner_at best node ≡ get_or best node 0
winner_inner best node inner = cond-true _ _ _ (lt-ltb node (length best) inner)

pub winner_leaf : (best : List ℕ) (node : ℕ) → length best ≤ node → winner_at best node ≡ node - length best
winner_leaf best node leaf = cond-false _ _ _ (le-ltb node (length best) leaf)

pub winner_is_place : (best : List ℕ) (node : ℕ) → ArePlaces best → node < 2 * length best → winner_at best node < length best
winner_is_place best node places within = elim (cases_lt node (length best)) [
  | inl inner ↦ subst (λ place. place < length best) (sym (winner_inner best node inner)) (places node 0 inner)
  | inr leaf ↦ subst (λ place. place < length best) (sym (winner_leaf best node leaf)) (omega arith)
]

winner_set_other : (best : List ℕ) (n v node : ℕ) → node ≢ n → winner_at (set best n v) node ≡ winner_at best node
winner_set_other best n v node other = rw (length-set best n v, get_or-set_other best n node v 0 other) refl

winner_set_same : (best : List ℕ) (n v : ℕ) → n < length best → winner_at (set best n v) n ≡ v
winner_set_same best n v within =
    let within' : n < length (set best n v) = omega (arith, length-set best n v) in
    winner_inner (set best n v) n within' ∙ get_or-set_same best n v 0 within

better_one : (cs : List Countdown) (a b : ℕ) → (better cs a b ≡ a) ⊎ (better cs a b ≡ b)
better_one cs a b = cond_both (nat_lt (left_at cs b) (left_at cs a)) b a (λ w. (w ≡ a) ⊎ (w ≡ b)) (λ _. inr refl) (λ _. inl refl)

better_left : (cs : List Countdown) (a b : ℕ) → left_at cs (better cs a b) ≤ left_at cs a
better_left cs a b = cond_both (nat_lt (left_at cs b) (left_at cs a)) b a (λ w. left_at cs w ≤ left_at cs a) (λ e. omega (arith, ltb-true (left_at cs b) (left_at cs a) e)) (λ _. omega arith)

better_right : (cs : List Countdown) (a b : ℕ) → left_at cs (better cs a b) ≤ left_at cs b
better_right cs a b = cond_both (nat_lt (left_at cs b) (left_at cs a)) b a (λ w. left_at cs w ≤ left_at cs b) (λ _. omega arith) (λ e. ltb-false (left_at cs b) (left_at cs a) e)

-- a place beside two others

record AreOrdered (cs : List Countdown) (w a b : ℕ) : Type 0 where
  pub child : (w ≡ a) ⊎ (w ≡ b)
  pub left : left_at cs w ≤ left_at cs a
  pub right : left_at cs w ≤ left_at cs b

places_of : (cs : List Countdown) (best : List ℕ) (node : ℕ) → IsOrdered cs best node → AreOrdered cs (winner_at best node) (winner_at best (2 * node)) (winner_at best (2 * node + 1))
places_of cs best node o = record { child = o.child; left = o.left; right = o.right }

order_of : (cs : List Countdown) (best : List ℕ) (node w a b : ℕ) → winner_at best node ≡ w → winner_at best (2 * node) ≡ a → winner_at best (2 * node + 1) ≡ b → AreOrdered cs w a b → IsOrdered cs best node
order_of cs best node w a b ew ea eb o =
    let o' : AreOrdered cs (winner_at best node) (winner_at best (2 * node)) (winner_at best (2 * node + 1)) =
    subst (λ x. AreOrdered cs x (winner_at best (2 * node)) (winner_at best (2 * node + 1))) (sym ew)
    (subst (λ x. AreOrdered cs w x (winner_at best (2 * node + 1))) (sym ea) (subst (λ x. AreOrdered cs w a x) (sym eb) o)) in
    record { child = o'.child; left = o'.left; right = o'.right }

better_ordered : (cs : List Countdown) (a b : ℕ) → AreOrdered cs (better cs a b) a b
better_ordered cs a b = record { child = better_one cs a b; left = better_left cs a b; right = better_right cs a b }

-- a node that was set

settled_here : (cs : List Countdown) (best : List ℕ) (node : ℕ) → 0 < node → node < length best → IsOrdered cs (settled cs best node) node
settled_here cs best node root inner =
    let left = winner_at best (2 * node) in
    let right = winner_at best (2 * node + 1) in
    let w = better cs left right in
    order_of cs (set best node w) node w left right
    (winner_set_same best node w inner)
    (winner_set_other best node w (2 * node) (omega arith))
    (winner_set_other best node w (2 * node + 1) (omega arith))
    (better_ordered cs left right)

settled_there : (cs : List Countdown) (best : List ℕ) (n v node : ℕ) → node ≢ n → 2 * node ≢ n → 2 * node + 1 ≢ n → IsOrdered cs best node → IsOrdered cs (set best n v) node
settled_there cs best n v node other left right o =
    order_of cs (set best n v) node _ _ _
    (winner_set_other best n v node other)
    (winner_set_other best n v (2 * node) left)
    (winner_set_other best n v (2 * node + 1) right)
    (places_of cs best node o)

-- from the leaves to the root

pub record IsTreeFrom (cs : List Countdown) (best : List ℕ) (from : ℕ) : Type 0 where
  pub count : length best ≡ length cs
  pub places : ArePlaces best
  pub ordered : (node : ℕ) → from ≤ node → 0 < node → node < length best → IsOrdered cs best node

settled_from : (cs : List Countdown) (best : List ℕ) (node : ℕ) → 0 < node → node < length best → ArePlaces (settled cs best node) → IsTreeFrom cs best (node + 1) → IsTreeFrom cs (settled cs best node) node
settled_from cs best node root inner places tree =
    let w = better cs (winner_at best (2 * node)) (winner_at best (2 * node + 1)) in
    record {
      count = length-set best node w ∙ tree.count;
      places = places;
      ordered = λ n behind rooted within. elim (cases_eq n node) [
        | inl same ↦ subst (IsOrdered cs (settled cs best node)) (sym same) (settled_here cs best node root inner)
        | inr other ↦ settled_there cs best node w n other (omega arith) (omega arith) (tree.ordered n (omega arith) rooted (omega (arith, length-set best node w)))
      ];
    }

pub tree_from_more : (cs : List Countdown) (best best' : List ℕ) (from node : ℕ) → from ≡ node + 1 → 0 < node → node < length best → best' ≡ settled cs best node → ArePlaces best' → IsTreeFrom cs best from → IsTreeFrom cs best' node
tree_from_more cs best best' from node next root inner is places tree =
    subst (λ b. IsTreeFrom cs b node) (sym is) (settled_from cs best node root inner (subst ArePlaces is places) (subst (IsTreeFrom cs best) next tree))

pub tree_from_all : (cs : List Countdown) (best : List ℕ) (from : ℕ) → from ≤ 1 → IsTreeFrom cs best from → IsTree cs best
tree_from_all cs best from all tree = record { count = tree.count; places = tree.places; ordered = λ node root inner. tree.ordered node (omega arith) root inner }

pub tree_from_none : (cs : List Countdown) (best : List ℕ) (from : ℕ) → length best ≤ from → length best ≡ length cs → ArePlaces best → IsTreeFrom cs best from
tree_from_none cs best from none count places = record { count = count; places = places; ordered = λ node behind root inner. absurd (omega arith) }

-- the way to the root

above_itself : (node from : ℕ) → IsAbove node from → node ≢ from → IsAbove node (from / 2)
above_itself node _ (itself from same) other = absurd (other same)
above_itself node _ (beyond from inner above) other = above

above_root : (node from : ℕ) → from ≡ 0 → IsAbove node from → node ≡ 0
above_root node _ end (itself from same) = same ∙ end
above_root node _ end (beyond from inner above) = absurd (omega arith)

parent_above : (node child from : ℕ) → 0 < child → child / 2 ≡ node → IsAbove child from → IsAbove node from
parent_above node child _ inner parent (itself from same) = beyond from (omega arith) (itself (from / 2) (sym parent ∙ ap (λ n. n / 2) same))
parent_above node child _ inner parent (beyond from inner' above) = beyond from inner' (parent_above node child (from / 2) inner parent above)

pub tree_but_leaf : (cs : List Countdown) (best : List ℕ) (place : ℕ) → IsTreeBut cs best (length best + place) → IsTreeBut cs best ((length best + place) / 2)
tree_but_leaf cs best place tree = record {
  count = tree.count;
  places = tree.places;
  ordered = λ node root inner. elim (tree.ordered node root inner) [
    | inl ordered ↦ inl ordered
    | inr above ↦ inr (above_itself node (length best + place) above (omega arith))
  ];
}

settled_but : (cs : List Countdown) (best : List ℕ) (node : ℕ) → 0 < node → node < length best → ArePlaces (settled cs best node) → IsTreeBut cs best node → IsTreeBut cs (settled cs best node) (node / 2)
settled_but cs best node root inner places tree =
    let w = better cs (winner_at best (2 * node)) (winner_at best (2 * node + 1)) in
    record {
      count = length-set best node w ∙ tree.count;
      places = places;
      ordered = λ n rooted within. step n rooted (omega (arith, length-set best node w)) (cases_eq n node) (cases_eq n (node / 2));
    }
  where
    step : (n : ℕ) → 0 < n → n < length best → (n ≡ node) ⊎ (n ≢ node) → (n ≡ node / 2) ⊎ (n ≢ node / 2) → IsOrdered cs (settled cs best node) n ⊎ IsAbove n (node / 2)
    step n rooted within (inl same) _ = inl (subst (IsOrdered cs (settled cs best node)) (sym same) (settled_here cs best node root inner))
    step n rooted within (inr other) (inl parent) = inr (itself (node / 2) parent)
    step n rooted within (inr other) (inr apart) = elim (tree.ordered n rooted within) [
      | inl ordered ↦ inl (settled_there cs best node _ n other (omega arith) (omega arith) ordered)
      | inr above ↦ inr (above_itself n node above other)
    ]

pub tree_but_more : (cs : List Countdown) (best best' : List ℕ) (node : ℕ) → 0 < node → node < length best → best' ≡ settled cs best node → ArePlaces best' → IsTreeBut cs best node → IsTreeBut cs best' (node / 2)
tree_but_more cs best best' node root inner is places tree =
    subst (λ b. IsTreeBut cs b (node / 2)) (sym is) (settled_but cs best node root inner (subst ArePlaces is places) tree)

pub tree_but_root : (cs : List Countdown) (best : List ℕ) (from : ℕ) → from ≡ 0 → IsTreeBut cs best from → IsTree cs best
tree_but_root cs best from end tree = record {
  count = tree.count;
  places = tree.places;
  ordered = λ node root inner. elim (tree.ordered node root inner) [
    | inl ordered ↦ ordered
    | inr above ↦ let none = above_root node from end above in absurd (omega arith)
  ];
}

-- the root

least : (cs : List Countdown) (best : List ℕ) → IsTree cs best → (fuel node : ℕ) → node ≤ fuel → 0 < node → node < 2 * length best → left_at cs (winner_at best 1) ≤ left_at cs (winner_at best node)
least cs best tree zero node enough root within = absurd (omega arith)
least cs best tree (suc fuel) node enough root within = elim (cases_lt 1 node) [
  | inr first ↦ let same : 1 ≡ node = omega arith in subst (λ n. left_at cs (winner_at best 1) ≤ left_at cs (winner_at best n)) same (omega arith)
  | inl inner ↦
      let parent = least cs best tree fuel (node / 2) (omega arith) (omega arith) (omega arith) in
      let order = tree.ordered (node / 2) (omega arith) (omega arith) in
      elim (cases_eq node (2 * (node / 2))) [
        | inl even ↦ subst (λ n. left_at cs (winner_at best 1) ≤ left_at cs (winner_at best n)) (sym even) (let l = order.left in omega arith)
        | inr odd ↦
            let is : 2 * (node / 2) + 1 ≡ node = omega arith in
            subst (λ n. left_at cs (winner_at best 1) ≤ left_at cs (winner_at best n)) is (let r = order.right in omega arith)
      ]
]

pub root_is_least : (cs : List Countdown) (best : List ℕ) (place : ℕ) → IsTree cs best → place < length best → left_at cs (winner_at best 1) ≤ left_at cs place
root_is_least cs best place tree within =
    let is : winner_at best (length best + place) ≡ place = winner_leaf best (length best + place) (omega arith) ∙ omega arith in
    subst (λ p. left_at cs (winner_at best 1) ≤ left_at cs p) is (least cs best tree (length best + place) (length best + place) (omega arith) (omega arith) (omega arith))

left_here : (cs : List Countdown) (place : ℕ) (d : Countdown) → place < length cs → left_at cs place ≡ (get_or cs place d).left
left_here [] place d within = absurd (omega arith)
left_here (c ∷ cs) zero d within = refl
left_here (c ∷ cs) (suc place) d within = left_here cs place d (omega arith)

pub none_ended : (cs : List Countdown) (best : List ℕ) → IsTree cs best → 1 ≤ left_at cs (winner_at best 1) → All (λ c. 1 ≤ c.left) cs
none_ended cs best tree more place d within =
    let count = tree.count in
    let inside : place < length best = omega arith in
    omega (arith, root_is_least cs best place tree inside, left_here cs place d within)

pub one_ended : (cs : List Countdown) (place : ℕ) → place < length cs → left_at cs place ≡ 0 → (c : Countdown) × (slice_get cs place ≡ Some c) × (c.left ≡ 0)
one_ended [] place within ended = absurd (omega arith)
one_ended (c ∷ cs) zero within ended = (c, refl, ended)
one_ended (c ∷ cs) (suc place) within ended = one_ended cs place (omega arith) ended

-- where a countdown goes on

won_above : (cs : List Countdown) (best : List ℕ) (place : ℕ) → IsTree cs best → (fuel node : ℕ) → 2 * length best ≤ node + fuel → 0 < node → node < 2 * length best → winner_at best node ≡ place → IsAbove node (length best + place)
won_above cs best place tree zero node enough root within won = absurd (omega arith)
won_above cs best place tree (suc fuel) node enough root within won = elim (cases_lt node (length best)) [
  | inr leaf ↦ itself (length best + place) (let e = sym (winner_leaf best node leaf) ∙ won in omega arith)
  | inl inner ↦ elim ((tree.ordered node root inner).child) [
    | inl left ↦ parent_above node (2 * node) (length best + place) (omega arith) (omega arith)
        (won_above cs best place tree fuel (2 * node) (omega arith) (omega arith) (omega arith) (sym left ∙ won))
    | inr right ↦ parent_above node (2 * node + 1) (length best + place) (omega arith) (omega arith)
        (won_above cs best place tree fuel (2 * node + 1) (omega arith) (omega arith) (omega arith) (sym right ∙ won))
  ]
]

same_order : (cs cs' : List Countdown) (w a b : ℕ) → left_at cs' w ≡ left_at cs w → left_at cs' a ≡ left_at cs a → left_at cs' b ≡ left_at cs b → AreOrdered cs w a b → AreOrdered cs' w a b
same_order cs cs' w a b ew ea eb o =
    let l = o.left in
    let r = o.right in
    record { child = o.child; left = omega arith; right = omega arith }

pub changed : (cs cs' : List Countdown) (best : List ℕ) (place : ℕ) → IsTree cs best → length cs' ≡ length cs → ((other : ℕ) → other ≢ place → left_at cs' other ≡ left_at cs other) → IsTreeBut cs' best (length best + place)
changed cs cs' best place tree same others = record {
  count = tree.count ∙ sym same;
  places = tree.places;
  ordered = λ node root inner. step node root inner (cases_eq (winner_at best node) place) (cases_eq (winner_at best (2 * node)) place) (cases_eq (winner_at best (2 * node + 1)) place);
}
  where
    above : (node : ℕ) → 0 < node → node < 2 * length best → winner_at best node ≡ place → IsAbove node (length best + place)
    above node root within won = won_above cs best place tree (2 * length best) node (omega arith) root within won

    step : (node : ℕ) → 0 < node → node < length best → (winner_at best node ≡ place) ⊎ (winner_at best node ≢ place) → (winner_at best (2 * node) ≡ place) ⊎ (winner_at best (2 * node) ≢ place) → (winner_at best (2 * node + 1) ≡ place) ⊎ (winner_at best (2 * node + 1) ≢ place) → IsOrdered cs' best node ⊎ IsAbove node (length best + place)
    step node root inner (inl won) _ _ = inr (above node root (omega arith) won)
    step node root inner _ (inl won) _ = inr (parent_above node (2 * node) (length best + place) (omega arith) (omega arith) (above (2 * node) (omega arith) (omega arith) won))
    step node root inner _ _ (inl won) = inr (parent_above node (2 * node + 1) (length best + place) (omega arith) (omega arith) (above (2 * node + 1) (omega arith) (omega arith) won))
    step node root inner (inr w) (inr a) (inr b) =
        inl (order_of cs' best node _ _ _ refl refl refl (same_order cs cs' _ _ _ (others _ w) (others _ a) (others _ b) (places_of cs best node (tree.ordered node root inner))))

-- what is left of each

left_less : (cs : List Countdown) (place : ℕ) → left_at (map one_less cs) place ≡ left_at cs place - 1
left_less [] place = refl
left_less (c ∷ cs) zero = refl
left_less (c ∷ cs) (suc place) = left_less cs place

pub ticked : (cs : List Countdown) (best : List ℕ) → IsTree cs best → IsTree (map one_less cs) best
ticked cs best tree = record {
  count = tree.count ∙ sym (length-map cs one_less);
  places = tree.places;
  ordered = λ node root inner.
      let o = tree.ordered node root inner in
      let l = o.left in
      let r = o.right in
      record {
        child = o.child;
        left = omega (arith, left_less cs (winner_at best node), left_less cs (winner_at best (2 * node)));
        right = omega (arith, left_less cs (winner_at best node), left_less cs (winner_at best (2 * node + 1)));
      };
}

pub left_set_other : (cs : List Countdown) (place : ℕ) (c : Countdown) (other : ℕ) → other ≢ place → left_at (set cs place c) other ≡ left_at cs other
left_set_other [] place c other apart = refl
left_set_other (d ∷ cs) zero c zero apart = absurd (apart refl)
left_set_other (d ∷ cs) zero c (suc other) apart = refl
left_set_other (d ∷ cs) (suc place) c zero apart = refl
left_set_other (d ∷ cs) (suc place) c (suc other) apart = left_set_other cs place c other (λ same. apart (ap suc same))
