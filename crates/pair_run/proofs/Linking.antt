-- What is linked: each link's two elements, and the values that go over it.
use Rattle.std.proofs.Common.{◌≡◌, ◌<◌, ◌≤◌, ℕ, zero, suc, ◌+◌, ℤ, Bool, true, false, not, ◌&&◌, ◌==◌, cond, int_le, List, [], ◌∷◌, ◌++◌, length, get_or, drop, Option, Some, None, inl, inr}
use Rattle.std.proofs.Common.{refl, sym, ap, ◌∙◌, subst, append_assoc, append-nil, drop-cons, arith}
use Rattle.std.specs.Prelude.{nat_le, is_none}
use Rattle.bus_semantics.specs.Common.{list_all, slice_get, option_map_or, and_from, and_parts, cases_lt, eq-eqb, eqb-true, false≢true, leb-true, drop_all, same_Some, same_number, Limits}
use Rattle.bus_semantics.specs.Common.{wish_fits, is_queued, Plan, look, IsSound, number_or_0, queue_lengths, sum_over, elem_sound, limits_fit, is_in, Letters, to_receive, to_send}
use Rattle.std.specs.Option.{option_to_list}
use Rattle.std.proofs.lemmas.Int.{ints}
use Rattle.bus_laws.specs.Common.{Env, ElemPlan, MachinePlan, ServerPlan, Mapping}
use Rattle.bus_laws.proofs.Thinning.{found_where}
use Rattle.pair_run.specs.Sent as sent
use Rattle.script_reading.specs.declared.forms.Form.TheVariants.{Send, Receive}
use Rattle.script_reading.specs.Offers.{elem_offered, is_for, named_if, number_of}
use Rattle.script_reading.proofs.Apart.{are_distinct, elem_apart}
use Rattle.script_reading.proofs.Naming.{is_named}
use Rattle.signal_link.specs.declared.link_elem.LinkElem.{LinkElem}
use Rattle.signal_link.specs.Links as link
use Rattle.pair_run.specs.Linked.{is_alike, linked_to, link_of, links_from, links_of}

-- ---- one link

pub record IsMade (q : Plan) (x : ℕ) (e : ElemPlan) (l : LinkElem) : Type 0 where
  pub out : l.out_elem ≡ x
  pub home : is_none e.instance ≡ true
  pub received : is_for Receive e ≡ true
  pub into : ElemPlan
  pub into_at : slice_get q.elements l.in_elem ≡ Some into
  pub named : number_of Send q e.name ≡ Some l.in_elem
  pub alike : is_alike e into ≡ true
  pub words : l.words ≡ e.words
  pub limits : l.limits ≡ e.limits

pub is_made : (q : Plan) (x : ℕ) (e : ElemPlan) (l : LinkElem) → link_of q x e ≡ Some l → IsMade q x e l
is_made q x e l h = by_side (is_none e.instance && is_for Receive e) refl h
  where
    by_alike : (is_none e.instance && is_for Receive e) ≡ true → (y : ℕ) → number_of Send q e.name ≡ Some y → (b : Bool) → look q.elements y (is_alike e) false ≡ b
        → cond b (Some (let m : LinkElem = record { out_elem = x; in_elem = y; words = e.words; limits = e.limits } in m)) None ≡ Some l → IsMade q x e l
    by_alike side y named false is h = absurd (cc h)
    by_alike side y named true is h =
        let m : LinkElem = record { out_elem = x; in_elem = y; words = e.words; limits = e.limits } in
        let two = and_parts (is_none e.instance) (is_for Receive e) side in
        let at = found_where q.elements y (is_alike e) is in
        subst (IsMade q x e) (same_Some m l h) (record {
          out = refl;
          home = two.0;
          received = two.1;
          into = at.item;
          into_at = at.found;
          named = named;
          alike = at.holds;
          words = refl;
          limits = refl;
        })

    by_name : (is_none e.instance && is_for Receive e) ≡ true → (o : Option ℕ) → number_of Send q e.name ≡ o → linked_to q x e o ≡ Some l → IsMade q x e l
    by_name side None is h = absurd (cc h)
    by_name side (Some y) is h = by_alike side y is (look q.elements y (is_alike e) false) refl h

    by_side : (b : Bool) → (is_none e.instance && is_for Receive e) ≡ b → cond b (linked_to q x e (number_of Send q e.name)) None ≡ Some l → IsMade q x e l
    by_side false is h = absurd (cc h)
    by_side true is h = by_name is (number_of Send q e.name) refl h

-- ---- all links

-- where a link comes from
record LinkAt (q : Plan) (x : ℕ) (es : List ElemPlan) (l : LinkElem) : Type 0 where
  number : ℕ
  elem : ElemPlan
  at : slice_get es number ≡ Some elem
  made : link_of q (x + number) elem ≡ Some l

link_from : (q : Plan) (x : ℕ) (es : List ElemPlan) (l : LinkElem) (k : ℕ) → slice_get (links_from q x es) k ≡ Some l → LinkAt q x es l
link_from q x [] l k h = absurd (cc h)
link_from q x (e ∷ es) l k h = step (link_of q x e) refl k h (link_from q (suc x) es l)
  where
    later : LinkAt q (suc x) es l → LinkAt q x (e ∷ es) l
    later a = record { number = suc a.number; elem = a.elem; at = a.at; made = let same : suc x + a.number ≡ x + suc a.number = omega arith in subst (λ (n : ℕ). link_of q n a.elem ≡ Some l) same a.made }

    step : (o : Option LinkElem) → link_of q x e ≡ o → (k : ℕ) → slice_get (option_to_list o ++ links_from q (suc x) es) k ≡ Some l
        → ((k : ℕ) → slice_get (links_from q (suc x) es) k ≡ Some l → LinkAt q (suc x) es l) → LinkAt q x (e ∷ es) l
    step None is k h ih = later (ih k h)
    step (Some m) is zero h ih = record { number = 0; elem = e; at = refl; made = let same : x ≡ x + 0 = omega arith in subst (λ (n : ℕ). link_of q n e ≡ Some l) same (is ∙ h) }
    step (Some m) is (suc k) h ih = later (ih k h)

pub record IsLinkOf (p q : Plan) (l : LinkElem) : Type 0 where
  pub elem : ElemPlan
  pub at : slice_get p.elements l.out_elem ≡ Some elem
  pub made : IsMade q l.out_elem elem l

pub is_link_of : (p q : Plan) (k : ℕ) (l : LinkElem) → slice_get (links_of p q) k ≡ Some l → IsLinkOf p q l
is_link_of p q k l h =
    let a = link_from q 0 p.elements l k h in
    let zeroth : 0 + a.number ≡ a.number = omega arith in
    let made = subst (λ (n : ℕ). IsMade q n a.elem l) zeroth (is_made q (0 + a.number) a.elem l a.made) in
    record {
      elem = a.elem;
      at = subst (λ (n : ℕ). slice_get p.elements n ≡ Some a.elem) (sym made.out) a.at;
      made = subst (λ (n : ℕ). IsMade q n a.elem l) (sym made.out) made;
    }

-- ---- what the environments may do at its ends

no_home : (o : Option ℕ) → is_none o ≡ true → same_number o None ≡ true
no_home None h = refl
no_home (Some i) h = absurd (false≢true h)

pub receives : (p q : Plan) (l : LinkElem) → IsLinkOf p q l → wish_fits p Env (to_receive l.out_elem) ≡ true
receives p q l is =
    ap (λ (o : Option ElemPlan). option_map_or (λ (e : ElemPlan). same_number e.instance None && (is_queued e && not e.provided)) o false) is.at
    ∙ and_from (same_number is.elem.instance None) (is_queued is.elem && not is.elem.provided) (no_home is.elem.instance is.made.home) is.made.received

-- what goes by a name is the environment's, and such a thing
named_parts : (b : Bool) (name t : Letters) → named_if b name ≡ Some t → (b ≡ true) × (name ≡ t)
named_parts true name t h = (refl, same_Some name t h)
named_parts false name t h = absurd (cc h)

record IsSentTo (q : Plan) (l : LinkElem) (name : Letters) (into : ElemPlan) : Type 0 where
  home : is_none into.instance ≡ true
  sent : is_for Send into ≡ true
  same : into.name ≡ name

is_sent_to : (q : Plan) (x : ℕ) (e : ElemPlan) (l : LinkElem) → (is : IsMade q x e l) → IsSentTo q l e.name is.into
is_sent_to q x e l is =
    let offer : elem_offered Send is.into ≡ Some e.name =
    sym (ap (λ (o : Option ElemPlan). option_map_or (elem_offered Send) o None) is.into_at) ∙ (is_named q Send e.name l.in_elem is.named).named in
    let named = named_parts (is_none is.into.instance && is_for Send is.into) is.into.name e.name offer in
    let two = and_parts (is_none is.into.instance) (is_for Send is.into) named.0 in
    record { home = two.0; sent = two.1; same = named.1 }

pub sends : (p q : Plan) (l : LinkElem) (ws : List ℤ) → IsLinkOf p q l → link.takes l ws ≡ true → wish_fits q Env (to_send l.in_elem ws) ≡ true
sends p q l ws is takes =
    let e = is.elem in
    let into = is.made.into in
    let to = is_sent_to q l.out_elem e l is.made in
    let alike = and_parts _ (e.words == into.words) (and_parts _ _ is.made.alike).1 in
    let many = eqb-true (length ws) l.words (and_parts (length ws == l.words) _ takes).0 in
    let held : (length ws == into.words) ≡ true = eq-eqb (length ws) into.words (many ∙ is.made.words ∙ eqb-true e.words into.words alike.1) in
    ap (λ (o : Option ElemPlan). option_map_or (λ (v : ElemPlan). same_number v.instance None && ((is_queued v && v.provided) && (length ws == v.words))) o false) is.made.into_at
    ∙ and_from (same_number into.instance None) _ (no_home into.instance to.home) (and_from (is_queued into && into.provided) (length ws == into.words) to.sent held)

-- a value of the first node's element is one of the link
pub link_takes : (p q : Plan) (l : LinkElem) (ws : List ℤ) → IsLinkOf p q l → sent.takes p l.out_elem ws ≡ true → link.takes l ws ≡ true
link_takes p q l ws is takes =
    let e = is.elem in
    let own : sent.is_value_of e ws ≡ true = sym (ap (λ (o : Option ElemPlan). option_map_or (λ (v : ElemPlan). sent.is_value_of v ws) o false) is.at) ∙ takes in
    ap (λ (n : ℕ). (length ws == n) && list_all (link.is_within l.limits) ws) is.made.words
    ∙ ap (λ (k : Limits). (length ws == e.words) && list_all (link.is_within k) ws) is.made.limits
    ∙ own

-- ---- two links share both ends or none

same_out : (p q : Plan) (m : Mapping) (k l : LinkElem) → IsSound p m → IsLinkOf p q k → IsLinkOf p q l → k.in_elem ≡ l.in_elem → k.out_elem < l.out_elem → ⊥
same_out p q m k l sound a b same less =
    let distinct = are_distinct p (and_parts _ _ (and_parts _ _ sound.names).1).0 in
    let first = (is_named q Send a.elem.name k.in_elem a.made.named).named in
    let second = (is_named q Send b.elem.name l.in_elem b.made.named).named in
    let name : a.elem.name ≡ b.elem.name =
    same_Some a.elem.name b.elem.name (sym first ∙ ap (λ (y : ℕ). look q.elements y (elem_offered Send) None) same ∙ second) in
    let offer : look p.elements k.out_elem (elem_offered Receive) None ≡ Some b.elem.name =
    ap (λ (o : Option ElemPlan). option_map_or (elem_offered Receive) o None) a.at
    ∙ ap (λ (c : Bool). named_if c a.elem.name) (and_from (is_none a.elem.instance) (is_for Receive a.elem) a.made.home a.made.received)
    ∙ ap (λ (t : Letters). Some t) name in
    elem_apart p distinct Receive l.out_elem b.elem b.at b.made.home k.out_elem less offer

pub out_by_in : (p q : Plan) (m : Mapping) (k l : LinkElem) → IsSound p m → IsLinkOf p q k → IsLinkOf p q l → k.in_elem ≡ l.in_elem → k.out_elem ≡ l.out_elem
out_by_in p q m k l sound a b same =
    elim (cases_lt k.out_elem l.out_elem) [
      | inl less ↦ absurd (same_out p q m k l sound a b same less)
      | inr more ↦ elim (cases_lt l.out_elem k.out_elem) [
        | inl less ↦ absurd (same_out p q m l k sound b a (sym same) less)
        | inr less ↦ omega (arith, more, less)
      ]
    ]

pub in_by_out : (p q : Plan) (k l : LinkElem) → IsLinkOf p q k → IsLinkOf p q l → k.out_elem ≡ l.out_elem → k.in_elem ≡ l.in_elem
in_by_out p q k l a b same =
    let elem : a.elem ≡ b.elem = same_Some a.elem b.elem (sym a.at ∙ ap (λ (x : ℕ). slice_get p.elements x) same ∙ b.at) in
    same_Some k.in_elem l.in_elem (sym a.made.named ∙ ap (λ (e : ElemPlan). number_of Send q e.name) elem ∙ b.made.named)

-- ---- of a sound plan

abbrev queue_of_elem : ElemPlan → ℕ
queue_of_elem e = cond (is_queued e && not e.provided) e.queue_length 0

some_places : (e : ElemPlan) → elem_sound e ≡ true → is_for Receive e ≡ true → 1 ≤ queue_of_elem e
some_places e sound received =
    let a = (and_parts (is_in 1 16 e.words) _ sound).1 in
    let b = (and_parts (limits_fit e.limits) _ a).1 in
    let c = (and_parts _ _ b).1 in
    let d = (and_parts _ _ c).1 in
    let low = leb-true 1 e.queue_length (and_parts (nat_le 1 e.queue_length) (nat_le e.queue_length 1024) (and_parts (is_in 1 1024 e.queue_length) _ d).0).0 in
    let all : queue_of_elem e ≡ e.queue_length = ap (λ (c : Bool). cond c e.queue_length 0) received in
    subst (λ (n : ℕ). 1 ≤ n) (sym all) low

few_links : (q : Plan) (x : ℕ) (es : List ElemPlan) → list_all elem_sound es ≡ true → length (links_from q x es) ≤ sum_over queue_of_elem es
few_links q x [] sound = omega arith
few_links q x (e ∷ es) sound =
    let two = and_parts (elem_sound e) (list_all elem_sound es) sound in
    step (link_of q x e) refl two.0 (few_links q (suc x) es two.1)
  where
    step : (o : Option LinkElem) → link_of q x e ≡ o → elem_sound e ≡ true → length (links_from q (suc x) es) ≤ sum_over queue_of_elem es
        → length (option_to_list o ++ links_from q (suc x) es) ≤ queue_of_elem e + sum_over queue_of_elem es
    step None is own ih = omega (arith, ih)
    step (Some l) is own ih = let one = some_places e own (is_made q x e l is).received in omega (arith, ih, one)

pub links_are_few : (p q : Plan) (m : Mapping) → IsSound p m → length (links_of p q) ≤ 65536
links_are_few p q m sound =
    let few = few_links q 0 p.elements sound.elements in
    let all : sum_over queue_of_elem p.elements + (sum_over (λ (s : ServerPlan). number_or_0 s.queue) p.servers + sum_over (λ (n : MachinePlan). n.queue) p.machines) ≤ 65536 = leb-true (queue_lengths p) 65536 sound.lengths in
    omega (arith, few, all)

-- each is a link whose limits are words
abbrev is_word_link : LinkElem → Bool
is_word_link l = link.is_word l.limits.low && link.is_word l.limits.high

words_fit : (l : Limits) → limits_fit l ≡ true → (link.is_word l.low && link.is_word l.high) ≡ true
words_fit l h = grind (arith, ints)

link_fits : (q : Plan) (x : ℕ) (e : ElemPlan) (l : LinkElem) → elem_sound e ≡ true → IsMade q x e l → (link.is_link l ≡ true) × (is_word_link l ≡ true)
link_fits q x e l sound is =
    let a = and_parts (is_in 1 16 e.words) _ sound in
    let b = and_parts (limits_fit e.limits) _ a.1 in
    let words = and_parts (nat_le 1 e.words) (nat_le e.words 16) a.0 in
    let order = (and_parts (int_le e.limits.low e.limits.high) _ b.0).0 in (
      ap (λ (n : ℕ). nat_le 1 n && (nat_le n 16 && int_le l.limits.low l.limits.high)) is.words
          ∙ ap (λ (k : Limits). nat_le 1 e.words && (nat_le e.words 16 && int_le k.low k.high)) is.limits
          ∙ and_from (nat_le 1 e.words) _ words.0 (and_from (nat_le e.words 16) (int_le e.limits.low e.limits.high) words.1 order),
      ap (λ (k : Limits). link.is_word k.low && link.is_word k.high) is.limits ∙ words_fit e.limits b.0,
    )

links_fit : (q : Plan) (x : ℕ) (es : List ElemPlan) → list_all elem_sound es ≡ true
    → (list_all link.is_link (links_from q x es) ≡ true) × (list_all is_word_link (links_from q x es) ≡ true)
links_fit q x [] sound = (refl, refl)
links_fit q x (e ∷ es) sound =
    let two = and_parts (elem_sound e) (list_all elem_sound es) sound in
    step (link_of q x e) refl two.0 (links_fit q (suc x) es two.1)
  where
    step : (o : Option LinkElem) → link_of q x e ≡ o → elem_sound e ≡ true
        → (list_all link.is_link (links_from q (suc x) es) ≡ true) × (list_all is_word_link (links_from q (suc x) es) ≡ true)
        → (list_all link.is_link (option_to_list o ++ links_from q (suc x) es) ≡ true) × (list_all is_word_link (option_to_list o ++ links_from q (suc x) es) ≡ true)
    step None is own ih = ih
    step (Some l) is own ih =
        let fit = link_fits q x e l own (is_made q x e l is) in
        (and_from (link.is_link l) _ fit.0 ih.0, and_from (is_word_link l) _ fit.1 ih.1)

pub links_are_links : (p q : Plan) (m : Mapping) → IsSound p m → list_all link.is_link (links_of p q) ≡ true
links_are_links p q m sound = (links_fit q 0 p.elements sound.elements).0

pub links_are_of_words : (p q : Plan) (m : Mapping) → IsSound p m → link.AreOfWords (links_of p q)
links_are_of_words p q m sound = (links_fit q 0 p.elements sound.elements).1

-- ---- found one by one

-- the links so far, and those of the rest
pub links_next : (q : Plan) (es : List ElemPlan) (at : ℕ) (e : ElemPlan) (done all : List LinkElem) → at < length es → e ≡ get_or es at e
    → done ++ links_from q at (drop at es) ≡ all → (done ++ option_to_list (link_of q at e)) ++ links_from q (at + 1) (drop (at + 1) es) ≡ all
links_next q es at e done all h is so_far =
    let rest : drop at es ≡ e ∷ drop (suc at) es = drop-cons es at e h ∙ ap (λ (y : ElemPlan). y ∷ drop (suc at) es) (sym is) in
    let next : suc at ≡ at + 1 = omega arith in
    append_assoc done (option_to_list (link_of q at e)) (links_from q (at + 1) (drop (at + 1) es))
    ∙ ap (λ (n : ℕ). done ++ (option_to_list (link_of q at e) ++ links_from q n (drop n es))) (sym next)
    ∙ ap (λ (xs : List ElemPlan). done ++ links_from q at xs) (sym rest)
    ∙ so_far

pub links_done : (q : Plan) (es : List ElemPlan) (at : ℕ) (done all : List LinkElem) → length es ≤ at → done ++ links_from q at (drop at es) ≡ all → done ≡ all
links_done q es at done all past so_far =
    sym (append-nil done) ∙ ap (λ (xs : List ElemPlan). done ++ links_from q at xs) (sym (drop_all at es past)) ∙ so_far
