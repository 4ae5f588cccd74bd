-- A search for interfaces, step by step.
use Rattle.std.proofs.Common.{◌≡◌, ℕ, zero, suc, ◌+◌, ◌<◌, ◌≤◌, List, [], ◌∷◌, ◌++◌, length, get_or, take, Bool, true, false, cond, Option, Some, None, inl, inr, ⊎_elim, refl, sym, ap}
use Rattle.std.proofs.Common.{subst, ◌∙◌, arith}
use Rattle.std.proofs.lemmas.Bool.{cases_lt}
use Rattle.std.proofs.lemmas.List.{take_more, append-nil, append_assoc, length-append, get_or_append_left}
use Rattle.std.specs.List.{list_any}
use Rattle.description_types.specs.declared.description.Description.{Description}
use Rattle.description_types.specs.declared.description.InnerPort.{InnerPort}
use Rattle.description_types.specs.declared.description.PrototypeType.{PrototypeType}
use Rattle.description_types.specs.declared.description.PrototypeType.TheVariants.{Component, Composition}
use Rattle.end_search.specs.declared.below.Search.{Search}
use Rattle.composition_tables.specs.declared.tree.PortEnd.{PortEnd}
use Rattle.end_search.specs.Below.{Stays, IsCovered, IsInnerCovered, IsFollowed, IsSearching, IsDone}
use Rattle.description_types.specs.Connectors.{interface_of}
use Rattle.composition_tables.specs.Ends.{ends, own_end, inner_ends, inner_ports, number_from, offset}
use Rattle.description_types.specs.Members.{Among}
use Rattle.composition_tables.proofs.Following.{inner_cases}
use Rattle.composition_tables.proofs.Members.{left, cases, place, unflat}
use Rattle.indexmap.specs.IndexSet.{insert_key}

pub stays_same : (s : Search) → Stays s s
stays_same s = record { seen = ([], sym (append-nil s.seen.keys)); found = λ i h. h }

pub stays_on : (a b c : Search) → Stays a b → Stays b c → Stays a c
stays_on a b c f g = record {
  seen = (f.seen.0 ++ g.seen.0, g.seen.1 ∙ ap (λ l. l ++ g.seen.0) f.seen.1 ∙ append_assoc a.seen.keys f.seen.0 g.seen.0);
  found = λ i h. g.found i (f.found i h);
}

-- a key that is inserted comes last, or was there
pub insert_last : {X : Type 0} (eq : X → X → Bool) (ks : List X) (x : X) → (more : List X) × (insert_key eq ks x ≡ ks ++ more)
insert_last {X} eq ks x = by (list_any (eq x) ks)
  where
    by : (b : Bool) → (more : List X) × (cond b ks (ks ++ x ∷ []) ≡ ks ++ more)
    by true = ([], sym (append-nil ks))
    by false = (x ∷ [], refl)

module _ (d : Description) where
  pub covered_more : (s z : Search) → Stays s z → (t : PrototypeType) (port : ℕ) → IsCovered d s t port → IsCovered d z t port
  covered_more s z stays (Component k) port h = λ i is. stays.found i (h i is)
  covered_more s z stays (Composition c) port h = subst (Among (c, port)) (sym stays.seen.1) (left (c, port) s.seen.keys stays.seen.0 h)

  pub followed_more : (s z : Search) → Stays s z → (k : ℕ × ℕ) → IsFollowed d s k → IsFollowed d z k
  followed_more s z stays k h = λ inner a t is. covered_more s z stays t inner.port (h inner a t is)

  -- one inner port more
  pub followed_next : (s z : Search) (c : ℕ) (inners : List InnerPort) (i : ℕ) (e : InnerPort) → Stays s z → i < length inners
      → ((inner : InnerPort) → Among inner (take i inners) → IsInnerCovered d s c inner) → IsInnerCovered d z c (get_or inners i e)
      → (inner : InnerPort) → Among inner (take (i + 1) inners) → IsInnerCovered d z c inner
  followed_next s z c inners i e stays within before now inner a =
      ⊎_elim (λ l. λ t is. covered_more s z stays t inner.port (before inner l t is))
      (λ r. ⊎_elim (λ same. subst (IsInnerCovered d z c) (sym same) now) (λ no. absurd no) r)
      (cases inner (take i inners) (get_or inners i e ∷ []) (subst (Among inner) (take_more inners i e within) a))

  -- one port more is followed
  pub searching_next : (s z : Search) (position : ℕ) (node : ℕ × ℕ) → position < length s.seen.keys → node ≡ get_or s.seen.keys position (0, 0) → Stays s z
      → IsSearching d s position → IsFollowed d z node → IsSearching d z (position + 1)
  searching_next s z position node within is stays searching followed = (long, all)
    where
      longer : length z.seen.keys ≡ length s.seen.keys + length stays.seen.0
      longer = ap (λ l. length l) stays.seen.1 ∙ length-append s.seen.keys stays.seen.0

      long : position + 1 ≤ length z.seen.keys
      long = omega (arith, within, longer)

      same : (i : ℕ) → i < length s.seen.keys → get_or s.seen.keys i (0, 0) ≡ get_or z.seen.keys i (0, 0)
      same i h = sym (ap (λ l. get_or l i (0, 0)) stays.seen.1 ∙ get_or_append_left s.seen.keys stays.seen.0 (0, 0) i h)

      all : (i : ℕ) → i < position + 1 → IsFollowed d z (get_or z.seen.keys i (0, 0))
      all i h = ⊎_elim
          (λ (l : i < position). subst (IsFollowed d z) (same i (omega (arith, l, within))) (followed_more s z stays (get_or s.seen.keys i (0, 0)) (searching.1 i l)))
          (λ (l : position ≤ i). let e : position ≡ i = omega (arith, h, l) in
          subst (λ j. IsFollowed d z (get_or z.seen.keys j (0, 0))) e (subst (IsFollowed d z) (is ∙ same position within) followed))
          (cases_lt i position)

  pub searching_done : (s : Search) (position : ℕ) → length s.seen.keys ≤ position → IsSearching d s position → IsDone d s
  searching_done s position past searching k h =
      let p = place k s.seen.keys h in
      subst (IsFollowed d s) (sym (p.2 (0, 0))) (searching.1 p.0 (let within = p.1 in omega (arith, within, past)))

  -- what a search has found when it is done
  pub found_below : (s : Search) → IsDone d s → (n : ℕ) (t : PrototypeType) (first port : ℕ) → IsCovered d s t port → (x : PortEnd) → Among x (ends d n t first port) → Among x.interface s.found.keys
  found_below s done n (Component k) first port covered x h = by (interface_of d (Component k) port) refl h
    where
      by : (o : Option ℕ) → interface_of d (Component k) port ≡ o → Among x (own_end o first port) → Among x.interface s.found.keys
      by None is a = absurd a
      by (Some i) is (inl e) = subst (λ m. Among m s.found.keys) (sym (ap (λ (p : PortEnd). p.interface) e)) (covered i is)
      by (Some i) is (inr never) = absurd never
  found_below s done zero (Composition c) first port covered x h = absurd h
  found_below s done (suc n) (Composition c) first port covered x h =
      let inner = unflat (inner_ends d n (ends d n) c first) (inner_ports d c port) x h in
      let t = inner_cases d n (ends d n) c first inner.0 x inner.2 in
      found_below s done n t.0 (number_from first (offset d n c inner.0.prototype)) inner.0.port (done (c, port) covered inner.0 inner.1 t.0 t.1) x t.2
