-- Names and ends, as they are noted and looked up.
use Rattle.std.proofs.Common.{◌≡◌, ℕ, ◌+◌, ◌^◌, ◌<◌, ◌≤◌, List, [], ◌∷◌, length, get_or, take, ◌⊎◌, inl, inr, ⊎_elim, ◌↔◌, sym, subst, ◌∙◌, IsTrue, nat_eq, Some, None, Vec, Bor, slice_get}
use Rattle.std.proofs.Common.{option_map, unwrap_or, ap, arith}
use Rattle.std.proofs.lemmas.Bool.{cases_lt, eqb-true, eq-eqb}
use Rattle.std.proofs.lemmas.List.{take_more, take_all, length-map}
use Rattle.composition_tables.specs.declared.tree.Owner.TheVariants.{Instance}
use Rattle.composition_tables.specs.declared.tree.PortEnd.{PortEnd}
use Rattle.composition_tables.specs.Ends.{ends}
use Rattle.description_types.specs.Members.{Among}
use Rattle.composition_tables.proofs.Members.{left, right, cases}
use Rattle.std.proofs.lemmas.Option.{slice_get-get_or, slice_get-map, slice_get_within}
use Rattle.std.specs.Cmp.Lexicographic.{bytes_decides}
use Rattle.std.specs.Global.{Global}
use Rattle.std.specs.HashMap.{HashMap, get}
use Rattle.end_search.specs.Tables.{names_of, same_name, ArePlaces}
use Rattle.composition_tables.specs.Multi.{under}

-- an element past the end of a list of ends
abbrev pub no_end : PortEnd
no_end = record { owner = Instance 0; port = 0; interface = 0 }

-- one more name is noted
pub name_more : (names : List (Bor (List ℕ))) (position : ℕ) (name q : Bor (List ℕ)) (j : ℕ) (N M : Type 0) → position < length names → name.now ≡ (get_or names position name).now
    → N ↔ (M ⊎ ((j ≡ position) × IsTrue (same_name name q))) → M ↔ ((slice_get (names_of names) j ≡ Some q.now) × (j < position))
    → N ↔ ((slice_get (names_of names) j ≡ Some q.now) × (j < position + 1))
name_more names position name q j N M within is now before =
    let at : slice_get (names_of names) position ≡ Some name.now = slice_get-map (λ b. b.now) names position ∙ ap (option_map (λ b. b.now)) (slice_get-get_or names position name within) ∙ ap (λ n. Some n) (sym is) in
    let same = bytes_decides name.now q.now in (
      (λ n. ⊎_elim (λ m. let b = before.0 m in (b.0, omega (arith, b.1))) (λ s. (ap (slice_get (names_of names)) s.0 ∙ at ∙ ap (λ n. Some n) (same.0 s.1), omega (arith, s.0))) (now.0 n)),
      (λ h. ⊎_elim (λ l. now.1 (inl (before.1 (h.0, l))))
          (λ (l : position ≤ j). let e : j ≡ position = omega (arith, h.1) in
          now.1 (inr (e, same.1 (ap (λ o. unwrap_or o []) (sym at ∙ ap (slice_get (names_of names)) (sym e) ∙ h.0))))) (cases_lt j position)),
    )

module _ {S : Type 0} (names : List (Bor (List ℕ))) (places : HashMap (Bor (List ℕ)) (Vec ℕ Global) S) where
  pub names_all : (count position : ℕ) → count ≡ length names → count ≤ position
      → ((q : Bor (List ℕ)) (j : ℕ) → Among j (under (get same_name places q)) ↔ ((slice_get (names_of names) j ≡ Some q.now) × (j < position))) → (count ≡ length (names_of names)) × ArePlaces (names_of names) places
  names_all count position counted past h =
      let long : count ≡ length (names_of names) = counted ∙ sym (length-map names (λ b. b.now)) in
      (long, (λ q j. ((λ a. ((h q j).0 a).0), (λ s. (h q j).1 (s, (let within = slice_get_within (names_of names) j q.now s in omega (arith, within, long)))))))

  module _ (whole : List (List ℕ)) (is : whole ≡ names_of names) (right_places : ArePlaces (names_of names) places) (name : Bor (List ℕ)) (j : ℕ) where
    pub name_found : (positions : Vec ℕ Global) (slice : List ℕ) → slice ≡ positions.items → get same_name places name ≡ Some positions → Among j slice ↔ (slice_get whole j ≡ Some name.now)
    name_found positions slice same found =
        subst (λ l. Among j l ↔ (slice_get whole j ≡ Some name.now)) (ap under found ∙ sym same) (subst (λ w. Among j (under (get same_name places name)) ↔ (slice_get w j ≡ Some name.now)) (sym is) (right_places name j))

    pub name_absent : get same_name places name ≡ None → ⊥ ↔ (slice_get whole j ≡ Some name.now)
    name_absent none = subst (λ o. Among j (under o) ↔ (slice_get whole j ≡ Some name.now)) none (subst (λ w. Among j (under (get same_name places name)) ↔ (slice_get w j ≡ Some name.now)) (sym is) (right_places name j))

-- one more end is noted
pub end_more : (ends : List PortEnd) (k : ℕ) (d : PortEnd) (q : ℕ) (x : PortEnd) (N M : Type 0) → k < length ends
    → N ↔ (M ⊎ ((x ≡ get_or ends k d) × IsTrue (nat_eq (get_or ends k d).interface q))) → M ↔ (Among x (take k ends) × (x.interface ≡ q)) → N ↔ (Among x (take (k + 1) ends) × (x.interface ≡ q))
end_more ends k d q x N M within now before =
    let last = get_or ends k d in
    let taken = take_more ends k d within in (
      (λ n. ⊎_elim (λ m. let b = before.0 m in (subst (Among x) (sym taken) (left x (take k ends) (last ∷ []) b.0), b.1))
          (λ s. (subst (Among x) (sym taken) (right x (take k ends) (last ∷ []) (inl s.0)), ap (λ e. e.interface) s.0 ∙ eqb-true last.interface q s.1)) (now.0 n)),
      (λ h. ⊎_elim (λ l. now.1 (inl (before.1 (l, h.1))))
          (λ r. ⊎_elim (λ (e : x ≡ last). now.1 (inr (e, eq-eqb last.interface q (ap (λ y. y.interface) (sym e) ∙ h.1)))) (λ no. absurd no) r)
          (cases x (take k ends) (last ∷ []) (subst (Among x) taken h.0))),
    )

pub ends_all : (ends : List PortEnd) (k q : ℕ) (x : PortEnd) (N : Type 0) → length ends ≤ k → N ↔ (Among x (take k ends) × (x.interface ≡ q)) → N ↔ (Among x ends × (x.interface ≡ q))
ends_all ends k q x N past h = subst (λ l. N ↔ (Among x l × (x.interface ≡ q))) (take_all k ends past) h

-- so many names are referred to
pub few_named : (names : List (Bor (List ℕ))) (all : List (List ℕ)) → names_of names ≡ all → length all < 2 ^ 32 → length names < 2 ^ 32
few_named names all are few =
    let same : length names ≡ length all = sym (length-map names (λ b. b.now)) ∙ ap length are in omega arith
