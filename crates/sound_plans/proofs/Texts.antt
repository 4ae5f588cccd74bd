-- Names, and texts in parts.
use Rattle.std.proofs.Common.{◌≡◌, ℕ, List, [], ◌∷◌, ◌++◌, length, true, false, ◌&&◌, nat_eq, refl, sym, ap, ◌∙◌, codes, append_assoc, true≢false}
use Rattle.bus_semantics.specs.Common.{eq-eqb, ne_eqb, and_parts, and_from, or_left, list_all, is_letter, is_name_part, is_name, parts, is_pair_name}

-- ---- the same texts

-- ---- names have no separator

abbrev pub Free : ℕ → List ℕ → Type 0
Free s [] = Unit {0}
Free s (c ∷ cs) = (c ≡ s → ⊥) × Free s cs

parts_free : (s : ℕ) → is_name_part s ≡ false → (cs : List ℕ) → list_all is_name_part cs ≡ true → Free s cs
parts_free s none [] h = tt
parts_free s none (c ∷ cs) h =
    let p = and_parts (is_name_part c) (list_all is_name_part cs) h in
    ((λ e. true≢false (sym p.0 ∙ ap is_name_part e ∙ none)), parts_free s none cs p.1)

pub name_free : (s : ℕ) → is_name_part s ≡ false → (t : List ℕ) → is_name t ≡ true → Free s t
name_free s none [] h = tt
name_free s none (c ∷ cs) h =
    let p = and_parts (is_letter c) (list_all is_name_part cs && _) h in
    let q = and_parts (list_all is_name_part cs) _ p.1 in
    ((λ e. true≢false (sym (or_left (is_letter c) _ p.0) ∙ ap is_name_part e ∙ none)), parts_free s none cs q.0)

pub parts_whole : (s : ℕ) (t : List ℕ) → Free s t → parts s t ≡ t ∷ []
parts_whole s [] free = refl
parts_whole s (c ∷ cs) free =
    let differs : nat_eq c s ≡ false = ne_eqb c s free.0 in
    let rest = parts_whole s cs free.1 in
    rw (differs, rest)

pub parts_join : (s : ℕ) (t more : List ℕ) → Free s t → parts s (t ++ s ∷ more) ≡ t ∷ parts s more
parts_join s [] more free =
    let same : nat_eq s s ≡ true = eq-eqb s s refl in
    rw same
parts_join s (c ∷ cs) more free =
    let differs : nat_eq c s ≡ false = ne_eqb c s free.0 in
    let rest = parts_join s cs more free.1 in
    rw (differs, rest)

-- ---- PORT.ITEM

pub pair_parts : (port item : List ℕ) → is_name port ≡ true → is_name item ≡ true → parts 46 ((port ++ codes ".") ++ item) ≡ port ∷ (item ∷ [])
pair_parts port item is_port is_item =
    ap (parts 46) (append_assoc port (codes ".") item)
    ∙ parts_join 46 port item (name_free 46 refl port is_port)
    ∙ ap (λ l. port ∷ l) (parts_whole 46 item (name_free 46 refl item is_item))

pub pair_fits : (port item : List ℕ) → is_name port ≡ true → is_name item ≡ true → is_pair_name ((port ++ codes ".") ++ item) ≡ true
pair_fits port item is_port is_item =
    let all : list_all is_name (port ∷ (item ∷ [])) ≡ true = and_from (is_name port) _ is_port (and_from (is_name item) true is_item refl) in
    ap (λ (l : List (List ℕ)). nat_eq (length l) 2 && list_all is_name l) (pair_parts port item is_port is_item) ∙ all
