-- How many variables a program has at most.
use Rattle.std.proofs.Common.{◌≡◌, ℕ, zero, suc, ◌+◌, ◌^◌, ◌<◌, ◌≤◌, Bool, true, false, cond, List, [], ◌∷◌, ◌++◌, bytes_eq, length, map, take, Bor, sym, ap, subst, ◌∙◌, arith}
use Rattle.std.proofs.lemmas.List.{length-append, length-map}
use Rattle.std.specs.List.{list_any}
use Rattle.serde_json.specs.Data.{Data, null, boolean, number, string, array, object, Items, no_items, item}
use Rattle.description_shapes.specs.Alternatives.{resolved}
use Rattle.description_shapes.specs.declared.kind.Kind.{Kind}
use Rattle.description_shapes.specs.declared.kind.Kind.TheVariants.{Statements}
use Rattle.description_shapes.specs.Forms.{form_of}
use Rattle.description_shapes.specs.Visits.{part_of}
use Rattle.declared_names.specs.Names.{Names, text_of}
use Rattle.declared_names.specs.Sizes.{size, items_size}
use Rattle.program_reading.specs.Variables.{added, all_added, among_parts, name_here, names_in, names_in_each}

taken_length : {X : Type 0} (i : ℕ) (xs : List X) → length (take i xs) ≤ length xs
taken_length zero [] = omega arith
taken_length (suc i) [] = omega arith
taken_length zero (x ∷ xs) = omega arith
taken_length (suc i) (x ∷ xs) = omega (arith, taken_length i xs)

-- names that were copied
pub few_taken : (all : Names) (i : ℕ) (names : List (Bor (List ℕ))) → map text_of names ≡ take i all → length all < 2 ^ 32 → length names < 2 ^ 32
few_taken all i names are few =
    let same : length names ≡ length (take i all) = sym (length-map names text_of) ∙ ap length are in
    omega (arith, same, taken_length i all, few)

chosen_length : (b : Bool) (vars : Names) (name : List ℕ) → length (cond b vars (vars ++ name ∷ [])) ≤ length vars + 1
chosen_length true vars name = omega arith
chosen_length false vars name = omega (arith, length-append vars (name ∷ []))

added_length : (vars ns : Names) → length (all_added vars ns) ≤ length vars + length ns
added_length vars [] = omega arith
added_length vars (n ∷ ns) = omega (arith, added_length (added vars n) ns, chosen_length (list_any (bytes_eq n) vars) vars n)

here_length : (kind : Kind) (name : List ℕ) → length (name_here kind name) ≤ 1
here_length kind name = grind arith

mutual
  names_length : (d : Data) (kind : Kind) → length (names_in d kind) ≤ size d
  names_length null kind = omega arith
  names_length (boolean b) kind = omega arith
  names_length (number n) kind = omega arith
  names_length (string t) kind = here_length (resolved kind (string t)) t
  names_length (array ds) kind = omega (arith, parts_length ds (part_of (form_of (resolved kind (array ds))) (resolved kind (array ds))) 0)
  names_length (object ms) kind = omega arith

  parts_length : (ds : Items) (kinds : ℕ → Kind) (i : ℕ) → length (among_parts kinds i (names_in_each ds)) ≤ items_size ds
  parts_length no_items kinds i = omega arith
  parts_length (item d ds) kinds i =
      omega (arith, length-append (names_in d (kinds i)) (among_parts kinds (i + 1) (names_in_each ds)), names_length d (kinds i), parts_length ds kinds (i + 1))

-- the variables of a program
pub few_variables : (first : Names) (d : Data) (vars : Names) (n : ℕ) → vars ≡ all_added (all_added [] first) (names_in d Statements) → n ≡ length first → n + size d < 2 ^ 32 → length vars < 2 ^ 32
few_variables first d vars n are same few =
    subst (λ vs. length vs < 2 ^ 32) (sym are)
    (omega (arith, few, same, added_length [] first, names_length d Statements, added_length (all_added [] first) (names_in d Statements)))
