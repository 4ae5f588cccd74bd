-- Looking up a file by its name.
use Rattle.std.proofs.Common.{◌≡◌, ℕ, Some, List, [], ◌∷◌, map, refl, string_bytes, Bool, true, false, cond, String, Global, Vec}
use Rattle.std.specs.Prelude.{find, bytes_eq, option_map}
use Rattle.rte_text.specs.MemoryShelves.{file_named}

-- the type of a held file
abbrev Held : Type 0
Held = String Global × Vec ℕ Global

-- a held file as its name and its bytes
abbrev named : Held → List ℕ × List ℕ
named file = (string_bytes file.0, file.1.items)

-- whether it has this name
abbrev has_name : List ℕ → Held → Bool
has_name name file = bytes_eq (string_bytes file.0) name

-- the bytes under a name are those of the first file that has it
pub file_named-first : (files : List Held) (name : List ℕ)
    → file_named (map named files) name ≡ option_map (λ (file : Held). file.1.items) (find (has_name name) files)
file_named-first [] name = refl
file_named-first (file ∷ files) name =
    elim (has_name name file) as (λ b.
    option_map (λ (f : List ℕ × List ℕ). f.1) (cond b (Some (named file)) (find (λ f. bytes_eq f.0 name) (map named files)))
    ≡ option_map (λ (f : Held). f.1.items) (cond b (Some file) (find (has_name name) files)))
    [ true ↦ refl | false ↦ file_named-first files name ]
