-- What comes of a look at a wish, or at the wishes of a slot, with the entry that was made.
use Rattle.std.specs.Prelude.{◌≡◌, ℕ, List, [], ◌∷◌, ◌++◌}
use Rattle.std.specs.Option.{option_map_or}
use Rattle.bus_semantics.specs.declared.entries.Stamped.{Stamped}
use Rattle.port_objects.specs.Benches.{written_last}
use Rattle.task_slots.specs.declared.look.Looks.{Looks}
use Rattle.task_slots.specs.declared.look.Looks.TheVariants as looks

-- this entry was made, or nothing may come now, or another core holds the object
pub data Look : Type 0 where
  Made : Stamped → Look
  Nothing : Look
  Contended : (object : ℕ) → Look

-- a look with the entry that it wrote down in this list; if `IsWrittenLook` holds, `Made` is `Made` of an entry
abbrev pub look_of : Looks → (made : List Stamped) → Look
look_of looks.Made made = option_map_or Made (written_last made) Nothing
look_of looks.Nothing made = Nothing
look_of (looks.Contended object) made = Contended object

-- one entry was written down behind the others, or none
abbrev pub IsWrittenLook : (before after : List Stamped) → Looks → Type 0
IsWrittenLook before after looks.Made = (s : Stamped) × (after ≡ before ++ s ∷ [])
IsWrittenLook before after l = after ≡ before
