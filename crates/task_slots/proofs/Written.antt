-- A look that wrote its entry down.
use Rattle.std.proofs.Common.{◌≡◌, ◌<◌, ◌∙◌, ap, arith, List, [], ◌∷◌, ◌++◌, length, Some}
use Rattle.bus_semantics.specs.Common.{option_map_or, length-append}
use Rattle.bus_semantics.specs.declared.entries.Stamped.{Stamped}
use Rattle.port_objects.specs.declared.bench.Answered.TheVariants as answered
use Rattle.port_objects.specs.declared.bench.Benched.TheVariants.{Done, Contended}
use Rattle.port_objects.specs.Benches.{benched, written_last}
use Rattle.task_slots.specs.declared.look.Looks.TheVariants as looks
use Rattle.task_slots.specs.Look.{Made, Nothing, look_of, IsWrittenLook}

module _ (made : List Stamped) (s : Stamped) (last : written_last made ≡ Some s) where
  pub look_as : look_of looks.Made made ≡ Made s
  look_as = ap (λ o. option_map_or Made o Nothing) last

  pub benched_as : benched answered.Made made ≡ Done s
  benched_as = ap (λ o. option_map_or Done o Contended) last

-- by the law that an entry behind others is the last one
module _ (law : (before : List Stamped) (s : Stamped) → written_last (before ++ s ∷ []) ≡ Some s) (before after : List Stamped) (written : IsWrittenLook before after looks.Made) where
  pub last_is : written_last after ≡ Some written.0
  last_is = ap written_last written.1 ∙ law before written.0

  pub look_is : look_of looks.Made after ≡ Made written.0
  look_is = look_as after written.0 last_is

-- behind what was written before
pub written_on : (before middle after : List Stamped) → middle ≡ before → IsWrittenLook middle after looks.Made → IsWrittenLook before after looks.Made
written_on before middle after same written = (written.0, written.1 ∙ ap (λ xs. xs ++ written.0 ∷ []) same)

-- there is an entry
pub some_written : (before after : List Stamped) → IsWrittenLook before after looks.Made → 0 < length after
some_written before after written = omega (arith, ap length written.1, length-append before (written.0 ∷ []))
