-- Gates and the ends below them.
use Rattle.std.proofs.Common.{◌≡◌, ℕ, List, ⊎_elim, sym, ap, subst}
use Rattle.description_types.specs.declared.description.Description.{Description}
use Rattle.end_search.specs.declared.gates.Gate.{Gate}
use Rattle.end_search.specs.declared.gates.Gate.TheVariants.{Outer}
use Rattle.end_search.specs.declared.seek.Found.{Found}
use Rattle.end_search.specs.declared.seek.Wanted.{Wanted}
use Rattle.composition_tables.specs.declared.tree.PortEnd.{PortEnd}
use Rattle.end_search.specs.Gates.{gate_ends}
use Rattle.description_types.specs.Members.{Among}
use Rattle.end_search.specs.Wishes.{AreFound}

pub at_gate : (d : Description) (w : Wanted) (gate is : Gate) → gate ≡ is → (found : Found) → AreFound w (gate_ends d is) found → AreFound w (gate_ends d gate) found
at_gate d w gate is same found h = subst (λ g. AreFound w (gate_ends d g) found) (sym same) h

pub outer_below : (d : Description) (gate : Gate) (port interface : ℕ) → gate ≡ Outer port interface → (found : List ℕ) → Among interface found → (x : PortEnd) → Among x (gate_ends d gate) → Among x.interface found
outer_below d gate port interface is found h x a = ⊎_elim (λ e. subst (λ m. Among m found) (sym (ap (λ (p : PortEnd). p.interface) e)) h) (λ no. absurd no) (subst (λ g. Among x (gate_ends d g)) is a)
