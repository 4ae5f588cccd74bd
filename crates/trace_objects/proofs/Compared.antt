-- What comes of comparing the entry that may come with the one that is tried.
use Rattle.std.proofs.Common.{◌≡◌, true, refl, sym, ◌∙◌, ap, subst, None}
use Rattle.bus_laws.specs.Common.{Deed, Entry}
use Rattle.bus_semantics.specs.Common.{Plan, Wanted, Past}
use Rattle.port_objects.specs.Common.{Kept, IsTheOne, is_free, IsFree}
use Rattle.trace_objects.specs.declared.came.Came.{Came}
use Rattle.trace_objects.specs.declared.came.Came.TheVariants.{Itself, Another, Nothing}
use Rattle.trace_objects.specs.Clauses.{broken_by}
use Rattle.trace_objects.specs.Standing.{IsCompared, IsMadeOn, IsMadeAlone}

pub made_on : (p : Plan) (w : Wanted) (after : Kept) (l : Past) (e made : Entry) (came : Came) → IsCompared made e came → IsTheOne p e.actor w after l made → IsMadeOn p w after l e came
made_on p w after l e made Itself same one = subst (λ x. IsTheOne p e.actor w after l x) same one
made_on p w after l e made Another other one = record { entry = made; comes = one.comes; other = λ n comes is. other (sym (one.only n comes) ∙ is) }
made_on p w after l e made Nothing never one = absurd never

pub alone : (w : Wanted) (e : Entry) (d : Deed) (came : Came) → IsCompared (record { actor = e.actor; deed = d }) e came → is_free w ≡ true → IsFree w d → IsMadeAlone w e came
alone w e d Itself same free is = (free, subst (IsFree w) (ap (λ (x : Entry). x.deed) same) is)
alone w e d Another other free is = record { deed = d; free = free; answer = is; other = other }
alone w e d Nothing never free is = absurd never

-- what breaks no clause came itself
pub unbroken_itself : (e : Entry) (came : Came) → broken_by e came ≡ None → came ≡ Itself
unbroken_itself e Itself none = refl
unbroken_itself e Another none = absurd (cc none)
unbroken_itself e Nothing none = absurd (cc none)
