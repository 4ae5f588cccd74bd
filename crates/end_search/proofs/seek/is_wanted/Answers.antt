use Rattle.std.proofs.Common.{◌∙◌, ◌↔◌, IsTrue, true, refl, sym, subst}
use Rattle.end_search.specs.Wishes.{IsWanted}
use Rattle.composition_tables.proofs.Members.{found, find_key, same_number, itself_number}
use Rattle.end_search.proofs.seek.is_wanted.Goals as goal

pub returns-in-Anything : goal.returns-in-Anything
returns-in-Anything c = subst (λ w. IsTrue true ↔ IsWanted w c.args.interface) (sym c.in-Anything.is) ((λ _. tt), (λ _. refl))

pub returns-in-Only : goal.returns-in-Only
returns-in-Only c = subst (λ w. IsTrue c.contains.result ↔ IsWanted w c.args.interface) (sym c.in-Only.is) (
  (λ h. found c.args.interface _ (sym c.contains.ensures ∙ h)),
  (λ a. c.contains.ensures ∙ find_key _ same_number itself_number c.args.interface _ a),
)
