use Rattle.std.proofs.Common.{sym, ◌∙◌}
use Rattle.composition_tables.proofs.Members.{found_key, find_key}
use Rattle.end_search.proofs.SameEnds.{same_pair, itself_pair}
use Rattle.end_crossing.proofs.matched.Matched.is_done.Goals as goal

pub returns : goal.returns
returns c = (
  (λ h. found_key _ same_pair itself_pair (c.args.provided, c.args.required) c.args.self.now.done.keys (sym c.contains.ensures ∙ h)),
  (λ a. c.contains.ensures ∙ find_key _ same_pair itself_pair (c.args.provided, c.args.required) c.args.self.now.done.keys a),
)
