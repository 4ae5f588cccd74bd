use Rattle.std.proofs.Common.{sym, ◌∙◌}
use Rattle.composition_tables.proofs.Members.{found_key, find_key}
use Rattle.end_crossing.proofs.SameCrossings.{crossing_is, itself_crossing}
use Rattle.end_crossing.proofs.matched.Matched.is_crossed.Goals as goal

pub returns : goal.returns
returns c = (
  (λ h. found_key _ crossing_is itself_crossing c.args.crossing c.args.self.now.crossed.keys (sym c.contains.ensures ∙ h)),
  (λ a. c.contains.ensures ∙ find_key _ crossing_is itself_crossing c.args.crossing c.args.self.now.crossed.keys a),
)
