use Rattle.std.proofs.Common.{subst}
use Rattle.description_types.specs.Members.{Among}
use Rattle.end_search.proofs.seek.nothing_known.Goals as goal

pub returns-clause-known : goal.returns-clause-known
returns-clause-known c = λ d w. record {
  sound = λ x h. absurd (subst (Among x) c.new-2.ensures.empty h);
  stays = λ x h. absurd h;
  has = λ _ x a. absurd (subst (Among a.0) c.new.ensures.items a.1);
}
