use Rattle.port_objects.proofs.Answering.{Laws, made_is_one, held_is_none}
use Rattle.port_objects.proofs.laws.answers_are_what_may_come.Goals as goal

laws : (c : goal.After-leads_miss_nothing) → Laws
laws c = record {
  one = c.one_entry_of_a_wish.ensures;
  follows = c.leads_are_legal.ensures.follows;
  stands = c.leads_are_legal.ensures.stands;
  misses = c.leads_miss_nothing.ensures;
}

pub returns-clause-made : goal.returns-clause-made
returns-clause-made c = λ p m a w old new l e touching ask made. made_is_one (laws c) p m a w old new l e ask made

pub returns-clause-held : goal.returns-clause-held
returns-clause-held c = λ p m a w old new l shown touching ask held. held_is_none (laws c) p m a w old new l shown ask held
