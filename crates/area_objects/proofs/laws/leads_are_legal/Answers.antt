use Rattle.area_objects.proofs.Leads as by
use Rattle.area_objects.proofs.laws.leads_are_legal.Goals as goal

pub returns-clause-keep : goal.returns-clause-keep
returns-clause-keep c = λ p object before after l n stands touching proper leads.
    by.keep p object before after l stands.past stands.kept n.event n.entry.deed n.entry.actor touching leads
