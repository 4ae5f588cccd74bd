use Rattle.area_objects.proofs.Misses as by
use Rattle.area_objects.proofs.laws.leads_miss_nothing.Goals as goal

pub returns : goal.returns
returns c = λ p m object sound k l n stands follows. by.missed_none p object k l stands.past stands.kept n.event m sound n.entry.actor n.entry.deed follows
