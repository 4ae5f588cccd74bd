use Rattle.area_objects.specs.Layout.{area_of}
use Rattle.area_objects.proofs.Holders.{holder_of, open_is_held, one_open, state_of}
use Rattle.area_objects.proofs.laws.held_areas_have_one_holder.Goals as goal

pub returns-clause-entered : goal.returns-clause-entered
returns-clause-entered c = λ p object l past held. let holder = holder_of (area_of p object) l (state_of p object l past) held in (holder.key, holder.opens)

pub returns-clause-held : goal.returns-clause-held
returns-clause-held c = λ p object l key past opens. open_is_held (area_of p object) l key (state_of p object l past) opens

pub returns-clause-one : goal.returns-clause-one
returns-clause-one c = λ p object l j k past this other. one_open (area_of p object) l j k (state_of p object l past) this other
