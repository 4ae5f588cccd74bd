use Rattle.bus_laws.proofs.Local as by
use Rattle.bus_laws.proofs.object_laws.answers_look_at_one_object.Goals as goal

pub returns-clause-touching : goal.returns-clause-touching
returns-clause-touching c = by.touching

pub returns-clause-free : goal.returns-clause-free
returns-clause-free c = by.free

pub returns-clause-legal : goal.returns-clause-legal
returns-clause-legal c = by.proper_legal
