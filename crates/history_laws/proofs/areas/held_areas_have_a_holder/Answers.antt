use Rattle.history_laws.proofs.Holders as by
use Rattle.history_laws.proofs.areas.held_areas_have_a_holder.Goals as goal

pub returns-clause-held : goal.returns-clause-held
returns-clause-held c p m h area sound legal held = by.has_holder p m sound area h legal held

pub returns-clause-inside : goal.returns-clause-inside
returns-clause-inside c p m h area k sound legal inside = by.is_taken p m sound area h k legal inside

pub returns-clause-alone : goal.returns-clause-alone
returns-clause-alone c p m h area one other sound legal first second = by.alone p m sound area h one other legal first second

pub returns-clause-last : goal.returns-clause-last
returns-clause-last c p m h area k sound legal inside = by.last_entered p m sound area h k legal inside
