use Rattle.script_run.proofs.Added.{added_is_session, cut_is_beginning}
use Rattle.script_run.proofs.laws.what_is_added_is_a_session.Goals as goal

pub returns : goal.returns
returns c = record { whole = added_is_session; cut = cut_is_beginning }
