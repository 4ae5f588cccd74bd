use Rattle.trace_counts.proofs.Sessions.{session_numbers}
use Rattle.trace_counts.proofs.laws.texts_have_the_numbers_of_their_session.Goals as goal

pub returns : goal.returns
returns c = session_numbers
