use Rattle.std.proofs.Common.{sym, ◌∙◌}
use Rattle.trace_reading.proofs.Sessions.{one_session, one_version}
use Rattle.trace_reading.proofs.laws.texts_have_one_session.Goals as goal

pub returns : goal.returns
returns c = record {
  one_text = λ p v s t u a b. a ∙ sym b;
  one_version = one_version;
  one_session = one_session;
}
