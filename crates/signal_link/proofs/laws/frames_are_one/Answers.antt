use Rattle.signal_link.proofs.Streams.{same_frames}
use Rattle.signal_link.proofs.laws.frames_are_one.Goals as goal

pub returns : goal.returns
returns c = same_frames
