use Rattle.std.proofs.Common.{◌+◌, ◌*◌, length}
use Rattle.thread_starts.proofs.starting.+starts.Given as goal

abbrev pub decreases-start_both-back : goal.decreases-start_both-back
decreases-start_both-back g l = 4 * length l.rest.now + 1

abbrev pub decreases-start_both : goal.decreases-start_both
decreases-start_both g l = 4 * length l.rest.now + 3

abbrev pub decreases-start_from : goal.decreases-start_from
decreases-start_from g l = 4 * length l.s.now
