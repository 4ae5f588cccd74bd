use Rattle.feed_queue.specs.Given.{lengths_of}
use Rattle.live_lanes.proofs.beside.run_beside.Given as goal

abbrev pub ghosts-run_over : goal.ghosts-run_over
ghosts-run_over g a = record { lengths = lengths_of a.feeds.now }
