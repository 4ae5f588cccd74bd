use Rattle.history_laws.proofs.Asking as by
use Rattle.history_laws.proofs.laws.activations_ask_what_fits.Goals as goal

pub returns-clause-fits : goal.returns-clause-fits
returns-clause-fits c p m k r event start answers w of next = by.fits p m k r event of start answers w next

pub returns-clause-own : goal.returns-clause-own
returns-clause-own c p m k r event start answers w of next = by.own p m k r event of start answers w next

pub returns-clause-begun : goal.returns-clause-begun
returns-clause-begun c p m k r event start answers w of next = by.begun p m k r event of start answers w next

pub returns-clause-end : goal.returns-clause-end
returns-clause-end c p m k r event start answers other of next = by.end_own p m k r event of start answers other next

pub returns-clause-given : goal.returns-clause-given
returns-clause-given c p m k r event start answers w of next = by.given p m k r event of start answers w next

pub returns-clause-short : goal.returns-clause-short
returns-clause-short c p m k r event start answers w of next = by.short p m k r event of start answers w next

pub returns-clause-value : goal.returns-clause-value
returns-clause-value c p m k r event start answers w of next = by.valued p m k r event of start answers w next
