use Rattle.implicit_buffers.proofs.Unlisted.{fetches_elements, fetches}
use Rattle.implicit_buffers.proofs.laws.runnables_fetch_in_declared_order.Goals as goal

pub returns-clause-elements : goal.returns-clause-elements
returns-clause-elements c p r none = fetches_elements p r none

pub returns-clause-fetches : goal.returns-clause-fetches
returns-clause-fetches c p r none = fetches p r none
