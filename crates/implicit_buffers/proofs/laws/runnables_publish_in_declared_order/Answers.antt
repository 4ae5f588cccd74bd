use Rattle.implicit_buffers.proofs.Unlisted.{publishes_elements, publications}
use Rattle.implicit_buffers.proofs.laws.runnables_publish_in_declared_order.Goals as goal

pub returns-clause-elements : goal.returns-clause-elements
returns-clause-elements c p r none = publishes_elements p r none

pub returns-clause-publications : goal.returns-clause-publications
returns-clause-publications c p r none = publications p r none
