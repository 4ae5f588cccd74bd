use Rattle.description_places.proofs.Unbroken as by
use Rattle.description_places.proofs.laws.unbroken_descriptions.Goals as goal

pub returns-clause-shapes : goal.returns-clause-shapes
returns-clause-shapes c = by.shapes

pub returns-clause-names : goal.returns-clause-names
returns-clause-names c = by.names

pub returns-clause-distinct : goal.returns-clause-distinct
returns-clause-distinct c = by.distinct

pub returns-clause-references : goal.returns-clause-references
returns-clause-references c = by.references
