use Rattle.description_stages.proofs.Beginning.{whole_of}
use Rattle.description_stages.proofs.Fields as by
use Rattle.component_model.specs.Descriptions.{description_of}
use Rattle.description_stages.proofs.laws.read_descriptions_are_well_formed.Goals as goal

pub returns : goal.returns
returns c = λ bytes d short read. by.whole d (whole_of (record {
  shapes = c.unbroken_descriptions.ensures.shapes;
  names = c.unbroken_descriptions.ensures.names;
  distinct = c.unbroken_descriptions.ensures.distinct;
  references = c.unbroken_descriptions.ensures.references;
}) bytes (description_of d) read)
