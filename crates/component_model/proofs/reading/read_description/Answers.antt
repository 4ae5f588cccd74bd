use Rattle.serde_json.specs.View.{view}
use Rattle.component_model.specs.Descriptions.{description_of}
use Rattle.component_model.proofs.Judged as by
use Rattle.component_model.proofs.reading.read_description.Goals as goal

pub read-description-requires : goal.read-description-requires
read-description-requires c = c.requires.small (view c.in_ok-value.value) c.in_ok-value.ensures.unbroken.0.1

pub returns-clause-read : goal.returns-clause-read
returns-clause-read c =
    by.read c.args.bytes.now (view c.in_ok-value.value) (description_of c.in_ok-description.field-0) c.in_ok-value.ensures.unbroken c.in_ok-description.ensures
    c.checked.result c.checked.ensures.read c.checked.ensures.judged

pub returns-clause-refused : goal.returns-clause-refused
returns-clause-refused c =
    by.refused c.args.bytes.now (view c.in_ok-value.value) (description_of c.in_ok-description.field-0) c.in_ok-value.ensures.unbroken c.in_ok-description.ensures
    c.checked.result c.checked.ensures.judged
