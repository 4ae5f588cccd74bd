use Rattle.std.proofs.Common.{◌<◌, ◌^◌, length, inr, arith}
use Rattle.description_stages.proofs.FewParts.{has_few_parts}
use Rattle.description_stages.proofs.Limits.{few_instances, few_joins}
use Rattle.description_stages.proofs.Whole.{planned_of}
use Rattle.description_stages.proofs.planning.plan_description.Goals as goal

pub planned-requires-clause-types : goal.planned-requires-clause-types
planned-requires-clause-types c =
    let short : length c.args.bytes.now < 2 ^ 64 = omega arith in
    (c.read_descriptions_are_well_formed.ensures c.args.bytes.now c.in_ok-joined.joined.description short c.in_ok-joined.ensures.joined.is_read).types

pub planned-requires-clause-parts : goal.planned-requires-clause-parts
planned-requires-clause-parts c = has_few_parts c.args.bytes.now c.in_ok-joined.joined.description c.in_ok-joined.ensures.joined.is_read c.requires

pub planned-requires-clause-instances : goal.planned-requires-clause-instances
planned-requires-clause-instances c = few_instances c.in_ok-joined.joined.description c.in_ok-joined.joined.flat c.in_ok-joined.ensures.joined.is_flat

pub planned-requires-clause-joins : goal.planned-requires-clause-joins
planned-requires-clause-joins c = few_joins c.in_ok-joined.joined.description c.in_ok-joined.joined.flat c.in_ok-joined.ensures.joined.is_flat

pub returns-in-Ok-clause-planned : goal.returns-in-Ok-clause-planned
returns-in-Ok-clause-planned c =
    let short : length c.args.bytes.now < 2 ^ 64 = omega arith in
    planned_of c.read_descriptions_are_well_formed.ensures c.plans_are_sound.ensures c.args.bytes.now short c.in_ok-joined.joined c.in-Ok.found c.in_ok-joined.ensures.joined c.in-Ok.ensures.planned

pub returns-in-Err-clause-refused : goal.returns-in-Err-clause-refused
returns-in-Err-clause-refused c = inr (record { joined = c.in_ok-joined.joined; is_joined = c.in_ok-joined.ensures.joined; is_refusal = c.in-Err.ensures.refused })
