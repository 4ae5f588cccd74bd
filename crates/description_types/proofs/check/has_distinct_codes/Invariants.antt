use Rattle.std.proofs.Common.{◌≡◌, ◌&&◌, drop, length}
use Rattle.description_types.specs.Refusals.{has_distinct_codes}
use Rattle.description_types.proofs.Codes.{are_new}
use Rattle.description_types.proofs.check.has_distinct_codes.Given as goal

abbrev pub invariant-loop-error : goal.invariant-loop-error
invariant-loop-error l = record {
  every_code : length l.seen ≡ 256;
  is_left : has_distinct_codes l.errors ≡ (are_new l.seen (drop l.error-index l.errors) && has_distinct_codes (drop l.error-index l.errors));
}
