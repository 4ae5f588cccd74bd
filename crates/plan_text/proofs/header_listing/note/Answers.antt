use Rattle.std.proofs.Common.{◌≡◌, ◌∙◌, ap, sym, refl, Some, option_map}
use Rattle.plan_text.specs.Calls.{seen}
use Rattle.plan_text.specs.Noting.{kept}
use Rattle.plan_text.specs.Targets.{name_of}
use Rattle.plan_text.proofs.Entries.{found_has, found_other, found_same, named_in, not_found}
use Rattle.plan_text.proofs.header_listing.note.Goals as goal

pub returns-in-Some-clause-noted : goal.returns-in-Some-clause-noted
returns-in-Some-clause-noted c =
    let named : c.as_slice.result.now ≡ name_of (seen c.args.call) = c.as_slice.ensures.value ∙ c.in_ok-name.ensures in
    let first : Some (seen c.in-Some.first) ≡ named_in (kept c.args.calls.now) (name_of (seen c.args.call)) =
    ap (option_map seen) (sym c.in-Some.is) ∙ c.find.ensures ∙ ap (named_in (kept c.args.calls.now)) named in
    (found_same (kept c.args.calls.now) (seen c.args.call) (seen c.in-Some.first) first (sym c.same_target.ensures ∙ c.if-same_target.true), refl)

pub returns-in-Some-2-clause-noted : goal.returns-in-Some-2-clause-noted
returns-in-Some-2-clause-noted c =
    let named : c.as_slice.result.now ≡ name_of (seen c.args.call) = c.as_slice.ensures.value ∙ c.in_ok-name.ensures in
    let first : Some (seen c.in-Some.first) ≡ named_in (kept c.args.calls.now) (name_of (seen c.args.call)) =
    ap (option_map seen) (sym c.in-Some.is) ∙ c.find.ensures ∙ ap (named_in (kept c.args.calls.now)) named in (
      found_has (kept c.args.calls.now) (name_of (seen c.args.call)) (seen c.in-Some.first) first,
      found_other (kept c.args.calls.now) (seen c.args.call) (seen c.in-Some.first) c.requires.own_names first (sym c.same_target.ensures ∙ c.if-same_target.false),
    )

pub keep-requires-clause-new : goal.keep-requires-clause-new
keep-requires-clause-new c =
    let named : c.as_slice.result.now ≡ name_of (seen c.args.call) = c.as_slice.ensures.value ∙ c.in_ok-name.ensures in
    not_found (kept c.args.calls.now) (name_of (seen c.args.call)) (ap (option_map seen) (sym c.in-None.is) ∙ c.find.ensures ∙ ap (named_in (kept c.args.calls.now)) named)

pub returns-clause-noted : goal.returns-clause-noted
returns-clause-noted c =
    let named : c.as_slice.result.now ≡ name_of (seen c.args.call) = c.as_slice.ensures.value ∙ c.in_ok-name.ensures in (
      not_found (kept c.args.calls.now) (name_of (seen c.args.call)) (ap (option_map seen) (sym c.in-None.is) ∙ c.find.ensures ∙ ap (named_in (kept c.args.calls.now)) named),
      c.in_ok-keep-in-None.ensures.last,
    )
