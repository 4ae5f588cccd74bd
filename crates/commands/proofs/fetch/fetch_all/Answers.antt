use Rattle.std.proofs.Common.{◌≡◌, ◌+◌, ◌++◌, ◌∷◌, [], ◌∙◌, ap, arith, refl, rules}
use Rattle.commands.proofs.Fetched as by
use Rattle.commands.proofs.fetch.fetch_all.Goals as goal

pub loop-name-init : goal.loop-name-init
loop-name-init g c = (refl, refl, rw c.new-files.ensures.items (by.none_yet _ _ _))

pub overflow_add-place : goal.overflow_add-place
overflow_add-place g c = omega (arith, c.loop-name.invariant.0, c.loop-name-test.true, c.requires.few)

pub returns-then-is_err-clause-files_stay : goal.returns-then-is_err-clause-files_stay
returns-then-is_err-clause-files_stay g c = c.fetch_one.ensures.files_stay ∙ c.loop-name.invariant.1

pub returns-then-is_err-clause-stopped : goal.returns-then-is_err-clause-stopped
returns-then-is_err-clause-stopped g c = c.in-Ok.ensures.counts ∙ c.loop-name.invariant.2.counts

pub returns-in-Err-clause-files_stay : goal.returns-in-Err-clause-files_stay
returns-in-Err-clause-files_stay g c = c.fetch_one.ensures.files_stay ∙ c.loop-name.invariant.1

pub returns-in-Err-clause-stopped : goal.returns-in-Err-clause-stopped
returns-in-Err-clause-stopped g c = by.none _ _ _ _ c.loop-name.invariant.1 _ _ _ _ _ _ c.args.names.now c.loop-name.name-index _ c.loop-name.files.items c.loop-name-test.true c.requires.few c.loop-name.invariant.2 c.fetch_one.ensures.fetched
    (c.loop-name.place + 1) (ap (λ n. n + 1) c.loop-name.invariant.0) c.in-Err.stop c.in-Err.ensures.stopped

pub loop-name-preserved : goal.loop-name-preserved
loop-name-preserved g c =
    let grown : c.push.new.self.items ≡ c.loop-name.files.items ++ c.in-Ok.file ∷ [] = search rules in (
      ap (λ n. n + 1) c.loop-name.invariant.0,
      c.fetch_one.ensures.files_stay ∙ c.loop-name.invariant.1,
      rw grown (by.next _ _ _ _ c.loop-name.invariant.1 _ _ _ _ _ _ c.args.names.now c.loop-name.name-index _ c.loop-name.files.items c.loop-name-test.true c.requires.few c.loop-name.invariant.2 c.fetch_one.ensures.fetched
          c.in-Ok.file c.in-Ok.ensures.held c.in-Ok.ensures.within c.in-Ok.ensures.counts),
    )

pub returns-clause-files_stay : goal.returns-clause-files_stay
returns-clause-files_stay g c = c.loop-name.invariant.1

pub returns-clause-held : goal.returns-clause-held
returns-clause-held g c = by.all _ _ _ c.args.names.now c.loop-name.name-index c.loop-name.files.items c.loop-name-test.false c.loop-name.invariant.2.held

pub returns-clause-within : goal.returns-clause-within
returns-clause-within g c = c.loop-name.invariant.2.within

pub returns-clause-counts : goal.returns-clause-counts
returns-clause-counts g c = c.loop-name.invariant.2.counts
