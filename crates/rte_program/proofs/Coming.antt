-- The answer that comes over files that are held: that of the one verdict on them, unless a fault came.
use Rattle.std.proofs.Common.{◌≡◌, ℕ, zero, suc, ◌<◌, List, [], ◌∷◌, length, slice_get, Option, Some, refl, sym, ap, ◌∙◌, subst, inl, inr, arith}
use Rattle.std.specs.Prelude.{IsSomeAnd}
use Rattle.rte_text.specs.Counts.{Rose}
use Rattle.rte_text.specs.Shelves.{ToldFiles, HeldWhereTold, LongWhereTold, ShelfCounts}
use Rattle.commands.specs.declared.status.Status.{Status}
use Rattle.rte_program.specs.Answers.{AnswersUnlessFault, AreHeld, IsHeld}
use Rattle.commands.specs.Carrying.{Ends, World}
use Rattle.commands.specs.Commands.{Bytes, Words, Command, command_of, files_of}
use Rattle.commands.specs.Fetching.{AreHeldWhereTold, IsUnread}
use Rattle.commands.specs.Verdicts.{Verdict, IsVerdictOn, SaysVerdict, status_of}
use Rattle.rte_program.proofs.Ending.{Ending, ending, unread, unread_cut, unfetched, told, told_cut, broke_off, no_memory}

-- what the law of verdicts says
abbrev pub VerdictsAreOne : Type 0
VerdictsAreOne = (command : Command) (files : List Bytes) (v w : Verdict) → IsVerdictOn command files v → IsVerdictOn command files w → v ≡ w

held_once : (files : ToldFiles) (name bytes other : Bytes) → IsHeld files name bytes → HeldWhereTold files name other → other ≡ bytes
held_once files name bytes other held where_told =
    let is : held.held name ≡ Some other = subst (λ t. HeldWhereTold t name other) held.told_is where_told in
    let same : Some other ≡ Some bytes = sym is ∙ held.bytes_are in
    cc

same_files : (files : ToldFiles) (names bytes others : List Bytes) → AreHeld files names bytes → AreHeldWhereTold files names others → others ≡ bytes
same_files files [] [] [] held where_told = refl
same_files files (n ∷ ns) (b ∷ bs) (o ∷ os) held where_told =
    let one : o ≡ b = held_once files n b o held.0 where_told.0 in
    let rest : os ≡ bs = same_files files ns bs os held.1 where_told.1 in
    cc
same_files files [] (b ∷ bs) os held where_told = absurd held
same_files files (n ∷ ns) [] os held where_told = absurd held
same_files files [] [] (o ∷ os) held where_told = absurd where_told
same_files files (n ∷ ns) (b ∷ bs) [] held where_told = absurd where_told

held_at : (files : ToldFiles) (names bytes : List Bytes) (i : ℕ) (name : Bytes) → AreHeld files names bytes → slice_get names i ≡ Some name → (one : Bytes) × IsHeld files name one
held_at files [] bs i name held is = absurd cc
held_at files (n ∷ ns) (b ∷ bs) zero name held is = let same : n ≡ name = cc in (b, subst (λ x. IsHeld files x b) same held.0)
held_at files (n ∷ ns) (b ∷ bs) (suc i) name held is = held_at files ns bs i name held.1 is
held_at files (n ∷ ns) [] i name held is = absurd held

not_long : (files : ToldFiles) (name bytes : Bytes) → IsHeld files name bytes → LongWhereTold files name → ⊥
not_long files name bytes held long =
    let is : IsSomeAnd (held.held name) (λ b. 8388608 < length b) = subst (λ (t : ToldFiles). LongWhereTold t name) held.told_is long in
    let more : 8388608 < length bytes = subst (λ (o : Option Bytes). IsSomeAnd o (λ b. 8388608 < length b)) held.bytes_are is in
    let fits = held.within_limit in
    omega (arith, more, fits)

-- a file that is held was not read by a fault alone
rose : (files : ToldFiles) (names bytes : List Bytes) (i : ℕ) (name : Bytes) (b a : ShelfCounts) → AreHeld files names bytes → slice_get names i ≡ Some name → IsUnread files name b a → Rose b.faults a.faults
rose files names bytes i name b a held is (inl r) = r
rose files names bytes i name b a held is (inr long) = let one = held_at files names bytes i name held is in absurd (not_long files name one.0 one.1 long.1)

module _ (one : VerdictsAreOne) (words : Words) (command : Command) (given : command_of words ≡ Some command) (answer : Status) (b a : World)
    (asked : Command) (files : List Bytes) (verdict : Verdict) (asked_is : command_of words ≡ Some asked) (held : AreHeld b.files (files_of asked) files) (verdict_is : IsVerdictOn asked files verdict) where
  same_command : command ≡ asked
  same_command = let e : Some command ≡ Some asked = sym given ∙ asked_is in cc

  comes_by : Ending asked answer b a → AnswersUnlessFault asked files verdict answer b.told a.told b.counts.faults a.counts.faults b.faults a.faults
  comes_by (unread x w) = let u = x.unread in inr (inr (inl (w.status_is, rose b.files (files_of asked) files u.index u.name b.counts a.counts held u.name_is u.unread)))
  comes_by (unread_cut x c) = inr (inr (inr (c.status_is, c.rose)))
  comes_by (unfetched x) = let said = x.unsaid in inr (inl said.status_is)
  comes_by (told x t w) =
      let same : x.files ≡ files = same_files b.files (files_of asked) files x.files held x.held in
      let is : t.verdict ≡ verdict = one asked files t.verdict verdict (subst (λ fs. IsVerdictOn asked fs t.verdict) same t.verdict_is) verdict_is in
      inl (record {
        status_is = w.status_is ∙ ap status_of is;
        text = t.text;
        said = subst (λ v. SaysVerdict asked files v t.text) is (subst (λ fs. SaysVerdict asked fs t.verdict t.text) same t.said);
        put = w.told;
      })
  comes_by (told_cut x t c) = inr (inr (inr (c.status_is, c.rose)))
  comes_by (broke_off x o) = inr (inr (inr (o.status_is, o.rose)))
  comes_by (no_memory x m) = inr (inl m.status_is)

  pub comes : Ends command answer b a → AnswersUnlessFault asked files verdict answer b.told a.told b.counts.faults a.counts.faults b.faults a.faults
  comes e = comes_by (ending asked answer b a (subst (λ c. Ends c answer b a) same_command e))
