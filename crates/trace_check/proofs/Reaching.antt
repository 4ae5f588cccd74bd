-- How far the check has come, line by line.
use Rattle.std.proofs.Common.{◌≡◌, ◌≢◌, ◌⊎◌, ℕ, suc, ◌+◌, ◌<◌, ◌==◌, true, false, [], ◌∷◌, ◌++◌, length, codes, refl, inl, inr, sym, ap, ◌∙◌, subst, append_assoc, length-append, arith}
use Rattle.bus_semantics.specs.Common.{list_all, and_from, false≢true, append-nil, IsReadingOf, item_fits, Item, Session, IsSessionOf, made, run_begins, run_closes, idle, unsettled, Letters}
use Rattle.bus_semantics.specs.Common.{header, item_text, spelling_of}
use Rattle.bus_semantics.specs.declared.version.Version.{Version}
use Rattle.trace_reading.specs.declared.checked.Checked.TheVariants.{Legal, BadLine, Illegal}
use Rattle.trace_reading.specs.Verdicts.{GoesOn}
use Rattle.trace_reading.specs.Reads.{ItemsHaveOneLine, Reads}
use Rattle.trace_reading.specs.declared.reading.LineRead.{LineRead}
use Rattle.trace_reading.specs.declared.reading.LineRead.TheVariants as read
use Rattle.trace_check.specs.declared.rules.Rules.{Rules}
use Rattle.trace_check.specs.declared.check.Check.{Check}
use Rattle.trace_check.specs.declared.check.Judged.{Judged}
use Rattle.trace_check.specs.declared.check.Judged.TheVariants.{Accepted, Bad, Refused}
use Rattle.trace_check.specs.Along.{plan_in}
use Rattle.trace_check.specs.Checking.{Judges, JudgesRead, Stands}
use Rattle.trace_check.specs.FirstLines.{Ends, IsFirstLine}
use Rattle.trace_check.specs.Lines.{Reaches, VerdictOf}
use Rattle.trace_check.proofs.Judging.{begins}
use Rattle.trace_check.proofs.LineCuts.{first_is}

-- ---- a first line takes something away

pub some_left : (t : Letters) → (length t == 0) ≡ false → t ≢ []
some_left t some none = false≢true (sym some ∙ ap (λ u. length u == 0) none)

pub shorter : (line more left : Letters) → IsFirstLine line more → left ≡ line ++ more → left ≢ [] → length more < length left
shorter line more left first whole some = elim first [ inl ends ↦ ended ends | inr rest ↦ opened rest.1 ]
  where
    sum : length left ≡ length line + length more
    sum = ap length whole ∙ length-append line more

    ended : Ends line → length more < length left
    ended ends =
        let long : length line ≡ length ends.before + 1 = ap length ends.is ∙ length-append ends.before (codes "\n") in
        let total = sum in
        omega arith

    opened : more ≡ [] → length more < length left
    opened none = by_cases left some
      where
        zero_more : length more ≡ 0
        zero_more = ap length none

        by_cases : (t : Letters) → t ≢ [] → length more < length t
        by_cases [] not = absurd (not refl)
        by_cases (c ∷ t) not = let none = zero_more in omega arith

-- ---- what a line comes to

record ItemJudged (v : Version) (r : Rules) (s : Session) (line : Letters) (new : Check) (judged : Judged) : Type 0 where
  pub item : Item
  pub reading : IsReadingOf v (plan_in r) line item
  pub judges : Judges r s item new judged

record LineBad (v : Version) (r : Rules) (line : Letters) (judged : Judged) : Type 0 where
  pub bad : judged ≡ Bad
  pub none : (i : Item) → IsReadingOf v (plan_in r) line i → ⊥

judged_line : (v : Version) (r : Rules) (s : Session) (line : Letters) (l : LineRead) (new : Check) (judged : Judged) → Reads v (plan_in r) line l → JudgesRead r s l new judged
    → ItemJudged v r s line new judged ⊎ LineBad v r line judged
judged_line v r s line (read.Entry e) new judged reads judges = inl (record { item = made e; reading = reads; judges = judges })
judged_line v r s line read.Run new judged reads judges = inl (record { item = run_begins; reading = reads; judges = judges })
judged_line v r s line read.Idle new judged reads judges = inl (record { item = run_closes idle; reading = reads; judges = judges })
judged_line v r s line read.Unsettled new judged reads judges = inl (record { item = run_closes unsettled; reading = reads; judges = judges })
judged_line v r s line read.BadLine new judged reads judges = inr (record { bad = judges; none = reads })

module _ (v : Version) (r : Rules) (trace : Letters) (old : Check) (left : Letters) (line : ℕ) (reached : Reaches v r trace old left line) (first more : Letters) (whole : left ≡ first ++ more) where
  left_is : (i : Item) → IsReadingOf v (plan_in r) first i → left ≡ item_text v (plan_in r) i ++ more
  left_is i reading = whole ∙ ap (λ t. t ++ more) reading.text

  pub goes_on_more : (i : Item) (new : Check) → IsReadingOf v (plan_in r) first i → Stands r (i ∷ reached.session) new → Reaches v r trace new more (line + 1)
  goes_on_more i new reading stands =
      let s = reached.session in
      record {
        session = i ∷ s;
        goes_on = record {
          fit = and_from (item_fits (plan_in r) i) (list_all (item_fits (plan_in r)) s) reading.fit reached.goes_on.fit;
          text = reached.goes_on.text ∙ ap (λ t. spelling_of v (plan_in r) s ++ t) (left_is i reading) ∙ sym (append_assoc (spelling_of v (plan_in r) s) (item_text v (plan_in r) i) more);
          run = record { session = begins r.script.now.lines (i ∷ s) new.orders stands.leaves; legal = stands.legal };
        };
        stands = stands;
        line_is = next_line (length s) reached.line_is;
      }
    where
      next_line : (n : ℕ) → line ≡ n + 2 → line + 1 ≡ suc n + 2
      next_line n is = omega arith

  -- ---- accepted

  pub accepted : (l : LineRead) (new : Check) → Reads v (plan_in r) first l → JudgesRead r reached.session l new Accepted → Reaches v r trace new more (line + 1)
  accepted l new reads judges = elim (judged_line v r reached.session first l new Accepted reads judges) [ inl x ↦ goes_on_more x.item new x.reading x.judges | inr x ↦ (let bad = x.bad in absurd cc) ]

  -- ---- refused

  refused_at : (i : Item) (clause : ℕ) (new : Check) → IsReadingOf v (plan_in r) first i → Judges r reached.session i new (Refused clause) → VerdictOf r trace (Illegal line clause)
  refused_at i clause new reading judges = inr (record {
    version = v;
    session = reached.session;
    item = i;
    more = more;
    so_far = subst (λ t. GoesOn v (plan_in r) r.mapping.now r.script.now.lines trace reached.session t) (left_is i reading) reached.goes_on;
    fit = reading.fit;
    line_is = reached.line_is;
    refused = judges;
  })

  pub refused : (l : LineRead) (new : Check) (clause : ℕ) → Reads v (plan_in r) first l → JudgesRead r reached.session l new (Refused clause) → VerdictOf r trace (Illegal line clause)
  refused l new clause reads judges =
      elim (judged_line v r reached.session first l new (Refused clause) reads judges) [ inl x ↦ refused_at x.item clause new x.reading x.judges | inr x ↦ (let bad = x.bad in absurd cc) ]

  -- ---- bad

  pub bad : ItemsHaveOneLine (plan_in r) → IsFirstLine first more → left ≢ [] → (l : LineRead) (new : Check) → Reads v (plan_in r) first l → JudgesRead r reached.session l new Bad → VerdictOf r trace (BadLine line)
  bad one_line is_first some l new reads judges = elim (judged_line v r reached.session first l new Bad reads judges) [ inl x ↦ absurd x.judges | inr x ↦ bad_at x.none ]
    where
      no_item : ((i : Item) → IsReadingOf v (plan_in r) first i → ⊥) → (i : Item) (rest : Letters) → item_fits (plan_in r) i ≡ true → left ≡ item_text v (plan_in r) i ++ rest → ⊥
      no_item none i rest fit is =
          let same = first_is first more (item_text v (plan_in r) i) rest is_first (one_line v i fit) (sym whole ∙ is) in
          none i (record { fit = fit; text = same.0 })

      bad_at : ((i : Item) → IsReadingOf v (plan_in r) first i → ⊥) → VerdictOf r trace (BadLine line)
      bad_at none = inr (record { version = v; session = reached.session; left = left; so_far = reached.goes_on; some = some; none = no_item none; line_is = reached.line_is })

-- ---- the end

module _ (v : Version) (r : Rules) (trace : Letters) (c : Check) (line : ℕ) (reached : Reaches v r trace c [] line) where
  pub ends_whole : IsSessionOf r.script.now.lines reached.session → VerdictOf r trace Legal
  ends_whole whole = record {
    version = v;
    session = reached.session;
    fit = reached.goes_on.fit;
    text = reached.goes_on.text ∙ append-nil (spelling_of v (plan_in r) reached.session);
    run = record { session = whole; legal = reached.goes_on.run.legal };
  }

  pub ends_early : (IsSessionOf r.script.now.lines reached.session → ⊥) → VerdictOf r trace (Illegal line 16)
  ends_early not = inl (inr (record { version = v; session = reached.session; so_far = reached.goes_on; open_end = not; line_is = reached.line_is; clause_is = refl }))

-- ---- the beginning

pub reached_first : (v : Version) (r : Rules) (trace text : Letters) (c : Check) → Stands r [] c → trace ≡ header v ++ text → Reaches v r trace c text 2
reached_first v r trace text c stands is = record {
  session = [];
  goes_on = record { fit = refl; text = is; run = record { session = begins r.script.now.lines [] c.orders stands.leaves; legal = tt } };
  stands = stands;
  line_is = refl;
}
