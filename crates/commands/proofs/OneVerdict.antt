-- Of a command there is one verdict on the same files: what is shown of plans, refusals and traces, for each command.
use Rattle.std.proofs.Common.{◌≡◌, ◌<◌, ◌≤◌, ℕ, List, [], ◌∷◌, length, Some, None, refl, sym, ap, ◌∙◌, subst, inl, inr, arith}
use Rattle.std.proofs.lemmas.Option.{some_pair_parts}
use Rattle.rte_text.specs.declared.refusal.Refusal.{Refusal}
use Rattle.rte_text.specs.declared.refusal.Refused.TheVariants.{Rule}
use Rattle.bus_semantics.specs.declared.script.Mapping.{Mapping}
use Rattle.bus_semantics.specs.Common.{Plan, plan_of, IsSound}
use Rattle.trace_reading.specs.declared.checked.Checked.{Checked}
use Rattle.trace_reading.specs.declared.checked.Checked.TheVariants.{Legal}
use Rattle.trace_reading.specs.Verdicts.{IsVerdict}
use Rattle.trace_reading.specs.Laws.{TracesHaveOneVerdict}
use Rattle.description_stages.specs.declared.planning.PlannedDescription.{PlannedDescription}
use Rattle.description_stages.specs.Plans.{IsPlannedOf, IsPlanRefusalOf}
use Rattle.feed_queue.specs.Reading.{first_bad as bad_stimulus}
use Rattle.line_fields.specs.Texts.{lines_of}
use Rattle.pair_run.specs.Linked.{links_of}
use Rattle.description_stages.specs.Same.{IsSamePlan}
use Rattle.script_reading.specs.Common.{saying, IsScript, first_bad}
use Rattle.commands.specs.declared.stop.Finding.{Finding}
use Rattle.commands.specs.declared.stop.Finding.TheVariants as finding
use Rattle.commands.specs.CheckCommand.{IsCheckedAs, IsCheckFinding}
use Rattle.commands.specs.Commands.{Bytes, Command, run, plan, header, soak, check, pair, live}
use Rattle.commands.specs.Inputs.{HaveBadLine}
use Rattle.plan_text.specs.Headers.{Header, clash, header_of, made, no_component}
use Rattle.commands.specs.HeaderCommand.{CanList, HasHeader, IsHeaderFinding}
use Rattle.commands.specs.LiveCommand.{CanServe, HaveBadStimulus, HaveTooManyCores, IsLiveFinding}
use Rattle.commands.specs.PairCommand.{AreDescribed, CanPair, HaveBadPairLine, HaveNoLink, IsPairFinding, IsRefusedOf, pair_saying}
use Rattle.commands.specs.PlanCommand.{CanPlan, IsPlanFinding}
use Rattle.commands.specs.RunCommand.{CanRun, IsRunFinding}
use Rattle.commands.specs.Verdicts.{Verdict, done, refused, CanBeDone, IsFindingOn, IsVerdictOn}
use Rattle.commands.proofs.Scripts.{same_orders, same_verdict}

-- what the laws of plans and of traces say
abbrev pub PlansAreOne : Type 0
PlansAreOne = (bytes : List ℕ) (x y : PlannedDescription) → IsPlannedOf bytes x → IsPlannedOf bytes y → IsSamePlan x y

abbrev pub HeadersAreOne : Type 0
HeadersAreOne = (bytes : List ℕ) (x y : PlannedDescription) (name : List ℕ) → IsPlannedOf bytes x → IsPlannedOf bytes y → header_of x.description name ≡ header_of y.description name

abbrev pub RefusalsAreOne : Type 0
RefusalsAreOne = (bytes : List ℕ) (r s : Refusal) → IsPlanRefusalOf bytes (Rule r) → IsPlanRefusalOf bytes (Rule s) → r ≡ s

abbrev pub NotBoth : Type 0
NotBoth = (bytes : List ℕ) (r : Refusal) (x : PlannedDescription) → IsPlanRefusalOf bytes (Rule r) → ¬ IsPlannedOf bytes x

abbrev pub TracesAreOne : Type 0
TracesAreOne = (p : Plan) (m : Mapping) → IsSound p m → TracesHaveOneVerdict p m

module _ (plans : PlansAreOne) (headers : HeadersAreOne) (refusals : RefusalsAreOne) (not_both : NotBoth) (traces : TracesAreOne) where
  -- a script has no bad line
  good : (d s : Bytes) → CanRun d s → (line cause : ℕ) → HaveBadLine d s line cause → ⊥
  good d s can line cause bad =
      let inputs = can.2 in
      let same : first_bad (saying (plan_of can.0.plan)) [] (lines_of s) ≡ Some (line, cause) =
      subst (λ p. first_bad (saying p) [] (lines_of s) ≡ Some (line, cause)) ((plans d bad.found can.0 bad.described inputs.described).plan) bad.bad in
      let none : first_bad (saying (plan_of can.0.plan)) [] (lines_of s) ≡ None = inputs.scripted.good in
      absurd cc

  bad_once : (d s : Bytes) (n k m l : ℕ) → HaveBadLine d s n k → HaveBadLine d s m l → (n ≡ m) × (k ≡ l)
  bad_once d s n k m l a b =
      some_pair_parts n m k l (sym a.bad ∙ (ap (λ p. first_bad (saying p) [] (lines_of s)) ((plans d a.found b.found a.described b.described).plan) ∙ b.bad))

  same_line : (d s : Bytes) (n k m l : ℕ) → HaveBadLine d s n k → HaveBadLine d s m l → finding.Script n k ≡ finding.Script m l
  same_line d s n k m l a b = let same = bad_once d s n k m l a b in ap (λ x. finding.Script x k) same.0 ∙ ap (finding.Script m) same.1

  -- ---- run

  run_apart : (d s : Bytes) → CanRun d s → (f : Finding) → IsRunFinding d s f → ⊥
  run_apart d s can (finding.Refused refusal) is = not_both d refusal can.0 is can.2.described
  run_apart d s can (finding.Script line cause) is = good d s can line cause is
  run_apart d s can (finding.Trace checked) is = is
  run_apart d s can finding.NoComponent is = is
  run_apart d s can (finding.Clash name) is = is
  run_apart d s can (finding.RefusedOf refusal which) is = is
  run_apart d s can finding.NoLink is = is
  run_apart d s can finding.TooManyCores is = is

  run_same : (d s : Bytes) (f g : Finding) → IsRunFinding d s f → IsRunFinding d s g → f ≡ g
  run_same d s (finding.Refused r) (finding.Refused q) a b = ap finding.Refused (refusals d r q a b)
  run_same d s (finding.Refused r) (finding.Script line cause) a b = absurd (not_both d r b.found a b.described)
  run_same d s (finding.Script line cause) (finding.Refused q) a b = absurd (not_both d q a.found b a.described)
  run_same d s (finding.Script n k) (finding.Script m l) a b = same_line d s n k m l a b
  run_same d s (finding.Trace checked) g a b = absurd a
  run_same d s finding.NoComponent g a b = absurd a
  run_same d s (finding.Clash name) g a b = absurd a
  run_same d s (finding.RefusedOf r which) g a b = absurd a
  run_same d s finding.NoLink g a b = absurd a
  run_same d s finding.TooManyCores g a b = absurd a
  run_same d s (finding.Refused r) finding.NoComponent a b = absurd b
  run_same d s (finding.Refused r) (finding.Clash name) a b = absurd b
  run_same d s (finding.Script line cause) finding.NoComponent a b = absurd b
  run_same d s (finding.Script line cause) (finding.Clash name) a b = absurd b
  run_same d s (finding.Refused r) (finding.Trace checked) a b = absurd b
  run_same d s (finding.Refused r) (finding.RefusedOf q which) a b = absurd b
  run_same d s (finding.Refused r) finding.NoLink a b = absurd b
  run_same d s (finding.Refused r) finding.TooManyCores a b = absurd b
  run_same d s (finding.Script line cause) (finding.Trace checked) a b = absurd b
  run_same d s (finding.Script line cause) (finding.RefusedOf q which) a b = absurd b
  run_same d s (finding.Script line cause) finding.NoLink a b = absurd b
  run_same d s (finding.Script line cause) finding.TooManyCores a b = absurd b

  -- ---- plan

  plan_apart : (d : Bytes) → CanPlan d → (f : Finding) → IsPlanFinding d f → ⊥
  plan_apart d can (finding.Refused refusal) is = not_both d refusal can.0 is can.1
  plan_apart d can (finding.Script line cause) is = is
  plan_apart d can (finding.Trace checked) is = is
  plan_apart d can finding.NoComponent is = is
  plan_apart d can (finding.Clash name) is = is
  plan_apart d can (finding.RefusedOf refusal which) is = is
  plan_apart d can finding.NoLink is = is
  plan_apart d can finding.TooManyCores is = is

  plan_same : (d : Bytes) (f g : Finding) → IsPlanFinding d f → IsPlanFinding d g → f ≡ g
  plan_same d (finding.Refused r) (finding.Refused q) a b = ap finding.Refused (refusals d r q a b)
  plan_same d (finding.Script line cause) g a b = absurd a
  plan_same d (finding.Trace checked) g a b = absurd a
  plan_same d finding.NoComponent g a b = absurd a
  plan_same d (finding.Clash name) g a b = absurd a
  plan_same d (finding.RefusedOf r which) g a b = absurd a
  plan_same d finding.NoLink g a b = absurd a
  plan_same d finding.TooManyCores g a b = absurd a
  plan_same d (finding.Refused r) finding.NoComponent a b = absurd b
  plan_same d (finding.Refused r) (finding.Clash name) a b = absurd b
  plan_same d (finding.Refused r) (finding.Script line cause) a b = absurd b
  plan_same d (finding.Refused r) (finding.Trace checked) a b = absurd b
  plan_same d (finding.Refused r) (finding.RefusedOf q which) a b = absurd b
  plan_same d (finding.Refused r) finding.NoLink a b = absurd b
  plan_same d (finding.Refused r) finding.TooManyCores a b = absurd b

  -- ---- header

  -- over two readings of the bytes what there is of a header is the same
  header_once : (d name : Bytes) (x y : Header) → HasHeader d name x → HasHeader d name y → x ≡ y
  header_once d name x y a b = sym a.header_is ∙ headers d a.found b.found name a.planned b.planned ∙ b.header_is

  header_apart : (d name : Bytes) → CanList d name → (f : Finding) → IsHeaderFinding d name f → ⊥
  header_apart d name can (finding.Refused refusal) is = let has = can.1 in not_both d refusal has.found is has.planned
  header_apart d name can finding.NoComponent is = let same = header_once d name (made can.0) no_component can.1 is in cc
  header_apart d name can (finding.Clash n) is = let same = header_once d name (made can.0) (clash n) can.1 is in cc
  header_apart d name can (finding.Script line cause) is = is
  header_apart d name can (finding.Trace checked) is = is
  header_apart d name can (finding.RefusedOf refusal which) is = is
  header_apart d name can finding.NoLink is = is
  header_apart d name can finding.TooManyCores is = is

  clash_once : (n m : Bytes) → clash n ≡ clash m → n ≡ m
  clash_once n m e = cc

  header_same : (d name : Bytes) (f g : Finding) → IsHeaderFinding d name f → IsHeaderFinding d name g → f ≡ g
  header_same d name (finding.Refused r) (finding.Refused q) a b = ap finding.Refused (refusals d r q a b)
  header_same d name (finding.Refused r) finding.NoComponent a b = absurd (not_both d r b.found a b.planned)
  header_same d name (finding.Refused r) (finding.Clash m) a b = absurd (not_both d r b.found a b.planned)
  header_same d name finding.NoComponent (finding.Refused q) a b = absurd (not_both d q a.found b a.planned)
  header_same d name (finding.Clash n) (finding.Refused q) a b = absurd (not_both d q a.found b a.planned)
  header_same d name finding.NoComponent finding.NoComponent a b = refl
  header_same d name finding.NoComponent (finding.Clash m) a b = let same = header_once d name no_component (clash m) a b in absurd cc
  header_same d name (finding.Clash n) finding.NoComponent a b = let same = header_once d name (clash n) no_component a b in absurd cc
  header_same d name (finding.Clash n) (finding.Clash m) a b = ap finding.Clash (clash_once n m (header_once d name (clash n) (clash m) a b))
  header_same d name (finding.Script line cause) g a b = absurd a
  header_same d name (finding.Trace checked) g a b = absurd a
  header_same d name (finding.RefusedOf r which) g a b = absurd a
  header_same d name finding.NoLink g a b = absurd a
  header_same d name finding.TooManyCores g a b = absurd a
  header_same d name (finding.Refused r) (finding.Script line cause) a b = absurd b
  header_same d name (finding.Refused r) (finding.Trace checked) a b = absurd b
  header_same d name (finding.Refused r) (finding.RefusedOf q which) a b = absurd b
  header_same d name (finding.Refused r) finding.NoLink a b = absurd b
  header_same d name (finding.Refused r) finding.TooManyCores a b = absurd b
  header_same d name finding.NoComponent (finding.Script line cause) a b = absurd b
  header_same d name finding.NoComponent (finding.Trace checked) a b = absurd b
  header_same d name finding.NoComponent (finding.RefusedOf q which) a b = absurd b
  header_same d name finding.NoComponent finding.NoLink a b = absurd b
  header_same d name finding.NoComponent finding.TooManyCores a b = absurd b
  header_same d name (finding.Clash n) (finding.Script line cause) a b = absurd b
  header_same d name (finding.Clash n) (finding.Trace checked) a b = absurd b
  header_same d name (finding.Clash n) (finding.RefusedOf q which) a b = absurd b
  header_same d name (finding.Clash n) finding.NoLink a b = absurd b
  header_same d name (finding.Clash n) finding.TooManyCores a b = absurd b

  -- ---- check

  -- over two readings of the bytes the verdict on the trace is the same
  checked_once : (d t s : Bytes) (v w : Checked) → IsCheckedAs d t s v → IsCheckedAs d t s w → v ≡ w
  checked_once d t s v w a b =
      let same = plans d a.found b.found a.inputs.described b.inputs.described in
      let scripted : IsScript (plan_of b.found.plan) s a.lines = subst (λ p. IsScript p s a.lines) same.plan a.inputs.scripted in
      let moved : IsVerdict (plan_of b.found.plan) b.found.mapping a.lines t v =
      subst (λ (m : Mapping). IsVerdict (plan_of b.found.plan) m a.lines t v) same.mapping (subst (λ (p : Plan). IsVerdict p a.found.mapping a.lines t v) same.plan a.verdict) in
      let is = same_verdict (plan_of b.found.plan) b.found.mapping a.lines b.lines (same_orders (plan_of b.found.plan) s a.lines b.lines scripted b.inputs.scripted) t v moved in
      traces (plan_of b.found.plan) b.found.mapping b.inputs.described.is_sound b.lines t v w is b.verdict

  can_run : (d t s : Bytes) (v : Checked) → IsCheckedAs d t s v → CanRun d s
  can_run d t s v a = (a.found, a.lines, a.inputs)

  check_apart : (d t s : Bytes) → IsCheckedAs d t s Legal → (f : Finding) → IsCheckFinding d t s f → ⊥
  check_apart d t s legal (finding.Refused refusal) is = run_apart d s (can_run d t s Legal legal) (finding.Refused refusal) is
  check_apart d t s legal (finding.Script line cause) is = run_apart d s (can_run d t s Legal legal) (finding.Script line cause) is
  check_apart d t s legal finding.NoComponent is = is
  check_apart d t s legal (finding.Clash name) is = is
  check_apart d t s legal (finding.RefusedOf refusal which) is = is
  check_apart d t s legal finding.NoLink is = is
  check_apart d t s legal finding.TooManyCores is = is
  check_apart d t s legal (finding.Trace checked) is = is.0 (checked_once d t s checked Legal is.1 legal)

  check_same : (d t s : Bytes) (f g : Finding) → IsCheckFinding d t s f → IsCheckFinding d t s g → f ≡ g
  check_same d t s (finding.Trace v) (finding.Trace w) a b = ap finding.Trace (checked_once d t s v w a.1 b.1)
  check_same d t s (finding.Trace v) (finding.Refused q) a b = absurd (run_apart d s (can_run d t s v a.1) (finding.Refused q) b)
  check_same d t s (finding.Trace v) (finding.Script line cause) a b = absurd (run_apart d s (can_run d t s v a.1) (finding.Script line cause) b)
  check_same d t s (finding.Refused r) (finding.Trace w) a b = absurd (run_apart d s (can_run d t s w b.1) (finding.Refused r) a)
  check_same d t s (finding.Script line cause) (finding.Trace w) a b = absurd (run_apart d s (can_run d t s w b.1) (finding.Script line cause) a)
  check_same d t s finding.NoComponent g a b = absurd a
  check_same d t s (finding.Clash name) g a b = absurd a
  check_same d t s (finding.RefusedOf r which) g a b = absurd a
  check_same d t s finding.NoLink g a b = absurd a
  check_same d t s finding.TooManyCores g a b = absurd a
  check_same d t s (finding.Trace v) finding.NoComponent a b = absurd b
  check_same d t s (finding.Trace v) (finding.Clash name) a b = absurd b
  check_same d t s (finding.Trace v) (finding.RefusedOf q which) a b = absurd b
  check_same d t s (finding.Trace v) finding.NoLink a b = absurd b
  check_same d t s (finding.Trace v) finding.TooManyCores a b = absurd b
  check_same d t s (finding.Refused r) finding.NoComponent a b = absurd b
  check_same d t s (finding.Refused r) (finding.Clash name) a b = absurd b
  check_same d t s (finding.Refused r) (finding.RefusedOf q which) a b = absurd b
  check_same d t s (finding.Refused r) finding.NoLink a b = absurd b
  check_same d t s (finding.Refused r) finding.TooManyCores a b = absurd b
  check_same d t s (finding.Script line cause) finding.NoComponent a b = absurd b
  check_same d t s (finding.Script line cause) (finding.Clash name) a b = absurd b
  check_same d t s (finding.Script line cause) (finding.RefusedOf q which) a b = absurd b
  check_same d t s (finding.Script line cause) finding.NoLink a b = absurd b
  check_same d t s (finding.Script line cause) finding.TooManyCores a b = absurd b
  check_same d t s (finding.Refused r) (finding.Refused q) a b = run_same d s (finding.Refused r) (finding.Refused q) a b
  check_same d t s (finding.Refused r) (finding.Script line cause) a b = run_same d s (finding.Refused r) (finding.Script line cause) a b
  check_same d t s (finding.Script line cause) (finding.Refused q) a b = run_same d s (finding.Script line cause) (finding.Refused q) a b
  check_same d t s (finding.Script n k) (finding.Script m l) a b = run_same d s (finding.Script n k) (finding.Script m l) a b

  -- ---- pair

  -- over two readings of the bytes the plans are the same
  same_pair : (c d : Bytes) (x y u v : PlannedDescription) → AreDescribed c d x y → AreDescribed c d u v → (plan_of x.plan ≡ plan_of u.plan) × (plan_of y.plan ≡ plan_of v.plan)
  same_pair c d x y u v a b = ((plans c x u a.of_one b.of_one).plan, (plans d y v a.of_two b.of_two).plan)

  -- two descriptions that break no rule
  not_refused : (c d : Bytes) (x y : PlannedDescription) → AreDescribed c d x y → (r : Refusal) (which : ℕ) → IsRefusedOf c d r which → ⊥
  not_refused c d x y both r which (inl one) = not_both c r x one.1 both.of_one
  not_refused c d x y both r which (inr two) = not_both d r y two.2 both.of_two

  -- with a link or without one
  not_unlinked : (c d : Bytes) (x y : PlannedDescription) → AreDescribed c d x y → 0 < length (links_of (plan_of x.plan) (plan_of y.plan)) → HaveNoLink c d → ⊥
  not_unlinked c d x y both some bare =
      let same = same_pair c d x y bare.found bare.beside both bare.described in
      let links : links_of (plan_of x.plan) (plan_of y.plan) ≡ links_of (plan_of bare.found.plan) (plan_of bare.beside.plan) =
      ap (λ (p : Plan). links_of p (plan_of y.plan)) same.0 ∙ ap (links_of (plan_of bare.found.plan)) same.1 in
      let none : length (links_of (plan_of x.plan) (plan_of y.plan)) ≡ 0 = ap length (links ∙ bare.none) in
      omega (arith, some, none)

  good_pair : (c d s : Bytes) → CanPair c d s → (line cause : ℕ) → HaveBadPairLine c d s line cause → ⊥
  good_pair c d s can line cause bad =
      let inputs = can.3 in
      let same = same_pair c d bad.found bad.beside can.0 can.1 bad.described inputs.described in
      let found : first_bad (pair_saying (plan_of can.0.plan) (plan_of can.1.plan)) [] (lines_of s) ≡ Some (line, cause) =
      subst (λ q. first_bad (pair_saying (plan_of can.0.plan) q) [] (lines_of s) ≡ Some (line, cause)) same.1
      (subst (λ p. first_bad (pair_saying p (plan_of bad.beside.plan)) [] (lines_of s) ≡ Some (line, cause)) same.0 bad.bad) in
      let none : first_bad (pair_saying (plan_of can.0.plan) (plan_of can.1.plan)) [] (lines_of s) ≡ None = inputs.scripted.good in
      absurd cc

  bad_pair_line : (c d s : Bytes) (n k m l : ℕ) → HaveBadPairLine c d s n k → HaveBadPairLine c d s m l → finding.Script n k ≡ finding.Script m l
  bad_pair_line c d s n k m l a b =
      let same = same_pair c d a.found a.beside b.found b.beside a.described b.described in
      let one : first_bad (pair_saying (plan_of a.found.plan) (plan_of a.beside.plan)) [] (lines_of s) ≡ first_bad (pair_saying (plan_of b.found.plan) (plan_of b.beside.plan)) [] (lines_of s) =
      ap (λ (p : Plan). first_bad (pair_saying p (plan_of a.beside.plan)) [] (lines_of s)) same.0 ∙ ap (λ (q : Plan). first_bad (pair_saying (plan_of b.found.plan) q) [] (lines_of s)) same.1 in
      let parts = some_pair_parts n m k l (sym a.bad ∙ (one ∙ b.bad)) in
      ap (λ x. finding.Script x k) parts.0 ∙ ap (finding.Script m) parts.1

  pair_apart : (c d s : Bytes) → CanPair c d s → (f : Finding) → IsPairFinding c d s f → ⊥
  pair_apart c d s can (finding.RefusedOf refusal which) is = let inputs = can.3 in not_refused c d can.0 can.1 inputs.described refusal which is
  pair_apart c d s can finding.NoLink is = let inputs = can.3 in not_unlinked c d can.0 can.1 inputs.described inputs.linked is
  pair_apart c d s can (finding.Script line cause) is = good_pair c d s can line cause is
  pair_apart c d s can (finding.Refused refusal) is = is
  pair_apart c d s can (finding.Trace checked) is = is
  pair_apart c d s can finding.NoComponent is = is
  pair_apart c d s can (finding.Clash name) is = is
  pair_apart c d s can finding.TooManyCores is = is

  refused_once : (c d : Bytes) (r q : Refusal) (i j : ℕ) → IsRefusedOf c d r i → IsRefusedOf c d q j → finding.RefusedOf r i ≡ finding.RefusedOf q j
  refused_once c d r q i j (inl a) (inl b) = rw (a.0, b.0, refusals c r q a.1 b.1) refl
  refused_once c d r q i j (inr a) (inr b) = rw (a.0, b.0, refusals d r q a.2 b.2) refl
  refused_once c d r q i j (inl a) (inr b) = absurd (not_both c r b.1.0 a.1 b.1.1)
  refused_once c d r q i j (inr a) (inl b) = absurd (not_both c q a.1.0 b.1 a.1.1)

  pair_same : (c d s : Bytes) (f g : Finding) → IsPairFinding c d s f → IsPairFinding c d s g → f ≡ g
  pair_same c d s (finding.RefusedOf r i) (finding.RefusedOf q j) a b = refused_once c d r q i j a b
  pair_same c d s (finding.RefusedOf r i) finding.NoLink a b = absurd (not_refused c d b.found b.beside b.described r i a)
  pair_same c d s (finding.RefusedOf r i) (finding.Script m l) a b = absurd (not_refused c d b.found b.beside b.described r i a)
  pair_same c d s finding.NoLink (finding.RefusedOf q j) a b = absurd (not_refused c d a.found a.beside a.described q j b)
  pair_same c d s finding.NoLink finding.NoLink a b = refl
  pair_same c d s finding.NoLink (finding.Script m l) a b = absurd (not_unlinked c d b.found b.beside b.described b.linked a)
  pair_same c d s (finding.Script n k) (finding.RefusedOf q j) a b = absurd (not_refused c d a.found a.beside a.described q j b)
  pair_same c d s (finding.Script n k) finding.NoLink a b = absurd (not_unlinked c d a.found a.beside a.described a.linked b)
  pair_same c d s (finding.Script n k) (finding.Script m l) a b = bad_pair_line c d s n k m l a b
  pair_same c d s (finding.Refused r) g a b = absurd a
  pair_same c d s (finding.Trace checked) g a b = absurd a
  pair_same c d s finding.NoComponent g a b = absurd a
  pair_same c d s (finding.Clash name) g a b = absurd a
  pair_same c d s finding.TooManyCores g a b = absurd a
  pair_same c d s (finding.RefusedOf r i) (finding.Refused q) a b = absurd b
  pair_same c d s (finding.RefusedOf r i) (finding.Trace checked) a b = absurd b
  pair_same c d s (finding.RefusedOf r i) finding.NoComponent a b = absurd b
  pair_same c d s (finding.RefusedOf r i) (finding.Clash name) a b = absurd b
  pair_same c d s (finding.RefusedOf r i) finding.TooManyCores a b = absurd b
  pair_same c d s finding.NoLink (finding.Refused q) a b = absurd b
  pair_same c d s finding.NoLink (finding.Trace checked) a b = absurd b
  pair_same c d s finding.NoLink finding.NoComponent a b = absurd b
  pair_same c d s finding.NoLink (finding.Clash name) a b = absurd b
  pair_same c d s finding.NoLink finding.TooManyCores a b = absurd b
  pair_same c d s (finding.Script n k) (finding.Refused q) a b = absurd b
  pair_same c d s (finding.Script n k) (finding.Trace checked) a b = absurd b
  pair_same c d s (finding.Script n k) finding.NoComponent a b = absurd b
  pair_same c d s (finding.Script n k) (finding.Clash name) a b = absurd b
  pair_same c d s (finding.Script n k) finding.TooManyCores a b = absurd b

  -- ---- live

  -- over two readings of the bytes the cores are as many
  same_cores : (d : Bytes) (x y : PlannedDescription) → IsPlannedOf d x → IsPlannedOf d y → x.mapping.cores ≡ y.mapping.cores
  same_cores d x y a b = ap (λ (m : Mapping). m.cores) (plans d x y a b).mapping

  -- seven or eight
  not_many : (d : Bytes) (x : PlannedDescription) → IsPlannedOf d x → x.mapping.cores ≤ 7 → HaveTooManyCores d → ⊥
  not_many d x planned few many = omega (arith, few, many.many, same_cores d x many.found planned many.described)

  -- stimuli have no bad line
  good_feeds : (d s : Bytes) → CanServe d s → (line cause : ℕ) → HaveBadStimulus d s line cause → ⊥
  good_feeds d s can line cause bad =
      let inputs = can.2 in
      let same : bad_stimulus (plan_of can.0.plan) [] (lines_of s) ≡ Some (line, cause) =
      subst (λ p. bad_stimulus p [] (lines_of s) ≡ Some (line, cause)) ((plans d bad.found can.0 bad.described inputs.described).plan) bad.bad in
      let none : bad_stimulus (plan_of can.0.plan) [] (lines_of s) ≡ None = inputs.fed.good in
      absurd cc

  bad_feed_line : (d s : Bytes) (n k m l : ℕ) → HaveBadStimulus d s n k → HaveBadStimulus d s m l → finding.Script n k ≡ finding.Script m l
  bad_feed_line d s n k m l a b =
      let parts = some_pair_parts n m k l (sym a.bad ∙ (ap (λ p. bad_stimulus p [] (lines_of s)) ((plans d a.found b.found a.described b.described).plan) ∙ b.bad)) in
      ap (λ x. finding.Script x k) parts.0 ∙ ap (finding.Script m) parts.1

  live_apart : (d s : Bytes) → CanServe d s → (f : Finding) → IsLiveFinding d s f → ⊥
  live_apart d s can (finding.Refused refusal) is = let inputs = can.2 in not_both d refusal can.0 is inputs.described
  live_apart d s can finding.TooManyCores is = let inputs = can.2 in not_many d can.0 inputs.described inputs.few_cores is
  live_apart d s can (finding.Script line cause) is = good_feeds d s can line cause is
  live_apart d s can (finding.Trace checked) is = is
  live_apart d s can finding.NoComponent is = is
  live_apart d s can (finding.Clash name) is = is
  live_apart d s can (finding.RefusedOf refusal which) is = is
  live_apart d s can finding.NoLink is = is

  live_same : (d s : Bytes) (f g : Finding) → IsLiveFinding d s f → IsLiveFinding d s g → f ≡ g
  live_same d s (finding.Refused r) (finding.Refused q) a b = ap finding.Refused (refusals d r q a b)
  live_same d s (finding.Refused r) finding.TooManyCores a b = absurd (not_both d r b.found a b.described)
  live_same d s (finding.Refused r) (finding.Script m l) a b = absurd (not_both d r b.found a b.described)
  live_same d s finding.TooManyCores (finding.Refused q) a b = absurd (not_both d q a.found b a.described)
  live_same d s finding.TooManyCores finding.TooManyCores a b = refl
  live_same d s finding.TooManyCores (finding.Script m l) a b = absurd (not_many d b.found b.described b.few_cores a)
  live_same d s (finding.Script n k) (finding.Refused q) a b = absurd (not_both d q a.found b a.described)
  live_same d s (finding.Script n k) finding.TooManyCores a b = absurd (not_many d a.found a.described a.few_cores b)
  live_same d s (finding.Script n k) (finding.Script m l) a b = bad_feed_line d s n k m l a b
  live_same d s (finding.Trace checked) g a b = absurd a
  live_same d s finding.NoComponent g a b = absurd a
  live_same d s (finding.Clash name) g a b = absurd a
  live_same d s (finding.RefusedOf r which) g a b = absurd a
  live_same d s finding.NoLink g a b = absurd a
  live_same d s (finding.Refused r) (finding.Trace checked) a b = absurd b
  live_same d s (finding.Refused r) finding.NoComponent a b = absurd b
  live_same d s (finding.Refused r) (finding.Clash name) a b = absurd b
  live_same d s (finding.Refused r) (finding.RefusedOf q which) a b = absurd b
  live_same d s (finding.Refused r) finding.NoLink a b = absurd b
  live_same d s finding.TooManyCores (finding.Trace checked) a b = absurd b
  live_same d s finding.TooManyCores finding.NoComponent a b = absurd b
  live_same d s finding.TooManyCores (finding.Clash name) a b = absurd b
  live_same d s finding.TooManyCores (finding.RefusedOf q which) a b = absurd b
  live_same d s finding.TooManyCores finding.NoLink a b = absurd b
  live_same d s (finding.Script n k) (finding.Trace checked) a b = absurd b
  live_same d s (finding.Script n k) finding.NoComponent a b = absurd b
  live_same d s (finding.Script n k) (finding.Clash name) a b = absurd b
  live_same d s (finding.Script n k) (finding.RefusedOf q which) a b = absurd b
  live_same d s (finding.Script n k) finding.NoLink a b = absurd b

  -- ---- all commands

  apart : (command : Command) (files : List Bytes) → CanBeDone command files → (f : Finding) → IsFindingOn command files f → ⊥
  apart (run d s) (description ∷ script ∷ []) can f is = run_apart description script can f is
  apart (plan d) (description ∷ []) can f is = plan_apart description can f is
  apart (header d name) (description ∷ []) can f is = header_apart description name can f is
  apart (header d name) [] can f is = is
  apart (header d name) (x ∷ y ∷ files) can f is = is
  apart (check d t s) (description ∷ trace ∷ script ∷ []) can f is = check_apart description trace script can f is
  apart (soak n) files can f is = is
  apart (run d s) [] can f is = is
  apart (run d s) (x ∷ []) can f is = is
  apart (run d s) (x ∷ y ∷ z ∷ files) can f is = is
  apart (plan d) [] can f is = is
  apart (plan d) (x ∷ y ∷ files) can f is = is
  apart (check d t s) [] can f is = is
  apart (check d t s) (x ∷ []) can f is = is
  apart (check d t s) (x ∷ y ∷ []) can f is = is
  apart (check d t s) (x ∷ y ∷ z ∷ w ∷ files) can f is = is
  apart (pair c d s) (one ∷ two ∷ script ∷ []) can f is = pair_apart one two script can f is
  apart (pair c d s) [] can f is = is
  apart (pair c d s) (x ∷ []) can f is = is
  apart (pair c d s) (x ∷ y ∷ []) can f is = is
  apart (pair c d s) (x ∷ y ∷ z ∷ w ∷ files) can f is = is
  apart (live d) (description ∷ stimuli ∷ []) can f is = live_apart description stimuli can f is
  apart (live d) [] can f is = is
  apart (live d) (x ∷ []) can f is = is
  apart (live d) (x ∷ y ∷ z ∷ files) can f is = is

  same : (command : Command) (files : List Bytes) (f g : Finding) → IsFindingOn command files f → IsFindingOn command files g → f ≡ g
  same (run d s) (description ∷ script ∷ []) f g a b = run_same description script f g a b
  same (plan d) (description ∷ []) f g a b = plan_same description f g a b
  same (header d name) (description ∷ []) f g a b = header_same description name f g a b
  same (header d name) [] f g a b = absurd a
  same (header d name) (x ∷ y ∷ files) f g a b = absurd a
  same (check d t s) (description ∷ trace ∷ script ∷ []) f g a b = check_same description trace script f g a b
  same (soak n) files f g a b = absurd a
  same (run d s) [] f g a b = absurd a
  same (run d s) (x ∷ []) f g a b = absurd a
  same (run d s) (x ∷ y ∷ z ∷ files) f g a b = absurd a
  same (plan d) [] f g a b = absurd a
  same (plan d) (x ∷ y ∷ files) f g a b = absurd a
  same (check d t s) [] f g a b = absurd a
  same (check d t s) (x ∷ []) f g a b = absurd a
  same (check d t s) (x ∷ y ∷ []) f g a b = absurd a
  same (check d t s) (x ∷ y ∷ z ∷ w ∷ files) f g a b = absurd a
  same (pair c d s) (one ∷ two ∷ script ∷ []) f g a b = pair_same one two script f g a b
  same (pair c d s) [] f g a b = absurd a
  same (pair c d s) (x ∷ []) f g a b = absurd a
  same (pair c d s) (x ∷ y ∷ []) f g a b = absurd a
  same (pair c d s) (x ∷ y ∷ z ∷ w ∷ files) f g a b = absurd a
  same (live d) (description ∷ stimuli ∷ []) f g a b = live_same description stimuli f g a b
  same (live d) [] f g a b = absurd a
  same (live d) (x ∷ []) f g a b = absurd a
  same (live d) (x ∷ y ∷ z ∷ files) f g a b = absurd a

  pub one_verdict : (command : Command) (files : List Bytes) (v w : Verdict) → IsVerdictOn command files v → IsVerdictOn command files w → v ≡ w
  one_verdict command files done done a b = refl
  one_verdict command files done (refused g) a b = absurd (apart command files a g b)
  one_verdict command files (refused f) done a b = absurd (apart command files b f a)
  one_verdict command files (refused f) (refused g) a b = ap refused (same command files f g a b)
