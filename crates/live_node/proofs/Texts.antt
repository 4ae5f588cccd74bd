-- The text of a node that was served, line by line.
use Rattle.std.proofs.Common.{◌≡◌, ℕ, suc, ◌+◌, ◌<◌, List, [], ◌∷◌, ◌++◌, length, take, drop, get_or, Option, true, refl, sym, ap, ◌∙◌, subst, append_assoc, append-nil, drop-cons}
use Rattle.bus_semantics.specs.Common.{list_all, and_from, and_parts, take_more, take-append-drop, fits, History, IsLegal, Plan, plan_of, Session, a_run, entry_text, item_text}
use Rattle.rte_text.specs.Sinks.{AppendsWhereTold, AppendsPrefixWhereTold}
use Rattle.rte_text.specs.Told.{appends_both, prefix_after, prefix_first}
use Rattle.bus_semantics.specs.declared.entries.Entry.{Entry}
use Rattle.bus_semantics.specs.declared.entries.Stamped.{Stamped}
use Rattle.bus_semantics.specs.declared.script.Line.TheVariants as line
use Rattle.bus_semantics.specs.declared.script.Mapping.{Mapping}
use Rattle.bus_semantics.specs.declared.version.Version.TheVariants.{Two}
use Rattle.bus_semantics.specs.declared.plan.BusPlan.{BusPlan}
use Rattle.core_lanes.specs.After.{after}
use Rattle.core_runtime.specs.Nodes.{NodeState}
use Rattle.script_run.specs.declared.writing.Writing.{Writing}
use Rattle.script_run.specs.Running.{PrintsFirstLines, PrintsLines}
use Rattle.script_run.specs.Sizes.{is_sized_entry, is_sized_stamped}
use Rattle.script_run.specs.Texts.{behind, lines_of}
use Rattle.live_node.specs.Printing.{entry_fits, order_behind, served_line, served_lines, served_text, session_lines, PrintsBegunLive, PrintsLive}

-- ---- the line of an entry

-- written with nothing before it
pub plain_entry : (w : Writing) (p : Plan) (e : Entry) → w.version ≡ Two → w.prefix.now ≡ [] → behind w (entry_text w.version p e) ≡ entry_text Two p e
plain_entry w p e version plain = ap (λ t. t ++ entry_text w.version p e) plain ∙ ap (λ u. entry_text u p e) version

-- ---- the lines of entries

-- the order of the calls behind these entries
abbrev pub order_after : (order : List ℕ) → List Stamped → List ℕ
order_after order [] = order
order_after order (s ∷ es) = order_after (order_behind order s) es

lines-append : (p : Plan) (order : List ℕ) (a b : List Stamped) → served_lines p order (a ++ b) ≡ served_lines p order a ++ served_lines p (order_after order a) b
lines-append p order [] b = refl
lines-append p order (s ∷ a) b =
    ap (λ t. served_line p order s ++ t) (lines-append p (order_behind order s) a b)
    ∙ sym (append_assoc (served_line p order s) (served_lines p (order_behind order s) a) (served_lines p (order_after (order_behind order s) a) b))

order-append : (order : List ℕ) (a b : List Stamped) → order_after order (a ++ b) ≡ order_after (order_after order a) b
order-append order [] b = refl
order-append order (s ∷ a) b = order-append (order_behind order s) a b

so_far_and_one : (es : List Stamped) (i : ℕ) (e : Stamped) → i < length es → e ≡ get_or es i e → take (i + 1) es ≡ take i es ++ e ∷ []
so_far_and_one es i e h is = take_more es i e h ∙ ap (λ (x : Stamped). take i es ++ x ∷ []) (sym is)

-- before the first of them
pub order_begins : (order : List ℕ) (es : List Stamped) → order ≡ order_after order (take 0 es)
order_begins order es = refl

-- behind one more
pub order_next : (order left : List ℕ) (es : List Stamped) (i : ℕ) (e : Stamped) → i < length es → e ≡ get_or es i e → left ≡ order_after order (take i es)
    → order_behind left e ≡ order_after order (take (i + 1) es)
order_next order left es i e h is at =
    ap (λ o. order_behind o e) at ∙ sym (ap (order_after order) (so_far_and_one es i e h is) ∙ order-append order (take i es) (e ∷ []))

-- the lines so far and one more
lines_next : (p : Plan) (order left : List ℕ) (es : List Stamped) (i : ℕ) (e : Stamped) → i < length es → e ≡ get_or es i e → left ≡ order_after order (take i es)
    → served_lines p order (take i es) ++ served_line p left e ≡ served_lines p order (take (i + 1) es)
lines_next p order left es i e h is at =
    ap (λ o. served_lines p order (take i es) ++ served_line p o e) at
    ∙ sym (ap (served_lines p order) (so_far_and_one es i e h is) ∙ lines-append p order (take i es) (e ∷ [])
    ∙ ap (λ t. served_lines p order (take i es) ++ t) (append-nil (served_line p (order_after order (take i es)) e)))

-- the lines so far, one more, and the rest are all of them
lines_whole : (p : Plan) (order left : List ℕ) (es : List Stamped) (i : ℕ) (e : Stamped) → i < length es → e ≡ get_or es i e → left ≡ order_after order (take i es)
    → (served_lines p order (take i es) ++ served_line p left e) ++ served_lines p (order_behind left e) (drop (suc i) es) ≡ served_lines p order es
lines_whole p order left es i e h is at =
    let rest : drop i es ≡ e ∷ drop (suc i) es = drop-cons es i e h ∙ ap (λ (x : Stamped). x ∷ drop (suc i) es) (sym is) in
    append_assoc (served_lines p order (take i es)) (served_line p left e) (served_lines p (order_behind left e) (drop (suc i) es))
    ∙ ap (λ o. served_lines p order (take i es) ++ served_lines p o (e ∷ drop (suc i) es)) at
    ∙ sym (lines-append p order (take i es) (e ∷ drop (suc i) es))
    ∙ ap (λ xs. served_lines p order (take i es ++ xs)) (sym rest)
    ∙ ap (served_lines p order) (take-append-drop i es)

module _ (p : Plan) (order left : List ℕ) (es : List Stamped) (i : ℕ) (e : Stamped) (h : i < length es) (is : e ≡ get_or es i e) (at : left ≡ order_after order (take i es)) where
  -- a fault in the line after those so far leaves a prefix of all
  pub cut_line : (before between now : Option (List ℕ)) → AppendsWhereTold before between (served_lines p order (take i es)) → AppendsPrefixWhereTold between now (served_line p left e)
      → AppendsPrefixWhereTold before now (served_lines p order es)
  cut_line before between now put cut =
      subst (AppendsPrefixWhereTold before now) (lines_whole p order left es i e h is at)
      (prefix_first (served_lines p (order_behind left e) (drop (suc i) es)) (prefix_after before (served_lines p order (take i es)) put cut))

  pub more_lines : (before between now : Option (List ℕ)) → AppendsWhereTold before between (served_lines p order (take i es)) → AppendsWhereTold between now (served_line p left e)
      → AppendsWhereTold before now (served_lines p order (take (i + 1) es))
  more_lines before between now put more =
      subst (AppendsWhereTold before now) (lines_next p order left es i e h is at)
      (appends_both before between now (served_lines p order (take i es)) (served_line p left e) put more)

-- over the same plan and entries
pub same_lines : (p q : BusPlan) (order : List ℕ) (es fs : List Stamped) → p ≡ q → es ≡ fs → served_lines (plan_of p) order es ≡ served_lines (plan_of q) order fs
same_lines p q order es fs plan entries = ap (λ (x : BusPlan). served_lines (plan_of x) order es) plan ∙ ap (served_lines (plan_of q) order) entries

-- ---- the whole text

-- lines that are written with nothing before them
plain_lines : (w : Writing) (p : Plan) (s : Session) → w.version ≡ Two → w.prefix.now ≡ [] → lines_of w p s ≡ session_lines p s
plain_lines w p [] version plain = refl
plain_lines w p (i ∷ s) version plain =
    ap (λ t. t ++ behind w (item_text w.version p i)) (plain_lines w p s version plain)
    ∙ ap (λ t. session_lines p s ++ (t ++ item_text w.version p i)) plain
    ∙ ap (λ u. session_lines p s ++ item_text u p i) version

-- entries of a legal history that have the sizes of their types fit
legal_fit : (p : Plan) (h : History) (es : List Stamped) → IsLegal p (after es h) → list_all is_sized_stamped es ≡ true → IsLegal p h × (list_all (entry_fits p) es ≡ true)
legal_fit p h [] legal sized = (legal, refl)
legal_fit p h (s ∷ es) legal sized =
    let both = and_parts (is_sized_stamped s) (list_all is_sized_stamped es) sized in
    let rest = legal_fit p (s.entry ∷ h) es legal both.1 in
    (rest.0.0, and_from (entry_fits p s) (list_all (entry_fits p) es) (and_from (fits p s.entry) (is_sized_entry s.entry) rest.0.1.fit both.0) rest.1)

module _ (w : Writing) (version : w.version ≡ Two) (plain : w.prefix.now ≡ []) (p : Plan) (m : Mapping) (h : History) (order : List ℕ) (entries : List Stamped) (before between now : Option (List ℕ))
    (put : AppendsWhereTold before between (served_text p order entries)) where
  pub ran : (new : NodeState) → IsLegal p (after entries h) → list_all is_sized_stamped entries ≡ true → PrintsLines w p m (after entries h) (line.Run ∷ []) new between now → PrintsLive p m h order entries before now
  ran new legal sized r = record {
    session = r.session;
    of_run = r.of_script;
    fit = r.fit;
    entries_fit = (legal_fit p h entries legal sized).1;
    legal = r.legal;
    quiet = r.quiet;
    put = appends_both before between now (served_text p order entries) (session_lines p r.session) put (subst (AppendsWhereTold between now) (plain_lines w p r.session version plain) r.put);
  }

  pub began : PrintsFirstLines w p m (after entries h) (line.Run ∷ []) between now → PrintsBegunLive p m h order entries before now
  began r = record {
    session = r.session;
    of_run = r.of_script;
    legal = r.legal;
    put = prefix_after before (served_text p order entries) put (subst (AppendsPrefixWhereTold between now) (plain_lines w p r.session version plain) r.put);
  }

-- before the run line
pub not_begun : (p : Plan) (m : Mapping) (h : History) (order : List ℕ) (entries : List Stamped) (before now : Option (List ℕ))
    → AppendsPrefixWhereTold before now (served_text p order entries) → PrintsBegunLive p m h order entries before now
not_begun p m h order entries before now cut = record {
  session = [];
  of_run = record { left = a_run ∷ []; orders = refl; placed = refl };
  legal = tt;
  put = prefix_first [] cut;
}
