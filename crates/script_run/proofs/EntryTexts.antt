-- The lines of entries, one after the other.
use Rattle.std.proofs.Common.{◌≡◌, ℕ, suc, ◌+◌, ◌<◌, List, [], ◌∷◌, ◌++◌, length, take, drop, get_or, Option, refl, sym, ap, ◌∙◌, subst, append_assoc, append-nil, drop-cons}
use Rattle.bus_semantics.specs.Common.{take_more, take-append-drop, Plan, entry_text}
use Rattle.rte_text.specs.Sinks.{AppendsWhereTold, AppendsPrefixWhereTold}
use Rattle.rte_text.specs.Told.{appends_both, prefix_after, prefix_first}
use Rattle.bus_semantics.specs.declared.entries.Stamped.{Stamped}
use Rattle.script_run.specs.declared.writing.Writing.{Writing}
use Rattle.script_run.specs.Texts.{behind, entries_text}

texts-append : (w : Writing) (p : Plan) (a b : List Stamped) → entries_text w p (a ++ b) ≡ entries_text w p a ++ entries_text w p b
texts-append w p [] b = refl
texts-append w p (e ∷ a) b = ap (λ t. behind w (entry_text w.version p e.entry) ++ t) (texts-append w p a b) ∙ sym (append_assoc (behind w (entry_text w.version p e.entry)) (entries_text w p a) (entries_text w p b))

-- the lines so far and one more
pub texts-next : (w : Writing) (p : Plan) (es : List Stamped) (i : ℕ) (e : Stamped) → i < length es → e ≡ get_or es i e
    → entries_text w p (take i es) ++ behind w (entry_text w.version p e.entry) ≡ entries_text w p (take (i + 1) es)
texts-next w p es i e h is =
    let one : take (i + 1) es ≡ take i es ++ e ∷ [] = take_more es i e h ∙ ap (λ (x : Stamped). take i es ++ x ∷ []) (sym is) in
    sym (ap (entries_text w p) one ∙ texts-append w p (take i es) (e ∷ []) ∙ ap (λ t. entries_text w p (take i es) ++ t) (append-nil (behind w (entry_text w.version p e.entry))))

-- the lines so far, one more, and the rest are all of them
texts-whole : (w : Writing) (p : Plan) (es : List Stamped) (i : ℕ) (e : Stamped) → i < length es → e ≡ get_or es i e
    → (entries_text w p (take i es) ++ behind w (entry_text w.version p e.entry)) ++ entries_text w p (drop (suc i) es) ≡ entries_text w p es
texts-whole w p es i e h is =
    let rest : drop i es ≡ e ∷ drop (suc i) es = drop-cons es i e h ∙ ap (λ (x : Stamped). x ∷ drop (suc i) es) (sym is) in
    append_assoc (entries_text w p (take i es)) (behind w (entry_text w.version p e.entry)) (entries_text w p (drop (suc i) es))
    ∙ sym (texts-append w p (take i es) (e ∷ drop (suc i) es))
    ∙ ap (λ xs. entries_text w p (take i es ++ xs)) (sym rest)
    ∙ ap (entries_text w p) (take-append-drop i es)

-- a fault in the line after those so far leaves a prefix of all
pub texts_cut : (w : Writing) (p : Plan) (es : List Stamped) (i : ℕ) (e : Stamped) {between after : Option (List ℕ)} (before : Option (List ℕ)) → i < length es → e ≡ get_or es i e
    → AppendsWhereTold before between (entries_text w p (take i es)) → AppendsPrefixWhereTold between after (behind w (entry_text w.version p e.entry))
    → AppendsPrefixWhereTold before after (entries_text w p es)
texts_cut w p es i e {between} {after} before h is put cut =
    subst (AppendsPrefixWhereTold before after) (texts-whole w p es i e h is)
    (prefix_first (entries_text w p (drop (suc i) es)) (prefix_after before (entries_text w p (take i es)) put cut))

pub texts_more : (w : Writing) (p : Plan) (es : List Stamped) (i : ℕ) (e : Stamped) (before between after : Option (List ℕ)) → i < length es → e ≡ get_or es i e
    → AppendsWhereTold before between (entries_text w p (take i es)) → AppendsWhereTold between after (behind w (entry_text w.version p e.entry))
    → AppendsWhereTold before after (entries_text w p (take (i + 1) es))
texts_more w p es i e before between after h is put more =
    subst (AppendsWhereTold before after) (texts-next w p es i e h is)
    (appends_both before between after (entries_text w p (take i es)) (behind w (entry_text w.version p e.entry)) put more)
