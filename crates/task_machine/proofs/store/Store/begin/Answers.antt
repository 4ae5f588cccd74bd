use Rattle.std.proofs.Common.{◌≡◌, ℕ, zero, suc, [], ◌∷◌, map, replicate, pos, None, refl, ap, ◌∙◌}
use Rattle.bus_semantics.specs.Common.{option_map, words_of, stored}
use Rattle.task_machine.proofs.store.Store.begin.Goals as goal

mapped : {X Y : Type 0} → (f : X → Y) (n : ℕ) (x : X) → map f (replicate n x) ≡ replicate n (f x)
mapped f zero x = refl
mapped f (suc n) x = ap (λ xs. f x ∷ xs) (mapped f n x)

pub returns-clause-first : goal.returns-clause-first
returns-clause-first c =
    let b = c.args.body.now in
    let vars : c.put_words.new.vars.items ≡ stored b.arguments c.args.words.now (replicate b.vars (pos 0)) =
    c.put_words.ensures.vars ∙ ap (λ ns. stored ns c.args.words.now c.refill.new.items.items) c.items.ensures ∙ ap (stored b.arguments c.args.words.now) c.refill.ensures.items in
    let fetched : map words_of c.refill-2.new.items.items ≡ replicate b.fetched [] =
    ap (map words_of) c.refill-2.ensures.items ∙ mapped words_of b.fetched c.empty.result ∙ ap (replicate b.fetched) c.empty.ensures in
    let written : map (option_map words_of) c.refill-3.new.items.items ≡ replicate b.written None =
    ap (map (option_map words_of)) c.refill-3.ensures.items ∙ mapped (option_map words_of) b.written None in
    λ i. record { vars = vars i; fetched = fetched i; written = written i }
