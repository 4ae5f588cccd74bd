-- How far reading has come, and what each step of it shows.
use Rattle.std.proofs.Common.{◌≡◌, ◌<◌, ℕ, ◌+◌, List, [], ◌∷◌, ◌++◌, length, map, Bool, true, false, ◌||◌, if◌then◌else◌, Some, None, Vec, refl, sym, ap, ◌∙◌, subst, append_assoc}
use Rattle.std.proofs.Common.{length-append, arith}
use Rattle.bus_semantics.specs.Common.{Global, append-nil, Plan, Letters, wanted_of}
use Rattle.bus_semantics.specs.declared.entries.Wish.{Wish}
use Rattle.line_fields.specs.Texts.{lines_of}
use Rattle.script_reading.specs.Meaning.{no_form}
use Rattle.script_reading.specs.Reading.{bad_or}
use Rattle.feed_queue.specs.declared.feeds.Feeds.{Feeds}
use Rattle.feed_queue.specs.declared.progress.Progress.{Progress}
use Rattle.feed_queue.specs.Gifts.{wishes_at}
use Rattle.feed_queue.specs.Stimuli.{Stimulus, stimulus}
use Rattle.feed_queue.specs.Reading.{AreFeeds, cause_of, first_bad, given_to, has_stopped, how_many, is_stop, wishes_for, wishes_in}
use Rattle.feed_queue.specs.Progress.{IsWith, cause_after}

-- these lines were read, with this progress, and the rest was not
pub record HasRead (p : Plan) (bytes : Letters) (lists : List (Vec Wish Global)) (c : Progress) (rest : Letters) : Type 0 where
  pub seen : List Letters
  pub good : first_bad p [] (lines_of bytes) ≡ first_bad p seen (lines_of rest)
  pub four : length lists ≡ 4
  pub given : (f : ℕ) → f < 4 → wishes_for p f (lines_of bytes) ≡ map wanted_of (wishes_at lists f) ++ wishes_for p f (lines_of rest)
  pub lines_are : c.lines ≡ length seen
  pub wishes_are : c.wishes ≡ wishes_in p seen
  pub stopped_is : c.stopped ≡ has_stopped p seen

pub wishes_in-more : (p : Plan) (ts : List Letters) (t : Letters) → wishes_in p (ts ++ t ∷ []) ≡ wishes_in p ts + how_many (stimulus p t)
wishes_in-more p [] t = omega arith
wishes_in-more p (x ∷ xs) t = let h = wishes_in-more p xs t in omega arith

or_again : (a b c : Bool) → (a || (b || c)) ≡ ((a || b) || c)
or_again true b c = refl
or_again false b c = refl

or_none : (a : Bool) → (a || false) ≡ a
or_none true = refl
or_none false = refl

stopped-more : (p : Plan) (ts : List Letters) (t : Letters) → has_stopped p (ts ++ t ∷ []) ≡ (has_stopped p ts || is_stop (stimulus p t))
stopped-more p [] t = or_none (is_stop (stimulus p t))
stopped-more p (x ∷ xs) t = ap (λ (b : Bool). is_stop (stimulus p x) || b) (stopped-more p xs t) ∙ or_again (is_stop (stimulus p x)) (has_stopped p xs) (is_stop (stimulus p t))

pub has_read_none : (p : Plan) (bytes : Letters) (lists : List (Vec Wish Global)) (c : Progress) → length lists ≡ 4 → ((f : ℕ) → wishes_at lists f ≡ [])
    → c.lines ≡ 0 → c.wishes ≡ 0 → c.stopped ≡ false → HasRead p bytes lists c bytes
has_read_none p bytes lists c four none l w s = record {
  seen = [];
  good = refl;
  four = four;
  given = λ f _. ap (λ (ws : List Wish). map wanted_of ws ++ wishes_for p f (lines_of bytes)) (sym (none f));
  lines_are = l;
  wishes_are = w;
  stopped_is = s;
}

-- the cause of the next line
cause_is : (p : Plan) (bytes : Letters) (lists : List (Vec Wish Global)) (c : Progress) (rest text : Letters) (h : HasRead p bytes lists c rest) → cause_after c (stimulus p text) ≡ cause_of p h.seen text
cause_is p bytes lists c rest text h = rw (h.lines_are, h.wishes_are, h.stopped_is) refl

pub has_read_more : (p : Plan) (bytes : Letters) (lists more : List (Vec Wish Global)) (c d : Progress) (rest text after : Letters) → HasRead p bytes lists c rest
    → lines_of rest ≡ text ∷ lines_of after → cause_after c (stimulus p text) ≡ None → IsWith c (stimulus p text) d
    → length more ≡ 4 → ((f : ℕ) → f < 4 → map wanted_of (wishes_at more f) ≡ map wanted_of (wishes_at lists f) ++ given_to f (stimulus p text)) → HasRead p bytes more d after
has_read_more p bytes lists more c d rest text after h split good counted four pushed = record {
  seen = h.seen ++ text ∷ [];
  good = h.good ∙ ap (first_bad p h.seen) split ∙ ap (λ k. bad_or (length h.seen + 1) k (first_bad p (h.seen ++ text ∷ []) (lines_of after))) (sym (cause_is p bytes lists c rest text h) ∙ good);
  four = four;
  given = λ f small. h.given f small
      ∙ ap (λ ts. map wanted_of (wishes_at lists f) ++ wishes_for p f ts) split
      ∙ sym (append_assoc (map wanted_of (wishes_at lists f)) (given_to f (stimulus p text)) (wishes_for p f (lines_of after)))
      ∙ ap (λ xs. xs ++ wishes_for p f (lines_of after)) (sym (pushed f small));
  lines_are = let n = length-append h.seen (text ∷ []) in omega (arith, n, h.lines_are, counted.0);
  wishes_are = let n = wishes_in-more p h.seen text in omega (arith, n, h.wishes_are, counted.1);
  stopped_is = counted.2 ∙ ap (λ (b : Bool). b || is_stop (stimulus p text)) h.stopped_is ∙ sym (stopped-more p h.seen text);
}

pub has_read_next : (p : Plan) (bytes : Letters) (lists more : List (Vec Wish Global)) (c d : Progress) (rest text after : Letters) (s : Stimulus) → HasRead p bytes lists c rest
    → lines_of rest ≡ text ∷ lines_of after → s ≡ stimulus p text → cause_after c s ≡ None → IsWith c s d
    → length more ≡ 4 → ((f : ℕ) → f < 4 → map wanted_of (wishes_at more f) ≡ map wanted_of (wishes_at lists f) ++ given_to f s) → HasRead p bytes more d after
has_read_next p bytes lists more c d rest text after s h split is good counted four pushed =
    subst (λ x. cause_after c x ≡ None → IsWith c x d → ((f : ℕ) → f < 4 → map wanted_of (wishes_at more f) ≡ map wanted_of (wishes_at lists f) ++ given_to f x) → HasRead p bytes more d after) (sym is)
    (λ g k q. has_read_more p bytes lists more c d rest text after h split g k four q) good counted pushed

pub has_read_bad : (p : Plan) (bytes : Letters) (lists : List (Vec Wish Global)) (c : Progress) (rest text after : Letters) (cause : ℕ) → HasRead p bytes lists c rest
    → lines_of rest ≡ text ∷ lines_of after → cause_after c (stimulus p text) ≡ Some cause → first_bad p [] (lines_of bytes) ≡ Some (c.lines + 1, cause)
has_read_bad p bytes lists c rest text after cause h split bad =
    h.good
    ∙ ap (first_bad p h.seen) split
    ∙ ap (λ k. bad_or (length h.seen + 1) k (first_bad p (h.seen ++ text ∷ []) (lines_of after))) (sym (cause_is p bytes lists c rest text h) ∙ bad)
    ∙ ap (λ n. Some (n + 1, cause)) (sym h.lines_are)

-- all was read, and what comes of it by whether a line was a stop
at_end : (p : Plan) (bytes : Letters) (lists : List (Vec Wish Global)) (c : Progress) (rest : Letters) (b : Bool) → (h : HasRead p bytes lists c rest) → rest ≡ [] → c.stopped ≡ b
    → first_bad p [] (lines_of bytes) ≡ if b then None else Some (c.lines + 1, no_form)
at_end p bytes lists c rest b h none is =
    h.good ∙ ap (λ r. first_bad p h.seen (lines_of r)) none ∙ ap (λ (x : Bool). if x then None else Some (length h.seen + 1, no_form)) (sym h.stopped_is ∙ is)
    ∙ ap (λ n. if b then None else Some (n + 1, no_form)) (sym h.lines_are)

pub has_read_all : (p : Plan) (bytes : Letters) (lists : Feeds) (c : Progress) (rest : Letters) → HasRead p bytes lists.wishes.items c rest → rest ≡ [] → c.stopped ≡ true → AreFeeds p bytes lists
has_read_all p bytes feeds c rest h none is = record {
  good = at_end p bytes feeds.wishes.items c rest true h none is;
  four = h.four;
  given = λ f small. sym (h.given f small ∙ ap (λ r. map wanted_of (wishes_at feeds.wishes.items f) ++ wishes_for p f (lines_of r)) none ∙ append-nil (map wanted_of (wishes_at feeds.wishes.items f)));
}

pub has_read_no_stop : (p : Plan) (bytes : Letters) (lists : List (Vec Wish Global)) (c : Progress) (rest : Letters) → HasRead p bytes lists c rest → rest ≡ [] → c.stopped ≡ false
    → first_bad p [] (lines_of bytes) ≡ Some (c.lines + 1, no_form)
has_read_no_stop p bytes lists c rest h none is = at_end p bytes lists c rest false h none is
