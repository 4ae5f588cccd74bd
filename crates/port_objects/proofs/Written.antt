-- The entry that was written down last.
use Rattle.std.proofs.Common.{◌≡◌, ℕ, ◌∙◌, ap, List, [], ◌∷◌, ◌++◌, length, get_or, take, refl, Some, None}
use Rattle.std.proofs.Math.Seq.{get_or-append_seam, set-append_seam, take-append_seam}
use Rattle.std.specs.Prelude.{Option, set}
use Rattle.std.specs.List.{last_or}
use Rattle.std.specs.Option.{option_map_or}
use Rattle.bus_semantics.specs.declared.entries.Entry.{Entry}
use Rattle.bus_semantics.specs.declared.entries.Stamped.{Stamped}
use Rattle.port_objects.specs.declared.bench.Answered.TheVariants as answered
use Rattle.port_objects.specs.declared.bench.Benched.TheVariants.{Done, Contended}
use Rattle.port_objects.specs.Benches.{benched, written_last}

pub last_behind : {A : Type 0} (o : Option A) (xs : List A) (x : A) → last_or o (xs ++ x ∷ []) ≡ Some x
last_behind o [] x = refl
last_behind o (y ∷ ys) x = last_behind (Some y) ys x

pub benched_made : (before after : List Stamped) (s : Stamped) → after ≡ before ++ s ∷ [] → benched answered.Made after ≡ Done s
benched_made before after s written = ap (λ (o : Option Stamped). option_map_or Done o Contended) (ap written_last written ∙ last_behind None before s)

-- what was written down last, after its entry was filled in
pub filled_behind : (before items : List Stamped) (at : ℕ) (x s : Stamped) (e : Entry) → at ≡ length before → items ≡ before ++ x ∷ [] → s ≡ get_or items at s → set items at (record s { entry = e }) ≡ before ++ record x { entry = e } ∷ []
filled_behind before items at x s e last pushed is =
    let same : s ≡ x = is ∙ ap (λ l. get_or l at s) pushed ∙ ap (λ i. get_or (before ++ x ∷ []) i s) last ∙ get_or-append_seam before x [] s in
    ap (λ l. set l at (record s { entry = e })) pushed
    ∙ ap (λ i. set (before ++ x ∷ []) i (record s { entry = e })) last
    ∙ set-append_seam before x [] (record s { entry = e })
    ∙ ap (λ (y : Stamped). before ++ record y { entry = e } ∷ []) same

-- what is cut off behind a list leaves the list
pub cut_behind : (before items after : List Stamped) (at : ℕ) (x : Stamped) → at ≡ length before → items ≡ before ++ x ∷ [] → after ≡ take at items → after ≡ before
cut_behind before items after at x last pushed cut = cut ∙ ap (take at) pushed ∙ ap (λ i. take i (before ++ x ∷ [])) last ∙ take-append_seam before (x ∷ [])
