-- A statement that holds no others.
use Rattle.std.proofs.Common.{◌≡◌, ℕ, List, refl, sym, ap, ◌∙◌}
use Rattle.serde_json.specs.Data.{Data, array, Items}
use Rattle.program_reading.specs.declared.keywords.Keyword.{Keyword}
use Rattle.program_reading.specs.declared.keywords.Keyword.TheVariants.{If, Repeat, Area}
use Rattle.program_reading.specs.Keywords.{keyword_of}
use Rattle.program_reading.specs.Statements.{Block, Context, block, blocks, simple, statement}
use Rattle.declared_names.specs.Values.{text_of_part}

other : (k : Keyword) (c : Context) (d : Data) (parts : List Block) → (k ≡ If → ⊥) → (k ≡ Repeat → ⊥) → (k ≡ Area → ⊥) → statement k c d parts ≡ simple k c d
other If c d parts not_if not_repeat not_area = absurd (not_if refl)
other Repeat c d parts not_if not_repeat not_area = absurd (not_repeat refl)
other Area c d parts not_if not_repeat not_area = absurd (not_area refl)
other _ c d parts not_if not_repeat not_area = refl

pub kept : (k : Keyword) (word : List ℕ) (c : Context) (d : Data) (ds : Items) → d ≡ array ds → word ≡ text_of_part 0 d → k ≡ keyword_of word → (k ≡ If → ⊥) → (k ≡ Repeat → ⊥) → (k ≡ Area → ⊥)
    → simple k c d ≡ (block d).stmt c
kept k word c d ds d_is word_is k_is not_if not_repeat not_area =
    sym (other k c d (blocks ds) not_if not_repeat not_area)
    ∙ ap (λ x. statement x c d (blocks ds)) (k_is ∙ ap keyword_of word_is)
    ∙ ap (λ x. statement (keyword_of (text_of_part 0 x)) c x (blocks ds)) d_is
    ∙ ap (λ x. (block x).stmt c) (sym d_is)
