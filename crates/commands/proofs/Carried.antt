-- What a stop, a run and files that were fetched say of how a command ended.
use Rattle.std.proofs.Common.{◌≡◌, List, [], ◌∷◌, map, get_or, refl, inr}
use Rattle.rte_text.specs.Shelves.{ToldFiles}
use Rattle.commands.specs.declared.status.Status.{Status}
use Rattle.commands.specs.Carrying.{CarriesOut, Ends, World}
use Rattle.commands.specs.Commands.{Bytes, Command, files_of}
use Rattle.commands.specs.Fetching.{AreHeldWhereTold}

-- ---- files that were fetched

module _ {Y : Type 0} (bytes : Y → Bytes) (told : ToldFiles) where
  pub one_file : (a : Bytes) (files : List Y) (x : Y) → x ≡ get_or files 0 x → AreHeldWhereTold told (a ∷ []) (map bytes files) → map bytes files ≡ bytes x ∷ []
  one_file a [] x p held = absurd held
  one_file a (x' ∷ []) x p held = rw p refl
  one_file a (x' ∷ y' ∷ files) x p held = absurd held.1

  pub two_files : (a b : Bytes) (files : List Y) (x y : Y) → x ≡ get_or files 0 x → y ≡ get_or files 1 y → AreHeldWhereTold told (a ∷ b ∷ []) (map bytes files) → map bytes files ≡ bytes x ∷ bytes y ∷ []
  two_files a b [] x y p q held = absurd held
  two_files a b (x' ∷ []) x y p q held = absurd held.1
  two_files a b (x' ∷ y' ∷ []) x y p q held = rw (p, q) refl
  two_files a b (x' ∷ y' ∷ z' ∷ files) x y p q held = absurd held.1.1

  pub three_files : (a b c : Bytes) (files : List Y) (x y z : Y) → x ≡ get_or files 0 x → y ≡ get_or files 1 y → z ≡ get_or files 2 z → AreHeldWhereTold told (a ∷ b ∷ c ∷ []) (map bytes files)
      → map bytes files ≡ bytes x ∷ bytes y ∷ bytes z ∷ []
  three_files a b c [] x y z p q r held = absurd held
  three_files a b c (x' ∷ []) x y z p q r held = absurd held.1
  three_files a b c (x' ∷ y' ∷ []) x y z p q r held = absurd held.1.1
  three_files a b c (x' ∷ y' ∷ z' ∷ []) x y z p q r held = rw (p, q, r) refl
  three_files a b c (x' ∷ y' ∷ z' ∷ w' ∷ files) x y z p q r held = absurd held.1.1.1

-- ---- stops

-- all were
pub fetched : (command : Command) (answer : Status) (b a : World) (files : List Bytes) → AreHeldWhereTold b.files (files_of command) files → a.counts ≡ b.counts
    → CarriesOut command files answer b.told a.told b.faults a.faults → Ends command answer b a
fetched command answer b a files held same carried = inr (inr (record { files = files; held = held; counts = same; carried = carried }))
