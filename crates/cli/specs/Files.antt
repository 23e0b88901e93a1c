-- Files by name, where what they hold is known: of each name the bytes, or nothing where there is no such file.
use Rattle.std.specs.Prelude.{◌≡◌, ◌≢◌, ◌≤◌, ⊤, ℕ, List, Option, Some, None, IsSomeAnd, length}
use Rattle.std.specs.List.{AllZip}
use Rattle.jasmin_text.specs.Grammar.{Spells}
use Rattle.jasmin_text.specs.declared.class_text.ClassParts.{ClassParts}
use Rattle.jasmin_text.specs.Lines.{lines_of}
use Rattle.hierarchy.specs.declared.edition.Edition.{Edition}
use Rattle.hierarchy.specs.FirstFault.{LinksAs}
use Rattle.hierarchy.specs.LinkedProgram.{LinkedProgram}
use Rattle.cli.specs.declared.files.TheConstants.{MOST_BYTES, MOST_FILES}

abbrev pub Files : Type 0
Files = List ℕ → Option (List ℕ)

-- known files stay as they are, but for the one of this name, where a name is given
abbrev pub KeepsAllBut : Option (List ℕ) → Option Files → Option Files → Type 0
KeepsAllBut but None after = ⊤
KeepsAllBut but (Some files) None = ⊥
KeepsAllBut but (Some files) (Some now) = (name : List ℕ) → but ≢ Some name → now name ≡ files name

-- two names are of one file; where files are known, each name has a file of its own
abbrev pub IsOneFile : Option Files → List ℕ → List ℕ → Type 0
IsOneFile None one other = ⊤
IsOneFile (Some files) one other = one ≡ other

-- where files are known, there is one of that name, and P holds of its bytes
abbrev pub FileHolds : Option Files → List ℕ → (List ℕ → Type 0) → Type 0
FileHolds None name P = ⊤
FileHolds (Some files) name P = IsSomeAnd (files name) P

-- the file of that name has at most 1 MiB, and spells the class
abbrev pub SpellsClass : Option Files → List ℕ → ClassParts → Type 0
SpellsClass known name c = FileHolds known name (λ bytes. (length bytes ≤ MOST_BYTES) × Spells (lines_of bytes) c)

-- each file spells the class at its place
abbrev pub AreSpelled : Option Files → List (List ℕ) → List ClassParts → Type 0
AreSpelled known = AllZip (SpellsClass known)

-- there are at most 256 files, and they spell the classes
pub record AreClassesOf (known : Option Files) (files : List (List ℕ)) (texts : List ClassParts) : Type 0 where
  pub few : length files ≤ MOST_FILES
  pub spelled : AreSpelled known files texts

-- the program is linked from the classes of the files, in this edition
pub record IsLinkedFrom (known : Option Files) (files : List (List ℕ)) (edition : Edition) (program : LinkedProgram) : Type 0 where
  pub texts : List ClassParts
  pub classes : AreClassesOf known files texts
  pub linked : LinksAs edition texts program
