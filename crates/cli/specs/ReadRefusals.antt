-- Why files' class texts aren't had, or aren't linked.
use Rattle.std.specs.Prelude.{◌≡◌, ◌<◌, ◌≤◌, ℕ, ◌++◌, ◌∷◌, List, Option, Err, length}
use Rattle.std.specs.Borrow.{Bor}
use Rattle.jasmin_text.specs.declared.class_text.ClassParts.{ClassParts}
use Rattle.jasmin_reader.specs.File.{class_at}
use Rattle.jasmin_reader.specs.declared.fault.ReadFault.{ReadFault}
use Rattle.cli.specs.declared.fault.Fault.{Fault}
use Rattle.cli.specs.declared.fault.Fault.TheVariants as fault
use Rattle.cli.specs.declared.files.TheConstants.{MOST_BYTES, MOST_FILES}
use Rattle.cli.specs.Files.{AreClassesOf, AreSpelled, FileHolds, Files}
use Rattle.cli.specs.Running.{IsLinkRefusal}

-- the file can't be had, has over 1 MiB, or has not and this fault is its first; or memory runs out
pub data IsReadRefusal (known : Option Files) (file : List ℕ) : Fault → Type 0 where
  unread : {name : Bor (List ℕ)} → name.now ≡ file → IsReadRefusal known file (fault.Io name)
  too_large : FileHolds known file (λ all. MOST_BYTES < length all) → IsReadRefusal known file fault.Files
  faulty : {name : Bor (List ℕ)} {f : ReadFault} → name.now ≡ file → FileHolds known file (λ all. (length all ≤ MOST_BYTES) × (class_at all ≡ Err f)) → IsReadRefusal known file (fault.Jasmin name f)
  no_memory : IsReadRefusal known file fault.Memory

-- there are more than 256 files, or there are not, and the classes of those before this one are had, and that of this one isn't; or memory runs out
pub data AreRefused (known : Option Files) (files : List (List ℕ)) : Fault → Type 0 where
  too_many : MOST_FILES < length files → AreRefused known files fault.Files
  at_file : {f : Fault} (before : List (List ℕ)) (file : List ℕ) (after : List (List ℕ)) (texts : List ClassParts) → length files ≤ MOST_FILES → files ≡ before ++ file ∷ after →
      AreSpelled known before texts → IsReadRefusal known file f → AreRefused known files f
  no_room : AreRefused known files fault.Memory

-- why no program is linked from files: the first fault of the files, or else of linking
pub data AreUnlinked (known : Option Files) (files : List (List ℕ)) : Fault → Type 0 where
  unread_files : {f : Fault} → AreRefused known files f → AreUnlinked known files f
  unlinked : {f : Fault} (texts : List ClassParts) → AreClassesOf known files texts → IsLinkRefusal texts f → AreUnlinked known files f
