-- Files that are known by their names.
use Rattle.std.proofs.Common.{◌≡◌, ◌≢◌, ◌∙◌, ◌+◌, ◌<◌, ◌≤◌, ℕ, sym, subst, ap, refl, arith, length, take, drop, append_assoc, List, [], ◌∷◌, ◌++◌, Option, Some, None, is_none, true≢false, IsSomeAnd, Bor, slice_index_or}
use Rattle.std.specs.List.{AllZip}
use Rattle.std.proofs.lemmas.List.{length-map, length-take, map-append, take-append-drop, take_all, take_more}
use Rattle.jasmin_text.specs.Grammar.{Spells}
use Rattle.jasmin_text.specs.Lines.{lines_of}
use Rattle.jasmin_text.specs.declared.class_text.ClassParts.{ClassParts}
use Rattle.clap.specs.Walk.{texts}
use Rattle.std.specs.Prelude.{Err}
use Rattle.jasmin_reader.specs.File.{class_at}
use Rattle.cli.specs.declared.fault.Fault.{Fault}
use Rattle.cli.specs.declared.files.TheConstants.{MOST_BYTES, MOST_FILES}
use Rattle.cli.specs.ReadRefusals.{AreRefused, IsReadRefusal, at_file, faulty, no_memory, too_large, unread}
use Rattle.cli.specs.Files.{AreClassesOf, AreSpelled, FileHolds, Files, KeepsAllBut, SpellsClass}

no_name : (name : List ℕ) → None ≢ Some name
no_name name e = true≢false (ap is_none e)

pub keeps_all : (but : Option (List ℕ)) (known : Option Files) → KeepsAllBut but known known
keeps_all but None = tt
keeps_all but (Some files) = λ name other. refl

pub keeps_then : (but : Option (List ℕ)) (before middle after : Option Files) → KeepsAllBut None before middle → KeepsAllBut but middle after → KeepsAllBut but before after
keeps_then but None middle after first second = tt
keeps_then but (Some files) None after first second = absurd first
keeps_then but (Some files) (Some then) None first second = absurd second
keeps_then but (Some files) (Some then) (Some now) first second = λ name other. second name other ∙ first name (no_name name)

pub held_before : (before after : Option Files) (name : List ℕ) (P : List ℕ → Type 0) → KeepsAllBut None before after → FileHolds after name P → FileHolds before name P
held_before None after name P kept holds = tt
held_before (Some files) None name P kept holds = absurd kept
held_before (Some files) (Some now) name P kept holds = subst (λ o. IsSomeAnd o P) (kept name (no_name name)) holds

-- a front that is shorter than was asked for is all
short_front : (most : ℕ) (all : List ℕ) → length (take (most + 1) all) ≤ most → take (most + 1) all ≡ all
short_front most all short =
    let front = length-take (most + 1) all in
    take_all (most + 1) all (omega arith)

-- what was read of a file that isn't too large is all of it
pub whole_file : (most : ℕ) (known : Option Files) (name bytes : List ℕ) (P : List ℕ → Type 0) → FileHolds known name (λ all. bytes ≡ take (most + 1) all)
    → length bytes ≤ most → P bytes → FileHolds known name P
whole_file most None name bytes P front short holds = tt
whole_file most (Some files) name bytes P front short holds = go (files name) front
  where
    go : (o : Option (List ℕ)) → IsSomeAnd o (λ all. bytes ≡ take (most + 1) all) → IsSomeAnd o P
    go None is = absurd is
    go (Some all) is = subst P (is ∙ short_front most all (subst (λ bs. length bs ≤ most) is short)) holds

-- a file of which more was read is too large
pub large_file : (most : ℕ) (known : Option Files) (name bytes : List ℕ) → FileHolds known name (λ all. bytes ≡ take (most + 1) all)
    → most < length bytes → FileHolds known name (λ all. most < length all)
large_file most None name bytes front long = tt
large_file most (Some files) name bytes front long = go (files name) front
  where
    go : (o : Option (List ℕ)) → IsSomeAnd o (λ all. bytes ≡ take (most + 1) all) → IsSomeAnd o (λ all. most < length all)
    go None is = absurd is
    go (Some all) is =
        let cut = length-take (most + 1) all in
        let more : most < length (take (most + 1) all) = subst (λ bs. most < length bs) is long in
        omega arith

-- why a file isn't had stays so, while no file is written
pub refused_before : (before after : Option Files) (file : List ℕ) (f : Fault) → KeepsAllBut None before after → IsReadRefusal after file f → IsReadRefusal before file f
refused_before before after file _ kept (unread is) = unread is
refused_before before after file _ kept (too_large large) = too_large (held_before before after file (λ all. MOST_BYTES < length all) kept large)
refused_before before after file _ kept (faulty {f = g} is found) = faulty is (held_before before after file (λ all. (length all ≤ MOST_BYTES) × (class_at all ≡ Err g)) kept found)
refused_before before after file _ kept no_memory = no_memory

-- the files before one, that one, and those after it
pub split_at : (files : List (Bor (List ℕ))) (i : ℕ) (d : Bor (List ℕ)) → i < length files
    → texts files ≡ texts (take i files) ++ (slice_index_or files i d).now ∷ texts (drop (i + 1) files)
split_at files i d lt =
    let more : take (i + 1) files ++ drop (i + 1) files ≡ files = take-append-drop (i + 1) files in
    let all : (take i files ++ slice_index_or files i d ∷ []) ++ drop (i + 1) files ≡ files = subst (λ front. front ++ drop (i + 1) files ≡ files) (take_more files i d lt) more in
    let named : texts ((take i files ++ slice_index_or files i d ∷ []) ++ drop (i + 1) files) ≡ texts files = ap texts all in
    sym named ∙ (map-append (λ s. s.now) (take i files ++ slice_index_or files i d ∷ []) (drop (i + 1) files)
    ∙ (ap (λ front. front ++ texts (drop (i + 1) files)) (map-append (λ s. s.now) (take i files) (slice_index_or files i d ∷ []))
    ∙ append_assoc (texts (take i files)) ((slice_index_or files i d).now ∷ []) (texts (drop (i + 1) files))))

-- as many names as files
few_names : (files : List (Bor (List ℕ))) → length files ≤ MOST_FILES → length (texts files) ≤ MOST_FILES
few_names files few = subst (λ n. n ≤ MOST_FILES) (sym (length-map files (λ s. s.now))) few

-- all files were read
pub all_spelled : (known : Option Files) (files : List (Bor (List ℕ))) (i : ℕ) (classes : List ClassParts) → length files ≤ MOST_FILES → length files ≤ i
    → AreSpelled known (texts (take i files)) classes → AreClassesOf known (texts files) classes
all_spelled known files i classes few over all =
    record {
      few = few_names files few;
      spelled = subst (λ fs. AreSpelled known (texts fs) classes) (take_all i files over) all;
    }

-- a file isn't had, while those before it are
pub refused_at : (before now : Option Files) (files : List (Bor (List ℕ))) (i : ℕ) (d : Bor (List ℕ)) (classes : List ClassParts) (f : Fault) → length files ≤ MOST_FILES → i < length files
    → AreSpelled before (texts (take i files)) classes → KeepsAllBut None before now → IsReadRefusal now (slice_index_or files i d).now f → AreRefused before (texts files) f
refused_at before now files i d classes f few lt all kept refused =
    at_file (texts (take i files)) (slice_index_or files i d).now (texts (drop (i + 1) files)) classes (few_names files few) (split_at files i d lt) all (refused_before before now (slice_index_or files i d).now f kept refused)

-- one more place
all_zip_push : {A B : Type 0} (R : A → B → Type 0) (xs : List A) (ys : List B) (x : A) (y : B) → AllZip R xs ys → R x y → AllZip R (xs ++ x ∷ []) (ys ++ y ∷ [])
all_zip_push R [] [] x y all one = (one, tt)
all_zip_push R [] (b ∷ ys) x y all one = absurd all
all_zip_push R (a ∷ xs) [] x y all one = absurd all
all_zip_push R (a ∷ xs) (b ∷ ys) x y all one = (all.0, all_zip_push R xs ys x y all.1 one)

-- one more file was read, while all stay as they were
pub more_spelled : (before now : Option Files) (files : List (Bor (List ℕ))) (i : ℕ) (d : Bor (List ℕ)) (classes : List ClassParts) (c : ClassParts)
    → i < length files → AreSpelled before (texts (take i files)) classes → KeepsAllBut None before now → SpellsClass now (slice_index_or files i d).now c
    → AreSpelled before (texts (take (i + 1) files)) (classes ++ c ∷ [])
more_spelled before now files i d classes c lt all kept one =
    let names : texts (take (i + 1) files) ≡ texts (take i files) ++ (slice_index_or files i d).now ∷ []
    = ap texts (take_more files i d lt) ∙ map-append (λ s. s.now) (take i files) (slice_index_or files i d ∷ []) in
    subst (λ ns. AreSpelled before ns (classes ++ c ∷ [])) (sym names)
    (all_zip_push (SpellsClass before) (texts (take i files)) classes (slice_index_or files i d).now c all
    (held_before before now (slice_index_or files i d).now (λ bytes. (length bytes ≤ MOST_BYTES) × Spells (lines_of bytes) c) kept one))
