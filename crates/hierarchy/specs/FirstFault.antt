-- The first fault of class texts, and the program that texts without a fault make (JVMS SE 8 5.3.5, 5.4).
-- The passes, each over the classes in file order: how many there are; names under java/; names of two classes;
-- the names of supertypes; cycles; members declared twice; the heap's share.
use Rattle.std.specs.Prelude.{◌≡◌, ℕ, ◌<◌, ◌≤◌, List, Option, Some, None, Ok, Err, length, position, slice_get}
use Rattle.jasmin_text.specs.declared.class_text.ClassParts.{ClassParts}
use Rattle.hierarchy.specs.declared.class.Class.{Class}
use Rattle.hierarchy.specs.declared.edition.Edition.{Edition}
use Rattle.hierarchy.specs.declared.edition.Edition.TheVariants.{Eight}
use Rattle.hierarchy.specs.declared.fault.LinkFault.{LinkFault}
use Rattle.hierarchy.specs.declared.fault.LinkFaultKind.{LinkFaultKind}
use Rattle.hierarchy.specs.declared.fault.LinkFaultKind.TheVariants.{RepeatedName, Cycle, ReservedName, RepeatedMember, TooMany, NoMemory}
use Rattle.hierarchy.specs.LinkedProgram.{LinkedProgram, id}
use Rattle.hierarchy.specs.Hierarchy.{IsCyclic, IsFirstCyclic}
use Rattle.hierarchy.specs.Linking.{is_reserved, IsFirst, IsRepeated, classes_of, fault}
use Rattle.hierarchy.specs.Members.{repeats_member}
use Rattle.hierarchy.specs.Quoted.{FillsHeap}

-- at most 1,024 classes
abbrev pub HasRoom : List ClassParts → Type 0
HasRoom texts = length texts ≤ 1024

-- no name lies under java/
abbrev pub HasUserNames : List ClassParts → Type 0
HasUserNames texts = position (λ t. is_reserved t.name) texts ≡ None

-- no two classes have one name
abbrev pub HasDistinctNames : List ClassParts → Type 0
HasDistinctNames texts = (i : ℕ) → IsRepeated texts i → ⊥

-- the classes' own names are without a fault
pub record HasNames (texts : List ClassParts) : Type 0 where
  pub room : HasRoom texts
  pub user_names : HasUserNames texts
  pub distinct : HasDistinctNames texts

-- the first fault of the classes' own names, by its place
pub data IsNameFault (texts : List ClassParts) : LinkFaultKind → ℕ → Type 0 where
  too_many : 1024 < length texts → IsNameFault texts TooMany 1024
  reserved : {i : ℕ} → HasRoom texts → position (λ t. is_reserved t.name) texts ≡ Some i → IsNameFault texts ReservedName i
  repeated : {i : ℕ} → HasRoom texts → HasUserNames texts → IsFirst (IsRepeated texts) i → IsNameFault texts RepeatedName i

-- no class is on a cycle
abbrev pub HasNoCycle : List Class → Type 0
HasNoCycle classes = (n : ℕ) → IsCyclic classes (id n) → ⊥

-- no class declares a member twice
abbrev pub HasDistinctMembers : List Class → Type 0
HasDistinctMembers classes = position repeats_member classes ≡ None

-- the heap holds all quoted texts
abbrev pub FitsHeap : List Class → Type 0
FitsHeap classes = (i : ℕ) → FillsHeap classes i → ⊥

-- the first fault of classes whose supertypes' names are resolved, by its place
pub data IsClassFault (classes : List Class) : LinkFaultKind → ℕ → Type 0 where
  circles : {i : ℕ} → IsFirstCyclic classes i → IsClassFault classes Cycle i
  repeats : {i : ℕ} → HasNoCycle classes → position repeats_member classes ≡ Some i → IsClassFault classes RepeatedMember i
  fills : {i : ℕ} → HasNoCycle classes → HasDistinctMembers classes → IsFirst (FillsHeap classes) i → IsClassFault classes TooMany i

abbrev pub name_in_text : Option ClassParts → Option (List ℕ)
name_in_text None = None
name_in_text (Some t) = Some t.name

abbrev pub name_in_class : Option Class → Option (List ℕ)
name_in_class None = None
name_in_class (Some c) = Some c.name

-- the first fault, pass by pass, with the name of its class
pub data IsFirstFault (texts : List ClassParts) : LinkFault → Type 0 where
  of_names : {kind : LinkFaultKind} {i : ℕ} {name : List ℕ} → IsNameFault texts kind i → name_in_text (slice_get texts i) ≡ Some name → IsFirstFault texts (fault kind name)
  of_supertypes : {f : LinkFault} → HasNames texts → classes_of texts ≡ Err f → IsFirstFault texts f
  of_classes : {classes : List Class} {kind : LinkFaultKind} {i : ℕ} {name : List ℕ} → HasNames texts → classes_of texts ≡ Ok classes → IsClassFault classes kind i →
      name_in_class (slice_get classes i) ≡ Some name → IsFirstFault texts (fault kind name)

-- the texts have no fault, and p is the program that they make in this edition
pub record LinksAs (edition : Edition) (texts : List ClassParts) (p : LinkedProgram) : Type 0 where
  pub edition_is : p.edition ≡ edition
  pub names : HasNames texts
  pub supertypes : classes_of texts ≡ Ok p.classes
  pub cycles : HasNoCycle p.classes
  pub members : HasDistinctMembers p.classes
  pub heap : FitsHeap p.classes

-- .. in edition 8
abbrev pub LinksTo : List ClassParts → LinkedProgram → Type 0
LinksTo texts p = LinksAs Eight texts p

abbrev pub IsMemory : LinkFault → Type 0
IsMemory f = f.kind ≡ NoMemory
