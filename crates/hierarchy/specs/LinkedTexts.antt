-- What linking proves of a program, which keeps it (JVMS SE 8 5.3.5, 5.4).
use Rattle.std.specs.Prelude.{◌≡◌, List, Ok}
use Rattle.std.specs.List.{All}
use Rattle.jasmin_text.specs.declared.class_text.ClassParts.{ClassParts}
use Rattle.jasmin_text.specs.Spellable.{IsSpellable}
use Rattle.hierarchy.specs.declared.class.Class.{Class}
use Rattle.hierarchy.specs.LinkedProgram.{LinkedProgram}
use Rattle.hierarchy.specs.Linking.{classes_of}
use Rattle.hierarchy.specs.FirstFault.{HasNames, LinksAs}

-- the classes are those of texts which files can spell, and whose names and supertypes' names are without a fault
pub record IsResolved (classes : List Class) : Type 0 where
  pub texts : List ClassParts
  pub spellable : All IsSpellable texts
  pub names : HasNames texts
  pub supertypes : classes_of texts ≡ Ok classes

-- the program is that of texts which files can spell and which have no fault, in its edition
pub record IsLinked (p : LinkedProgram) : Type 0 where
  pub texts : List ClassParts
  pub spellable : All IsSpellable texts
  pub links : LinksAs p.edition texts p
