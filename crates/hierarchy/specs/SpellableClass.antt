-- Classes whose kind, access words, name, fields and methods a file can spell.
use Rattle.std.specs.Prelude.{◌≡◌}
use Rattle.jasmin_text.specs.declared.class_text.ClassParts.{ClassParts}
use Rattle.jasmin_text.specs.Spellable.{IsSpellable}
use Rattle.hierarchy.specs.declared.class.Class.{Class}
use Rattle.hierarchy.specs.Linking.{class_of}

-- a class is that of a text which a file can spell
pub record IsSpellableClass (class : Class) : Type 0 where
  pub text : ClassParts
  pub spellable : IsSpellable text
  pub same : class_of text class.superclass class.interfaces ≡ class
