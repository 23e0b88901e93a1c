-- The words of the base types that newarray makes (JVMS SE 8 6.5).
use Rattle.std.specs.Prelude.{ℕ, List, codes}
use Rattle.descriptors.specs.declared.base.BaseType.{BaseType}
use Rattle.descriptors.specs.declared.base.BaseType.TheVariants as base

abbrev pub base_word : BaseType → List ℕ
base_word base.Boolean = codes "boolean"
base_word base.Byte = codes "byte"
base_word base.Char = codes "char"
base_word base.Short = codes "short"
base_word base.Int = codes "int"
