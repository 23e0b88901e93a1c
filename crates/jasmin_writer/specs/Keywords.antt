-- The fixed words of the canonical spelling but those of instructions, with the spaces round them.
use Rattle.std.specs.Prelude.{ℕ, List, codes}
use Rattle.jasmin_writer.specs.declared.keyword.Keyword.{Keyword}
use Rattle.jasmin_writer.specs.declared.keyword.Keyword.TheVariants as word

unfoldable pub spelled : Keyword → List ℕ
spelled word.Class = codes ".class"
spelled word.Interface = codes ".interface"
spelled word.Super = codes ".super "
spelled word.Implements = codes ".implements "
spelled word.Field = codes ".field"
spelled word.Method = codes ".method"
spelled word.EndMethod = codes ".end method"
spelled word.LimitStack = codes ".limit stack "
spelled word.LimitLocals = codes ".limit locals "
spelled word.Catch = codes ".catch "
spelled word.From = codes " from "
spelled word.To = codes " to "
spelled word.Using = codes " using "
spelled word.All = codes "all"
spelled word.Equals = codes " = "
spelled word.Colon = codes " : "
spelled word.Default = codes "default : "
spelled word.Public = codes " public"
spelled word.Private = codes " private"
spelled word.Protected = codes " protected"
spelled word.Static = codes " static"
spelled word.Final = codes " final"
spelled word.Synchronized = codes " synchronized"
spelled word.Volatile = codes " volatile"
spelled word.Transient = codes " transient"
spelled word.Abstract = codes " abstract"
