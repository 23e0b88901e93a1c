-- The parts of an event.
use Rattle.std.specs.Prelude.{ℕ, List, Option, Some, None}
use Rattle.hierarchy.specs.declared.class.ClassId.{ClassId}
use Rattle.init_core.specs.declared.event.Kind.{Kind}
use Rattle.init_core.specs.declared.event.Kind.TheVariants as kind

-- an event: of which thread, of which class, and what it does
pub record EventParts : Type 0 where
  pub thread : ℕ
  pub class : Option ClassId
  pub kind : Kind

-- the text that is printed, where one is
abbrev pub text_of : Kind → Option (List ℕ)
text_of (kind.Prints text) = Some text
text_of other = None
