-- The edition of JVMS by which classes are initialized, as the command line says it.
use Rattle.std.specs.Prelude.{◌≡◌, ℕ, List, Option, Some, None, codes, if◌then◌else◌}
use Rattle.std.specs.Str.{bytes_eq}
use Rattle.hierarchy.specs.declared.edition.Edition.{Edition}
use Rattle.hierarchy.specs.declared.edition.Edition.TheVariants.{Seven, Eight}
use Rattle.cli.specs.declared.fault.Fault.{Fault}
use Rattle.cli.specs.declared.fault.Fault.TheVariants as fault

-- the edition that the text of `--edition` says: 7 or 8, and 8 where the option isn't given; none of any other text
abbrev pub edition_in : Option (List ℕ) → Option Edition
edition_in None = Some Eight
edition_in (Some text) = if bytes_eq text (codes "7") then Some Seven else (if bytes_eq text (codes "8") then Some Eight else None)

-- why the text of `--edition` says no edition
pub data IsEditionRefusal (edition : Option (List ℕ)) : Fault → Type 0 where
  no_edition : edition_in edition ≡ None → IsEditionRefusal edition fault.Edition
