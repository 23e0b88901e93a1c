-- Words that are refused since `clap` finds a fault in them.
use Rattle.std.proofs.Common.{◌≢◌, inl, inr, ℕ, List, Option}
use Rattle.clap.specs.Words.{HasKind, Text}
use Rattle.clap.specs.Words.{kind_of}
use Rattle.clap.specs.declared.error.Error.{Error}
use Rattle.clap.specs.declared.error.kind.ErrorKind.TheVariants.{DisplayHelp, DisplayVersion, OutOfMemory}
use Rattle.command_line.specs.CommandLine.{faults_in}
use Rattle.cli.specs.Files.{Files}
use Rattle.cli.specs.Refusals.{AreWordsRefused, wrong_words}

pub wrong_words_refused : (known : Option Files) (errors errors_after : Option (List ℕ)) (words : List Text) (e : Error) → HasKind (faults_in words) e
    → (kind_of e ≢ OutOfMemory) × (kind_of e ≢ DisplayHelp) × (kind_of e ≢ DisplayVersion) → AreWordsRefused known errors errors_after words
wrong_words_refused known errors errors_after words e (inl memory) other = absurd (other.0 memory)
wrong_words_refused known errors errors_after words e (inr among) other = wrong_words (kind_of e) among other.1 other.2
