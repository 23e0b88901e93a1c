use Rattle.std.proofs.Common.{◌≡◌, Bool, false, List, ℕ, None, Some, if◌then◌else◌, ap, refl}
use Rattle.cli.specs.CutShort.{unmade, unwritten}
use Rattle.cli.proofs.reporting.write_trace_file.Goals as goal

-- it isn't standard output
pub is_file : (b : Bool) (name : List ℕ) → b ≡ false → (if b then None else Some name) ≡ Some name
is_file b name other = ap (λ (is : Bool). if is then None else Some name) other

pub returns-in-Err-Io-clause-refused : goal.returns-in-Err-Io-clause-refused
returns-in-Err-Io-clause-refused g c = unwritten (is_file _ c.args.name.now c.requires)

pub returns-in-Err-Memory-clause-refused : goal.returns-in-Err-Memory-clause-refused
returns-in-Err-Memory-clause-refused g c = unmade refl
