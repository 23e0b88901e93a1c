use Rattle.std.proofs.Common.{◌≡◌, ◌≤◌, inl, inr, length, refl, rules}
use Rattle.std.specs.Prelude.{Err}
use Rattle.jasmin_text.specs.Grammar.{Spells}
use Rattle.jasmin_text.specs.Lines.{lines_of}
use Rattle.jasmin_reader.specs.File.{class_at}
use Rattle.cli.specs.ReadRefusals.{faulty, no_memory, too_large, unread}
use Rattle.cli.proofs.KnownFiles.{large_file, whole_file}
use Rattle.cli.proofs.files.read_text.Goals as goal

pub returns-in-Ok-read_class-clause-spelled : goal.returns-in-Ok-read_class-clause-spelled
returns-in-Ok-read_class-clause-spelled g c =
    whole_file 1048576 (g.N.Named.held c.args.named.now) c.args.file.now c.in-Ok.bytes.items (λ all. (length all ≤ 1048576) × Spells (lines_of all) c.in-Ok-read_class.text) c.in-Ok.ensures.bytes (search rules) (search rules, search rules)

pub returns-in-Err-Io-clause-refused : goal.returns-in-Err-Io-clause-refused
returns-in-Err-Io-clause-refused g c = unread {name = c.args.file} refl

pub returns-in-Err-Memory-clause-refused : goal.returns-in-Err-Memory-clause-refused
returns-in-Err-Memory-clause-refused g c = no_memory

pub returns-then-len-gt-MOST_BYTES-clause-refused : goal.returns-then-len-gt-MOST_BYTES-clause-refused
returns-then-len-gt-MOST_BYTES-clause-refused g c =
    too_large (large_file 1048576 (g.N.Named.held c.args.named.now) c.args.file.now c.in-Ok.bytes.items c.in-Ok.ensures.bytes (search rules))

pub returns-in-NoMemory-clause-refused : goal.returns-in-NoMemory-clause-refused
returns-in-NoMemory-clause-refused g c = no_memory

pub returns : goal.returns
returns g c =
    let read : class_at c.deref.result.now ≡ Err c.in-Err.fault = elim c.in-Err.ensures.exact [
      | inl is ↦ absurd (c.in_default.not-NoMemory is)
      | inr fault ↦ fault
    ] in
    record {
      spelled = tt;
      refused = faulty {name = c.args.file} {f = c.in-Err.fault} refl
          (whole_file 1048576 (g.N.Named.held c.args.named.now) c.args.file.now c.in-Ok.bytes.items (λ all. (length all ≤ 1048576) × (class_at all ≡ Err c.in-Err.fault)) c.in-Ok.ensures.bytes (search rules) (search rules, rw c.deref.ensures.value at read));
      files = c.read.ensures.files;
    }
