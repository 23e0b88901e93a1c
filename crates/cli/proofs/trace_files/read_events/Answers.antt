use Rattle.std.proofs.Common.{◌≡◌, inl, inr, refl, rules, min, subst}
use Rattle.std.specs.Prelude.{Err}
use Rattle.std.proofs.Math.Nat.{min-eq_left}
use Rattle.init_core.specs.declared.event.TheConstants.{THREADS}
use Rattle.trace_reader.specs.TraceEvents.{IsTraceOf}
use Rattle.trace_reader.specs.TraceReading.{events_of}
use Rattle.cli.specs.Checking.{faulty, no_room, unread}
use Rattle.cli.proofs.KnownFiles.{whole_file}
use Rattle.cli.proofs.Checked.{front_is}
use Rattle.cli.proofs.trace_files.read_events.Goals as goal

pub returns-in-Err-Io-clause-refused : goal.returns-in-Err-Io-clause-refused
returns-in-Err-Io-clause-refused g c = unread {name = c.args.file} refl

pub returns-in-Err-Memory-clause-refused : goal.returns-in-Err-Memory-clause-refused
returns-in-Err-Memory-clause-refused g c = no_room

pub returns-in-Ok-read_trace-clause-traced : goal.returns-in-Ok-read_trace-clause-traced
returns-in-Ok-read_trace-clause-traced g c =
    let found : IsTraceOf c.args.program.now (min c.args.threads THREADS) c.in-Ok.bytes.items c.in-Ok-read_trace.events.items = search rules in
    whole_file 67108864 (g.N.Named.held c.args.named.now) c.args.file.now c.in-Ok.bytes.items (λ all. IsTraceOf c.args.program.now c.args.threads all c.in-Ok-read_trace.events.items)
    c.in-Ok.ensures.bytes found.bytes (subst (λ n. IsTraceOf c.args.program.now n c.in-Ok.bytes.items c.in-Ok-read_trace.events.items) (min-eq_left c.requires) found)

pub returns-in-OutOfMemory-clause-refused : goal.returns-in-OutOfMemory-clause-refused
returns-in-OutOfMemory-clause-refused g c = no_room

pub returns : goal.returns
returns g c =
    let read : events_of c.args.program.now (min c.args.threads THREADS) c.deref.result.now ≡ Err c.in-Err.fault = elim c.in-Err.ensures.exact [
      | inl is ↦ absurd (c.in_default.not-OutOfMemory is)
      | inr fault ↦ fault
    ] in
    record {
      traced = tt;
      refused = faulty {name = c.args.file} {f = c.in-Err.fault} refl
          (front_is (g.N.Named.held c.args.named.now) c.args.file.now c.in-Ok.bytes.items (λ front. events_of c.args.program.now c.args.threads front ≡ Err c.in-Err.fault) c.in-Ok.ensures.bytes
          (subst (λ n. events_of c.args.program.now n c.in-Ok.bytes.items ≡ Err c.in-Err.fault) (min-eq_left c.requires) (rw c.deref.ensures.value at read)));
      files = c.read.ensures.files;
    }
