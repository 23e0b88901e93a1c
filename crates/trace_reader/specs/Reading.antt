-- The first fault of a line, from the left, or its event and the bytes after it.
use Rattle.std.specs.Prelude.{ℕ, List, length, nat_lt, Option, Some, None, Result, Ok, Err, if◌then◌else◌}
use Rattle.sequence.specs.Gives.{◌>>=◌}
use Rattle.hierarchy.specs.declared.class.ClassId.{ClassId}
use Rattle.hierarchy.specs.declared.value.Value.{Value}
use Rattle.hierarchy.specs.LinkedProgram.{LinkedProgram, class_named}
use Rattle.init_core.specs.declared.event.Event.{Event}
use Rattle.init_core.specs.declared.event.Kind.{Kind}
use Rattle.init_core.specs.declared.event.Kind.TheVariants as kind
use Rattle.init_core.specs.Decisions.{event}
use Rattle.init_core.specs.ProcedureWord.{printed}
use Rattle.trace_reader.specs.declared.fault.TraceFaultKind.{TraceFaultKind}
use Rattle.trace_reader.specs.declared.fault.TraceFaultKind.TheVariants.{UnknownName}
use Rattle.trace_reader.specs.declared.verbs.Deed.{Deed}
use Rattle.trace_reader.specs.declared.verbs.Deed.TheVariants as deed
use Rattle.trace_reader.specs.declared.verbs.Verb.{Verb}
use Rattle.trace_reader.specs.declared.verbs.Verb.TheVariants as verb
use Rattle.trace_reader.specs.Words.{word_at, space_at, next_at, end_at}
use Rattle.trace_reader.specs.Numbers.{number_at, thread_at}
use Rattle.trace_reader.specs.Strings.{text_at}
use Rattle.trace_reader.specs.Verbs.{verb_at}
use Rattle.trace_reader.specs.Fields.{field_at, value_at}

abbrev pub of_files : LinkedProgram → Option ClassId → Result ClassId TraceFaultKind
of_files p (Some c) = if nat_lt c.number (length p.classes) then Ok c else Err UnknownName
of_files p None = Err UnknownName

abbrev pub of_program : Option ClassId → Result ClassId TraceFaultKind
of_program (Some c) = Ok c
of_program None = Err UnknownName

-- a class of the files
unfoldable pub class_at : LinkedProgram → List ℕ → Result (ClassId × List ℕ) TraceFaultKind
class_at p rest = do
  word ← next_at rest
  c ← of_files p (class_named p word.0)
  Ok (c, word.1)

-- a class of the files, or a built-in one
unfoldable pub throwable_at : LinkedProgram → List ℕ → Result (ClassId × List ℕ) TraceFaultKind
throwable_at p rest = do
  word ← next_at rest
  e ← of_program (class_named p word.0)
  Ok (e, word.1)

-- a static field of the class by its place, and a value of it
unfoldable pub use_at : LinkedProgram → ClassId → List ℕ → Result ((ℕ × Value) × List ℕ) TraceFaultKind
use_at p c rest = do
  word ← next_at rest
  f ← field_at p c word.0
  said ← next_at word.1
  v ← value_at f.1 said.0
  Ok ((f.0, v), said.1)

-- what is done at the class, with what follows the class's name
unfoldable pub kind_at : LinkedProgram → ClassId → Deed → List ℕ → Result (Kind × List ℕ) TraceFaultKind
kind_at p c deed.Waits rest = Ok (kind.Waits, rest)
kind_at p c deed.Recurs rest = Ok (kind.Recurs, rest)
kind_at p c deed.FindsInitialized rest = Ok (kind.FindsInitialized, rest)
kind_at p c deed.FindsErroneous rest = Ok (kind.FindsErroneous, rest)
kind_at p c deed.Begins rest = Ok (kind.Begins, rest)
kind_at p c deed.SuperFails rest = throwable_at p rest >>= λ e. Ok (kind.SuperFails e.0, e.1)
kind_at p c deed.Runs rest = Ok (kind.Runs, rest)
kind_at p c deed.Completes rest = Ok (kind.Completes, rest)
kind_at p c deed.Fails rest = throwable_at p rest >>= λ e. Ok (kind.Fails e.0, e.1)
kind_at p c deed.Gets rest = use_at p c rest >>= λ u. Ok (kind.Gets u.0.0 u.0.1, u.1)
kind_at p c deed.Puts rest = use_at p c rest >>= λ u. Ok (kind.Puts u.0.0 u.0.1, u.1)

-- what follows the third word, to the line's end
unfoldable pub done_at : LinkedProgram → ℕ → Verb → List ℕ → Result (Event × List ℕ) TraceFaultKind
done_at p t (verb.AtClass deed) rest = do
  c ← class_at p rest
  k ← kind_at p c.0 deed c.1
  after ← end_at k.1
  Ok (event t c.0 k.0, after)
done_at p t verb.Prints rest = do
  after ← space_at rest
  text ← text_at after
  Ok (printed t text.0, text.1)

-- line n of a program and of so many threads
unfoldable pub event_at : LinkedProgram → ℕ → ℕ → List ℕ → Result (Event × List ℕ) TraceFaultKind
event_at p threads n text = do
  number ← word_at text
  _ ← number_at n number.0
  thread ← next_at number.1
  t ← thread_at threads thread.0
  third ← next_at thread.1
  v ← verb_at third.0
  done_at p t v third.1
