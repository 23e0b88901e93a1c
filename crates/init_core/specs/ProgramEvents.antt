-- Events of one program and its threads.
use Rattle.std.specs.Prelude.{◌≡◌, ℕ, ◌<◌, List, Option, Some, None, IsTrue, slice_get}
use Rattle.std.specs.Str.{is_utf8}
use Rattle.descriptors.specs.declared.base.BaseType.{BaseType}
use Rattle.hierarchy.specs.declared.class.ClassId.{ClassId}
use Rattle.hierarchy.specs.declared.value.Value.{Value}
use Rattle.hierarchy.specs.declared.value.Value.TheVariants as value
use Rattle.hierarchy.specs.LinkedProgram.{LinkedProgram}
use Rattle.hierarchy.specs.Subclasses.{IsThrowable}
use Rattle.statics.specs.declared.static_field.StaticField.{StaticField}
use Rattle.statics.specs.Statics.{statics_of, narrowed_int}
use Rattle.init_core.specs.declared.event.Event.{Event}
use Rattle.init_core.specs.declared.event.Kind.{Kind}
use Rattle.init_core.specs.declared.event.Kind.TheVariants as kind
use Rattle.init_core.specs.Decisions.{event}
use Rattle.init_core.specs.ProcedureWord.{IsOfFiles, printed}

-- what a field of this base type holds: a narrowed int; without a base type null or a reference
abbrev pub IsHeldBy : Option BaseType → Value → Type 0
IsHeldBy (Some base) (value.Int n) = narrowed_int base n ≡ n
IsHeldBy (Some base) v = ⊥
IsHeldBy None (value.Int n) = ⊥
IsHeldBy None v = Unit {0}

abbrev pub IsValueOf : Option StaticField → Value → Type 0
IsValueOf None v = ⊥
IsValueOf (Some f) v = IsHeldBy f.base v

-- what a thread may do at a class of this program: a throwable is one of the program's, a field one of the class's static
-- fields, and a value one that this field holds
abbrev pub IsDoneAt : LinkedProgram → ClassId → Kind → Type 0
IsDoneAt p c (kind.SuperFails e) = IsThrowable p e
IsDoneAt p c (kind.Fails e) = IsThrowable p e
IsDoneAt p c (kind.Gets place v) = IsValueOf (slice_get (statics_of p c) place) v
IsDoneAt p c (kind.Puts place v) = IsValueOf (slice_get (statics_of p c) place) v
IsDoneAt p c (kind.Prints text) = ⊥
IsDoneAt p c _ = Unit {0}

-- an event of this program and of so many threads: at a class of the files, or the print of a text
pub data IsProgramEvent (p : LinkedProgram) (threads : ℕ) : Event → Type 0 where
  at_class : {t : ℕ} {c : ClassId} (k : Kind) → t < threads → IsOfFiles p c → IsDoneAt p c k → IsProgramEvent p threads (event t c k)
  prints_text : {t : ℕ} (text : List ℕ) → t < threads → IsTrue (is_utf8 text) → IsProgramEvent p threads (printed t text)
