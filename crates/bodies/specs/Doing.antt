-- What a body may do next in a program.
use Rattle.std.specs.Prelude.{◌≡◌, ◌≢◌, ◌<◌, length, Option, Some, None, IsTrue, slice_get}
use Rattle.std.specs.Str.{is_utf8}
use Rattle.hierarchy.specs.declared.value.Value.{Value}
use Rattle.hierarchy.specs.LinkedProgram.{LinkedProgram}
use Rattle.hierarchy.specs.Subclasses.{IsThrowable}
use Rattle.statics.specs.declared.static_field.StaticField.{StaticField}
use Rattle.statics.specs.Statics.{statics_of, kept_by}
use Rattle.init_core.specs.declared.frames.Completed.{Completed}
use Rattle.init_core.specs.declared.frames.Outcome.TheVariants.{Normal}
use Rattle.init_core.specs.ProcedureWord.{IsOfFiles, completed}
use Rattle.init_core.specs.ProgramEvents.{IsHeldBy, IsValueOf}
use Rattle.bodies.specs.declared.report.Limit.{Limit}
use Rattle.bodies.specs.declared.report.Limit.TheVariants.{Patience}
use Rattle.bodies.specs.declared.does.Does.{Does}
use Rattle.bodies.specs.declared.does.Does.TheVariants.{Asks, Gets, Puts, Prints, Touches, Over, Ended}

-- its constant, if it has one, is a value that the field holds
abbrev pub HoldsConstant : Option StaticField → Type 0
HoldsConstant None = Unit {0}
HoldsConstant (Some f) = (v : Value) → f.constant ≡ Some v → IsHeldBy f.base v

-- It uses classes of the files, and static fields of the class that was made ready directly before, each with a value that the
-- field holds; it prints text in UTF-8; it throws throwables, and comes to limits of its own.
abbrev pub MayDo : {S : Type 0} → LinkedProgram → (Limit → S → Type 0) → Option Completed → Does → S → Type 0
MayDo p limits last (Asks c) z = IsOfFiles p c
MayDo p limits last (Gets c field) z = IsOfFiles p c × (last ≡ Some (completed c Normal)) × (field < length (statics_of p c)) × HoldsConstant (slice_get (statics_of p c) field)
MayDo p limits last (Puts c field v) z = IsOfFiles p c × (last ≡ Some (completed c Normal)) × (field < length (statics_of p c)) × IsValueOf (slice_get (statics_of p c) field) (kept_by (statics_of p c) field v)
MayDo p limits last (Prints text) z = IsTrue (is_utf8 text)
MayDo p limits last Touches z = Unit {0}
MayDo p limits last (Over None) z = Unit {0}
MayDo p limits last (Over (Some e)) z = IsThrowable p e
MayDo p limits last (Ended l) z = limits l z × (l ≢ Patience)
