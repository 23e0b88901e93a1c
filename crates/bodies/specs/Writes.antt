-- What is written in the static fields of a class.
use Rattle.std.specs.Prelude.{List, slice_get}
use Rattle.statics.specs.declared.static_field.StaticField.{StaticField}
use Rattle.init_core.specs.declared.event.Event.{Event}
use Rattle.init_core.specs.declared.event.Kind.{Kind}
use Rattle.init_core.specs.declared.event.Kind.TheVariants as kind
use Rattle.init_core.specs.ProgramEvents.{IsValueOf}

-- what a class with these static fields has written in it is what the field keeps
abbrev pub WritesHeldIn : List StaticField → Kind → Type 0
WritesHeldIn fields (kind.Puts place v) = IsValueOf (slice_get fields place) v
WritesHeldIn fields k = Unit {0}

abbrev pub WritesHeld : List StaticField → Event → Type 0
WritesHeld fields e = WritesHeldIn fields e.kind
