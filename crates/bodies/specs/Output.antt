-- What is printed.
use Rattle.std.specs.Prelude.{ℕ, List, [], ◌∷◌, ◌++◌}
use Rattle.init_core.specs.declared.event.Event.{Event}
use Rattle.init_core.specs.declared.event.Kind.{Kind}
use Rattle.init_core.specs.declared.event.Kind.TheVariants as kind

-- what an event prints
abbrev pub output_in : Kind → List ℕ
output_in (kind.Prints text) = text
output_in k = []

-- what these events print, one after the other
abbrev pub output_of : List Event → List ℕ
output_of [] = []
output_of (e ∷ events) = output_in e.kind ++ output_of events
