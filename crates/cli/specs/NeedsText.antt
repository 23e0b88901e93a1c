-- What each class needs, as text: a line a class.
use Rattle.std.specs.Prelude.{ℕ, zero, suc, ◌+◌, List, [], ◌∷◌, ◌++◌, length, codes}
use Rattle.hierarchy.specs.declared.class.ClassId.{ClassId}
use Rattle.hierarchy.specs.LinkedProgram.{LinkedProgram, id}
use Rattle.init_core.specs.Needs.{needs}
use Rattle.trace.specs.TraceText.{class_text}

-- a space and a name for each
abbrev pub names_text : LinkedProgram → List ClassId → List ℕ
names_text p [] = []
names_text p (c ∷ cs) = codes " " ++ class_text p c ++ names_text p cs

-- <class>: <class> <class> ..
abbrev pub needs_line : LinkedProgram → ClassId → List ℕ
needs_line p c = class_text p c ++ codes ":" ++ names_text p (needs p c) ++ codes "\n"

abbrev pub needs_from : LinkedProgram → ℕ → ℕ → List ℕ
needs_from p n zero = []
needs_from p n (suc count) = needs_line p (id n) ++ needs_from p (n + 1) count

-- the lines of all classes of the files, in file order
abbrev pub needs_text : LinkedProgram → List ℕ
needs_text p = needs_from p 0 (length p.classes)
