-- The quoted texts of a program: each takes one cell of the heap.
use Rattle.std.specs.Prelude.{ℕ, ◌+◌, ◌<◌, List, [], ◌∷◌, ◌++◌, Option, Some, None, fold, take, length, if◌then◌else◌}
use Rattle.std.specs.List.{flat_map}
use Rattle.std.specs.Option.{option_map}
use Rattle.jasmin_text.specs.declared.class_text.Constant.{Constant}
use Rattle.jasmin_text.specs.declared.class_text.Constant.TheVariants as constant
use Rattle.jasmin_text.specs.declared.class_text.Code.{Code}
use Rattle.jasmin_text.specs.declared.class_text.Field.{Field}
use Rattle.jasmin_text.specs.declared.class_text.Method.{Method}
use Rattle.jasmin_text.specs.declared.instruction.Instruction.{Instruction}
use Rattle.jasmin_text.specs.declared.instruction.Instruction.TheVariants as instruction
use Rattle.hierarchy.specs.declared.class.Class.{Class}
use Rattle.hierarchy.specs.LinkedProgram.{LinkedProgram}
use Rattle.texts.specs.Texts.{place_of_text, note_text}

-- each text in turn at the end unless it is there already
abbrev pub note_all : List (List ℕ) → List (List ℕ) → List (List ℕ)
note_all noted texts = fold note_text noted texts

abbrev pub text_of : Constant → List (List ℕ)
text_of (constant.Int n) = []
text_of (constant.Text text) = text ∷ []

abbrev pub texts_of_value : Option Constant → List (List ℕ)
texts_of_value None = []
texts_of_value (Some value) = text_of value

-- a static field's value
abbrev pub texts_of_field : Field → List (List ℕ)
texts_of_field f = if f.access.is_static then texts_of_value f.value else []

-- what ldc pushes
abbrev pub texts_of_instruction : Instruction ℕ → List (List ℕ)
texts_of_instruction (instruction.Constant c) = text_of c
texts_of_instruction _ = []

abbrev pub texts_of_code : Option Code → List (List ℕ)
texts_of_code None = []
texts_of_code (Some code) = flat_map texts_of_instruction code.instructions

abbrev pub texts_of_method : Method → List (List ℕ)
texts_of_method m = texts_of_code m.code

-- the quoted texts of a class: of its static fields, then of its methods
abbrev pub quoted_in : Class → List (List ℕ)
quoted_in c = flat_map texts_of_field c.fields ++ flat_map texts_of_method c.methods

-- texts without repeats
abbrev pub distinct_texts : List (List ℕ) → List (List ℕ)
distinct_texts texts = fold note_text [] texts

-- the quoted texts of all classes in file order, equal texts once
abbrev pub quoted_texts : List Class → List (List ℕ)
quoted_texts classes = distinct_texts (flat_map quoted_in classes)

-- the cells that are taken from the start: three ready objects and the quoted texts
abbrev pub cells_of : List Class → ℕ
cells_of classes = 3 + length (quoted_texts classes)

-- The reference to a quoted text: they are numbered in their order, after the three ready objects.
abbrev pub text_reference : LinkedProgram → List ℕ → Option ℕ
text_reference p text = option_map (λ place. 3 + place) (place_of_text text (quoted_texts p.classes))

-- the classes up to i need more cells than the heap has
abbrev pub FillsHeap : List Class → ℕ → Type 0
FillsHeap classes i = (i < length classes) × (1000000 < cells_of (take (i + 1) classes))
