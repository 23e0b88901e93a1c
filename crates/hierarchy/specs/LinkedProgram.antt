-- A program: its linked classes in file order (JVMS SE 8 5.4), the built-in ones after them, and the edition of JVMS
-- whose 5.5 says what a class needs first.
use Rattle.std.specs.Prelude.{ℕ, ◌+◌, ◌-◌, List, Option, Some, None, map, length, slice_get, position}
use Rattle.std.specs.Option.{option_map, option_or}
use Rattle.std.specs.Str.{bytes_eq}
use Rattle.hierarchy.specs.declared.class.Class.{Class}
use Rattle.hierarchy.specs.declared.class.ClassId.{ClassId}
use Rattle.hierarchy.specs.declared.built_in.BuiltIn.{BuiltIn}
use Rattle.hierarchy.specs.declared.edition.Edition.{Edition}
use Rattle.hierarchy.specs.declared.edition.Edition.TheVariants.{Eight}
use Rattle.hierarchy.specs.BuiltIn.{number_of, built_in_names, place_of}

pub record LinkedProgram : Type 0 where
  pub classes : List Class
  pub edition : Edition

abbrev pub linked_as : Edition → List Class → LinkedProgram
linked_as edition classes = record { classes = classes; edition = edition }

abbrev pub linked : List Class → LinkedProgram
linked classes = linked_as Eight classes

abbrev pub id : ℕ → ClassId
id n = record { number = n }

-- the class of that number, if it is one of these
abbrev pub class_among : List Class → ClassId → Option Class
class_among classes c = slice_get classes c.number

-- a built-in class, whose number comes after these
abbrev pub built_in_after : List Class → BuiltIn → ClassId
built_in_after classes b = id (length classes + number_of b)

-- the class of that number, if it is one of the files'
abbrev pub class_at : LinkedProgram → ClassId → Option Class
class_at p c = class_among p.classes c

-- a built-in class
abbrev pub built_in : LinkedProgram → BuiltIn → ClassId
built_in p b = built_in_after p.classes b

abbrev pub class_name : Option Class → Option (List ℕ) → Option (List ℕ)
class_name (Some c) other = Some c.name
class_name None other = other

-- the name of a class, a file's or a built-in one
abbrev pub name_at : LinkedProgram → ClassId → Option (List ℕ)
name_at p c = class_name (class_at p c) (slice_get built_in_names (c.number - length p.classes))

-- the names in file order
abbrev pub class_names : List Class → List (List ℕ)
class_names classes = map (λ c. c.name) classes

-- the place of a name among the files' classes
abbrev pub place_in : List Class → List ℕ → Option ℕ
place_in classes name = position (λ c. bytes_eq c.name name) classes

-- the class of that name
abbrev pub class_named : LinkedProgram → List ℕ → Option ClassId
class_named p name = option_or (option_map id (place_in p.classes name)) (option_map (λ k. id (length p.classes + k)) (place_of built_in_names name))
