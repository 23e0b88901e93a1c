-- Each class has a name of its own, and each member of a class a name and descriptor (JVMS SE 8 5.3, 4.5, 4.6).
use Rattle.std.specs.Prelude.{◌≡◌, ◌↔◌, ℕ, List, [], Option, Some, None, slice_get}
use Rattle.jasmin_text.specs.declared.class_text.Field.{Field}
use Rattle.jasmin_text.specs.declared.class_text.Method.{Method}
use Rattle.hierarchy.specs.declared.class.Class.{Class}
use Rattle.hierarchy.specs.declared.class.ClassId.{ClassId}
use Rattle.hierarchy.specs.declared.built_in.BuiltIn.{BuiltIn}
use Rattle.hierarchy.specs.BuiltIn.{name_of}
use Rattle.hierarchy.specs.LinkedProgram.{LinkedProgram, class_at, built_in, name_at, class_named}

-- a class has a name exactly where it is the class of that name
abbrev pub AreFoundByName : LinkedProgram → Type 0
AreFoundByName p = (c : ClassId) (name : List ℕ) → (name_at p c ≡ Some name) ↔ (class_named p name ≡ Some c)

-- no file's class comes before a built-in one
abbrev pub AreBuiltInsFound : LinkedProgram → Type 0
AreBuiltInsFound p = (b : BuiltIn) → class_named p (name_of b) ≡ Some (built_in p b)

abbrev pub fields_in : Option Class → List Field
fields_in None = []
fields_in (Some class) = class.fields

abbrev pub methods_in : Option Class → List Method
methods_in None = []
methods_in (Some class) = class.methods

-- the fields and the methods of a class of the files, in file order
abbrev pub fields_of : LinkedProgram → ClassId → List Field
fields_of p c = fields_in (class_at p c)

abbrev pub methods_of : LinkedProgram → ClassId → List Method
methods_of p c = methods_in (class_at p c)

-- two fields of a class that have one name and one descriptor are one field
abbrev pub HasOwnFields : LinkedProgram → ClassId → Type 0
HasOwnFields p c = (i j : ℕ) (f g : Field) → slice_get (fields_of p c) i ≡ Some f → slice_get (fields_of p c) j ≡ Some g → f.name ≡ g.name → f.field_type ≡ g.field_type → i ≡ j

-- two methods of a class that have one name and one descriptor are one method
abbrev pub HasOwnMethods : LinkedProgram → ClassId → Type 0
HasOwnMethods p c = (i j : ℕ) (m n : Method) → slice_get (methods_of p c) i ≡ Some m → slice_get (methods_of p c) j ≡ Some n → m.name ≡ n.name → m.method_type ≡ n.method_type → i ≡ j
