-- Method resolution (JVMS SE 8 5.4.3.3, 5.4.3.4), and what the invoke instructions ask of the method that is
-- found (6.5).
use Rattle.std.specs.Prelude.{ℕ, Bool, true, false, not, ◌&&◌, List, [], ◌∷◌, Option, Some, None, Result, Ok, Err, codes, if◌then◌else◌}
use Rattle.std.specs.Option.{option_or}
use Rattle.std.specs.Str.{bytes_eq}
use Rattle.descriptors.specs.Signature.{Signature}
use Rattle.jasmin_text.specs.declared.class_text.ClassKind.{ClassKind}
use Rattle.jasmin_text.specs.declared.class_text.ClassKind.TheVariants as kind
use Rattle.hierarchy.specs.declared.class.Class.{Class}
use Rattle.hierarchy.specs.declared.class.ClassId.{ClassId}
use Rattle.hierarchy.specs.declared.built_in.BuiltIn.{BuiltIn}
use Rattle.hierarchy.specs.declared.built_in.BuiltIn.TheVariants.{NoSuchMethodError, IncompatibleClassChangeError}
use Rattle.hierarchy.specs.declared.declared_method.MethodId.{MethodId}
use Rattle.hierarchy.specs.declared.declared_method.MethodId.TheVariants as method_id
use Rattle.hierarchy.specs.declared.declared_method.Counted.TheVariants.{Each}
use Rattle.hierarchy.specs.declared.declared_method.DeclaredMethod.{DeclaredMethod}
use Rattle.hierarchy.specs.declared.methods.Invoke.{Invoke}
use Rattle.hierarchy.specs.declared.methods.Invoke.TheVariants as invoke
use Rattle.hierarchy.specs.ClassLists.{same_class}
use Rattle.hierarchy.specs.LinkedProgram.{LinkedProgram, class_at, built_in}
use Rattle.hierarchy.specs.Methods.{declared_method, method_of_superclasses, concrete_specific, first_superinterface_method}

abbrev pub the_only : List DeclaredMethod → Option DeclaredMethod
the_only (m ∷ []) = Some m
the_only ms = None

-- the maximally specific superinterface method that isn't abstract, where there is exactly one; else the first
-- superinterface method that is neither private nor static
abbrev pub method_of_superinterfaces : LinkedProgram → List ℕ → Signature → ClassId → Option DeclaredMethod
method_of_superinterfaces p name type c = option_or (the_only (concrete_specific p name type c)) (first_superinterface_method p name type c)

-- in a class: what C or the nearest superclass declares; in an interface: what it declares itself
abbrev pub method_by_kind : LinkedProgram → List ℕ → Signature → ClassId → ClassKind → Option DeclaredMethod
method_by_kind p name type c kind.Class = method_of_superclasses p Each name type c
method_by_kind p name type c kind.Interface = declared_method p name type c

abbrev pub kind_in : Option Class → ClassKind
kind_in None = kind.Class
kind_in (Some class) = class.kind

-- class or interface; the built-in ones are classes
abbrev pub kind_of : LinkedProgram → ClassId → ClassKind
kind_of p c = kind_in (class_at p c)

-- the method that is looked up: by the kind of C, then in the superinterfaces
abbrev pub found_method : LinkedProgram → List ℕ → Signature → ClassId → Option DeclaredMethod
found_method p name type c = option_or (method_by_kind p name type c (kind_of p c)) (method_of_superinterfaces p name type c)

-- invokevirtual names no interface, invokeinterface no class
abbrev pub may_name : Invoke → ClassKind → Bool
may_name invoke.Virtual kind.Interface = false
may_name invoke.Interface kind.Class = false
may_name how kind = true

-- the class that declares a method
abbrev pub declaring_class : LinkedProgram → MethodId → ClassId
declaring_class p (method_id.Declared c k) = c
declaring_class p (method_id.BuiltIn b m) = built_in p b

-- whether a method is an instance initialization method, by its name (2.9)
abbrev pub is_init : List ℕ → Bool
is_init name = bytes_eq name (codes "<init>")

-- invokestatic wants a static method, the others an instance method; invokeinterface no private one
abbrev pub suits : Invoke → DeclaredMethod → Bool
suits invoke.Static m = m.access.is_static
suits invoke.Virtual m = not m.access.is_static
suits invoke.Special m = not m.access.is_static
suits invoke.Interface m = not m.access.is_static && not m.access.private

-- invokespecial of <init> wants that of the very class named
abbrev pub is_inherited_init : LinkedProgram → Invoke → ClassId → List ℕ → DeclaredMethod → Bool
is_inherited_init p invoke.Special c name m = is_init name && not (same_class (declaring_class p m.id) c)
is_inherited_init p how c name m = false

abbrev pub method_result : LinkedProgram → Invoke → ClassId → List ℕ → Option DeclaredMethod → Result MethodId BuiltIn
method_result p how c name None = Err NoSuchMethodError
method_result p how c name (Some m) = if is_inherited_init p how c name m then Err NoSuchMethodError else if suits how m then Ok m.id else Err IncompatibleClassChangeError

-- The method that a reference names. A class of the wrong kind: IncompatibleClassChangeError, before any look-up.
-- No method found, or an <init> of another class: NoSuchMethodError. One that doesn't suit the instruction:
-- IncompatibleClassChangeError.
abbrev pub resolved_method : LinkedProgram → Invoke → ClassId → List ℕ → Signature → Result MethodId BuiltIn
resolved_method p how c name type = if may_name how (kind_of p c) then method_result p how c name (found_method p name type c) else Err IncompatibleClassChangeError
