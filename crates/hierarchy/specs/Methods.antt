-- Methods as their classes declare them, and where they are looked up (JVMS SE 8 5.4.3.3, 5.4.3.4).
use Rattle.std.specs.Prelude.{ℕ, ◌-◌, Bool, true, false, not, ◌&&◌, List, Option, Some, None, length, slice_get, nat_eq, if◌then◌else◌}
use Rattle.std.specs.List.{flat_map, list_any, filter, filter_map}
use Rattle.std.specs.Option.{is_some}
use Rattle.std.specs.Cmp.Lexicographic.{pointwise}
use Rattle.descriptors.specs.Same.{same_method}
use Rattle.descriptors.specs.Signature.{Signature}
use Rattle.jasmin_text.specs.declared.access.Access.{Access}
use Rattle.jasmin_text.specs.declared.class_text.Method.{Method}
use Rattle.hierarchy.specs.declared.class.Class.{Class}
use Rattle.hierarchy.specs.declared.class.ClassId.{ClassId}
use Rattle.hierarchy.specs.declared.built_in.BuiltIn.{BuiltIn}
use Rattle.hierarchy.specs.declared.built_in_method.BuiltInMethod.{BuiltInMethod}
use Rattle.hierarchy.specs.declared.declared_method.MethodId.TheVariants as method_id
use Rattle.hierarchy.specs.declared.declared_method.Counted.{Counted}
use Rattle.hierarchy.specs.declared.declared_method.Counted.TheVariants.{Each, Instance, Inherited}
use Rattle.hierarchy.specs.declared.declared_method.DeclaredMethod.{DeclaredMethod}
use Rattle.hierarchy.specs.BuiltIn.{built_ins}
use Rattle.hierarchy.specs.BuiltInMethods.{built_in_method}
use Rattle.hierarchy.specs.ClassLists.{distinct, is_among}
use Rattle.hierarchy.specs.LinkedProgram.{LinkedProgram, class_at}
use Rattle.hierarchy.specs.Hierarchy.{interfaces_of}
use Rattle.hierarchy.specs.Superinterfaces.{enumeration, superinterfaces}
use Rattle.hierarchy.specs.Members.{first_from}
use Rattle.hierarchy.specs.Ancestry.{superclasses, first_given}

-- public and no other word
abbrev pub public_access : Access
public_access = record { public = true; private = false; protected = false; is_static = false; is_final = false; synchronized = false; volatile = false; transient = false; is_abstract = false }

-- whether a method has that name and descriptor
abbrev pub is_method : List ℕ → Signature → Method → Bool
is_method name type m = pointwise nat_eq m.name name && same_method m.method_type type

abbrev pub method_at : ClassId → ℕ → Method → DeclaredMethod
method_at c k m = record { id = method_id.Declared c k; access = m.access }

abbrev pub method_from : ClassId → ℕ → List ℕ → Signature → List Method → Option DeclaredMethod
method_from c k name type ms = first_from (is_method name type) (method_at c) k ms

abbrev pub of_built_in : BuiltIn → Option BuiltInMethod → Option DeclaredMethod
of_built_in b None = None
of_built_in b (Some m) = Some (record { id = method_id.BuiltIn b m; access = public_access })

abbrev pub method_in : ClassId → List ℕ → Signature → Option Class → Option BuiltIn → Option DeclaredMethod
method_in c name type (Some class) b = method_from c 0 name type class.methods
method_in c name type None None = None
method_in c name type None (Some b) = of_built_in b (built_in_method b name type)

-- the method of that name and descriptor that c declares
abbrev pub declared_method : LinkedProgram → List ℕ → Signature → ClassId → Option DeclaredMethod
declared_method p name type c = method_in c name type (class_at p c) (slice_get built_ins (c.number - length p.classes))

-- which methods count: each; those that aren't static; those that are neither private nor static
abbrev pub counts : Counted → Access → Bool
counts Each a = true
counts Instance a = not a.is_static
counts Inherited a = not a.private && not a.is_static

abbrev pub if_counted : Counted → Option DeclaredMethod → Option DeclaredMethod
if_counted counted None = None
if_counted counted (Some m) = if counts counted m.access then Some m else None

-- the method of that name and descriptor that c declares, if it counts
abbrev pub counted_method : LinkedProgram → Counted → List ℕ → Signature → ClassId → Option DeclaredMethod
counted_method p counted name type c = if_counted counted (declared_method p name type c)

-- that of c itself, else that of the nearest superclass which declares one
abbrev pub method_of_superclasses : LinkedProgram → Counted → List ℕ → Signature → ClassId → Option DeclaredMethod
method_of_superclasses p counted name type c = first_given (counted_method p counted name type) (superclasses p.classes c)

-- the enumeration of each direct superinterface, in order
abbrev pub enumeration_of_all : List Class → ClassId → List ClassId
enumeration_of_all classes c = flat_map (enumeration classes) (interfaces_of classes c)

-- the superinterfaces of c, direct and indirect: those of c itself, then those of each superclass, each once
abbrev pub all_superinterfaces : List Class → ClassId → List ClassId
all_superinterfaces classes c = distinct (flat_map (enumeration_of_all classes) (superclasses classes c))

-- the first superinterface method that is neither private nor static
abbrev pub first_superinterface_method : LinkedProgram → List ℕ → Signature → ClassId → Option DeclaredMethod
first_superinterface_method p name type c = first_given (counted_method p Inherited name type) (all_superinterfaces p.classes c)

-- whether j is a subinterface of i, directly or indirectly
abbrev pub is_subinterface : LinkedProgram → ClassId → ClassId → Bool
is_subinterface p j i = is_among i (superinterfaces p.classes j)

-- whether a subinterface of i among these declares such a method, neither private nor static
abbrev pub is_overridden : LinkedProgram → List ℕ → Signature → List ClassId → ClassId → Bool
is_overridden p name type is i = list_any (λ j. is_subinterface p j i && is_some (counted_method p Inherited name type j)) is

-- what i declares that is neither private nor static and that no subinterface among these overrides
abbrev pub specific_method : LinkedProgram → List ℕ → Signature → List ClassId → ClassId → Option DeclaredMethod
specific_method p name type is i = if is_overridden p name type is i then None else counted_method p Inherited name type i

-- the maximally specific superinterface methods of c of that name and descriptor
abbrev pub maximally_specific : LinkedProgram → List ℕ → Signature → ClassId → List DeclaredMethod
maximally_specific p name type c = filter_map (specific_method p name type (all_superinterfaces p.classes c)) (all_superinterfaces p.classes c)

abbrev pub is_concrete : DeclaredMethod → Bool
is_concrete m = not m.access.is_abstract

-- those of them that aren't abstract
abbrev pub concrete_specific : LinkedProgram → List ℕ → Signature → ClassId → List DeclaredMethod
concrete_specific p name type c = filter is_concrete (maximally_specific p name type c)
