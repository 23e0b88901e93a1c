-- The methods of the built-in classes. All are public instance methods with a body.
use Rattle.std.specs.Prelude.{ℕ, ◌==◌, List, [], ◌∷◌, Option, Some, None, codes, if◌then◌else◌}
use Rattle.std.specs.Str.{bytes_eq}
use Rattle.descriptors.specs.Signature.{Signature}
use Rattle.descriptors.specs.declared.base.BaseType.TheVariants as base
use Rattle.descriptors.specs.declared.field.ElementType.{ElementType}
use Rattle.descriptors.specs.declared.field.ElementType.TheVariants.{Base, Class as OfClass}
use Rattle.descriptors.specs.declared.field.FieldType.{FieldType}
use Rattle.hierarchy.specs.declared.built_in.BuiltIn.{BuiltIn}
use Rattle.hierarchy.specs.declared.built_in.BuiltIn.TheVariants.{Object, System, String, PrintStream}
use Rattle.hierarchy.specs.declared.built_in_method.Argument.{Argument}
use Rattle.hierarchy.specs.declared.built_in_method.Argument.TheVariants.{Nothing, One, Other}
use Rattle.hierarchy.specs.declared.built_in_method.BuiltInMethod.{BuiltInMethod}
use Rattle.hierarchy.specs.declared.built_in_method.BuiltInMethod.TheVariants.{Init, InitWithText, Print, PrintLine, PrintLineAlone}
use Rattle.hierarchy.specs.declared.built_in_method.Printed.TheVariants.{Int, Char, Boolean, Text}

-- I, C, Z and Ljava/lang/String;
abbrev pub argument_of_element : ElementType → Argument
argument_of_element (Base base.Int) = One Int
argument_of_element (Base base.Char) = One Char
argument_of_element (Base base.Boolean) = One Boolean
argument_of_element (Base b) = Other
argument_of_element (OfClass name) = if bytes_eq name (codes "java/lang/String") then One Text else Other

abbrev pub argument_of_type : FieldType → Argument
argument_of_type type = if type.dimensions == 0 then argument_of_element type.element else Other

abbrev pub argument_among : List FieldType → Option FieldType → Argument
argument_among [] None = Nothing
argument_among (type ∷ []) None = argument_of_type type
argument_among types result = Other

-- what a void method takes
abbrev pub argument_of : Signature → Argument
argument_of type = argument_among type.parameters type.result

abbrev pub object_init : Argument → Option BuiltInMethod
object_init Nothing = Some Init
object_init argument = None

-- <init>()V
abbrev pub object_method : List ℕ → Argument → Option BuiltInMethod
object_method name argument = if bytes_eq name (codes "<init>") then object_init argument else None

abbrev pub throwable_init : Argument → Option BuiltInMethod
throwable_init Nothing = Some Init
throwable_init (One Text) = Some InitWithText
throwable_init argument = None

-- <init>()V, <init>(Ljava/lang/String;)V
abbrev pub throwable_method : List ℕ → Argument → Option BuiltInMethod
throwable_method name argument = if bytes_eq name (codes "<init>") then throwable_init argument else None

abbrev pub print_method : Argument → Option BuiltInMethod
print_method (One printed) = Some (Print printed)
print_method argument = None

abbrev pub print_line_method : Argument → Option BuiltInMethod
print_line_method Nothing = Some PrintLineAlone
print_line_method (One printed) = Some (PrintLine printed)
print_line_method Other = None

-- print and println of each of the four types, println()V
abbrev pub stream_method : List ℕ → Argument → Option BuiltInMethod
stream_method name argument = if bytes_eq name (codes "print") then print_method argument else if bytes_eq name (codes "println") then print_line_method argument else None

-- The method of that name and descriptor that a built-in class declares: of java/lang/Object, of
-- java/io/PrintStream and of the throwables. java/lang/System and java/lang/String have none.
abbrev pub built_in_method : BuiltIn → List ℕ → Signature → Option BuiltInMethod
built_in_method Object name type = object_method name (argument_of type)
built_in_method System name type = None
built_in_method String name type = None
built_in_method PrintStream name type = stream_method name (argument_of type)
built_in_method _ name type = throwable_method name (argument_of type)
