-- The built-in classes: their numbers, names and superclasses.
use Rattle.std.specs.Prelude.{ℕ, ◌+◌, ◌==◌, nat_lt, Bool, ◌||◌, List, [], ◌∷◌, Option, Some, None, map, slice_get, codes, if◌then◌else◌}
use Rattle.std.specs.Borrow.{Bor}
use Rattle.std.specs.Str.{bytes_eq}
use Rattle.hierarchy.specs.declared.built_in.BuiltIn.{BuiltIn}
use Rattle.hierarchy.specs.declared.built_in.BuiltIn.TheVariants.{Object, System, String, PrintStream, Throwable, Exception, Error, RuntimeException, ArithmeticException, NullPointerException, IndexOutOfBoundsException, NegativeArraySizeException, ClassCastException, ArrayStoreException, IllegalMonitorStateException, IllegalArgumentException, IllegalStateException, UnsupportedOperationException, ArrayIndexOutOfBoundsException, LinkageError, VirtualMachineError, NoClassDefFoundError, ExceptionInInitializerError, IncompatibleClassChangeError, VerifyError, NoSuchFieldError, NoSuchMethodError, AbstractMethodError, InstantiationError, OutOfMemoryError, StackOverflowError, InternalError}

-- the place of a class among the built-in ones
abbrev pub number_of : BuiltIn → ℕ
number_of Object = 0
number_of System = 1
number_of String = 2
number_of PrintStream = 3
number_of Throwable = 4
number_of Exception = 5
number_of Error = 6
number_of RuntimeException = 7
number_of ArithmeticException = 8
number_of NullPointerException = 9
number_of IndexOutOfBoundsException = 10
number_of NegativeArraySizeException = 11
number_of ClassCastException = 12
number_of ArrayStoreException = 13
number_of IllegalMonitorStateException = 14
number_of IllegalArgumentException = 15
number_of IllegalStateException = 16
number_of UnsupportedOperationException = 17
number_of ArrayIndexOutOfBoundsException = 18
number_of LinkageError = 19
number_of VirtualMachineError = 20
number_of NoClassDefFoundError = 21
number_of ExceptionInInitializerError = 22
number_of IncompatibleClassChangeError = 23
number_of VerifyError = 24
number_of NoSuchFieldError = 25
number_of NoSuchMethodError = 26
number_of AbstractMethodError = 27
number_of InstantiationError = 28
number_of OutOfMemoryError = 29
number_of StackOverflowError = 30
number_of InternalError = 31

-- the direct superclass
abbrev pub superclass_of_built_in : BuiltIn → Option BuiltIn
superclass_of_built_in Object = None
superclass_of_built_in System = Some Object
superclass_of_built_in String = Some Object
superclass_of_built_in PrintStream = Some Object
superclass_of_built_in Throwable = Some Object
superclass_of_built_in Exception = Some Throwable
superclass_of_built_in Error = Some Throwable
superclass_of_built_in RuntimeException = Some Exception
superclass_of_built_in ArithmeticException = Some RuntimeException
superclass_of_built_in NullPointerException = Some RuntimeException
superclass_of_built_in IndexOutOfBoundsException = Some RuntimeException
superclass_of_built_in NegativeArraySizeException = Some RuntimeException
superclass_of_built_in ClassCastException = Some RuntimeException
superclass_of_built_in ArrayStoreException = Some RuntimeException
superclass_of_built_in IllegalMonitorStateException = Some RuntimeException
superclass_of_built_in IllegalArgumentException = Some RuntimeException
superclass_of_built_in IllegalStateException = Some RuntimeException
superclass_of_built_in UnsupportedOperationException = Some RuntimeException
superclass_of_built_in ArrayIndexOutOfBoundsException = Some IndexOutOfBoundsException
superclass_of_built_in LinkageError = Some Error
superclass_of_built_in VirtualMachineError = Some Error
superclass_of_built_in NoClassDefFoundError = Some LinkageError
superclass_of_built_in ExceptionInInitializerError = Some LinkageError
superclass_of_built_in IncompatibleClassChangeError = Some LinkageError
superclass_of_built_in VerifyError = Some LinkageError
superclass_of_built_in NoSuchFieldError = Some IncompatibleClassChangeError
superclass_of_built_in NoSuchMethodError = Some IncompatibleClassChangeError
superclass_of_built_in AbstractMethodError = Some IncompatibleClassChangeError
superclass_of_built_in InstantiationError = Some IncompatibleClassChangeError
superclass_of_built_in OutOfMemoryError = Some VirtualMachineError
superclass_of_built_in StackOverflowError = Some VirtualMachineError
superclass_of_built_in InternalError = Some VirtualMachineError

-- names without where they lie in memory
abbrev pub plain : List (Bor (List ℕ)) → List (List ℕ)
plain names = map (λ name. name.now) names

-- the internal name
abbrev pub name_of : BuiltIn → List ℕ
name_of Object = codes "java/lang/Object"
name_of System = codes "java/lang/System"
name_of String = codes "java/lang/String"
name_of PrintStream = codes "java/io/PrintStream"
name_of Throwable = codes "java/lang/Throwable"
name_of Exception = codes "java/lang/Exception"
name_of Error = codes "java/lang/Error"
name_of RuntimeException = codes "java/lang/RuntimeException"
name_of ArithmeticException = codes "java/lang/ArithmeticException"
name_of NullPointerException = codes "java/lang/NullPointerException"
name_of IndexOutOfBoundsException = codes "java/lang/IndexOutOfBoundsException"
name_of NegativeArraySizeException = codes "java/lang/NegativeArraySizeException"
name_of ClassCastException = codes "java/lang/ClassCastException"
name_of ArrayStoreException = codes "java/lang/ArrayStoreException"
name_of IllegalMonitorStateException = codes "java/lang/IllegalMonitorStateException"
name_of IllegalArgumentException = codes "java/lang/IllegalArgumentException"
name_of IllegalStateException = codes "java/lang/IllegalStateException"
name_of UnsupportedOperationException = codes "java/lang/UnsupportedOperationException"
name_of ArrayIndexOutOfBoundsException = codes "java/lang/ArrayIndexOutOfBoundsException"
name_of LinkageError = codes "java/lang/LinkageError"
name_of VirtualMachineError = codes "java/lang/VirtualMachineError"
name_of NoClassDefFoundError = codes "java/lang/NoClassDefFoundError"
name_of ExceptionInInitializerError = codes "java/lang/ExceptionInInitializerError"
name_of IncompatibleClassChangeError = codes "java/lang/IncompatibleClassChangeError"
name_of VerifyError = codes "java/lang/VerifyError"
name_of NoSuchFieldError = codes "java/lang/NoSuchFieldError"
name_of NoSuchMethodError = codes "java/lang/NoSuchMethodError"
name_of AbstractMethodError = codes "java/lang/AbstractMethodError"
name_of InstantiationError = codes "java/lang/InstantiationError"
name_of OutOfMemoryError = codes "java/lang/OutOfMemoryError"
name_of StackOverflowError = codes "java/lang/StackOverflowError"
name_of InternalError = codes "java/lang/InternalError"

-- the built-in classes, in the order of the numbers
unfoldable pub built_ins : List BuiltIn
built_ins =
    Object ∷ System ∷ String ∷ PrintStream ∷ Throwable ∷ Exception ∷ Error ∷ RuntimeException ∷ ArithmeticException ∷ NullPointerException
    ∷ IndexOutOfBoundsException ∷ NegativeArraySizeException ∷ ClassCastException ∷ ArrayStoreException ∷ IllegalMonitorStateException
    ∷ IllegalArgumentException ∷ IllegalStateException ∷ UnsupportedOperationException ∷ ArrayIndexOutOfBoundsException ∷ LinkageError
    ∷ VirtualMachineError ∷ NoClassDefFoundError ∷ ExceptionInInitializerError ∷ IncompatibleClassChangeError ∷ VerifyError ∷ NoSuchFieldError
    ∷ NoSuchMethodError ∷ AbstractMethodError ∷ InstantiationError ∷ OutOfMemoryError ∷ StackOverflowError ∷ InternalError ∷ []

-- the internal names, in the order of the numbers
unfoldable pub built_in_names : List (List ℕ)
built_in_names = map name_of built_ins

abbrev pub place_from : ℕ → List (List ℕ) → List ℕ → Option ℕ
place_from k [] name = None
place_from k (other ∷ others) name = if bytes_eq other name then Some k else place_from (k + 1) others name

-- the place of the first of these names that is the one
abbrev pub place_of : List (List ℕ) → List ℕ → Option ℕ
place_of names name = place_from 0 names name

abbrev pub built_in_at : Option ℕ → Option BuiltIn
built_in_at None = None
built_in_at (Some k) = slice_get built_ins k

-- the built-in class of that name
abbrev pub built_in_named : List ℕ → Option BuiltIn
built_in_named name = built_in_at (place_of built_in_names name)

-- java/lang/Object and the throwables, which come after the first four
abbrev pub may_be_superclass : BuiltIn → Bool
may_be_superclass b = number_of b == 0 || nat_lt 3 (number_of b)
