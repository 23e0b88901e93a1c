-- The built-in classes' numbers fall along superclasses.
use Rattle.std.proofs.Common.{◌≡◌, ℕ, ◌<◌, lit<, Option, Some, None, slice_get, refl}
use Rattle.hierarchy.specs.declared.built_in.BuiltIn.{BuiltIn}
use Rattle.hierarchy.specs.declared.built_in.BuiltIn.TheVariants.{Object, System, String, PrintStream, Throwable, Exception, Error, RuntimeException, ArithmeticException, NullPointerException, IndexOutOfBoundsException, NegativeArraySizeException, ClassCastException, ArrayStoreException, IllegalMonitorStateException, IllegalArgumentException, IllegalStateException, UnsupportedOperationException, ArrayIndexOutOfBoundsException, LinkageError, VirtualMachineError, NoClassDefFoundError, ExceptionInInitializerError, IncompatibleClassChangeError, VerifyError, NoSuchFieldError, NoSuchMethodError, AbstractMethodError, InstantiationError, OutOfMemoryError, StackOverflowError, InternalError}
use Rattle.hierarchy.specs.declared.built_in.TheConstants.{BUILT_IN_COUNT}
use Rattle.hierarchy.specs.BuiltIn.{number_of, superclass_of_built_in, built_ins}

pub number-small : (b : BuiltIn) → number_of b < BUILT_IN_COUNT
number-small Object = lit< tt
number-small System = lit< tt
number-small String = lit< tt
number-small PrintStream = lit< tt
number-small Throwable = lit< tt
number-small Exception = lit< tt
number-small Error = lit< tt
number-small RuntimeException = lit< tt
number-small ArithmeticException = lit< tt
number-small NullPointerException = lit< tt
number-small IndexOutOfBoundsException = lit< tt
number-small NegativeArraySizeException = lit< tt
number-small ClassCastException = lit< tt
number-small ArrayStoreException = lit< tt
number-small IllegalMonitorStateException = lit< tt
number-small IllegalArgumentException = lit< tt
number-small IllegalStateException = lit< tt
number-small UnsupportedOperationException = lit< tt
number-small ArrayIndexOutOfBoundsException = lit< tt
number-small LinkageError = lit< tt
number-small VirtualMachineError = lit< tt
number-small NoClassDefFoundError = lit< tt
number-small ExceptionInInitializerError = lit< tt
number-small IncompatibleClassChangeError = lit< tt
number-small VerifyError = lit< tt
number-small NoSuchFieldError = lit< tt
number-small NoSuchMethodError = lit< tt
number-small AbstractMethodError = lit< tt
number-small InstantiationError = lit< tt
number-small OutOfMemoryError = lit< tt
number-small StackOverflowError = lit< tt
number-small InternalError = lit< tt

pub at-number : (b : BuiltIn) → slice_get built_ins (number_of b) ≡ Some b
unfolding built_ins
at-number Object = refl
at-number System = refl
at-number String = refl
at-number PrintStream = refl
at-number Throwable = refl
at-number Exception = refl
at-number Error = refl
at-number RuntimeException = refl
at-number ArithmeticException = refl
at-number NullPointerException = refl
at-number IndexOutOfBoundsException = refl
at-number NegativeArraySizeException = refl
at-number ClassCastException = refl
at-number ArrayStoreException = refl
at-number IllegalMonitorStateException = refl
at-number IllegalArgumentException = refl
at-number IllegalStateException = refl
at-number UnsupportedOperationException = refl
at-number ArrayIndexOutOfBoundsException = refl
at-number LinkageError = refl
at-number VirtualMachineError = refl
at-number NoClassDefFoundError = refl
at-number ExceptionInInitializerError = refl
at-number IncompatibleClassChangeError = refl
at-number VerifyError = refl
at-number NoSuchFieldError = refl
at-number NoSuchMethodError = refl
at-number AbstractMethodError = refl
at-number InstantiationError = refl
at-number OutOfMemoryError = refl
at-number StackOverflowError = refl
at-number InternalError = refl

abbrev IsBelow : ℕ → Option BuiltIn → Type 0
IsBelow n None = Unit {0}
IsBelow n (Some s) = number_of s < n

falls : (b : BuiltIn) → IsBelow (number_of b) (superclass_of_built_in b)
falls Object = tt
falls System = lit< tt
falls String = lit< tt
falls PrintStream = lit< tt
falls Throwable = lit< tt
falls Exception = lit< tt
falls Error = lit< tt
falls RuntimeException = lit< tt
falls ArithmeticException = lit< tt
falls NullPointerException = lit< tt
falls IndexOutOfBoundsException = lit< tt
falls NegativeArraySizeException = lit< tt
falls ClassCastException = lit< tt
falls ArrayStoreException = lit< tt
falls IllegalMonitorStateException = lit< tt
falls IllegalArgumentException = lit< tt
falls IllegalStateException = lit< tt
falls UnsupportedOperationException = lit< tt
falls ArrayIndexOutOfBoundsException = lit< tt
falls LinkageError = lit< tt
falls VirtualMachineError = lit< tt
falls NoClassDefFoundError = lit< tt
falls ExceptionInInitializerError = lit< tt
falls IncompatibleClassChangeError = lit< tt
falls VerifyError = lit< tt
falls NoSuchFieldError = lit< tt
falls NoSuchMethodError = lit< tt
falls AbstractMethodError = lit< tt
falls InstantiationError = lit< tt
falls OutOfMemoryError = lit< tt
falls StackOverflowError = lit< tt
falls InternalError = lit< tt

pub superclass-falls : (b s : BuiltIn) → superclass_of_built_in b ≡ Some s → number_of s < number_of b
superclass-falls b s e = rw e at (falls b)
