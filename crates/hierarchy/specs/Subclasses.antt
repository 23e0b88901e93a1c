-- Superclasses (JVMS SE 8 4.1, 5.3.5), up to java/lang/Object.
use Rattle.std.specs.Prelude.{◌≡◌, List, Some}
use Rattle.hierarchy.specs.declared.class.Class.{Class}
use Rattle.hierarchy.specs.declared.class.ClassId.{ClassId}
use Rattle.hierarchy.specs.declared.built_in.BuiltIn.{BuiltIn}
use Rattle.hierarchy.specs.declared.built_in.BuiltIn.TheVariants.{Error, Throwable}
use Rattle.hierarchy.specs.BuiltIn.{superclass_of_built_in}
use Rattle.hierarchy.specs.LinkedProgram.{LinkedProgram, class_among, built_in_after, built_in}

-- the second is the direct superclass of the first
pub data Extends (classes : List Class) : ClassId → ClassId → Type 0 where
  in_file : {c : ClassId} {class : Class} → class_among classes c ≡ Some class → Extends classes c class.superclass
  is_built_in : (b s : BuiltIn) → superclass_of_built_in b ≡ Some s → Extends classes (built_in_after classes b) (built_in_after classes s)

-- the first is the second or a subclass of it
pub data IsSubclass (classes : List Class) : ClassId → ClassId → Type 0 where
  itself : {c : ClassId} → IsSubclass classes c c
  below : {c s d : ClassId} → Extends classes c s → IsSubclass classes s d → IsSubclass classes c d

-- Throwable or a subclass: what a body may throw (JLS SE 8 11.1.1)
abbrev pub IsThrowable : LinkedProgram → ClassId → Type 0
IsThrowable p c = IsSubclass p.classes c (built_in p Throwable)

-- Error or a subclass (JLS SE 8 12.4.2, step 11)
abbrev pub IsError : LinkedProgram → ClassId → Type 0
IsError p c = IsSubclass p.classes c (built_in p Error)
