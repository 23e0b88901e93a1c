-- The names of supertypes, resolved (JVMS SE 8 5.3.5).
use Rattle.std.specs.Prelude.{◌≡◌, ◌⊎◌, ℕ, ◌+◌, ◌==◌, List, [], ◌∷◌, Option, Some, None, Result, Ok, Err, slice_get, if◌then◌else◌}
use Rattle.jasmin_text.specs.declared.class_text.ClassKind.{ClassKind}
use Rattle.jasmin_text.specs.declared.class_text.ClassKind.TheVariants as kind
use Rattle.hierarchy.specs.declared.class.ClassId.{ClassId}
use Rattle.hierarchy.specs.declared.built_in.BuiltIn.{BuiltIn}
use Rattle.hierarchy.specs.declared.fault.LinkFaultKind.{LinkFaultKind}
use Rattle.hierarchy.specs.declared.fault.LinkFaultKind.TheVariants.{UnknownSupertype, SuperclassKind, InterfaceKind, NoMemory}
use Rattle.hierarchy.specs.declared.supertype_names.Known.{Known}
use Rattle.hierarchy.specs.declared.supertype_names.Known.TheVariants as known_as
use Rattle.hierarchy.specs.BuiltIn.{built_in_named, may_be_superclass, number_of}
use Rattle.hierarchy.specs.LinkedProgram.{id}
use Rattle.texts.specs.Texts.{place_of_text}

abbrev pub known_file : ℕ → Option ClassKind → Known
known_file place None = known_as.Nothing
known_file place (Some k) = known_as.File place k

abbrev pub known_built_in : Option BuiltIn → Known
known_built_in None = known_as.Nothing
known_built_in (Some b) = known_as.BuiltIn b

abbrev pub known_at : List ClassKind → List ℕ → Option ℕ → Known
known_at kinds name (Some place) = known_file place (slice_get kinds place)
known_at kinds name None = known_built_in (built_in_named name)

-- what a name means among classes of these names and kinds: a file's class before a built-in one
abbrev pub known : List (List ℕ) → List ClassKind → List ℕ → Known
known names kinds name = known_at kinds name (place_of_text name names)

abbrev pub built_in_superclass : ℕ → ClassKind → BuiltIn → Result ClassId LinkFaultKind
built_in_superclass count kind.Class b = Ok (id (count + number_of b))
built_in_superclass count kind.Interface b = if number_of b == 0 then Ok (id (count + number_of b)) else Err SuperclassKind

-- The superclass of a class of a kind: known, a class, and for an interface java/lang/Object.
-- Of the built-in classes java/lang/Object and the throwables are known as superclasses.
abbrev pub superclass_id : ℕ → ClassKind → Known → Result ClassId LinkFaultKind
superclass_id count own known_as.Nothing = Err UnknownSupertype
superclass_id count kind.Class (known_as.File place kind.Class) = Ok (id place)
superclass_id count kind.Class (known_as.File place kind.Interface) = Err SuperclassKind
superclass_id count kind.Interface (known_as.File place k) = Err SuperclassKind
superclass_id count own (known_as.BuiltIn b) = if may_be_superclass b then built_in_superclass count own b else Err UnknownSupertype

-- a superinterface: known, and an interface
abbrev pub interface_id : Known → Result ClassId LinkFaultKind
interface_id known_as.Nothing = Err UnknownSupertype
interface_id (known_as.BuiltIn b) = Err InterfaceKind
interface_id (known_as.File place kind.Class) = Err InterfaceKind
interface_id (known_as.File place kind.Interface) = Ok (id place)

-- one more before a list, or the first fault
abbrev pub joined : {X E : Type 0} → Result X E → Result (List X) E → Result (List X) E
joined (Err k) rest = Err k
joined (Ok c) (Err k) = Err k
joined (Ok c) (Ok cs) = Ok (c ∷ cs)

-- superinterfaces in order, or the first fault
abbrev pub interface_ids : List (List ℕ) → List ClassKind → List (List ℕ) → Result (List ClassId) LinkFaultKind
interface_ids names kinds [] = Ok []
interface_ids names kinds (name ∷ wanted) = joined (interface_id (known names kinds name)) (interface_ids names kinds wanted)

-- the answer, unless memory ran out
abbrev pub MemoryOr : {X : Type 0} → Result X LinkFaultKind → Result X LinkFaultKind → Type 0
MemoryOr result answer = (result ≡ Err NoMemory) ⊎ (result ≡ answer)
