-- Linking: which class texts make a program, and which (JVMS SE 8 5.3.5, 5.4).
use Rattle.std.specs.Prelude.{◌≡◌, ◌⊎◌, ℕ, ◌<◌, Bool, true, not, ◌&&◌, List, [], ◌∷◌, Result, Ok, Err, nat_eq, map, take, length, slice_index_or, codes}
use Rattle.std.specs.List.{starts_with, list_any}
use Rattle.jasmin_text.specs.declared.class_text.ClassParts.{ClassParts}
use Rattle.jasmin_text.specs.declared.class_text.Method.{Method}
use Rattle.jasmin_text.specs.declared.class_text.ClassKind.{ClassKind}
use Rattle.hierarchy.specs.declared.class.Class.{Class}
use Rattle.hierarchy.specs.declared.class.ClassId.{ClassId}
use Rattle.hierarchy.specs.declared.fault.LinkFault.{LinkFault}
use Rattle.hierarchy.specs.declared.fault.LinkFaultKind.{LinkFaultKind}
use Rattle.hierarchy.specs.declared.fault.LinkFaultKind.TheVariants.{NoMemory}
use Rattle.texts.specs.Texts.{has_text}
use Rattle.hierarchy.specs.Supertypes.{known, superclass_id, interface_ids, joined}

abbrev pub is_reserved : List ℕ → Bool
is_reserved name = starts_with nat_eq name (codes "java/")

abbrev pub names_of : List ClassParts → List (List ℕ)
names_of texts = map (λ t. t.name) texts

abbrev pub kinds_of : List ClassParts → List ClassKind
kinds_of texts = map (λ t. t.kind) texts

-- P holds of i and of no place before
pub record IsFirst (P : ℕ → Type 0) (i : ℕ) : Type 0 where
  pub here : P i
  pub before : (j : ℕ) → j < i → P j → ⊥

-- the class at i has the name of one before it
abbrev pub IsRepeated : List ClassParts → ℕ → Type 0
IsRepeated texts i = (i < length texts) × (has_text (slice_index_or (names_of texts) i []) (take i (names_of texts)) ≡ true)

abbrev pub fault : LinkFaultKind → List ℕ → LinkFault
fault k name = record { kind = k; class = name }

-- whether a method is neither abstract nor static
abbrev pub is_default : Method → Bool
is_default m = not m.access.is_abstract && not m.access.is_static

-- the class of a text with these supertypes
abbrev pub class_of : ClassParts → ClassId → List ClassId → Class
class_of t superclass interfaces = record { name = t.name; kind = t.kind; access = t.access; superclass = superclass; interfaces = interfaces; fields = t.fields; methods = t.methods; declares_default = list_any is_default t.methods }

abbrev pub class_by : ClassParts → Result ClassId LinkFaultKind → Result (List ClassId) LinkFaultKind → Result Class LinkFault
class_by t (Err k) interfaces = Err (fault k t.name)
class_by t (Ok superclass) (Err k) = Err (fault k t.name)
class_by t (Ok superclass) (Ok interfaces) = Ok (class_of t superclass interfaces)

-- the class of a text among classes of these names and kinds, or the first fault of its supertypes' names:
-- the superclass, then the superinterfaces in order
abbrev pub class_from : List (List ℕ) → List ClassKind → ClassParts → Result Class LinkFault
class_from names kinds t = class_by t (superclass_id (length kinds) t.kind (known names kinds t.superclass)) (interface_ids names kinds t.interfaces)

-- the classes in order, or the first fault
abbrev pub classes_from : List (List ℕ) → List ClassKind → List ClassParts → Result (List Class) LinkFault
classes_from names kinds [] = Ok []
classes_from names kinds (t ∷ texts) = joined (class_from names kinds t) (classes_from names kinds texts)

-- the classes of texts, in file order, or the first fault of their supertypes' names
abbrev pub classes_of : List ClassParts → Result (List Class) LinkFault
classes_of texts = classes_from (names_of texts) (kinds_of texts) texts

-- the answer, unless memory ran out
abbrev pub Gives : {X : Type 0} → Result X LinkFault → Result X LinkFault → Type 0
Gives (Ok x) answer = answer ≡ Ok x
Gives (Err f) answer = (f.kind ≡ NoMemory) ⊎ (answer ≡ Err f)
