-- Names of classes are words of a line, and are read again.
use Rattle.std.proofs.Common.{◌≡◌, ℕ, zero, suc, ◌-◌, ◌<◌, ◌≤◌, Bool, true, not, ◌&&◌, nat_lt, List, [], ◌∷◌, ◌++◌, length, Option, Some, None, Ok, slice_get, refl, sym, ap, subst, arith}
use Rattle.std.proofs.lemmas.Bool.{and_parts, ltb-true, lt-ltb}
use Rattle.std.proofs.lemmas.List.Elements.{All-get_or}
use Rattle.std.proofs.lemmas.Option.{slice_get_within, get_or_from_slice_get}
use Rattle.std.specs.List.{list_all}
use Rattle.std.specs.Prelude.{nat_le, unwrap_or}
use Rattle.descriptors.specs.ClassName.{is_class_name}
use Rattle.jasmin_text.specs.declared.class_text.ClassParts.{ClassParts}
use Rattle.jasmin_text.specs.Spellable.{is_class_word, is_taken, is_field, is_method, is_spellable, IsSpellable}
use Rattle.jasmin_text.proofs.WordBytes.{class_name_word}
use Rattle.jasmin_words.specs.Lexing.{fits}
use Rattle.sequence.proofs.Results.{Holds, bind_holds, guard_holds}
use Rattle.hierarchy.specs.declared.class.Class.{Class}
use Rattle.hierarchy.specs.declared.class.ClassId.{ClassId}
use Rattle.hierarchy.specs.BuiltIn.{built_ins, built_in_names}
use Rattle.hierarchy.specs.LinkedProgram.{LinkedProgram, class_at, class_name, name_at, class_named}
use Rattle.hierarchy.specs.LinkedTexts.{IsLinked}
use Rattle.hierarchy.specs.SpellableClass.{IsSpellableClass}
use Rattle.hierarchy.proofs.Searches.{length-get_none}
use Rattle.hierarchy.proofs.ClassNames.{classes_found}
use Rattle.hierarchy.proofs.Positions.{Some_same}
use Rattle.hierarchy.proofs.ProvedByLinking.{linked_spellable, linked_few}
use Rattle.init_core.specs.ProcedureWord.{IsOfFiles}
use Rattle.init_core.specs.declared.event.TheConstants.{CLASS_NUMBERS}
use Rattle.trace.specs.TraceText.{class_text}
use Rattle.trace_reader.specs.Reading.{of_files, of_program, class_at as class_read, throwable_at}
use Rattle.trace_reader.specs.TraceEvents.{HasName}
use Rattle.trace_reader.specs.Words.{ends_word, next_at}
use Rattle.trace_reader.proofs.LineWords.{unbroken, IsLineWord, unbroken_word, next_found, next_again}

-- ---- what a file can spell

pub record HasWords (t : ClassParts) : Type 0 where
  pub name : is_class_name t.name ≡ true
  pub fields : list_all is_field t.fields ≡ true

text_words : (t : ClassParts) → IsSpellable t → HasWords t
unfolding is_spellable
text_words t h =
    let a = is_class_word t.name in
    let b = not (is_taken t.kind t.name) in
    let s = is_class_word t.superclass in
    let i = nat_le (length t.interfaces) 255 in
    let j = list_all is_class_word t.interfaces in
    let f = nat_le (length t.fields) 1024 in
    let m = nat_le (length t.methods) (1024 - length t.fields) in
    let g = list_all is_field t.fields in
    let one = and_parts (a && b && s && i && j && f && m && g) (list_all is_method t.methods) h in
    let two = and_parts (a && b && s && i && j && f && m) g one.0 in
    let three = and_parts (a && b && s && i && j && f) m two.0 in
    let four = and_parts (a && b && s && i && j) f three.0 in
    let five = and_parts (a && b && s && i) j four.0 in
    let six = and_parts (a && b && s) i five.0 in
    let seven = and_parts (a && b) s six.0 in
    let eight = and_parts a b seven.0 in
    record { name = (and_parts (is_class_name t.name) (fits t.name) eight.0).0; fields = two.1 }

pub record HasClassWords (class : Class) : Type 0 where
  pub name : is_class_name class.name ≡ true
  pub fields : list_all is_field class.fields ≡ true

class_words : (class : Class) → IsSpellableClass class → HasClassWords class
class_words class s =
    let r = text_words s.text s.spellable in
    record {
      name = subst (λ (z : Class). is_class_name z.name ≡ true) s.same r.name;
      fields = subst (λ (z : Class). list_all is_field z.fields ≡ true) s.same r.fields;
    }

pub words_at : (p : LinkedProgram) → IsLinked p → (c : ClassId) (class : Class) → class_at p c ≡ Some class → HasClassWords class
words_at p h c class e =
    let k : c.number < length p.classes = slice_get_within p.classes c.number class e in
    class_words class (subst IsSpellableClass (get_or_from_slice_get p.classes c.number class class e) (All-get_or IsSpellableClass p.classes c.number class k (linked_spellable p h)))

-- ---- names

abbrev is_line_word : List ℕ → Bool
is_line_word w = nat_lt 0 (length w) && unbroken w

built_ins_are : list_all is_line_word built_in_names ≡ true
unfolding built_in_names built_ins
built_ins_are = refl

few_built_ins : length built_in_names ≤ 32
unfolding built_in_names built_ins
few_built_ins = omega arith

pub at_place : {X : Type 0} (q : X → Bool) (xs : List X) (k : ℕ) (x : X) → list_all q xs ≡ true → slice_get xs k ≡ Some x → q x ≡ true
at_place q [] k x h e = absurd cc
at_place q (y ∷ ys) zero x h e = let same : y ≡ x = cc in subst (λ z. q z ≡ true) same (and_parts (q y) (list_all q ys) h).0
at_place q (y ∷ ys) (suc k) x h e = at_place q ys k x (and_parts (q y) (list_all q ys) h).1 e

class_name_some : (name : List ℕ) → is_class_name name ≡ true → 0 < length name
unfolding is_class_name
class_name_some [] h = absurd cc
class_name_some (b ∷ name) h = omega arith

pub named_word : (p : LinkedProgram) → IsLinked p → (c : ClassId) (name : List ℕ) → name_at p c ≡ Some name → IsLineWord name
named_word p h c name e = at (class_at p c) refl e
  where
    at : (o : Option Class) → class_at p c ≡ o → class_name o (slice_get built_in_names (c.number - length p.classes)) ≡ Some name → IsLineWord name
    at (Some class) g q =
        let w = (words_at p h c class g).name in
        let is : is_class_name name ≡ true = subst (λ (z : List ℕ). is_class_name z ≡ true) (Some_same q) w in
        record { some = class_name_some name is; whole = unbroken_word name (class_name_word name is) }
    at None g q =
        let r = and_parts (nat_lt 0 (length name)) (unbroken name) (at_place is_line_word built_in_names (c.number - length p.classes) name built_ins_are q) in
        record { some = ltb-true 0 (length name) r.0; whole = r.1 }

pub named_small : (p : LinkedProgram) → IsLinked p → (c : ClassId) (name : List ℕ) → class_named p name ≡ Some c → c.number < CLASS_NUMBERS
named_small p h c name e = at (class_at p c) refl ((classes_found p h c name).1 e)
  where
    few : length p.classes ≤ 1024
    few = linked_few p h

    at : (o : Option Class) → class_at p c ≡ o → class_name o (slice_get built_in_names (c.number - length p.classes)) ≡ Some name → c.number < CLASS_NUMBERS
    at (Some class) g q = let k : c.number < length p.classes = slice_get_within p.classes c.number class g in omega (arith, few)
    at None g q = let k : c.number - length p.classes < length built_in_names = slice_get_within built_in_names (c.number - length p.classes) name q in omega (arith, few, few_built_ins)

-- ---- classes

pub text_is : (p : LinkedProgram) (c : ClassId) (name : List ℕ) → name_at p c ≡ Some name → class_text p c ≡ name
text_is p c name e = ap (λ (o : Option (List ℕ)). unwrap_or o []) e

abbrev pub IsNamedNext : LinkedProgram → List ℕ → ClassId × List ℕ → Type 0
IsNamedNext p s x = s ≡ 32 ∷ (class_text p x.0 ++ x.1)

pub class_found : (p : LinkedProgram) → IsLinked p → (s : List ℕ) → Holds (λ x. IsNamedNext p s x × IsOfFiles p x.0) (class_read p s)
unfolding class_read
class_found p h s =
    bind_holds (λ x. s ≡ 32 ∷ (x.0 ++ x.1)) (λ x. IsNamedNext p s x × IsOfFiles p x.0) (next_at s) _ (next_found s) (λ word _ e.
    bind_holds (λ c. (class_text p c ≡ word.0) × IsOfFiles p c) (λ x. IsNamedNext p s x × IsOfFiles p x.0) (of_files p (class_named p word.0)) _ (at word.0 (class_named p word.0) refl) (λ c _ q. (rw q.0 e, q.1)))
  where
    at : (w : List ℕ) (o : Option ClassId) → class_named p w ≡ o → Holds (λ c. (class_text p c ≡ w) × IsOfFiles p c) (of_files p o)
    at w None e = tt
    at w (Some c) e = guard_holds (λ c. (class_text p c ≡ w) × IsOfFiles p c) (nat_lt c.number (length p.classes)) _ _ (λ l. (text_is p c w ((classes_found p h c w).1 e), ltb-true c.number (length p.classes) l))

pub named_of_files : (p : LinkedProgram) (c : ClassId) → IsOfFiles p c → HasName p c
named_of_files p c less = at (class_at p c) refl
  where
    at : (o : Option Class) → class_at p c ≡ o → (name : List ℕ) × (class_name o (slice_get built_in_names (c.number - length p.classes)) ≡ Some name)
    at (Some class) e = (class.name, refl)
    at None e = absurd (let past : length p.classes ≤ c.number = length-get_none p.classes c.number (sym e) in omega (arith, past, less))

pub class_again : (p : LinkedProgram) → IsLinked p → (c : ClassId) (b : ℕ) (rest : List ℕ) → IsOfFiles p c → ends_word b ≡ true → class_read p (32 ∷ (class_text p c ++ b ∷ rest)) ≡ Ok (c, b ∷ rest)
unfolding class_read
class_again p h c b rest less end =
    let named = named_of_files p c less in
    let e : class_text p c ≡ named.0 = text_is p c named.0 named.1 in
    let found : class_named p named.0 ≡ Some c = (classes_found p h c named.0).0 named.1 in
    rw (e, next_again named.0 rest b (named_word p h c named.0 named.1) end, found, lt-ltb c.number (length p.classes) less) refl

pub throwable_found : (p : LinkedProgram) → IsLinked p → (s : List ℕ) → Holds (λ x. IsNamedNext p s x × HasName p x.0) (throwable_at p s)
unfolding throwable_at
throwable_found p h s =
    bind_holds (λ x. s ≡ 32 ∷ (x.0 ++ x.1)) (λ x. IsNamedNext p s x × HasName p x.0) (next_at s) _ (next_found s) (λ word _ e.
    bind_holds (λ c. (class_text p c ≡ word.0) × HasName p c) (λ x. IsNamedNext p s x × HasName p x.0) (of_program (class_named p word.0)) _ (at word.0 (class_named p word.0) refl) (λ c _ q. (rw q.0 e, q.1)))
  where
    at : (w : List ℕ) (o : Option ClassId) → class_named p w ≡ o → Holds (λ c. (class_text p c ≡ w) × HasName p c) (of_program o)
    at w None e = tt
    at w (Some c) e = let named = (classes_found p h c w).1 e in (text_is p c w named, (w, named))

pub throwable_again : (p : LinkedProgram) → IsLinked p → (c : ClassId) (b : ℕ) (rest : List ℕ) → HasName p c → ends_word b ≡ true → throwable_at p (32 ∷ (class_text p c ++ b ∷ rest)) ≡ Ok (c, b ∷ rest)
unfolding throwable_at
throwable_again p h c b rest named end =
    let e : class_text p c ≡ named.0 = text_is p c named.0 named.1 in
    let found : class_named p named.0 ≡ Some c = (classes_found p h c named.0).0 named.1 in
    rw (e, next_again named.0 rest b (named_word p h c named.0 named.1) end, found) refl
