-- Words that have the name of a member in them, both ways: what is read of them is what they spell.
use Rattle.std.proofs.Common.{◌≡◌, ℕ, suc, ◌+◌, inl, inr, Bool, true, false, not, cond, eqb, List, [], ◌∷◌, ◌++◌, length, take, drop, Option, Some, None, Ok, refl, sym, ap, ◌∙◌, codes, add-one, one-add, eqb-true, take-append-drop, take_at, drop_at}
use Rattle.std.specs.List.{list_all}
use Rattle.std.proofs.lemmas.Bool.{and_from, cases_Bool, not_from_false, false_from_ne_true, and_parts, not-true}
use Rattle.std.proofs.lemmas.Option.{cond_some}
use Rattle.std.proofs.Math.Seq.{drop-append-add}
use Rattle.std.proofs.lemmas.List.Folds.{list_all-append}
use Rattle.std.proofs.lemmas.Slice.Eq.{bytes_eq-Decides}
use Rattle.std.specs.Str.{bytes_eq}
use Rattle.descriptors.specs.ClassName.{is_name_byte, segments, is_class_name, IsClassName}
use Rattle.descriptors.specs.Signature.{Signature}
use Rattle.descriptors.specs.Spelling.{method_spelling, IsMethodType}
use Rattle.descriptors.specs.Reading.{method_of_text}
use Rattle.descriptors.proofs.MethodLaws.{method_found, method_only}
use Rattle.jasmin_words.specs.declared.fault.FaultKind.TheVariants as fault
use Rattle.sequence.proofs.Results.{bind_ok, given, test_passed}
use Rattle.jasmin_words.specs.Names.{is_name_byte as is_member_byte, is_member_name, IsMemberName}
use Rattle.jasmin_text.specs.Grammar.{IsMethodWord}
use Rattle.jasmin_text.specs.MemberWords.{checked, class_name_in, member_name_in, slash_in, member_at, member_in, name_len, before_type, type_part}
use Rattle.jasmin_text.proofs.Conditions.{all_weaker}
use Rattle.jasmin_text.proofs.WordBytes.{in_segments, split_byte, one_of}

pub checked_ok : (test : List ℕ → Bool) (w x : List ℕ) → checked (test w) w ≡ Ok x → (test x ≡ true) × (w ≡ x)
checked_ok test w x e = let p = test_passed (test w) w fault.BadOperand x e in (rw (← p.1) p.0, p.1)

-- ---- bytes that names lack

-- no byte is c
abbrev pub lacks : ℕ → List ℕ → Bool
lacks c = list_all (λ b. not (eqb b c))

is_other : (c : ℕ) (test : ℕ → Bool) → test c ≡ false → (b : ℕ) → test b ≡ true → not (eqb b c) ≡ true
is_other c test none_here b h = not_from_false (eqb b c) (false_from_ne_true (eqb b c) (λ e. cc (ap test (eqb-true b c e), none_here, h)))

segments_lack : (c : ℕ) → eqb 47 c ≡ false → is_name_byte c ≡ false → (name : List ℕ) → list_all (list_all is_name_byte) (segments name) ≡ true → lacks c name ≡ true
segments_lack c slash none_here [] h = refl
segments_lack c slash none_here (b ∷ bs) h = elim (cases_Bool (eqb b 47)) [
  | inl y ↦ and_from _ _ (not_from_false (eqb b c) (ap (λ (z : ℕ). eqb z c) (eqb-true b 47 y) ∙ slash)) (segments_lack c slash none_here bs (rw y at h))
  | inr y ↦ let p = split_byte b (segments bs) (rw y at h) in and_from _ _ (is_other c is_name_byte none_here b p.0) (segments_lack c slash none_here bs p.1)
]

pub class_lacks : (c : ℕ) → eqb 47 c ≡ false → is_name_byte c ≡ false → (name : List ℕ) → IsClassName name → lacks c name ≡ true
unfolding is_class_name
class_lacks c slash none_here name h = segments_lack c slash none_here name (in_segments (segments name) h)

pub member_lacks : (c : ℕ) → lacks c (codes "<init>") ≡ true → lacks c (codes "<clinit>") ≡ true → is_member_byte c ≡ false → (name : List ℕ) → IsMemberName name → lacks c name ≡ true
unfolding is_member_name
member_lacks c i j none_here name h =
    one_of (bytes_eq name (codes "<init>")) (bytes_eq name (codes "<clinit>")) _ (lacks c name ≡ true) h
    (λ e. ap (lacks c) ((bytes_eq-Decides name (codes "<init>")).0 e) ∙ i) (λ e. ap (lacks c) ((bytes_eq-Decides name (codes "<clinit>")).0 e) ∙ j) (λ e. all_weaker is_member_byte _ name (is_other c is_member_byte none_here) (and_parts _ _ e).1)

-- ---- the last slash

slash_parts : (w : List ℕ) (n : ℕ) → slash_in w ≡ Some n → w ≡ take n w ++ 47 ∷ drop (suc n) w
slash_parts [] n e = absurd cc
slash_parts (b ∷ bs) n e = by (slash_in bs) (slash_parts bs) e
  where
    by : (o : Option ℕ) → ((m : ℕ) → o ≡ Some m → bs ≡ take m bs ++ 47 ∷ drop (suc m) bs)
        → elim o as (λ o. Option ℕ) [ Some m ↦ Some (m + 1) | None ↦ cond (eqb b 47) (Some 0) None ] ≡ Some n → b ∷ bs ≡ take n (b ∷ bs) ++ 47 ∷ drop (suc n) (b ∷ bs)
    by None rest h = let p = cond_some (eqb b 47) 0 n h in rw (← p.1) (ap (λ (c : ℕ). c ∷ bs) (eqb-true b 47 p.0))
    by (Some m) rest h =
        let same : suc m ≡ n = (let k : m + 1 ≡ n = cc in sym (add-one m) ∙ k) in
        rw (← same) (ap (λ (l : List ℕ). b ∷ l) (rest m refl))

slash_none : (name : List ℕ) → lacks 47 name ≡ true → slash_in name ≡ None
slash_none [] h = refl
slash_none (b ∷ bs) h = let p = and_parts (not (eqb b 47)) (lacks 47 bs) h in rw (slash_none bs p.1, not-true (eqb b 47) p.0) refl

slash_is : (class name : List ℕ) → lacks 47 name ≡ true → slash_in (class ++ 47 ∷ name) ≡ Some (length class)
slash_is [] name h = rw (slash_none name h) refl
slash_is (b ∷ bs) name h = rw (slash_is bs name h, add-one (length bs)) refl

-- a class, a slash and the name of a member
pub record IsSpelled (w class name : List ℕ) : Type 0 where
  pub parts : w ≡ class ++ 47 ∷ name
  pub class_name : IsClassName class
  pub member_name : IsMemberName name

pub member_found : (w class name : List ℕ) → member_in w ≡ Ok (class, name) → IsSpelled w class name
unfolding member_in
member_found w class name e = by (slash_in w) refl e
  where
    by : (o : Option ℕ) → slash_in w ≡ o → member_at w o ≡ Ok (class, name) → IsSpelled w class name
    by None p h = absurd cc
    by (Some n) p h =
        let one = bind_ok (class_name_in (take n w)) _ (class, name) h in
        let two = bind_ok (member_name_in (drop (n + 1) w)) _ (class, name) one.2 in
        let a = checked_ok is_class_name (take n w) one.0 one.1 in
        let b = checked_ok is_member_name (drop (n + 1) w) two.0 two.1 in
        given (λ (x : List ℕ × List ℕ). IsSpelled w x.0 x.1) two.2 (record { parts = cc (slash_parts w n p, add-one n, a.1, b.1); class_name = a.0; member_name = b.0 })

pub member_only : (class name : List ℕ) → IsClassName class → IsMemberName name → member_in (class ++ 47 ∷ name) ≡ Ok (class, name)
unfolding member_in
member_only class name c m =
    rw (slash_is class name (member_lacks 47 refl refl refl name m), take_at class (47 ∷ name) (length class) refl, drop-append-add class (47 ∷ name) 1, c, m) refl

-- ---- the first (

name_len_is : (front : List ℕ) (m : Signature) → lacks 40 front ≡ true → name_len (front ++ method_spelling m) ≡ length front
name_len_is [] m h = refl
name_len_is (b ∷ bs) m h = let p = and_parts (not (eqb b 40)) (lacks 40 bs) h in rw (not-true (eqb b 40) p.0) (one-add _ ∙ ap suc (name_len_is bs m p.1))

pub signature_found : (w : List ℕ) (m : Signature) → method_of_text (type_part w) ≡ Ok m → (w ≡ before_type w ++ method_spelling m) × IsMethodType m
signature_found w m e = let found = method_found (type_part w) m e in (cc (take-append-drop (name_len w) w, found.0), found.1)

-- what comes before a method's descriptor, and the descriptor
pub signature_only : (front : List ℕ) (m : Signature) → lacks 40 front ≡ true → IsMethodType m → (before_type (front ++ method_spelling m) ≡ front) × (method_of_text (type_part (front ++ method_spelling m)) ≡ Ok m)
signature_only front m bare k =
    let at = name_len_is front m bare in
    (rw at (take_at front (method_spelling m) (length front) refl), rw (at, drop_at front (method_spelling m) (length front) refl) (method_only m k))

-- a class, a slash, the name of a method and its descriptor
pub call_only : (class name : List ℕ) (m : Signature) → IsClassName class → IsMemberName name → IsMethodType m → IsMethodWord (class ++ 47 ∷ name ++ method_spelling m) class name m
call_only class name m c n k =
    let bare = list_all-append _ class (47 ∷ name) ∙ and_from _ _ (class_lacks 40 refl refl class c) (member_lacks 40 refl refl refl name n) in
    let s = signature_only (class ++ 47 ∷ name) m bare k in
    record { member = rw s.0 (member_only class name c n); method_type = s.1 }
