-- Access words before a name, both ways: what is read is in lines of the grammar, and what is there is read.
use Rattle.std.proofs.Common.{◌≡◌, ℕ, Bool, true, false, not, ◌&&◌, cond, inl, inr, List, [], ◌∷◌, ◌++◌, map, Option, Some, None, is_some, Ok, refl, sym, ap, subst, ◌∙◌, codes}
use Rattle.std.specs.Option.{option_map, ok_or}
use Rattle.std.proofs.lemmas.Bool.{cases_Bool}
use Rattle.std.proofs.lemmas.Slice.Eq.{bytes_eq-Decides}
use Rattle.std.specs.Str.{bytes_eq}
use Rattle.jasmin_words.specs.declared.fault.FaultKind.{FaultKind}
use Rattle.jasmin_words.specs.declared.fault.FaultKind.TheVariants as fault
use Rattle.sequence.specs.Gives.{◌>>=◌}
use Rattle.sequence.proofs.Results.{bind_ok, back, test_passed, some_ok}
use Rattle.jasmin_words.specs.Lexing.{Item, Word, fits}
use Rattle.jasmin_words.specs.Spelling.{AreWords}
use Rattle.jasmin_text.specs.Tables.{access_of, member_access_of, is_member_word}
use Rattle.jasmin_text.specs.Spellable.{is_taken}
use Rattle.jasmin_text.specs.Grammar.{with_word as more_access, is_taken_in, IsAccessBy, IsClassAccess, none, more, interface}
use Rattle.jasmin_text.specs.declared.access.Access.{Access}
use Rattle.jasmin_text.specs.declared.class_text.ClassKind.{ClassKind}
use Rattle.jasmin_text.specs.declared.class_text.ClassKind.TheVariants as kind
use Rattle.jasmin_text.specs.declared.table.AccessWord.{AccessWord}
use Rattle.jasmin_text.specs.declared.table.AccessWord.TheVariants as word
use Rattle.jasmin_text.proofs.Tables.{access_not_interface}
use Rattle.jasmin_reader.specs.declared.head.Place.{Place}
use Rattle.jasmin_reader.specs.declared.head.Place.TheVariants as place
use Rattle.jasmin_reader.specs.declared.head.HeadWords.{HeadWords}
use Rattle.jasmin_reader.specs.declared.table.ClassWord.{ClassWord}
use Rattle.jasmin_reader.specs.declared.table.ClassWord.TheVariants as class_word
use Rattle.jasmin_reader.specs.Places.{word_of, first_word, within_limit}
use Rattle.jasmin_reader.specs.Heads.{with_access, stand_together, fits_place, head_word_at, with_class_word, with_word, is_before_name, named_from, has_word, no_access_by, no_access_in}

-- ---- words

pub first_is : (other : FaultKind) (t : Item) (w : List ℕ) → first_word other t ≡ Ok w → t ≡ Word w
first_is other (Word v) w e = let k : v ≡ w = cc in ap Word k
first_is other t w e = absurd cc

pub within_ok : (w : List ℕ) (u : Unit {0}) → within_limit w ≡ Ok u → fits w ≡ true
within_ok w u e = (test_passed (fits w) tt fault.LimitExceeded u e).0

pub words_behind : (xs ys : List Item) → AreWords (xs ++ ys) → AreWords ys
words_behind [] ys h = h
words_behind (x ∷ xs) ys h = words_behind xs ys h.1

-- ---- what a word says

mapped : (o : Option AccessWord) → is_some (option_map class_word.Access o) ≡ is_some o
mapped (Some a) = refl
mapped None = refl

abbrev pub is_access_at : Place → List ℕ → Bool
is_access_at place.Class = is_taken kind.Class
is_access_at place.Interface = is_taken kind.Interface
is_access_at member = is_member_word

says_some : (p : Place) (w : List ℕ) → is_some (head_word_at p w) ≡ is_access_at p w
unfolding head_word_at
says_some place.Class w = elim (cases_Bool (bytes_eq w (codes "interface"))) [ inl y ↦ rw y refl | inr y ↦ rw y (mapped (access_of w)) ]
says_some place.Interface w = mapped (access_of w)
says_some member w = mapped (member_access_of w)

pub no_access_word : (p : Place) (w : List ℕ) (u : Unit {0}) → no_access_in p w ≡ Ok u → is_access_at p w ≡ false
unfolding no_access_in
no_access_word p w u e = sym (says_some p w) ∙ by (head_word_at p w) e
  where
    by : (o : Option ClassWord) → no_access_by o ≡ Ok u → is_some o ≡ false
    by None e = refl
    by (Some (class_word.Access word.LeftOut)) e = absurd cc
    by o e = absurd cc

pub passed_over : (p : Place) (w : List ℕ) → is_access_at p w ≡ false → no_access_in p w ≡ Ok tt
unfolding no_access_in
passed_over p w e = by (head_word_at p w) (says_some p w ∙ e)
  where
    by : (o : Option ClassWord) → is_some o ≡ false → no_access_by o ≡ Ok tt
    by None h = refl
    by (Some c) h = absurd cc

-- only these access words come before a name there
abbrev Knows : Place → (List ℕ → Option AccessWord) → Type 0
Knows p says = (w : List ℕ) → head_word_at p w ≡ option_map class_word.Access (says w)

pub knows : Knows place.Interface access_of × Knows place.Field member_access_of × Knows place.Method member_access_of
unfolding head_word_at
knows = (λ w. refl, λ w. refl, λ w. refl)

-- after .class the word interface, or an access word, is known
Says : List ℕ → ClassWord → Type 0
Says w class_word.Interface = w ≡ codes "interface"
Says w (class_word.Access a) = access_of w ≡ Some a

says_access : (o : Option AccessWord) (c : ClassWord) → option_map class_word.Access o ≡ Some c → (a : AccessWord) × (c ≡ class_word.Access a) × (o ≡ Some a)
says_access (Some a) c e = (a, cc, refl)
says_access None c e = absurd cc

class_says : (w : List ℕ) (c : ClassWord) → head_word_at place.Class w ≡ Some c → Says w c
unfolding head_word_at Says
class_says w c e = elim (cases_Bool (bytes_eq w (codes "interface"))) [
  | inl y ↦ let is : class_word.Interface ≡ c = (let k = rw y at e in cc) in rw (← is) ((bytes_eq-Decides w (codes "interface")).0 y)
  | inr y ↦ let (a, is, found) = says_access (access_of w) c (rw y at e) in rw is found
]

-- ---- words before a name

-- the words before a name, and what they make of those before them
pub data Words (p : Place) : HeadWords → List (List ℕ) → HeadWords → Type 0 where
  nothing : {h : HeadWords} → Words p h [] h
  access : {h k : HeadWords} {w : List ℕ} {ws : List (List ℕ)} (a : AccessWord) → head_word_at p w ≡ Some (class_word.Access a) → is_taken_in a ≡ true → stand_together p (more_access a h.access) ≡ true
      → Words p (record h { access = more_access a h.access }) ws k → Words p h (w ∷ ws) k
  to_interface : {h k : HeadWords} {w : List ℕ} {ws : List (List ℕ)} → head_word_at p w ≡ Some class_word.Interface → Words p (record h { kind = kind.Interface }) ws k → Words p h (w ∷ ws) k

pub class_access : {h k : HeadWords} {ws : List (List ℕ)} → Words place.Class h ws k → IsClassAccess h.kind h.access (map Word ws) k.kind k.access
unfolding Says
class_access nothing = none
class_access (access {w} a is t s words) = more (class_says w (class_word.Access a) is) t (class_access words)
class_access (to_interface {w} is words) = rw (class_says w class_word.Interface is) (interface (class_access words))

-- the words that some items are, with this of them
abbrev pub AreJust : List Item → (List (List ℕ) → Type 0) → Type 0
AreJust items P = (ws : List (List ℕ)) × (items ≡ map Word ws) × P ws

pub class_words : {k l : ClassKind} {a b : Access} {items : List Item} → IsClassAccess k a items l b → AreJust items (λ ws. Words place.Class (record { kind = k; access = a }) ws (record { kind = l; access = b }))
unfolding head_word_at
class_words none = ([], refl, nothing)
class_words (more {w} {word = x} e t is) = let (ws, parts, words) = class_words is in (w ∷ ws, ap (λ l. Word w ∷ l) parts, access x (rw (access_not_interface w x e, e) refl) t refl words)
class_words (interface is) = let (ws, parts, words) = class_words is in (codes "interface" ∷ ws, ap (λ l. Word (codes "interface") ∷ l) parts, to_interface refl words)

pub simple_access : (p : Place) (says : List ℕ → Option AccessWord) → Knows p says → {h k : HeadWords} {ws : List (List ℕ)} → Words p h ws k → IsAccessBy says h.access (map Word ws) k.access × (k.kind ≡ h.kind)
    × (stand_together p h.access ≡ true → stand_together p k.access ≡ true)
simple_access p says known nothing = (none, refl, λ first. first)
simple_access p says known (access {w} a is t s words) =
    let (are, kind, last) = simple_access p says known words in
    let (b, same, found) = says_access (says w) (class_word.Access a) (sym (known w) ∙ is) in
    (more (cc (same, found)) t are, kind, λ first. last s)
simple_access p says known (to_interface {w} is words) =
    let (b, same, _) = says_access (says w) class_word.Interface (sym (known w) ∙ is) in
    absurd (cc same)

-- what may not come together doesn't with one word more
fits_before : (p : Place) (x : AccessWord) (a : Access) → stand_together p (more_access x a) ≡ true → stand_together p a ≡ true
fits_before place.Method word.Abstract a h = elim a.is_abstract as (λ s. not (s && a.is_static) ≡ true) [ true ↦ h | false ↦ refl ]
fits_before place.Method word.Static a h = elim a.is_abstract as (λ s. not (s && true) ≡ true → not (s && a.is_static) ≡ true) [ true ↦ λ e. absurd cc | false ↦ λ e. refl ] h
fits_before place.Method x a h = h
fits_before p x a h = refl

pub simple_words : (p : Place) (says : List ℕ → Option AccessWord) → Knows p says → (k : ClassKind) {a b : Access} {items : List Item} → IsAccessBy says a items b → stand_together p b ≡ true
    → AreJust items (λ ws. Words p (record { kind = k; access = a }) ws (record { kind = k; access = b }) × (stand_together p a ≡ true))
simple_words p says known k none s = ([], refl, (nothing, s))
simple_words p says known k {a = a} (more {w} {k = x} e t is) s =
    let (ws, parts, (words, fits)) = simple_words p says known k is s in
    (w ∷ ws, ap (λ l. Word w ∷ l) parts, (access x (known w ∙ ap (option_map class_word.Access) e) t fits words, fits_before p x a fits))

-- ---- names after them

abbrev pub Found : Type 0
Found = HeadWords × (List ℕ × List Item)

-- the words, the name, which is no access word, and what follows; the words before the name are within their limit
abbrev pub Named : Place → HeadWords → List Item → Found → Type 0
Named p h items x = (before : List (List ℕ)) × Words p h before x.0 × (items ≡ map Word before ++ Word x.1.0 ∷ x.1.1) × (AreWords (Word x.1.0 ∷ x.1.1) → AreWords items) × (is_access_at p x.1.0 ≡ false)

one_more : (p : Place) (h next k : HeadWords) (w : List ℕ) (ws : List (List ℕ)) → with_word p h w ≡ Ok next → Words p next ws k → Words p h (w ∷ ws) k
unfolding with_word
one_more p h next k w ws e words = let one = bind_ok (ok_or (head_word_at p w) fault.BadOperand) _ next e in by one.0 (some_ok (head_word_at p w) fault.BadOperand one.0 one.1) one.2
  where
    by : (c : ClassWord) → head_word_at p w ≡ Some c → with_class_word p h c ≡ Ok next → Words p h (w ∷ ws) k
    by class_word.Interface is e = to_interface is (back (λ g. Words p g ws k) e words)
    by (class_word.Access a) is e =
        let one = bind_ok (with_access h.access a) _ next e in
        let two = bind_ok (fits_place p one.0) _ next one.2 in
        let t = test_passed (is_taken_in a) (more_access a h.access) fault.LeftOut one.0 one.1 in
        let s = test_passed (stand_together p one.0) one.0 fault.BadOperand two.0 two.1 in
        let same : next ≡ record h { access = more_access a h.access } = cc (t.1, s.1, two.2) in
        access a is t.0 (rw t.1 s.0) (subst (λ g. Words p g ws k) same words)

pub named_ok : (p : Place) (h : HeadWords) (items : List Item) (x : Found) → named_from p h items ≡ Ok x → Named p h items x
unfolding named_from
named_ok p h [] x e = absurd cc
named_ok p h (t ∷ rest) x e =
    let one = bind_ok (word_of t) _ x e in
    by one.0 (first_is fault.BadOperand t one.0 one.1) (is_before_name p rest) one.2 (λ next. named_ok p next rest x)
  where
    by : (w : List ℕ) → t ≡ Word w → (b : Bool) → cond b (with_word p h w >>= λ next. within_limit w >>= λ _. named_from p next rest) (no_access_in p w >>= λ _. Ok (h, (w, rest))) ≡ Ok x
        → ((next : HeadWords) → named_from p next rest ≡ Ok x → Named p next rest x) → Named p h (t ∷ rest) x
    by w is false e others =
        let one = bind_ok (no_access_in p w) _ x e in
        let k : (h, (w, rest)) ≡ x = cc (one.2) in
        rw (← k, is) ([], nothing, refl, (λ good. good), no_access_word p w one.0 one.1)
    by w is true e others =
        let one = bind_ok (with_word p h w) _ x e in
        let two = bind_ok (within_limit w) _ x one.2 in
        let (before, words, parts, fit, free) = others one.0 two.2 in
        rw is (w ∷ before, one_more p h one.0 x.0 w before one.1 words, ap (λ (l : List Item). Word w ∷ l) parts, (λ good. (within_ok w two.0 two.1, fit good)), free)

-- a name is read where it is looked for after the words before it
pub named_read : (p : Place) (name : List ℕ) (rest : List Item) → is_access_at p name ≡ false → is_before_name p rest ≡ false → ((ws : List (List ℕ)) → is_before_name p (map Word ws ++ Word name ∷ rest) ≡ true)
    → {h k : HeadWords} {ws : List (List ℕ)} → Words p h ws k → AreWords (map Word ws ++ Word name ∷ rest) → named_from p h (map Word ws ++ Word name ∷ rest) ≡ Ok (k, (name, rest))
unfolding named_from with_word
named_read p name rest free ends follows nothing fit = rw (ends, passed_over p name free) refl
named_read p name rest free ends follows (access {ws} a is t s words) fit = rw (follows ws, is, t, s, fit.0) (named_read p name rest free ends follows words fit.1)
named_read p name rest free ends follows (to_interface {ws} is words) fit = rw (follows ws, is, fit.0) (named_read p name rest free ends follows words fit.1)

pub word_behind : (name : List ℕ) (ws : List (List ℕ)) → has_word (map Word ws ++ Word name ∷ []) ≡ true
word_behind name [] = refl
word_behind name (w ∷ ws) = refl
