-- What the first class of a list gives, where repeats are dropped.
use Rattle.std.proofs.Common.{◌≡◌, inl, inr, Option, Some, None, List, [], ◌∷◌, ◌++◌, refl, sym, ap, ◌∙◌}
use Rattle.std.proofs.lemmas.Bool.{cases_Bool}
use Rattle.std.specs.Option.{option_or}
use Rattle.hierarchy.specs.declared.class.ClassId.{ClassId}
use Rattle.hierarchy.specs.ClassLists.{Among, first, later, add_new, add_all, distinct, is_among}
use Rattle.hierarchy.specs.Ancestry.{first_given}
use Rattle.hierarchy.proofs.ClassMembership.{among_from_true}

pub option_or-none : {X : Type 0} (o : Option X) → option_or o None ≡ o
option_or-none None = refl
option_or-none (Some x) = refl

pub option_or-assoc : {X : Type 0} (o p q : Option X) → option_or (option_or o p) q ≡ option_or o (option_or p q)
option_or-assoc None p q = refl
option_or-assoc (Some x) p q = refl

keeps : {X : Type 0} (o r : Option X) → option_or (option_or o r) o ≡ option_or o r
keeps None None = refl
keeps None (Some y) = refl
keeps (Some y) r = refl

pub first_given-append : {X : Type 0} (f : ClassId → Option X) (xs ys : List ClassId) → first_given f (xs ++ ys) ≡ option_or (first_given f xs) (first_given f ys)
first_given-append f [] ys = refl
first_given-append f (x ∷ xs) ys = ap (option_or (f x)) (first_given-append f xs ys) ∙ sym (option_or-assoc (f x) (first_given f xs) (first_given f ys))

-- a class of the list gives nothing earlier
first_given-there : {X : Type 0} (f : ClassId → Option X) {x : ClassId} {xs : List ClassId} → Among x xs → option_or (first_given f xs) (f x) ≡ first_given f xs
first_given-there f {x = x} (first {cs = xs}) = keeps (f x) (first_given f xs)
first_given-there f {x = x} (later {d = y} {cs = xs} h) = option_or-assoc (f y) (first_given f xs) (f x) ∙ ap (option_or (f y)) (first_given-there f h)

first_given-new : {X : Type 0} (f : ClassId → Option X) (xs : List ClassId) (x : ClassId) → first_given f (add_new xs x) ≡ option_or (first_given f xs) (f x)
first_given-new f xs x =
    elim (cases_Bool (is_among x xs)) [
      | inl e ↦ rw e (sym (first_given-there f (among_from_true x xs e)))
      | inr e ↦ rw e (first_given-append f xs (x ∷ []) ∙ ap (option_or (first_given f xs)) (option_or-none (f x)))
    ]

first_given-all : {X : Type 0} (f : ClassId → Option X) (xs ys : List ClassId) → first_given f (add_all xs ys) ≡ option_or (first_given f xs) (first_given f ys)
first_given-all f xs [] = sym (option_or-none (first_given f xs))
first_given-all f xs (y ∷ ys) =
    first_given-all f (add_new xs y) ys ∙ ap (λ o. option_or o (first_given f ys)) (first_given-new f xs y) ∙
    option_or-assoc (first_given f xs) (f y) (first_given f ys)

-- what a list gives first it gives first without repeats
pub first_given-distinct : {X : Type 0} (f : ClassId → Option X) (xs : List ClassId) → first_given f (distinct xs) ≡ first_given f xs
first_given-distinct f xs = first_given-all f [] xs
