-- Steps of readings: what a step's value says, taken apart and put together.
use Rattle.std.proofs.Common.{◌≡◌, Bool, true, false, cond, Option, Some, None, ok_or, Result, Ok, Err, refl, ap, subst, ◌∙◌}
use Rattle.sequence.specs.Gives.{◌>>=◌}

-- ---- what a step gave

-- what the first step gave, and what came of it
pub bind_ok : {A B F : Type 0} (x : Result A F) (f : A → Result B F) (y : B) → (x >>= f) ≡ Ok y → (a : A) × (x ≡ Ok a) × (f a ≡ Ok y)
bind_ok (Ok a) f y e = (a, refl, e)
bind_ok (Err k) f y e = absurd cc

pub then : {A B F : Type 0} (x : Result A F) (f : A → Result B F) (a : A) (z : B) → x ≡ Ok a → f a ≡ Ok z → (x >>= f) ≡ Ok z
then x f a z h e = ap (λ r. r >>= f) h ∙ e

-- one step, and two that go on alike from what it gave
pub bind_same : {A B F : Type 0} (r : Result A F) (f g : A → Result B F) → ((x : A) → r ≡ Ok x → f x ≡ g x) → (r >>= f) ≡ (r >>= g)
bind_same (Ok x) f g h = h x refl
bind_same (Err e) f g h = refl

abbrev pub done : {A F : Type 0} → A → Result A F
done x = Ok x

-- what holds of a step's value holds of what came of it
pub given : {A F : Type 0} (P : A → Type 0) {x y : A} → done {F = F} x ≡ Ok y → P x → P y
given P {x = x} {y = y} e h = let same : x ≡ y = cc in subst P same h

-- what holds of what came of it held of the step's value
pub back : {A F : Type 0} (P : A → Type 0) {x y : A} → done {F = F} x ≡ Ok y → P y → P x
back P {x = x} {y = y} e h = let same : y ≡ x = cc in subst P same h

pub test_passed : {A F : Type 0} (b : Bool) (x : A) (k : F) (y : A) → cond b (Ok x) (Err k) ≡ Ok y → (b ≡ true) × (x ≡ y)
test_passed true x k y e = (refl, cc)
test_passed false x k y e = absurd cc

-- what a test didn't refuse
pub not_refused : {A F : Type 0} (b : Bool) (k : F) (read : Result A F) (x : A) → cond b (Err k) read ≡ Ok x → (b ≡ false) × (read ≡ Ok x)
not_refused true k read x e = absurd cc
not_refused false k read x e = (refl, e)

pub some_ok : {A F : Type 0} (o : Option A) (k : F) (x : A) → ok_or o k ≡ Ok x → o ≡ Some x
some_ok (Some y) k x e = cc
some_ok None k x e = absurd cc

-- ---- what holds of a result, if it is no fault

abbrev pub Holds : {A F : Type 0} → (A → Type 0) → Result A F → Type 0
Holds P (Ok x) = P x
Holds P (Err e) = Unit {0}

pub bind_holds : {A B F : Type 0} (P : A → Type 0) (Q : B → Type 0) (r : Result A F) (f : A → Result B F) → Holds P r → ((x : A) → r ≡ Ok x → P x → Holds Q (f x)) → Holds Q (r >>= f)
bind_holds P Q (Ok x) f p h = h x refl p
bind_holds P Q (Err e) f p h = tt

pub cond_holds : {A F : Type 0} (P : A → Type 0) (b : Bool) (x y : Result A F) → (b ≡ true → Holds P x) → (b ≡ false → Holds P y) → Holds P (cond b x y)
cond_holds P true x y p q = p refl
cond_holds P false x y p q = q refl

-- where it isn't taken, there is a fault
pub guard_holds : {A F : Type 0} (P : A → Type 0) (b : Bool) (x : Result A F) (e : F) → (b ≡ true → Holds P x) → Holds P (cond b x (Err e))
guard_holds P b x e p = cond_holds P b x (Err e) p (λ _. tt)

pub refuse_holds : {A F : Type 0} (P : A → Type 0) (b : Bool) (e : F) (x : Result A F) → (b ≡ false → Holds P x) → Holds P (cond b (Err e) x)
refuse_holds P b e x p = cond_holds P b (Err e) x (λ _. tt) p

pub weaker : {A F : Type 0} (P Q : A → Type 0) (r : Result A F) → ((x : A) → P x → Q x) → Holds P r → Holds Q r
weaker P Q (Ok x) f h = f x h
weaker P Q (Err e) f h = tt

pub holds_at : {A F : Type 0} (P : A → Type 0) (r : Result A F) (x : A) → Holds P r → r ≡ Ok x → P x
holds_at P r x h e = let Q : Result _ _ → Type 0 = Holds P in subst Q e h

-- ---- what holds of an option, if it is there

abbrev pub HoldsIn : {A : Type 0} → (A → Type 0) → Option A → Type 0
HoldsIn P (Some x) = P x
HoldsIn P None = Unit {0}

pub cond_in : {A : Type 0} (P : A → Type 0) (b : Bool) (x y : Option A) → (b ≡ true → HoldsIn P x) → (b ≡ false → HoldsIn P y) → HoldsIn P (cond b x y)
cond_in P true x y p q = p refl
cond_in P false x y p q = q refl

pub guard_in : {A : Type 0} (P : A → Type 0) (b : Bool) (x : Option A) → (b ≡ true → HoldsIn P x) → HoldsIn P (cond b x None)
guard_in P b x p = cond_in P b x None p (λ _. tt)

pub map_in : {A : Type 0} (P Q : A → Type 0) (o : Option A) → ((x : A) → P x → Q x) → HoldsIn P o → HoldsIn Q o
map_in P Q (Some x) f h = f x h
map_in P Q None f h = tt

pub in_at : {A : Type 0} (P : A → Type 0) (o : Option A) (x : A) → HoldsIn P o → o ≡ Some x → P x
in_at P o x h e = let Q : Option _ → Type 0 = HoldsIn P in subst Q e h
