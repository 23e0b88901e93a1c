-- What all threads promised when they were started.
use Rattle.std.proofs.Common.{◌≡◌, List, [], ◌∷◌, ◌++◌, length, map, sym, ap, subst, ◌∙◌, append-nil}
use Rattle.std.proofs.lemmas.List.{nil_from_length}
use Rattle.std.specs.List.{AllByRecursion}
use Rattle.hierarchy.specs.LinkedProgram.{LinkedProgram}
use Rattle.bodies.specs.Sharing.{Sharing}
use Rattle.guest_threads.specs.declared.launch.Job.{Job}
use Rattle.guest_threads.specs.declared.work.Worked.{Worked}
use Rattle.guest_threads.specs.AllWork.{PlanFacts, Did, Pairs}

-- threads of one plan, which keep what each has promised
pub all_did : {S H A : Type 0} (hs : List A) (ws : List Worked) (making : LinkedProgram → Sharing S H) (plan : A → PlanFacts) (job : A → Job S) (k : PlanFacts) → AllByRecursion (λ h. plan h ≡ k) hs → Pairs (λ h w. Did making (plan h) (job h) w) hs ws → Pairs (Did making k) (map job hs) ws
all_did [] [] making plan job k same kept = tt
all_did [] (w ∷ ws) making plan job k same kept = absurd kept
all_did (h ∷ hs) [] making plan job k same kept = absurd kept
all_did (h ∷ hs) (w ∷ ws) making plan job k same kept = (subst (λ (x : PlanFacts). Did making x (job h) w) same.0 kept.0, all_did hs ws making plan job k same.1 kept.1)

-- what is left is nothing
pub all_of : {A B : Type 0} (f : A → B) (xs : List A) (rest all : List B) → length rest ≡ 0 → map f xs ++ rest ≡ all → map f xs ≡ all
all_of {B = B} f xs rest all none e = sym (append-nil (map f xs)) ∙ (ap (λ (ys : List B). map f xs ++ ys) (sym (nil_from_length rest none)) ∙ e)
