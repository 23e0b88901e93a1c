-- What the procedures of a thread have done since its last event: nothing.
use Rattle.std.proofs.Common.{◌≡◌, ◌≢◌, ℕ, List, [], ◌∷◌, Option, Some, None, true, false, refl, sym, ap, subst}
use Rattle.hierarchy.specs.declared.class.ClassId.{ClassId}
use Rattle.hierarchy.specs.LinkedProgram.{LinkedProgram}
use Rattle.init_core.specs.declared.event.Decision.{Decision}
use Rattle.init_core.specs.declared.event.Decision.TheVariants as decision
use Rattle.init_core.specs.declared.event.Event.{Event}
use Rattle.init_core.specs.declared.event.Kind.{Kind}
use Rattle.init_core.specs.declared.event.Kind.TheVariants as kind
use Rattle.init_core.specs.declared.frames.Completed.{Completed}
use Rattle.init_core.specs.declared.frames.Ending.TheVariants as ending
use Rattle.init_core.specs.declared.frames.Frame.{Frame}
use Rattle.init_core.specs.declared.frames.Outcome.{Outcome}
use Rattle.init_core.specs.declared.frames.Outcome.TheVariants.{Normal, Abrupt, Ended}
use Rattle.init_core.specs.declared.frames.Phase.{Phase}
use Rattle.init_core.specs.declared.frames.Phase.TheVariants.{Looking, Needing, Running, EndingBy}
use Rattle.init_core.specs.declared.procedure.Answer.TheVariants as answer
use Rattle.init_core.specs.Advance.{Advances, MayRequest, after_in, after_needs, after_word, step_2, step_3, step_4, step_5, step_6, still_step_2}
use Rattle.init_core.specs.Leads.{frame, standing}
use Rattle.init_core.specs.ProcedureWord.{IsUse, completed}
use Rattle.init_core.specs.Standing.{Standing}
use Rattle.init_core.proofs.Knowing.{AreOuter, AreOuterBelow, IsOuter}
use Rattle.bodies.proofs.Asking.{IsBodyAt, of_main, of_class}
use Rattle.replayer.specs.OrderedRun.{HasJustMade, IsOfBody}

same_phase : (f g : Frame) (fs gs : List Frame) → f ∷ fs ≡ g ∷ gs → f.phase ≡ g.phase
same_phase f g fs gs e = let same : f ≡ g = cc in ap (λ (x : Frame). x.phase) same

-- the innermost frame neither asks for its class nor is at its end
abbrev IsCalm : Phase → Type 0
IsCalm (Looking waited) = waited ≡ true
IsCalm (EndingBy j by_machine) = (e : ClassId) × (j ≡ ending.SuperFails e)
IsCalm phase = Unit {0}

calm_just : (k : Kind) (b : ClassId) (phase : Phase) (fs : List Frame) (last : Option Completed) → IsCalm phase → HasJustMade k (standing (frame b phase ∷ fs) last)
calm_just k b phase fs last calm = record {
  asked = λ c gs e may. not_asked (subst IsCalm (same_phase (frame b phase) (frame c (Looking false)) fs gs e) calm);
  over = λ c j m gs e. subst IsCalm (same_phase (frame b phase) (frame c (EndingBy j m)) fs gs e) calm;
  entered = λ e n. cc;
} where
  not_asked : false ≡ true → ⊥
  not_asked e = cc

-- a needed class was asked for by no body
needs_just : (k : Kind) (b : ClassId) (rest : List ClassId) (fs : List Frame) → HasJustMade k (after_needs b rest fs)
needs_just k b [] fs = calm_just k b (Running false) fs None tt
needs_just k b (d ∷ rest) fs = record {
  asked = λ c gs e may. (let same : frame b (Needing rest) ∷ fs ≡ gs = cc in absurd (subst MayRequest (sym same) may));
  over = λ c j m gs e. (let q : Looking false ≡ EndingBy j m = same_phase (frame d (Looking false)) (frame c (EndingBy j m)) (frame b (Needing rest) ∷ fs) gs e in absurd cc);
  entered = λ e n. cc;
}

in_just : (k : Kind) (phase : Phase) (b : ClassId) (fs : List Frame) (c : ClassId) (r : Outcome) → IsOuter phase → HasJustMade k (after_in phase b fs c r)
in_just k (Needing rest) b fs c Normal o = needs_just k b rest fs
in_just k (Needing rest) b fs c (Abrupt e) o = calm_just k b (EndingBy (ending.SuperFails e) false) fs None (e, refl)
in_just k (Needing rest) b fs c (Ended e) o = calm_just k b (EndingBy (ending.SuperFails e) true) fs None (e, refl)
in_just k (Running true) b fs c r o = calm_just k b (Running true) fs (Some (completed c r)) tt
in_just k (Running false) b fs c r o = absurd o
in_just k (Looking w) b fs c r o = absurd o
in_just k (EndingBy j e) b fs c r o = absurd o

-- the procedure for a class is completed
pub word_just : (k : Kind) (fs : List Frame) (c : ClassId) (r : Outcome) → AreOuter fs → HasJustMade k (after_word fs c r)
word_just k [] c r o = record { asked = λ d gs q may. cc; over = λ d j m gs q. cc; entered = λ q n. cc }
word_just k (f ∷ fs) c r o = in_just k f.phase f.class fs c r o.0

-- a look
pub looked_just : {p : LinkedProgram} {t : ℕ} {s z : Standing} {d : Decision} {made : List Event} (k : Kind) → Advances p t s (answer.Decided d) made z → d ≢ decision.Waits false → AreOuterBelow s.frames → HasJustMade k z
looked_just k (step_2 {c = c} {fs = fs}) n o = calm_just k c (Looking true) fs None refl
looked_just k still_step_2 n o = absurd (n refl)
looked_just k (step_3 {c = c} {fs = fs}) n o = word_just k fs c Normal o
looked_just k (step_4 {c = c} {fs = fs}) n o = word_just k fs c Normal o
looked_just k (step_5 {c = c} {fs = fs}) n o = word_just k fs c _ o
looked_just k (step_6 {c = c} {fs = fs}) n o = needs_just k c _ fs

-- step 9
pub begun_just : (c : ClassId) (fs : List Frame) → HasJustMade kind.Runs (standing (frame c (Running true) ∷ fs) None)
begun_just c fs = calm_just kind.Runs c (Running true) fs None tt

-- what a body makes
pub use_of_body : (k : Kind) → IsUse k → IsOfBody k
use_of_body (kind.Gets field value) is = tt
use_of_body (kind.Puts field value) is = tt
use_of_body kind.Waits is = absurd is
use_of_body kind.Recurs is = absurd is
use_of_body kind.FindsInitialized is = absurd is
use_of_body kind.FindsErroneous is = absurd is
use_of_body kind.Begins is = absurd is
use_of_body (kind.SuperFails e) is = absurd is
use_of_body kind.Runs is = absurd is
use_of_body kind.Completes is = absurd is
use_of_body (kind.Fails e) is = absurd is
use_of_body (kind.Prints text) is = tt

pub body_just : (k : Kind) (fs : List Frame) → IsBodyAt fs → IsOfBody k → HasJustMade k (standing fs None)
body_just k [] of_main own = record { asked = λ d gs q may. cc; over = λ d j m gs q. cc; entered = λ q n. own }
body_just k (f ∷ fs) (of_class c gs) own = calm_just k c (Running true) gs None tt
