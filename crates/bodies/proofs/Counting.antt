-- What an answer leaves of how many classes are begun, of the error by which the machine ends the thread, and of what was
-- completed last.
use Rattle.std.proofs.Common.{◌≡◌, ◌≢◌, ℕ, suc, ◌+◌, ◌≤◌, ◌⊎◌, inl, inr, List, [], ◌∷◌, Some, None, length, refl, sym, ap, ◌∙◌, arith}
use Rattle.hierarchy.specs.declared.built_in.BuiltIn.TheVariants.{NoClassDefFoundError}
use Rattle.hierarchy.specs.declared.class.ClassId.{ClassId}
use Rattle.hierarchy.specs.LinkedProgram.{LinkedProgram, built_in}
use Rattle.init_core.specs.Needs.{needs}
use Rattle.init_core.specs.declared.event.Event.{Event}
use Rattle.init_core.specs.declared.frames.Frame.{Frame}
use Rattle.init_core.specs.declared.frames.Outcome.{Outcome}
use Rattle.init_core.specs.declared.frames.Outcome.TheVariants.{Normal, Abrupt, Ended}
use Rattle.init_core.specs.declared.frames.Phase.{Phase}
use Rattle.init_core.specs.declared.frames.Phase.TheVariants.{Looking, Needing, Running, EndingBy}
use Rattle.init_core.specs.declared.procedure.Answer.{Answer}
use Rattle.init_core.specs.declared.procedure.Answer.TheVariants as answer
use Rattle.init_core.specs.Advance.{Advances, step_2, still_step_2, step_3, step_4, step_5, step_6, leaves_body, ends_class, gives_up_look, gives_up_begun, gives_up_body, after_in, after_needs, after_word}
use Rattle.init_core.specs.Leads.{outcome_of}
use Rattle.init_core.specs.Standing.{Standing}
use Rattle.init_core.specs.Stands.{begun_classes, ending_error}
use Rattle.init_core.proofs.Knowing.{AreOuterBelow, needs_begun, word_begun, word_error}

-- by this error an answer says that the machine ends the thread
abbrev pub Ends : Answer → ClassId → Type 0
Ends (answer.BodyEnded (Ended x)) e = x ≡ e
Ends (answer.GaveUp x begun) e = x ≡ e
Ends a e = ⊥

needs_last : (b : ClassId) (rest : List ClassId) (fs : List Frame) → (after_needs b rest fs).frames ≡ [] → (after_needs b rest fs).last ≢ None
needs_last b [] fs e = cc
needs_last b (d ∷ rest) fs e = cc

in_last : (phase : Phase) (b : ClassId) (fs : List Frame) (c : ClassId) (r : Outcome) → (after_in phase b fs c r).frames ≡ [] → (after_in phase b fs c r).last ≢ None
in_last (Needing rest) b fs c Normal e = needs_last b rest fs e
in_last (Needing rest) b fs c (Abrupt x) e = cc
in_last (Needing rest) b fs c (Ended x) e = cc
in_last (Running ran) b fs c r e = cc
in_last (Looking w) b fs c r e = cc
in_last (EndingBy k m) b fs c r e = cc

word_last : (fs : List Frame) (c : ClassId) (r : Outcome) → (after_word fs c r).frames ≡ [] → (after_word fs c r).last ≢ None
word_last [] c r e = λ q. cc
word_last (f ∷ fs) c r e = in_last f.phase f.class fs c r e

needs_no_error : (b : ClassId) (rest : List ClassId) (fs : List Frame) → ending_error (after_needs b rest fs) ≡ None
needs_no_error b [] fs = refl
needs_no_error b (d ∷ rest) fs = refl

module _ (p : LinkedProgram) (t : ℕ) where
  -- something was completed, where no class is open
  pub has_last : {s z : Standing} {a : Answer} {made : List Event} → Advances p t s a made z → z.frames ≡ [] → z.last ≢ None
  has_last step_2 e = cc
  has_last still_step_2 e = cc
  has_last (step_3 {c = c} {fs = fs}) e = word_last fs c Normal e
  has_last (step_4 {c = c} {fs = fs}) e = word_last fs c Normal e
  has_last (step_5 {c = c} {fs = fs}) e = word_last fs c _ e
  has_last (step_6 {c = c} {fs = fs}) e = needs_last c (needs p c) fs e
  has_last (leaves_body fits) e = cc
  has_last (ends_class {c = c} {fs = fs} {k = k} {by_machine = m}) e = word_last fs c (outcome_of k m) e
  has_last (gives_up_look {c = c} {fs = fs} machine) e = word_last fs c _ e
  has_last gives_up_begun e = cc
  has_last gives_up_body e = cc

  -- an answer begins no more classes than it adds events
  pub few_more : {s z : Standing} {a : Answer} {made : List Event} → Advances p t s a made z → AreOuterBelow s.frames → length (begun_classes z.frames) ≤ length (begun_classes s.frames) + length made
  few_more step_2 n = omega arith
  few_more still_step_2 n = omega arith
  few_more (step_3 {c = c} {fs = fs}) n = let e = ap length (word_begun fs c Normal n) in omega arith
  few_more (step_4 {c = c} {fs = fs}) n = let e = ap length (word_begun fs c Normal n) in omega arith
  few_more (step_5 {c = c} {fs = fs}) n = let e = ap length (word_begun fs c (Abrupt (built_in p NoClassDefFoundError)) n) in omega arith
  few_more (step_6 {c = c} {fs = fs}) n = let e = ap length (needs_begun c (needs p c) fs) in omega arith
  few_more (leaves_body fits) n = omega arith
  few_more (ends_class {c = c} {fs = fs} {k = k} {by_machine = m}) n = let e = ap length (word_begun fs c (outcome_of k m) n) in omega arith
  few_more (gives_up_look {c = c} {e = x} {fs = fs} machine) n = let e = ap length (word_begun fs c (Ended x) n) in omega arith
  few_more gives_up_begun n = omega arith
  few_more gives_up_body n = omega arith

  -- the step that ends a class ends one
  pub one_less : {s z : Standing} {made : List Event} → Advances p t s answer.Ended made z → AreOuterBelow s.frames → suc (length (begun_classes z.frames)) ≡ length (begun_classes s.frames)
  one_less (ends_class {c = c} {fs = fs} {k = k} {by_machine = m}) n = ap (λ (cs : List ClassId). suc (length cs)) (word_begun fs c (outcome_of k m) n)

  none_ends : (s : Standing) → ending_error s ≡ None → {A : Type 0} {e : ClassId} → ending_error s ≡ Some e → A
  none_ends s n q = absurd (let z : None ≡ Some _ = sym n ∙ q in cc)

  -- the machine ends the thread by the error by which it did so before, or as the answer says
  pub error_after : {s z : Standing} {a : Answer} {made : List Event} → Advances p t s a made z → AreOuterBelow s.frames → (e : ClassId) → ending_error z ≡ Some e → (ending_error s ≡ Some e) ⊎ Ends a e
  error_after step_2 n e q = cc
  error_after still_step_2 n e q = cc
  error_after (step_3 {c = c} {fs = fs}) n e q = none_ends (after_word fs c Normal) (word_error fs c Normal n) q
  error_after (step_4 {c = c} {fs = fs}) n e q = none_ends (after_word fs c Normal) (word_error fs c Normal n) q
  error_after (step_5 {c = c} {fs = fs}) n e q = none_ends (after_word fs c _) (word_error fs c (Abrupt (built_in p NoClassDefFoundError)) n) q
  error_after (step_6 {c = c} {fs = fs}) n e q = none_ends (after_needs c (needs p c) fs) (needs_no_error c (needs p c) fs) q
  error_after (leaves_body {r = Normal} fits) n e q = cc
  error_after (leaves_body {r = Abrupt x} fits) n e q = cc
  error_after (leaves_body {r = Ended x} fits) n e q = inr cc
  error_after (ends_class {c = c} {fs = fs} {k = k} {by_machine = m}) n e q = inl (sym (word_error fs c (outcome_of k m) n) ∙ q)
  error_after (gives_up_look {c = c} {e = x} {fs = fs} machine) n e q = inr (let z : Some x ≡ Some e = sym (word_error fs c (Ended x) n) ∙ q in cc)
  error_after gives_up_begun n e q = inr cc
  error_after gives_up_body n e q = inr cc
