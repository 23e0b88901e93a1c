-- What a verdict on a list of events says of legal interleavings (JLS SE 8 12.4.2).
use Rattle.std.specs.Prelude.{◌≡◌, ℕ, length, List, [], ◌∷◌, ◌++◌, MatchOption, slice_get}
use Rattle.hierarchy.specs.declared.class.ClassId.{ClassId}
use Rattle.hierarchy.specs.LinkedProgram.{LinkedProgram}
use Rattle.statics.specs.Statics.{statics_of}
use Rattle.init_core.specs.declared.event.Event.{Event}
use Rattle.init_core.specs.Interleaving.{of_thread, of_class, IsLegal, BeginsLegal}
use Rattle.init_core.specs.Lawful.{AgreesWithLabels, HoldsAfter}
use Rattle.init_core.specs.ProcedureWord.{ThreadWord}
use Rattle.judge.specs.declared.verdict.Rule.{Rule}
use Rattle.judge.specs.declared.verdict.Rule.TheVariants as rule
use Rattle.judge.specs.declared.verdict.Verdict.{Verdict}
use Rattle.judge.specs.declared.verdict.Verdict.TheVariants as verdict

-- each thread's events are the beginning of a word of its main class, and no other thread does anything
abbrev pub ThreadsBegin : LinkedProgram → List ClassId → List Event → Type 0
ThreadsBegin p mains events = (t : ℕ) → MatchOption (slice_get mains t) (of_thread t events ≡ []) (λ m. (more : List Event) × ThreadWord p t m (of_thread t events ++ more))

-- each event agrees with the label of its class
abbrev pub LabelsAgree : List Event → Type 0
LabelsAgree events = (c : ClassId) → AgreesWithLabels (of_class c events)

-- each read of a static field gives what the field holds, each write is of a field of the class
abbrev pub ValuesHold : LinkedProgram → List Event → Type 0
ValuesHold p events = (c : ClassId) → HoldsAfter (statics_of p c) [] (of_class c events)

-- the first rule that these events break
abbrev pub Breaks : LinkedProgram → List ClassId → Rule → List Event → Type 0
Breaks p mains rule.Word events = ThreadsBegin p mains events → ⊥
Breaks p mains rule.Label events = ThreadsBegin p mains events × (LabelsAgree events → ⊥)
Breaks p mains rule.Value events = ThreadsBegin p mains events × LabelsAgree events × (ValuesHold p events → ⊥)
Breaks p mains rule.End events = ⊥

-- the verdict on a list of events of a program and these main classes
pub data IsVerdict (p : LinkedProgram) (mains : List ClassId) (events : List Event) : Verdict → Type 0 where
  -- it is a legal interleaving
  legal : IsLegal p mains events → IsVerdict p mains events verdict.Legal
  -- what comes before e is the beginning of one, with e it breaks a rule
  illegal_at : (before : List Event) (e : Event) (after : List Event) (r : Rule) → events ≡ before ++ e ∷ after → BeginsLegal p mains before → Breaks p mains r (before ++ e ∷ []) →
      IsVerdict p mains events (verdict.IllegalAt (length before) r)
  -- it is the beginning of one, but no whole one
  unfinished : BeginsLegal p mains events → (IsLegal p mains events → ⊥) → IsVerdict p mains events (verdict.IllegalAt (length events) rule.End)
