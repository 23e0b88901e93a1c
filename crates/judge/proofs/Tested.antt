-- What the code tests is what `Reads` says: an event may come next exactly where it is read, and leads where the code goes.
use Rattle.std.proofs.Common.{◌≡◌, ℕ, List, [], ◌∷◌, Option, Some, None, Bool, true, false, refl, sym, subst, ◌∙◌}
use Rattle.hierarchy.specs.declared.class.ClassId.{ClassId}
use Rattle.hierarchy.specs.LinkedProgram.{LinkedProgram}
use Rattle.init_core.specs.declared.event.Event.{Event}
use Rattle.init_core.specs.declared.event.Kind.{Kind}
use Rattle.init_core.specs.declared.event.Kind.TheVariants as kind
use Rattle.init_core.specs.declared.frames.Completed.{Completed}
use Rattle.init_core.specs.declared.frames.Ending.{Ending}
use Rattle.init_core.specs.declared.frames.Ending.TheVariants as ending
use Rattle.init_core.specs.declared.frames.Frame.{Frame}
use Rattle.init_core.specs.declared.frames.Outcome.{Outcome}
use Rattle.init_core.specs.declared.frames.Outcome.TheVariants.{Normal, Abrupt, Ended}
use Rattle.init_core.specs.declared.frames.Phase.{Phase}
use Rattle.init_core.specs.declared.frames.Phase.TheVariants.{Looking, Needing, Running, EndingBy}
use Rattle.init_core.specs.Decisions.{event}
use Rattle.init_core.specs.Leads.{frame, standing, outcome_of}
use Rattle.init_core.specs.Advance.{after_word}
use Rattle.init_core.specs.ProcedureWord.{GoesOn, IsOfFiles, IsUse, completed, given_up}
use Rattle.init_core.specs.Standing.{Standing}
use Rattle.judge.specs.NextEvent.{MayLook, look_to, MayGoOn, item_to, MayEndAround, MayBeUnanswered, unanswered_to, MayAnswer, answer_to, MayRun, run_to, MayEndBody, MayBeInBody, body_to, MayEnd, MayBeInMain, MayInPhase, phase_to, MayRead, read_to, begun_after}
use Rattle.judge.specs.Reading.{made_by, Looks, waits, recurs, finds_initialized, finds_erroneous, begins, GoesOnBy, requests, uses, prints, Reads, looks, need_unanswered, body_unanswered, runs, lacks_memory, goes_on, completes, fails, is_ended, super_fails, main_begins, main_goes_on}

module _ (p : LinkedProgram) (t : ℕ) where
  -- ---- what is tested is read

  look_reads : (fs : List Frame) (c : ClassId) (w : Bool) (k : Kind) → MayLook w k → Looks p fs w c k (look_to p c fs k)
  look_reads fs c false kind.Waits m = waits
  look_reads fs c true kind.Waits m = cc
  look_reads fs c w kind.Recurs m = recurs
  look_reads fs c w kind.FindsInitialized m = finds_initialized
  look_reads fs c w kind.FindsErroneous m = finds_erroneous
  look_reads fs c w kind.Begins m = begins
  look_reads fs c w (kind.SuperFails e) m = absurd m
  look_reads fs c w kind.Runs m = absurd m
  look_reads fs c w kind.Completes m = absurd m
  look_reads fs c w (kind.Fails e) m = absurd m
  look_reads fs c w (kind.Gets place value) m = absurd m
  look_reads fs c w (kind.Puts place value) m = absurd m
  look_reads fs c w (kind.Prints text) m = absurd m

  use_reads : (frames : List Frame) (last : Option Completed) (c : ClassId) (k : Kind) → IsUse k → last ≡ Some (completed c Normal) → GoesOnBy p t frames last (event t c k) (standing frames None)
  use_reads frames last c k u q = subst (λ d. GoesOnBy p t frames d (event t c k) (standing frames None)) (sym q) (uses u)

  item_reads : (frames : List Frame) (last : Option Completed) (o : Option ClassId) (k : Kind) → MayGoOn p last o k → GoesOnBy p t frames last (made_by t o k) (item_to p frames o k)
  item_reads frames last None kind.Waits m = absurd m
  item_reads frames last None kind.Recurs m = absurd m
  item_reads frames last None kind.FindsInitialized m = absurd m
  item_reads frames last None kind.FindsErroneous m = absurd m
  item_reads frames last None kind.Begins m = absurd m
  item_reads frames last None (kind.SuperFails e) m = absurd m
  item_reads frames last None kind.Runs m = absurd m
  item_reads frames last None kind.Completes m = absurd m
  item_reads frames last None (kind.Fails e) m = absurd m
  item_reads frames last None (kind.Gets place value) m = absurd m
  item_reads frames last None (kind.Puts place value) m = absurd m
  item_reads frames last None (kind.Prints text) m = prints
  item_reads frames last (Some c) kind.Waits m = requests m.0 (look_reads frames c false kind.Waits m.1)
  item_reads frames last (Some c) kind.Recurs m = requests m.0 (look_reads frames c false kind.Recurs m.1)
  item_reads frames last (Some c) kind.FindsInitialized m = requests m.0 (look_reads frames c false kind.FindsInitialized m.1)
  item_reads frames last (Some c) kind.FindsErroneous m = requests m.0 (look_reads frames c false kind.FindsErroneous m.1)
  item_reads frames last (Some c) kind.Begins m = requests m.0 (look_reads frames c false kind.Begins m.1)
  item_reads frames last (Some c) (kind.SuperFails e) m = absurd m.1
  item_reads frames last (Some c) kind.Runs m = absurd m.1
  item_reads frames last (Some c) kind.Completes m = absurd m.1
  item_reads frames last (Some c) (kind.Fails e) m = absurd m.1
  item_reads frames last (Some c) (kind.Gets place value) m = use_reads frames last c (kind.Gets place value) tt m
  item_reads frames last (Some c) (kind.Puts place value) m = use_reads frames last c (kind.Puts place value) tt m
  item_reads frames last (Some c) (kind.Prints text) m = absurd m.1

  -- an event of a class that is of this one
  of_this : (a b : Bool) (s u : Standing) (o : Option ClassId) (c : ClassId) (k : Kind) → o ≡ Some c → Reads p t a s (event t c k) b u → Reads p t a s (made_by t o k) b u
  of_this a b s u o c k q r = subst (λ d. Reads p t a s (made_by t d k) b u) (sym q) r

  need_reads : (a w : Bool) (fs : List Frame) (last : Option Completed) (c : ClassId) (o : Option ClassId) (e : ClassId) → MayBeUnanswered p fs o (kind.SuperFails e) → Reads p t a (standing (frame c (Looking w) ∷ fs) last) (made_by t o (kind.SuperFails e)) a (unanswered_to fs e)
  need_reads a w [] last c o e m = absurd m
  need_reads a w (f ∷ gs) last c o e m = at f.phase f.class m
    where
      at : (phase : Phase) (d : ClassId) → MayEndAround p phase d o (kind.SuperFails e) → Reads p t a (standing (frame c (Looking w) ∷ (frame d phase ∷ gs)) last) (made_by t o (kind.SuperFails e)) a (after_word gs d (Ended e))
      at (Needing rest) d x = of_this a a (standing (frame c (Looking w) ∷ (frame d (Needing rest) ∷ gs)) last) (after_word gs d (Ended e)) o d (kind.SuperFails e) x.0 (need_unanswered x.1)
      at (Looking v) d x = absurd x
      at (Running true) d x = absurd x
      at (Running false) d x = absurd x
      at (EndingBy y z) d x = absurd x

  request_reads : (a w : Bool) (fs : List Frame) (last : Option Completed) (c : ClassId) (o : Option ClassId) (e : ClassId) → MayBeUnanswered p fs o (kind.Fails e) → Reads p t a (standing (frame c (Looking w) ∷ fs) last) (made_by t o (kind.Fails e)) a (unanswered_to fs e)
  request_reads a w [] last c o e m = absurd m
  request_reads a w (f ∷ gs) last c o e m = at f.phase f.class m
    where
      at : (phase : Phase) (d : ClassId) → MayEndAround p phase d o (kind.Fails e) → Reads p t a (standing (frame c (Looking w) ∷ (frame d phase ∷ gs)) last) (made_by t o (kind.Fails e)) a (after_word gs d (Ended e))
      at (Running true) d x = of_this a a (standing (frame c (Looking w) ∷ (frame d (Running true) ∷ gs)) last) (after_word gs d (Ended e)) o d (kind.Fails e) x.0 (body_unanswered x.1)
      at (Needing rest) d x = absurd x
      at (Looking v) d x = absurd x
      at (Running false) d x = absurd x
      at (EndingBy y z) d x = absurd x

  answer_reads : (a w : Bool) (fs : List Frame) (last : Option Completed) (c : ClassId) (o : Option ClassId) (k : Kind) → MayAnswer p w c fs o k → Reads p t a (standing (frame c (Looking w) ∷ fs) last) (made_by t o k) a (answer_to p c fs k)
  answer_reads a w fs last c o (kind.SuperFails e) m = need_reads a w fs last c o e m
  answer_reads a w fs last c o (kind.Fails e) m = request_reads a w fs last c o e m
  answer_reads a w fs last c o kind.Waits m = of_this a a (standing (frame c (Looking w) ∷ fs) last) (look_to p c fs kind.Waits) o c kind.Waits m.0 (looks (look_reads fs c w kind.Waits m.1))
  answer_reads a w fs last c o kind.Recurs m = of_this a a (standing (frame c (Looking w) ∷ fs) last) (look_to p c fs kind.Recurs) o c kind.Recurs m.0 (looks (look_reads fs c w kind.Recurs m.1))
  answer_reads a w fs last c o kind.FindsInitialized m = of_this a a (standing (frame c (Looking w) ∷ fs) last) (look_to p c fs kind.FindsInitialized) o c kind.FindsInitialized m.0 (looks (look_reads fs c w kind.FindsInitialized m.1))
  answer_reads a w fs last c o kind.FindsErroneous m = of_this a a (standing (frame c (Looking w) ∷ fs) last) (look_to p c fs kind.FindsErroneous) o c kind.FindsErroneous m.0 (looks (look_reads fs c w kind.FindsErroneous m.1))
  answer_reads a w fs last c o kind.Begins m = of_this a a (standing (frame c (Looking w) ∷ fs) last) (look_to p c fs kind.Begins) o c kind.Begins m.0 (looks (look_reads fs c w kind.Begins m.1))
  answer_reads a w fs last c o kind.Runs m = absurd m.1
  answer_reads a w fs last c o kind.Completes m = absurd m.1
  answer_reads a w fs last c o (kind.Gets place value) m = absurd m.1
  answer_reads a w fs last c o (kind.Puts place value) m = absurd m.1
  answer_reads a w fs last c o (kind.Prints text) m = absurd m.1

  run_reads : (a : Bool) (fs : List Frame) (last : Option Completed) (c : ClassId) (o : Option ClassId) (k : Kind) → MayRun p c o k → Reads p t a (standing (frame c (Running false) ∷ fs) last) (made_by t o k) a (run_to c fs k)
  run_reads a fs last c o kind.Runs m = of_this a a (standing (frame c (Running false) ∷ fs) last) (standing (frame c (Running true) ∷ fs) None) o c kind.Runs m runs
  run_reads a fs last c o (kind.SuperFails e) m =
      of_this a a (standing (frame c (Running false) ∷ fs) last) (after_word fs c (Ended e)) o c (kind.SuperFails e) m.0 (subst (λ d. Reads p t a (standing (frame c (Running false) ∷ fs) last) (event t c (kind.SuperFails d)) a (after_word fs c (Ended d))) (sym m.1) lacks_memory)
  run_reads a fs last c o kind.Waits m = absurd m
  run_reads a fs last c o kind.Recurs m = absurd m
  run_reads a fs last c o kind.FindsInitialized m = absurd m
  run_reads a fs last c o kind.FindsErroneous m = absurd m
  run_reads a fs last c o kind.Begins m = absurd m
  run_reads a fs last c o kind.Completes m = absurd m
  run_reads a fs last c o (kind.Fails e) m = absurd m
  run_reads a fs last c o (kind.Gets place value) m = absurd m
  run_reads a fs last c o (kind.Puts place value) m = absurd m
  run_reads a fs last c o (kind.Prints text) m = absurd m

  ended_reads : (a : Bool) (by : ClassId) (fs : List Frame) (last : Option Completed) (c : ClassId) (o : Option ClassId) (k : Kind) → given_up last ≡ Some by → MayEndBody by c o k → Reads p t a (standing (frame c (Running true) ∷ fs) last) (made_by t o k) a (after_word fs c (Ended by))
  ended_reads a by fs last c o (kind.Fails e) g m =
      of_this a a (standing (frame c (Running true) ∷ fs) last) (after_word fs c (Ended by)) o c (kind.Fails e) m.0 (subst (λ d. Reads p t a (standing (frame c (Running true) ∷ fs) last) (event t c (kind.Fails d)) a (after_word fs c (Ended by))) (sym m.1) (is_ended g))
  ended_reads a by fs last c o kind.Waits g m = absurd m
  ended_reads a by fs last c o kind.Recurs g m = absurd m
  ended_reads a by fs last c o kind.FindsInitialized g m = absurd m
  ended_reads a by fs last c o kind.FindsErroneous g m = absurd m
  ended_reads a by fs last c o kind.Begins g m = absurd m
  ended_reads a by fs last c o (kind.SuperFails e) g m = absurd m
  ended_reads a by fs last c o kind.Runs g m = absurd m
  ended_reads a by fs last c o kind.Completes g m = absurd m
  ended_reads a by fs last c o (kind.Gets place value) g m = absurd m
  ended_reads a by fs last c o (kind.Puts place value) g m = absurd m
  ended_reads a by fs last c o (kind.Prints text) g m = absurd m

  body_reads : (a : Bool) (gone : Option ClassId) (fs : List Frame) (last : Option Completed) (c : ClassId) (o : Option ClassId) (k : Kind) → given_up last ≡ gone → MayBeInBody p gone c last o k → Reads p t a (standing (frame c (Running true) ∷ fs) last) (made_by t o k) a (body_to p gone c fs o k)
  body_reads a (Some by) fs last c o k g m = ended_reads a by fs last c o k g m
  body_reads a None fs last c o kind.Completes g m = of_this a a (standing (frame c (Running true) ∷ fs) last) (after_word fs c Normal) o c kind.Completes m (completes g)
  body_reads a None fs last c o (kind.Fails e) g m = of_this a a (standing (frame c (Running true) ∷ fs) last) (after_word fs c (Abrupt e)) o c (kind.Fails e) m.0 (fails g m.1)
  body_reads a None fs last c o kind.Waits g m = goes_on g (item_reads (frame c (Running true) ∷ fs) last o kind.Waits m)
  body_reads a None fs last c o kind.Recurs g m = goes_on g (item_reads (frame c (Running true) ∷ fs) last o kind.Recurs m)
  body_reads a None fs last c o kind.FindsInitialized g m = goes_on g (item_reads (frame c (Running true) ∷ fs) last o kind.FindsInitialized m)
  body_reads a None fs last c o kind.FindsErroneous g m = goes_on g (item_reads (frame c (Running true) ∷ fs) last o kind.FindsErroneous m)
  body_reads a None fs last c o kind.Begins g m = goes_on g (item_reads (frame c (Running true) ∷ fs) last o kind.Begins m)
  body_reads a None fs last c o (kind.SuperFails e) g m = goes_on g (item_reads (frame c (Running true) ∷ fs) last o (kind.SuperFails e) m)
  body_reads a None fs last c o kind.Runs g m = goes_on g (item_reads (frame c (Running true) ∷ fs) last o kind.Runs m)
  body_reads a None fs last c o (kind.Gets place value) g m = goes_on g (item_reads (frame c (Running true) ∷ fs) last o (kind.Gets place value) m)
  body_reads a None fs last c o (kind.Puts place value) g m = goes_on g (item_reads (frame c (Running true) ∷ fs) last o (kind.Puts place value) m)
  body_reads a None fs last c o (kind.Prints text) g m = goes_on g (item_reads (frame c (Running true) ∷ fs) last o (kind.Prints text) m)

  end_reads : (a by_machine : Bool) (x : Ending) (fs : List Frame) (last : Option Completed) (c : ClassId) (o : Option ClassId) (k : Kind) → MayEnd x c o k → Reads p t a (standing (frame c (EndingBy x by_machine) ∷ fs) last) (made_by t o k) a (after_word fs c (outcome_of x by_machine))
  end_reads a by_machine (ending.SuperFails d) fs last c o (kind.SuperFails e) m =
      of_this a a (standing (frame c (EndingBy (ending.SuperFails d) by_machine) ∷ fs) last) (after_word fs c (outcome_of (ending.SuperFails d) by_machine)) o c (kind.SuperFails e) m.0
      (subst (λ z. Reads p t a (standing (frame c (EndingBy (ending.SuperFails d) by_machine) ∷ fs) last) (event t c (kind.SuperFails z)) a (after_word fs c (outcome_of (ending.SuperFails d) by_machine))) (sym m.1) super_fails)
  end_reads a by_machine (ending.SuperFails d) fs last c o kind.Waits m = absurd m
  end_reads a by_machine (ending.SuperFails d) fs last c o kind.Recurs m = absurd m
  end_reads a by_machine (ending.SuperFails d) fs last c o kind.FindsInitialized m = absurd m
  end_reads a by_machine (ending.SuperFails d) fs last c o kind.FindsErroneous m = absurd m
  end_reads a by_machine (ending.SuperFails d) fs last c o kind.Begins m = absurd m
  end_reads a by_machine (ending.SuperFails d) fs last c o kind.Runs m = absurd m
  end_reads a by_machine (ending.SuperFails d) fs last c o kind.Completes m = absurd m
  end_reads a by_machine (ending.SuperFails d) fs last c o (kind.Fails e) m = absurd m
  end_reads a by_machine (ending.SuperFails d) fs last c o (kind.Gets place value) m = absurd m
  end_reads a by_machine (ending.SuperFails d) fs last c o (kind.Puts place value) m = absurd m
  end_reads a by_machine (ending.SuperFails d) fs last c o (kind.Prints text) m = absurd m
  end_reads a by_machine ending.Completes fs last c o k m = absurd m
  end_reads a by_machine (ending.Fails d) fs last c o k m = absurd m

  first_reads : (c : ClassId) (r : Outcome) (e : Event) (s : Standing) → r ≡ Normal → GoesOnBy p t [] None e s → Reads p t false (standing [] (Some (completed c r))) e true s
  first_reads c Normal e s q g = main_begins g
  first_reads c (Abrupt x) e s q g = cc
  first_reads c (Ended x) e s q g = cc

  main_reads : (a : Bool) (last : Option Completed) (o : Option ClassId) (k : Kind) → MayBeInMain p a last o k → Reads p t a (standing [] last) (made_by t o k) true (item_to p [] o k)
  main_reads true last o k m = main_goes_on m.0 (item_reads [] last o k m.1)
  main_reads false None o k m = absurd m
  main_reads false (Some d) o k m = first_reads d.class d.outcome (made_by t o k) (item_to p [] o k) m.0 (item_reads [] None o k m.1)

  phase_reads : (a : Bool) (phase : Phase) (c : ClassId) (fs : List Frame) (last : Option Completed) (o : Option ClassId) (k : Kind) → MayInPhase p phase c fs last o k → Reads p t a (standing (frame c phase ∷ fs) last) (made_by t o k) a (phase_to p phase c fs last o k)
  phase_reads a (Looking w) c fs last o k m = answer_reads a w fs last c o k m
  phase_reads a (Needing rest) c fs last o k m = absurd m
  phase_reads a (Running false) c fs last o k m = run_reads a fs last c o k m
  phase_reads a (Running true) c fs last o k m = body_reads a (given_up last) fs last c o k refl m
  phase_reads a (EndingBy x by_machine) c fs last o k m = end_reads a by_machine x fs last c o k m

  pub reads : (a : Bool) (frames : List Frame) (last : Option Completed) (o : Option ClassId) (k : Kind) → MayRead p a frames last o k → Reads p t a (standing frames last) (made_by t o k) (begun_after a frames) (read_to p frames last o k)
  reads a [] last o k m = main_reads a last o k m
  reads a (f ∷ fs) last o k m = phase_reads a f.phase f.class fs last o k m

  -- ---- what is read is tested

  look_tested : {fs : List Frame} {w : Bool} {c : ClassId} {k : Kind} {s : Standing} → Looks p fs w c k s → MayAnswer p w c fs (Some c) k × (s ≡ answer_to p c fs k)
  look_tested waits = ((refl, refl), refl)
  look_tested recurs = ((refl, tt), refl)
  look_tested finds_initialized = ((refl, tt), refl)
  look_tested finds_erroneous = ((refl, tt), refl)
  look_tested begins = ((refl, tt), refl)

  request_tested : {frames : List Frame} {c : ClassId} {k : Kind} {s : Standing} (last : Option Completed) → IsOfFiles p c → Looks p frames false c k s → MayGoOn p last (Some c) k × (s ≡ item_to p frames (Some c) k)
  request_tested last i waits = ((i, refl), refl)
  request_tested last i recurs = ((i, tt), refl)
  request_tested last i finds_initialized = ((i, tt), refl)
  request_tested last i finds_erroneous = ((i, tt), refl)
  request_tested last i begins = ((i, tt), refl)

  use_tested : (frames : List Frame) (c : ClassId) (k : Kind) → IsUse k → MayGoOn p (Some (completed c Normal)) (Some c) k × (standing frames None ≡ item_to p frames (Some c) k)
  use_tested frames c kind.Waits u = absurd u
  use_tested frames c kind.Recurs u = absurd u
  use_tested frames c kind.FindsInitialized u = absurd u
  use_tested frames c kind.FindsErroneous u = absurd u
  use_tested frames c kind.Begins u = absurd u
  use_tested frames c (kind.SuperFails e) u = absurd u
  use_tested frames c kind.Runs u = absurd u
  use_tested frames c kind.Completes u = absurd u
  use_tested frames c (kind.Fails e) u = absurd u
  use_tested frames c (kind.Gets place value) u = (refl, refl)
  use_tested frames c (kind.Puts place value) u = (refl, refl)
  use_tested frames c (kind.Prints text) u = absurd u

  item_tested : {frames : List Frame} {last : Option Completed} {e : Event} {s : Standing} → GoesOnBy p t frames last e s → MayGoOn p last e.class e.kind × (s ≡ item_to p frames e.class e.kind)
  item_tested {last = last} (requests i l) = request_tested last i l
  item_tested {frames} (uses {c = c} {k = k} u) = use_tested frames c k u
  item_tested prints = (tt, refl)

  goes_on_tested : (b : ClassId) (fs : List Frame) (last : Option Completed) (s : Standing) (o : Option ClassId) (k : Kind) → MayGoOn p last o k → s ≡ item_to p (frame b (Running true) ∷ fs) o k → MayBeInBody p None b last o k × (s ≡ body_to p None b fs o k)
  goes_on_tested b fs last s o kind.Waits m q = (m, q)
  goes_on_tested b fs last s o kind.Recurs m q = (m, q)
  goes_on_tested b fs last s o kind.FindsInitialized m q = (m, q)
  goes_on_tested b fs last s o kind.FindsErroneous m q = (m, q)
  goes_on_tested b fs last s o kind.Begins m q = (m, q)
  goes_on_tested b fs last s o (kind.SuperFails e) m q = (m, q)
  goes_on_tested b fs last s o kind.Runs m q = (m, q)
  goes_on_tested b fs last s None kind.Completes m q = absurd m
  goes_on_tested b fs last s (Some c) kind.Completes m q = absurd m.1
  goes_on_tested b fs last s None (kind.Fails e) m q = absurd m
  goes_on_tested b fs last s (Some c) (kind.Fails e) m q = absurd m.1
  goes_on_tested b fs last s o (kind.Gets place value) m q = (m, q)
  goes_on_tested b fs last s o (kind.Puts place value) m q = (m, q)
  goes_on_tested b fs last s o (kind.Prints text) m q = (m, q)

  -- what is so of a body that goes on
  live : (b : ClassId) (fs : List Frame) (last : Option Completed) (s : Standing) (o : Option ClassId) (k : Kind) → GoesOn last → MayBeInBody p None b last o k × (s ≡ body_to p None b fs o k) → MayBeInBody p (given_up last) b last o k × (s ≡ body_to p (given_up last) b fs o k)
  live b fs last s o k on h = subst (λ g. MayBeInBody p g b last o k × (s ≡ body_to p g b fs o k)) (sym on) h

  -- what is read may come next, and leads where the code goes
  abbrev pub IsTested : Bool → Standing → Event → Bool → Standing → Type 0
  IsTested a s e b u = MayRead p a s.frames s.last e.class e.kind × (b ≡ begun_after a s.frames) × (u ≡ read_to p s.frames s.last e.class e.kind)

  pub tested : {a b : Bool} {s u : Standing} {e : Event} → Reads p t a s e b u → IsTested a s e b u
  tested (looks l) = let h = look_tested l in (h.0, refl, h.1)
  tested (need_unanswered m) = ((refl, m), refl, refl)
  tested (body_unanswered m) = ((refl, m), refl, refl)
  tested runs = (refl, refl, refl)
  tested lacks_memory = ((refl, refl), refl, refl)
  tested (goes_on {fs = fs} {last = last} {c = b} {e = e} {s = s} on g) = let h = item_tested g in let k = live b fs last s e.class e.kind on (goes_on_tested b fs last s e.class e.kind h.0 h.1) in (k.0, refl, k.1)
  tested (completes {fs = fs} {last = last} {c = c} on) = let h = live c fs last (after_word fs c Normal) (Some c) kind.Completes on (refl, refl) in (h.0, refl, h.1)
  tested (fails {fs = fs} {last = last} {c = c} {e = e} on x) = let h = live c fs last (after_word fs c (Abrupt e)) (Some c) (kind.Fails e) on ((refl, x), refl) in (h.0, refl, h.1)
  tested (is_ended {fs = fs} {last = last} {c = c} {e = e} x) =
      let P : Option ClassId → Type 0 = λ g. MayBeInBody p g c last (Some c) (kind.Fails e) × (after_word fs c (Ended e) ≡ body_to p g c fs (Some c) (kind.Fails e)) in
      let start : P (Some e) = ((refl, refl), refl) in
      let h = subst P (sym x) start in
      (h.0, refl, h.1)
  tested super_fails = ((refl, refl), refl, refl)
  tested (main_begins g) = let h = item_tested g in ((refl, h.0), refl, h.1)
  tested (main_goes_on on g) = let h = item_tested g in ((on, h.0), refl, h.1)

  pub once : {a b c : Bool} {s u v : Standing} {e : Event} → Reads p t a s e b u → Reads p t a s e c v → (b ≡ c) × (u ≡ v)
  once x y = let g = tested x in let h = tested y in (g.1 ∙ sym h.1, g.2 ∙ sym h.2)
