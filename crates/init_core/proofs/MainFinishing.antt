-- What a thread of a main class has done so far can be finished by endings of classes alone.
use Rattle.std.proofs.Common.{◌≡◌, ℕ, List, ◌++◌, Option, Some, None, false, refl, inl}
use Rattle.hierarchy.specs.declared.class.ClassId.{ClassId}
use Rattle.hierarchy.specs.declared.built_in.BuiltIn.TheVariants.{InternalError}
use Rattle.hierarchy.specs.LinkedProgram.{LinkedProgram, built_in}
use Rattle.init_core.specs.declared.event.Event.{Event}
use Rattle.init_core.specs.declared.frames.Completed.{Completed}
use Rattle.init_core.specs.declared.frames.Outcome.{Outcome}
use Rattle.init_core.specs.declared.frames.Outcome.TheVariants.{Normal, Abrupt, Ended}
use Rattle.init_core.specs.ProcedureWord.{free, word, gives_up, Items, Body, stops, ThreadWord, ran, threw, was_ended, given_up}
use Rattle.init_core.specs.MainWord.{MainDone, nothing, main_done, BeforeMain, MainItems, main_items, BeforeItem, BeginsMain, in_procedure, in_body}
use Rattle.init_core.proofs.Forgetting.{ProcedureWord}
use Rattle.init_core.proofs.Leading.{body_stops}
use Rattle.init_core.proofs.Mains.{goes_main, goes_item, thread_word}
use Rattle.init_core.specs.LegalSoFar.{AreEndings}
use Rattle.init_core.proofs.Finishing.{can_finish}

module _ (p : LinkedProgram) (t : ℕ) (m : ClassId) where
  by_result : (r : Outcome) {w : List Event} → ProcedureWord p t m w r → ThreadWord p t m w
  by_result Normal x = thread_word p t m x
  by_result (Abrupt e) x = (Abrupt e, threw x)
  by_result (Ended e) x = (Ended e, was_ended x)

  -- the thread may stop where no class is open: at the start the request is given up, and main's body may do nothing
  main_stops : (last : Option Completed) (xs : List Event) → MainDone p t m last xs → ThreadWord p t m xs
  main_stops last xs nothing = (Ended (built_in p InternalError), was_ended (word false (gives_up (inl refl))))
  main_stops last xs (main_done {r = r} x) = by_result r x

  body_is_over : (gone : Option ClassId) (last : Option Completed) (items : List Event) → given_up last ≡ gone → Items p t last items → (r : Outcome) × Body p t free tt items r tt
  body_is_over None last items on i = (Normal, stops {r = Normal} i on tt tt)
  body_is_over (Some e) last items gone i = (Ended e, body_stops p t free (λ d ys z. BeforeMain p t m d ys) (λ last ys z. MainDone p t m last ys) (goes_main p t m) e gone i tt)

  items_stop : (last : Option Completed) (xs : List Event) → MainItems p t m last xs → ThreadWord p t m xs
  items_stop last xs (main_items {items = items} x enters i) = let b = body_is_over (given_up last) last items refl i in (b.0, ran {v = tt} x tt b.1)

  pub begun_can_finish : (xs : List Event) → BeginsMain p t m xs → (ys : List Event) × AreEndings t ys × ThreadWord p t m (xs ++ ys)
  begun_can_finish xs (in_procedure s h) = can_finish p t (BeforeMain p t m) (MainDone p t m) (goes_main p t m) (ThreadWord p t m) main_stops s xs h
  begun_can_finish xs (in_body s h) = can_finish p t (BeforeItem p t m) (MainItems p t m) (goes_item p t m) (ThreadWord p t m) items_stop s xs h
