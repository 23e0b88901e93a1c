-- A word of any maker of bodies is a word whatever the bodies do.
use Rattle.std.proofs.Common.{ℕ, List, Option}
use Rattle.hierarchy.specs.declared.class.ClassId.{ClassId}
use Rattle.hierarchy.specs.LinkedProgram.{LinkedProgram}
use Rattle.init_core.specs.declared.event.Event.{Event}
use Rattle.init_core.specs.declared.frames.Completed.{Completed}
use Rattle.init_core.specs.declared.frames.Outcome.{Outcome}
use Rattle.init_core.specs.ProcedureWord.{Maker, free, Word, word, AfterWait, recurs, finds_initialized, finds_erroneous, gives_up, completes, fails, is_ended, need_fails, need_is_ended, lacks_memory, Begun, begins, and_then, ItemsOf, no_items, requests, uses, prints, Body, stops, stops_ended, ThreadWordOf, ran, threw, was_ended, Items, ThreadWord}

-- the procedure for c by t, whatever its bodies do
abbrev pub ProcedureWord : LinkedProgram → ℕ → ClassId → List Event → Outcome → Type 0
ProcedureWord p t c events r = Word p t free tt c events r tt

module _ (p : LinkedProgram) (t : ℕ) (M : Maker) where
  mutual
    pub forget_word : {s z : M.State} {c : ClassId} {w : List Event} {r : Outcome} → Word p t M s c w r z → ProcedureWord p t c w r
    forget_word (word waited x) = word waited (forget_rest x)

    forget_rest : {s z : M.State} {c : ClassId} {w : List Event} {r : Outcome} → AfterWait p t M s c w r z → AfterWait p t free tt c w r tt
    forget_rest recurs = recurs
    forget_rest finds_initialized = finds_initialized
    forget_rest finds_erroneous = finds_erroneous
    forget_rest (gives_up machine) = gives_up machine
    forget_rest (completes g st b) = completes (forget_begun g) tt (forget_body b)
    forget_rest (fails g st b replaced is) = fails (forget_begun g) tt (forget_body b) tt is
    forget_rest (is_ended g st b) = is_ended (forget_begun g) tt (forget_body b)
    forget_rest (need_fails others e g x) = need_fails others e (forget_begun g) (forget_word x)
    forget_rest (need_is_ended others e g x) = need_is_ended others e (forget_begun g) (forget_word x)
    forget_rest (lacks_memory others e g) = lacks_memory others e (forget_begun g)

    pub forget_begun : {s z : M.State} {c : ClassId} {first : List ClassId} {w : List Event} → Begun p t M s c first w z → Begun p t free tt c first w tt
    forget_begun begins = begins
    forget_begun (and_then g x) = and_then (forget_begun g) (forget_word x)

    pub forget_items : {s z : M.State} {last : Option Completed} {w : List Event} → ItemsOf p t M s last w z → Items p t last w
    forget_items no_items = no_items
    forget_items (requests i on within ask x) = requests (forget_items i) on within tt (forget_word x)
    forget_items (uses k is i made) = uses k is (forget_items i) tt
    forget_items (prints text i on made) = prints text (forget_items i) on tt

    forget_body : {s z : M.State} {w : List Event} {r : Outcome} → Body p t M s w r z → Body p t free tt w r tt
    forget_body (stops i on is made) = stops (forget_items i) on is tt
    forget_body (stops_ended i made) = stops_ended (forget_items i) tt

  -- what a thread did, whatever it makes its bodies
  pub forget_thread : {s z : M.State} {m : ClassId} {w : List Event} {r : Outcome} → ThreadWordOf p t M s m w r z → ThreadWord p t m w
  forget_thread {r = r} x = (r, by x) where
    by : {s z : M.State} {m : ClassId} {w : List Event} {r : Outcome} → ThreadWordOf p t M s m w r z → ThreadWordOf p t free tt m w r tt
    by (ran x enters b) = ran (forget_word x) tt (forget_body b)
    by (threw x) = threw (forget_word x)
    by (was_ended x) = was_ended (forget_word x)
