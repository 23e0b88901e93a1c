-- What a thread knows while it works: where its procedures stand, which of its events lead there, and what it has seen of
-- each class.
use Rattle.std.specs.Prelude.{◌≡◌, ◌≢◌, ℕ, ◌+◌, ◌<◌, ◌≤◌, length, List, [], ◌++◌, Option, Some, None, MatchOption, Bool, true, false, map}
use Rattle.std.specs.List.{AllByRecursion}
use Rattle.hierarchy.specs.declared.class.ClassId.{ClassId}
use Rattle.hierarchy.specs.LinkedProgram.{LinkedProgram, id}
use Rattle.statics.specs.Statics.{statics_of}
use Rattle.init_core.specs.declared.event.Event.{Event}
use Rattle.init_core.specs.declared.event.TheConstants.{THREADS}
use Rattle.init_core.specs.declared.frames.Outcome.{Outcome}
use Rattle.init_core.specs.declared.frames.Outcome.TheVariants.{Ended}
use Rattle.init_core.specs.Advance.{MayRequest}
use Rattle.init_core.specs.History.{AreOfOneClass}
use Rattle.init_core.specs.Lawful.{AgreesAfter}
use Rattle.init_core.specs.ProcedureWord.{ThreadWordOf, GoesOn, IsOfFiles}
use Rattle.init_core.specs.ProgramEvents.{IsProgramEvent}
use Rattle.init_core.specs.Standing.{Standing}
use Rattle.init_core.specs.Stands.{AreOfOthers, ending_error, begun_classes}
use Rattle.init_lock.specs.declared.journal.Stamped.{Stamped}
use Rattle.init_lock.specs.Known.{PassFacts, HeldFacts, TableFacts, seen_at, out_of, IsSamePass, IsSameBut, IsAway, IsAwayBut}
use Rattle.init_lock.specs.Rule.{element_at}
use Rattle.bodies.specs.declared.does.Does.{Does}
use Rattle.bodies.specs.Doing.{MayDo}
use Rattle.bodies.specs.Making.{Making, HasCome, maker_of}
use Rattle.bodies.specs.Sharing.{Sharing}
use Rattle.guest_threads.specs.declared.guarded.Guarded.{Guarded}
use Rattle.guest_threads.specs.declared.task.Work.{Work}
use Rattle.bodies.specs.ThreadStands.{ThreadStands}
use Rattle.bodies.specs.Writes.{WritesHeld}
use Rattle.guest_threads.specs.Tasks.{TaskFacts, IsWhy}

-- the events of a journal
abbrev pub drawn : List (Stamped Event) → List Event
drawn js = map (λ s. s.event) js

-- what a pass has seen of each class
abbrev pub seen_of : PassFacts Guarded Event → ClassId → List Event
seen_of x c = seen_at c.number x.places

-- What is found under the lock of a class, beside what t had seen there: what other threads did, as its label allowed.
pub record Finds (t : ℕ) (seen found : List Event) : Type 0 where
  pub more : List Event
  pub begins : found ≡ seen ++ more
  pub others : AreOfOthers t more
  pub agrees : AgreesAfter seen more

-- each record of the beginning is new, and of its place's class
abbrev pub ArePrepared : LinkedProgram → List Guarded → Type 0
ArePrepared p rs = (n : ℕ) (r : Guarded) → element_at n rs ≡ Some r → (r.record.class ≡ id n) × (r.record.fields ≡ statics_of p (id n)) × (r.record.events ≡ [])

-- a table with a place for each class of the program, and as many threads as there may be
pub record IsTableOf (p : LinkedProgram) (table : TableFacts) : Type 0 where
  pub classes : table.places ≡ length p.classes
  pub few_classes : length p.classes ≤ 1024
  pub few_threads : table.threads ≤ THREADS

-- a pass with which thread t works: of this table, with no record out, begun with prepared records
pub record Works (p : LinkedProgram) (table : TableFacts) (t : ℕ) (x : PassFacts Guarded Event) : Type 0 where
  pub places : IsTableOf p table
  pub of_table : x.table ≡ table.id
  pub number : x.number ≡ t
  pub within : t < table.threads
  pub away : IsAway x.places
  pub prepared : ArePrepared p x.opening
  pub whole : length p.classes ≤ length x.opening

-- a pass with which nothing was done yet, of this table, begun with prepared records
pub record MayBegin (p : LinkedProgram) (table : TableFacts) (x : PassFacts Guarded Event) : Type 0 where
  pub works : Works p table x.number x
  pub none : x.journal ≡ []
  pub unseen : (n : ℕ) → seen_at n x.places ≡ []

-- the same pass, with what it drew and what it has seen as before
pub record IsUnmoved (before after : PassFacts Guarded Event) : Type 0 where
  pub same : IsSamePass before after
  pub journal : after.journal ≡ before.journal
  pub places : after.places ≡ before.places

-- the record of c was taken, which is as the pass finds it
pub record Took (p : LinkedProgram) (c : ClassId) (before after : PassFacts Guarded Event) (h : HeldFacts Guarded) : Type 0 where
  pub same : IsSamePass before after
  pub journal : after.journal ≡ before.journal
  pub room : after.room ≡ before.room
  pub place : h.place ≡ c.number
  pub untouched : h.taken ≡ h.kept
  pub class : h.kept.record.class ≡ c
  pub fields : h.kept.record.fields ≡ statics_of p c
  pub held : AllByRecursion (λ e. WritesHeld (statics_of p c) e) h.kept.record.events
  pub finds : Finds before.number (seen_at c.number before.places) h.kept.record.events
  pub seen : seen_at c.number after.places ≡ h.kept.record.events
  pub out : out_of c.number after.places ≡ Some h.kept
  pub others : IsSameBut c.number before.places after.places
  pub away : IsAwayBut c.number after.places

-- the pass has this record of the table and no other; it was found with what the pass has seen there, now keeps these events, and is of the class that it was
pub record MayGiveBack (table : TableFacts) (x : PassFacts Guarded Event) (h : HeldFacts Guarded) (events : List Event) : Type 0 where
  pub of_table : x.table ≡ table.id
  pub out : out_of h.place x.places ≡ Some h.taken
  pub alone : IsAwayBut h.place x.places
  pub found : h.taken.record.events ≡ seen_at h.place x.places
  pub keeps : h.kept.record.events ≡ events
  pub class : AreOfOneClass h.taken.record h.kept.record

-- the record of place n went back with these events, and the pass has no other
pub record GaveBack (n : ℕ) (events : List Event) (before after : PassFacts Guarded Event) : Type 0 where
  pub same : IsSamePass before after
  pub seen : seen_at n after.places ≡ events
  pub others : IsSameBut n before.places after.places
  pub away : IsAway after.places

-- before main's body or in it, how its procedures stand after these events of its own
abbrev pub StandsAt : {S : Type 0} → Making S → TaskFacts S → Bool → Standing → List Event → (ClassId → List Event) → S → Type 0
StandsAt M k in_main s own seen z = ThreadStands k.program k.number M k.start k.main in_main s own seen z

-- Where the work of a thread stands, by bodies of M.
pub record Working {S : Type 0} (M : Making S) (k : TaskFacts S) (w : Work S) : Type 0 where
  pub main : IsOfFiles k.program k.main
  pub works : Works k.program k.table k.number w.pass
  pub stands : StandsAt M k w.in_main w.procedure (drawn w.pass.journal) (seen_of w.pass) w.bodies
  pub events : AllByRecursion (λ e. IsProgramEvent k.program k.table.threads e) (drawn w.pass.journal)
  -- its first request was made
  pub begun : w.in_main ≡ false → w.procedure.frames ≡ [] → w.procedure.last ≢ None
  pub reason : (e : ClassId) → ending_error w.procedure ≡ Some e → IsWhy M k w.bodies w.why e
  pub room : length (begun_classes w.procedure.frames) + w.slack ≤ w.pass.room

-- it has room for more events than before, and else nothing changed
pub record IsRoomier {S : Type 0} (before after : Work S) : Type 0 where
  pub procedure : after.procedure ≡ before.procedure
  pub bodies : after.bodies ≡ before.bodies
  pub in_main : after.in_main ≡ before.in_main

-- it looked in vain, and else nothing changed
pub record HasLooked {S : Type 0} (before after : Work S) : Type 0 where
  pub procedure : after.procedure ≡ before.procedure

-- it is in a body: of an initializer after step 9, or of main
pub record IsInBody {S : Type 0} (w : Work S) : Type 0 where
  pub requests : MayRequest w.procedure.frames
  pub main : w.procedure.frames ≡ [] → w.in_main ≡ true

-- its bodies touched what all threads share, which they met so, and left so
abbrev pub HasTouched : {S H : Type 0} → Sharing S H → S → S → Type 0
HasTouched {H = H} M s z = (met : H) × ((left : H) × M.touches s met z left)

-- what runs its bodies has come from where they stand to where the machine may end the innermost
pub record HasComeTo {S : Type 0} (M : Making S) (k : TaskFacts S) (w : Work S) : Type 0 where
  pub from : S
  pub working : Working M k (record w { bodies = from })
  pub body : IsInBody w
  pub come : HasCome M from w.procedure.last w.bodies

-- what runs its bodies has come to what the innermost does next
pub record IsDoing {S : Type 0} (M : Making S) (k : TaskFacts S) (d : Does) (w : Work S) : Type 0 where
  pub from : S
  pub working : Working M k (record w { bodies = from })
  pub body : IsInBody w
  pub goes_on : GoesOn w.procedure.last
  pub does : M.does from w.procedure.last d w.bodies
  pub fits : MayDo k.program M.limits w.procedure.last d w.bodies

-- the thread has ended with this result
pub record IsOver {S : Type 0} (M : Making S) (k : TaskFacts S) (r : Outcome) (w : Work S) : Type 0 where
  pub works : Works k.program k.table k.number w.pass
  pub word : ThreadWordOf k.program k.number (maker_of k.program M) k.start k.main (drawn w.pass.journal) r w.bodies
  pub events : AllByRecursion (λ e. IsProgramEvent k.program k.table.threads e) (drawn w.pass.journal)
  pub reason : (e : ClassId) → r ≡ Ended e → IsWhy M k w.bodies w.why e

-- it works, or has ended with this result
abbrev pub WorksOrEnds : {S : Type 0} → Making S → TaskFacts S → Option Outcome → Work S → Type 0
WorksOrEnds M k result w = MatchOption result (Working M k w) (λ r. IsOver M k r w)
