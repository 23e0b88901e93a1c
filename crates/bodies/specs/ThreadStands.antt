-- Where a thread of a main class stands, before main's body (false) or in it (true).
use Rattle.std.specs.Prelude.{ℕ, List, Option, Bool, true, false}
use Rattle.hierarchy.specs.declared.class.ClassId.{ClassId}
use Rattle.hierarchy.specs.LinkedProgram.{LinkedProgram}
use Rattle.init_core.specs.declared.event.Event.{Event}
use Rattle.init_core.specs.declared.frames.Completed.{Completed}
use Rattle.init_core.specs.MainWord.{BeforeMainOf, MainDoneOf, BeforeItemOf, MainItemsOf}
use Rattle.init_core.specs.Standing.{Standing}
use Rattle.init_core.specs.Stands.{StandsOf}
use Rattle.bodies.specs.Making.{Making, maker_of}

-- what may come before a request from outside of any class
abbrev pub OutsideOf : {S : Type 0} → LinkedProgram → ℕ → Making S → S → ClassId → Bool → ClassId → List Event → S → Type 0
OutsideOf p t M start main false = BeforeMainOf p t (maker_of p M) start main
OutsideOf p t M start main true = BeforeItemOf p t (maker_of p M) start main

-- what is there where no class is open
abbrev pub NoneOpenOf : {S : Type 0} → LinkedProgram → ℕ → Making S → S → ClassId → Bool → Option Completed → List Event → S → Type 0
NoneOpenOf p t M start main false = MainDoneOf p t (maker_of p M) start main
NoneOpenOf p t M start main true = MainItemsOf p t (maker_of p M) start main

-- its procedures stand so after these events of its own, where it has seen this history of each class
abbrev pub ThreadStands : {S : Type 0} → LinkedProgram → ℕ → Making S → S → ClassId → Bool → Standing → List Event → (ClassId → List Event) → S → Type 0
ThreadStands p t M start main in_main s own seen z = StandsOf p t (maker_of p M) (OutsideOf p t M start main in_main) (NoneOpenOf p t M start main in_main) s own seen z
