use Rattle.std.proofs.Common.{rules, ◌≡◌, false, length, ◌⊎◌, ℕ, inl, inr, subst, sym, List, None, Option, Some, option_map}
use Rattle.std.proofs.lemmas.Result.{IfErr-weaker}
use Rattle.hierarchy.specs.declared.class.ClassId.{ClassId}
use Rattle.hierarchy.specs.LinkedProgram.{LinkedProgram}
use Rattle.command_line.specs.CommandLine.{Options, run_words_of}
use Rattle.cli.specs.Files.{Files}
use Rattle.cli.specs.NamedRun.{IsOrder, IsRunRefusal, disordered, no_memory, no_thread, unnamed}
use Rattle.cli.specs.Orders.{is_of_threads, numbers_of}
use Rattle.cli.specs.Running.{mains_in}
use Rattle.cli.specs.declared.fault.Fault.{Fault}
use Rattle.cli.specs.declared.fault.Fault.TheVariants.{Memory, Threads}
use Rattle.cli.proofs.running.run_program.Goals as goal

ended_by : {known : Option Files} {p : LinkedProgram} {words : Options} {order : Option (List ℕ)} {classes : List ClassId} → mains_in p words.mains ≡ Some classes → IsOrder known p words order
    → (f : Fault) → (f ≡ Memory) ⊎ ((f ≡ Threads) × (order ≡ None)) → IsRunRefusal known p words f
ended_by named ordered f (inl is) = subst (IsRunRefusal _ _ _) (sym is) no_memory
ended_by {classes = classes} named ordered f (inr is) = subst (IsRunRefusal _ _ _) (sym is.0) (no_thread {classes = classes} named (subst (IsOrder _ _ _) is.1 ordered))

pub returns-in-Err-clause-refused : goal.returns-in-Err-clause-refused
returns-in-Err-clause-refused g c = elim c.in-Err.ensures.refused [
  | inl is ↦ subst (IsRunRefusal _ _ _) (sym is) no_memory
  | inr is ↦ subst (IsRunRefusal _ _ _) (sym is.0) (unnamed is.1)
]

pub returns-then-not-fits-clause-refused : goal.returns-then-not-fits-clause-refused
returns-then-not-fits-clause-refused g c =
    let same : option_map (λ all. all.items) c.in-Ok-order_for.order ≡ numbers_of c.as_deref-order.result = search rules in
    let unfit : is_of_threads (length c.in-Ok.mains.items) (numbers_of c.as_deref-order.result) ≡ false = search rules in
    disordered {classes = c.in-Ok.mains.items} {order = numbers_of c.as_deref-order.result} c.in-Ok.ensures.named
    (subst (IsOrder (g.N.Named.held c.args.named.now) c.args.program.now (run_words_of c.args.words.now)) same c.in-Ok-order_for.ensures.ordered) unfit

pub returns-clause-refused : goal.returns-clause-refused
returns-clause-refused g c =
    let same : option_map (λ all. all.items) c.in-Ok-order_for.order ≡ numbers_of c.as_deref-order.result = search rules in
    IfErr-weaker c.run_mains.result _ _ (ended_by {order = numbers_of c.as_deref-order.result} {classes = c.in-Ok.mains.items} c.in-Ok.ensures.named
    (subst (IsOrder (g.N.Named.held c.args.named.now) c.args.program.now (run_words_of c.args.words.now)) same c.in-Ok-order_for.ensures.ordered)) c.run_mains.ensures.refused
