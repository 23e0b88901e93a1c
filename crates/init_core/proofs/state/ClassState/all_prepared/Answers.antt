use Rattle.std.proofs.Common.{◌≡◌, [], ap, ◌∙◌, arith}
use Rattle.hierarchy.specs.LinkedProgram.{id}
use Rattle.statics.specs.Statics.{statics_of}
use Rattle.init_core.specs.ClassState.{IsStateOf}
use Rattle.init_core.proofs.Pushing.{each_more}
use Rattle.init_core.proofs.state.ClassState.all_prepared.Goals as goal

pub classes-preserved : goal.classes-preserved
classes-preserved c =
    let xs = c.classes.made.items in
    let p = c.args.program.now in
    let made = c.in_ok-prepared.ensures in
    let at = ap id (c.len-number.ensures ∙ c.classes.made.ok.0) in
    record {
      within = omega arith;
      classes = rw c.in_ok-push.ensures.items (each_more (λ n s. s.class ≡ id n) xs _ c.classes.invariant.classes (made.class ∙ at));
      fields = rw c.in_ok-push.ensures.items
          (each_more (λ n s. s.fields ≡ statics_of p (id n)) xs _ c.classes.invariant.fields (made.fields ∙ ap (statics_of p) at));
      events = rw c.in_ok-push.ensures.items (each_more (λ n s. IsStateOf s []) xs _ c.classes.invariant.events made.events);
    }
