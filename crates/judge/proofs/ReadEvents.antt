-- What the tests of an event say of `Reads`.
use Rattle.std.proofs.Common.{◌≡◌, ℕ, Option, Bool, true, false, IfOk, Result, Ok, Err, sym, subst}
use Rattle.std.specs.declared.alloc.AllocError.{AllocError}
use Rattle.hierarchy.specs.declared.class.ClassId.{ClassId}
use Rattle.hierarchy.specs.LinkedProgram.{LinkedProgram}
use Rattle.init_core.specs.declared.event.Kind.{Kind}
use Rattle.init_core.specs.Standing.{Standing}
use Rattle.judge.specs.NextEvent.{MovesIf, MayRead, read_to, begun_after}
use Rattle.judge.specs.Reading.{made_by, Reads}
use Rattle.judge.proofs.Tested.{reads, tested}

module _ (p : LinkedProgram) (a : Bool) (s : Standing) (o : Option ClassId) (k : Kind) where
  pub is_read : (b : Bool) (u : Standing) (r : Result Bool AllocError) → b ≡ begun_after a s.frames → IfOk r (MovesIf (MayRead p a s.frames s.last o k) (read_to p s.frames s.last o k) u) →
      IfOk r (λ it. it ≡ true → (t : ℕ) → Reads p t a s (made_by t o k) b u)
  is_read b u (Ok it) q m = λ e t. subst (λ (c : Bool). Reads p t a s (made_by t o k) c u) (sym q) (subst (λ (v : Standing). Reads p t a s (made_by t o k) (begun_after a s.frames) v) (sym (m.leads e)) (reads p t a s.frames s.last o k (m.yes e)))
  is_read b u (Err e) q m = tt

  pub is_not_read : (u : Standing) (r : Result Bool AllocError) → IfOk r (MovesIf (MayRead p a s.frames s.last o k) (read_to p s.frames s.last o k) u) → IfOk r (λ it. it ≡ false → (t : ℕ) (begun : Bool) (after : Standing) → Reads p t a s (made_by t o k) begun after → ⊥)
  is_not_read u (Ok it) m = λ e t begun after x. m.no e (tested p t x).0
  is_not_read u (Err e) m = tt
