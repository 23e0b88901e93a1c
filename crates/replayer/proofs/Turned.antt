-- The turns that threads have had, one after the other.
use Rattle.std.proofs.Common.{◌≡◌, ◌≢◌, ◌⊎◌, inl, inr, ℕ, ◌<◌, ◌==◌, List, [], ◌∷◌, ◌++◌, Bool, true, false, length, refl, sym, ap, subst, ◌∙◌, append-nil, append_assoc, arith}
use Rattle.std.specs.Prelude.{slice_index_or}
use Rattle.std.proofs.lemmas.Bool.{ne_eqb}
use Rattle.std.proofs.lemmas.Bool.Decides.{eqb_tells}
use Rattle.hierarchy.specs.LinkedProgram.{LinkedProgram}
use Rattle.bodies.specs.Sharing.{Used}
use Rattle.bodies.specs.Making.{Making}
use Rattle.replayer.specs.declared.run.Run.{Run}
use Rattle.replayer.specs.declared.shared.Shared.{Shared}
use Rattle.replayer.specs.declared.thread.Thread.{Thread}
use Rattle.replayer.specs.AllGoing.{AllThreads}
use Rattle.replayer.specs.OrderedRun.{HasUsed}
use Rattle.replayer.specs.Turning.{AreInTurn, HasTurned}
use Rattle.replayer.specs.Turns.{AreOf, left_by, uses_of}
use Rattle.replayer.proofs.Replaced.{IsReplaced, now_there, others_same, same_many, was_there}

module _ {H : Type 0} where
  left_append : (met : H) (xs ys : List (ℕ × H)) → left_by met (xs ++ ys) ≡ left_by (left_by met xs) ys
  left_append met [] ys = refl
  left_append met (x ∷ xs) ys = left_append x.1 xs ys

  uses_append : (t : ℕ) (met : H) (xs ys : List (ℕ × H)) → uses_of t met (xs ++ ys) ≡ uses_of t met xs ++ uses_of t (left_by met xs) ys
  uses_append t met [] ys = refl
  uses_append t met (x ∷ xs) ys = at (x.0 == t) refl (uses_append t x.1 xs ys) where
    at : (b : Bool) → (x.0 == t) ≡ b → uses_of t x.1 (xs ++ ys) ≡ uses_of t x.1 xs ++ uses_of t (left_by x.1 xs) ys → uses_of t met ((x ∷ xs) ++ ys) ≡ uses_of t met (x ∷ xs) ++ uses_of t (left_by met (x ∷ xs)) ys
    at true q h = rw q (ap (λ (us : List (H × H)). (met, x.1) ∷ us) h)
    at false q h = rw q h

  no_use : (t u : ℕ) (met : H) (turns : List (ℕ × H)) → u ≢ t → AreOf t turns → uses_of u met turns ≡ []
  no_use t u met [] apart own = refl
  no_use t u met (x ∷ turns) apart own = rw (ne_eqb x.0 u (λ q. apart (sym q ∙ own.0))) (no_use t u x.1 turns apart own.1)

  own_append : (t : ℕ) (xs ys : List (ℕ × H)) → AreOf t xs → AreOf t ys → AreOf t (xs ++ ys)
  own_append t [] ys a b = b
  own_append t (x ∷ xs) ys a b = (a.0, own_append t xs ys a.1 b)

  -- no turn
  pub no_turn : (t : ℕ) (s : Shared H) (uses : List (H × H)) → HasTurned t s s uses uses
  no_turn t s uses = record { turned = []; own = tt; turns = sym (append-nil s.turns.items); state = refl; has_used = sym (append-nil uses); first = refl }

  -- the same of a thread whose bodies have touched nothing
  pub none_turned : (t : ℕ) (s : Shared H) (uses used : List (H × H)) → used ≡ uses → HasTurned t s s uses used
  none_turned t s uses used same = subst (λ (us : List (H × H)). HasTurned t s s uses us) (sym same) (no_turn t s uses)

  -- turns, and further ones
  pub then_turned : {t : ℕ} {r s u : Shared H} {uses used more : List (H × H)} → HasTurned t r s uses used → HasTurned t s u used more → HasTurned t r u uses more
  then_turned {t = t} {r = r} {s = s} {uses = uses} a b = record {
    turned = a.turned ++ b.turned;
    own = own_append t a.turned b.turned a.own b.own;
    turns = b.turns ∙ (ap (λ (xs : List (ℕ × H)). xs ++ b.turned) a.turns ∙ append_assoc r.turns.items a.turned b.turned);
    state = b.state ∙ (ap (λ (h : H). left_by h b.turned) a.state ∙ sym (left_append r.state a.turned b.turned));
    has_used = b.has_used ∙ (ap (λ (us : List (H × H)). us ++ uses_of t s.state b.turned) a.has_used ∙ (append_assoc uses (uses_of t r.state a.turned) (uses_of t s.state b.turned) ∙ ap (λ (us : List (H × H)). uses ++ us) (ap (λ (h : H). uses_of t r.state a.turned ++ uses_of t h b.turned) a.state ∙ sym (uses_append t r.state a.turned b.turned))));
    first = b.first ∙ a.first;
  }

  -- those of the same thread by another name
  pub then_by : {t n : ℕ} {r s u : Shared H} {uses used more : List (H × H)} → n ≡ t → HasTurned t r s uses used → HasTurned n s u used more → HasTurned t r u uses more
  then_by {r = r} {s = s} {u = u} {used = used} {more = more} same a b = then_turned a (subst (λ (k : ℕ). HasTurned k s u used more) same b)

-- the turns of one thread leave all in turn
pub still_in_turn : {S H : Type 0} (t : ℕ) (r s : Run (Used S H) H) (w x : Thread (Used S H)) → t < length r.threads.items → ((other : Thread (Used S H)) → slice_index_or r.threads.items t other ≡ w) → ((other : Thread (Used S H)) → slice_index_or s.threads.items t other ≡ x) →
    ((u : ℕ) (other : Thread (Used S H)) → u ≢ t → slice_index_or s.threads.items u other ≡ slice_index_or r.threads.items u other) → length s.threads.items ≡ length r.threads.items → HasTurned t r.shared s.shared w.bodies.uses x.bodies.uses → AreInTurn r → AreInTurn s
still_in_turn {S} {H} t r s w x within was now others many turned before = record {
  state = turned.state ∙ (ap (λ (h : H). left_by h turned.turned) before.state ∙ (sym (left_append r.shared.first.value r.shared.turns.items turned.turned) ∙ same_left));
  uses = λ u other low. at u other (subst (λ (n : ℕ). u < n) many low) (eqb_tells u t);
} where
  same_left : left_by r.shared.first.value (r.shared.turns.items ++ turned.turned) ≡ left_by s.shared.first.value s.shared.turns.items
  same_left = ap (λ f. left_by f.value (r.shared.turns.items ++ turned.turned)) (sym turned.first) ∙ ap (left_by s.shared.first.value) (sym turned.turns)

  -- what u has used after the turns, by what it had before
  after : (u : ℕ) → uses_of u s.shared.first.value s.shared.turns.items ≡ uses_of u r.shared.first.value r.shared.turns.items ++ uses_of u r.shared.state turned.turned
  after u = ap (uses_of u s.shared.first.value) turned.turns ∙ (ap (λ f. uses_of u f.value (r.shared.turns.items ++ turned.turned)) turned.first ∙ (uses_append u r.shared.first.value r.shared.turns.items turned.turned ∙ ap (λ (h : H). uses_of u r.shared.first.value r.shared.turns.items ++ uses_of u h turned.turned) (sym before.state)))

  at : (u : ℕ) (other : Thread (Used S H)) → u < length r.threads.items → ((u == t) ≡ true × (u ≡ t)) ⊎ (((u == t) ≡ false) × (u ≢ t)) → (slice_index_or s.threads.items u other).bodies.uses ≡ uses_of u s.shared.first.value s.shared.turns.items
  at u other low (inl e) = subst (λ (n : ℕ). (slice_index_or s.threads.items n other).bodies.uses ≡ uses_of n s.shared.first.value s.shared.turns.items) (sym e.1)
      (ap (λ v. v.bodies.uses) (now other) ∙ (turned.has_used ∙ (ap (λ (us : List (H × H)). us ++ uses_of t r.shared.state turned.turned) (sym (ap (λ v. v.bodies.uses) (was other)) ∙ before.uses t other within) ∙ sym (after t))))
  at u other low (inr n) = ap (λ v. v.bodies.uses) (others u other n.1) ∙ (before.uses u other low ∙ (sym (append-nil _) ∙ (ap (λ (us : List (H × H)). uses_of u r.shared.first.value r.shared.turns.items ++ us) (sym (no_use t u r.shared.state turned.turned n.1 turned.own)) ∙ sym (after u))))

module _ {S H : Type 0} (p : LinkedProgram) (M : Making (Used S H)) (U : List (ℕ × H) → ℕ → Used S H → Type 0) (W : List (ℕ × H) → ℕ → Bool → Used S H → Type 0) where
  -- where the thread has had them that was replaced
  pub replaced_in_turn : {t : ℕ} {r s : Run (Used S H) H} {w x : Thread (Used S H)} → IsReplaced p M U W t r s w x → HasTurned t r.shared s.shared w.bodies.uses x.bodies.uses → AreInTurn r → AreInTurn s
  replaced_in_turn {t = t} {r = r} {s = s} {w = w} {x = x} h turned before = still_in_turn t r s w x h.within (was_there p M U W h) (now_there p M U W h) (others_same p M U W h).others (same_many p M U W h) turned before

  -- and has used what is shared in its turns
  pub has_used : {t : ℕ} {r s : Run (Used S H) H} {w x : Thread (Used S H)} → IsReplaced p M U W t r s w x → s.shared.first ≡ r.shared.first → AreInTurn s → HasUsed r.shared.first.value s.shared.turns.items t x.bodies
  has_used {t = t} {s = s} {x = x} h first in_turn = ap (λ v. v.bodies.uses) (sym (now_there p M U W h x)) ∙ (in_turn.uses t x (let many = same_many p M U W h in let low = h.within in omega (arith, many, low)) ∙ ap (λ f. uses_of t f.value s.shared.turns.items) first)

-- what is shared is what the turns have left
pub shared_now : {S H : Type 0} (r s : Run (Used S H) H) → s.shared.first ≡ r.shared.first → AreInTurn s → s.shared.state ≡ left_by r.shared.first.value s.shared.turns.items
shared_now r s first in_turn = in_turn.state ∙ ap (λ f. left_by f.value s.shared.turns.items) first

-- all are in turn as the run begins
pub fresh_in_turn : {S H : Type 0} (r : Run (Used S H) H) → r.shared.state ≡ r.shared.first.value → r.shared.turns.items ≡ [] → AllThreads (λ t w. w.bodies.uses ≡ []) r → AreInTurn r
fresh_in_turn {S} {H} r state none uses = record {
  state = state ∙ ap (left_by r.shared.first.value) (sym none);
  uses = λ t other low. uses t other low ∙ ap (λ (xs : List (ℕ × H)). uses_of t r.shared.first.value xs) (sym none);
}
