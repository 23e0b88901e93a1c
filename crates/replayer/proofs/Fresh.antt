-- The threads of a run as it begins.
use Rattle.std.proofs.Common.{◌≡◌, ◌≢◌, ◌⊎◌, inl, inr, ℕ, ◌+◌, ◌<◌, ◌==◌, List, [], ◌∷◌, ◌++◌, None, true, false, map, length, sym, ap, subst, ◌∙◌, arith, append-nil, append_assoc}
use Rattle.std.specs.Prelude.{slice_index_or, take}
use Rattle.std.proofs.lemmas.Bool.Decides.{eqb_tells}
use Rattle.std.proofs.lemmas.List.{get_or_append_left, get_or_push, length-append, map_push, take_all, take_more}
use Rattle.hierarchy.specs.declared.class.ClassId.{ClassId}
use Rattle.hierarchy.specs.LinkedProgram.{LinkedProgram}
use Rattle.bodies.specs.Making.{Making}
use Rattle.replayer.specs.declared.log.EventLog.{EventLog}
use Rattle.replayer.specs.declared.thread.Thread.{Thread}
use Rattle.replayer.specs.Going.{Going}

-- a thread that has just begun, of whose bodies B holds
pub record IsFresh {S : Type 0} (p : LinkedProgram) (M : Making S) (B : S → Type 0) (l : EventLog) (t : ℕ) (w : Thread S) : Type 0 where
  pub bodies : B w.bodies
  pub going : Going p M l w
  pub number : w.number ≡ t
  pub done : w.done ≡ None
  pub gave_up : w.gave_up ≡ false

abbrev pub AreFresh : {S : Type 0} → LinkedProgram → Making S → (S → Type 0) → EventLog → List (Thread S) → Type 0
AreFresh {S} p M B l ws = (t : ℕ) (other : Thread S) → t < length ws → IsFresh p M B l t (slice_index_or ws t other)

module _ {S : Type 0} (p : LinkedProgram) (M : Making S) (B : S → Type 0) (l : EventLog) where
  pub none_fresh : AreFresh p M B l []
  none_fresh t other low = absurd (omega (arith, low))

  pub fresh_more : (ws : List (Thread S)) (w : Thread S) → AreFresh p M B l ws → IsFresh p M B l (length ws) w → AreFresh p M B l (ws ++ w ∷ [])
  fresh_more ws w all one t other low = at (eqb_tells t (length ws)) where
    at : ((t == length ws) ≡ true × (t ≡ length ws)) ⊎ (((t == length ws) ≡ false) × (t ≢ length ws)) → IsFresh p M B l t (slice_index_or (ws ++ w ∷ []) t other)
    at (inl e) = subst (λ (v : Thread S). IsFresh p M B l t v) (sym (get_or_push ws w other t (sym e.1))) (subst (λ (n : ℕ). IsFresh p M B l n w) (sym e.1) one)
    at (inr n) =
        let many : length (ws ++ w ∷ []) ≡ length ws + 1 = length-append ws (w ∷ []) in
        let before : t < length ws = let apart = n.1 in omega (arith, low, many, apart) in
        subst (λ (v : Thread S). IsFresh p M B l t v) (sym (get_or_append_left ws (w ∷ []) other t before)) (all t other before)

-- the threads so far are those of the first main classes and starts
abbrev pub HaveBegun : {S : Type 0} → LinkedProgram → Making S → (S → Type 0) → EventLog → List ClassId → List S → List (Thread S) → List S → Type 0
HaveBegun p M B l mains starts ws rest = AreFresh p M B l ws × (map (λ w. w.main) ws ≡ take (length ws) mains) × (map (λ w. w.start.value) ws ++ rest ≡ starts) × (length ws + length rest ≡ length mains)

module _ {S : Type 0} (p : LinkedProgram) (M : Making S) (B : S → Type 0) (l : EventLog) where
  pub one_begins : (mains : List ClassId) (starts : List S) (ws vs : List (Thread S)) (rest later : List S) (w : Thread S) (n : ℕ) (d : ClassId) (b : S) → vs ≡ ws ++ w ∷ [] → n ≡ length ws → w.main ≡ slice_index_or mains n d → w.start.value ≡ b → rest ≡ b ∷ later → Going p M l w → w.number ≡ n → w.done ≡ None → w.gave_up ≡ false → B w.bodies →
      HaveBegun p M B l mains starts ws rest → HaveBegun p M B l mains starts vs later
  one_begins mains starts ws vs rest later w n d b is at main start more going number done gave_up bodies h = subst (λ us. HaveBegun p M B l mains starts us later) (sym is) (
    fresh_more p M B l ws w h.0 (record { bodies = bodies; going = going; number = number ∙ at; done = done; gave_up = gave_up }),
    map_push (λ v. v.main) ws w ∙ (ap (λ (ms : List ClassId). ms ++ w.main ∷ []) h.1 ∙ (ap (λ (m : ClassId). take (length ws) mains ++ m ∷ []) (main ∙ ap (λ (k : ℕ). slice_index_or mains k d) at) ∙ (sym (take_more mains (length ws) d within) ∙ ap (λ (k : ℕ). take k mains) (sym many)))),
    ap (λ (ss : List S). ss ++ later) (map_push (λ v. v.start.value) ws w) ∙ (append_assoc (map (λ v. v.start.value) ws) (w.start.value ∷ []) later ∙ (ap (λ (s : S). map (λ v. v.start.value) ws ++ s ∷ later) start ∙ (ap (λ (ss : List S). map (λ v. v.start.value) ws ++ ss) (sym more) ∙ h.2))),
    omega (arith, many, h.3, longer),
  ) where
    many : length (ws ++ w ∷ []) ≡ length ws + 1
    many = length-append ws (w ∷ [])

    longer : length rest ≡ length later + 1
    longer = ap length more ∙ omega arith

    within : length ws < length mains
    within = let count = h.3 in omega (arith, count, longer)

  -- all threads have begun where no start is left
  pub all_begun : (mains : List ClassId) (starts : List S) (ws : List (Thread S)) (rest : List S) → HaveBegun p M B l mains starts ws rest → length rest ≡ 0 → (map (λ w. w.main) ws ≡ mains) × (map (λ w. w.start.value) ws ≡ starts) × (length ws ≡ length mains)
  all_begun mains starts ws [] h none =
      let many = h.3 in
      let all : length ws ≡ length mains = omega (arith, many) in
      (h.1 ∙ take_all (length ws) mains (omega (arith, all)), sym (append-nil (map (λ w. w.start.value) ws)) ∙ h.2, all)
  all_begun mains starts ws (x ∷ rest) h none = absurd (omega (arith, none))
