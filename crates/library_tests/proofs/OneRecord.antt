-- A table over the record of a program's one class: its passes may begin, and what the first of them takes.
use Rattle.std.proofs.Common.{◌≡◌, ℕ, ◌<◌, ◌≤◌, length, List, [], ◌∷◌, ◌++◌, Some, refl, sym, ap, subst, ◌∙◌, arith}
use Rattle.std.specs.List.{AllByRecursion}
use Rattle.hierarchy.specs.LinkedProgram.{LinkedProgram, id}
use Rattle.statics.specs.Statics.{statics_of}
use Rattle.init_core.specs.Label.{is_completion}
use Rattle.init_core.specs.declared.event.Event.{Event}
use Rattle.init_core.specs.declared.event.TheConstants.{THREADS}
use Rattle.init_lock.specs.Known.{PassFacts, HeldFacts, TableFacts, IsNewPass, seen_at}
use Rattle.init_lock.specs.Taken.{Taken}
use Rattle.guest_threads.specs.declared.guarded.Guarded.{Guarded}
use Rattle.guest_threads.specs.Drawing.{MayDraw, Follows}
use Rattle.guest_threads.specs.Following.{follows_itself}
use Rattle.guest_threads.specs.Working.{ArePrepared, MayBegin}
use Rattle.guest_threads.proofs.Finding.{class_found}
use Rattle.guest_threads.proofs.Joining.{prepared_push}
use Rattle.library_tests.specs.InHand.{IsInHand}

-- what is true of all of a list is true of the last and of those before it
pub and_last : {A : Type 0} (P : A → Type 0) (xs : List A) (x : A) → AllByRecursion P (xs ++ x ∷ []) → AllByRecursion P xs × P x
and_last P [] x a = (tt, a.0)
and_last P (y ∷ xs) x a = let r = and_last P xs x a.1 in ((a.0, r.0), r.1)

pub may_begin : (p : LinkedProgram) (table : TableFacts) (r : Guarded) (rs : List Guarded) (x : PassFacts Guarded Event) → rs ≡ r ∷ [] → length p.classes ≡ 1 → table.places ≡ 1 → table.threads ≡ 2 → x.number < 2 →
    r.record.class ≡ id 0 → r.record.fields ≡ statics_of p (id 0) → r.record.events ≡ [] → IsNewPass table.id rs x → MayBegin p table x
may_begin p table r rs x is one places threads within class fields none new =
    let z : 2 ≤ 16 = omega arith in
    let prepared : ArePrepared p (r ∷ []) = prepared_push p [] r 0 (λ n y q. cc) refl class fields none in
    let opening : x.opening ≡ r ∷ [] = new.opening ∙ is in
    record {
      works = record {
        places = record { classes = places ∙ sym one; few_classes = omega arith; few_threads = subst (λ (n : ℕ). n ≤ THREADS) (sym threads) z };
        of_table = new.table;
        number = refl;
        within = omega arith;
        away = new.away;
        prepared = subst (ArePrepared p) (sym opening) prepared;
        whole = (let q = ap length opening in omega arith);
      };
      none = new.journal;
      unseen = new.seen;
    }

-- room for more events changes nothing of it
pub may_begin_on : (p : LinkedProgram) (table : TableFacts) (x y : PassFacts Guarded Event) (room : ℕ) → y ≡ record x { room = room } → MayBegin p table x → MayBegin p table y
may_begin_on p table x y room is m = subst (λ (z : PassFacts Guarded Event). MayBegin p table z) (sym is) (record {
  works = record {
    places = m.works.places;
    of_table = m.works.of_table;
    number = refl;
    within = m.works.within;
    away = m.works.away;
    prepared = m.works.prepared;
    whole = m.works.whole;
  };
  none = m.none;
  unseen = m.unseen;
})

pub in_hand : (p : LinkedProgram) (table : TableFacts) (x y : PassFacts Guarded Event) (h : HeldFacts Guarded) → length p.classes ≡ 1 → x.number ≡ 0 → MayBegin p table x →
    Taken (λ (g : Guarded). g.record.events) MayDraw is_completion (λ (g k : Guarded). Follows g.record k.record) 0 x y h → IsInHand table y h (seen_at 0 y.places)
in_hand p table x y h one number m t = record {
  of_table = t.same.table ∙ m.works.of_table;
  number = t.same.number ∙ number;
  place = t.place;
  out = t.out ∙ ap (λ (g : Guarded). Some g) (sym t.untouched);
  alone = t.holding m.works.away;
  class = (class_found p (id 0) x.opening h.kept m.works.prepared m.works.whole (omega arith) t.follows_opening).0;
  keeps = sym t.seen;
  follows = subst (λ (g : Guarded). Follows g.record h.kept.record) (sym t.untouched) (follows_itself h.kept.record);
}
