-- A record that was taken goes back.
use Rattle.std.proofs.Common.{◌≡◌, ℕ, List, Some, sym, ap, subst, ◌∙◌}
use Rattle.hierarchy.specs.declared.class.ClassId.{ClassId}
use Rattle.hierarchy.specs.LinkedProgram.{LinkedProgram}
use Rattle.init_core.specs.declared.event.Event.{Event}
use Rattle.init_core.specs.History.{AreOfOneClass}
use Rattle.init_lock.specs.Known.{HeldFacts, PassFacts, TableFacts, out_of, seen_at, IsAwayBut}
use Rattle.guest_threads.specs.declared.guarded.Guarded.{Guarded}
use Rattle.guest_threads.specs.Working.{MayGiveBack, Took}

pub may_go_back : {p : LinkedProgram} {c : ClassId} {x y : PassFacts Guarded Event} {h : HeldFacts Guarded} → Took p c x y h → (table : TableFacts) (kept : Guarded) (events : List Event) → y.table ≡ table.id → kept.record.events ≡ events → AreOfOneClass h.taken.record kept.record →
    MayGiveBack table y (record h { kept = kept }) events
may_go_back {y = y} took table kept events of_table keeps class = record {
  of_table = of_table;
  out = ap (λ (n : ℕ). out_of n y.places) took.place ∙ (took.out ∙ ap Some (sym took.untouched));
  alone = subst (λ (n : ℕ). IsAwayBut n y.places) (sym took.place) took.away;
  found = ap (λ (g : Guarded). g.record.events) took.untouched ∙ (sym took.seen ∙ ap (λ (n : ℕ). seen_at n y.places) (sym took.place));
  keeps = keeps;
  class = class;
}
