use Rattle.std.proofs.Common.{slice_index_or, refl, ◌∙◌, arith}
use Rattle.init_lock.proofs.Merges.{one_filled, all_filled}
use Rattle.init_lock.proofs.merging.fill.Goals as goal

pub journals-preserved : goal.journals-preserved
journals-preserved g c = (
  c.unload.ensures.len ∙ c.journals.invariant.0,
  λ before after start few are. one_filled c.journals.at c.args.start before after c.journals.journals c.journals.window c.unload.new.window (slice_index_or c.journals.journals c.journals.at c.index-journals-at.result) c.unload.new.journal c.index-journals-at.result
      (c.journals.invariant.1 before after start few are) start (let h = c.journals-test.true in omega arith) refl c.unload.ensures.unloaded,
)

pub returns-clause-filled : goal.returns-clause-filled
returns-clause-filled g c before after start few are = all_filled c.journals.at before after c.args.journals.now c.journals.journals c.journals.window are c.journals.auto.journals
    (let h = c.journals-test.false in omega arith) (c.journals.invariant.1 before after start few are)
