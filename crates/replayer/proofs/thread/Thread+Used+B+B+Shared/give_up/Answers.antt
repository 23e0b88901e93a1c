use Rattle.bodies.specs.Sharing.{used_bodies}
use Rattle.std.proofs.Common.{inl, sym, ◌∙◌, ap}
use Rattle.init_core.specs.Advance.{thread_ended}
use Rattle.replayer.proofs.Acting.{paused_look, paused_come, paused_fits, paused_why, paused_was}
use Rattle.replayer.proofs.thread.Thread+Used+B+B+Shared.give_up.Goals as goal

pub leave-requires : goal.leave-requires
leave-requires g c = record {
  come = paused_come c.args.program.now (used_bodies (g.B.Bodies.making c.args.program.now)) c.args.log.now c.args.self.now (λ d q. c.in_default.not-Look d (c.next.ensures ∙ q)) c.requires.paused;
  fits = paused_fits c.args.program.now (used_bodies (g.B.Bodies.making c.args.program.now)) c.args.log.now c.args.self.now c.built_in-error.result c.built_in-error.ensures (λ d q. c.in_default.not-Look d (c.next.ensures ∙ q)) c.requires.paused;
  why = paused_why c.args.program.now (used_bodies (g.B.Bodies.making c.args.program.now)) (λ s w. (c.args.shared.now.state, w)) c.args.log.now c.args.self.now c.built_in-error.result c.built_in-error.ensures (λ d q. c.in_default.not-Look d (c.next.ensures ∙ q)) c.requires.paused;
  was = inl (paused_was c.args.program.now (used_bodies (g.B.Bodies.making c.args.program.now)) c.args.log.now c.args.self.now (λ d q. c.in_default.not-Look d (c.next.ensures ∙ q)) c.requires.paused);
}

pub returns-in-Look-clause-going : goal.returns-in-Look-clause-going
returns-in-Look-clause-going g c = paused_look c.args.program.now (used_bodies (g.B.Bodies.making c.args.program.now)) c.args.log.now c.args.self.now c.end_thread.new.self c.in-Look.field-0 (sym c.next.ensures ∙ c.in-Look.is) (c.end_thread.ensures.standing ∙ ap (thread_ended c.args.self.now.procedure) c.built_in-error.ensures) c.requires.paused
