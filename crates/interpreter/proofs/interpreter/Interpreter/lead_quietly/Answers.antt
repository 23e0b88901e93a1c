use Rattle.std.proofs.Common.{◌≡◌, true, false, is_some, List, None, Some, ap, sym, ◌∙◌}
use Rattle.frames.specs.Activations.{Activation}
use Rattle.interpreter.specs.Rows.{begun_one}
use Rattle.interpreter.specs.declared.lead.Lead.TheVariants as lead
use Rattle.interpreter.proofs.Quietly.{asks_quietly_at, drops, enters_quietly, free_here, from_quiet, gives_one, jumps, lead_there, moves_quietly, none_quiet, not_there, returns_quietly, room_to_give, room_to_return, touches_nothing}
use Rattle.interpreter.proofs.Running.{here_is, op_here, row_less}
use Rattle.interpreter.proofs.Saying.{asks_file}
use Rattle.interpreter.proofs.interpreter.Interpreter.lead_quietly.Goals.{in_default-via-in-Uses+in_default, in_default-via-in-Returns-default+else-is_none, in_default-via-in_default}
use Rattle.interpreter.proofs.interpreter.Interpreter.lead_quietly.Goals as goal

pub leave_frame-requires-clause-room : goal.leave_frame-requires-clause-room
leave_frame-requires-clause-room c = room_to_return c.args.program.now c.args.self.now c.args.at c.args.code.now c.args.op c.in_ok-lead.lead c.in-Returns-default.value c.instructions_name_what_is_there.ensures c.requires.at c.in_ok-lead.ensures.always c.in-Returns-default.is-0

pub returns-in-Uses-Some-clause-says : goal.returns-in-Uses-Some-clause-says
returns-in-Uses-Some-clause-says c = asks_quietly_at c.args.program.now c.args.self.now c.args.at c.args.code.now c.args.op c.in_ok-lead.lead c.in-Uses-Some.field-0-0 c.in-Uses-Some.class c.requires.at c.requires.left c.in_ok-lead.ensures.always c.in-Uses-Some.is-0 (sym c.asks_of.ensures ∙ c.in-Uses-Some.is-1)
    (touches_nothing c.args.program.now c.args.self.now c.args.at c.args.code.now c.args.op c.in_ok-lead.lead c.requires.at c.in_ok-lead.ensures.always c.in_ok-lead.ensures.quiet (λ k e none. let q : Some c.in-Uses-Some.class ≡ None = sym c.in-Uses-Some.is-1 ∙ c.asks_of.ensures ∙ none in cc) (λ v e. absurd (let q : lead.Uses c.in-Uses-Some.field-0-0 ≡ lead.Returns v = sym c.in-Uses-Some.is-0 ∙ e in cc)))

pub returns-in-Uses-Some-clause-sayable : goal.returns-in-Uses-Some-clause-sayable
returns-in-Uses-Some-clause-sayable c = asks_file c.args.program.now c.args.self.now.frames c.args.op c.in-Uses-Some.class c.instructions_name_what_is_there.ensures (op_here c.args.program.now c.args.self.now c.args.at c.args.code.now c.args.op c.requires.at) (sym c.asks_of.ensures ∙ c.in-Uses-Some.is-1)

pub give-requires : goal.give-requires
give-requires c = room_to_give c.args.program.now c.args.self.now c.args.at c.args.code.now c.args.op c.in_ok-lead.lead c.in-Gives-default.count c.in-Gives-default.value c.instructions_name_what_is_there.ensures c.requires.at c.in_ok-lead.ensures.always c.in-Gives-default.is-0

pub returns-in-Jumps-default-clause-row : goal.returns-in-Jumps-default-clause-row
returns-in-Jumps-default-clause-row c = λ on. moves_quietly c.args.program.now c.args.self.now _ c.args.at c.args.code.now c.args.op c.in_ok-lead.lead _ c.requires.at c.requires.left c.in_ok-lead.ensures.always (jumps c.args.program.now c.in_ok-lead.lead c.in-Jumps-default.to c.in-Jumps-default.is-0) (ap (λ (frames : List Activation). record (begun_one c.args.self.now) { frames = frames }) c.jump.ensures)

pub returns-in-Gives-default-clause-row : goal.returns-in-Gives-default-clause-row
returns-in-Gives-default-clause-row c = λ on. moves_quietly c.args.program.now c.args.self.now _ c.args.at c.args.code.now c.args.op c.in_ok-lead.lead _ c.requires.at c.requires.left c.in_ok-lead.ensures.always (gives_one c.args.program.now c.in_ok-lead.lead c.in-Gives-default.count c.in-Gives-default.value c.in-Gives-default.is-0) (ap (λ (frames : List Activation). record (begun_one c.args.self.now) { frames = frames }) c.give.ensures)

pub returns-in-Drops-default-clause-row : goal.returns-in-Drops-default-clause-row
returns-in-Drops-default-clause-row c = λ on. moves_quietly c.args.program.now c.args.self.now _ c.args.at c.args.code.now c.args.op c.in_ok-lead.lead _ c.requires.at c.requires.left c.in_ok-lead.ensures.always (drops c.args.program.now c.in_ok-lead.lead c.in-Drops-default.count c.in-Drops-default.is-0) (ap (λ (frames : List Activation). record (begun_one c.args.self.now) { frames = frames }) c.take.ensures)

pub returns-in-EntersMonitor-default-clause-row : goal.returns-in-EntersMonitor-default-clause-row
returns-in-EntersMonitor-default-clause-row c = λ on. enters_quietly c.args.program.now c.args.self.now c.enter_monitor.new.self c.args.at c.args.code.now c.args.op c.in_ok-lead.lead c.in-EntersMonitor-default.reference c.requires.at c.requires.left c.in_ok-lead.ensures.always c.in-EntersMonitor-default.is-0 c.enter_monitor.ensures

pub returns-in-EntersMonitor-default-clause-less : goal.returns-in-EntersMonitor-default-clause-less
returns-in-EntersMonitor-default-clause-less c = λ on. row_less c.args.program.now c.args.self.now c.enter_monitor.new.self (from_quiet (returns-in-EntersMonitor-default-clause-row c on))

pub returns-in-Returns-default-clause-row : goal.returns-in-Returns-default-clause-row
returns-in-Returns-default-clause-row c = λ on. returns_quietly c.args.program.now c.args.self.now c.leave_frame.new.self c.args.at c.args.code.now c.args.op c.in_ok-lead.lead c.in-Returns-default.value c.requires.at c.requires.left c.in_ok-lead.ensures.always c.in-Returns-default.is-0 (not_there c.taken_here.result c.taken_here.ensures c.if-is_none.ensures) c.leave_frame.ensures

pub returns-in-Returns-default-clause-less : goal.returns-in-Returns-default-clause-less
returns-in-Returns-default-clause-less c = λ on. row_less c.args.program.now c.args.self.now c.leave_frame.new.self (from_quiet (returns-in-Returns-default-clause-row c on))

pub returns-in_default-clause-touches : goal.returns-in_default-clause-touches
returns-in_default-clause-touches c = λ none nothing.
    let there : nothing.lead ≡ c.in_ok-lead.lead =
    lead_there c.args.program.now c.args.self.now.frames c.args.self.now.taken c.args.at c.args.code.now c.args.op c.in_ok-lead.lead (here_is c.args.program.now c.args.self.now c.args.at c.args.code.now c.args.op c.requires.at) c.in_ok-lead.ensures.always nothing in
    elim c.in_default.branch [
      | in_default-via-in-Uses+in_default w ↦ nothing.asks w.in_default.field-0-0 (there ∙ w.in_default.is-0) (sym c.asks_of.ensures ∙ w.in_default.is-1)
      | in_default-via-in-Returns-default+else-is_none w ↦
          let free = nothing.leaves w.in-Returns-default.value (there ∙ w.in-Returns-default.is-0) in
          let q : true ≡ false = sym w.if-is_none.ensures ∙ ap is_some (w.taken_here.ensures ∙ free) in cc
      | in_default-via-in_default w ↦ none_quiet nothing.lead nothing.quiet (λ n e. w.in_default.not-Jumps-0 n (sym there ∙ e)) (λ n v e. w.in_default.not-Gives-0 n v (sym there ∙ e)) (λ n e. w.in_default.not-Drops-0 n (sym there ∙ e)) (λ d e. w.in_default.not-Uses-0 d (sym there ∙ e)) (λ v e. w.in_default.not-Returns-0 v (sym there ∙ e)) (λ r e. w.in_default.not-EntersMonitor-0 r (sym there ∙ e))
    ]

pub returns-in-Uses-Some-clause-free : goal.returns-in-Uses-Some-clause-free
returns-in-Uses-Some-clause-free c = free_here c.args.program.now c.args.self.now c.args.at c.args.code.now c.args.op c.requires.at (touches_nothing c.args.program.now c.args.self.now c.args.at c.args.code.now c.args.op c.in_ok-lead.lead c.requires.at c.in_ok-lead.ensures.always c.in_ok-lead.ensures.quiet (λ k e none. let q : Some c.in-Uses-Some.class ≡ None = sym c.in-Uses-Some.is-1 ∙ c.asks_of.ensures ∙ none in cc) (λ v e. absurd (let q : lead.Uses c.in-Uses-Some.field-0-0 ≡ lead.Returns v = sym c.in-Uses-Some.is-0 ∙ e in cc)))

pub returns-in-Jumps-default-clause-free : goal.returns-in-Jumps-default-clause-free
returns-in-Jumps-default-clause-free c = free_here c.args.program.now c.args.self.now c.args.at c.args.code.now c.args.op c.requires.at (touches_nothing c.args.program.now c.args.self.now c.args.at c.args.code.now c.args.op c.in_ok-lead.lead c.requires.at c.in_ok-lead.ensures.always c.in_ok-lead.ensures.quiet (λ k e. absurd (let q : lead.Jumps c.in-Jumps-default.to ≡ lead.Uses k = sym c.in-Jumps-default.is-0 ∙ e in cc)) (λ v e. absurd (let q : lead.Jumps c.in-Jumps-default.to ≡ lead.Returns v = sym c.in-Jumps-default.is-0 ∙ e in cc)))

pub returns-in-Gives-default-clause-free : goal.returns-in-Gives-default-clause-free
returns-in-Gives-default-clause-free c = free_here c.args.program.now c.args.self.now c.args.at c.args.code.now c.args.op c.requires.at (touches_nothing c.args.program.now c.args.self.now c.args.at c.args.code.now c.args.op c.in_ok-lead.lead c.requires.at c.in_ok-lead.ensures.always c.in_ok-lead.ensures.quiet (λ k e. absurd (let q : lead.Gives c.in-Gives-default.count c.in-Gives-default.value ≡ lead.Uses k = sym c.in-Gives-default.is-0 ∙ e in cc)) (λ v e. absurd (let q : lead.Gives c.in-Gives-default.count c.in-Gives-default.value ≡ lead.Returns v = sym c.in-Gives-default.is-0 ∙ e in cc)))

pub returns-in-Drops-default-clause-free : goal.returns-in-Drops-default-clause-free
returns-in-Drops-default-clause-free c = free_here c.args.program.now c.args.self.now c.args.at c.args.code.now c.args.op c.requires.at (touches_nothing c.args.program.now c.args.self.now c.args.at c.args.code.now c.args.op c.in_ok-lead.lead c.requires.at c.in_ok-lead.ensures.always c.in_ok-lead.ensures.quiet (λ k e. absurd (let q : lead.Drops c.in-Drops-default.count ≡ lead.Uses k = sym c.in-Drops-default.is-0 ∙ e in cc)) (λ v e. absurd (let q : lead.Drops c.in-Drops-default.count ≡ lead.Returns v = sym c.in-Drops-default.is-0 ∙ e in cc)))

pub returns-in-Returns-default-clause-free : goal.returns-in-Returns-default-clause-free
returns-in-Returns-default-clause-free c = free_here c.args.program.now c.args.self.now c.args.at c.args.code.now c.args.op c.requires.at (touches_nothing c.args.program.now c.args.self.now c.args.at c.args.code.now c.args.op c.in_ok-lead.lead c.requires.at c.in_ok-lead.ensures.always c.in_ok-lead.ensures.quiet (λ k e. absurd (let q : lead.Returns c.in-Returns-default.value ≡ lead.Uses k = sym c.in-Returns-default.is-0 ∙ e in cc)) (λ v e. not_there c.taken_here.result c.taken_here.ensures c.if-is_none.ensures))

pub returns-in-EntersMonitor-default-clause-free : goal.returns-in-EntersMonitor-default-clause-free
returns-in-EntersMonitor-default-clause-free c = free_here c.args.program.now c.args.self.now c.args.at c.args.code.now c.args.op c.requires.at (touches_nothing c.args.program.now c.args.self.now c.args.at c.args.code.now c.args.op c.in_ok-lead.lead c.requires.at c.in_ok-lead.ensures.always c.in_ok-lead.ensures.quiet (λ k e. absurd (let q : lead.EntersMonitor c.in-EntersMonitor-default.reference ≡ lead.Uses k = sym c.in-EntersMonitor-default.is-0 ∙ e in cc)) (λ v e. absurd (let q : lead.EntersMonitor c.in-EntersMonitor-default.reference ≡ lead.Returns v = sym c.in-EntersMonitor-default.is-0 ∙ e in cc)))
