-- One open class as the reader keeps it.
use Rattle.init_core.specs.declared.frames.Ending.TheVariants as ending
use Rattle.init_core.specs.declared.frames.Frame.{Frame}
use Rattle.init_core.specs.declared.frames.Phase.{Phase}
use Rattle.init_core.specs.declared.frames.Phase.TheVariants.{Looking, Needing, Running, EndingBy}
use Rattle.init_core.specs.Leads.{frame}
use Rattle.judge.specs.declared.open_class.OpenClass.{OpenClass}
use Rattle.judge.specs.declared.open_class.Stage.{Stage}
use Rattle.judge.specs.declared.open_class.Stage.TheVariants as stage

-- the state of the procedure for it
abbrev pub phase_in : Stage → Phase
phase_in (stage.Looking waited) = Looking waited
phase_in (stage.Needing pending) = Needing pending
phase_in (stage.Running ran) = Running ran
phase_in (stage.SuperFails e by_machine) = EndingBy (ending.SuperFails e) by_machine

abbrev pub frame_in : OpenClass → Frame
frame_in o = frame o.class (phase_in o.stage)
