use Rattle.std.proofs.Common.{◌≡◌, ◌++◌, drop, map, take}
use Rattle.heap.specs.Monitors.{released}
use Rattle.heap.proofs.monitors.release.Given as goal

-- the entries so far, released, and the others
abbrev pub invariant-loop-place : goal.invariant-loop-place
invariant-loop-place l = l.held ≡ map (released l.thread) (take l.place l.initial.held) ++ drop l.place l.initial.held
