use Rattle.std.proofs.Common.{◌≡◌, ◌++◌, drop, false}
use Rattle.jasmin_writer.specs.Canonical.{ended_all, code_places, body_lines}
use Rattle.jasmin_writer.proofs.write.push_body.Given as goal

abbrev pub invariant-loop-instruction : goal.invariant-loop-instruction
invariant-loop-instruction l =
    (l.text.is_lost ≡ false → (l.fn.text.is_lost ≡ false)
    × (l.text.text ++ ended_all (body_lines (code_places l.code) l.place (drop l.instruction-index l.code.instructions)) ≡ l.fn.text.text ++ ended_all (body_lines (code_places l.code) 0 l.code.instructions)))
    × (l.place ≡ l.instruction-index)
