use Rattle.std.proofs.Common.{rules, ◌≡◌, ◌++◌, ◌+◌, [], List, Bool, false, ◌∷◌, length, subst, sym}
use Rattle.std.specs.Prelude.{replicate}
use Rattle.std.specs.List.{flat_map}
use Rattle.jasmin_writer.specs.Canonical.{handler_places, instruction_places}
use Rattle.jasmin_writer.specs.Marks.{IsMarked}
use Rattle.jasmin_writer.proofs.Marks.{Marks, none_marked, then_marked}
use Rattle.jasmin_writer.proofs.mark.marks.Goals as goal

pub returns : goal.returns
returns c =
    let handlers = c.mark_handlers.ensures in
    let instructions = c.mark_instructions.ensures in
    let first = subst (λ (z : List _). Marks c.push.new.self.items c.mark_handlers.new.marks.items (flat_map handler_places z)) c.as_slice.ensures handlers in
    let second = subst (λ (z : List _). Marks c.mark_handlers.new.marks.items c.mark_instructions.new.marks.items (flat_map instruction_places z)) c.as_slice-2.ensures instructions in
    let start : IsMarked (length c.args.code.now.instructions + 1) c.push.new.self.items [] =
    let items : c.push.new.self.items ≡ replicate (length c.args.code.now.instructions) false ++ false ∷ [] = search rules in
    subst (λ (z : List Bool). IsMarked (length c.args.code.now.instructions + 1) z []) (sym items) (none_marked (length c.args.code.now.instructions)) in
    then_marked _ _ _ _ _ first second _ [] start
