use Rattle.std.proofs.Common.{append_assoc}
use Rattle.trace.proofs.text.write_use.Goals as goal

pub returns : goal.returns
returns c whole =
    let value = c.write_value.ensures whole in
    let space = c.push-3.ensures value.0 in
    let field = c.write_static.ensures space.0 in
    let between = c.push-2.ensures field.0 in
    let class = c.write_event_class.ensures between.0 in
    let word = c.push.ensures class.0 in
    (word.0, rw (value.1, space.1, field.1, between.1, class.1, word.1) (simp append_assoc))
