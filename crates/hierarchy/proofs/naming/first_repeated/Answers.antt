use Rattle.std.proofs.Common.{◌≡◌, ◌∙◌, sym, ap, false}
use Rattle.texts.specs.Texts.{has_text, note_text}
use Rattle.hierarchy.proofs.Named.{not_repeated_more, names_more}
use Rattle.hierarchy.proofs.naming.first_repeated.Goals as goal

pub loop-place-preserved : goal.loop-place-preserved
loop-place-preserved c =
    let absent : has_text c.index-texts-place.result.name c.loop-place.names ≡ false =
    ap (λ z. has_text z c.loop-place.names) (sym c.as_slice-name.ensures.bytes) ∙ sym c.place.ensures.found ∙ sym c.is_some.ensures ∙ c.if-is_some.false in
    record {
      names = names_more c.args.texts.now c.loop-place.names _ c.loop-place.place c.index-texts-place.result c.loop-place-test.true c.index-texts-place.is c.loop-place.invariant.names absent
          (c.in_ok-note.ensures.noted ∙ ap (note_text c.loop-place.names) c.as_slice-name.ensures.bytes);
      none = not_repeated_more c.args.texts.now c.loop-place.names c.loop-place.place c.index-texts-place.result c.loop-place-test.true c.index-texts-place.is c.loop-place.invariant.names absent c.loop-place.invariant.none;
    }
