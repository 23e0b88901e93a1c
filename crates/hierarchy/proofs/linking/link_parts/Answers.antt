use Rattle.std.proofs.Common.{◌≡◌, ◌∙◌, ap, sym, Ok, Err, length, arith}
use Rattle.hierarchy.specs.FirstFault.{HasNames}
use Rattle.hierarchy.specs.Linking.{classes_of, names_of, kinds_of}
use Rattle.hierarchy.proofs.EmptyProgram.{empty_links}
use Rattle.hierarchy.proofs.InRange.{as_many, named_alike}
use Rattle.hierarchy.proofs.Linked.{err_map, are_of, supertypes_fault, names_fault, classes_fault, none_there, some_there, either_map}
use Rattle.hierarchy.proofs.linking.link_parts.Goals as goal

pub returns-then-is_empty-clause-linked : goal.returns-then-is_empty-clause-linked
returns-then-is_empty-clause-linked c = empty_links c.args.edition c.args.texts.items c.empty.result (none_there c.args.texts.items _ (ap length (sym c.as_slice.ensures.value)) (sym c.is_empty.ensures ∙ c.if-is_empty.true)) c.empty.ensures

pub returns-in-Err-linked_classes-clause-fault : goal.returns-in-Err-linked_classes-clause-fault
returns-in-Err-linked_classes-clause-fault c =
    let texts = c.args.texts.items in
    let good : HasNames texts = rw c.deref.ensures.value at c.in-Ok.ensures.good in
    let n : c.in-Ok.field-0.names ≡ names_of texts = c.in-Ok.ensures.names ∙ ap names_of c.deref.ensures.value in
    let k : c.deref-in-Ok.result.now ≡ kinds_of texts = c.deref-in-Ok.ensures.value ∙ c.in-Ok.ensures.kinds ∙ ap kinds_of c.deref.ensures.value in
    supertypes_fault texts c.in-Err-linked_classes.fault good (either_map _ _ _ (λ q. are_of texts _ _ (Err c.in-Err-linked_classes.fault) n k q) c.in-Err-linked_classes.ensures.fault)

pub program_of-requires-clause-some : goal.program_of-requires-clause-some
program_of-requires-clause-some c =
    let texts = c.args.texts.items in
    let good : HasNames texts = rw c.deref.ensures.value at c.in-Ok.ensures.good in
    let n : c.in-Ok.field-0.names ≡ names_of texts = c.in-Ok.ensures.names ∙ ap names_of c.deref.ensures.value in
    let k : c.deref-in-Ok.result.now ≡ kinds_of texts = c.deref-in-Ok.ensures.value ∙ c.in-Ok.ensures.kinds ∙ ap kinds_of c.deref.ensures.value in
    let classes = c.in-Ok-linked_classes.classes.items in
    let e : classes_of texts ≡ Ok classes = are_of texts _ _ (Ok classes) n k c.in-Ok-linked_classes.ensures.classes in
    omega (arith, as_many texts classes e, some_there texts _ (ap length (sym c.as_slice.ensures.value)) (sym c.is_empty.ensures ∙ c.if-is_empty.false))

pub program_of-requires-clause-resolved : goal.program_of-requires-clause-resolved
program_of-requires-clause-resolved c =
    let texts = c.args.texts.items in
    let good : HasNames texts = rw c.deref.ensures.value at c.in-Ok.ensures.good in
    let n : c.in-Ok.field-0.names ≡ names_of texts = c.in-Ok.ensures.names ∙ ap names_of c.deref.ensures.value in
    let k : c.deref-in-Ok.result.now ≡ kinds_of texts = c.deref-in-Ok.ensures.value ∙ c.in-Ok.ensures.kinds ∙ ap kinds_of c.deref.ensures.value in
    let classes = c.in-Ok-linked_classes.classes.items in
    record { texts = texts; spellable = c.requires; names = good; supertypes = are_of texts _ _ (Ok classes) n k c.in-Ok-linked_classes.ensures.classes }

pub program_of-requires-clause-names : goal.program_of-requires-clause-names
program_of-requires-clause-names c =
    let texts = c.args.texts.items in
    let good : HasNames texts = rw c.deref.ensures.value at c.in-Ok.ensures.good in
    let n : c.in-Ok.field-0.names ≡ names_of texts = c.in-Ok.ensures.names ∙ ap names_of c.deref.ensures.value in
    let k : c.deref-in-Ok.result.now ≡ kinds_of texts = c.deref-in-Ok.ensures.value ∙ c.in-Ok.ensures.kinds ∙ ap kinds_of c.deref.ensures.value in
    let classes = c.in-Ok-linked_classes.classes.items in
    let e : classes_of texts ≡ Ok classes = are_of texts _ _ (Ok classes) n k c.in-Ok-linked_classes.ensures.classes in
    n ∙ sym (named_alike (names_of texts) (kinds_of texts) texts classes e)

pub returns-in-Ok-linked_classes-clause-fault : goal.returns-in-Ok-linked_classes-clause-fault
returns-in-Ok-linked_classes-clause-fault c =
    let texts = c.args.texts.items in
    let good : HasNames texts = rw c.deref.ensures.value at c.in-Ok.ensures.good in
    let n : c.in-Ok.field-0.names ≡ names_of texts = c.in-Ok.ensures.names ∙ ap names_of c.deref.ensures.value in
    let k : c.deref-in-Ok.result.now ≡ kinds_of texts = c.deref-in-Ok.ensures.value ∙ c.in-Ok.ensures.kinds ∙ ap kinds_of c.deref.ensures.value in
    let classes = c.in-Ok-linked_classes.classes.items in
    let e : classes_of texts ≡ Ok classes = are_of texts _ _ (Ok classes) n k c.in-Ok-linked_classes.ensures.classes in
    err_map _ _ c.program_of.result (λ f h. classes_fault texts classes f good e h) c.program_of.ensures.fault

pub returns-in-Err-clause-fault : goal.returns-in-Err-clause-fault
returns-in-Err-clause-fault c =
    names_fault c.args.texts.items c.in-Err.at.kind c.in-Err.at.place c.name_of_text.result (rw c.deref.ensures.value at c.in-Err.ensures.fault) c.name_of_text.ensures
