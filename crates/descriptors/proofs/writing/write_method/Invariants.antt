use Rattle.std.proofs.Common.{◌≡◌, ◌∷◌, take, false}
use Rattle.std.specs.List.{flat_map, AllByRecursion}
use Rattle.descriptors.specs.Spelling.{field_spelling, IsFieldType}
use Rattle.descriptors.proofs.writing.write_method.Given as goal

abbrev pub invariant-loop-parameter : goal.invariant-loop-parameter
invariant-loop-parameter l = (l.text.is_lost ≡ false → l.text.text ≡ 40 ∷ flat_map field_spelling (take l.parameter-index l.method.parameters)) × AllByRecursion IsFieldType (take l.parameter-index l.method.parameters)
