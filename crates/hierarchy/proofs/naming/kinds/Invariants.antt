use Rattle.std.proofs.Common.{◌≡◌, take}
use Rattle.hierarchy.specs.Linking.{kinds_of}
use Rattle.hierarchy.proofs.naming.kinds.Given as goal

abbrev pub invariant-loop-text : goal.invariant-loop-text
invariant-loop-text l = l.kinds.items ≡ kinds_of (take l.text-index l.texts)
