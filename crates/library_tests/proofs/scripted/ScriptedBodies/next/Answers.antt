use Rattle.std.proofs.Common.{refl}
use Rattle.std.specs.Str.{is_utf8, chars}
use lib.Utf8.{encode}
use Rattle.library_tests.proofs.scripted.ScriptedBodies.next.Goals as goal

pub print-requires : goal.print-requires
unfolding is_utf8 chars encode
print-requires c = refl
