use Rattle.std.proofs.Common.{ap, length, arith}
use Rattle.std.proofs.lemmas.Slice.Zip.{length-zip}
use Rattle.jasmin_reader.proofs.labels.Labels.len.Goals as goal

pub returns : goal.returns
returns c = let same = ap length c.self.view_is in omega (arith, length-zip c.self.inside.names c.self.inside.places.items)
