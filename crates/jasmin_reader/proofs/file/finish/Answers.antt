use Rattle.jasmin_reader.proofs.file.finish.Goals as goal

pub from_parts-requires : goal.from_parts-requires
from_parts-requires c = c.requires c.in_ok-parts.parts c.in_ok-parts.ensures
