use Rattle.statics.proofs.StaticPlaces.{place_kept}
use Rattle.statics.proofs.laws.static_fields_keep_their_places.Goals as goal

pub returns : goal.returns
returns c = place_kept
