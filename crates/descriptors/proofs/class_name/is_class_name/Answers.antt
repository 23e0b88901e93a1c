use Rattle.descriptors.proofs.ClassNames.{passes_is}
use Rattle.descriptors.proofs.class_name.is_class_name.Goals as goal

pub loop-rest-init : goal.loop-rest-init
loop-rest-init c = passes_is c.args.bytes.now
