-- What faults print as.
use Rattle.std.specs.Prelude.{ℕ, List, codes}
use Rattle.descriptors.specs.declared.fault.DescriptorFault.{DescriptorFault}
use Rattle.descriptors.specs.declared.fault.DescriptorFault.TheVariants as fault

abbrev pub message_of : DescriptorFault → List ℕ
message_of fault.Empty = codes "empty descriptor"
message_of fault.UnknownLetter = codes "unknown letter in a descriptor"
message_of fault.Unfinished = codes "unfinished descriptor"
message_of fault.TooManyDimensions = codes "more than 255 dimensions"
message_of fault.BytesLeftOver = codes "bytes left over after a descriptor"
message_of fault.LeftOut = codes "long, float or double in a descriptor"
message_of fault.TooManyParameters = codes "more than 255 parameters"
