-- The numbers of the kinds of fault, of which the lower is reported first, and what they print as.
use Rattle.std.specs.Prelude.{ℕ, List, codes}
use Rattle.jasmin_words.specs.declared.fault.FaultKind.{FaultKind}
use Rattle.jasmin_words.specs.declared.fault.FaultKind.TheVariants.{BadByte, UnknownDirective, UnknownInstruction, LeftOut, BadOperand, UnknownLabel, RepeatedLabel, Unfinished, Misplaced, BadDescriptor, LimitExceeded, BadInitializer, BadBody, NoMemory}

abbrev pub number_of : FaultKind → ℕ
number_of BadByte = 1
number_of UnknownDirective = 2
number_of UnknownInstruction = 3
number_of LeftOut = 4
number_of BadOperand = 5
number_of UnknownLabel = 6
number_of RepeatedLabel = 7
number_of Unfinished = 8
number_of Misplaced = 9
number_of BadDescriptor = 10
number_of LimitExceeded = 11
number_of BadInitializer = 12
number_of BadBody = 13
number_of NoMemory = 14

abbrev pub message_of : FaultKind → List ℕ
message_of BadByte = codes "J1: bad byte"
message_of UnknownDirective = codes "J2: unknown directive"
message_of UnknownInstruction = codes "J3: unknown instruction"
message_of LeftOut = codes "J4: left out of this machine"
message_of BadOperand = codes "J5: bad operand"
message_of UnknownLabel = codes "J6: unknown label"
message_of RepeatedLabel = codes "J7: repeated label"
message_of Unfinished = codes "J8: unfinished string or method"
message_of Misplaced = codes "J9: misplaced directive or instruction"
message_of BadDescriptor = codes "J10: bad descriptor"
message_of LimitExceeded = codes "J11: limit exceeded"
message_of BadInitializer = codes "J12: bad class initializer"
message_of BadBody = codes "J13: body missing or not allowed"
message_of NoMemory = codes "J14: out of memory"
