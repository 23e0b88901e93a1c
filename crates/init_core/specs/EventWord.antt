-- How an event is stored: a word, and the text that it prints, where it prints one. From its low bits on a step's word has
-- the number of its thread, the number of its class, and the number of what it does. That has, again from its low bits on,
-- which step it is, the place of the field that it reads or writes, and an operand: the field's value, or the number of a
-- throwable's class.
use Rattle.std.specs.Prelude.{ℕ, ◌+◌, ◌*◌, ◌/◌, ◌%◌, ◌==◌, List, Option, Some, None, if◌then◌else◌, map}
use Rattle.std.specs.Global.{Box}
use Rattle.std.specs.Int.{cast_signed, w32}
use Rattle.hierarchy.specs.declared.class.ClassId.{ClassId}
use Rattle.hierarchy.specs.declared.value.Value.TheVariants as value
use Rattle.hierarchy.specs.LinkedProgram.{id}
use Rattle.init_core.specs.declared.event.Kind.{Kind}
use Rattle.init_core.specs.declared.event.Kind.TheVariants as kind
use Rattle.init_core.specs.declared.event.Stored.{Stored}
use Rattle.init_core.specs.declared.event.Stored.TheVariants as stored
use Rattle.init_core.specs.declared.event.TheConstants.{THREADS, CLASS_NUMBERS, FIELD_PLACES}
use Rattle.init_core.specs.declared.event_word.TheConstants.{STEPS, OPERANDS, WAITS, RECURS, FINDS_INITIALIZED, FINDS_ERRONEOUS, BEGINS, SUPER_FAILS, RUNS, COMPLETES, FAILS, GETS_INT, GETS_NULL, GETS_REFERENCE, PUTS_INT, PUTS_NULL}
use Rattle.init_core.specs.EventParts.{EventParts}

-- the number of what a step does
abbrev pub deed_number : ℕ → ℕ → ℕ → ℕ
deed_number step place operand = (operand * FIELD_PLACES + place) * STEPS + step

-- the word of a step
abbrev pub word_of : ℕ → ℕ → ℕ → ℕ
word_of thread class deed = (deed * CLASS_NUMBERS + class) * THREADS + thread

-- the thread in a word
abbrev pub thread_in : ℕ → ℕ
thread_in word = word % THREADS

-- the class in it
abbrev pub class_in : ℕ → ClassId
class_in word = id (word / THREADS % CLASS_NUMBERS)

-- the number of what is done
abbrev pub deed_in : ℕ → ℕ
deed_in word = word / THREADS / CLASS_NUMBERS

-- what is done; a number above those of the steps is read as the last of them
abbrev pub kind_by : ℕ → ℕ → ℕ → Kind
kind_by step place operand =
    if step == WAITS then kind.Waits
    else if step == RECURS then kind.Recurs
    else if step == FINDS_INITIALIZED then kind.FindsInitialized
    else if step == FINDS_ERRONEOUS then kind.FindsErroneous
    else if step == BEGINS then kind.Begins
    else if step == SUPER_FAILS then kind.SuperFails (id operand)
    else if step == RUNS then kind.Runs
    else if step == COMPLETES then kind.Completes
    else if step == FAILS then kind.Fails (id operand)
    else if step == GETS_INT then kind.Gets place (value.Int (cast_signed w32 operand))
    else if step == GETS_NULL then kind.Gets place value.Null
    else if step == GETS_REFERENCE then kind.Gets place (value.Reference operand)
    else if step == PUTS_INT then kind.Puts place (value.Int (cast_signed w32 operand))
    else if step == PUTS_NULL then kind.Puts place value.Null
    else kind.Puts place (value.Reference operand)

-- what is done, by its number
abbrev pub kind_in : ℕ → Kind
kind_in deed = kind_by (deed % STEPS) (deed / STEPS % FIELD_PLACES) (deed / STEPS / FIELD_PLACES % OPERANDS)

-- the event of a word, and of a text, where there is one: then it is a print
abbrev pub event_of : ℕ → Option (Box (List ℕ)) → EventParts
event_of word None = record { thread = thread_in word; class = Some (class_in word); kind = kind_in (deed_in word) }
event_of word (Some text) = record { thread = thread_in word; class = None; kind = kind.Prints text.value }

-- the event that is stored
abbrev pub event_in : Stored → EventParts
event_in (stored.Step word) = event_of word None
event_in (stored.Print thread text) = event_of thread (Some text)

-- the events of these words
abbrev pub events_in : List ℕ → List EventParts
events_in words = map (λ word. event_of word None) words
