-- The class that the lines of a file spell.
use Rattle.std.specs.Prelude.{◌≡◌, ◌⊎◌, ℕ, ◌+◌, List, [], ◌∷◌, Some, None, Result, Ok, Err, unwrap_or, codes}
use Rattle.jasmin_words.specs.declared.fault.FaultKind.{FaultKind}
use Rattle.jasmin_words.specs.declared.fault.FaultKind.TheVariants as fault
use Rattle.sequence.specs.declared.refusal.Refusal.{Refusal}
use Rattle.sequence.specs.declared.refusal.Refusal.TheVariants as refusal
use Rattle.jasmin_words.specs.Lexing.{words_of}
use Rattle.jasmin_text.specs.declared.class_text.ClassParts.{ClassParts}
use Rattle.jasmin_text.specs.Lines.{lines_of}
use Rattle.jasmin_reader.specs.declared.fault.ReadFault.{ReadFault}
use Rattle.jasmin_reader.specs.declared.head.HeadWords.{HeadWords}
use Rattle.jasmin_reader.specs.declared.reader.Reader.{Reader}
use Rattle.jasmin_reader.specs.Reading.{line_at}

abbrev pub fault_at : FaultKind → ℕ → ReadFault
fault_at k n = record { kind = k; line = n }

abbrev pub fault_of : Refusal FaultKind → ℕ → ReadFault
fault_of refusal.Memory n = fault_at fault.NoMemory n
fault_of (refusal.Fault k) n = fault_at k n

-- what is reported is the first fault, or being out of memory
abbrev pub Tells : {Y : Type 0} → ReadFault → Result Y ReadFault → Type 0
Tells f read = (f.kind ≡ fault.NoMemory) ⊎ (read ≡ Err f)

-- What a function returned is what reading gives, unless memory ran out.
abbrev pub Reads : {X : Type 0} → Result X ReadFault → Result X ReadFault → Type 0
Reads (Ok x) read = read ≡ Ok x
Reads (Err f) read = Tells f read

abbrev pub object_name : List ℕ
object_name = codes "java/lang/Object"

-- the parts of a class with this head and superclass
abbrev pub parts_with : Reader → HeadWords × List ℕ → List ℕ → ClassParts
parts_with r c superclass =
    record { kind = c.0.kind; access = c.0.access; name = c.1; superclass = superclass; interfaces = r.interfaces; fields = r.fields; methods = r.methods }

-- the parts of a class that is read whole
abbrev pub parts_of : Reader → HeadWords × List ℕ → ClassParts
parts_of r c = parts_with r c (unwrap_or r.superclass object_name)

-- at the file's end, after so many lines
unfoldable pub finished : Reader → ℕ → Result ClassParts ReadFault
finished r last = elim r.class [
  | None ↦ Err (fault_at fault.Misplaced 1)
  | Some c ↦ elim r.body [ Some b ↦ Err (fault_at fault.Unfinished last) | None ↦ Ok (parts_of r c) ]
]

-- what the next line gives, and the lines after it
abbrev pub then_lines : ℕ → (Reader → Result ClassParts ReadFault) → Result Reader FaultKind → Result ClassParts ReadFault
then_lines n next (Ok r) = next r
then_lines n next (Err k) = Err (fault_at k n)

-- n lines are read
unfoldable pub rest_at : ℕ → Reader → List (List ℕ) → Result ClassParts ReadFault
rest_at n r [] = finished r n
rest_at n r (l ∷ ls) = then_lines (n + 1) (λ s. rest_at (n + 1) s ls) (line_at r (words_of l))

abbrev pub empty_reader : Reader
empty_reader = record { class = None; superclass = None; interfaces = []; fields = []; methods = []; body = None }

-- the class that the bytes spell, or the first fault
unfoldable pub class_at : List ℕ → Result ClassParts ReadFault
class_at bytes = rest_at 0 empty_reader (lines_of bytes)
