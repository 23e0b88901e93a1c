-- What the words of a command line ask for, as `clap` reads them.
use Rattle.std.specs.Prelude.{List, [], ◌∷◌, Bool, ◌&&◌, ◌||◌, not, Option, Some, None, codes, if◌then◌else◌, is_some, option_map, unwrap_or, true, false}
use Rattle.std.specs.Borrow.{Bor}
use Rattle.std.specs.List.{list_any}
use Rattle.std.specs.Str.{bytes_eq}
use Rattle.clap.specs.Lexer.{usize_max}
use Rattle.clap.specs.Walk.{texts}
use Rattle.clap.specs.Words.{App, Row, Rule, Text, all_of, fault_of, first_of, first_value, matched_of, raw_values, new_app, new_rule, subcommand_of, with_rule, with_subcommand}
use Rattle.clap.specs.Kinds.{Kinds}
use Rattle.clap.specs.Simple.{on_top}
use Rattle.clap.specs.declared.builder.action.ArgAction.TheVariants.{Append, SetTrue}
use Rattle.clap.specs.declared.parser.matches.Found.{Found}
use Rattle.command_line.specs.declared.Asked.{Asked}
use Rattle.command_line.specs.declared.Check.{Check}
use Rattle.command_line.specs.declared.Needs.{Needs}
use Rattle.command_line.specs.declared.Run.{Run}
use Rattle.command_line.specs.declared.Asked.TheVariants as asked

-- an option `--<name>` with one value
unfoldable pub option_named : Text → Rule
option_named name = record (new_rule name) { long = Some name; value_names = 1 }

-- an option `--<name>` without a value
unfoldable pub flag_named : Text → Rule
flag_named name = record (new_rule name) { long = Some name; action = Some SetTrue }

-- the words that are no option: any number of files
unfoldable pub file_words : Rule
file_words = record (new_rule (codes "files")) {
  action = Some Append;
  range = Some (record { start_inclusive = 0; end_inclusive = usize_max });
  value_names = 1;
}

-- the options of how the threads of a run go on, and how far
unfoldable pub with_run_options : App → App
with_run_options app = with_rule (with_rule (with_rule (with_rule app (option_named (codes "order"))) (option_named (codes "replay"))) (option_named (codes "steps"))) (option_named (codes "patience"))

-- the options of main classes and their trace
unfoldable pub with_trace : App → App
with_trace app = with_rule (with_rule (with_rule app (option_named (codes "mains"))) (option_named (codes "trace"))) (flag_named (codes "explain"))

-- a subcommand: each has all options
unfoldable pub subcommand_named : Text → App
subcommand_named name = with_rule (with_rule (with_run_options (with_trace (new_app name))) (option_named (codes "edition"))) file_words

-- the command line without its subcommands
unfoldable pub bare_line : App
bare_line = on_top (λ s. record s { has_version = true; subcommand_required = true }) (new_app (codes "jinit"))

-- `jinit run`, `jinit check`, `jinit needs` and `jinit explain`, one of which is asked for
abbrev pub line_of : (Text → App) → App
line_of sub = with_subcommand (with_subcommand (with_subcommand (with_subcommand bare_line (sub (codes "run")).top) (sub (codes "check")).top) (sub (codes "needs")).top) (sub (codes "explain")).top

unfoldable pub command_line : App
command_line = line_of subcommand_named

-- the texts of all options, whether faults are to be explained, and the words that are no option: the names of the files, or of `explain` codes
pub record Options : Type 0 where
  pub mains : Option Text
  pub trace : Option Text
  pub order : Option Text
  pub replay : Option Text
  pub steps : Option Text
  pub patience : Option Text
  pub edition : Option Text
  pub explains : Bool
  pub files : List Text

-- what `check` is given: the texts of its options, whether it explains, and the names of the files
pub record CheckWords : Type 0 where
  pub mains : Option Text
  pub trace : Text
  pub explains : Bool
  pub edition : Option Text
  pub files : List Text

-- what `needs` is given: the text of its option, whether it explains, and the names of the files
pub record NeedsWords : Type 0 where
  pub edition : Option Text
  pub explains : Bool
  pub files : List Text

-- what is asked for, as texts: of `run` all options, of `explain` the codes of faults, and of words that don't fit together whether that is to be explained
pub data Request : Type 0 where
  run : Options → Request
  check : CheckWords → Request
  needs : NeedsWords → Request
  explain : List Text → Request
  unfit : Bool → Request

-- whether a fault is to be explained
abbrev pub explains_in : Request → Bool
explains_in (run o) = o.explains
explains_in (check words) = words.explains
explains_in (needs words) = words.explains
explains_in (explain names) = false
explains_in (unfit explains) = explains

-- the text of an option
abbrev pub text_of : Option (Bor Text) → Option Text
text_of o = option_map (λ s. s.now) o

abbrev pub run_words_of : Run → Options
run_words_of r = record {
  mains = text_of r.mains;
  trace = text_of r.trace;
  order = text_of r.order;
  replay = text_of r.replay;
  steps = text_of r.steps;
  patience = text_of r.patience;
  edition = text_of r.edition;
  explains = r.explains;
  files = texts r.files.items;
}

abbrev pub check_words_of : Check → CheckWords
check_words_of c = record { mains = text_of c.mains; trace = c.trace.now; explains = c.explains; edition = text_of c.edition; files = texts c.files.items }

abbrev pub needs_words_of : Needs → NeedsWords
needs_words_of n = record { edition = text_of n.edition; explains = n.explains; files = texts n.files.items }

abbrev pub request_of : Asked → Request
request_of (asked.Run r) = run (run_words_of r)
request_of (asked.Check c) = check (check_words_of c)
request_of (asked.Needs n) = needs (needs_words_of n)
request_of (asked.Explain names) = explain (texts names.items)
request_of (asked.Unfit explains reason) = unfit explains

-- whether an option without a value is given, by the text that `clap` has for it
abbrev pub is_set : Option Text → Bool
is_set None = false
is_set (Some text) = bytes_eq text (codes "true")

-- whether this name is among those
abbrev pub has_name : List Text → Text → Bool
has_name names name = list_any (λ n. bytes_eq n name) names

-- whether an option has this text
abbrev pub is_text : Option Text → Text → Bool
is_text None name = false
is_text (Some text) name = bytes_eq text name

-- the command line with the options of those subcommands alone that the words name
unfoldable pub subcommand_for : List Text → Text → App
subcommand_for words name = if has_name words name then subcommand_named name else new_app name

unfoldable pub line_for : List Text → App
line_for words = line_of (subcommand_for words)

-- the trace would replace a file that is read: it has the name of one of the files, or of the trace to be replayed
abbrev pub replaces : Option Text → List Text → Option Text → Bool
replaces None files replay = false
replaces (Some trace) files replay = has_name files trace || is_text replay trace

abbrev pub replaces_input : Options → Bool
replaces_input o = replaces o.trace o.files o.replay

-- at most one of these names is a dash
abbrev pub has_few_dashes : List Text → Bool
has_few_dashes [] = true
has_few_dashes (name ∷ names) = if bytes_eq name (codes "-") then not (has_name names (codes "-")) else has_few_dashes names

-- a dash, which names standard input among the files, and as a trace that is read, and standard output as a trace that is written, is given once at most
abbrev pub has_one_dash : Options → Bool
has_one_dash o = if is_text o.trace (codes "-") then not (is_text o.replay (codes "-") || has_name o.files (codes "-"))
    else (if is_text o.replay (codes "-") then not (has_name o.files (codes "-")) else has_few_dashes o.files)

-- whether an option is given that says how the threads of a run go on, or how far
abbrev pub has_run_options : Options → Bool
has_run_options o = (is_some o.order || is_some o.replay) || (is_some o.steps || is_some o.patience)

-- whether an option is given that says what is run, or which trace is judged
abbrev pub has_mains_or_trace : Options → Bool
has_mains_or_trace o = is_some o.mains || is_some o.trace

-- `run` takes all options, but one order alone; its trace is no file that it reads, and a dash is given once at most
abbrev pub fits_run : Options → Bool
fits_run o = not (is_some o.order && is_some o.replay) && (not (replaces_input o) && has_one_dash o)

-- `check` takes no order and no limits, and a dash once at most
abbrev pub fits_check : Options → Bool
fits_check o = not (has_run_options o) && has_one_dash o

-- `needs` takes the edition alone, and whether it explains, and a dash once at most
abbrev pub fits_needs : Options → Bool
fits_needs o = not (has_run_options o) && (not (has_mains_or_trace o) && has_few_dashes o.files)

-- `explain` takes no option
abbrev pub fits_explain : Options → Bool
fits_explain o = not (has_run_options o) && (not (has_mains_or_trace o) && not (is_some o.edition || o.explains))

-- `check` has a trace
abbrev pub check_with : Option Text → Options → Request
check_with None o = unfit o.explains
check_with (Some trace) o = check (record { mains = o.mains; trace = trace; explains = o.explains; edition = o.edition; files = o.files })

abbrev pub check_by : Options → Request
check_by o = check_with o.trace o

abbrev pub needs_by : Options → Request
needs_by o = needs (record { edition = o.edition; explains = o.explains; files = o.files })

-- what the subcommand of that name asks for, with these options
abbrev pub request_to : Text → Options → Request
request_to name o = if bytes_eq name (codes "run") && fits_run o then run o
    else (if bytes_eq name (codes "check") && fits_check o then check_by o
    else (if bytes_eq name (codes "needs") && fits_needs o then needs_by o
    else (if bytes_eq name (codes "explain") && fits_explain o then explain o.files else unfit o.explains)))

-- the options in the rows that `clap` finds in the words
abbrev pub options_in : List Row → Options
options_in rows = record {
  mains = first_of (codes "mains") rows;
  trace = first_of (codes "trace") rows;
  order = first_of (codes "order") rows;
  replay = first_of (codes "replay") rows;
  steps = first_of (codes "steps") rows;
  patience = first_of (codes "patience") rows;
  edition = first_of (codes "edition") rows;
  explains = is_set (first_of (codes "explain") rows);
  files = unwrap_or (all_of (codes "files") rows) [];
}

abbrev pub request_by : Option (Text × List Row) → Request
request_by (Some (name, rows)) = request_to name (options_in rows)
request_by None = unfit false

-- the subcommand that `clap` finds in the words, with its rows
unfoldable pub rows_in : List Text → Option (Text × List Row)
rows_in words = subcommand_of command_line words

-- what the words ask for
abbrev pub request_in : List Text → Request
request_in words = request_by (rows_in words)

-- the kinds of the faults that `clap` finds in the words; none where they are words of the command line
unfoldable pub faults_in : List Text → Kinds
faults_in words = fault_of command_line words

-- the same, by what the getters of `clap` read
abbrev pub files_found : Found → List Text
files_found f = unwrap_or (option_map raw_values (matched_of f (codes "files"))) []

abbrev pub options_found : Found → Options
options_found f = record {
  mains = first_value f (codes "mains");
  trace = first_value f (codes "trace");
  order = first_value f (codes "order");
  replay = first_value f (codes "replay");
  steps = first_value f (codes "steps");
  patience = first_value f (codes "patience");
  edition = first_value f (codes "edition");
  explains = is_set (first_value f (codes "explain"));
  files = files_found f;
}

abbrev pub request_found : Text → Found → Request
request_found name f = request_to name (options_found f)
