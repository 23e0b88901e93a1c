-- Of the subcommands that the words don't name `clap` reads the names alone: without their options it finds the same.
use Rattle.std.proofs.Common.{◌≡◌, ◌∙◌, ◌||◌, ◌&&◌, Bool, cond, true, false, refl, sym, ap, subst, true≢false, List, [], ◌∷◌, drop, Option, Some, None, option_map, codes, ap₂, ◌++◌, is_some, ℕ}
use Rattle.std.specs.Bool.{Decides, ⊤}
use Rattle.std.specs.Option.{option_map_or}
use Rattle.std.specs.List.{find, fold, list_any}
use Rattle.std.specs.Str.{bytes_eq}
use Rattle.std.proofs.lemmas.Slice.Eq.{bytes_eq-Decides}
use Rattle.clap.specs.Lexer.{long_of, short_of}
use Rattle.clap.specs.Faults.{entered_fault, level_fault}
use Rattle.clap.specs.Kinds.{Kinds}
use Rattle.clap.specs.Simple.{App, Shape, built, built_leaf, entered, inherited, label_of, marked_built, names_of, rows_at, with_leaf_noted, with_subcommand}
use Rattle.clap.specs.Walk.{Held, Names, Outcome, Rule, Step, Text, Waiting, Walk, after_flag, after_step, answers_to, arg_by_index, done, idle, long_or_other, next, nothing_held, option, plain, plain_word, positional, refused, short_or_plain, stop_after, subcommand, subcommand_met, subcommand_or_other, to_positional, trailing, value, waits, walk, walk_from, walked, walked_from, word_met}
use Rattle.clap.specs.Words.{fault_of, is_simple, is_simple_and_free, new_app, subcommand_of}
use Rattle.clap.proofs.OnLiterals.{clap_on_literals}
use Rattle.command_line.specs.CommandLine.{bare_line, command_line, file_words, flag_named, has_name, line_for, line_of, option_named, subcommand_for, subcommand_named, with_run_options, with_trace}

abbrev is_entry : Step → Bool
is_entry (subcommand name) = true
is_entry _ = false

-- only a name makes a word a subcommand
plain_enters_none : (c : List Rule) (waiting : Waiting) (word : Text) (h : Held) → is_entry (plain_word c waiting word h).1 ≡ false
plain_enters_none c idle word h = refl
plain_enters_none c (option id) word h = refl
plain_enters_none c positional word h = refl

flag_enters_none : (c : List Rule) (waiting : Waiting) (word : Text) (h : Held) (o : Outcome) → is_entry (after_flag c waiting word h o).1 ≡ false
flag_enters_none c waiting word h done = refl
flag_enters_none c waiting word h (waits id) = refl
flag_enters_none c waiting word h plain = plain_enters_none c waiting word h
flag_enters_none c waiting word h refused = plain_enters_none c waiting word h

short_enters_none : (c : List Rule) (waiting : Waiting) (word : Text) (flags : Option Text) (h : Held) → is_entry (short_or_plain c waiting word flags h).1 ≡ false
short_enters_none c waiting word (Some flags) h = flag_enters_none c waiting word _ _
short_enters_none c waiting word None h = plain_enters_none c waiting word h

long_enters_none : (c : List Rule) (waiting : Waiting) (word : Text) (o : Option (Text × Option Text)) (h : Held) → is_entry (long_or_other c waiting word o h).1 ≡ false
long_enters_none c waiting word (Some p) h = flag_enters_none c waiting word _ _
long_enters_none c waiting word None h = short_enters_none c waiting word (short_of word) h

abbrev HasNoAliases : Names → Type 0
HasNoAliases [] = ⊤
HasNoAliases (s ∷ rest) = (s.1 ≡ []) × HasNoAliases rest

abbrev Each : (Text → Type 0) → List Text → Type 0
Each G [] = ⊤
Each G (word ∷ rest) = G word × Each G rest

-- what a walk stops at, of names without aliases, is one of its words
module _ (c : List Rule) (G : Text → Type 0) where
  found_good : (names : Names) → HasNoAliases names → (word name : Text) → G word → option_map (λ s. s.0) (find (answers_to word) names) ≡ Some name → G name
  found_good [] bare word name good e = cc
  found_good (s ∷ rest) bare word name good e = go (bytes_eq s.0 word) (bytes_eq-Decides s.0 word) (found_good rest bare.1 word name good)
      (subst (λ aliases. option_map (λ (t : Text × List Text). t.0) (cond (bytes_eq s.0 word || list_any (λ alias. bytes_eq alias word) aliases) (Some s) (find (answers_to word) rest)) ≡ Some name) bare.0 e)
    where
      go : (b : Bool) → Decides b (s.0 ≡ word) → (option_map (λ s. s.0) (find (answers_to word) rest) ≡ Some name → G name)
          → option_map (λ s. s.0) (cond (b || false) (Some s) (find (answers_to word) rest)) ≡ Some name → G name
      go true d later found = subst G (the_name found) good
        where
          the_name : Some s.0 ≡ Some name → word ≡ name
          the_name found = let same = d.0 refl in cc
      go false d later found = later found

  met_good : (names : Names) → HasNoAliases names → (waiting : Waiting) (word name : Text) → G word → subcommand_met names waiting word ≡ Some name → G name
  met_good names bare idle word name good e = found_good names bare word name good e
  met_good names bare (option id) word name good e = cc
  met_good names bare positional word name good e = cc

  entry_good : (step : Step) (name : Text) → is_entry step ≡ false → step ≡ subcommand name → G name
  entry_good step name none e = absurd (true≢false (sym (ap is_entry e) ∙ none))

  other_good : (met : Option Text) (waiting : Waiting) (position : ℕ) (word name : Text) (h : Held) → ((name : Text) → met ≡ Some name → G name)
      → (subcommand_or_other c met waiting position word h).1 ≡ subcommand name → G name
  other_good (Some found) waiting position word name h good e = good name cc
  other_good None waiting position word name h good e = go (bytes_eq word (45 ∷ 45 ∷ [])) e
    where
      go : (b : Bool) → (cond b (h, trailing position) (long_or_other c waiting word (long_of word) h)).1 ≡ subcommand name → G name
      go true e = cc
      go false e = entry_good _ name (long_enters_none c waiting word (long_of word) h) e

  word_good : (names : Names) → HasNoAliases names → (is_trailing : Bool) (waiting : Waiting) (position : ℕ) (word : Text) (h : Held) → G word → (name : Text)
      → (word_met c names is_trailing waiting position word h).1 ≡ subcommand name → G name
  word_good names bare true waiting position word h good name e = cc
  word_good names bare false waiting position word h good name e = other_good (subcommand_met names waiting word) waiting position word name h (λ n. met_good names bare waiting word n good) e

  abbrev IsGood : Option (Text × List Text) → Type 0
  IsGood stop = (p : Text × List Text) → stop ≡ Some p → G p.0

  step_good : (word : Text) (w : Walk) (h : Held) (step : Step) → IsGood w.stopped → ((name : Text) → step ≡ subcommand name → G name) → IsGood (after_step c word w h step).stopped
  step_good word w h (next waiting) was is p e = was p e
  step_good word w h (trailing position) was is p e = was p e
  step_good word w h (subcommand name) was is p e = subst G (the_name e) (is name refl)
    where
      the_name : Some (name, []) ≡ Some p → name ≡ p.0
      the_name e = cc
  step_good word w h value was is p e = go (arg_by_index c w.position) e
    where
      go : (o : Option Rule) → (to_positional c o word w h).stopped ≡ Some p → G p.0
      go None e = was p e
      go (Some a) e = cc

  turn_good : (names : Names) → HasNoAliases names → (w : Walk) (word : Text) → G word → IsGood w.stopped → IsGood (walked c names w word).stopped
  unfolding walked
  turn_good names bare w word good was = go w.stopped refl
    where
      go : (stop : Option (Text × List Text)) → stop ≡ w.stopped → IsGood (walked_from c names stop w word).stopped
      go (Some q) is p e = subst G (the_name e) (was q (sym is))
        where
          the_name : Some (q.0, q.1 ++ word ∷ []) ≡ Some p → q.0 ≡ p.0
          the_name e = cc
      go None is p e = step_good word w _ _ was (word_good names bare w.is_trailing w.waiting w.position word w.held good) p e

  walk_good : (names : Names) → HasNoAliases names → (words : List Text) (w : Walk) → Each G words → IsGood w.stopped → IsGood (fold (walked c names) w words).stopped
  walk_good names bare [] w all was = was
  walk_good names bare (word ∷ rest) w all was = walk_good names bare rest (walked c names w word) all.1 (turn_good names bare w word all.0 was)

or_right : (b c : Bool) → c ≡ true → (b || c) ≡ true
or_right true c e = refl
or_right false c e = e

each_weaker : (G H : Text → Type 0) → ((word : Text) → G word → H word) → (words : List Text) → Each G words → Each H words
each_weaker G H weaker [] all = tt
each_weaker G H weaker (word ∷ rest) all = (weaker word all.0, each_weaker G H weaker rest all.1)

are_words : (words : List Text) → Each (λ word. has_name words word ≡ true) words
are_words [] = tt
are_words (word ∷ rest) =
    (rw ((bytes_eq-Decides word word).1 refl) refl, each_weaker (λ t. has_name rest t ≡ true) (λ t. has_name (word ∷ rest) t ≡ true) (λ t is. or_right (bytes_eq word t) (has_name rest t) is) rest (are_words rest))

are_arguments : (words : List Text) → Each (λ word. has_name words word ≡ true) (drop 1 words)
are_arguments [] = tt
are_arguments (word ∷ rest) = (are_words (word ∷ rest)).1

-- a subcommand with its options, or by its name alone
abbrev known : Bool → Text → App
known b name = cond b (subcommand_named name) (new_app name)

abbrev built_sub : Shape → Bool → Text → Shape
built_sub above b name = built_leaf (inherited above (known b name).top)

label_is : (above : Shape) (b : Bool) (name : Text) → label_of (built_sub above b name) ≡ (name, [])
unfolding subcommand_named with_trace with_run_options
label_is above true name = refl
label_is above false name = refl

abbrev line_by : Bool → Bool → Bool → Bool → App
line_by r c n e = with_subcommand (with_subcommand (with_subcommand (with_subcommand bare_line (known r (codes "run")).top) (known c (codes "check")).top) (known n (codes "needs")).top) (known e (codes "explain")).top

-- the top of the command line, as it is built
abbrev above : Shape
above = with_leaf_noted (marked_built (record bare_line.top { is_leaf = false }))

abbrev names : Names
names = (codes "run", []) ∷ (codes "check", []) ∷ (codes "needs", []) ∷ (codes "explain", []) ∷ (codes "help", []) ∷ []

names_are : (r c n e : Bool) → names_of (built (line_by r c n e)) ≡ names
unfolding bare_line
names_are r c n e = λ i. label_is above r (codes "run") i ∷ label_is above c (codes "check") i ∷ label_is above n (codes "needs") i ∷ label_is above e (codes "explain") i ∷ (codes "help", []) ∷ []

module _ (words : List Text) where
  abbrev good : Text → Type 0
  good name = has_name words name ≡ true

  -- a subcommand that is found is named, so its options are there
  one_found : (above : Shape) (sub name : Text) (rest all : Option Shape) → good name → rest ≡ all
      → cond (answers_to name (label_of (built_sub above (has_name words sub) sub))) (Some (built_sub above (has_name words sub) sub)) rest
      ≡ cond (answers_to name (label_of (built_sub above true sub))) (Some (built_sub above true sub)) all
  one_found above sub name rest all is same = go (has_name words sub) refl
    where
      go : (b : Bool) → has_name words sub ≡ b → cond (answers_to name (label_of (built_sub above b sub))) (Some (built_sub above b sub)) rest
          ≡ cond (answers_to name (label_of (built_sub above true sub))) (Some (built_sub above true sub)) all
      go true h = ap (cond (answers_to name (label_of (built_sub above true sub))) (Some (built_sub above true sub))) same
      go false h = ap (λ label. cond (answers_to name label) (Some (built_sub above false sub)) rest) (label_is above false sub)
          ∙ unnamed (bytes_eq sub name) (bytes_eq-Decides sub name)
          ∙ ap (λ label. cond (answers_to name label) (Some (built_sub above true sub)) all) (sym (label_is above true sub))
        where
          unnamed : (b : Bool) → Decides b (sub ≡ name) → cond (b || false) (Some (built_sub above false sub)) rest ≡ cond (b || false) (Some (built_sub above true sub)) all
          unnamed true d = absurd (true≢false (sym is ∙ ap (has_name words) (sym (d.0 refl)) ∙ h))
          unnamed false d = same

  find_same : (name : Text) → good name → find (λ s. answers_to name (label_of s)) (built (line_for words)).subs ≡ find (λ s. answers_to name (label_of s)) (built command_line).subs
  unfolding line_for subcommand_for command_line bare_line
  find_same name is = one_found above (codes "run") name _ _ is (one_found above (codes "check") name _ _ is (one_found above (codes "needs") name _ _ is (one_found above (codes "explain") name _ _ is refl)))

  entered_same : (stop : Option (Text × List Text)) → ((p : Text × List Text) → stop ≡ Some p → good p.0) → entered (built (line_for words)) stop ≡ entered (built command_line) stop
  entered_same None is = refl
  entered_same (Some p) is = ap (option_map (λ s. rows_at s p.1)) (find_same p.0 (is p refl))

  fault_same : (stop : Option (Text × List Text)) → ((p : Text × List Text) → stop ≡ Some p → good p.0) → entered_fault (built (line_for words)) stop ≡ entered_fault (built command_line) stop
  fault_same None is = refl
  fault_same (Some p) is = ap (λ found. option_map_or (λ s. level_fault s [] nothing_held p.1 false []) found []) (find_same p.0 (is p refl))

  abbrev stop_by : Names → Option (Text × List Text)
  stop_by ns = stop_after (built command_line).top.rules ns (drop 1 words)

  stop_good : (p : Text × List Text) → stop_by names ≡ Some p → good p.0
  stop_good = walk_good (built command_line).top.rules good names (refl, (refl, (refl, (refl, (refl, tt))))) (drop 1 words) (walk_from nothing_held) (are_arguments words) (λ p e. cc)

  names_for : names_of (built (line_for words)) ≡ names
  unfolding line_for subcommand_for
  names_for = names_are (has_name words (codes "run")) (has_name words (codes "check")) (has_name words (codes "needs")) (has_name words (codes "explain"))

  names_of_all : names_of (built command_line) ≡ names
  unfolding command_line
  names_of_all = names_are true true true true

  pub same_rows : subcommand_of (line_for words) words ≡ subcommand_of command_line words
  unfolding line_for command_line bare_line
  same_rows = ap (λ ns. entered (built (line_for words)) (stop_by ns)) names_for ∙ entered_same (stop_by names) stop_good ∙ ap (λ ns. entered (built command_line) (stop_by ns)) (sym names_of_all)

  abbrev fault_by : App → Names → Kinds
  fault_by a ns = level_fault (built command_line).top ns nothing_held (drop 1 words) (is_some (entered a (stop_by ns))) (entered_fault a (stop_by ns))

  pub same_faults : fault_of (line_for words) words ≡ fault_of command_line words
  unfolding line_for command_line bare_line
  same_faults = ap (fault_by (built (line_for words))) names_for
      ∙ ap₂ (λ found fault. level_fault (built command_line).top names nothing_held (drop 1 words) (is_some found) fault) (entered_same (stop_by names) stop_good) (fault_same (stop_by names) stop_good)
      ∙ ap (fault_by (built command_line)) (sym names_of_all)

told : (r c n e : Bool) → is_simple_and_free (line_by r c n e) ≡ true
unfolding clap_on_literals bare_line subcommand_named with_trace with_run_options option_named flag_named file_words
told true true true true = refl
told true true true false = refl
told true true false true = refl
told true true false false = refl
told true false true true = refl
told true false true false = refl
told true false false true = refl
told true false false false = refl
told false true true true = refl
told false true true false = refl
told false true false true = refl
told false true false false = refl
told false false true true = refl
told false false true false = refl
told false false false true = refl
told false false false false = refl

-- the command line is one of which `clap` tells all
pub is_told_of_faults : (words : List Text) → is_simple_and_free (line_for words) ≡ true
unfolding line_for subcommand_for
is_told_of_faults words = told (has_name words (codes "run")) (has_name words (codes "check")) (has_name words (codes "needs")) (has_name words (codes "explain"))

first_true : (b c : Bool) → (b && c) ≡ true → b ≡ true
first_true true c e = refl
first_true false c e = cc

pub is_told : (words : List Text) → is_simple (line_for words) ≡ true
is_told words = first_true _ _ (is_told_of_faults words)
