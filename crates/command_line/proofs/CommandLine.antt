-- What the getters of `clap` read, by the rows.
use Rattle.std.proofs.Common.{◌≡◌, ◌∙◌, refl, rules, List, Option, Some, None, option_map, codes}
use Rattle.clap.specs.Walk.{rows_of}
use Rattle.clap.specs.Words.{Row, Text, subcommand_name_of, subcommand_rows_of}
use Rattle.clap.specs.declared.parser.matches.ArgMatches.{ArgMatches}
use Rattle.clap.specs.declared.parser.matches.ArgMatches.TheViews.{out-ArgMatches}
use Rattle.clap.specs.declared.parser.matches.Found.{Found}
use Rattle.clap.proofs.WalkLemmas.{first_value-rows, raw_values-rows}
use Rattle.command_line.specs.CommandLine.{request_by, request_found}

pub found_by_rows : (name : Text) (f : Found) → request_found name f ≡ request_by (Some (name, rows_of f))
found_by_rows name f = rw (first_value-rows f (codes "mains"), first_value-rows f (codes "trace"), first_value-rows f (codes "explain"), first_value-rows f (codes "order"), first_value-rows f (codes "replay"), first_value-rows f (codes "steps"), first_value-rows f (codes "patience"), first_value-rows f (codes "edition"), raw_values-rows f (codes "files")) refl

-- the subcommand that a parse entered, from its name and its rows
pub entered_is : (o : Option (Text × List Row)) (name : Text) (rows : List Row) → Some name ≡ option_map (λ p. p.0) o → Some rows ≡ option_map (λ p. p.1) o → o ≡ Some (name, rows)
entered_is None name rows n r = search rules
entered_is (Some p) name rows n r = search rules

fuse : {X Y Z : Type 0} (f : Y → Z) (g : X → Y) (o : Option X) → option_map (λ x. f (g x)) o ≡ option_map f (option_map g o)
fuse f g None = refl
fuse f g (Some x) = refl

name_in_rows : (m : ArgMatches) → subcommand_name_of m ≡ option_map (λ p. p.0) (subcommand_rows_of m)
name_in_rows m = fuse (λ p. p.0) _ (out-ArgMatches m).subcommand

pub entered_by : (m : ArgMatches) (name : Text) (rows : List Row) → Some name ≡ subcommand_name_of m → Some rows ≡ option_map (λ p. p.1) (subcommand_rows_of m)
    → subcommand_rows_of m ≡ Some (name, rows)
entered_by m name rows n r = entered_is (subcommand_rows_of m) name rows (n ∙ name_in_rows m) r

none_of : (o : Option (Text × List Row)) → None ≡ option_map (λ p. p.0) o → o ≡ None
none_of None n = refl
none_of (Some p) n = cc

-- a parse that entered no subcommand
pub entered_none : (m : ArgMatches) → None ≡ subcommand_name_of m → subcommand_rows_of m ≡ None
entered_none m n = none_of (subcommand_rows_of m) (n ∙ name_in_rows m)
