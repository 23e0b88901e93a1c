use Rattle.std.proofs.Common.{◌≡◌, ℕ, Bool, List, [], None, Option, Some, Result, Ok, Err, if◌then◌else◌, sym, subst, true}
use Rattle.std.specs.Prelude.{IfErr, OnErr}
use Rattle.std.proofs.lemmas.Result.{IfErr-weaker}
use Rattle.cli.specs.declared.fault.Fault.{Fault}
use Rattle.cli.specs.declared.fault.Fault.TheVariants.{Output}
use Rattle.cli.specs.CutShort.{IsTraceCut, in_file, in_output_trace}
use Rattle.cli.specs.Files.{Files}
use Rattle.cli.specs.Sinks.{AppendsFront}
use Rattle.cli.proofs.KnownFiles.{keeps_all}
use Rattle.cli.proofs.KnownOutput.{keeps_same}
use Rattle.cli.proofs.reporting.write_trace_text.Goals as goal

-- the output failed
in_output_by : {T : Type 0} (b : Bool) (name : List ℕ) (files : Option Files) (before after : Option (List ℕ)) (text : List ℕ) (r : Result T Fault) → true ≡ b → IfErr r (λ f. f ≡ Output) → OnErr r (AppendsFront before after text)
    → IfErr r (IsTraceCut (Some name) files files before after (if b then text else []))
in_output_by b name files before after text (Ok _) is refused front = tt
in_output_by b name files before after text (Err f) is refused front =
    subst (λ whole. IsTraceCut (Some name) files files before after (if whole then text else []) f) is
    (subst (IsTraceCut (Some name) files files before after text) (sym refused) (in_output_trace front (keeps_all None files)))

pub returns-then-is_output-clause-cut : goal.returns-then-is_output-clause-cut
returns-then-is_output-clause-cut g c =
    in_output_by _ c.args.name.now (g.N.Named.held c.args.named.now) (g.O.Write.contents c.args.out.now) (g.O.Write.contents c.write_output.new.out) c.args.text.now c.write_output.result c.if-is_output.ensures c.write_output.ensures.refused c.write_output.ensures.front

pub returns-else-is_output-clause-cut : goal.returns-else-is_output-clause-cut
returns-else-is_output-clause-cut g c = IfErr-weaker c.write_trace_file.result _ _ (λ f why. in_file (keeps_same (g.O.Write.contents c.args.out.now)) why) c.write_trace_file.ensures.refused
