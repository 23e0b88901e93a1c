use Rattle.std.proofs.Common.{None}
use Rattle.clap.specs.Walk.{texts}
use Rattle.cli.proofs.Refused.{wrong_words_refused}
use Rattle.clap.specs.Words.{kind_of}
use Rattle.cli.specs.CutShort.{in_words}
use Rattle.cli.proofs.KnownFiles.{keeps_all}
use Rattle.cli.proofs.serving.serve.Goals as goal

pub returns-in-Err-clause-refused : goal.returns-in-Err-clause-refused
returns-in-Err-clause-refused g c = λ mended. wrong_words_refused (g.N.Named.held c.args.named.now) (g.E.Write.contents c.args.err.now) (g.E.Write.contents c.tell_words.new.err) (texts c.args.words.now) c.in-Err.error c.in-Err.ensures.fails (c.tell_words.ensures.wrong mended)

pub returns-in-Err-clause-cut : goal.returns-in-Err-clause-cut
returns-in-Err-clause-cut g c = λ three. in_words (kind_of c.in-Err.error) c.in-Err.ensures.fails (keeps_all None (g.N.Named.held c.args.named.now)) (c.tell_words.ensures.cut three)
