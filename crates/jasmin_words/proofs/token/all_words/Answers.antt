use Rattle.std.proofs.Common.{rules}
use Rattle.std.proofs.lemmas.List.{map_push}
use Rattle.jasmin_words.specs.Lexing.{view, views, words_of}
use Rattle.jasmin_words.proofs.Tokens.{token_at-shrinks, goes_on, is_done}
use Rattle.jasmin_words.proofs.token.all_words.Goals as goal

pub loop-all-smaller : goal.loop-all-smaller
loop-all-smaller c = token_at-shrinks c.loop-all.fresh c.loop-all.rest.now (view c.in-Some.token) c.in-Some.after.now (search rules)

pub loop-all-preserved : goal.loop-all-preserved
loop-all-preserved c =
    rw (c.in_ok-push.ensures.items, map_push view c.loop-all.all.items c.in-Some.token) (goes_on (views c.loop-all.all.items) c.loop-all.fresh c.loop-all.rest.now (view c.in-Some.token) c.in-Some.after.now (words_of c.args.line.now) (search rules) c.loop-all.invariant)

pub returns : goal.returns
returns c = is_done (views c.loop-all.all.items) c.loop-all.fresh c.loop-all.rest.now (words_of c.args.line.now) (search rules) c.loop-all.invariant
