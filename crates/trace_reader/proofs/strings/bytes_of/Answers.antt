use Rattle.std.proofs.Common.{rules}
use Rattle.std.proofs.lemmas.Result.{err_from_is_err_and}
use Rattle.trace_reader.specs.Strings.{bytes_at, plain_len}
use Rattle.trace_reader.proofs.QuotedTexts.{plain_added, shrinks_behind, goes_on, is_closed, fails}
use Rattle.trace_reader.proofs.strings.bytes_of.Goals as goal

pub returns-in-Some : goal.returns-in-Some
returns-in-Some c =
    let added = plain_added c.bytes.text.items c.bytes.rest.now c.add_plain.new.text.items c.in_ok-behind.behind.now (bytes_at c.args.bytes.now) c.in_ok-behind.ensures.text c.in_ok-behind.ensures.rest c.bytes.invariant in
    is_closed c.add_plain.new.text.items c.in_ok-behind.behind.now c.in-Some.after.now (bytes_at c.args.bytes.now) (search rules) added

pub returns-in_err-byte : goal.returns-in_err-byte
returns-in_err-byte c =
    let added = plain_added c.bytes.text.items c.bytes.rest.now c.add_plain.new.text.items c.in_ok-behind.behind.now (bytes_at c.args.bytes.now) c.in_ok-behind.ensures.text c.in_ok-behind.ensures.rest c.bytes.invariant in
    let p = err_from_is_err_and c.from_residual-in_err-byte.result c.from_residual-in_err-byte.ensures.1 in
    rw (p.1, p.2) (fails c.add_plain.new.text.items c.in_ok-behind.behind.now c.in_err-byte.field-0.0 (bytes_at c.args.bytes.now) (search rules) c.in_err-byte.ensures added)

pub bytes-smaller : goal.bytes-smaller
bytes-smaller c = shrinks_behind c.bytes.rest.now c.in_ok-behind.behind.now c.in_ok-byte.after.now (plain_len c.bytes.rest.now) c.in_ok-byte.byte c.in_ok-behind.ensures.rest (search rules)

pub bytes-preserved : goal.bytes-preserved
bytes-preserved c =
    let added = plain_added c.bytes.text.items c.bytes.rest.now c.add_plain.new.text.items c.in_ok-behind.behind.now (bytes_at c.args.bytes.now) c.in_ok-behind.ensures.text c.in_ok-behind.ensures.rest c.bytes.invariant in
    rw c.in_ok-push.ensures.items (goes_on c.add_plain.new.text.items c.in_ok-behind.behind.now c.in_ok-byte.after.now c.in_ok-byte.byte (bytes_at c.args.bytes.now) (search rules) added)
