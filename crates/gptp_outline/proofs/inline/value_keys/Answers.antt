use Rattle.std.proofs.Common.{◌≡◌, ◌==◌, true, false, arith, length, sym}
use Rattle.std.proofs.lemmas.Grind.{common_steps}
use Rattle.std.proofs.lemmas.Result.{IfOk-weaker}
use Rattle.toml_parser.specs.Lexical.{first}
use Rattle.gptp_outline.proofs.InlineLemmas.{keys_none, keys_open, open_table}
use Rattle.gptp_outline.proofs.inline.value_keys.Goals as goal

pub returns-then-first-ne123 : goal.returns-then-first-ne123
returns-then-first-ne123 c d left is =
    let other : (first c.args.s.now == 123) ≡ false = grind (arith, common_steps) in
    rw c.new.ensures.items (sym (keys_none c.args.depth c.args.s.now other))

pub returns : goal.returns
returns c =
    let s = c.args.s.now in
    let brace : (first s == 123) ≡ true = grind (arith, common_steps) in
    IfOk-weaker c.keys_after.result _ _
    (λ keys found d left is.
    let (x, read) = open_table c.args.depth s d left brace is in
    sym (keys_open c.args.depth s _ brace
    (rw (c.saturating_sub.ensures, c.skip.ensures.rest)
    at (found (length s) x left c.skip.ensures.shorter (rw (c.saturating_sub.ensures, c.skip.ensures.rest) read)))))
    c.keys_after.ensures
