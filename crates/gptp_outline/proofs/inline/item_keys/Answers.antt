use Rattle.std.proofs.Common.{◌≡◌, ◌==◌, true, false, arith, length, sym}
use Rattle.std.proofs.lemmas.Grind.{common_steps}
use Rattle.std.proofs.lemmas.Result.{IfOk-weaker}
use Rattle.toml_parser.specs.Lexical.{first}
use Rattle.gptp_outline.proofs.InlineLemmas.{item_keys_none, item_keys_open, open_array}
use Rattle.gptp_outline.proofs.inline.item_keys.Goals as goal

pub returns-then-first-ne91 : goal.returns-then-first-ne91
returns-then-first-ne91 c d left is =
    let other : (first c.args.s.now == 91) ≡ false = grind (arith, common_steps) in
    rw c.new.ensures.items (sym (item_keys_none c.args.depth c.args.s.now other))

pub returns : goal.returns
returns c =
    let s = c.args.s.now in
    let bracket : (first s == 91) ≡ true = grind (arith, common_steps) in
    IfOk-weaker c.items_after.result _ _
    (λ items found d left is.
    let (x, read) = open_array c.args.depth s d left bracket is in
    sym (item_keys_open c.args.depth s _ bracket
    (rw (c.saturating_sub.ensures, c.skip.ensures.rest)
    at (found (length s) x left c.skip.ensures.shorter (rw (c.saturating_sub.ensures, c.skip.ensures.rest) read)))))
    c.items_after.ensures
