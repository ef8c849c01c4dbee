-- At the end all are written.
use Rattle.std.proofs.Common.{◌≡◌, ◌<◌, length, take, ap, ◌∙◌, arith}
use Rattle.std.proofs.Output.{has_written_of_eq}
use Rattle.std.specs.List.{flat_map}
use Rattle.std.proofs.lemmas.Bool.Decides.{nat_tests}
use Rattle.std.proofs.lemmas.List.{take_all, take_min}
use Rattle.gptp_lint.specs.Unread.{escaped_octet}
use Rattle.gptp_lint.proofs.EscapedLemmas.{front_word}
use Rattle.gptp_lint.proofs.escaped.EscapedDisplay.fmt.Goals as goal

pub returns-clause-writes : goal.returns-clause-writes
returns-clause-writes g c = λ plain _.
    let text = c.args.self.now.0.now in
    let empty = c.is_empty.ensures in
    let not_empty = c.if-is_empty.false in
    let some : 0 < length text = grind (arith, nat_tests) in
    let front = c.split_at.result.0.now in
    let first : front ≡ take 64 text =
    c.split_at.ensures.front ∙ ap (λ n. take n text) c.min.ensures ∙ take_min 64 text in
    let all : take c.loop-octet.octet-index front ≡ front =
    take_all c.loop-octet.octet-index front c.loop-octet-test.false in
    let shown : take c.loop-octet.octet-index front ≡ take 64 text = all ∙ first in
    has_written_of_eq _ _ _ _ _ (ap (flat_map escaped_octet) shown ∙ front_word text some)
    (c.loop-octet.invariant plain)
