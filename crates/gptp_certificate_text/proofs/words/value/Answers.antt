use Rattle.std.proofs.Common.{sym, ◌∙◌}
use Rattle.std.proofs.lemmas.List.{append_cancel_left}
use Rattle.gptp_certificate_text.proofs.WordLemmas.{if_none_weaker}
use Rattle.gptp_certificate_text.proofs.words.value.Goals as goal

pub returns-clause-absent : goal.returns-clause-absent
returns-clause-absent c = if_none_weaker c.word.result (λ none word rest is whole.
    none word rest is (append_cancel_left c.args.key.now _ _ (sym c.in_ok-after.ensures.found ∙ whole)))
    c.word.ensures.absent
