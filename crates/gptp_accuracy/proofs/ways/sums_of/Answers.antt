use Rattle.std.proofs.Common.{◌≡◌, ◌∙◌, get_or, unwrap_or, ap, arith}
use Rattle.std.proofs.lemmas.Option.{get_or_from_slice_get}
use Rattle.gptp_accuracy.proofs.ways.sums_of.Goals as goal

pub returns-in-Some : goal.returns-in-Some
returns-in-Some c = λ place to has there.
    let sums = c.args.sums.now in
    let other = c.at_root.result in
    let only = c.in-Some.ensures.only place has in
    let same : c.in-Some.place ≡ place = cc in
    let found = c.get.ensures.lookup.4 (omega arith) other in
    c.unwrap_or.ensures ∙ ap (λ o. unwrap_or o other) c.copied.ensures ∙ found
    ∙ ap (λ k. get_or sums k other) same ∙ get_or_from_slice_get sums place to other there

pub returns-in-None : goal.returns-in-None
returns-in-None c = λ place to has there.
    let only = c.in-None.ensures.only place has in absurd cc
