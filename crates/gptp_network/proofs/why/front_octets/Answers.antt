-- The front is no longer than what is kept.
use Rattle.std.proofs.Common.{take, ap, ◌∙◌}
use Rattle.std.proofs.lemmas.List.{take_min}
use Rattle.gptp_network.proofs.why.front_octets.Goals as goal

pub returns : goal.returns
returns c =
    let text = c.args.text.now in
    c.few_octets.ensures ∙ c.split_at.ensures.front ∙ ap (λ n. take n text) c.min.ensures ∙ take_min 64 text
