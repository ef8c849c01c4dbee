use Rattle.std.proofs.Common.{◌≡◌, ◌+◌, ◌*◌, ap, ◌∙◌, arith}
use Rattle.std.specs.Prelude.{min}
use Rattle.std.specs.Int.{div_ceil}
use Rattle.gptp_pdelay.specs.GoodLink.{ceil_div}
use Rattle.gptp_accuracy.proofs.MachineLemmas.{rounded_up}
use Rattle.gptp_accuracy.proofs.sums.rate_error.Goals as goal

pub returns-clause-error : goal.returns-clause-error
returns-clause-error c =
    let whole : c.div_ceil-error.result ≡ ceil_div (2202000000000 * c.args.jitter) c.args.interval =
    c.div_ceil-error.ensures ∙ ap (λ n. div_ceil (2202000000000 * n) c.from-2.result) c.from.ensures
    ∙ ap (div_ceil (2202000000000 * c.args.jitter)) c.from-2.ensures
    ∙ rounded_up (2202000000000 * c.args.jitter) c.args.interval (omega (arith, c.requires.interval)) in
    ap (λ n. n + 4) (c.min.ensures ∙ ap (λ n. min n 879609302) whole)
