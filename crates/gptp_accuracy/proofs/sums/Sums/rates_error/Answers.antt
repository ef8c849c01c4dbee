use Rattle.std.proofs.Common.{◌∙◌}
use Rattle.gptp_accuracy.proofs.MachineLemmas.{unlike_back}
use Rattle.gptp_accuracy.proofs.sums.Sums.rates_error.Goals as goal

pub returns-clause-error : goal.returns-clause-error
returns-clause-error c =
    c.min.ensures
    ∙ unlike_back c.args.self.now c.from.result c.true_rate.result c.unsigned_abs.result c.requires c.from.ensures
    c.true_rate.ensures.rate c.true_rate.ensures.low c.true_rate.ensures.high c.unsigned_abs.ensures.value
