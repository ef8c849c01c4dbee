use Rattle.std.proofs.Common.{refl}
use Rattle.std.proofs.lemmas.Result.{IfOk-weaker}
use Rattle.gptp_accuracy.specs.AccuracyText.{accuracy_lines, error_is_exceeded}
use Rattle.gptp_commands.proofs.accuracy.tell_accuracy.Goals as goal

pub returns-clause-tells : goal.returns-clause-tells
returns-clause-tells c =
    let errors = c.in_ok-errors.errors in
    IfOk-weaker c.show.result _ _ (λ o shown. (
      accuracy_lines c.args.options errors,
      record {
        exceeded = error_is_exceeded c.args.options errors;
        text = record {
          errors = errors;
          are = rw c.moment_of.ensures at c.in_ok-errors.ensures;
          shown = refl;
          exceeded_is = refl;
        };
        status_is = shown.0;
      },
      shown.1,
    ))
    c.show.ensures.shows
