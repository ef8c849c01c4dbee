use Rattle.std.proofs.lemmas.Result.{IfOk-weaker}
use Rattle.gptp_commands.proofs.check.judge_at.Goals as goal

pub returns-clause-judges : goal.returns-clause-judges
returns-clause-judges c =
    IfOk-weaker c.judge.result _ _ (λ o judged. (
      judged.0,
      (
        c.in_ok-snapshot.snapshot,
        rw c.moment_of-at.ensures at c.in_ok-snapshot.ensures,
        c.well_formed-2.ensures.network,
        judged.1,
      ),
      judged.2,
    ))
    c.judge.ensures.judges
