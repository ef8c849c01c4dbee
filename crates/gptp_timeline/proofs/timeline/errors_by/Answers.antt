use Rattle.std.proofs.Common.{◌≡◌, sym, ◌∙◌, arith}
use Rattle.std.proofs.lemmas.Option.{same_Some}
use Rattle.gptp_timeline.proofs.ExactLemmas.{none_by}
use Rattle.gptp_timeline.proofs.timeline.errors_by.Goals as goal
use Rattle.gptp_timeline.proofs.timeline.errors_by.Goals.{in_default-via-in-Some+else-exact-to, in_default-via-in_default}

pub returns-in_default-clause-errors : goal.returns-in_default-clause-errors
returns-in_default-clause-errors c =
    none_by c.args.document.now c.args.from c.args.to c.exact_from.result c.exact_from.ensures (λ exact is by.
    elim c.in_default.branch [
      | in_default-via-in-Some+else-exact-to w ↦ (let same : exact ≡ w.in-Some.exact =
          same_Some exact w.in-Some.exact (sym is ∙ w.in-Some.is) in
          let late = w.if-exact-to.false in absurd (omega (arith, same, late, by)))
      | in_default-via-in_default w ↦ w.in_default.not-Some exact is
    ])
