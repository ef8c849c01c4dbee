-- Where the next time is another this one is told.
use Rattle.std.proofs.Common.{rules, ◌≤◌, ◌++◌, ◌∷◌, [], refl, subst, ap, ◌∙◌}
use Rattle.std.proofs.lemmas.Bool.{eq-eqb}
use Rattle.gptp_how_soon.specs.Walk.{WalkGoesOn}
use Rattle.gptp_how_soon.specs.declared.bounds.SettlingTime.{SettlingTime}
use Rattle.gptp_how_soon.proofs.times.tell.Goals as goal

pub returns-in_ok-go_on : goal.returns-in_ok-go_on
returns-in_ok-go_on c =
    let is = c.in_ok-time.ensures.is in (
      λ same. absurd (search rules),
      λ apart. (
        subst (λ (t : SettlingTime). WalkGoesOn t c.args.walk.now c.go_on.new.self) is c.in_ok-go_on.ensures,
        c.in_ok-push.ensures.items ∙ ap (λ (t : SettlingTime). c.args.times.now.items ++ t ∷ []) is,
        subst (λ (t : SettlingTime). t.watch ≤ 200000000000000) is c.in_ok-time.ensures.bound,
      ),
    )

pub returns-else-next-at : goal.returns-else-next-at
returns-else-next-at c =
    (λ same. (refl, refl), λ apart. absurd (apart (eq-eqb c.args.next c.args.at c.if-next-at.false)))
