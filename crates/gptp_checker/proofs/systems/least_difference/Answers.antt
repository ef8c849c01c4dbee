use Rattle.std.proofs.Common.{◌<◌, ◌≤◌, ℕ, arith}
use Rattle.std.proofs.lemmas.Bool.Decides.{nat_tests}
use Rattle.gptp_checker.specs.Located.{IsMissing}
use Rattle.gptp_checker.proofs.LocatedLemmas.{least_of_missing, least_of_strange, none_missing, none_strange, none_weaker, some_weaker, systems_right}
use Rattle.gptp_checker.proofs.systems.least_difference.Goals as goal
use Rattle.gptp_checker.proofs.systems.least_difference.Goals.{in_default-least_missing-via-in-Some-least_missing+else-lt, in_default-least_missing-via-in_default-least_missing}

pub returns-in_default-clause-some : goal.returns-in_default-clause-some
returns-in_default-clause-some c =
    let g = c.args.snapshot.now in
    let lines = c.args.certificate.now.lines in
    some_weaker _ _ c.least_missing.result
    (λ v least. least_of_missing g lines v least (λ m below. none_strange g lines c.in_default.ensures.none m))
    c.least_missing.ensures.some

pub returns-in_default-clause-none : goal.returns-in_default-clause-none
returns-in_default-clause-none c =
    let g = c.args.snapshot.now in
    let lines = c.args.certificate.now.lines in
    none_weaker _ _ c.least_missing.result
    (systems_right g lines c.well_formed-2.ensures.rising c.well_formed-3.ensures.order.clocks
    c.well_formed-3.ensures.bare c.in_default.ensures.none)
    c.least_missing.ensures.none

pub returns-in-Some-least_missing-clause-some : goal.returns-in-Some-least_missing-clause-some
returns-in-Some-least_missing-clause-some c =
    let strange = c.in-Some.ensures.some in
    let before : c.in-Some-least_missing.missing < c.in-Some.strange = grind (arith, nat_tests) in
    least_of_missing c.args.snapshot.now c.args.certificate.now.lines c.in-Some-least_missing.missing
    c.in-Some-least_missing.ensures.some (λ m below. strange.1 m (omega arith))

pub returns-in_default-least_missing-clause-some : goal.returns-in_default-least_missing-clause-some
returns-in_default-least_missing-clause-some c =
    let g = c.args.snapshot.now in
    let lines = c.args.certificate.now.lines in
    let none : (m : ℕ) → m < c.in-Some.strange → IsMissing g lines m → ⊥ = elim c.in_default-least_missing.branch [
      | in_default-least_missing-via-in-Some-least_missing+else-lt w ↦
          λ m below.
          let late : c.in-Some.strange ≤ w.in-Some-least_missing.missing = grind (arith, nat_tests) in
          w.in-Some-least_missing.ensures.some.1 m (omega arith)
      | in_default-least_missing-via-in_default-least_missing w ↦
          λ m below. none_missing g lines w.in_default-least_missing.ensures.none m
    ] in
    least_of_strange g lines c.in-Some.strange c.in-Some.ensures.some none
