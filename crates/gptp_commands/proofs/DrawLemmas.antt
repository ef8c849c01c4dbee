-- The generator of a seed answers each draw, within its bounds.
use Rattle.std.proofs.Common.{◌≡◌, ◌≤◌, ◌<◌, ◌+◌, ◌-◌, ◌%◌, ◌==◌, ℕ, Bool, true, false, cond, nat_lt, Option, None, refl, arith}
use Rattle.std.proofs.lemmas.Bool.{eqb-false}
use Rattle.std.proofs.lemmas.Nat.{mod_below}
use Rattle.rand_pcg.specs.Lcg.{Lcg}
use Rattle.rand_pcg.specs.Pcg.{pcg64}
use Rattle.gptp_links.specs.declared.bounds.Bounds.{Bounds}
use Rattle.gptp_links.specs.Bounds.{Fit, IsLawful}
use Rattle.gptp_links.specs.Draws.{delayed, drawn}
use Rattle.gptp_determinism.specs.GoingOn.{AnswersAll}
use Rattle.gptp_commands.specs.RunText.{draws}

module _ (b : Bounds) (fit : Fit b) where
  -- a delay by whether there is one alone, and an answer by whether there is no loss and whether the frame is lost
  abbrev delay_by : Lcg → Bool → ℕ × Lcg
  delay_by g one = cond one (b.min, g) (b.min + (pcg64 g).0 % (b.max - b.min + 1), (pcg64 g).1)

  abbrev answer_by : Lcg → Bool → Bool → Option ℕ × Lcg
  answer_by g lossless lost = cond lossless (delayed b g) (cond lost (None, (pcg64 g).1) (delayed b (pcg64 g).1))

  -- the delay of a frame that isn't lost lies within them
  delay_within : (g : Lcg) → IsLawful b (delayed b g).0
  delay_within g = by (b.min == b.max)
    where
      ordered : b.min ≤ b.max
      ordered = fit.ordered

      by : (one : Bool) → (b.min ≤ (delay_by g one).0) × ((delay_by g one).0 ≤ b.max)
      by true = (omega arith, ordered)
      by false =
          let order = ordered in
          let part : (pcg64 g).0 % (b.max - b.min + 1) < b.max - b.min + 1 =
          mod_below (pcg64 g).0 (b.max - b.min + 1) (omega arith) in
          (omega arith, omega (arith, order, part))

  -- and a frame is lost only where there is loss
  drawn_within : (g : Lcg) → IsLawful b (drawn b g).0
  drawn_within g = by (b.loss == 0) refl (nat_lt ((pcg64 g).0 % 1000) b.loss)
    where
      by : (lossless : Bool) → (b.loss == 0) ≡ lossless → (lost : Bool) → IsLawful b (answer_by g lossless lost).0
      by true is lost = delay_within g
      by false is true = eqb-false b.loss 0 is
      by false is false = delay_within (pcg64 g).1

pub draws_answer_all : AnswersAll draws
draws_answer_all bounds sent fate fit =
    ((drawn bounds fate).0, (drawn bounds fate).1, refl, drawn_within bounds fit fate)
