-- A link of which the facts and the invariants of the machine of gptp_pdelay_machine hold.
use Rattle.std.specs.Prelude.{ℕ}
use Rattle.gptp_pdelay_machine.specs.Facts.{Facts, IsGood}
use Rattle.gptp_pdelay_machine.specs.Measured.{MeterInv}
use Rattle.gptp_model.specs.World.{WorldState}
use Rattle.gptp_invariants.specs.DelayLinkView.{IsLinkOf, LinkPlace, reads_as_request, least_delay, meter, pair, reads_as_reply, link_setting}

-- old frames are gone at one time, and exchanges from the other on find nothing old; what is due is known, how far the
-- exchanges are, and what the port that asks has measured by them
pub record IsWatched (gone calm : ℕ) (at : LinkPlace) (w : WorldState) : Type 0 where
  pub link : IsLinkOf at w
  pub good : IsGood (link_setting at w link) gone calm
  pub facts : Facts (link_setting at w link) gone (pair at w link)
  pub inv : MeterInv (link_setting at w link) (least_delay at w link) reads_as_request reads_as_reply gone calm
      (meter at w link)
