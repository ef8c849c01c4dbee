-- An act of a world, seen at a link.
use Rattle.std.specs.Prelude.{◌≡◌, ℕ}
use Rattle.gptp_model.specs.World.{WorldState}
use Rattle.gptp_pdelay_machine.specs.Facts.{IsSentInTime, IsSentLate}
use Rattle.gptp_pdelay_machine.specs.Meter.{Meter, MeterActs}
use Rattle.gptp_pdelay_machine.specs.Setting.{Setting}
use Rattle.gptp_invariants.specs.DelayLinkView.{IsLinkOf, LinkPlace, reads_as_request, least_delay, meter, reads_as_reply, link_setting}

-- the link stands as it did, with its bounds, and what is seen of it becomes what this allows
pub record IsSeenAtLink (So : Setting → Meter → Meter → Type 0) (at : LinkPlace) (w w' : WorldState) (l : IsLinkOf at w)
    : Type 0 where
  pub after : IsLinkOf at w'
  pub settled : link_setting at w' after ≡ link_setting at w l
  pub bounds : after.channel.bounds ≡ l.channel.bounds
  pub so : So (link_setting at w l) (meter at w l) (meter at w' after)

-- one act of the machine; what is sent by it is due in time, and takes the least delay or more
pub record ActsInTime (least : ℕ) (k : Setting) (m m' : Meter) : Type 0 where
  pub acts : MeterActs k reads_as_request reads_as_reply m m'
  pub out : IsSentInTime k m.pair.time m.pair.out m'.pair.out
  pub back : IsSentInTime k m.pair.time m.pair.back m'.pair.back
  pub out_late : IsSentLate least m.pair.time m.pair.out m'.pair.out
  pub back_late : IsSentLate least m.pair.time m.pair.back m'.pair.back

abbrev pub IsOneAct : (at : LinkPlace) (w w' : WorldState) → IsLinkOf at w → Type 0
IsOneAct at w w' l = IsSeenAtLink (ActsInTime (least_delay at w l)) at w w' l
