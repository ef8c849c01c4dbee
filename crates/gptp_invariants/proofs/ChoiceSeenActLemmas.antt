-- Every act that changes nothing of the network is a step of the machine.
use Rattle.std.proofs.Common.{◌⊎◌, List, inl, inr}
use Rattle.gptp_links.specs.Fate.{Draw}
use Rattle.gptp_system.specs.State.{number}
use Rattle.gptp_scenario.specs.declared.change.Act.{Act}
use Rattle.gptp_scenario.specs.declared.change.Act.TheVariants.{Deliver, Expire, Change as Changing}
use Rattle.gptp_model.specs.declared.done.Done.{Done}
use Rattle.gptp_model.specs.Acts.{Acts}
use Rattle.gptp_model.specs.Sound.{IsSound}
use Rattle.gptp_model.specs.World.{WorldState}
use Rattle.gptp_bmca_machine.specs.Acts.{StationActs as SeenActs, Arrives, Drops}
use Rattle.gptp_invariants.specs.WorldEncodable.{IsEncodable}
use Rattle.gptp_invariants.specs.ChoiceSeenLaws.{IsNoChange}
use Rattle.gptp_invariants.specs.ChoiceView.{says_announce, view}
use Rattle.gptp_invariants.proofs.ChoiceSeenDeliveryLemmas.{delivers_seen}
use Rattle.gptp_invariants.proofs.ChoiceSeenExpiryLemmas.{expires_seen}

pub acts_seen : (act : Act) (w : WorldState) (draws : List Draw) (done : Done) (w' : WorldState) → IsNoChange act
    → IsSound w → IsEncodable w → Acts act w draws done w' → SeenActs says_announce (view w) (view w')
acts_seen (Deliver link direction) w draws done w' none sound encodable k =
    by (delivers_seen link direction k.octets w draws k.answer w' sound encodable k.delivers)
  where
    by : Arrives says_announce (view w) (view w') ⊎ Drops says_announce (view w) (view w')
        → SeenActs says_announce (view w) (view w')
    by (inl arrives) = inl arrives
    by (inr drops) = inr (inl drops)
acts_seen (Expire number timer) w draws done w' none sound encodable (told, k) =
    inr (inr (expires_seen k.place timer w draws w' sound encodable k.so))
acts_seen (Changing change) w draws done w' none sound encodable k = absurd none
