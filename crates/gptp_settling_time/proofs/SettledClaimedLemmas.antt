-- In a world that is seen to have settled claims are made of all links always, from each time by which its ports were
-- capable, where nothing lapses.
use Rattle.std.proofs.Common.{ℕ, inl, inr}
use Rattle.gptp_setup.specs.SettlingParams.{SettlingParams}
use Rattle.gptp_scenario.specs.Calm.{NothingLapses}
use Rattle.gptp_model.specs.World.{WorldState}
use Rattle.gptp_invariants.specs.ChoiceCalm.{paths_with}
use Rattle.gptp_invariants.specs.DelayLinkView.{LinkPlace}
use Rattle.gptp_invariants.specs.WorldNews.{AreReadyBy, AreSilentBy, IsNews}
use Rattle.gptp_settling_time.proofs.AlwaysClaimedLemmas.{AreHeard, IsClaimedAlways}
use Rattle.gptp_settling_time.proofs.HeardLemmas.{IsHeardAt, IsOn, StaysCapableAt, heard_link}
use Rattle.gptp_settling_time.proofs.RestClaimedLemmas.{AreOn}
use Rattle.gptp_settling_time.proofs.SettledSeenLemmas.{HasSettledSeen, always_seen, news_seen}
use Rattle.gptp_settling_time.proofs.StandsLikeLemmas.{none_short}

-- a port that is capable now stays so, whatever was claimed of its link
on_stays : (p : SettlingParams) (start : ℕ) (at : LinkPlace) (w : WorldState) → (x : IsHeardAt p start at w)
    → IsOn at w (heard_link p start at w x) → StaysCapableAt p at w
on_stays p start at w (inl (first, x)) on = inl (first, record { timely = x.one.timely; capable = on })
on_stays p start at w (inr stays) on = stays

module _ (p : SettlingParams) (start next : ℕ) (w : WorldState) (claim : IsClaimedAlways p start w)
    (on : AreOn p start w claim.heard) (settled : HasSettledSeen p w) (off : NothingLapses p.params)
    (ready : AreReadyBy p next w) (silent : AreSilentBy p next w) where
  heard : AreHeard p next w
  heard at stands = inr (on_stays p start at w (claim.heard at stands) (on at stands))

  news : IsNews p next w
  news = record {
    pace = claim.news.pace;
    world = claim.news.world;
    measured = claim.news.measured;
    silent = silent;
    sound = claim.news.sound;
    ready = ready;
    settling = λ m bounded quiet off.
        news_seen p m next w claim.news.world claim.news.sound (settled quiet off) bounded;
    in_turn = λ m bounded quiet short. absurd (none_short p (paths_with m w) off short);
  }

  pub settled_claimed : IsClaimedAlways p next w
  settled_claimed = record {
    news = news;
    heard = heard;
    settling = λ m bounded quiet off.
        always_seen p m next w claim.news.world claim.news.sound (settled quiet off) bounded;
  }
