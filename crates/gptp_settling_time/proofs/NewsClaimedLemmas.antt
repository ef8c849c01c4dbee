-- In a world since news that has settled claims are made of all links always.
use Rattle.std.proofs.Common.{◌≡◌, ◌≤◌, ◌+◌, ◌*◌, ℕ, suc, pred, refl, inl, inr, arith}
use native.Mathlib.Nat.{mul-zero}
use Rattle.gptp_graph.specs.PathBound.{BoundsPaths, path_bound}
use Rattle.gptp_setup.specs.SettlingParams.{SettlingParams, largest_interval}
use Rattle.gptp_scenario.specs.Calm.{NothingLapses}
use Rattle.gptp_model.specs.World.{WorldState}
use Rattle.gptp_bmca_machine.specs.Calm.{Calm}
use Rattle.gptp_bmca_machine.specs.Levels.{Invariant}
use Rattle.gptp_bmca_machine.specs.Network.{IsSettlingNetwork, Network}
use Rattle.gptp_bmca_machine.proofs.TimesLemmas.{times_fit}
use Rattle.gptp_invariants.specs.ChoiceCalm.{HaveQuietLinks, delay_in}
use Rattle.gptp_invariants.specs.ChoiceSettlesAsMachine.{IsWorld}
use Rattle.gptp_invariants.specs.ChoiceView.{says_announce, view}
use Rattle.gptp_invariants.specs.DelayLinkView.{LinkPlace}
use Rattle.gptp_invariants.specs.DelayMeasured.{LinkStandsAt}
use Rattle.gptp_invariants.specs.WorldNews.{IsNews, IsReadyBy, news_network}
use Rattle.gptp_invariants.specs.WorldStanding.{snapshot_of}
use Rattle.gptp_invariants.proofs.ChoiceCalmLemmas.{linked_interval}
use Rattle.gptp_invariants.proofs.ChoiceSettlesAsMachineLemmas.{paths_bound}
use Rattle.gptp_invariants.proofs.WorldNewsActLemmas.{ready_later}
use Rattle.gptp_invariants.proofs.WorldNewsLemmas.{news_begin}
use Rattle.gptp_invariants.proofs.WorldStandsLemmas.{stands_well}
use Rattle.gptp_settling_time.proofs.AlwaysClaimedLemmas.{AreHeard, IsClaimedAlways, seen_calm, standing}
use Rattle.gptp_settling_time.proofs.HeardLemmas.{StaysCapableAt, stays_on}
use Rattle.gptp_settling_time.proofs.RestClaimedLemmas.{AreOn}
use Rattle.gptp_settling_time.proofs.SettledSeenLemmas.{HasSettledSeen, IsSettledSeen, always_seen, settled_in}

module _ (p : SettlingParams) (before : ℕ) (w : WorldState) (is : IsNews p before w)
    (late : before + largest_interval p + pred (path_bound (snapshot_of w)) * delay_in w ≤ w.time) where
  abbrev m : ℕ
  m = path_bound (snapshot_of w)

  abbrev start : ℕ
  start = suc w.time

  world : IsWorld p w
  world = is.world

  -- its ports are capable by now
  past : before ≤ w.time
  past = omega (arith, late)

  stays_by : (at : LinkPlace) → IsReadyBy p before at w → StaysCapableAt p at w
  stays_by at (inl (first, ready)) = inr (inr (first, before, record { is = ready; late = past }))
  stays_by at (inr (gone, calm, watched, old, by)) =
      let now = past in
      inr (inl (gone, calm, record { watched = watched; late = omega (arith, by, now) }))

  stays : (at : LinkPlace) → LinkStandsAt at w → StaysCapableAt p at w
  stays at stands = stays_by at (is.ready at stands)

  heard : AreHeard p start w
  heard at stands = inr (stays at stands)

  heard_before : AreHeard p before w
  heard_before at stands = inr (stays at stands)

  news : IsNews p start w
  news =
      let now = past in
      let (ready, silent) = ready_later p before start w (omega (arith, now)) is.ready is.silent in
      news_begin p start w is.pace world is.measured silent is.sound ready (omega arith)

  -- ---- each link is at its last stage

  module _ (quiet : HaveQuietLinks p.params w) (off : NothingLapses p.params) where
    abbrev old : Network
    old = news_network p m before w

    bounded : BoundsPaths (snapshot_of w) m
    bounded = paths_bound p w world

    net : IsSettlingNetwork old
    net =
        times_fit old (stands_well w world.sound world.between world.encodable) bounded (omega arith)
        (inl (record {
          begun = omega arith;
          ready = λ port linked. omega arith;
          largest = linked_interval p w world.sound world.known;
          times = inl (record {
            claimed = λ d port. let none : d * 0 ≡ 0 = mul-zero d in omega (arith, none);
            until = λ d port. let none : d * 0 ≡ 0 = mul-zero d in omega (arith, none);
            slack = omega arith;
            step = omega arith;
          });
        }))

    calm : Calm old (view w)
    calm = seen_calm p before w (standing is) heard_before quiet m

    invariant : Invariant says_announce old (view w)
    invariant = is.settling m bounded quiet off

    seen : IsSettledSeen p w
    seen = settled_in p w old refl net calm invariant (omega (arith, late))

  pub news_claimed : IsClaimedAlways p start w
  unfolding heard
  news_claimed = record {
    news = news;
    heard = heard;
    settling = λ other bounds quiet off. always_seen p other start w world is.sound (seen quiet off) bounds;
  }

  -- its ports are capable
  pub news_on : AreOn p start w news_claimed.heard
  unfolding news_claimed heard
  news_on at stands = stays_on p at w world (stays at stands)

  -- it has settled
  pub news_settled : HasSettledSeen p w
  news_settled quiet off = seen quiet off
