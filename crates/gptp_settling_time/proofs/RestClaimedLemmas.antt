-- In a world that has rested claims are made of all links always.
use Rattle.std.proofs.Common.{◌≤◌, ◌+◌, ◌*◌, ℕ, suc, refl, inl, inr, arith}
use Rattle.gptp_graph.specs.PathBound.{BoundsPaths, path_bound}
use Rattle.gptp_setup.specs.Intervals.{interval_of}
use Rattle.gptp_setup.specs.SettlingParams.{SettlingParams, largest_interval}
use Rattle.gptp_setup.proofs.IntervalLemmas.{interval_positive}
use Rattle.gptp_scenario.specs.Calm.{NothingLapses}
use Rattle.gptp_scenario.specs.SettlingAtOnce.{settling_span_at_once}
use Rattle.gptp_scenario.specs.SettlingTime.{capability_span}
use Rattle.gptp_model.specs.World.{WorldState}
use Rattle.gptp_bmca_machine.specs.Calm.{Calm}
use Rattle.gptp_bmca_machine.specs.Levels.{Invariant}
use Rattle.gptp_bmca_machine.specs.Network.{IsSettlingNetwork, Network}
use Rattle.gptp_invariants.specs.ChoiceCalm.{HaveQuietLinks, sync_paths_of}
use Rattle.gptp_invariants.specs.ChoiceSettlesAsMachine.{quick_network}
use Rattle.gptp_invariants.specs.ChoiceView.{says_announce, view}
use Rattle.gptp_invariants.specs.DelayLinkView.{LinkPlace}
use Rattle.gptp_invariants.specs.DelayMeasured.{LinkStandsAt}
use Rattle.gptp_invariants.specs.WorldNews.{IsNews}
use Rattle.gptp_invariants.specs.WorldSettlingInvariant.{KeepsAll}
use Rattle.gptp_invariants.specs.WorldSound.{IsSoundWorld}
use Rattle.gptp_invariants.specs.WorldStanding.{snapshot_of}
use Rattle.gptp_invariants.proofs.ChoiceSettlesAsMachineLemmas.{is_quick_calm, is_quick_network, paths_bound}
use Rattle.gptp_invariants.proofs.WorldClaimLemmas.{claim_capable}
use Rattle.gptp_invariants.proofs.WorldNewsActLemmas.{unanswered_silent, watched_ready}
use Rattle.gptp_invariants.proofs.WorldNewsLemmas.{news_begin}
use Rattle.gptp_settling_time.proofs.AlwaysClaimedLemmas.{AreHeard, IsClaimedAlways}
use Rattle.gptp_settling_time.proofs.SettledSeenLemmas.{HasSettledSeen, IsSettledSeen, always_seen, settled_in}
use Rattle.gptp_settling_time.proofs.HeardLemmas.{IsOn, heard_link, stays_on}

-- the ports that ask at links are all capable
abbrev pub AreOn : (p : SettlingParams) (start : ℕ) (w : WorldState) → AreHeard p start w → Type 0
AreOn p start w heard = (at : LinkPlace) (stands : LinkStandsAt at w)
    → IsOn at w (heard_link p start at w (heard at stands))

module _ (p : SettlingParams) (w : WorldState) (claim : KeepsAll p w) (sound : IsSoundWorld w)
    (late : w.last_change + settling_span_at_once p (sync_paths_of w) ≤ w.time) where
  abbrev m : ℕ
  m = path_bound (snapshot_of w)

  abbrev start : ℕ
  start = suc w.time

  some : 1 ≤ largest_interval p
  some = interval_positive p.largest claim.pace.largest

  silent_by : w.last_change + capability_span p ≤ w.time
  silent_by = omega (arith, late)

  capable_by : w.last_change + 2 * largest_interval p + 3 * interval_of p.params.pdelay ≤ w.time
  capable_by =
      let requests = claim.pace.requests in
      let by = silent_by in
      omega (arith, by, requests)

  news : IsNews p start w
  news =
      let by = silent_by in
      let soon = capable_by in
      let positive = some in
      news_begin p start w claim.pace claim.world claim.measured
      (unanswered_silent p start w claim.pace claim.silent (omega (arith, by))) sound
      (watched_ready p start w claim.watched (omega (arith, soon, positive)) (omega (arith, soon))) (omega arith)

  heard : AreHeard p start w
  heard at stands =
      inr (inr (inl (
        w.last_change + largest_interval p,
        w.last_change + 2 * largest_interval p,
        record { watched = claim.watched at stands; late = capable_by },
      )))

  -- ---- each link is at its last stage

  module _ (quiet : HaveQuietLinks p.params w) (off : NothingLapses p.params) where
    abbrev quick : Network
    quick = quick_network p m w

    bounded : BoundsPaths (snapshot_of w) m
    bounded = paths_bound p w claim.world

    net : IsSettlingNetwork quick
    net = is_quick_network p m w claim.world bounded

    calm : Calm quick (view w)
    calm = is_quick_calm p m w claim.world quiet (claim_capable p w claim)

    invariant : Invariant says_announce quick (view w)
    invariant = (claim.settling m bounded (record { links = quiet; lapses = inl off })).at_once off

    seen : IsSettledSeen p w
    seen = settled_in p w quick refl net calm invariant (omega (arith, late))

  pub rest_claimed : IsClaimedAlways p start w
  unfolding heard
  rest_claimed = record {
    news = news;
    heard = heard;
    settling = λ other bounds quiet off. always_seen p other start w claim.world sound (seen quiet off) bounds;
  }

  -- its ports are capable
  pub rest_on : AreOn p start w rest_claimed.heard
  unfolding rest_claimed heard
  rest_on at stands =
      stays_on p at w claim.world
      (inr (inl (
        w.last_change + largest_interval p,
        w.last_change + 2 * largest_interval p,
        record { watched = claim.watched at stands; late = capable_by },
      )))

  -- it has settled
  pub rest_settled : HasSettledSeen p w
  rest_settled quiet off = seen quiet off
