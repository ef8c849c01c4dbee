-- A network in which a world has settled, as the machine sees it.
use Rattle.std.proofs.Common.{◌≡◌, ◌<◌, ◌≤◌, ◌+◌, ◌*◌, ℕ, pred, Some, slice_get, refl, sym, ap, subst, inr, arith}
use Rattle.gptp_graph.specs.PathBound.{BoundsPaths, path_bound}
use Rattle.gptp_graph.specs.Snapshot.{System}
use Rattle.gptp_setup.specs.SettlingParams.{SettlingParams}
use Rattle.gptp_scenario.specs.Calm.{NothingLapses}
use Rattle.gptp_model.specs.World.{WorldState}
use Rattle.gptp_bmca_machine.specs.Calm.{Calm}
use Rattle.gptp_bmca_machine.specs.Levels.{Invariant, LeadsFarther}
use Rattle.gptp_bmca_machine.specs.Link.{LinkSettles, Stand}
use Rattle.gptp_bmca_machine.specs.LossLaws.{EverythingFits}
use Rattle.gptp_bmca_machine.specs.Network.{IsSettlingNetwork, Network, settled_from, wiring}
use Rattle.gptp_bmca_machine.specs.RestLaws.{SameWiring}
use Rattle.gptp_bmca_machine.specs.Sound.{ReceivedFits}
use Rattle.gptp_bmca_machine.specs.SoundEverywhere.{IsSoundEverywhere}
use Rattle.gptp_bmca_machine.proofs.RestingLemmas.{links_stay, stays_so}
use Rattle.gptp_bmca_machine.proofs.SoundEverywhereLemmas.{on_links}
use Rattle.gptp_bmca_machine.proofs.SoundLemmas.{received_fits}
use Rattle.gptp_invariants.specs.ChoiceCalm.{HaveQuietLinks, delay_in}
use Rattle.gptp_invariants.specs.ChoiceSettlesAsMachine.{IsWorld}
use Rattle.gptp_invariants.specs.ChoiceView.{says_announce, view}
use Rattle.gptp_invariants.specs.WorldNews.{news_network}
use Rattle.gptp_invariants.specs.WorldSound.{IsSoundWorld}
use Rattle.gptp_invariants.specs.WorldStanding.{snapshot_of}
use Rattle.gptp_invariants.proofs.ChoiceSettlesAsMachineLemmas.{paths_bound}
use Rattle.gptp_settling_time.proofs.AlwaysClaimedLemmas.{IsClaimedAlways, standing, start_calm, start_net, start_network}
use Rattle.gptp_settling_time.proofs.FitsLemmas.{everything_fits}

pub record IsSettledSeen (p : SettlingParams) (w : WorldState) : Type 0 where
  pub n : Network
  pub net : IsSettlingNetwork n
  pub calm : Calm n (view w)
  pub invariant : Invariant says_announce n (view w)
  pub late : settled_from n ≤ w.time
  pub graph : n.graph ≡ snapshot_of w
  pub same : SameWiring n (start_network p 0 0 w)
  pub most : n.most ≡ delay_in w

abbrev pub HasSettledSeen : SettlingParams → WorldState → Type 0
HasSettledSeen p w = HaveQuietLinks p.params w → NothingLapses p.params → IsSettledSeen p w

-- all that is sound in it fits its snapshot
pub sound_fits : (p : SettlingParams) (w : WorldState) (seen : IsSettledSeen p w) → IsSoundWorld w
    → EverythingFits says_announce (snapshot_of w) seen.n (view w)
sound_fits p w seen sound =
    subst (λ h. EverythingFits says_announce h seen.n (view w)) seen.graph
    (everything_fits says_announce seen.n (view w) seen.net.graph seen.calm.facts
    (subst (λ h. IsSoundEverywhere says_announce h (view w)) (sym seen.graph) sound))

-- the first network, with the wiring and the delays of the second
abbrev pub wired_as : Network → Network → Network
wired_as n other = record n {
  graph = other.graph;
  place = other.place;
  lane = other.lane;
  log_of = other.log_of;
  interval_of = other.interval_of;
  most = other.most;
}

-- so it is where the machine has settled in a network that is this world's but for its times
pub settled_in : (p : SettlingParams) (w : WorldState) (n : Network) → n ≡ wired_as n (start_network p 0 0 w)
    → IsSettlingNetwork n → Calm n (view w) → Invariant says_announce n (view w) → settled_from n ≤ w.time
    → IsSettledSeen p w
settled_in p w n is net calm invariant late =
    let most = ap (λ (x : Network). x.most) is in
    record {
      n = n;
      net = net;
      calm = calm;
      invariant = invariant;
      late = late;
      graph = ap (λ (x : Network). x.graph) is;
      same = record {
        place = λ v. ap (λ (x : Network). x.place v) (sym is);
        lane = λ q. ap (λ (x : Network). x.lane q) (sym is);
        log = λ q. ap (λ (x : Network). x.log_of q) (sym is);
        interval = λ q. ap (λ (x : Network). x.interval_of q) (sym is);
      };
      most = most;
    }

-- so it is where claims are made of all links always
pub always_settled : (p : SettlingParams) (start : ℕ) (w : WorldState) → IsClaimedAlways p start w
    → start + pred (path_bound (snapshot_of w)) * delay_in w ≤ w.time → HasSettledSeen p w
always_settled p start w is late quiet off =
    let m = path_bound (snapshot_of w) in
    let bounded = paths_bound p w is.news.world in
    settled_in p w (start_network p m start w) refl (start_net p m start w is.news.world bounded)
    (start_calm p start w (standing is.news) is.heard quiet m) (is.settling m bounded quiet off) (omega (arith, late))

-- each link is at its last stage, in every network of the world
module _ (p : SettlingParams) (w : WorldState) (seen : IsSettledSeen p w) (n : Network) (graph : seen.n.graph ≡ n.graph)
    (same : SameWiring seen.n n) where
  pub stage_settled : (d : ℕ) (best : System) (v pp u q : ℕ) → d < 255 → LeadsFarther n.graph d best v pp u q
      → LinkSettles says_announce (wiring n d best v pp u q) (view w)
  stage_settled d best v pp u q near leads from pv pu l stand ready =
      inr (inr (stays_so says_announce seen.n n same d best best v pp u q refl pv.announce pu.held l.frames
      (links_stay says_announce seen.n seen.net (view w) seen.calm seen.invariant seen.late d best v pp u q near
      (subst (λ g. LeadsFarther g d best v pp u q) (sym graph) leads) pv pu l before)))
    where
      before : Stand (wiring seen.n d best v pp u q) (view w) pv pu l
      before = record {
        v = stand.v;
        u = stand.u;
        teller = subst (λ i. slice_get (view w).stations i ≡ Some stand.v) (same.place v) stand.teller;
        teller_port = stand.teller_port;
        hearer = subst (λ i. slice_get (view w).stations i ≡ Some stand.u) (same.place u) stand.hearer;
        hearer_port = stand.hearer_port;
        lane = subst (λ i. slice_get (view w).lanes i ≡ Some l) (same.lane _) stand.lane;
      }

-- so it is in those of which claims are made of a world since news, and of one of which they are made always
module _ (p : SettlingParams) (m start : ℕ) (w : WorldState) (world : IsWorld p w) (sound : IsSoundWorld w)
    (seen : IsSettledSeen p w) (bounded : BoundsPaths (snapshot_of w) m) where
  fits : ReceivedFits (snapshot_of w) (view w)
  fits =
      received_fits says_announce (snapshot_of w) (view w) (start_net p m start w world bounded).graph
      (on_links says_announce (snapshot_of w) (view w) sound)

  wired : SameWiring seen.n (start_network p m start w)
  wired = record {
    place = seen.same.place;
    lane = seen.same.lane;
    log = seen.same.log;
    interval = seen.same.interval;
  }

  pub always_seen : Invariant says_announce (start_network p m start w) (view w)
  always_seen = record {
    sound = λ now. fits;
    levels = λ d best v pp u q near leads.
        stage_settled p w seen (start_network p m start w) seen.graph wired d best v pp u q near leads;
  }

  pub news_seen : Invariant says_announce (news_network p m start w) (view w)
  news_seen = record {
    sound = λ now. fits;
    levels = λ d best v pp u q near leads.
        stage_settled p w seen (news_network p m start w) seen.graph (record {
          place = wired.place;
          lane = wired.lane;
          log = wired.log;
          interval = wired.interval;
        }) d best v pp u q near leads;
  }
