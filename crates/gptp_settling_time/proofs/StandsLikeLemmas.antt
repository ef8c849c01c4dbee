-- What is claimed of a world stays so in one in which the machine sees the same of its systems and of the links in use.
use Rattle.std.proofs.Common.{◌≡◌, ◌<◌, ◌≤◌, ◌+◌, ◌*◌, ℕ, suc, false, Some, slice_get, refl, sym, ap, subst, inl, inr, arith}
use Rattle.std.specs.Prelude.{max}
use Rattle.gptp_graph.specs.PathBound.{BoundsPaths}
use Rattle.gptp_graph.specs.Snapshot.{Joins, PortIdentity, System, port_of}
use Rattle.gptp_scenario.specs.Calm.{NothingLapses}
use Rattle.gptp_scenario.specs.SyncWait.{sync_wait}
use Rattle.gptp_scenario.specs.declared.sync_wait.SyncPaths.{SyncPaths}
use Rattle.gptp_setup.specs.declared.setup.Params.{Params}
use Rattle.gptp_setup.specs.Intervals.{interval_of}
use Rattle.gptp_setup.specs.SettlingParams.{SettlingParams, lapse_span, largest_interval}
use Rattle.gptp_model.specs.World.{WorldState}
use Rattle.gptp_bmca_machine.specs.Frame.{Lane}
use Rattle.gptp_bmca_machine.specs.Levels.{Invariant, LeadsFarther}
use Rattle.gptp_bmca_machine.specs.Link.{LinkSettles}
use Rattle.gptp_bmca_machine.specs.Network.{Network, wiring}
use Rattle.gptp_bmca_machine.specs.Syncs.{SyncsAreExpected}
use Rattle.gptp_invariants.specs.ChoiceCalm.{HaveQuietLinks, SettlingTimes, clock_place, delay_in, lane_of, log_of, network_with, paths_with, step_with, wait_with}
use Rattle.gptp_invariants.specs.ChoiceSettlesAsMachine.{IsWorld}
use Rattle.gptp_invariants.specs.ChoiceView.{says_announce, says_sync, view}
use Rattle.gptp_invariants.specs.DelayLinkView.{LinkPlace}
use Rattle.gptp_invariants.specs.DelayMeasured.{LinkIsMeasured, LinkStandsAt}
use Rattle.gptp_invariants.specs.WorldNews.{AreSilentBy, IsNews, news_network, turn_network}
use Rattle.gptp_invariants.specs.WorldSound.{IsSoundWorld}
use Rattle.gptp_invariants.specs.WorldStanding.{snapshot_of}
use Rattle.gptp_settling_time.proofs.AlwaysClaimedLemmas.{IsClaimedAlways, start_network}
use Rattle.gptp_settling_time.proofs.NewsSoonLemmas.{IsComing, IsNewsFrom}
use Rattle.gptp_settling_time.proofs.OrderedLemmas.{opposite}
use Rattle.gptp_settling_time.proofs.SameLinkLemmas.{StaysSameLink, heard_same, ready_same, will_same}

-- the same is seen of systems and of links in use, and each of these stood before
pub record StandsLike (w w' : WorldState) : Type 0 where
  pub time : w'.time ≡ w.time
  pub stations : (view w').stations ≡ (view w).stations
  pub snapshot : snapshot_of w' ≡ snapshot_of w
  pub delay : delay_in w' ≡ delay_in w
  pub places : (number : ℕ) → clock_place w'.stations number ≡ clock_place w.stations number
  pub logs : (port : PortIdentity) → log_of w'.stations port ≡ log_of w.stations port
  pub lane_places : (port : PortIdentity) → lane_of w'.net.channels port ≡ lane_of w.net.channels port
  pub lanes : (from to : PortIdentity) → Joins (snapshot_of w) from to → (l : Lane)
      → slice_get (view w').lanes (lane_of w.net.channels from) ≡ Some l
      → slice_get (view w).lanes (lane_of w.net.channels from) ≡ Some l
  pub quiet : (p : Params) → HaveQuietLinks p w' → HaveQuietLinks p w
  pub links : (at : LinkPlace) → StaysSameLink at w w'
  pub stood : (p : SettlingParams) → IsWorld p w → IsWorld p w' → (at : LinkPlace) → LinkStandsAt at w'
      → LinkStandsAt at w

module _ (w w' : WorldState) (like : StandsLike w w') where
  -- ---- its network

  module _ (p : SettlingParams) (m start gone : ℕ) (slack step wait lag : ℕ → ℕ) where
    abbrev times : ℕ → SettlingTimes
    times delay = record {
      slack = slack delay;
      step = step delay;
      wait = wait delay;
      lag = lag delay;
      past = false;
    }

    network_like : record (network_with p m start (times (delay_in w')) w') { gone = gone }
        ≡ record (network_with p m start (times (delay_in w)) w) { gone = gone }
    network_like =
        let snapshot = like.snapshot in
        let delay = like.delay in
        let places = like.places in
        let logs = like.logs in
        let lanes = like.lane_places in
        λ i. record {
          graph = snapshot i;
          reach = m;
          place = λ number. places number i;
          lane = λ port. lanes port i;
          log_of = λ port. logs port i;
          interval_of = λ port. interval_of (logs port i);
          interval = largest_interval p;
          most = delay i;
          timeout = p.params.timeout;
          gone = gone;
          start = start;
          bare = start;
          off = start;
          ready = λ port. start;
          sound = max 0 start;
          syncs = record {
            interval = interval_of p.params.sync;
            residence = p.params.residence;
            span = lapse_span p.params;
          };
          sync_wait = wait (delay i);
          slack = slack (delay i);
          step = step (delay i);
          claimed = λ d port. max 0 start + wait (delay i) + d * lag (delay i);
          until = λ d port. max 0 start + wait (delay i) + d * lag (delay i) + largest_interval p;
        }

  module _ (p : SettlingParams) (m start : ℕ) where
    abbrev gone' : ℕ
    gone' = w'.last_change + 2 * largest_interval p

    pub news_like_network : news_network p m start w' ≡ record (news_network p m start w) { gone = gone' }
    news_like_network =
        network_like p m start gone' (λ delay. largest_interval p) (λ delay. delay) (λ delay. 0) (λ delay. 0)

    pub turn_like_network : turn_network p m start w' ≡ record (turn_network p m start w) { gone = gone' }
    turn_like_network =
        network_like p m start gone' (λ delay. 0) (λ delay. step_with p (record { systems = m; delay = delay }))
        (λ delay. wait_with p.params (record { systems = m; delay = delay }))
        (λ delay. step_with p (record { systems = m; delay = delay }))

    pub start_like_network : start_network p m start w' ≡ record (start_network p m start w) { gone = gone' }
    start_like_network =
        ap (λ (n : Network). record n {
          start = 0;
          sound = 0;
          slack = start;
          claimed = λ d port. 0;
          until = λ d port. 0;
        }) news_like_network

    -- what is claimed of a network of the world is claimed of it whenever old frames are gone
    over : (n n' : Network) → n.graph ≡ snapshot_of w
        → ((port : PortIdentity) → n.lane port ≡ lane_of w.net.channels port)
        → n' ≡ record n { gone = gone' } → Invariant says_announce n (view w) → Invariant says_announce n' (view w')
    over n n' graph lane same is =
        subst (λ x. Invariant says_announce x (view w')) (sym same) (record {
          sound = λ late i s place r there.
              is.sound (subst (λ time. n.sound ≤ time) like.time late) i s place r
              (subst (λ stations. slice_get stations i ≡ Some s) like.stations there);
          levels = λ d best v pp u q near leads. level d best v pp u q near leads;
        })
      where
        level : (d : ℕ) (best : System) (v pp u q : ℕ) → d < 255 → LeadsFarther n.graph d best v pp u q
            → LinkSettles says_announce (wiring n d best v pp u q) (view w')
        level d best v pp u q near leads from pv pu l stand ready =
            is.levels d best v pp u q near leads
            (subst (λ time. n.claimed d (port_of v (suc pp)) ≤ time) like.time from) pv pu l
            (record {
              v = stand.v;
              u = stand.u;
              teller = subst (λ stations. slice_get stations (n.place v) ≡ Some stand.v) like.stations stand.teller;
              teller_port = stand.teller_port;
              hearer = subst (λ stations. slice_get stations (n.place u) ≡ Some stand.u) like.stations stand.hearer;
              hearer_port = stand.hearer_port;
              lane = subst (λ j. slice_get (view w).lanes j ≡ Some l) (sym (lane (port_of v (suc pp))))
                  (like.lanes (port_of v (suc pp)) (port_of u (suc q))
                  (subst (λ g. Joins g (port_of v (suc pp)) (port_of u (suc q))) graph leads.joins) l
                  (subst (λ j. slice_get (view w').lanes j ≡ Some l) (lane (port_of v (suc pp))) stand.lane));
            }) ready

-- ---- the claims

-- where nothing lapses no Sync is waited for
pub none_short : (p : SettlingParams) (paths : SyncPaths) → NothingLapses p.params
    → sync_wait p.params paths < lapse_span p.params
    → ⊥
none_short p paths off short =
    let none : lapse_span p.params ≡ 0 = rw off (omega arith) in omega (arith, none, short)

pub expects_none : (p : SettlingParams) (start : ℕ) (w w' : WorldState) → NothingLapses p.params → (m : ℕ)
    → SyncsAreExpected says_sync (turn_network p m start w) (view w)
    → sync_wait p.params (paths_with m w') < lapse_span p.params
    → SyncsAreExpected says_sync (turn_network p m start w') (view w')
expects_none p start w w' nothing m expected short = absurd (none_short p (paths_with m w') nothing short)

module _ (p : SettlingParams) (start : ℕ) (w w' : WorldState) (like : StandsLike w w') (world : IsWorld p w')
    (measured : LinkIsMeasured w') (silent : AreSilentBy p start w') (sound : IsSoundWorld w')
    (expects : (m : ℕ) → SyncsAreExpected says_sync (turn_network p m start w) (view w)
    → sync_wait p.params (paths_with m w') < lapse_span p.params
    → SyncsAreExpected says_sync (turn_network p m start w') (view w')) where
  paths_back : (m : ℕ) → BoundsPaths (snapshot_of w') m → BoundsPaths (snapshot_of w) m
  paths_back m = subst (λ g. BoundsPaths g m) like.snapshot

  wait_back : (m : ℕ) → sync_wait p.params (paths_with m w') < lapse_span p.params
      → sync_wait p.params (paths_with m w) < lapse_span p.params
  wait_back m =
      subst (λ delay. sync_wait p.params (record { systems = m; delay = delay }) < lapse_span p.params) like.delay

  pub news_like : IsNews p start w → IsNews p start w'
  news_like news = record {
    pace = news.pace;
    world = world;
    measured = measured;
    silent = silent;
    sound = sound;
    ready = λ at s. ready_same p start at w w' (like.links at) (news.ready at (like.stood p news.world world at s));
    settling = λ m bounded quiet off.
        over w w' like p m start (news_network p m start w) (news_network p m start w') refl (λ port. refl)
        (news_like_network w w' like p m start)
        (news.settling m (paths_back m bounded) (like.quiet p.params quiet) off);
    in_turn = λ m bounded quiet short.
        let is = news.in_turn m (paths_back m bounded) (like.quiet p.params quiet) (wait_back m short) in
        record {
          invariant = over w w' like p m start (turn_network p m start w) (turn_network p m start w') refl
              (λ port. refl) (turn_like_network w w' like p m start) is.invariant;
          expected = expects m is.expected short;
        };
  }

  -- some ports may ask again before they are capable
  coming_like : (by : ℕ) (at : LinkPlace) → IsComing p by start at w → IsComing p by start at w'
  coming_like by at (inl ready) = inl (ready_same p start at w w' (like.links at) ready)
  coming_like by at (inr (gone, calm, less, will)) =
      inr (gone, calm, less, will_same gone calm start at w w' will (like.links at will.watched.link))

  pub from_like : IsNewsFrom p start w → IsNewsFrom p start w'
  from_like (inl news) = inl (news_like news)
  from_like (inr soon) =
      let time = like.time in
      let early = soon.early in
      inr (record {
        by = soon.by;
        early = omega (arith, early, time);
        soon = soon.soon;
        pace = soon.pace;
        world = world;
        measured = measured;
        silent = silent;
        sound = sound;
        coming = λ at stands.
            coming_like soon.by at (soon.coming at (like.stood p soon.world world at stands));
      })

  pub claims_like : IsClaimedAlways p start w → IsClaimedAlways p start w'
  claims_like is = record {
    news = news_like is.news;
    heard = λ at s.
        heard_same p start at w w' like.time (like.links at) (like.links (opposite at))
        (is.heard at (like.stood p is.news.world world at s));
    settling = λ m bounded quiet off.
        over w w' like p m start (start_network p m start w) (start_network p m start w') refl (λ port. refl)
        (start_like_network w w' like p m start)
        (is.settling m (paths_back m bounded) (like.quiet p.params quiet) off);
  }
