-- A priority1 by which no system is moved, in a world that has settled: all stands as it did but the identity, and
-- claims are made of all links always.
use Rattle.std.proofs.Common.{◌≡◌, ◌≢◌, ◌⊎◌, ◌<◌, ◌≤◌, ◌+◌, ◌*◌, ◌^◌, ◌%◌, ℕ, Bool, List, [], map, Some, slice_get, refl, sym, ap, subst, ◌∙◌, inl, inr, arith}
use native.Mathlib.Decide.{dec_lt, ℕ_discrete}
use Rattle.gptp_lists.specs.Members.{In}
use Rattle.gptp_lists.proofs.MappedLemmas.{alike, mapped, mapped_there, same_there}
use Rattle.gptp_lists.proofs.PlaceLemmas.{get-set_same, map-set_same}
use Rattle.gptp_graph.specs.Best.{IsBest}
use Rattle.gptp_graph.specs.Distance.{IsDistance}
use Rattle.gptp_graph.specs.Path.{Reaches}
use Rattle.gptp_graph.specs.Snapshot.{IsWellFormed, Snapshot, System, clocks}
use Rattle.gptp_graph.proofs.PathBoundLemmas.{IsDistance-within}
use Rattle.gptp_graph.proofs.PathLemmas.{Reaches-self}
use Rattle.gptp_graph.proofs.SystemLemmas.{In-clocks, same_clock, same_identity}
use Rattle.gptp_links.specs.Fate.{Draw}
use Rattle.gptp_scenario.specs.Calm.{NothingLapses}
use Rattle.gptp_scenario.specs.Params.{KeepPace}
use Rattle.gptp_scenario.specs.declared.change.Act.TheVariants.{Change as Changing}
use Rattle.gptp_scenario.specs.declared.change.Change.TheVariants.{Priority1}
use Rattle.gptp_roles.specs.Selection.{clock_of}
use Rattle.gptp_roles.specs.SystemTrace.{system_trace}
use Rattle.gptp_setup.specs.SettlingParams.{SettlingParams}
use Rattle.gptp_system.specs.Announcing.{with_priority}
use Rattle.gptp_system.specs.Input.{Priority}
use Rattle.gptp_system.specs.Selection.{Selects}
use Rattle.gptp_system.specs.State.{SystemState, clock}
use Rattle.gptp_system.specs.declared.answer.Answer.{Answer}
use Rattle.gptp_system.proofs.TimersChangedLemmas.{priority_clock}
use Rattle.gptp_model.specs.Act.{Calls, all_timers, in_state}
use Rattle.gptp_model.specs.Acts.{Acts}
use Rattle.gptp_model.specs.Changing.{with_setup, with_station}
use Rattle.gptp_model.specs.Sends.{SendsAll}
use Rattle.gptp_model.specs.World.{Net, WorldState}
use Rattle.gptp_model.specs.declared.done.Done.{Done}
use Rattle.gptp_model.specs.declared.station.Station.{Station}
use Rattle.gptp_bmca_machine.specs.Levels.{Invariant, LeadsFarther}
use Rattle.gptp_bmca_machine.specs.Link.{LinkSettles}
use Rattle.gptp_bmca_machine.specs.LinkStage.{Wiring}
use Rattle.gptp_bmca_machine.specs.Network.{Network, wiring}
use Rattle.gptp_bmca_machine.specs.RestLaws.{SameWiring}
use Rattle.gptp_bmca_machine.specs.Sound.{ReceivedFits}
use Rattle.gptp_bmca_machine.specs.SoundLaws.{AllAreNear}
use Rattle.gptp_bmca_machine.specs.Station.{Port as SeenPort, Station as SeenStation}
use Rattle.gptp_bmca_machine.proofs.RestingLemmas.{all_choose, by_then_at}
use Rattle.gptp_bmca_machine.proofs.SoundEverywhereLemmas.{on_links}
use Rattle.gptp_bmca_machine.proofs.SoundLemmas.{received_fits}
use Rattle.gptp_invariants.specs.ChoiceCalm.{paths_with}
use Rattle.gptp_invariants.specs.ChoiceSettlesAsMachine.{IsWorld}
use Rattle.gptp_invariants.specs.ChoiceView.{lanes_view, says_announce, station_view, system_view, view}
use Rattle.gptp_invariants.specs.DelayMeasured.{LinkIsMeasured}
use Rattle.gptp_invariants.specs.WorldNews.{AreReadyBy, AreSilentBy, IsNews, news_network}
use Rattle.gptp_invariants.specs.WorldSound.{IsSoundWorld}
use Rattle.gptp_invariants.specs.WorldStanding.{snapshot_of, standing_system}
use Rattle.gptp_invariants.proofs.ChoicePlaceLemmas.{station_there}
use Rattle.gptp_invariants.proofs.WorldStandsLemmas.{stands_well}
use Rattle.gptp_invariants.proofs.WorldSystemLemmas.{live_there}
use Rattle.gptp_settling_time.specs.Idle.{Lives}
use Rattle.gptp_settling_time.proofs.AlwaysClaimedLemmas.{IsClaimedAlways, start_network}
use Rattle.gptp_settling_time.proofs.BetterClockLemmas.{clocks_after, links_after, links_before, quiet_before, wiring_same}
use Rattle.gptp_settling_time.proofs.PriorityNewsLemmas.{priority_ready, priority_silent}
use Rattle.gptp_settling_time.proofs.ReactsLemmas.{Reacts, answered, identity_is, known, reacts, reacts_sound}
use Rattle.gptp_settling_time.proofs.ReselectsLemmas.{chooses_again}
use Rattle.gptp_settling_time.proofs.SameBestLemmas.{HaveSameBests, leads_back, sound_over}
use Rattle.gptp_settling_time.proofs.SettledSeenLemmas.{HasSettledSeen, IsSettledSeen, stage_settled, wired_as}
use Rattle.gptp_settling_time.proofs.StandsLikeLemmas.{none_short}
use Rattle.gptp_settling_time.proofs.WidenedLemmas.{ready_heard}

-- ---- worlds that differ in what systems are named by alone

-- what the machine sees of a system, but for its identity
abbrev shown : Station → SeenStation
shown station = record (station_view station) { identity = 0 }

record DiffersInName (w w' : WorldState) : Type 0 where
  time : w'.time ≡ w.time
  stations : map shown w'.stations ≡ map shown w.stations
  channels : w'.net.channels ≡ w.net.channels

module _ (w w' : WorldState) (same : DiffersInName w w') where
  record StoodAs (i : ℕ) (s : SeenStation) : Type 0 where
    old : SeenStation
    here : slice_get (view w).stations i ≡ Some old
    ports : old.ports ≡ s.ports
    root : old.root ≡ s.root
    steps : old.steps ≡ s.steps

  stood_as : (i : ℕ) (s : SeenStation) → slice_get (view w').stations i ≡ Some s → StoodAs i s
  stood_as i s there =
      let (now, now_here, is) = mapped station_view w'.stations i s there in
      let (old, old_here, was) = alike shown shown w.stations w'.stations (sym same.stations) i now now_here in
      record {
        old = station_view old;
        here = mapped_there station_view w.stations i old old_here;
        ports = ap (λ (x : SeenStation). x.ports) was ∙ ap (λ (x : SeenStation). x.ports) is;
        root = ap (λ (x : SeenStation). x.root) was ∙ ap (λ (x : SeenStation). x.root) is;
        steps = ap (λ (x : SeenStation). x.steps) was ∙ ap (λ (x : SeenStation). x.steps) is;
      }

  -- a link that is at a stage stays so
  stage_stays : (k : Wiring) → LinkSettles says_announce k (view w) → LinkSettles says_announce k (view w')
  stage_stays k settles from pv pu l stand ready =
      let teller = stood_as k.teller_place stand.v stand.teller in
      let hearer = stood_as k.hearer_place stand.u stand.hearer in
      settles (subst (λ t. k.from ≤ t) same.time from) pv pu l (record {
        v = teller.old;
        u = hearer.old;
        teller = teller.here;
        teller_port = ap (λ (ps : List SeenPort). slice_get ps k.teller_port) teller.ports ∙ stand.teller_port;
        hearer = hearer.here;
        hearer_port = ap (λ (ps : List SeenPort). slice_get ps k.hearer_port) hearer.ports ∙ stand.hearer_port;
        lane = ap (λ channels. slice_get (lanes_view channels) k.lane) (sym same.channels) ∙ stand.lane;
      }) ((teller.root ∙ ready.0.0, teller.steps ∙ ready.0.1), ready.1)

-- a priority1 alone makes no difference there
shown_same : (live : Bool) (value : ℕ) (s : SystemState)
    → record (system_view live (with_priority value s)) { identity = 0 } ≡ record (system_view live s) { identity = 0 }
shown_same live value s =
    let named = priority_clock value s in
    λ i. record (system_view live s) {
      identity = 0;
      clock = named i;
      trace = system_trace (named i) s.held s.slave;
    }

-- ---- the change

module _ (p : SettlingParams) (next owner value : ℕ) (w : WorldState) (draws : List Draw) (done : Done)
    (w' : WorldState) (is : IsWorld p w) (is' : IsWorld p w') (live : Lives owner w) (octet : value < 256)
    (acts : Acts (Changing (Priority1 owner value)) w draws done w')
    (unmoved : (v : ℕ) (b : System) → In v (clocks (snapshot_of w')) → IsBest (snapshot_of w) v b
    → IsBest (snapshot_of w') v b) where
  abbrev g : Snapshot
  g = snapshot_of w

  abbrev g' : Snapshot
  g' = snapshot_of w'

  well : IsWellFormed g
  well = stands_well w is.sound is.between is.encodable

  well' : IsWellFormed g'
  well' = stands_well w' is'.sound is'.between is'.encodable

  r : Reacts w w'
  r = reacts p w is owner value live octet draws done w' acts

  same : HaveSameBests g g'
  same = record {
    clocks = λ v. clocks_after p w w' r v;
    links = λ a b. links_after p w w' r a b;
    links_back = λ a b. links_before p w w' r a b;
    best = λ v b was. unmoved v b (clocks_after p w w' r v was.reached.1.begins) was;
  }

  sound_then : IsSoundWorld w → IsSoundWorld w'
  sound_then sound =
      reacts_sound p w is owner value live octet draws done w' acts well'
      (sound_over g g' well well' same says_announce (view w) sound)

  -- ---- the system goes on as it did

  abbrev place : ℕ
  place = acts.1.place

  abbrev station : Station
  station = acts.1.station

  here : slice_get w.stations place ≡ Some station
  here = acts.1.is.here

  abbrev x : ℕ
  x = clock station.system

  abbrev set_up : Station
  set_up = with_setup value station

  abbrev v : WorldState
  v = with_station place set_up (record w { last_change = w.time })

  known_before : In (standing_system station) g.systems
  known_before =
      live_there w.stations place station here (live place station (record { here = here; named = acts.1.is.named }))

  -- the best that it follows
  record HasBest : Type 0 where
    best : System
    is_best : IsBest g x best
    root : station.system.root ≡ best.identity

  has_best : IsSettledSeen p w → AllAreNear g → HasBest
  has_best seen near =
      let (d, far, close) = near x (In-clocks g (standing_system station) known_before) in
      let n = seen.n in
      let best = far.best in
      let far_seen : IsDistance n.graph x d = subst (λ h. IsDistance h x d) (sym seen.graph) far in
      let there = station_there w.stations place station here in
      let at_place : slice_get (view w).stations (n.place x) ≡ Some (station_view station) =
      subst (λ i. slice_get (view w).stations i ≡ Some (station_view station))
      (seen.calm.placed place (station_view station) there) there in
      let chosen =
      all_choose says_announce n seen.net (view w) seen.calm seen.invariant seen.late d close
      (by_then_at says_announce n seen.net (view w) seen.calm seen.invariant seen.late d
      (IsDistance-within n.graph n.reach x d seen.net.paths far_seen)) x best (station_view station) at_place
      (subst (λ h. IsBest h x best) (sym seen.graph) far.is_best) far_seen in
      record { best = best; is_best = far.is_best; root = chosen.root }

  module _ (answer : Answer) (c : Calls place (Priority value) v draws answer w') where
    abbrev named_so : ℕ
    named_so = value * 2 ^ 104 + station.system.identity % 2 ^ 104

    abbrev now : System
    now = standing_system (in_state c.after c.station)

    now_known : In now g'.systems
    now_known = known p w is owner value live octet draws done w' acts answer c

    named_now : c.after.identity ≡ named_so
    named_now = identity_is p w is owner value live octet draws done w' acts answer c

    clock_now : now.clock ≡ x
    clock_now = ap clock_of named_now ∙ priority_clock value station.system

    -- it follows another, and its new identity is worse than that root; or its identity is the same
    worse : HasBest
        → ((station.system.root ≢ station.system.identity) × (station.system.root < named_so))
        ⊎ (named_so ≡ station.system.identity)
    worse has =
        let b = has.best in
        let was = has.is_best in
        let is_now = same.best x b was in
        elim (ℕ_discrete b.clock x) [
          | yes own ↦
              let before : b ≡ standing_system station =
              same_clock g b (standing_system station) well was.live known_before own in
              let after : b ≡ now = same_clock g' b now well' is_now.live now_known (own ∙ sym clock_now) in
              inr (sym named_now ∙ ap (λ (s : System). s.identity) (sym after)
              ∙ ap (λ (s : System). s.identity) before)
          | no other ↦ inl (
            λ own. other (ap (λ (s : System). s.clock) (same_identity g b (standing_system station) well was.live
                known_before (sym has.root ∙ own))),
            above other,
          )
        ]
      where
        above : (has.best.clock ≢ x) → station.system.root < named_so
        above other =
            let b = has.best in
            let is_now = same.best x b has.is_best in
            let reached : Reaches g' x now.clock =
            subst (Reaches g' x) (sym clock_now)
            (Reaches-self g' x (same.clocks x (In-clocks g (standing_system station) known_before))) in
            let least : b.identity ≤ now.identity = is_now.least now now_known reached in
            let root = has.root in
            let named = named_now in
            elim (dec_lt b.identity named_so) [
              | yes less ↦ omega (arith, less, root)
              | no not_less ↦ absurd (other (ap (λ (s : System). s.clock)
                  (same_identity g' b now well' is_now.live now_known (omega (arith, least, not_less, named)))
                  ∙ clock_now))
            ]

    stands_as : set_up ≡ c.station
    stands_as =
        same_there v.stations place set_up c.station (get-set_same w.stations place station set_up here) c.here

    quiet : HasBest → (c.after ≡ with_priority value station.system) × (c.sends ≡ [])
    quiet has =
        let steady = (is.sound.on_time.stations place station here).steady in
        chooses_again value v.time station.system c.after c.sends steady.held steady.rest
        (subst (λ (y : Station). Selects v.time (with_priority value y.system) c.after c.sends) (sym stands_as) c.steps)
        (worse has)

    differs : HasBest → DiffersInName w w'
    differs has =
        let (state, silent) = quiet has in
        let after = in_state c.after c.station in
        let net : c.net ≡ all_timers place after v.net =
        (subst (λ sends. SendsAll v.time c.after sends draws (all_timers place after v.net) c.net) silent c.sent).1 in
        record {
          time = r.time;
          stations = ap (λ (y : WorldState). map shown y.stations) c.is
              ∙ map-set_same shown v.stations place c.station after c.here
              (ap (λ s. record (system_view c.station.live s) { identity = 0 })
              (state ∙ ap (λ (y : Station). with_priority value y.system) stands_as)
              ∙ shown_same c.station.live value c.station.system)
              ∙ map-set_same shown w.stations place station set_up here refl;
          channels = ap (λ (y : WorldState). y.net.channels) c.is ∙ ap (λ (n : Net). n.channels) net;
        }

  differs_in_name : IsSettledSeen p w → AllAreNear g → DiffersInName w w'
  differs_in_name seen near =
      let (answer, c) = answered p w is owner value live octet draws done w' acts in
      differs answer c (has_best seen near)

  -- ---- each link is at its last stage

  last_stages : (n : Network) → n ≡ wired_as n (start_network p 0 0 w') → IsSoundWorld w' → IsSettledSeen p w
      → AllAreNear g → Invariant says_announce n (view w')
  last_stages n wired sound' seen near = record {
    sound = λ now. subst (λ h. ReceivedFits h (view w')) (sym (ap (λ (y : Network). y.graph) wired))
        (received_fits says_announce g' (view w') well' (on_links says_announce g' (view w') sound'));
    levels = λ d best a pp u q close leads.
        stage_stays w w' (differs_in_name seen near) (wiring n d best a pp u q)
        (stage_settled p w seen (record n { graph = g }) seen.graph (record {
          place = wires.place;
          lane = wires.lane;
          log = wires.log;
          interval = wires.interval;
        }) d best a pp u q close
        (leads_back g g' well well' same d best a pp u q
        (subst (λ h. LeadsFarther h d best a pp u q) (ap (λ (y : Network). y.graph) wired) leads)));
  }
    where
      wires : SameWiring seen.n n
      wires = wiring_same p w w' r seen.n n seen.same wired

  -- ---- the claims

  module _ (pace : KeepPace p) (measured : LinkIsMeasured w) (measured' : LinkIsMeasured w')
      (off : NothingLapses p.params) (past : next ≤ w.time) (near : AllAreNear g) (settled : HasSettledSeen p w)
      (sound : IsSoundWorld w) (ready : AreReadyBy p next w) (silent : AreSilentBy p next w) where
    ready_then : AreReadyBy p next w'
    ready_then = priority_ready p next owner value w draws done w' is is' measured live silent octet acts ready

    news : IsNews p next w'
    news = record {
      pace = pace;
      world = is';
      measured = measured';
      silent = priority_silent p next owner value w draws done w' is is' measured live silent octet acts;
      sound = sound_then sound;
      ready = ready_then;
      settling = λ m bounded calm off.
          last_stages (news_network p m next w') refl (sound_then sound) (settled (quiet_before p w w' r calm) off)
          near;
      in_turn = λ m bounded calm short. absurd (none_short p (paths_with m w') off short);
    }

    pub unmoved_claimed : IsClaimedAlways p next w'
    unmoved_claimed =
        let time = r.time in
        record {
          news = news;
          heard = ready_heard p next w' is' (omega (arith, past, time)) ready_then;
          settling = λ m bounded calm off.
              last_stages (start_network p m next w') refl (sound_then sound)
              (settled (quiet_before p w w' r calm) off) near;
        }
