-- A priority1 that gets no worse leaves claims made of all links always, whether the world has settled or not.
use Rattle.std.proofs.Common.{◌≡◌, ◌<◌, ◌≤◌, ◌*◌, ◌∷◌, ◌∙◌, ℕ, Bool, List, Some, [], ap, arith, false, inl, inr, refl, slice_get, subst, suc, sym, true}
use Rattle.std.specs.Prelude.{◌==◌, ◌&&◌, ◌||◌, if◌then◌else◌, max}
use Rattle.std.proofs.lemmas.Bool.{eq-eqb}
use Rattle.gptp_lists.specs.Members.{In}
use Rattle.gptp_lists.proofs.MappedLemmas.{alike, same_there}
use Rattle.gptp_graph.specs.PathBound.{BoundsPaths}
use Rattle.gptp_graph.specs.Snapshot.{Joins, PortIdentity, System, clocks, port_of}
use Rattle.gptp_graph.proofs.LinkLemmas.{Joins-sym}
use Rattle.gptp_links.specs.Fate.{Draw}
use Rattle.gptp_setup.specs.Intervals.{interval_of}
use Rattle.gptp_setup.specs.SettlingParams.{SettlingParams}
use Rattle.gptp_scenario.specs.Calm.{NothingLapses}
use Rattle.gptp_scenario.specs.declared.change.Act.TheVariants.{Change as Changing}
use Rattle.gptp_scenario.specs.declared.change.Change.TheVariants.{Priority1}
use Rattle.gptp_model.specs.Acts.{Acts}
use Rattle.gptp_model.specs.declared.done.Done.{Done}
use Rattle.gptp_model.specs.World.{Channel, WorldState, sender}
use Rattle.gptp_model.proofs.BareLemmas.{DifferInFlight, bare}
use Rattle.gptp_pdelay_machine.specs.Setting.{Setting}
use Rattle.gptp_bmca_machine.specs.Calm.{Calm}
use Rattle.gptp_bmca_machine.specs.Levels.{Invariant, LeadsFarther}
use Rattle.gptp_bmca_machine.specs.Link.{StaysOn}
use Rattle.gptp_bmca_machine.specs.Network.{IsSettlingNetwork, Network, since, wiring}
use Rattle.gptp_bmca_machine.specs.RestLaws.{SameWiring}
use Rattle.gptp_bmca_machine.specs.SoundLaws.{HasNews, IsSoundOnLinks}
use Rattle.gptp_bmca_machine.proofs.SoundEverywhereLemmas.{on_links}
use Rattle.gptp_bmca_machine.proofs.SoundLemmas.{path_on, received_fits}
use Rattle.gptp_invariants.specs.ChoiceCalm.{HaveQuietLinks, delay_in, greatest_channel_delay, lane_of}
use Rattle.gptp_invariants.specs.ChoiceSettlesAsMachine.{IsWorld}
use Rattle.gptp_invariants.specs.ChoiceView.{port_identity_number, says_announce, view}
use Rattle.gptp_invariants.specs.DelayLinkActs.{IsOneAct}
use Rattle.gptp_invariants.specs.DelayLinkView.{IsLinkOf, LinkPlace}
use Rattle.gptp_invariants.specs.WorldNews.{IsNews}
use Rattle.gptp_invariants.specs.WorldSound.{IsGain}
use Rattle.gptp_invariants.specs.WorldStanding.{channel_is_used, live_stations, snapshot_of, stations_have_clock}
use Rattle.gptp_invariants.proofs.WorldSoundCallLemmas.{links_more}
use Rattle.gptp_invariants.proofs.WorldSystemLemmas.{clock_from, clock_lives, clock_there}
use Rattle.gptp_invariants.proofs.WorldWayLemmas.{way_of}
use Rattle.gptp_invariants.proofs.ChoiceCalmKeptLemmas.{delay_bare, lane_bare, of_kept}
use Rattle.gptp_settling_time.specs.Idle.{Lives}
use Rattle.gptp_settling_time.proofs.WayLinkLemmas.{asks_back, capable_is_on, on_is_capable, place_of_way, way_back, way_stands}
use Rattle.gptp_settling_time.proofs.AlwaysClaimedLemmas.{AreHeard, IsClaimedAlways, standing, start_calm, start_net, start_network}
use Rattle.gptp_settling_time.proofs.AlwaysReactsLemmas.{stage_reacted}
use Rattle.gptp_settling_time.proofs.GainStageLemmas.{ClaimsAlways}
use Rattle.gptp_settling_time.proofs.HeardLemmas.{IsHeardAt, IsOn, StaysCapableAt, heard_from, heard_link, stays_elsewhere, stays_link, stays_on, told_acted}
use Rattle.gptp_settling_time.proofs.PriorityLinkLemmas.{acts_reacting, set_at_link}
use Rattle.gptp_settling_time.proofs.PriorityNewsLemmas.{stood}
use Rattle.gptp_settling_time.proofs.ReactsLemmas.{Reacts, reacts, reacts_news}
use Rattle.gptp_settling_time.proofs.SettledSeenLemmas.{wired_as}

-- ---- what looks at clocks and ends of links alone

has_clock : (systems : List System) (s : System) → In s systems → stations_have_clock systems s.clock ≡ true
has_clock [] s member = absurd member
has_clock (first ∷ systems) s (inl same) = rw (eq-eqb first.clock s.clock (ap (λ (x : System). x.clock) (sym same)))
    refl
has_clock (first ∷ systems) s (inr member) = by (first.clock == s.clock) (has_clock systems s member)
  where
    by : (b : Bool) → stations_have_clock systems s.clock ≡ true → (b || stations_have_clock systems s.clock) ≡ true
    by true has = refl
    by false has = has

delay_alike : (systems others : List System)
    → ((number : ℕ) → stations_have_clock others number ≡ stations_have_clock systems number) →
    (channels : List Channel)
    → greatest_channel_delay others channels ≡ greatest_channel_delay systems channels
delay_alike systems others each [] = refl
delay_alike systems others each (first ∷ channels) =
    λ i. if first.up && (each first.a.clock i && each first.b.clock i)
    then max first.bounds.max (delay_alike systems others each channels i)
    else delay_alike systems others each channels i

-- ---- clocks and links stay

links_stay : (w v : WorldState)
    → ((number : ℕ) → stations_have_clock (live_stations v.stations) number
    ≡ stations_have_clock (live_stations w.stations) number)
    → DifferInFlight w.net.channels v.net.channels → (a b : PortIdentity) → Joins (snapshot_of w) a b
    → Joins (snapshot_of v) a b
links_stay w v lives links =
    links_more w v
    (λ s member. clock_lives v.stations s.clock (lives s.clock ∙ has_clock (live_stations w.stations) s member))
    (λ link channel here.
    let (now, stands, same) = alike bare bare v.net.channels w.net.channels links link channel here in
    record {
      new = now;
      here = stands;
      a = ap (λ (c : Channel). c.a) same;
      b = ap (λ (c : Channel). c.b) same;
      up = λ raised. ap (λ (c : Channel). c.up) same ∙ raised;
    })

module _ (p : SettlingParams) (w w' : WorldState) (r : Reacts w w') where
  used_alike : (channel : Channel) → channel_is_used (live_stations w'.stations) channel
      ≡ channel_is_used (live_stations w.stations) channel
  used_alike channel = λ i. channel.up && (r.lives channel.a.clock i && r.lives channel.b.clock i)

  -- a link in use is so after it
  used_now : (channel now : Channel) → bare now ≡ bare channel
      → channel_is_used (live_stations w.stations) channel ≡ true
      → channel_is_used (live_stations w'.stations) now ≡ true
  used_now channel now same used =
      used_alike now ∙ ap (channel_is_used (live_stations w.stations)) same ∙ used

  pub quiet_before : HaveQuietLinks p.params w' → HaveQuietLinks p.params w
  quiet_before quiet link channel here used =
      let (now, stands, same) = alike bare bare w'.net.channels w.net.channels r.links link channel here in
      let x = quiet link now stands (used_now channel now same used) in
      let bounds = ap (λ (c : Channel). c.bounds) same in
      record { lossless = rw⁻¹ bounds x.lossless; good = rw⁻¹ bounds x.good }

  delay_same : delay_in w' ≡ delay_in w
  delay_same =
      delay_alike (live_stations w.stations) (live_stations w'.stations) r.lives w'.net.channels
      ∙ of_kept (greatest_channel_delay (live_stations w.stations)) (delay_bare (live_stations w.stations))
      w.net.channels w'.net.channels r.links

  -- no link is another
  pub links_before : (a b : PortIdentity) → Joins (snapshot_of w') a b → Joins (snapshot_of w) a b
  links_before = links_stay w' w (λ number. sym (r.lives number)) (sym r.links)

  pub links_after : (a b : PortIdentity) → Joins (snapshot_of w) a b → Joins (snapshot_of w') a b
  links_after = links_stay w w' r.lives r.links

  pub clocks_after : (number : ℕ) → In number (clocks (snapshot_of w)) → In number (clocks (snapshot_of w'))
  clocks_after number known =
      clock_from (live_stations w'.stations) number
      (r.lives number ∙ clock_there (live_stations w.stations) number known)

  -- a network of the world has the wiring of one that it had before
  pub wiring_same : (n n' : Network) → SameWiring n (start_network p 0 0 w)
      → n' ≡ wired_as n' (start_network p 0 0 w') → SameWiring n n'
  wiring_same n n' same is = record {
    place = λ v. ap (λ (x : Network). x.place v) is ∙ r.places v ∙ same.place v;
    lane = λ q.
        ap (λ (x : Network). x.lane q) is
        ∙ of_kept (λ channels. lane_of channels q) (lane_bare q) w.net.channels w'.net.channels r.links
        ∙ same.lane q;
    log = λ q. ap (λ (x : Network). x.log_of q) is ∙ r.logs q ∙ same.log q;
    interval = λ q. ap (λ (x : Network). x.interval_of q) is ∙ ap interval_of (r.logs q) ∙ same.interval q;
  }

-- ---- the change

module _ (p : SettlingParams) (start next owner value : ℕ) (w : WorldState) (draws : List Draw) (done : Done)
    (w' : WorldState) (is : IsClaimedAlways p start w) (world' : IsWorld p w') (live : Lives owner w)
    (octet : value < 256) (gain : IsGain (Priority1 owner value) w)
    (acts : Acts (Changing (Priority1 owner value)) w draws done w') (ahead : start ≤ next) (soon : w.time < next)
    (news' : IsNews p next w') where
  abbrev world : IsWorld p w
  world = is.news.world

  r : Reacts w w'
  r = reacts p w world owner value live octet draws done w' acts

  -- ---- ports

  one_act : (at : LinkPlace) (l : IsLinkOf at w) → IsOneAct at w w' l
  one_act = set_at_link p w world owner value live octet draws done w' acts

  -- a port that is capable stays so
  capable : (at : LinkPlace) (x : IsHeardAt p start at w) → IsOn at w (heard_link p start at w x)
      → StaysCapableAt p at w'
  capable at x on =
      stays_elsewhere p start at (Priority1 owner value) w draws done w' world is.news.measured tt acts r.time x on

  heard_then : (at : LinkPlace) → IsHeardAt p start at w → IsHeardAt p next at w'
  heard_then at (inl (first, x)) =
      heard_from p start next at w' ahead
      (told_acted p start w w' world world' r.time
      (acts_reacting p w world owner value live octet draws done w' acts) one_act at first x).after
  heard_then at (inr stays) = inr (capable at (inr stays) (stays_on p at w world stays))

  heard' : AreHeard p next w'
  heard' at stands = heard_then at (is.heard at (stood w w' r p world world' at stands))

  -- ---- the network

  module _ (m : ℕ) (bounded' : BoundsPaths (snapshot_of w') m) (quiet' : HaveQuietLinks p.params w')
      (off : NothingLapses p.params) where
    abbrev n : Network
    n = start_network p m start w

    abbrev n' : Network
    n' = start_network p m next w'

    news : HasNews (snapshot_of w) (snapshot_of w')
    news = reacts_news p w world owner value live octet draws done w' acts gain

    bounded : BoundsPaths (snapshot_of w) m
    bounded v u us path = bounded' v u us (path_on (snapshot_of w) (snapshot_of w') news v u us path)

    quiet : HaveQuietLinks p.params w
    quiet = quiet_before p w w' r quiet'

    net : IsSettlingNetwork n
    net = start_net p m start w world bounded

    net' : IsSettlingNetwork n'
    net' = start_net p m next w' world' bounded'

    calm : Calm n (view w)
    calm = start_calm p start w (standing is.news) is.heard quiet m

    calm' : Calm n' (view w')
    calm' = start_calm p next w' (standing news') heard' quiet' m

    sound : IsSoundOnLinks says_announce n'.graph (view w')
    sound = on_links says_announce (snapshot_of w') (view w') news'.sound

    always : ClaimsAlways n
    always = record { claimed = λ d pp v. refl; until = λ d pp v. refl; sound = refl }

    wired : SameWiring n n'
    wired =
        wiring_same p w w' r n n'
        (record { place = λ v. refl; lane = λ q. refl; log = λ q. refl; interval = λ q. refl }) refl

    later : (d : ℕ) → since n (suc d) ≤ since n' (suc d)
    later d =
        let delays : suc d * delay_in w' ≡ suc d * delay_in w = ap (λ x. suc d * x) (delay_same p w w' r) in
        let starts = ahead in
        omega (arith, delays, starts)

    -- the port that hears stays on
    lasts : (d : ℕ) (best : System) (v pp u q : ℕ) → d < 255 → LeadsFarther n'.graph d best v pp u q
        → StaysOn (wiring n' d best v pp u q) (view w) (view w')
    unfolding way_back
    lasts d best v pp u q close leads s s' a b from at port at' port' held =
        let from_port = port_of v (suc pp) in
        let to_port = port_of u (suc q) in
        let way = way_of w' from_port to_port leads.joins in
        let back = way_back w' from_port to_port way in
        let at_link = place_of_way p w' world' quiet' to_port from_port back in
        let x = is.heard at_link (stood w w' r p world world' at_link
        (way_stands p w' world' quiet' to_port from_port back
        (Joins-sym (snapshot_of w') from_port to_port leads.joins))) in
        let before = heard_link p start at_link w x in
        let seen = one_act at_link before in
        let channel_then : seen.after.channel ≡ way.channel =
        same_there w'.net.channels way.link seen.after.channel way.channel seen.after.here way.here in
        let asks : port_identity_number (sender at_link.direction before.channel) ≡ to_port =
        ap (λ (k : Setting). k.asking) (sym seen.settled)
        ∙ asks_back w' from_port to_port way seen.after.channel channel_then in
        let y = capable at_link x
        (on_is_capable p w world at_link before u q asks s a
        (subst (λ i. slice_get (view w).stations i ≡ Some s) (r.places u) at) port held) in
        let link = stays_link p at_link w' y in
        let same_channel : link.channel ≡ way.channel =
        same_there w'.net.channels way.link link.channel way.channel link.here way.here in
        capable_is_on p w' world' at_link link u q (asks_back w' from_port to_port way link.channel same_channel) s' b
        at' port' (stays_on p at_link w' world' y)

    better_invariant : Invariant says_announce n' (view w')
    better_invariant =
        let early : w.time < next = soon in
        record {
          sound = λ late. received_fits says_announce n'.graph (view w') net'.graph sound;
          levels = λ d best v pp u q close leads.
              stage_reacted says_announce n n' net net' (view w) (view w') calm (is.settling m bounded quiet off) always
              r.call news (links_before p w w' r) wired (delay_same p w w' r) later (omega (arith, early)) calm' sound
              lasts d best v pp u q close leads;
        }

  pub better_claimed : IsClaimedAlways p next w'
  better_claimed = record {
    news = news';
    heard = heard';
    settling = λ m bounded quiet off. better_invariant m bounded quiet off;
  }
