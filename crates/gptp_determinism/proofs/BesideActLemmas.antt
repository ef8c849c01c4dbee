-- One act in two worlds that are the same but for the time that systems read and tell.
use Rattle.std.proofs.Common.{◌≡◌, ◌*◌, ◌+◌, ◌%◌, ◌^◌, ℕ, Bool, true, false, List, [], ◌∷◌, Option, Some, None, slice_get, slice_set, refl, sym, ap, subst, ◌∙◌, inl, inr}
use Rattle.std.specs.List.{AllZip}
use Rattle.gptp_vector.specs.declared.port.PortId.{PortId}
use Rattle.gptp_links.specs.declared.bounds.Bounds.{Bounds}
use Rattle.gptp_links.specs.declared.link.Direction.{Direction}
use Rattle.gptp_links.specs.declared.link.Direction.TheVariants.{FromA, FromB}
use Rattle.gptp_links.specs.Fate.{Draw, Draws}
use Rattle.gptp_links.specs.Queue.{frame, Frame}
use Rattle.gptp_setup.specs.declared.setup.Setup.{Setup}
use Rattle.gptp_setup.specs.declared.timer.Timer.{Timer}
use Rattle.gptp_setup.specs.declared.timer.Timer.TheVariants as timers
use Rattle.gptp_system.specs.declared.answer.Answer.{Answer}
use Rattle.gptp_system.specs.Input.{PortDown, PortUp, Priority}
use Rattle.gptp_system.specs.Input.{Expires as TimerExpires, Frame as FrameHeard}
use Rattle.gptp_system.specs.State.{SystemState, clock}
use Rattle.gptp_scenario.specs.declared.change.Act.{Act}
use Rattle.gptp_scenario.specs.declared.change.Act.TheVariants.{Deliver, Expire, Change as Changing}
use Rattle.gptp_scenario.specs.declared.change.Change.{Change}
use Rattle.gptp_scenario.specs.declared.change.Change.TheVariants.{LinkDown, LinkUp, LinkSet, Fail, Recover, Priority1, Inject}
use Rattle.gptp_model.specs.declared.done.Done.{Done}
use Rattle.gptp_model.specs.declared.done.Done.TheVariants.{Quiet, Heard}
use Rattle.gptp_model.specs.declared.item.Item.TheVariants.{Arrival, Expiry}
use Rattle.gptp_model.specs.declared.station.Station.{Station}
use Rattle.gptp_model.specs.Act.{Delivers, Hears, TimerRunsOut}
use Rattle.gptp_model.specs.Acts.{set_to, Acts, AtLink, AtSystem, Changes, Delivery, TellsHearing}
use Rattle.gptp_model.specs.Changing.{brought_up, failed, lost, taken_down, with_bounds, with_setup, with_station, CallsIfLive, ComesUpIf, FailsIf, GoesDownIf, InjectsIf, IsChannel, RecoversIf}
use Rattle.gptp_model.specs.Pending.{without, without_first_entry}
use Rattle.gptp_model.specs.Sends.{SendsOne}
use Rattle.gptp_model.specs.Sound.{HaveOwnClocks}
use Rattle.gptp_model.specs.World.{port_id, receiver, sender, with_queue, world_queue, Channel, Net, WorldState}
use Rattle.gptp_model.proofs.StayLemmas.{brought_up_stays, carry_join, taken_down_stays, takes_carry}
use Rattle.gptp_determinism.specs.BesideTime.{SaySame}
use Rattle.gptp_determinism.specs.BesideWorlds.{ActsFitAlike, DoneBeside, FramesBeside, LinksBeside, NetsBeside, StationsBeside, TimersFitAlike, WorldsBeside}
use Rattle.gptp_determinism.specs.ContinuesLaws.{FitAlike, ReceiptsFitAlike}
use Rattle.gptp_determinism.specs.Named.{AnswersOnce, HaveOwnPorts, IsNamed}
use Rattle.gptp_determinism.specs.WorldsBesideLaws.{IsActBeside}
use Rattle.gptp_determinism.proofs.BesideCallLemmas.{all_timers_beside, both_live, calls_beside, calls_if_live_beside, one_live, places_same, plain_down, plain_priority, plain_up, starts_beside, tells_ends_beside}
use Rattle.gptp_determinism.proofs.BesideSendLemmas.{each_at, each_back, each_set, queues_beside, receivers_same, send_beside, with_queues_beside, senders_same}
use Rattle.gptp_determinism.proofs.NameLemmas.{named_at, named_still, ports_kept}
use Rattle.gptp_determinism.proofs.SendLemmas.{AreDrawn}

-- ---- what an act is about

-- an end of a link is at a port
has_end : (port : PortId) (place : ℕ) (net : Net) (channel : Channel) → IsChannel port place net channel
    → (direction : Direction) × (sender direction channel ≡ port)
has_end port place net channel is =
    elim is.joined [
      | inl a ↦ (FromA, a)
      | inr b ↦ (FromB, b)
    ]

-- the link at a port in both worlds, and what is so of it in the other
record LinkBeside (port : PortId) (n m : Net) (So To : ℕ → Channel → Type 0) (k : AtLink port n So)
    (l : AtLink port m To) : Type 0 where
  links : LinksBeside k.channel l.channel
  there : slice_get m.channels k.place ≡ Some l.channel
  so : To k.place l.channel

link_beside : (port : PortId) (n m : Net) (So To : ℕ → Channel → Type 0) → HaveOwnPorts n.channels → NetsBeside n m
    → (k : AtLink port n So) → (l : AtLink port m To) → LinkBeside port n m So To k l
link_beside port n m So To own is k l =
    let (c, here, same) = each_back LinksBeside n.channels m.channels l.place l.channel is.links l.is.here in
    let one = has_end port k.place n k.channel k.is in
    let two = has_end port l.place m l.channel l.is in
    let places = (own l.place k.place two.0 one.0 c k.channel here k.is.here
    (senders_same two.0 c l.channel same ∙ two.1 ∙ sym one.1)).0 in
    let there = subst (λ (i : ℕ). slice_get m.channels i ≡ Some l.channel) places l.is.here in
    record {
      links = each_at LinksBeside n.channels m.channels k.place k.channel l.channel is.links k.is.here there;
      there = there;
      so = subst (λ (i : ℕ). To i l.channel) places l.so;
    }

-- the system of a clock in both worlds
record SystemBeside (number : ℕ) (w v : WorldState) (So To : ℕ → Station → Type 0) (k : AtSystem number w So)
    (l : AtSystem number v To) : Type 0 where
  stations : StationsBeside k.station l.station
  there : slice_get v.stations k.place ≡ Some l.station
  so : To k.place l.station

system_beside : (number : ℕ) (w v : WorldState) (So To : ℕ → Station → Type 0) → HaveOwnClocks w → WorldsBeside w v
    → (k : AtSystem number w So) → (l : AtSystem number v To) → SystemBeside number w v So To k l
system_beside number w v So To own is k l =
    let places = places_same w v number number k.place l.place k.station l.station own is refl k.is.here k.is.named
    l.is.here l.is.named in
    let there = subst (λ (i : ℕ). slice_get v.stations i ≡ Some l.station) places l.is.here in
    record {
      stations =
          each_at StationsBeside w.stations v.stations k.place k.station l.station is.stations k.is.here there;
      there = there;
      so = subst (λ (i : ℕ). To i l.station) places l.so;
    }

-- worlds with such nets
in_nets : (w v : WorldState) (n m : Net) → WorldsBeside w v → NetsBeside n m
    → WorldsBeside (record w { net = n }) (record v { net = m })
in_nets w v n m is nets =
    record { time = is.time; last_change = is.last_change; stations = is.stations; net = nets }

-- a link replaced in both
set_links : (place : ℕ) (c d : Channel) (n m : Net) → NetsBeside n m → LinksBeside c d
    → NetsBeside (record n { channels = slice_set n.channels place c })
    (record m { channels = slice_set m.channels place d })
set_links place c d n m is links =
    record { links = each_set LinksBeside n.channels m.channels place c d is.links links; pending = is.pending }

-- a world stayed as it was in both
nothing_beside : (w v w' v' : WorldState) (ds es : List Draw) → WorldsBeside w v → (ds ≡ []) × (w' ≡ w)
    → (es ≡ []) × (v' ≡ v) → (ds ≡ es) × WorldsBeside w' v'
nothing_beside w v w' v' ds es is k l =
    (k.0 ∙ sym l.0, subst (λ (z : WorldState). WorldsBeside z v') (sym k.1) (subst (WorldsBeside w) (sym l.1) is))

-- ---- frames that are told of

tells_beside : (reached other : PortId) (answer said : Option Answer) (a b : List ℕ) (done also : Done)
    → reached ≡ other → answer ≡ said → SaySame a b → TellsHearing reached answer a done
    → TellsHearing other said b also → DoneBeside done also
tells_beside reached other answer said a b Quiet also ports answers say k l = absurd k
tells_beside reached other answer said a b (Heard clock port told sent) Quiet ports answers say k l = absurd l
tells_beside reached other answer said a b (Heard number port told sent) (Heard called place tells others) ports answers
    say k l = (
      k.0 ∙ ap (λ (p : PortId). p.clock) ports ∙ sym l.0,
      k.1 ∙ ap (λ (p : PortId). p.port) ports ∙ sym l.1,
      k.2 ∙ answers ∙ sym l.2,
      subst (λ (xs : List ℕ). SaySame xs others.items) (sym k.3) (subst (SaySame a) (sym l.3) say),
    )

-- what a Follow_Up asks of both systems, where it goes to one port
receipts_at : (p q : ℕ) (a b : List ℕ) (s t : SystemState) → p ≡ q → ReceiptsFitAlike p a q b s t
    → ReceiptsFitAlike p a p b s t
receipts_at p q a b s t same fit = subst (λ (x : ℕ). ReceiptsFitAlike p a x b s t) (sym same) fit

timer_fits : (timer : Timer) (w v : WorldState) (place : ℕ) (x y : Station) → TimersFitAlike timer w v
    → slice_get w.stations place ≡ Some x → slice_get v.stations place ≡ Some y
    → FitAlike (TimerExpires timer) (TimerExpires timer) w.time x.system y.system
timer_fits (timers.Announce p) w v place x y fit here there = tt
timer_fits (timers.Age p) w v place x y fit here there = tt
timer_fits (timers.Pdelay p) w v place x y fit here there = tt
timer_fits (timers.Respond p) w v place x y fit here there = tt
timer_fits timers.Sync w v place x y fit here there = tt
timer_fits timers.Relay w v place x y fit here there = fit place x y here there
timer_fits timers.Lapse w v place x y fit here there = tt

module _ {F : Type 0} (answers : Bounds → ℕ → F → Option ℕ → F → Type 0) (once : AnswersOnce answers) where
  -- ---- a delivery

  hears_beside : (place port : ℕ) (a b : List ℕ) (w v w' v' : WorldState) (ds es : List Draw)
      (answer said : Option Answer) → HaveOwnPorts w.net.channels → WorldsBeside w v → SaySame a b
      → ((x y : Station) → slice_get w.stations place ≡ Some x → slice_get v.stations place ≡ Some y
      → ReceiptsFitAlike port a port b x.system y.system)
      → AreDrawn answers once ds es → Hears place port a w ds answer w' → Hears place port b v es said v'
      → (ds ≡ es) × WorldsBeside w' v' × (answer ≡ said)
  hears_beside place port a b w v w' v' ds es (Some answer) (Some said) own is say fit both k l =
      let (draws, worlds, same) = calls_beside answers once place (FrameHeard port a) (FrameHeard port b) w v w' v' ds
      es answer said own is (refl, say) fit both k l in
      (draws, worlds, ap Some same)
  hears_beside place port a b w v w' v' ds es (Some answer) None own is say fit both k (failed, none, same) =
      absurd (both_live w v place k.station failed.station is k.here failed.here k.live failed.failed)
  hears_beside place port a b w v w' v' ds es None (Some said) own is say fit both (failed, none, same) l =
      absurd (one_live w v place failed.station l.station is failed.here l.here failed.failed l.live)
  hears_beside place port a b w v w' v' ds es None None own is say fit both (_, k-none, k-same) (_, l-none, l-same) =
      let (draws, worlds) = nothing_beside w v w' v' ds es is (k-none, k-same) (l-none, l-same) in
      (draws, worlds, refl)

  delivers_beside : (link : ℕ) (direction : Direction) (a b : List ℕ) (w v w' v' : WorldState) (ds es : List Draw)
      (answer said : Option Answer) → IsNamed w → WorldsBeside w v → ActsFitAlike (Deliver link direction) w v
      → AreDrawn answers once ds es → Delivers link direction a w ds answer w' → Delivers link direction b v es said v'
      → (ds ≡ es) × WorldsBeside w' v' × (answer ≡ said) × SaySame a b
  delivers_beside link direction a b w v w' v' ds es answer said named is fit both k l =
      let c = k.channel in
      let d = l.channel in
      let links = each_at LinksBeside w.net.channels v.net.channels link c d is.net.links k.takes.here l.takes.here in
      let queues : AllZip FramesBeside (frame w.time a ∷ k.takes.rest) (frame v.time b ∷ l.takes.rest) =
      subst (λ (fs : List Frame). AllZip FramesBeside fs (frame v.time b ∷ l.takes.rest)) k.takes.front
      (subst (AllZip FramesBeside (world_queue direction c)) l.takes.front (queues_beside direction c d links)) in
      let say = queues.0.say in
      let left : List Frame → Channel → Net → Net = λ rest channel net. record {
        channels = slice_set net.channels link (with_queue direction rest channel);
        pending = without_first_entry (Arrival link direction) net.pending;
      } in
      let lefts : NetsBeside (left k.takes.rest c w.net) (left l.takes.rest d v.net) = record {
        links = each_set LinksBeside w.net.channels v.net.channels link (with_queue direction k.takes.rest c)
            (with_queue direction l.takes.rest d) is.net.links
            (with_queues_beside direction k.takes.rest l.takes.rest c d queues.1 links);
        pending = ap (without_first_entry (Arrival link direction)) is.net.pending;
      } in
      let nets : NetsBeside k.net l.net = subst (λ (n : Net). NetsBeside n l.net) (sym k.takes.is)
      (subst (NetsBeside (left k.takes.rest c w.net)) (sym l.takes.is) lefts) in
      let ends = receivers_same direction c d links in
      let ports = ap (λ (p : PortId). p.port) ends in
      let places = places_same w v (receiver direction c).clock (receiver direction d).clock k.place l.place k.station
      l.station named.clocks is (ap (λ (p : PortId). p.clock) ends) k.there k.is_end l.there l.is_end in
      let port = (receiver direction c).port in
      let worlds = in_nets w v k.net l.net is nets in
      let heard = subst (λ (i : ℕ). Hears i port b (record v { net = l.net }) es said v') places
      (subst (λ (p : ℕ). Hears l.place p b (record v { net = l.net }) es said v') (sym ports) l.hears) in
      let joins = carry_join w.net.channels k.net.channels
      (takes_carry link direction w.time a c w.net k.net k.takes) in
      let (draws, after, told) = hears_beside k.place port a b (record w { net = k.net }) (record v { net = l.net }) w'
      v' ds es answer said (ports_kept w.net.channels k.net.channels joins named.ports) worlds say
      (λ x y here there. receipts_at port (receiver direction d).port a b x.system y.system ports
      (fit k.place x y c d (frame w.time a) (frame v.time b) k.takes.rest l.takes.rest here there k.takes.here
      l.takes.here k.takes.front l.takes.front)) both k.hears heard in
      (draws, after, told, say)

  delivery_beside : (link : ℕ) (direction : Direction) (done also : Done) (w v w' v' : WorldState) (ds es : List Draw)
      → IsNamed w → WorldsBeside w v → ActsFitAlike (Deliver link direction) w v → AreDrawn answers once ds es
      → Delivery link direction done w ds w' → Delivery link direction also v es v'
      → IsActBeside ds es done also w' v'
  delivery_beside link direction done also w v w' v' ds es named is fit both k l =
      let (draws, worlds, answer, say) = delivers_beside link direction k.octets l.octets w v w' v' ds es k.answer
      l.answer named is fit both k.delivers l.delivers in
      let links = each_at LinksBeside w.net.channels v.net.channels link k.channel l.channel is.net.links
      k.here l.here in
      record {
        draws_are = draws;
        done_is = tells_beside (receiver direction k.channel) (receiver direction l.channel) k.answer l.answer k.octets
            l.octets done also (receivers_same direction k.channel l.channel links) answer say k.told l.told;
        worlds = worlds;
      }

  -- ---- the changes

  goes_down_beside : (up : Bool) (place : ℕ) (c d : Channel) (w v w' v' : WorldState) (ds es : List Draw)
      → slice_get w.net.channels place ≡ Some c → IsNamed w → WorldsBeside w v → LinksBeside c d
      → AreDrawn answers once ds es → GoesDownIf up place c w ds w' → GoesDownIf up place d v es v'
      → (ds ≡ es) × WorldsBeside w' v'
  goes_down_beside true place c d w v w' v' ds es here named is links both k l =
      let nets : NetsBeside (taken_down place c w.net) (taken_down place d v.net) = record {
        links = each_set LinksBeside w.net.channels v.net.channels place (lost c) (lost d) is.net.links (record {
          a = links.a;
          b = links.b;
          bounds = links.bounds;
          up = refl;
          from_a = tt;
          from_b = tt;
        });
        pending = ap (λ es. without (Arrival place FromB) (without (Arrival place FromA) es)) is.net.pending;
      } in
      let below = record w { net = taken_down place c w.net } in
      tells_ends_beside answers once PortDown c d below (record v { net = taken_down place d v.net }) w' v' ds es
      plain_down links (named_still w below (taken_down_stays place c w here named.setups) named)
      (in_nets w v (taken_down place c w.net) (taken_down place d v.net) is nets) both k l
  goes_down_beside false place c d w v w' v' ds es here named is links both k l = nothing_beside w v w' v' ds es is k l

  comes_up_beside : (up : Bool) (place : ℕ) (c d : Channel) (w v w' v' : WorldState) (ds es : List Draw)
      → slice_get w.net.channels place ≡ Some c → IsNamed w → WorldsBeside w v → LinksBeside c d
      → AreDrawn answers once ds es → ComesUpIf up place c w ds w' → ComesUpIf up place d v es v'
      → (ds ≡ es) × WorldsBeside w' v'
  comes_up_beside true place c d w v w' v' ds es here named is links both k l = nothing_beside w v w' v' ds es is k l
  comes_up_beside false place c d w v w' v' ds es here named is links both k l =
      let nets = set_links place (record c { up = true }) (record d { up = true }) w.net v.net is.net (record {
        a = links.a;
        b = links.b;
        bounds = links.bounds;
        up = refl;
        from_a = links.from_a;
        from_b = links.from_b;
      }) in
      let above = record w { net = brought_up place c w.net } in
      tells_ends_beside answers once PortUp c d above (record v { net = brought_up place d v.net }) w' v' ds es plain_up
      links (named_still w above (brought_up_stays place c w here named.setups) named)
      (in_nets w v (brought_up place c w.net) (brought_up place d v.net) is nets) both k l

  fails_beside : (live : Bool) (place : ℕ) (x y : Station) (w v w' v' : WorldState) (ds es : List Draw)
      → WorldsBeside w v → StationsBeside x y → FailsIf live place x w ds w' → FailsIf live place y v es v'
      → (ds ≡ es) × WorldsBeside w' v'
  fails_beside true place x y w v w' v' ds es is pair k l =
      let dead : StationsBeside (record x { live = false }) (record y { live = false }) =
      record { setup = pair.setup; log = pair.log; system = pair.system; live = refl } in
      let worlds : WorldsBeside (failed place x w) (failed place y v) = record {
        time = is.time;
        last_change = is.last_change;
        stations = each_set StationsBeside w.stations v.stations place (record x { live = false })
            (record y { live = false }) is.stations dead;
        net = all_timers_beside place (record x { live = false }) (record y { live = false }) w.net v.net dead is.net;
      } in
      nothing_beside (failed place x w) (failed place y v) w' v' ds es worlds k l
  fails_beside false place x y w v w' v' ds es is pair k l = nothing_beside w v w' v' ds es is k l

  recovers_beside : (live : Bool) (place : ℕ) (w v w' v' : WorldState) (ds es : List Draw) → IsNamed w
      → WorldsBeside w v → AreDrawn answers once ds es → RecoversIf live place w ds w' → RecoversIf live place v es v'
      → (ds ≡ es) × WorldsBeside w' v'
  recovers_beside true place w v w' v' ds es named is both k l = nothing_beside w v w' v' ds es is k l
  recovers_beside false place w v w' v' ds es named is both k l =
      starts_beside answers once place w v w' v' ds es named.ports is both k l

  injects_beside : (up : Bool) (from : PortId) (octets : List ℕ) (w v w' v' : WorldState) (ds es : List Draw)
      → IsNamed w → WorldsBeside w v → AreDrawn answers once ds es → InjectsIf up from octets w ds w'
      → InjectsIf up from octets v es v' → (ds ≡ es) × WorldsBeside w' v'
  injects_beside true from octets w v w' v' ds es named is both k l =
      let one = subst (λ (vs : List Draw). Draws answers both.fate vs both.one) k.drawn_once both.first in
      let two = subst (λ (vs : List Draw). Draws answers both.fate vs both.other) l.drawn_once both.second in
      let sent = subst (λ (t : ℕ). SendsOne t from octets l.draw v.net l.net) (sym is.time) l.sent in
      let (draws, _, nets) = send_beside answers once w.time from octets octets w.net v.net k.net l.net k.draw l.draw
      both.fate one.0 two.0 named.ports is.net (inl refl) k.sent sent one.1 two.1 in (
        k.drawn_once ∙ ap (λ (d : Draw). d ∷ []) draws ∙ sym l.drawn_once,
        subst (λ (z : WorldState). WorldsBeside z v') (sym k.is)
            (subst (WorldsBeside (record w { net = k.net })) (sym l.is) (in_nets w v k.net l.net is nets)),
      )
  injects_beside false from octets w v w' v' ds es named is both k l = nothing_beside w v w' v' ds es is k l

  sets_beside : (min max loss place : ℕ) (c d : Channel) (w v w' v' : WorldState) (ds es : List Draw)
      → WorldsBeside w v → LinksBeside c d
      → (ds ≡ []) × (w' ≡ record w { net = with_bounds (set_to min max loss c) place c w.net })
      → (es ≡ []) × (v' ≡ record v { net = with_bounds (set_to min max loss d) place d v.net })
      → (ds ≡ es) × WorldsBeside w' v'
  sets_beside min max loss place c d w v w' v' ds es is links k l =
      let nets = set_links place (record c { bounds = set_to min max loss c })
      (record d { bounds = set_to min max loss d }) w.net v.net is.net (record {
        a = links.a;
        b = links.b;
        bounds =
            ap (λ (x : Bounds). record x {
              min = min;
              max = max;
              loss = loss;
            }) links.bounds;
        up = links.up;
        from_a = links.from_a;
        from_b = links.from_b;
      }) in
      nothing_beside (record w { net = with_bounds (set_to min max loss c) place c w.net })
      (record v { net = with_bounds (set_to min max loss d) place d v.net }) w' v' ds es
      (in_nets w v (with_bounds (set_to min max loss c) place c w.net)
      (with_bounds (set_to min max loss d) place d v.net) is nets) k l

  -- a system has another priority1
  priority_beside : (place value : ℕ) (x y : Station) (w v w' v' : WorldState) (ds es : List Draw) → IsNamed w
      → WorldsBeside w v → StationsBeside x y → AreDrawn answers once ds es
      → CallsIfLive place (Priority value) (with_station place (with_setup value x) w) ds w'
      → CallsIfLive place (Priority value) (with_station place (with_setup value y) v) es v'
      → (ds ≡ es) × WorldsBeside w' v'
  priority_beside place value x y w v w' v' ds es named is pair both k l =
      let set : StationsBeside (with_setup value x) (with_setup value y) = record {
        setup =
            ap (λ (setup : Setup). record setup { identity = value * 2 ^ 104 + setup.identity % 2 ^ 104 }) pair.setup;
        log = pair.log;
        system = pair.system;
        live = pair.live;
      } in
      calls_if_live_beside answers once place (Priority value) (with_station place (with_setup value x) w)
      (with_station place (with_setup value y) v) w' v' ds es (plain_priority value) named.ports (record {
        time = is.time;
        last_change = is.last_change;
        stations = each_set StationsBeside w.stations v.stations place (with_setup value x) (with_setup value y)
            is.stations set;
        net = is.net;
      }) both k l

  changes_beside : (c : Change) (w v w' v' : WorldState) (ds es : List Draw) → IsNamed w → WorldsBeside w v
      → AreDrawn answers once ds es → Changes c w ds w' → Changes c v es v' → (ds ≡ es) × WorldsBeside w' v'
  changes_beside (LinkDown number port) w v w' v' ds es named is both k l =
      let other = link_beside (port_id number port) w.net v.net
      (λ place channel. GoesDownIf channel.up place channel w ds w')
      (λ place channel. GoesDownIf channel.up place channel v es v') named.ports is.net k l in
      goes_down_beside k.channel.up k.place k.channel l.channel w v w' v' ds es k.is.here named is other.links both k.so
      (subst (λ up. GoesDownIf up k.place l.channel v es v') (sym other.links.up) other.so)
  changes_beside (LinkUp number port) w v w' v' ds es named is both k l =
      let other = link_beside (port_id number port) w.net v.net
      (λ place channel. ComesUpIf channel.up place channel w ds w')
      (λ place channel. ComesUpIf channel.up place channel v es v') named.ports is.net k l in
      comes_up_beside k.channel.up k.place k.channel l.channel w v w' v' ds es k.is.here named is other.links both k.so
      (subst (λ up. ComesUpIf up k.place l.channel v es v') (sym other.links.up) other.so)
  changes_beside (LinkSet number port min max loss) w v w' v' ds es named is both k l =
      let Sets : List Draw → WorldState → WorldState → ℕ → Channel → Type 0 = λ draws x z place channel.
      (draws ≡ []) × (z ≡ record x { net = with_bounds (set_to min max loss channel) place channel x.net }) in
      let other = link_beside (port_id number port) w.net v.net (Sets ds w w') (Sets es v v') named.ports is.net k l in
      sets_beside min max loss k.place k.channel l.channel w v w' v' ds es is other.links k.so other.so
  changes_beside (Fail number) w v w' v' ds es named is both k l =
      let other = system_beside number w v (λ place station. FailsIf station.live place station w ds w')
      (λ place station. FailsIf station.live place station v es v') named.clocks is k l in
      fails_beside k.station.live k.place k.station l.station w v w' v' ds es is other.stations k.so
      (subst (λ live. FailsIf live k.place l.station v es v') (sym other.stations.live) other.so)
  changes_beside (Recover number) w v w' v' ds es named is both k l =
      let other = system_beside number w v (λ place station. RecoversIf station.live place w ds w')
      (λ place station. RecoversIf station.live place v es v') named.clocks is k l in
      recovers_beside k.station.live k.place w v w' v' ds es named is both k.so
      (subst (λ live. RecoversIf live k.place v es v') (sym other.stations.live) other.so)
  changes_beside (Priority1 number value) w v w' v' ds es named is both k l =
      let other = system_beside number w v
      (λ place station. CallsIfLive place (Priority value) (with_station place (with_setup value station) w) ds w')
      (λ place station. CallsIfLive place (Priority value) (with_station place (with_setup value station) v) es v')
      named.clocks is k l in
      priority_beside k.place value k.station l.station w v w' v' ds es named is other.stations both k.so other.so
  changes_beside (Inject number port octets) w v w' v' ds es named is both k l =
      let from = port_id number port in
      let other = link_beside from w.net v.net (λ place channel. InjectsIf channel.up from octets w ds w')
      (λ place channel. InjectsIf channel.up from octets v es v') named.ports is.net k l in
      injects_beside k.channel.up from octets w v w' v' ds es named is both k.so
      (subst (λ up. InjectsIf up from octets v es v') (sym other.links.up) other.so)

  -- ---- all acts

  expires_beside : (place : ℕ) (timer : Timer) (w v w' v' : WorldState) (ds es : List Draw) → IsNamed w
      → WorldsBeside w v → TimersFitAlike timer w v → AreDrawn answers once ds es → TimerRunsOut place timer w ds w'
      → TimerRunsOut place timer v es v' → (ds ≡ es) × WorldsBeside w' v'
  expires_beside place timer w v w' v' ds es named is fit both k l =
      let stopped : WorldState → WorldState = λ z.
      record z { net = record z.net { pending = without_first_entry (Expiry place timer) z.net.pending } } in
      let worlds : WorldsBeside (stopped w) (stopped v) = record {
        time = is.time;
        last_change = is.last_change;
        stations = is.stations;
        net = record {
          links = is.net.links;
          pending = ap (without_first_entry (Expiry place timer)) is.net.pending;
        };
      } in
      let same = calls_beside answers once place (TimerExpires timer) (TimerExpires timer) (stopped w) (stopped v)
      w' v' ds es k.answer l.answer named.ports worlds refl
      (λ x y here there. timer_fits timer w v place x y fit here there) both k.calls l.calls in
      (same.0, same.1)

  quiet_beside : (ds es : List Draw) (done also : Done) (w v : WorldState) → done ≡ Quiet → also ≡ Quiet
      → (ds ≡ es) × WorldsBeside w v → IsActBeside ds es done also w v
  quiet_beside ds es done also w v k l same = record {
    draws_are = same.0;
    done_is = subst (λ (d : Done). DoneBeside d also) (sym k) (subst (λ (d : Done). DoneBeside Quiet d) (sym l) tt);
    worlds = same.1;
  }

  acts_drawn_beside : (act : Act) (w v w' v' : WorldState) (ds es : List Draw) (done also : Done) → IsNamed w
      → WorldsBeside w v → ActsFitAlike act w v → AreDrawn answers once ds es → Acts act w ds done w'
      → Acts act v es also v' → IsActBeside ds es done also w' v'
  acts_drawn_beside (Deliver link direction) w v w' v' ds es done also named is fit both k l =
      delivery_beside link direction done also w v w' v' ds es named is fit both k l
  acts_drawn_beside (Expire number timer) w v w' v' ds es done also named is fit both k l =
      let other = system_beside number w v (λ place station. TimerRunsOut place timer w ds w')
      (λ place station. TimerRunsOut place timer v es v') named.clocks is k.1 l.1 in
      quiet_beside ds es done also w' v' k.0 l.0
      (expires_beside k.1.place timer w v w' v' ds es named is fit both k.1.so other.so)
  acts_drawn_beside (Changing c) w v w' v' ds es done also named is fit both k l =
      quiet_beside ds es done also w' v' k.0 l.0
      (changes_beside c (record w { last_change = w.time }) (record v { last_change = v.time }) w' v' ds es
      (named_at w w.time w.time named) (record {
        time = is.time;
        last_change = is.time;
        stations = is.stations;
        net = is.net;
      }) both k.1 l.1)

  pub acts_beside : (act : Act) (w v w' v' : WorldState) (fate f g : F) (ds es : List Draw) (done also : Done)
      → IsNamed w → WorldsBeside w v → ActsFitAlike act w v → Draws answers fate ds f → Draws answers fate es g
      → Acts act w ds done w' → Acts act v es also v' → IsActBeside ds es done also w' v'
  acts_beside act w v w' v' fate f g ds es done also named is fit k-drawn l-drawn k l =
      acts_drawn_beside act w v w' v' ds es done also named is fit
      (record { fate = fate; one = f; other = g; first = k-drawn; second = l-drawn }) k l
