-- One act of a world, with what one fate draws, makes one world, and one thing is told of it.
use Rattle.std.proofs.Common.{◌≡◌, ℕ, Bool, true, false, List, [], ◌∷◌, Option, Some, None, slice_get, slice_set, refl, sym, ap, subst, ◌∙◌}
use Rattle.gptp_lists.proofs.MappedLemmas.{same_there}
use Rattle.gptp_vector.specs.declared.port.PortId.{PortId}
use Rattle.gptp_links.specs.declared.bounds.Bounds.{Bounds}
use Rattle.gptp_links.specs.declared.link.Direction.{Direction}
use Rattle.gptp_links.specs.Fate.{Draw, Draws}
use Rattle.gptp_links.specs.Queue.{frame, Frame}
use Rattle.gptp_setup.specs.declared.timer.Timer.{Timer}
use Rattle.gptp_system.specs.declared.answer.Answer.{Answer}
use Rattle.gptp_system.specs.Input.{PortDown, PortUp, Priority}
use Rattle.gptp_system.specs.Input.{Expires as TimerExpires, Frame as FrameHeard}
use Rattle.gptp_scenario.specs.declared.change.Act.{Act}
use Rattle.gptp_scenario.specs.declared.change.Act.TheVariants.{Deliver, Expire, Change as Changing}
use Rattle.gptp_scenario.specs.declared.change.Change.{Change}
use Rattle.gptp_scenario.specs.declared.change.Change.TheVariants.{LinkDown, LinkUp, LinkSet, Fail, Recover, Priority1, Inject}
use Rattle.gptp_model.specs.declared.done.Done.{Done}
use Rattle.gptp_model.specs.declared.done.Done.TheVariants.{Quiet, Heard}
use Rattle.gptp_model.specs.declared.item.Item.TheVariants.{Arrival}
use Rattle.gptp_model.specs.declared.station.Station.{Station}
use Rattle.gptp_model.specs.Act.{Delivers, TimerRunsOut, Hears}
use Rattle.gptp_model.specs.Acts.{set_to, Acts, Changes, Delivery, TellsHearing}
use Rattle.gptp_model.specs.Agrees.{stopped}
use Rattle.gptp_model.specs.Changing.{brought_up, failed, taken_down, with_bounds, with_setup, with_station, CallsIfLive, ComesUpIf, FailsIf, GoesDownIf, InjectsIf, RecoversIf}
use Rattle.gptp_model.specs.Pending.{without_first_entry}
use Rattle.gptp_model.specs.World.{port_id, world_queue, receiver, with_queue, Channel, Net, WorldState}
use Rattle.gptp_model.proofs.StayLemmas.{brought_up_stays, carry_join, taken_down_stays, takes_carry}
use Rattle.gptp_determinism.specs.ActLaws.{IsSameAct, SameDone}
use Rattle.gptp_determinism.specs.Named.{AnswersOnce, HaveOwnPorts, IsNamed}
use Rattle.gptp_determinism.proofs.CallLemmas.{calls_if_live_once, calls_once, live_or_failed, starts_once, tells_ends_once}
use Rattle.gptp_determinism.proofs.NameLemmas.{link_too, named_at, named_still, ports_kept, system_too}
use Rattle.gptp_determinism.proofs.SendLemmas.{send_once, AreDrawn}

-- what stands in front, and after it
octets_of : List Frame → List ℕ
octets_of [] = []
octets_of (f ∷ fs) = f.octets

behind : List Frame → List Frame
behind [] = []
behind (f ∷ fs) = fs

fronts_once : (time : ℕ) (octets said : List ℕ) (xs ys : List Frame) → frame time octets ∷ xs ≡ frame time said ∷ ys
    → (octets ≡ said) × (xs ≡ ys)
unfolding octets_of behind
fronts_once time octets said xs ys e = (ap octets_of e, ap behind e)

-- what is told of one frame that reached one port, with one answer, is the same
tells_once : (reached : PortId) (answer : Option Answer) (octets : List ℕ) (done said : Done)
    → TellsHearing reached answer octets done → TellsHearing reached answer octets said → SameDone done said
tells_once reached answer octets Quiet said k l = absurd k
tells_once reached answer octets (Heard clock port told sent) Quiet k l = absurd l
tells_once reached answer octets (Heard clock port told sent) (Heard number place tells others) k l =
    (k.0 ∙ sym l.0, k.1 ∙ sym l.1, k.2 ∙ sym l.2, k.3 ∙ sym l.3)

module _ {F : Type 0} (answers : Bounds → ℕ → F → Option ℕ → F → Type 0) (once : AnswersOnce answers) where
  -- ---- a delivery

  hears_once : (place port : ℕ) (octets : List ℕ) (w v u : WorldState) (ds es : List Draw) (answer said : Option Answer)
      → HaveOwnPorts w.net.channels → AreDrawn answers once ds es → Hears place port octets w ds answer v
      → Hears place port octets w es said u → (ds ≡ es) × (v ≡ u) × (answer ≡ said)
  hears_once place port octets w v u ds es (Some answer) (Some said) own both k l =
      let (draws, worlds, same) =
      calls_once answers once place (FrameHeard port octets) w v u ds es answer said own both k l in
      (draws, worlds, ap Some same)
  hears_once place port octets w v u ds es (Some answer) None own both k (failed, none, same) =
      absurd (live_or_failed place w k.station k.here k.live failed)
  hears_once place port octets w v u ds es None (Some said) own both (failed, none, same) l =
      absurd (live_or_failed place w l.station l.here l.live failed)
  hears_once place port octets w v u ds es None None own both (_, k-none, k-same) (_, l-none, l-same) =
      (k-none ∙ sym l-none, k-same ∙ sym l-same, refl)

  delivers_once : (link : ℕ) (direction : Direction) (octets others : List ℕ) (w v u : WorldState) (ds es : List Draw)
      (answer said : Option Answer) → IsNamed w → AreDrawn answers once ds es
      → Delivers link direction octets w ds answer v → Delivers link direction others w es said u
      → (ds ≡ es) × (v ≡ u) × (answer ≡ said) × (octets ≡ others)
  delivers_once link direction octets others w v u ds es answer said is both k l =
      let channels : l.channel ≡ k.channel =
      same_there w.net.channels link l.channel k.channel l.takes.here k.takes.here in
      let (same, rests) = fronts_once w.time others octets l.takes.rest k.takes.rest
      (sym l.takes.front ∙ ap (world_queue direction) channels ∙ k.takes.front) in
      let left : List Frame → Channel → Net = λ rest c. record {
        channels = slice_set w.net.channels link (with_queue direction rest c);
        pending = without_first_entry (Arrival link direction) w.net.pending;
      } in
      let nets : l.net ≡ k.net =
      l.takes.is ∙ ap (λ (rest : List Frame). left rest l.channel) rests
      ∙ ap (λ (c : Channel). left k.takes.rest c) channels ∙ sym k.takes.is in
      let places : l.place ≡ k.place = is.clocks l.place k.place l.station k.station l.there k.there
      (l.is_end ∙ ap (λ (c : Channel). (receiver direction c).clock) channels ∙ sym k.is_end) in
      let in_net : Net → WorldState = λ n. record w { net = n } in
      let port = (receiver direction k.channel).port in
      let heard : Hears k.place port octets (in_net k.net) es said u =
      subst (λ (xs : List ℕ). Hears k.place port xs (in_net k.net) es said u) same
      (subst (λ (n : Net). Hears k.place port others (in_net n) es said u) nets
      (subst (λ (i : ℕ). Hears i port others (in_net l.net) es said u) places
      (subst (λ (c : Channel). Hears l.place (receiver direction c).port others (in_net l.net) es said u) channels
      l.hears))) in
      let joins = carry_join w.net.channels k.net.channels
      (takes_carry link direction w.time octets k.channel w.net k.net k.takes) in
      let (draws, worlds, told) = hears_once k.place port octets (in_net k.net) v u ds es answer said
      (ports_kept w.net.channels k.net.channels joins is.ports) both k.hears heard in
      (draws, worlds, told, sym same)

  delivery_once : (link : ℕ) (direction : Direction) (done said : Done) (w v u : WorldState) (ds es : List Draw)
      → IsNamed w → AreDrawn answers once ds es → Delivery link direction done w ds v
      → Delivery link direction said w es u → IsSameAct ds es done said v u
  delivery_once link direction done said w v u ds es is both k l =
      let (draws, worlds, answer, octets) =
      delivers_once link direction k.octets l.octets w v u ds es k.answer l.answer is both k.delivers l.delivers in
      let channels : l.channel ≡ k.channel = same_there w.net.channels link l.channel k.channel l.here k.here in
      let told : TellsHearing (receiver direction k.channel) k.answer k.octets said =
      subst (λ (c : Channel). TellsHearing (receiver direction c) k.answer k.octets said) channels
      (subst (λ (a : Option Answer). TellsHearing (receiver direction l.channel) a k.octets said) (sym answer)
      (subst (λ (xs : List ℕ). TellsHearing (receiver direction l.channel) l.answer xs said) (sym octets) l.told)) in
      record {
        draws_are = draws;
        done_is = tells_once (receiver direction k.channel) k.answer k.octets done said k.told told;
        world = worlds;
      }

  -- ---- the changes

  goes_down_once : (up : Bool) (place : ℕ) (channel : Channel) (w v u : WorldState) (ds es : List Draw)
      → slice_get w.net.channels place ≡ Some channel → IsNamed w → AreDrawn answers once ds es
      → GoesDownIf up place channel w ds v → GoesDownIf up place channel w es u → (ds ≡ es) × (v ≡ u)
  goes_down_once true place channel w v u ds es here is both k l =
      tells_ends_once answers once PortDown channel (record w { net = taken_down place channel w.net }) v u ds es
      (named_still w (record w { net = taken_down place channel w.net })
      (taken_down_stays place channel w here is.setups) is) both k l
  goes_down_once false place channel w v u ds es here is both k l = (k.0 ∙ sym l.0, k.1 ∙ sym l.1)

  comes_up_once : (up : Bool) (place : ℕ) (channel : Channel) (w v u : WorldState) (ds es : List Draw)
      → slice_get w.net.channels place ≡ Some channel → IsNamed w → AreDrawn answers once ds es
      → ComesUpIf up place channel w ds v → ComesUpIf up place channel w es u → (ds ≡ es) × (v ≡ u)
  comes_up_once true place channel w v u ds es here is both k l = (k.0 ∙ sym l.0, k.1 ∙ sym l.1)
  comes_up_once false place channel w v u ds es here is both k l =
      tells_ends_once answers once PortUp channel (record w { net = brought_up place channel w.net }) v u ds es
      (named_still w (record w { net = brought_up place channel w.net })
      (brought_up_stays place channel w here is.setups) is) both k l

  fails_once : (live : Bool) (place : ℕ) (station : Station) (w v u : WorldState) (ds es : List Draw)
      → FailsIf live place station w ds v → FailsIf live place station w es u → (ds ≡ es) × (v ≡ u)
  fails_once true place station w v u ds es k l = (k.0 ∙ sym l.0, k.1 ∙ sym l.1)
  fails_once false place station w v u ds es k l = (k.0 ∙ sym l.0, k.1 ∙ sym l.1)

  recovers_once : (live : Bool) (place : ℕ) (w v u : WorldState) (ds es : List Draw) → IsNamed w
      → AreDrawn answers once ds es → RecoversIf live place w ds v → RecoversIf live place w es u → (ds ≡ es) × (v ≡ u)
  recovers_once true place w v u ds es is both k l = (k.0 ∙ sym l.0, k.1 ∙ sym l.1)
  recovers_once false place w v u ds es is both k l = starts_once answers once place w v u ds es is.ports both k l

  injects_once : (up : Bool) (from : PortId) (octets : List ℕ) (w v u : WorldState) (ds es : List Draw) → IsNamed w
      → AreDrawn answers once ds es → InjectsIf up from octets w ds v → InjectsIf up from octets w es u
      → (ds ≡ es) × (v ≡ u)
  injects_once true from octets w v u ds es is both k l =
      let one = subst (λ (vs : List Draw). Draws answers both.fate vs both.one) k.drawn_once both.first in
      let two = subst (λ (vs : List Draw). Draws answers both.fate vs both.other) l.drawn_once both.second in
      let (draws, _, nets) = send_once answers once w.time from octets w.net k.net l.net k.draw l.draw both.fate one.0
      two.0 is.ports k.sent l.sent one.1 two.1 in (
        k.drawn_once ∙ ap (λ (d : Draw). d ∷ []) draws ∙ sym l.drawn_once,
        k.is ∙ ap (λ (n : Net). record w { net = n }) nets ∙ sym l.is,
      )
  injects_once false from octets w v u ds es is both k l = (k.0 ∙ sym l.0, k.1 ∙ sym l.1)

  changes_once : (c : Change) (w v u : WorldState) (ds es : List Draw) → IsNamed w → AreDrawn answers once ds es
      → Changes c w ds v → Changes c w es u → (ds ≡ es) × (v ≡ u)
  changes_once (LinkDown number port) w v u ds es is both k l =
      goes_down_once k.channel.up k.place k.channel w v u ds es k.is.here is both k.so
      (link_too (port_id number port) w.net (λ place channel. GoesDownIf channel.up place channel w ds v)
      (λ place channel. GoesDownIf channel.up place channel w es u) is.ports k l)
  changes_once (LinkUp number port) w v u ds es is both k l =
      comes_up_once k.channel.up k.place k.channel w v u ds es k.is.here is both k.so
      (link_too (port_id number port) w.net (λ place channel. ComesUpIf channel.up place channel w ds v)
      (λ place channel. ComesUpIf channel.up place channel w es u) is.ports k l)
  changes_once (LinkSet number port min max loss) w v u ds es is both k l =
      let Sets : List Draw → WorldState → ℕ → Channel → Type 0 = λ draws x place channel.
      (draws ≡ []) × (x ≡ record w { net = with_bounds (set_to min max loss channel) place channel w.net }) in
      let other = link_too (port_id number port) w.net (Sets ds v) (Sets es u) is.ports k l in
      (k.so.0 ∙ sym other.0, k.so.1 ∙ sym other.1)
  changes_once (Fail number) w v u ds es is both k l =
      fails_once k.station.live k.place k.station w v u ds es k.so
      (system_too number w (λ place station. FailsIf station.live place station w ds v)
      (λ place station. FailsIf station.live place station w es u) is.clocks k l)
  changes_once (Recover number) w v u ds es is both k l =
      recovers_once k.station.live k.place w v u ds es is both k.so
      (system_too number w (λ place station. RecoversIf station.live place w ds v)
      (λ place station. RecoversIf station.live place w es u) is.clocks k l)
  changes_once (Priority1 number value) w v u ds es is both k l =
      let set : ℕ → Station → WorldState = λ place station. with_station place (with_setup value station) w in
      calls_if_live_once answers once k.place (Priority value) (set k.place k.station) v u ds es is.ports both k.so
      (system_too number w (λ place station. CallsIfLive place (Priority value) (set place station) ds v)
      (λ place station. CallsIfLive place (Priority value) (set place station) es u) is.clocks k l)
  changes_once (Inject number port octets) w v u ds es is both k l =
      let from = port_id number port in
      injects_once k.channel.up from octets w v u ds es is both k.so
      (link_too from w.net (λ place channel. InjectsIf channel.up from octets w ds v)
      (λ place channel. InjectsIf channel.up from octets w es u) is.ports k l)

  -- ---- all acts

  expires_once : (place : ℕ) (timer : Timer) (w v u : WorldState) (ds es : List Draw) → IsNamed w
      → AreDrawn answers once ds es → TimerRunsOut place timer w ds v → TimerRunsOut place timer w es u
      → (ds ≡ es) × (v ≡ u)
  expires_once place timer w v u ds es is both k l =
      let same = calls_once answers once place (TimerExpires timer) (stopped place timer w) v u ds es k.answer l.answer
      is.ports both k.calls l.calls in
      (same.0, same.1)

  quiet_once : (ds es : List Draw) (done said : Done) (v u : WorldState) → done ≡ Quiet → said ≡ Quiet
      → (ds ≡ es) × (v ≡ u) → IsSameAct ds es done said v u
  quiet_once ds es done said v u k l same = record {
    draws_are = same.0;
    done_is = subst (λ (d : Done). SameDone d said) (sym k) (subst (λ (d : Done). SameDone Quiet d) (sym l) tt);
    world = same.1;
  }

  acts_drawn_once : (act : Act) (w v u : WorldState) (ds es : List Draw) (done said : Done) → IsNamed w
      → AreDrawn answers once ds es → Acts act w ds done v → Acts act w es said u → IsSameAct ds es done said v u
  acts_drawn_once (Deliver link direction) w v u ds es done said is both k l =
      delivery_once link direction done said w v u ds es is both k l
  acts_drawn_once (Expire number timer) w v u ds es done said is both k l =
      quiet_once ds es done said v u k.0 l.0
      (expires_once k.1.place timer w v u ds es is both k.1.so
      (system_too number w (λ place station. TimerRunsOut place timer w ds v)
      (λ place station. TimerRunsOut place timer w es u)
      is.clocks k.1 l.1))
  acts_drawn_once (Changing c) w v u ds es done said is both k l =
      quiet_once ds es done said v u k.0 l.0
      (changes_once c (record w { last_change = w.time }) v u ds es (named_at w w.time w.time is) both k.1 l.1)

  pub acts_once : (act : Act) (w v u : WorldState) (fate f g : F) (ds es : List Draw) (done said : Done) → IsNamed w
      → Draws answers fate ds f → Draws answers fate es g → Acts act w ds done v → Acts act w es said u
      → IsSameAct ds es done said v u
  acts_once act w v u fate f g ds es done said is k-drawn l-drawn k l =
      acts_drawn_once act w v u ds es done said is
      (record { fate = fate; one = f; other = g; first = k-drawn; second = l-drawn }) k l

-- ---- one list of draws

-- a list is a fate: it answers one after another what is in it, where it is asked that
Lists : Bounds → ℕ → List Draw → Option ℕ → List Draw → Type 0
Lists bounds sent before answer after = before ≡ record { bounds = bounds; sent = sent; answer = answer } ∷ after

answer_in_front : List Draw → Option ℕ
answer_in_front [] = None
answer_in_front (d ∷ ds) = d.answer

draws_behind : List Draw → List Draw
draws_behind [] = []
draws_behind (d ∷ ds) = ds

lists_once : AnswersOnce Lists
unfolding Lists answer_in_front draws_behind
lists_once bounds sent fate f g answer said k l =
    let same = sym k ∙ l in (ap answer_in_front same, ap draws_behind same)

lists_itself : (ds : List Draw) → Draws Lists ds ds []
unfolding Lists
lists_itself [] = refl
lists_itself (d ∷ ds) = (ds, refl, lists_itself ds)

pub acts_once_drawn : (act : Act) (w v u : WorldState) (ds : List Draw) (done said : Done) → IsNamed w
    → Acts act w ds done v → Acts act w ds said u → SameDone done said × (v ≡ u)
acts_once_drawn act w v u ds done said is k l =
    let drawn = lists_itself ds in
    let same = acts_once Lists lists_once act w v u ds [] [] ds ds done said is drawn drawn k l in
    (same.done_is, same.world)
