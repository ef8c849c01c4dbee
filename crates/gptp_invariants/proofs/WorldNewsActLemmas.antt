-- Worlds since news, from event to event: what is watched is ready, what is ready by a time is so by a later one, an
-- act at its time, and a better priority1.
use Rattle.std.proofs.Common.{◌≡◌, ◌≤◌, ◌<◌, ◌+◌, ◌*◌, ℕ, true, List, Option, refl, sym, ap, subst, ◌∙◌, inl, inr, arith}
use Rattle.gptp_lists.proofs.MappedLemmas.{alike}
use Rattle.gptp_lists.proofs.PlaceLemmas.{get-set_all}
use Rattle.gptp_vector.specs.declared.port.PortId.{PortId}
use Rattle.gptp_links.specs.declared.bounds.Bounds.{Bounds}
use Rattle.gptp_links.specs.Fate.{Draw}
use Rattle.gptp_scenario.specs.declared.change.Act.TheVariants.{Change as Changing}
use Rattle.gptp_scenario.specs.declared.change.Change.TheVariants.{Priority1}
use Rattle.gptp_scenario.specs.Params.{KeepPace}
use Rattle.gptp_scenario.specs.SettlingTime.{capability_span, silence_span}
use Rattle.gptp_setup.specs.SettlingParams.{SettlingParams, largest_interval}
use Rattle.gptp_system.specs.Input.{Priority}
use Rattle.gptp_model.specs.declared.done.Done.{Done}
use Rattle.gptp_model.specs.declared.station.Station.{Station}
use Rattle.gptp_model.specs.Acts.{Acts, AtSystem, at as at_time}
use Rattle.gptp_model.specs.Changing.{CallsIfLive, with_setup, with_station}
use Rattle.gptp_model.specs.World.{Channel, WorldState, receiver, sender}
use Rattle.gptp_model.proofs.BareLemmas.{DifferInFlight, bare, calls_bare}
use Rattle.gptp_model.proofs.StayLemmas.{Stays, acts_stay}
use Rattle.gptp_invariants.specs.ChoiceSettlesAsMachine.{IsWorld}
use Rattle.gptp_invariants.proofs.WorldOutlineLemmas.{change_is_last}
use Rattle.gptp_setup.proofs.IntervalLemmas.{interval_positive}
use Rattle.std.proofs.Math.Nat.{add-mul, mul-le-mul_left}
use Rattle.gptp_invariants.specs.DelayLinkView.{LinkPlace}
use Rattle.gptp_invariants.specs.DelayMeasured.{StationIsLiveAt, LinkIsMeasured, LinkStandsAt}
use Rattle.gptp_invariants.specs.WorldNews.{AllLive, AreReadyBy, AreSilentBy, IsReadyBy}
use Rattle.gptp_invariants.specs.WorldNewsLaws.{GainIsNews, NewsAreDone, PriorityIsNews, ReadyIsReadyLater, UnansweredIsSilent, WatchedIsReady}
use Rattle.gptp_invariants.proofs.DelayCapableKeptLemmas.{HaveParams, known_params, same_receiver, same_sender}
use Rattle.gptp_invariants.proofs.DelayChangeKeptLemmas.{acts_measured}
use Rattle.gptp_invariants.proofs.FailedLastAnsweredLemmas.{silent_last}
use Rattle.gptp_invariants.proofs.WorldNewsLemmas.{called_live, news_are_kept, news_begin, news_go_on, none_silent, ready_goes_through}
use Rattle.gptp_invariants.proofs.WorldSoundLemmas.{sound_gains}

-- what is watched is ready, where old frames are gone
pub watched_ready : WatchedIsReady
watched_ready p start w watches past by at stands =
    inr (w.last_change + largest_interval p, w.last_change + 2 * largest_interval p, watches at stands, past, by)

-- what is ready by a time is so by a later one
later_ready : (p : SettlingParams) (start later : ℕ) (at : LinkPlace) (w : WorldState) → start ≤ later
    → IsReadyBy p start at w
    → IsReadyBy p later at w
later_ready p start later at w more (inl (first, (l, by))) = inl (first, (l, omega (arith, by, more)))
later_ready p start later at w more (inr (gone, since, l, past, by)) =
    inr (gone, since, l, omega (arith, past, more), omega (arith, by, more))

-- and so is what is silent
pub silent_by_later : (p : SettlingParams) (start later : ℕ) (w : WorldState) → start ≤ later → AreSilentBy p start w
    → AreSilentBy p later w
silent_by_later p start later w more silent at s = elim (silent at s) [
  | inl off ↦ inl off
  | inr (sent, last, soon) ↦ inr (sent, last, omega (arith, soon, more))
]

pub ready_later : ReadyIsReadyLater
ready_later p start later w more ready silent = (
  λ at stands. later_ready p start later at w more (ready at stands),
  silent_by_later p start later w more silent,
)

-- a port that is unanswered for as long as links take to become capable, or not, is silent
silence_short : (p : SettlingParams) → KeepPace p → largest_interval p + silence_span p < capability_span p
silence_short p pace =
    let periods : silence_span p ≤ (p.params.lost + 2) * largest_interval p =
    mul-le-mul_left (p.params.lost + 2) pace.requests in
    let two : (p.params.lost + 2) * largest_interval p ≡ p.params.lost * largest_interval p + 2 * largest_interval p =
    add-mul p.params.lost 2 (largest_interval p) in
    let five : (p.params.lost + 5) * largest_interval p ≡ p.params.lost * largest_interval p + 5 * largest_interval p =
    add-mul p.params.lost 5 (largest_interval p) in
    omega (arith, periods, two, five, interval_positive p.largest pace.largest)

pub unanswered_silent : UnansweredIsSilent
unanswered_silent p start w pace silent soon at s =
    let gone = w.last_change + largest_interval p in
    inr (gone, silent_last gone at w (silent at s), omega (arith, soon, silence_short p pace))

-- an act at its time
pub news_done : {F : Type 0} (answers : Bounds → ℕ → F → Option ℕ → F → Type 0) → NewsAreDone answers
news_done answers p start timed fate fate_after w w' done none octet k news =
    let timely = k.ready.timely in
    news_are_kept p start timed.act (at_time timed.at w) k.draws done w' none octet k.acts
    (news_go_on p start timed.at w timely.now timely.first news)

-- ---- a better priority1

-- where the links differ in what is in flight alone, what stands stood
stood_live : (p : SettlingParams) (w w' : WorldState) → HaveParams p w → HaveParams p w' → AllLive w → Stays w w'
    → DifferInFlight w.net.channels w'.net.channels → (at : LinkPlace) → LinkStandsAt at w' → LinkStandsAt at w
stood_live p w w' set set' live stays links at stands =
    let (old, here, same) = alike bare bare w.net.channels w'.net.channels (sym links) at.link stands.channel
    stands.here
    in
    let begins = ap (λ (q : PortId). q.clock) (same_sender at.direction old stands.channel same) in
    let ends = ap (λ (q : PortId). q.clock) (same_receiver at.direction old stands.channel same) in
    let asking = before at.asking (sender at.direction stands.channel).clock _ begins stands.asking in
    let answering = before at.answering (receiver at.direction stands.channel).clock _ ends stands.answering in
    let bounds = ap (λ (c : Channel). c.bounds) same in
    let asks = alike_params at.asking _ _ stands.asking asking in
    let answers = alike_params at.answering _ _ stands.answering answering in
    record {
      channel = old;
      here = here;
      up = ap (λ (c : Channel). c.up) same ∙ stands.up;
      lossless = rw bounds stands.lossless;
      asking = asking;
      answering = answering;
      apart = stands.apart;
      good = rw (bounds, answers, asks) stands.good;
    }
  where
    before : (place number was : ℕ) → was ≡ number → StationIsLiveAt place number w' → StationIsLiveAt place was w
    before place number was named x =
        let near = stays.stations place x.station x.here in
        record {
          station = near.old;
          here = near.here;
          live = live place near.old near.here;
          named = sym near.same.named ∙ x.named ∙ sym named;
        }

    alike_params : (place number was : ℕ) (now : StationIsLiveAt place number w') (then : StationIsLiveAt place was w)
        → then.station.setup.params ≡ now.station.setup.params
    alike_params place number was now then = set place then.station then.here ∙ sym (set' place now.station now.here)

module _ (p : SettlingParams) (start number value : ℕ) (w : WorldState) (draws : List Draw) (done : Done)
    (w' : WorldState)
    (is : IsWorld p w) (is' : IsWorld p w') (measured : LinkIsMeasured w) (live : AllLive w)
    (ready : AreReadyBy p start w)
    (octet : value < 256) (acts : Acts (Changing (Priority1 number value)) w draws done w') where
  abbrev now : WorldState
  now = record w { last_change = w.time }

  k : AtSystem number now (λ place station.
      CallsIfLive place (Priority value) (with_station place (with_setup value station) now) draws w')
  k = acts.1

  abbrev set : WorldState
  set = with_station k.place (with_setup value k.station) now

  set_live : AllLive set
  set_live =
      get-set_all (λ (x : Station). x.live ≡ true) w.stations k.place k.station (with_setup value k.station) k.is.here
      (live k.place k.station k.is.here) live

  -- the network is so far as it was
  record IsLikeBefore : Type 0 where
    time : w'.time ≡ w.time
    lives : AllLive w'
    links : DifferInFlight w.net.channels w'.net.channels

  like_before : IsLikeBefore
  like_before = by k.so
    where
      by : CallsIfLive k.place (Priority value) set draws w' → IsLikeBefore
      by (inl (answer, c)) = record {
        time = ap (λ (v : WorldState). v.time) c.is;
        lives = called_live k.place (Priority value) set draws answer w' c set_live;
        links = subst (λ (v : WorldState). DifferInFlight w.net.channels v.net.channels) (sym c.is)
            (calls_bare k.place (Priority value) set draws answer w' c);
      }
      by (inr (failed, none, same)) = record {
        time = ap (λ (v : WorldState). v.time) same;
        lives = subst AllLive (sym same) set_live;
        links = subst (λ (v : WorldState). DifferInFlight w.net.channels v.net.channels) (sym same) refl;
      }

  priority_ready : AreReadyBy p start w'
  priority_ready at stands =
      ready_goes_through p start at (Changing (Priority1 number value)) w w' draws done is.sound measured tt acts
      (ready at (stood_live p w w' (known_params p w is.known.set) (known_params p w' is'.known.set) live stays
      like_before.links at stands))
    where
      stays : Stays w w'
      stays = acts_stay (Changing (Priority1 number value)) w draws done w' is.sound.wired.setups acts

pub priority_news : PriorityIsNews
priority_news p start number value w draws done w' pace is is' measured live sound ready gain octet early acts =
    let like = like_before p start number value w draws done w' is is' measured live ready octet acts in
    let time = like.time in
    news_begin p start w' pace is'
    (acts_measured (Changing (Priority1 number value)) w w' draws done is.sound measured octet acts)
    (none_silent p start w' like.lives)
    (sound_gains p (Priority1 number value) w draws done w' gain octet acts is is' sound)
    (priority_ready p start number value w draws done w' is is' measured live ready octet acts)
    (omega (arith, early, time))

-- ---- every gain

pub gain_news : GainIsNews
gain_news p start change w draws done w' is claim gain octet acts sound silent late =
    let positive = interval_positive p.largest claim.pace.largest in
    let last = change_is_last change w draws done w' acts in
    news_begin p start w' claim.pace claim.world claim.measured silent
    (sound_gains p change w draws done w' gain octet acts is claim.world sound)
    (watched_ready p start w' claim.watched (omega (arith, late, last, positive)) (omega (arith, late, last)))
    (omega (arith, late, positive))
