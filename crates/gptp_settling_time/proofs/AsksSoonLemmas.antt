-- A port whose next request finds nothing old. What is in flight at its link is due within the greatest delay, and what
-- is pending of exchanges is over before that request.
use Rattle.std.proofs.Common.{◌≡◌, ◌<◌, ◌≤◌, ◌+◌, ◌*◌, ℕ, suc, List, [], ◌∷◌, map, Some, None, slice_get, refl, sym, ap, subst, ◌∙◌, inl, inr, arith}
use Rattle.std.specs.List.{AllByRecursion}
use Rattle.std.proofs.lemmas.Option.{none-some}
use Rattle.gptp_lists.specs.Members.{In}
use Rattle.gptp_lists.proofs.SystemSpecLemmas.{In-map}
use Rattle.gptp_links.specs.declared.link.Direction.{Direction}
use Rattle.gptp_links.specs.declared.link.Direction.TheVariants.{FromA, FromB}
use Rattle.gptp_links.specs.Queue.{Frame}
use Rattle.gptp_setup.specs.declared.setup.Params.{Params}
use Rattle.gptp_setup.specs.Intervals.{interval_of}
use Rattle.gptp_setup.specs.SettlingParams.{SettlingParams}
use Rattle.gptp_scenario.specs.Params.{KeepPace}
use Rattle.gptp_model.specs.declared.item.Item.TheVariants.{Arrival}
use Rattle.gptp_model.specs.Sound.{IsSound}
use Rattle.gptp_model.specs.World.{Channel, WorldState, world_queue}
use Rattle.gptp_model.proofs.MomentLemmas.{times-all}
use Rattle.gptp_model.proofs.SoundLemmas.{agrees_arrivals}
use Rattle.gptp_pdelay_machine.specs.Bounds.{Bounds}
use Rattle.gptp_pdelay_machine.specs.Facts.{Facts}
use Rattle.gptp_pdelay_machine.specs.FirstLaws.{exchange_span}
use Rattle.gptp_pdelay_machine.specs.Lanes.{AreMute, LaneFrame}
use Rattle.gptp_pdelay_machine.specs.Messages.{Request}
use Rattle.gptp_pdelay_machine.specs.Setting.{Setting}
use Rattle.gptp_invariants.specs.ChoiceCalm.{delay_in}
use Rattle.gptp_invariants.specs.ChoiceSettlesAsMachine.{IsWorld}
use Rattle.gptp_invariants.specs.DelayLinkLaws.{IsGoneBy}
use Rattle.gptp_invariants.specs.DelayLinkView.{IsLinkOf, LinkPlace, link_frame_view, link_setting, other_direction, pair, reads_as_reply, reads_as_request}
use Rattle.gptp_invariants.specs.DelayMeasured.{LinkIsMeasured}
use Rattle.gptp_invariants.specs.WorldStanding.{live_stations}
use Rattle.gptp_invariants.proofs.DelayLinkCallLemmas.{seen_from}
use Rattle.gptp_invariants.proofs.DelayLinkFactLemmas.{facts_begin, links_fresh}
use Rattle.gptp_invariants.proofs.WorldGreatestDelayLemmas.{delay_of_used}
use Rattle.gptp_invariants.proofs.WorldNewsLemmas.{link_used}
use Rattle.gptp_settling_time.proofs.RestartLemmas.{IsPrompt}
use Rattle.gptp_settling_time.proofs.WillAskLemmas.{WillAsk}

-- ---- frames

-- what is in flight isn't late
pub due_now : (w : WorldState) → IsSound w → (link : ℕ) (direction : Direction) (channel : Channel)
    → slice_get w.net.channels link ≡ Some channel → (f : Frame) → In f (world_queue direction channel)
    → w.time ≤ f.due
due_now w sound link direction channel here =
    each (world_queue direction channel)
    (subst (AllByRecursion (λ u. w.time ≤ u)) (agrees_arrivals w sound.agrees link direction channel here)
    (times-all (λ u. w.time ≤ u) (Arrival link direction) w.net.pending sound.on_time.pending))
  where
    each : (fs : List Frame) → AllByRecursion (λ u. w.time ≤ u) (map (λ (f : Frame). f.due) fs) → (f : Frame)
        → In f fs → w.time ≤ f.due
    each [] all f member = absurd member
    each (one ∷ fs) all f (inl here) = subst (λ (x : Frame). w.time ≤ x.due) (sym here) all.0
    each (one ∷ fs) all f (inr later) = each fs all.1 f later

-- so what is seen of it is
pub seen_due : (bound : ℕ) (fs : List Frame) → ((f : Frame) → In f fs → f.due ≤ bound) → (g : LaneFrame)
    → In g (map link_frame_view fs) → g.due ≤ bound
seen_due bound fs all g member =
    let (f, among, same) = seen_from fs g member in
    subst (λ (x : LaneFrame). x.due ≤ bound) (sym same) (all f among)

-- frames of both lanes are those of each
pub both_ways : (So : Direction → Type 0) (way : Direction) → So way → So (other_direction way)
    → (direction : Direction) → So direction
both_ways So FromA own other FromA = own
both_ways So FromA own other FromB = other
both_ways So FromB own other FromA = other
both_ways So FromB own other FromB = own

-- ---- a port asks soon

module _ (p : SettlingParams) (next port : ℕ) (at : LinkPlace) (w : WorldState) (pace : KeepPace p) (is : IsWorld p w)
    (measured : LinkIsMeasured w) (prompt : IsPrompt at w.time port w)
    (soon : w.time + 2 * interval_of p.params.pdelay + (delay_in w + p.params.turnaround + delay_in w) < next) where
  abbrev l : IsLinkOf at w
  l = prompt.link

  abbrev set : Setting
  set = link_setting at w prompt.link

  asks_by : l.asking.station.setup.params ≡ p.params
  asks_by = (is.known.set at.asking l.asking.station l.asking.here).starts.params

  answers_by : l.answering.station.setup.params ≡ p.params
  answers_by = (is.known.set at.answering l.answering.station l.answering.here).starts.params

  pub period_is : set.period ≡ interval_of p.params.pdelay
  period_is = ap (λ (y : Params). interval_of y.pdelay) asks_by

  turnaround_is : set.turnaround ≡ p.params.turnaround
  turnaround_is = ap (λ (y : Params). y.turnaround) answers_by

  short : exchange_span set < set.period
  short =
      let good = l.good.short in
      let threshold = ap (λ (y : Params). y.threshold) asks_by in
      let turnaround = turnaround_is in
      let interval = period_is in
      let answered = pace.params.answered in
      omega (arith, good, threshold, turnaround, interval, answered)

  -- two intervals and an exchange over the link are over by then
  over : (asked : ℕ) → asked ≤ w.time → asked + set.period + set.period + exchange_span set < next
  over asked before =
      let greatest : l.channel.bounds.max ≤ delay_in w =
      delay_of_used (live_stations w.stations) w.net.channels at.link l.channel l.here (link_used at w l) in
      let turnaround = turnaround_is in
      let interval = period_is in
      omega (arith, greatest, turnaround, interval, soon, before)

  -- what is in flight is due within the greatest delay
  flight : IsGoneBy (w.time + set.most) at w l
  flight =
      both_ways (λ direction. (f : Frame) → In f (world_queue direction l.channel) → f.due ≤ w.time + set.most)
      at.direction
      (λ f member.
      prompt.out (link_frame_view f) (In-map link_frame_view f (world_queue at.direction l.channel) member))
      (λ f member.
      prompt.back (link_frame_view f)
      (In-map link_frame_view f (world_queue (other_direction at.direction) l.channel) member))

  facts : Facts set (w.time + set.most) (pair at w l)
  facts = facts_begin at (w.time + set.most) w l is.sound measured flight

  -- what is pending of exchanges before the next request is over by then
  will : (gone : ℕ) → gone + set.turnaround + set.most < (pair at w l).asker.asked + set.period
      → Bounds set reads_as_request reads_as_reply gone (pair at w l)
      → WillAsk gone ((pair at w l).asker.asked + set.period) next at w
  will gone late bounds =
      let a = (pair at w l).asker in
      let some : 0 < set.period = (let long = short in omega (arith, long)) in
      record {
        watched = record {
          link = l;
          good = record { short = short; late = late };
          facts = record {
            asked = facts.asked;
            request_timer = facts.request_timer;
            answer_timer = facts.answer_timer;
            out = λ f member. record {
              earliest = (facts.out f member).earliest;
              latest = (let due = prompt.out f member in omega (arith, due));
            };
            back = λ f member. record {
              earliest = (facts.back f member).earliest;
              latest = (let due = prompt.back f member in omega (arith, due));
            };
          };
          inv = record {
            phases = record {
              bounds = bounds;
              clean = λ since. absurd (omega (arith, since, some));
            };
            measured = λ since. absurd (omega (arith, since, some));
          };
        };
        asks = inl refl;
        by = over a.asked facts.asked;
      }

  -- the port that asks did so just now
  pub now_asks : (pair at w l).asker.asked ≡ w.time
      → WillAsk (w.time + set.most) ((pair at w l).asker.asked + set.period) next at w
  now_asks now =
      let fresh_link = links_fresh at (w.time + set.most) (suc w.time) w l is.sound measured flight (omega arith)
      (omega arith) in
      let long = short in
      will (w.time + set.most) (omega (arith, now, long))
      (record {
        request = λ f r member says. (let due = prompt.out f member in omega (arith, due));
        waiting = λ x waits. (let due = fresh_link.waiting x waits in omega (arith, due));
        reply = λ f r member says. (let due = prompt.back f member in omega (arith, due));
      })

  -- or but for its last request nothing is pending
  pub alone_asks :
      ((f : LaneFrame) (r : Request) → In f (pair at w l).out → reads_as_request f.octets r
      → f.due ≤ (pair at w l).asker.asked + set.most)
      → (pair at w l).waits ≡ None → AreMute reads_as_reply (pair at w l).back
      → WillAsk ((pair at w l).asker.asked + set.most) ((pair at w l).asker.asked + set.period) next at w
  alone_asks requests waits mute =
      let long = short in
      will ((pair at w l).asker.asked + set.most) (omega (arith, long))
      (record {
        request = λ f r member says. (let due = requests f r member says in omega (arith, due));
        waiting = λ x some. absurd (none-some x (sym waits ∙ some));
        reply = λ f r member says. absurd (mute f member r says);
      })

  pub soon_after : (asked : ℕ) → asked ≤ w.time → asked + set.period ≤ w.time + interval_of p.params.pdelay
  soon_after asked before = let interval = period_is in omega (arith, interval, before)

  pub asked_before : (pair at w l).asker.asked ≤ w.time
  asked_before = facts.asked
