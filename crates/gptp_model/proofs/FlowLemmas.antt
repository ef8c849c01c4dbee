-- Frames arrive in the order in which they were sent, nothing is in flight on a link that is down, and acts keep it so.
use Rattle.std.proofs.Common.{◌≡◌, ℕ, ◌≤◌, true, false, List, [], ◌∷◌, ◌++◌, Option, Some, None, slice_get, slice_set, refl, sym, ap, subst, ◌∙◌, inl, inr, arith}
use Rattle.std.specs.Prelude.{⊤}
use Rattle.gptp_vector.specs.declared.port.PortId.{PortId}
use Rattle.gptp_links.specs.declared.bounds.Bounds.{Bounds}
use Rattle.gptp_links.specs.declared.link.Direction.{Direction}
use Rattle.gptp_links.specs.declared.link.Direction.TheVariants.{FromA, FromB}
use Rattle.gptp_links.specs.Fate.{Draw}
use Rattle.gptp_links.specs.Queue.{frame, newest_due, AreDueInOrder, Frame, due_after}
use Rattle.gptp_links.proofs.FlightLemmas.{in_order-push, in_order-tail}
use Rattle.gptp_system.specs.declared.sending.Sending.{Sending}
use Rattle.gptp_system.specs.State.{SystemState, own}
use Rattle.gptp_model.specs.World.{Channel, Net, WorldState, world_queue, with_queue, port_id}
use Rattle.gptp_model.specs.Sends.{entered, written, SendsAll, SendsOne}
use Rattle.gptp_model.specs.Act.{in_state, TakesFrame}
use Rattle.gptp_model.specs.Changing.{brought_up, lost, taken_down, with_bounds, StartsAll}
use Rattle.gptp_model.specs.Sound.{AllFlow, Flows}
use Rattle.gptp_model.proofs.AgreeLemmas.{replaced}
use Rattle.gptp_lists.proofs.PlaceLemmas.{set_each}
use Rattle.gptp_scenario.specs.declared.change.Act.{Act}
use Rattle.gptp_model.specs.Acts.{Acts, set_to}
use Rattle.gptp_model.specs.declared.done.Done.{Done}
use Rattle.gptp_model.proofs.ActsByLemmas.{Elementary, acts_by, starts_by}

-- ---- what is on a link becomes other

-- one link becomes another on which frames flow
set_flow : (w : WorldState) (place : ℕ) (old new : Channel) (net : Net)
    → net.channels ≡ slice_set w.net.channels place new → slice_get w.net.channels place ≡ Some old
    → ((direction : Direction) → Flows direction new) → AllFlow w → AllFlow (record w { net = net })
set_flow w place old new net is here flows flow link direction channel there =
    set_each (λ other (x : Channel). (d : Direction) → Flows d x) w.net.channels place old new here flows
    (λ other x apart stands d. flow other d x stands) link channel
    (ap (λ cs. slice_get cs link) (sym is) ∙ there) direction

-- the frames in flight in one direction become others
queue_flows : (direction way : Direction) (channel : Channel) (frames : List Frame) → AreDueInOrder frames
    → (channel.up ≡ false → frames ≡ []) → Flows way channel → Flows way (with_queue direction frames channel)
queue_flows FromA FromA channel frames order still flows = record { order = order; still = still }
queue_flows FromA FromB channel frames order still flows = record { order = flows.order; still = flows.still }
queue_flows FromB FromA channel frames order still flows = record { order = flows.order; still = flows.still }
queue_flows FromB FromB channel frames order still flows = record { order = order; still = still }

-- ---- what a system sends

-- a frame goes after the others, and is due no earlier
entered_flow : (place : ℕ) (direction : Direction) (channel : Channel) (now : ℕ) (octets : List ℕ)
    (answer : Option ℕ) (w : WorldState) → slice_get w.net.channels place ≡ Some channel → channel.up ≡ true → AllFlow w
    → AllFlow (record w { net = entered place direction channel now octets answer w.net })
entered_flow place direction channel now octets None w here up flow = flow
entered_flow place direction channel now octets (Some delay) w here up flow =
    let before : List Frame = world_queue direction channel in
    let at : ℕ = due_after before now delay in
    let frames : List Frame = before ++ frame at octets ∷ [] in
    let late : newest_due before ≤ at = omega arith in
    let order = in_order-push before (frame at octets) (flow place direction channel here).order late in
    set_flow w place channel (with_queue direction frames channel)
    (entered place direction channel now octets (Some delay) w.net) refl here
    (λ way. queue_flows direction way channel frames order (λ down. absurd cc) (flow place way channel here)) flow

sends_one_flow : (now : ℕ) (from : PortId) (octets : List ℕ) (draw : Draw) (w : WorldState) (net' : Net)
    → AllFlow w → SendsOne now from octets draw w.net net' → AllFlow (record w { net = net' })
sends_one_flow now from octets draw w net' flow one =
    subst (λ n. AllFlow (record w { net = n })) (sym one.after)
    (entered_flow one.place one.direction one.channel now octets draw.answer w one.here one.up flow)

sends_flow : (now : ℕ) (s : SystemState) (xs : List Sending) (draws : List Draw) (w : WorldState) (net' : Net)
    → AllFlow w → SendsAll now s xs draws w.net net' → AllFlow (record w { net = net' })
sends_flow now s [] draws w net' flow sends = subst (λ n. AllFlow (record w { net = n })) (sym sends.1) flow
sends_flow now s (x ∷ xs) draws w net' flow (inl (draw, rest, between, is, one, sends)) =
    sends_flow now s xs rest (record w { net = between }) net'
    (sends_one_flow now (own s x.port) (written s x) draw w between flow one) sends
sends_flow now s (x ∷ xs) draws w net' flow (inr (unlinked, sends)) = sends_flow now s xs draws w net' flow sends

-- ---- a delivery

-- the oldest frame leaves
takes_flow : (place : ℕ) (direction : Direction) (now : ℕ) (octets : List ℕ) (channel : Channel) (w : WorldState)
    (net' : Net) → AllFlow w → TakesFrame place direction now octets channel w.net net'
    → AllFlow (record w { net = net' })
takes_flow place direction now octets channel w net' flow takes =
    let flows = flow place direction channel takes.here in
    let front : AreDueInOrder (frame now octets ∷ takes.rest) = subst AreDueInOrder takes.front flows.order in
    let order = in_order-tail (frame now octets) takes.rest front in
    set_flow w place channel (with_queue direction takes.rest channel) net' (ap (λ (n : Net). n.channels) takes.is)
    takes.here
    (λ way. queue_flows direction way channel takes.rest order
    (λ down. let none : frame now octets ∷ takes.rest ≡ [] = sym takes.front ∙ flows.still down in absurd cc)
    (flow place way channel takes.here)) flow

-- ---- changes of a link

-- nothing is in flight any more
lost_flows : (direction : Direction) (channel : Channel) → Flows direction (lost channel)
lost_flows FromA channel = record { order = tt; still = λ down. refl }
lost_flows FromB channel = record { order = tt; still = λ down. refl }

taken_down_flow : (place : ℕ) (channel : Channel) (w : WorldState) → slice_get w.net.channels place ≡ Some channel
    → AllFlow w → AllFlow (record w { net = taken_down place channel w.net })
taken_down_flow place channel w here flow =
    set_flow w place channel (lost channel) (taken_down place channel w.net) refl here
    (λ direction. lost_flows direction channel) flow

-- what is in flight stays
up_flows : (direction : Direction) (channel : Channel) → Flows direction channel
    → Flows direction (record channel { up = true })
up_flows FromA channel flows = record { order = flows.order; still = λ down. absurd cc }
up_flows FromB channel flows = record { order = flows.order; still = λ down. absurd cc }

brought_up_flow : (place : ℕ) (channel : Channel) (w : WorldState) → slice_get w.net.channels place ≡ Some channel
    → AllFlow w → AllFlow (record w { net = brought_up place channel w.net })
brought_up_flow place channel w here flow =
    set_flow w place channel (record channel { up = true }) (brought_up place channel w.net) refl here
    (λ direction. up_flows direction channel (flow place direction channel here)) flow

bounds_flows : (bounds : Bounds) (direction : Direction) (channel : Channel) → Flows direction channel
    → Flows direction (record channel { bounds = bounds })
bounds_flows bounds FromA channel flows = record { order = flows.order; still = flows.still }
bounds_flows bounds FromB channel flows = record { order = flows.order; still = flows.still }

with_bounds_flow : (bounds : Bounds) (place : ℕ) (channel : Channel) (w : WorldState)
    → slice_get w.net.channels place ≡ Some channel → AllFlow w
    → AllFlow (record w { net = with_bounds bounds place channel w.net })
with_bounds_flow bounds place channel w here flow =
    set_flow w place channel (record channel { bounds = bounds }) (with_bounds bounds place channel w.net) refl here
    (λ direction. bounds_flows bounds direction channel (flow place direction channel here)) flow

-- ---- all acts

flow_kept : Elementary ⊥ (λ act. ⊤) (λ octets. ⊤) AllFlow
flow_kept = record {
  system_called = λ place input w draws answer w' k given flow.
      subst AllFlow (sym k.is)
      (sends_flow w.time k.after k.sends draws (replaced place (in_state k.after k.station) w) k.net flow k.sent);
  frame_taken = λ link direction octets channel w net k flow.
      (takes_flow link direction w.time octets channel w net flow k, tt);
  timer_stopped = λ place timer w flow. flow;
  link_down = taken_down_flow;
  link_up = brought_up_flow;
  link_set = λ number port min max loss place channel w here allowed now.
      with_bounds_flow (set_to min max loss channel) place channel w here;
  system_failed = λ place station w here flow. flow;
  system_started = λ place station w here flow. flow;
  priority_set = λ number value place station w here allowed flow. flow;
  octets_injected = λ number port octets w draws w' allowed k flow.
      subst AllFlow (sym k.is) (sends_one_flow w.time (port_id number port) octets k.draw w k.net flow k.sent);
  change_counted = λ w flow. flow;
}

pub acts_flow : (act : Act) (w : WorldState) (draws : List Draw) (done : Done) (w' : WorldState) → AllFlow w
    → Acts act w draws done w' → AllFlow w'
acts_flow act w draws done w' flow k = acts_by flow_kept act w draws done w' (λ none. absurd none) tt k flow

pub starts_all_flow : (places : List ℕ) (w : WorldState) (draws : List Draw) (w' : WorldState) → AllFlow w
    → StartsAll places w draws w' → AllFlow w'
starts_all_flow places w draws w' flow k = starts_by flow_kept places w draws w' k flow
