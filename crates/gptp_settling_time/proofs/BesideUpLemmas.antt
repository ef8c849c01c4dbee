-- A link that comes up leaves the same seen of each other link.
use Rattle.std.proofs.Common.{◌≡◌, ◌≢◌, true, false, ℕ, List, [], ◌∷◌, map, Some, slice_get, refl, sym, ap, ◌∙◌}
use Rattle.std.proofs.lemmas.Option.{same_Some}
use Rattle.gptp_links.specs.declared.link.Direction.{Direction}
use Rattle.gptp_links.specs.Fate.{Draw}
use Rattle.gptp_links.specs.Queue.{Frame}
use Rattle.gptp_setup.specs.Intervals.{interval_of}
use Rattle.gptp_setup.specs.SettlingParams.{SettlingParams}
use Rattle.gptp_system.specs.Input.{PortUp}
use Rattle.gptp_model.specs.Changing.{TellsEnds, brought_up}
use Rattle.gptp_model.specs.World.{Channel, WorldState, world_queue}
use Rattle.gptp_pdelay_machine.specs.Lanes.{LaneFrame}
use Rattle.gptp_bmca_machine.specs.Frame.{AnnounceFrame, Lane}
use Rattle.gptp_invariants.specs.ChoiceSettlesAsMachine.{IsWorld}
use Rattle.gptp_invariants.specs.ChoiceView.{frame_view, lane_place, lane_view, port_identity_number, view}
use Rattle.gptp_invariants.specs.DelayLinkView.{IsLinkOf, LinkPlace, asker_view, link_frame_view, link_lane_view, other_direction, waits_view, kept_view}
use Rattle.gptp_invariants.proofs.ChoiceSeenLaneLemmas.{lane_there}
use Rattle.gptp_invariants.proofs.WorldWayLemmas.{one_way}
use Rattle.gptp_invariants.proofs.PortInputLemmas.{of_up}
use Rattle.gptp_settling_time.proofs.RaisedLemmas.{IsRaised}
use Rattle.gptp_settling_time.proofs.SameLinkLemmas.{IsSameLink}
use Rattle.gptp_settling_time.proofs.SamePartsLemmas.{HasSameParts, tells_parts}

-- ---- frames in flight

abbrev lane_frame : AnnounceFrame → LaneFrame
lane_frame f = record { due = f.due; octets = f.octets }

same_frames : (frames : List Frame) → map lane_frame (map frame_view frames) ≡ map link_frame_view frames
same_frames [] = refl
same_frames (f ∷ frames) = ap (λ rest. link_frame_view f ∷ rest) (same_frames frames)

-- ---- one link

-- where its ports measure as they did, and its lanes stood so, the same is seen of it
module _ (at : LinkPlace) (w w' : WorldState) (l : IsLinkOf at w) (whole : HasSameParts at w w' l)
    (time : w'.time ≡ w.time)
    (stood : (direction : Direction)
    → slice_get (view w).lanes (lane_place at.link direction) ≡ Some (lane_view direction whole.after.channel)) where
  frames_same : (direction : Direction)
      → link_lane_view direction whole.after.channel ≡ link_lane_view direction l.channel
  frames_same direction =
      let new_lane = lane_view direction whole.after.channel in
      let old_lane = lane_view direction l.channel in
      let one : new_lane ≡ old_lane =
      same_Some new_lane old_lane
      (sym (stood direction) ∙ lane_there w.net.channels at.link direction l.channel l.here) in
      sym (same_frames (world_queue direction whole.after.channel))
      ∙ ap (λ (x : Lane). map lane_frame x.frames) one
      ∙ same_frames (world_queue direction l.channel)

  pub seen_same : IsSameLink at w w' l
  seen_same =
      let asking = whole.asking in
      let answering = whole.answering in
      let setup = whole.setup in
      let out = frames_same at.direction in
      let back = frames_same (other_direction at.direction) in
      record {
        after = whole.after;
        settled = whole.settled;
        seen = λ i. record {
          pair = record {
            time = time i;
            asker = asker_view (interval_of (setup i).params.pdelay) (asking i);
            waits = waits_view (answering i);
            out = out i;
            back = back i;
          };
          kept = kept_view (asking i).peer;
        };
        bounds = whole.bounds;
      }

-- ---- the link comes up

module _ (p : SettlingParams) (w : WorldState) (is : IsWorld p w) (place : ℕ) (channel : Channel)
    (here : slice_get w.net.channels place ≡ Some channel) (down : channel.up ≡ false) (draws : List Draw)
    (w' : WorldState) (raised : IsRaised channel w w')
    (k : TellsEnds PortUp channel (record w { net = brought_up place channel w.net; last_change = w.time }) draws w')
    (at : LinkPlace) (l : IsLinkOf at w) where
  beside : at.link ≢ place
  beside same =
      let one : l.channel ≡ channel =
      same_Some l.channel channel (sym l.here ∙ ap (slice_get w.net.channels) same ∙ here) in
      let off : l.channel.up ≡ false = ap (λ (c : Channel). c.up) one ∙ down in
      let on = l.up in
      absurd cc

  whole : HasSameParts at w w' l
  whole =
      tells_parts PortUp of_up p w is place channel (record channel { up = true }) (brought_up place channel w.net) here
      refl refl refl draws w' k at beside l

  pub beside_same : IsSameLink at w w' l
  beside_same =
      seen_same at w w' l whole raised.time (λ direction.
      raised.lanes (lane_place at.link direction) (lane_view direction whole.after.channel)
      (lane_there w'.net.channels at.link direction whole.after.channel whole.after.here) (λ way same.
      beside (one_way w is.sound is.encodable at.link place direction way l.channel channel l.here here
      (ap port_identity_number (sym (whole.begins direction)) ∙ same)).same_link))
