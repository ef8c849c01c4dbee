-- At rest all that is held and in flight is sound.
use Rattle.std.proofs.Common.{◌≡◌, ℕ, arith, Bool, true, false, map, Some, slice_get, refl, sym, ap, subst, ◌∙◌, inr}
use Rattle.gptp_lists.specs.Members.{In}
use Rattle.gptp_lists.proofs.SystemSpecLemmas.{In-map}
use Rattle.gptp_graph.specs.Snapshot.{Joins, System, clocks}
use Rattle.gptp_bmca_machine.specs.Frame.{Announce}
use Rattle.gptp_links.specs.declared.link.Direction.{Direction}
use Rattle.gptp_links.specs.declared.link.Direction.TheVariants.{FromA, FromB}
use Rattle.gptp_model.specs.World.{Channel, WorldState, world_queue, receiver, sender}
use Rattle.gptp_bmca_machine.specs.SoundEverywhere.{IsSoundSent}
use Rattle.gptp_bmca_machine.specs.Frame.{AnnounceFrame, Lane}
use Rattle.gptp_bmca_machine.specs.SoundLaws.{AllIsWhole}
use Rattle.gptp_bmca_machine.proofs.LevelLemmas.{all_whole}
use Rattle.gptp_bmca_machine.proofs.SoundEverywhereLemmas.{everywhere_sound}
use Rattle.gptp_invariants.specs.ChoiceSettlesAsMachine.{settling_network}
use Rattle.gptp_invariants.specs.DelayLinkView.{link_identity}
use Rattle.gptp_invariants.specs.WorldNewsCourse.{RestIsSound, RestIsSoundBesideFailed}
use Rattle.gptp_invariants.specs.WorldStanding.{StationsHavePort, JoinsTwoOf, live_stations, snapshot_of, standing_system}
use Rattle.gptp_invariants.specs.ChoiceView.{frame_view, says_announce, view}
use Rattle.gptp_invariants.proofs.WorldClaimLemmas.{claim_capable}
use Rattle.gptp_invariants.proofs.DelayClaimedCapableLemmas.{clock_has, used_if}
use Rattle.gptp_invariants.proofs.ChoiceSettlesAsMachineLemmas.{is_calm, is_network}
use Rattle.gptp_invariants.proofs.ChoiceSeenLaneLemmas.{lane_from}
use Rattle.gptp_invariants.proofs.WorldSystemLemmas.{live_there}
use Rattle.gptp_invariants.proofs.WorldWayLemmas.{used_joins}

-- beside failed systems
pub rest_sound_beside_failed : RestIsSoundBesideFailed
rest_sound_beside_failed p m w claim bounded quiet late =
    everywhere_sound says_announce (settling_network p m w) (view w) (is_network p m w claim.world bounded)
    (is_calm p m w claim.world quiet.links (claim_capable p w claim)) (claim.settling m bounded quiet).traces
    (omega (arith, late)) (omega (arith, late))

-- ---- where all live

-- the two ports that a link joins, by its directions
sends_from : (w : WorldState) (direction : Direction) (channel : Channel) → JoinsTwoOf w.stations channel
    → StationsHavePort w.stations (sender direction channel)
sends_from w FromA channel between = between.a
sends_from w FromB channel between = between.b

leads_to : (w : WorldState) (direction : Direction) (channel : Channel) → JoinsTwoOf w.stations channel
    → StationsHavePort w.stations (receiver direction channel)
leads_to w FromA channel between = between.b
leads_to w FromB channel between = between.a

pub rest_sound : RestIsSound
rest_sound p m w claim live bounded quiet late = record {
  lanes = λ j l there f a member said.
      let at = lane_from w.net.channels j l there in
      sound_from j l f a there member said at.link at.direction at.channel at.here at.is;
  stations = λ i s there lives place r holds.
      let came = whole.stations i s place r there lives holds in
      record { from = came.from; joins = came.joins; source = came.source; sound = inr came.whole };
}
  where
    whole : AllIsWhole says_announce (snapshot_of w) (Joins (snapshot_of w)) (view w)
    whole =
        all_whole says_announce (settling_network p m w) (view w) (is_network p m w claim.world bounded)
        (is_calm p m w claim.world quiet.links (claim_capable p w claim)) (claim.settling m bounded quiet).traces late

    sound_from : (j : ℕ) (l : Lane) (f : AnnounceFrame) (a : Announce) → slice_get (view w).lanes j ≡ Some l
        → In f l.frames
        → says_announce f.octets a → (link : ℕ) (direction : Direction) (channel : Channel)
        → slice_get w.net.channels link ≡ Some channel
        → l ≡ record {
          from = link_identity (sender direction channel);
          to = link_identity (receiver direction channel);
          loss = channel.bounds.loss;
          is_up = channel.up;
          frames = map frame_view (world_queue direction channel);
        }
        → IsSoundSent (snapshot_of w) l.from a
    sound_from j l f a there member said link direction channel here is = by channel.up refl
      where
        by : (up : Bool) → channel.up ≡ up → IsSoundSent (snapshot_of w) l.from a
        by false down =
            let none = (claim.world.sound.wired.flow link direction channel here).still down in
            absurd (subst (In f) (ap (λ (x : Lane). x.frames) is ∙ ap (map frame_view) none) member)
        by true up =
            let between = claim.world.between link channel here in
            let one = sends_from w direction channel between in
            let other = leads_to w direction channel between in
            let lives = live one.place one.station one.here in
            let used = used_if w.stations direction channel up
            (clock_has w.stations one.place one.station _ one.here lives one.named)
            (clock_has w.stations other.place other.station _ other.here (live other.place other.station other.here)
            other.named) in
            let joins = used_joins w link direction channel here used in
            let from_is = ap (λ (x : Lane). x.from) is in
            let to_is = ap (λ (x : Lane). x.to) is in
            let x = whole.lanes j l f a there member said
            (subst (λ q. Joins (snapshot_of w) q l.to) (sym from_is)
            (subst (λ q. Joins (snapshot_of w) (link_identity (sender direction channel)) q) (sym to_is) joins)) in
            record {
              sender = subst (λ q. In q.clock (clocks (snapshot_of w))) (sym from_is)
                  (subst (λ n. In n (clocks (snapshot_of w))) one.named
                  (In-map (λ (s : System). s.clock) (standing_system one.station) (live_stations w.stations)
                  (live_there w.stations one.place one.station one.here lives)));
              source = x.source;
              sound = inr x.whole;
            }
