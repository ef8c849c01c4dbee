-- The Sync and the Follow_Up that a port sends enter its lane as a pair.
use Rattle.std.proofs.Common.{◌≡◌, ◌≤◌, ◌^◌, ℕ, suc, Bool, true, List, [], ◌∷◌, ◌++◌, map, length, Some, slice_get, refl, sym, ap, subst, ◌∙◌, inl, arith}
use Rattle.std.proofs.lemmas.List.{map-append}
use Rattle.std.proofs.lemmas.Nat.{mod_below}
use Rattle.std.proofs.lemmas.Option.{slice_get_within}
use Rattle.gptp_setup.specs.declared.limits.TheConstants.{MOST_PORTS}
use Rattle.gptp_graph.specs.Snapshot.{PortIdentity, port_of}
use Rattle.gptp_lists.proofs.MappedLemmas.{same_there}
use Rattle.gptp_lists.proofs.PlaceLemmas.{member_there}
use Rattle.gptp_links.specs.declared.link.Direction.{Direction}
use Rattle.gptp_links.specs.declared.link.Direction.TheVariants.{FromA, FromB}
use Rattle.gptp_links.specs.Fate.{Draw}
use Rattle.gptp_links.specs.Queue.{Frame}
use Rattle.gptp_messages.specs.Frame.{PortFits}
use Rattle.gptp_system.specs.declared.sending.Sending.{Sending}
use Rattle.gptp_system.specs.State.{SystemState, clock, own}
use Rattle.gptp_model.specs.Sends.{SendsAll}
use Rattle.gptp_model.specs.World.{Channel, Net, world_queue, sender}
use Rattle.gptp_bmca_machine.specs.Frame.{FollowUp, AnnounceFrame as SeenFrame, Lane, Sync, SyncId}
use Rattle.gptp_bmca_machine.specs.Matching.{HasPair}
use Rattle.gptp_bmca_machine.specs.Station.{Mine, Port as SeenPort}
use Rattle.gptp_invariants.specs.ChoiceSaid.{said_at}
use Rattle.gptp_invariants.specs.SyncLaws.{TellsTime}
use Rattle.gptp_invariants.specs.SyncView.{ArePaired}
use Rattle.gptp_invariants.specs.ChoiceView.{frame_view, port_identity_number, lane_place, lane_view, lanes_view, says_sync, span_at, system_view}
use Rattle.gptp_invariants.proofs.DelayLinkLaneLemmas.{IsAlone, sends_grow}
use Rattle.gptp_invariants.proofs.ChoicePlaceLemmas.{port_from}
use Rattle.gptp_invariants.proofs.ChoicePortLemmas.{mine_back}
use Rattle.gptp_invariants.proofs.ChoiceSeenLaneLemmas.{IsLaneAt, lane_from, lane_there}
use Rattle.gptp_invariants.proofs.ChoiceSendLemmas.{same_identity}
use Rattle.gptp_invariants.proofs.DelaySentLemmas.{octets_of, same_first}
use Rattle.gptp_invariants.proofs.ChoiceTakeUpLemmas.{BeginApart}

-- ---- frames

-- frames of which the octets are a pair are one
pair_seen : (source : PortIdentity) (news : List Frame) → ArePaired source (octets_of news)
    → (due : ℕ) × HasPair says_sync source (map frame_view news) due
pair_seen source news paired = by news paired.are
  where
    by : (added : List Frame) → octets_of added ≡ paired.sync ∷ paired.follow_up ∷ []
        → (due : ℕ) × HasPair says_sync source (map frame_view added) due
    by [] are = absurd cc
    by (f ∷ []) are = absurd (let rest = same_first f.octets paired.sync [] (paired.follow_up ∷ []) are in cc)
    by (f ∷ (g ∷ more)) are =
        let first = same_first f.octets paired.sync (octets_of (g ∷ more)) (paired.follow_up ∷ []) are in
        let second = same_first g.octets paired.follow_up (octets_of more) [] first.1 in
        let id : SyncId = record { source = source; sequence = paired.sequence } in (
          g.due,
          inl (
            id,
            subst (λ o. says_sync o (Sync id)) (sym first.0) paired.first,
            refl,
            inl (subst (λ o. says_sync o (FollowUp id)) (sym second.0) paired.second, refl),
          ),
        )

-- ---- lanes that begin apart

same_lane : (link other : ℕ) (direction way : Direction) → lane_place link direction ≡ lane_place other way
    → link ≡ other
same_lane link other FromA FromA same = omega arith
same_lane link other FromA FromB same = omega arith
same_lane link other FromB FromA same = omega arith
same_lane link other FromB FromB same = omega arith

-- a link among them is alone at its ports
alone_seen : (net : Net) → BeginApart (lanes_view net.channels) → (link : ℕ) (channel : Channel)
    → slice_get net.channels link ≡ Some channel → IsAlone link channel net
alone_seen net apart link channel here = record {
  here = here;
  only = λ other direction way at there same.
      same_lane other link way direction
      (apart (lane_place other way) (lane_place link direction) (lane_view way at) (lane_view direction channel)
      (lane_there net.channels other way at there) (lane_there net.channels link direction channel here)
      (ap port_identity_number same));
  ends = λ same.
      let one : lane_place link FromA ≡ lane_place link FromB =
      apart (lane_place link FromA) (lane_place link FromB) (lane_view FromA channel) (lane_view FromB channel)
      (lane_there net.channels link FromA channel here) (lane_there net.channels link FromB channel here)
      (ap port_identity_number same) in
      omega arith;
}

-- ---- what enters

-- the port of this number of a system with few ports fits its octets
pub own_fits : (s : SystemState) (n : ℕ) → n ≤ MOST_PORTS → PortFits (own s n)
own_fits s n few = record { clock = mod_below s.identity (2 ^ 64) (omega arith); port = omega arith }

-- where each Master port tells time, pairs enter the lanes that begin there
module _ (now : ℕ) (s after : SystemState) (sends : List Sending) (draws : List Draw) (net net' : Net)
    (sent : SendsAll now after sends draws net net') (apart : BeginApart (lanes_view net.channels))
    (tells : TellsTime s after sends) (same_clock : clock after ≡ clock s) (held : after.held ≡ s.held)
    (places : length after.held ≡ length s.ports) (few : length s.ports ≤ MOST_PORTS) where
  pub pairs_enter : (live : Bool) (i j : ℕ) (q : SeenPort) (l l' : Lane) (root steps : ℕ)
      → slice_get (system_view live after).ports i ≡ Some q → q.held ≡ Mine root steps
      → slice_get (lanes_view net.channels) j ≡ Some l → slice_get (lanes_view net'.channels) j ≡ Some l'
      → l.from ≡ port_of (clock after) (suc i) → l.loss ≡ 0 → l.is_up ≡ true
      → (news : List SeenFrame) × (l'.frames ≡ l.frames ++ news) × ((due : ℕ) × HasPair says_sync l.from news due)
  pairs_enter live i j q l l' root steps there mine here now_here begins lossless up =
      go (lane_from net.channels j l here)
    where
      go : IsLaneAt net.channels j l
          → (news : List SeenFrame) × (l'.frames ≡ l.frames ++ news) × ((due : ℕ) × HasPair says_sync l.from news due)
      go at =
          let p = port_from (span_at after) after.held after.ports i q there in
          let own_mine = mine_back (span_at after) p.held root steps (ap (λ (x : SeenPort). x.held) (sym p.is) ∙ mine)
          in
          let within = slice_get_within after.held i p.held p.held_there in
          let (port, port_there) = member_there s.ports i (omega arith) in
          let most = slice_get_within s.ports i port port_there in
          let grown = sends_grow now after sends draws net net' at.link at.channel
          (alone_seen net apart at.link at.channel at.here)
          (record {
            up = ap (λ (x : Lane). x.is_up) (sym at.is) ∙ up;
            lossless = ap (λ (x : Lane). x.loss) (sym at.is) ∙ lossless;
          }) sent in
          let mine_own : sender at.direction at.channel ≡ own s (suc i) =
          same_identity (sender at.direction at.channel) (own s (suc i))
          (ap (λ (x : Lane). x.from) (sym at.is) ∙ begins ∙ ap (λ c. port_of c (suc i)) same_clock) in
          let said : octets_of (grown.grows.news at.direction) ≡ said_at after (own s (suc i)) sends =
          grown.grows.said at.direction ∙ ap (λ port. said_at after port sends) mine_own in
          let paired = subst (ArePaired (port_identity_number (own s (suc i)))) (sym said)
          (tells i port root steps
          (ap (λ hs. slice_get hs i) (sym held) ∙ p.held_there ∙ ap Some own_mine) port_there
          (own_fits s (suc i) (omega arith))) in
          let pair = pair_seen (port_identity_number (own s (suc i))) (grown.grows.news at.direction) paired in
          let stands : l' ≡ lane_view at.direction grown.new =
          same_there (lanes_view net'.channels) j l' (lane_view at.direction grown.new) now_here
          (ap (slice_get (lanes_view net'.channels)) at.at
          ∙ lane_there net'.channels at.link at.direction grown.new grown.alone.here) in (
            map frame_view (grown.grows.news at.direction),
            ap (λ (x : Lane). x.frames) stands
                ∙ ap (map frame_view) (grown.grows.queues at.direction)
                ∙ map-append frame_view (world_queue at.direction at.channel) (grown.grows.news at.direction)
                ∙ ap (λ fs. fs ++ map frame_view (grown.grows.news at.direction))
                (ap (λ (x : Lane). x.frames) (sym at.is)),
            (
              pair.0,
              subst (λ from. HasPair says_sync from (map frame_view (grown.grows.news at.direction)) pair.0)
                  (ap port_identity_number (sym mine_own) ∙ ap (λ (x : Lane). x.from) (sym at.is)) pair.1,
            ),
          )
