-- A link between two ports stays there, whether it is up or not.
use Rattle.std.proofs.Common.{◌≡◌, ℕ, Some, slice_get, slice_set, refl, sym, ap, subst, ◌∙◌, inl, inr}
use Rattle.std.proofs.lemmas.Option.{same_Some}
use Rattle.gptp_lists.proofs.MappedLemmas.{alike}
use Rattle.gptp_lists.proofs.PlaceLemmas.{get-set_other, get-set_same, same_place}
use Rattle.gptp_graph.specs.Snapshot.{PortIdentity}
use Rattle.gptp_links.specs.declared.link.Direction.{Direction}
use Rattle.gptp_links.specs.declared.link.Direction.TheVariants.{FromA, FromB}
use Rattle.gptp_setup.specs.SettlingParams.{SettlingParams}
use Rattle.gptp_model.specs.Changing.{lost, taken_down}
use Rattle.gptp_model.specs.World.{Channel, WorldState, receiver, sender}
use Rattle.gptp_model.proofs.BareLemmas.{bare}
use Rattle.gptp_bmca_machine.specs.Frame.{Lane}
use Rattle.gptp_invariants.specs.ChoiceCalm.{lane_of}
use Rattle.gptp_invariants.specs.ChoiceSettlesAsMachine.{IsWorld}
use Rattle.gptp_invariants.specs.ChoiceView.{lane_view, lanes_view, port_identity_number}
use Rattle.gptp_invariants.proofs.ChoiceCalmKeptLemmas.{KeepsNetwork}
use Rattle.gptp_invariants.proofs.ChoiceFoundLemmas.{lane_is}
use Rattle.gptp_invariants.proofs.ChoiceSeenLaneLemmas.{lane_there}
use Rattle.gptp_invariants.proofs.WorldWayLemmas.{IsWay}

-- a link leads from the one port to the other
pub record IsLinkBetween (w : WorldState) (from to : PortIdentity) : Type 0 where
  pub link : ℕ
  pub direction : Direction
  pub channel : Channel
  pub here : slice_get w.net.channels link ≡ Some channel
  pub begins : port_identity_number (sender direction channel) ≡ from
  pub ends : port_identity_number (receiver direction channel) ≡ to

-- one in use does
pub way_between : (w : WorldState) (from to : PortIdentity) → IsWay w from to → IsLinkBetween w from to
way_between w from to way = record {
  link = way.link;
  direction = way.direction;
  channel = way.channel;
  here = way.here;
  begins = way.from;
  ends = way.to;
}

-- its lane stands where lanes of the port are found
pub record IsLaneBetween (w : WorldState) (from to : PortIdentity) : Type 0 where
  pub lane : Lane
  pub there : slice_get (lanes_view w.net.channels) (lane_of w.net.channels from) ≡ Some lane
  pub from_is : lane.from ≡ from
  pub to_is : lane.to ≡ to

pub lane_between : (p : SettlingParams) (w : WorldState) (from to : PortIdentity) → IsWorld p w
    → IsLinkBetween w from to → IsLaneBetween w from to
lane_between p w from to is x =
    let place = lane_is w is.sound is.encodable x.link x.direction x.channel x.here
    ∙ ap (lane_of w.net.channels) x.begins in
    record {
      lane = lane_view x.direction x.channel;
      there = subst (λ k. slice_get (lanes_view w.net.channels) k ≡ Some (lane_view x.direction x.channel)) place
          (lane_there w.net.channels x.link x.direction x.channel x.here);
      from_is = x.begins;
      to_is = x.ends;
    }

-- ---- it stays

-- the ends of a link don't depend on what is in flight, nor on whether it is up
record HasSameEnds (a b : Channel) : Type 0 where
  one : b.a ≡ a.a
  other : b.b ≡ a.b

sends : (direction : Direction) (a b : Channel) → HasSameEnds a b → sender direction b ≡ sender direction a
sends FromA a b same = same.one
sends FromB a b same = same.other

receives : (direction : Direction) (a b : Channel) → HasSameEnds a b → receiver direction b ≡ receiver direction a
receives FromA a b same = same.other
receives FromB a b same = same.one

moved_on : (w w' : WorldState) (from to : PortIdentity) (x : IsLinkBetween w from to) (new : Channel)
    → slice_get w'.net.channels x.link ≡ Some new → HasSameEnds x.channel new → IsLinkBetween w' from to
moved_on w w' from to x new there same = record {
  link = x.link;
  direction = x.direction;
  channel = new;
  here = there;
  begins = ap port_identity_number (sends x.direction x.channel new same) ∙ x.begins;
  ends = ap port_identity_number (receives x.direction x.channel new same) ∙ x.ends;
}

pub between_kept : (w w' : WorldState) (from to : PortIdentity) → KeepsNetwork w w' → IsLinkBetween w from to
    → IsLinkBetween w' from to
between_kept w w' from to keeps x =
    let (new, there, same) = alike bare bare w'.net.channels w.net.channels keeps.links x.link x.channel x.here in
    moved_on w w' from to x new there
    (record { one = ap (λ (c : Channel). c.a) same; other = ap (λ (c : Channel). c.b) same })

pub between_alike : (w w' : WorldState) → w'.net.channels ≡ w.net.channels → (from to : PortIdentity)
    → IsLinkBetween w from to → IsLinkBetween w' from to
between_alike w w' same from to x =
    moved_on w w' from to x x.channel (ap (λ cs. slice_get cs x.link) same ∙ x.here)
    (record { one = refl; other = refl })

-- a link goes down
pub between_down : (w : WorldState) (place change : ℕ) (channel : Channel)
    → slice_get w.net.channels place ≡ Some channel
    → (from to : PortIdentity) → IsLinkBetween w from to
    → IsLinkBetween (record w { net = taken_down place channel w.net; last_change = change }) from to
between_down w place change channel here from to x = elim (same_place x.link place) [
  | inl same ↦
      let one : x.channel ≡ channel =
      same_Some x.channel channel (sym x.here ∙ ap (slice_get w.net.channels) same ∙ here) in
      moved_on w (record w { net = taken_down place channel w.net; last_change = change }) from to x (lost channel)
      (ap (slice_get (slice_set w.net.channels place (lost channel))) same
      ∙ get-set_same w.net.channels place channel (lost channel) here)
      (record { one = ap (λ (c : Channel). c.a) (sym one); other = ap (λ (c : Channel). c.b) (sym one) })
  | inr apart ↦
      moved_on w (record w { net = taken_down place channel w.net; last_change = change }) from to x x.channel
      (get-set_other w.net.channels place x.link (lost channel) apart ∙ x.here)
      (record { one = refl; other = refl })
]

-- ---- who sends over it

-- who sends over a link stays
abbrev pub SameSenders : WorldState → WorldState → Type 0
SameSenders w w' = (link : ℕ) (direction : Direction) (c c' : Channel) → slice_get w.net.channels link ≡ Some c
    → slice_get w'.net.channels link ≡ Some c'
    → sender direction c ≡ sender direction c'

pub senders_kept : (w w' : WorldState) → KeepsNetwork w w' → SameSenders w w'
senders_kept w w' keeps link direction c c' here here' =
    let (new, there, same) = alike bare bare w'.net.channels w.net.channels keeps.links link c here in
    let one : new ≡ c' = same_Some new c' (sym there ∙ here') in
    sym (sends direction c c' (record {
      one = sym (ap (λ (x : Channel). x.a) one) ∙ ap (λ (x : Channel). x.a) same;
      other = sym (ap (λ (x : Channel). x.b) one) ∙ ap (λ (x : Channel). x.b) same;
    }))
