-- Links that are up were in use before: they stay so as links go down. What is in flight comes over such links.
use Rattle.std.proofs.Common.{◌≡◌, ℕ, true, false, Some, slice_get, sym, ap, subst, inl, inr, ◌∙◌}
use Rattle.std.proofs.lemmas.Option.{same_Some}
use Rattle.gptp_lists.proofs.MappedLemmas.{alike}
use Rattle.gptp_lists.proofs.PlaceLemmas.{get-set_other, get-set_same, same_place}
use Rattle.gptp_graph.specs.Snapshot.{Joins, Snapshot}
use Rattle.gptp_links.specs.declared.link.Direction.{Direction}
use Rattle.gptp_links.specs.declared.link.Direction.TheVariants.{FromA, FromB}
use Rattle.gptp_model.specs.Changing.{lost, taken_down}
use Rattle.gptp_model.specs.Sound.{IsSound}
use Rattle.gptp_model.specs.World.{Channel, WorldState, receiver, sender}
use Rattle.gptp_model.proofs.BareLemmas.{bare}
use Rattle.gptp_bmca_machine.specs.Frame.{Lane}
use Rattle.gptp_invariants.specs.ChoiceView.{port_identity_number, view}
use Rattle.gptp_invariants.specs.WorldStanding.{snapshot_of}
use Rattle.gptp_invariants.proofs.ChoiceCalmFactLemmas.{frame_from}
use Rattle.gptp_invariants.proofs.ChoiceCalmKeptLemmas.{KeepsNetwork}
use Rattle.gptp_invariants.proofs.WorldDueLemmas.{frames_on_links}
use Rattle.gptp_invariants.proofs.WorldWayLemmas.{used_joins}
use Rattle.gptp_settling_time.proofs.DueLemmas.{UpIsInUse}
use Rattle.gptp_settling_time.proofs.LeftAloneLemmas.{FliesOnLinks}

-- each link that is up joins its ends in this snapshot
abbrev pub UpJoins : Snapshot → WorldState → Type 0
UpJoins g w = (link : ℕ) (direction : Direction) (channel : Channel) → slice_get w.net.channels link ≡ Some channel
    → channel.up ≡ true
    → Joins g (port_identity_number (sender direction channel)) (port_identity_number (receiver direction channel))

-- so it is where each is in use
pub up_begins : (w : WorldState) → UpIsInUse w → UpJoins (snapshot_of w) w
up_begins w used link direction channel here up = used_joins w link direction channel here (used link channel here up)

-- it stays so as long as the network stays
pub up_kept : (g : Snapshot) (w w' : WorldState) → KeepsNetwork w w' → UpJoins g w → UpJoins g w'
up_kept g w w' keeps joins link direction channel here up =
    let (old, there, same) = alike bare bare w.net.channels w'.net.channels (sym keeps.links) link channel here in
    by direction old channel (ap (λ (c : Channel). c.a) same) (ap (λ (c : Channel). c.b) same)
    (joins link direction old there (ap (λ (c : Channel). c.up) same ∙ up))
  where
    by : (direction : Direction) (old new : Channel) → old.a ≡ new.a → old.b ≡ new.b
        → Joins g (port_identity_number (sender direction old)) (port_identity_number (receiver direction old))
        → Joins g (port_identity_number (sender direction new)) (port_identity_number (receiver direction new))
    by FromA old new one other joins =
        subst (λ e. Joins g (port_identity_number e) (port_identity_number new.b)) one
        (subst (λ e. Joins g (port_identity_number old.a) (port_identity_number e)) other joins)
    by FromB old new one other joins =
        subst (λ e. Joins g (port_identity_number new.b) (port_identity_number e)) one
        (subst (λ e. Joins g (port_identity_number e) (port_identity_number old.a)) other joins)

-- and as one goes down
pub up_down : (g : Snapshot) (w : WorldState) (place change : ℕ) (channel : Channel)
    → slice_get w.net.channels place ≡ Some channel → UpJoins g w
    → UpJoins g (record w { net = taken_down place channel w.net; last_change = change })
up_down g w place change channel here joins link direction new there up = elim (same_place link place) [
  | inl same ↦
      let one : new ≡ lost channel =
      same_Some new (lost channel)
      (sym there ∙ ap (slice_get (taken_down place channel w.net).channels) same
      ∙ get-set_same w.net.channels place channel (lost channel) here) in
      absurd (let down : false ≡ true = sym (ap (λ (c : Channel). c.up) one) ∙ up in cc)
  | inr apart ↦
      joins link direction new (sym (get-set_other w.net.channels place link (lost channel) apart) ∙ there) up
]

-- what is in flight comes over them
pub flies_on : (g : Snapshot) (w : WorldState) → IsSound w → UpJoins g w → FliesOnLinks g (view w)
flies_on g w sound joins j l f there member =
    let at = frame_from w j l f there member in
    let up = frames_on_links w sound at.link at.direction at.channel at.frame at.here at.among in
    subst (λ (x : Lane). Joins g x.from x.to) (sym at.lane_is) (joins at.link at.direction at.channel at.here up)
