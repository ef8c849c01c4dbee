-- A world since a system failed that others hear: what they hold of it ages by the link over which it came. Where some
-- of these links are down too it has aged by the greatest time of the others.
use Rattle.std.proofs.Common.{◌≡◌, ◌≤◌, ◌∙◌, ℕ, true, List, Some, slice_get, refl, sym, ap, subst, inl, inr}
use Rattle.gptp_lists.specs.Members.{In}
use Rattle.gptp_graph.specs.Snapshot.{PortIdentity, Snapshot, clocks}
use Rattle.gptp_graph.proofs.SystemLemmas.{In-clocks}
use Rattle.gptp_links.specs.Fate.{Draw}
use Rattle.gptp_scenario.specs.declared.change.Act.{Act}
use Rattle.gptp_setup.specs.SettlingParams.{SettlingParams, longest_span}
use Rattle.gptp_model.specs.Acts.{Acts, at as at_time}
use Rattle.gptp_model.specs.Pending.{NothingBefore}
use Rattle.gptp_model.specs.World.{WorldState}
use Rattle.gptp_model.specs.declared.done.Done.{Done}
use Rattle.gptp_bmca_machine.specs.Acts.{MachineSteps}
use Rattle.gptp_bmca_machine.specs.Facts.{StationFacts}
use Rattle.gptp_bmca_machine.specs.Network.{Network, network_setting}
use Rattle.gptp_bmca_machine.specs.Station.{Station}
use Rattle.gptp_invariants.specs.ChoiceCalm.{HaveQuietLinks, log_of}
use Rattle.gptp_invariants.specs.ChoiceSeenLaws.{IsNoChange}
use Rattle.gptp_invariants.specs.ChoiceView.{says_announce, view}
use Rattle.gptp_invariants.specs.WorldEncodableLaws.{SetsAnOctet}
use Rattle.gptp_invariants.specs.WorldStanding.{snapshot_of, standing_system}
use Rattle.gptp_invariants.proofs.ChoiceCalmKeptLemmas.{KeepsNetwork, acts_keep, links_quiet, same_snapshot}
use Rattle.gptp_invariants.proofs.ChoiceSeenActLemmas.{acts_seen}
use Rattle.gptp_invariants.proofs.ChoicePlaceLemmas.{station_from}
use Rattle.gptp_invariants.proofs.ChoiceSettlesAsMachineLemmas.{kept_back}
use Rattle.gptp_invariants.proofs.WorldNewsCourseLemmas.{later_keeps}
use Rattle.gptp_invariants.proofs.WorldSystemLemmas.{live_there}
use Rattle.gptp_invariants.proofs.WorldWayLemmas.{IsWay}
use Rattle.gptp_settling_time.proofs.AgesByLemmas.{UnlinkedAgeBy, by_all, by_kept}
use Rattle.gptp_settling_time.proofs.AgingLemmas.{HeardNearer}
use Rattle.gptp_settling_time.proofs.AgingClaimedLemmas.{IsAgingAlways, aging_acts, aging_facts, aging_later, aging_network, named_in, same_aging, stay_of}

-- what is received at ports that no link is at, and in flight to them, ages by these times of the ports
abbrev pub WorldAgesBy : SettlingParams → (PortIdentity → ℕ → Type 0) → WorldState → Type 0
WorldAgesBy p By w = HaveQuietLinks p.params w → UnlinkedAgeBy says_announce (snapshot_of w) (stay_of p) By (view w)

-- the link is in use from the one port to the other, and has this greatest delay
abbrev pub OverWay : WorldState → PortIdentity → PortIdentity → ℕ → Type 0
OverWay w from to most = (way : IsWay w from to) × (most ≡ way.channel.bounds.max)

-- what is told stays for the longest span of the network, whoever told it
abbrev pub StaysLongest : SettlingParams → PortIdentity → ℕ → Type 0
StaysLongest p from span = span ≡ longest_span p

-- or it stays as its port's interval says
abbrev pub StaysNamed : SettlingParams → WorldState → PortIdentity → ℕ → Type 0
StaysNamed p w from span = span ≡ stay_of p (log_of w.stations from)

-- what is received is held at systems that live, and what is in flight matters where it comes to one
pub by_live : (p : SettlingParams) (By : PortIdentity → ℕ → Type 0) (w : WorldState) → WorldAgesBy p By w
    → WorldAgesBy p (λ port until. By port until × In port.clock (clocks (snapshot_of w))) w
by_live p By w all quiet = record {
  held = λ i s place r at live holds unlinked.
      let (until, by, over) = (all quiet).held i s place r at live holds unlinked in
      (until, (by, lives i s at live), over);
  flight = λ j l f a at among said known unlinked.
      let (until, by, over) = (all quiet).flight j l f a at among said known unlinked in
      (until, (by, known), over);
}
  where
    lives : (i : ℕ) (s : Station) → slice_get (view w).stations i ≡ Some s → s.live ≡ true
        → In s.clock (clocks (snapshot_of w))
    lives i s at live =
        let x = station_from w.stations i s at in
        subst (λ (z : Station). In z.clock (clocks (snapshot_of w))) (sym x.is)
        (In-clocks (snapshot_of w) (standing_system x.station) (live_there w.stations i x.station x.here
        (ap (λ (z : Station). z.live) (sym x.is) ∙ live)))

module _ (p : SettlingParams) (g : Snapshot) (aged silent : ℕ) (By : PortIdentity → ℕ → Type 0) where
  by_step : (w w' : WorldState) → IsAgingAlways p g aged silent w → IsAgingAlways p g aged silent w'
      → KeepsNetwork w w' → MachineSteps says_announce (view w) (view w') → WorldAgesBy p By w → WorldAgesBy p By w'
  by_step w w' is is' keeps step by quiet' =
      let quiet = links_quiet w' w (kept_back w w' keeps) p.params quiet' in
      let facts = aging_facts p silent w is.standing is.asked quiet in
      let facts' : StationFacts (network_setting (aging_network p silent w)) (view w') =
      subst (λ (n : Network). StationFacts (network_setting n) (view w')) (same_aging p silent w w' keeps)
      (aging_facts p silent w' is'.standing is'.asked quiet') in
      subst (λ h. UnlinkedAgeBy says_announce h (stay_of p) By (view w')) (sym (same_snapshot w w' keeps))
      (by_kept says_announce (network_setting (aging_network p silent w)) (stay_of p) By (view w) (view w') facts
      facts' (named_in p w' is'.standing.world) step (by quiet))

  pub by_later : (time : ℕ) (w : WorldState) → w.time ≤ time → NothingBefore time w.net.pending
      → IsAgingAlways p g aged silent w → WorldAgesBy p By w → WorldAgesBy p By (at_time time w)
  by_later time w later first is =
      by_step w (at_time time w) is (aging_later p g aged silent time w later first is) (later_keeps time w)
      (inl (record { time = time; later = later; is = refl }))

  pub by_acts : (act : Act) (w : WorldState) (draws : List Draw) (done : Done) (w' : WorldState) → IsNoChange act
      → SetsAnOctet act → Acts act w draws done w' → IsAgingAlways p g aged silent w → WorldAgesBy p By w
      → WorldAgesBy p By w'
  by_acts act w draws done w' none octet acts is =
      let world = is.standing.world in
      by_step w w' is (aging_acts p g aged silent act w draws done w' none octet acts is)
      (acts_keep act w draws done w' none acts)
      (inr (acts_seen act w draws done w' none world.sound world.encodable acts))

  -- it has aged before each time that is no less than these, of ports that heard a nearer system before
  pub aging_by : (earlier : ℕ) (w : WorldState) → IsAgingAlways p g aged silent w → WorldAgesBy p By w
      → ((port : PortIdentity) (until : ℕ) → HeardNearer g port → By port until → until ≤ earlier)
      → IsAgingAlways p g earlier silent w
  aging_by earlier w is by most = record {
    standing = is.standing;
    asked = is.asked;
    well = is.well;
    left = is.left;
    near = is.near;
    stay = is.stay;
    way = is.way;
    late = is.late;
    seen = λ quiet off.
        let seen = is.seen quiet off in
        record {
          ages = by_all says_announce g (snapshot_of w) (stay_of p) By earlier (view w) most (by quiet);
          fits = seen.fits;
          still = seen.still;
          itself = seen.itself;
        };
  }
