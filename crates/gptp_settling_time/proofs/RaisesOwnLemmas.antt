-- Ports of a system that has measured nothing come up: its own lanes alone are seen to change.
use Rattle.std.proofs.Common.{◌≡◌, ◌≢◌, ℕ, zero, suc, List, Some, None, slice_get, refl, sym, ap, subst, ◌∙◌, arith}
use Rattle.std.proofs.lemmas.Option.{same_Some}
use Rattle.gptp_lists.proofs.MappedLemmas.{same_there}
use Rattle.gptp_lists.proofs.PlaceLemmas.{get-set_same, member_there}
use Rattle.gptp_graph.specs.Snapshot.{PortIdentity, port_of}
use Rattle.gptp_vector.specs.declared.port.PortId.{PortId}
use Rattle.gptp_links.specs.declared.link.Direction.{Direction}
use Rattle.gptp_links.specs.Fate.{Draw}
use Rattle.gptp_system.specs.declared.answer.Answer.{Answer}
use Rattle.gptp_system.specs.declared.port.Port.{Port}
use Rattle.gptp_system.specs.Input.{PortUp}
use Rattle.gptp_system.specs.State.{clock, number as port_number}
use Rattle.gptp_system.specs.Steps.{HasPortNumber}
use Rattle.gptp_model.specs.Act.{Calls, in_state}
use Rattle.gptp_model.specs.declared.station.Station.{Station}
use Rattle.gptp_model.specs.World.{WorldState, sender}
use Rattle.gptp_model.proofs.SteadyLemmas.{same_clock}
use Rattle.gptp_bmca_machine.specs.Frame.{Lane}
use Rattle.gptp_invariants.specs.ChoiceView.{lanes_view, view}
use Rattle.gptp_invariants.specs.DelayLinkView.{IsLinkOf, LinkPlace}
use Rattle.gptp_invariants.proofs.ChoiceTakeUpLemmas.{BeginApart, begin_apart}
use Rattle.gptp_invariants.proofs.DelayElsewhereLemmas.{calls_orderly}
use Rattle.gptp_invariants.proofs.DelayLinkLemmas.{IsOrderly}
use Rattle.gptp_invariants.proofs.PortInputLemmas.{of_up}
use Rattle.gptp_settling_time.proofs.QuietUpLemmas.{RaisesAlone, raises}
use Rattle.gptp_settling_time.proofs.SamePartsLemmas.{HasSameParts, called_parts, parts_on}
use Rattle.gptp_settling_time.proofs.UntoldLemmas.{HasMeasuredNothing, called_unmeasured}

-- the system at the place has this clock, and has measured nothing
pub record IsFreshAt (number place : ℕ) (w : WorldState) : Type 0 where
  pub named : (station : Station) → slice_get w.stations place ≡ Some station → clock station.system ≡ number
  pub unmeasured : (station : Station) → slice_get w.stations place ≡ Some station → HasMeasuredNothing station

-- Ports of a system come up: the same is seen of systems, and of lanes that begin at others. Links of others stand as
-- they did.
pub record RaisesOwn (number : ℕ) (w w' : WorldState) : Type 0 where
  pub time : w'.time ≡ w.time
  pub stations : (view w').stations ≡ (view w).stations
  pub lanes : (j : ℕ) (l' : Lane) → slice_get (view w').lanes j ≡ Some l' → l'.from.clock ≢ number
      → slice_get (view w).lanes j ≡ Some l'
  pub parts : (at : LinkPlace) (l : IsLinkOf at w)
      → ((direction : Direction) → (sender direction l.channel).clock ≢ number) → HasSameParts at w w' l

module _ (number place p : ℕ) (w : WorldState) (draws : List Draw) (answer : Answer) (w' : WorldState)
    (k : Calls place (PortUp p) w draws answer w') (is_fresh : IsFreshAt number place w)
    (of : HasPortNumber k.station.system p) (usual : IsOrderly w) (apart : BeginApart (lanes_view w.net.channels)) where
  has_port : (q : Port) × (port_number k.station.system.ports p ≡ Some q) × (q.peer.last ≡ None)
  has_port = by p refl of
    where
      by : (n : ℕ) → p ≡ n → HasPortNumber k.station.system n
          → (q : Port) × (port_number k.station.system.ports p ≡ Some q) × (q.peer.last ≡ None)
      by zero same of_it = let least = of_it.least in absurd (omega arith)
      by (suc i) same of_it =
          let most = of_it.most in
          let (q, there) = member_there k.station.system.ports i (omega arith) in (
            q,
            ap (port_number k.station.system.ports) same ∙ there,
            (is_fresh.unmeasured k.station k.here i q there).0.0,
          )

  alone : RaisesAlone (port_of (clock k.station.system) p) w w'
  alone = raises place p w draws answer w' k has_port.0 has_port.1 has_port.2 apart

  raises_own : RaisesOwn number w w'
  raises_own = record {
    time = alone.time;
    stations = alone.stations;
    lanes = λ j l' at other.
        alone.lanes j l' at (λ same.
        other (ap (λ (x : PortIdentity). x.clock) same ∙ is_fresh.named k.station k.here));
    parts = λ at l other.
        called_parts PortUp of_up at place (record { clock = number; port = p }) w draws w' usual is_fresh.named
        (λ station there.
        subst (λ (x : Station). HasPortNumber x.system p) (same_there w.stations place k.station station k.here there)
        of) l (λ direction same. other direction (ap (λ (q : PortId). q.clock) same)) answer k;
  }

  fresh_then : IsFreshAt number place w'
  fresh_then =
      let after = in_state k.after k.station in
      let now : slice_get w'.stations place ≡ Some after =
      ap (λ (v : WorldState). slice_get v.stations place) k.is
      ∙ get-set_same w.stations place k.station after k.here in
      record {
        named = λ station there.
            ap (λ (x : Station). clock x.system) (same_Some station after (sym there ∙ now))
            ∙ same_clock (PortUp p) w.time k.station.system k.after k.sends answer k.steps
            ∙ is_fresh.named k.station k.here;
        unmeasured = λ station there.
            subst HasMeasuredNothing (same_Some after station (sym now ∙ there))
            (called_unmeasured place (PortUp p) w draws answer w' k tt (is_fresh.unmeasured k.station k.here));
      }

-- the ports that have come up since a first world raised their own lanes alone
abbrev pub HaveRaised : ℕ → ℕ → WorldState → WorldState → Type 0
HaveRaised number place first w =
    RaisesOwn number first w × IsOrderly w × IsFreshAt number place w × BeginApart (lanes_view w.net.channels)

pub raised_none : (number : ℕ) (w : WorldState) → RaisesOwn number w w
raised_none number w = record {
  time = refl;
  stations = refl;
  lanes = λ j l' at other. at;
  parts = λ at l other. record {
    after = l;
    settled = refl;
    asking = refl;
    answering = refl;
    setup = refl;
    bounds = refl;
    begins = λ direction. refl;
  };
}

pub raised_more : (number place : ℕ) (first : WorldState) (p : ℕ) (w : WorldState) (draws : List Draw) (answer : Answer)
    (w' : WorldState) (k : Calls place (PortUp p) w draws answer w') → HasPortNumber k.station.system p
    → HaveRaised number place first w → HaveRaised number place first w'
raised_more number place first p w draws answer w' k of (so, usual, is_fresh, apart) =
    let one = raises_own number place p w draws answer w' k is_fresh of usual apart in (
      record {
        time = one.time ∙ so.time;
        stations = one.stations ∙ so.stations;
        lanes = λ j l' at other. so.lanes j l' (one.lanes j l' at other) other;
        parts = λ at l other.
            let then = so.parts at l other in
            parts_on at first w w' l then (one.parts at then.after (λ direction same.
            other direction (ap (λ (q : PortId). q.clock) (sym (then.begins direction)) ∙ same)));
      },
      calls_orderly place (PortUp p) w draws answer w' usual k,
      fresh_then number place p w draws answer w' k is_fresh of usual apart,
      begin_apart (lanes_view w.net.channels) (lanes_view w'.net.channels)
          (alone number place p w draws answer w' k is_fresh of usual apart).begin apart,
    )
