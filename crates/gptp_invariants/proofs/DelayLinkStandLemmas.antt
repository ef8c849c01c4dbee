-- Where two live stations stand at a link, the machine of gptp_pdelay_machine is seen.
use Rattle.std.proofs.Common.{◌≡◌, ℕ, sym, ap, subst, ◌∙◌}
use Rattle.gptp_vector.specs.declared.port.PortId.{PortId}
use Rattle.gptp_system.specs.Measures.{measure_at}
use Rattle.gptp_system.specs.State.{clock}
use Rattle.gptp_system.specs.Steps.{HasPortNumber}
use Rattle.gptp_system.proofs.TimelyLemmas.{port_stands}
use Rattle.gptp_model.specs.World.{WorldState, receiver, sender}
use Rattle.gptp_invariants.specs.DelayLinkLaws.{LinksAreSeen}
use Rattle.gptp_invariants.specs.DelayMeasured.{StationIsLiveAt, LinkIsMeasured}
use Rattle.gptp_invariants.specs.DelayLinkView.{IsEndOf, IsMeasuring, other_direction}
use Rattle.gptp_invariants.proofs.DelayLinkLemmas.{sender_opposite}

-- a live station's port at a link is an end of it
abbrev pub end_is : (place : ℕ) (port : PortId) (w : WorldState) → LinkIsMeasured w
    → (e : StationIsLiveAt place port.clock w)
    → HasPortNumber e.station.system port.port → IsEndOf place port w
end_is place port w measured e of =
    let found = port_stands e.station.system port.port of in
    let all = measured.stations place e.station e.here in
    record {
      station = e.station;
      state = found.0;
      here = e.here;
      live = e.live;
      set_up = all.set_up;
      named = e.named;
      there = found.1;
      measures = subst (λ p. IsMeasuring e.station.setup.params p (measure_at found.0))
          (λ i. record { clock = e.named i; port = port.port }) (all.ports port.port found.0 found.1);
    }

pub links_seen : LinksAreSeen
links_seen at w sound measured s =
    let begins = sender_opposite at.direction s.channel in
    let there : clock s.answering.station.system ≡ (sender (other_direction at.direction) s.channel).clock =
    s.answering.named ∙ ap (λ (p : PortId). p.clock) (sym begins) in
    record {
      channel = s.channel;
      here = s.here;
      up = s.up;
      lossless = s.lossless;
      asking = end_is at.asking (sender at.direction s.channel) w measured s.asking
          (sound.wired.ports at.link at.asking at.direction s.channel s.asking.station s.here s.asking.here
          s.asking.named);
      answering = end_is at.answering (receiver at.direction s.channel) w measured s.answering
          (subst (λ (p : PortId). HasPortNumber s.answering.station.system p.port) begins
          (sound.wired.ports at.link at.answering (other_direction at.direction) s.channel s.answering.station s.here
          s.answering.here there));
      apart = s.apart;
      good = s.good;
      fit = λ direction f member. measured.frames at.link s.channel s.here direction f member;
    }
