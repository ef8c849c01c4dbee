-- Calls of systems, one or one after another, have one outcome with what one fate draws.
use Rattle.std.proofs.Common.{◌≡◌, ℕ, true, false, List, [], ◌∷◌, map, Option, Some, slice_get, slice_set, sym, ap, subst, ◌∙◌, inl, inr}
use Rattle.gptp_lists.proofs.MappedLemmas.{same_there}
use Rattle.gptp_links.specs.declared.bounds.Bounds.{Bounds}
use Rattle.gptp_links.specs.Fate.{Draw}
use Rattle.gptp_system.specs.declared.answer.Answer.{Answer}
use Rattle.gptp_system.specs.declared.sending.Sending.{Sending}
use Rattle.gptp_system.specs.Input.{Input, PortUp, Steps}
use Rattle.gptp_system.specs.State.{SystemState}
use Rattle.gptp_model.specs.declared.station.Station.{Station}
use Rattle.gptp_model.specs.Act.{all_timers, in_state, Calls, HasFailed}
use Rattle.gptp_model.specs.Changing.{fresh, up_ports, with_station, CallsAll, CallsIfLive, Starts, StartsAll, TellsEnds}
use Rattle.gptp_model.specs.Sends.{SendsAll}
use Rattle.gptp_model.specs.World.{Channel, Net, WorldState}
use Rattle.gptp_model.proofs.StayLemmas.{calls_carry, calls_if_live_carry, carry_join, starts_stays}
use Rattle.gptp_determinism.specs.Named.{AnswersOnce, HaveOwnPorts, IsNamed}
use Rattle.gptp_determinism.specs.StepLaws.{SameAnswer}
use Rattle.gptp_determinism.proofs.NameLemmas.{named_still, ports_kept}
use Rattle.gptp_determinism.proofs.SendLemmas.{in_turn, sends_once, AreDrawn}
use Rattle.gptp_determinism.proofs.StepLemmas.{steps_once}

-- a system at a place isn't both live and failed
pub live_or_failed : (place : ℕ) (w : WorldState) (station : Station) → slice_get w.stations place ≡ Some station
    → station.live ≡ true → HasFailed place w → ⊥
live_or_failed place w station here live failed =
    let same = same_there w.stations place station failed.station here failed.here in
    let e : true ≡ false = sym live ∙ ap (λ (x : Station). x.live) same ∙ failed.failed in cc

module _ {F : Type 0} (answers : Bounds → ℕ → F → Option ℕ → F → Type 0) (once : AnswersOnce answers) where
  -- ---- one call

  pub calls_once : (place : ℕ) (input : Input) (w v u : WorldState) (ds es : List Draw) (answer said : Answer)
      → HaveOwnPorts w.net.channels → AreDrawn answers once ds es → Calls place input w ds answer v
      → Calls place input w es said u → (ds ≡ es) × (v ≡ u) × SameAnswer input answer said
  calls_once place input w v u ds es answer said own both k l =
      let stations : l.station ≡ k.station = same_there w.stations place l.station k.station l.here k.here in
      let step = steps_once input w.time k.station.system k.after l.after k.sends l.sends answer said k.steps
      (subst (λ (x : Station). Steps input w.time x.system l.after l.sends said) stations l.steps) in
      let timers : SystemState → Station → Net = λ s x. all_timers place (in_state s x) w.net in
      let sent : SendsAll w.time k.after k.sends es (timers k.after k.station) l.net =
      subst (λ (x : Station). SendsAll w.time k.after k.sends es (timers k.after x) l.net) stations
      (subst (λ (s : SystemState). SendsAll w.time s k.sends es (timers s l.station) l.net) (sym step.state)
      (subst (λ (xs : List Sending). SendsAll w.time l.after xs es (timers l.after l.station) l.net)
      (sym step.sends_are) l.sent)) in
      let start = timers k.after k.station in
      let (draws, nets) =
      sends_once answers once w.time k.after k.sends start k.net l.net ds es own both k.sent sent in
      let after : SystemState → Station → Net → WorldState =
      λ s x n. record w { stations = slice_set w.stations place (in_state s x); net = n } in (
        draws,
        k.is ∙ ap (λ (s : SystemState). after s k.station k.net) step.state
            ∙ ap (λ (x : Station). after l.after x k.net) (sym stations)
            ∙ ap (λ (n : Net). after l.after l.station n) nets ∙ sym l.is,
        step.answer_is,
      )

  pub calls_if_live_once : (place : ℕ) (input : Input) (w v u : WorldState) (ds es : List Draw)
      → HaveOwnPorts w.net.channels → AreDrawn answers once ds es → CallsIfLive place input w ds v
      → CallsIfLive place input w es u → (ds ≡ es) × (v ≡ u)
  calls_if_live_once place input w v u ds es own both (inl (answer, k)) (inl (said, l)) =
      let same = calls_once place input w v u ds es answer said own both k l in (same.0, same.1)
  calls_if_live_once place input w v u ds es own both (inl (answer, k)) (inr (failed, none, same)) =
      absurd (live_or_failed place w k.station k.here k.live failed)
  calls_if_live_once place input w v u ds es own both (inr (failed, none, same)) (inl (said, l)) =
      absurd (live_or_failed place w l.station l.here l.live failed)
  calls_if_live_once place input w v u ds es own both (inr (_, k-none, k-same)) (inr (_, l-none, l-same)) =
      (k-none ∙ sym l-none, k-same ∙ sym l-same)

  -- ---- several

  -- both ends of a link are told
  pub tells_ends_once : (input : ℕ → Input) (channel : Channel) (w v u : WorldState) (ds es : List Draw) → IsNamed w
      → AreDrawn answers once ds es → TellsEnds input channel w ds v → TellsEnds input channel w es u
      → (ds ≡ es) × (v ≡ u)
  tells_ends_once input channel w v u ds es is both k l =
      let a-places = is.clocks l.place_a k.place_a l.station_a k.station_a l.is_a.here k.is_a.here
      (l.is_a.named ∙ sym k.is_a.named) in
      let b-places = is.clocks l.place_b k.place_b l.station_b k.station_b l.is_b.here k.is_b.here
      (l.is_b.named ∙ sym k.is_b.named) in
      let a-input = input channel.a.port in
      let b-input = input channel.b.port in
      let joins = carry_join w.net.channels k.between.net.channels
      (calls_if_live_carry k.place_a a-input w k.first k.between k.at_a) in
      in_turn answers once ds es k.first k.second l.first l.second k.between l.between v u both k.draws_are l.draws_are
      (λ drawn. calls_if_live_once k.place_a a-input w k.between l.between k.first l.first is.ports drawn k.at_a
      (subst (λ (i : ℕ). CallsIfLive i a-input w l.first l.between) a-places l.at_a))
      (λ same drawn. calls_if_live_once k.place_b b-input k.between v u k.second l.second
      (ports_kept w.net.channels k.between.net.channels joins is.ports) drawn k.at_b
      (subst (λ (x : WorldState). CallsIfLive k.place_b b-input x l.second u) (sym same)
      (subst (λ (i : ℕ). CallsIfLive i b-input l.between l.second u) b-places l.at_b)))

  -- a live system is given inputs, one after another
  pub calls_all_once : (place : ℕ) (inputs : List Input) (w v u : WorldState) (ds es : List Draw)
      → HaveOwnPorts w.net.channels → AreDrawn answers once ds es → CallsAll place inputs w ds v
      → CallsAll place inputs w es u → (ds ≡ es) × (v ≡ u)
  calls_all_once place [] w v u ds es own both k l = (k.0 ∙ sym l.0, k.1 ∙ sym l.1)
  calls_all_once place (input ∷ inputs) w v u ds es own both (first, rest, x, answer, d-is, k, k-more)
      (third, fourth, y, said, e-is, l, l-more) =
      let joins = carry_join w.net.channels x.net.channels (calls_carry place input w first answer x k) in
      in_turn answers once ds es first rest third fourth x y v u both d-is e-is
      (λ drawn. let same = calls_once place input w x y first third answer said own drawn k l in (same.0, same.1))
      (λ same drawn. calls_all_once place inputs x v u rest fourth
      (ports_kept w.net.channels x.net.channels joins own) drawn k-more
      (subst (λ (z : WorldState). CallsAll place inputs z fourth u) (sym same) l-more))

  -- ---- starts

  pub starts_once : (place : ℕ) (w v u : WorldState) (ds es : List Draw) → HaveOwnPorts w.net.channels
      → AreDrawn answers once ds es → Starts place w ds v → Starts place w es u → (ds ≡ es) × (v ≡ u)
  starts_once place w v u ds es own both k l =
      let stations : l.station ≡ k.station = same_there w.stations place l.station k.station l.here k.here in
      let ports : Station → List Input = λ x. map PortUp (up_ports (fresh w.time x) w.net) in
      let begun : Station → WorldState = λ x. record (with_station place (fresh w.time x) w) {
        net = all_timers place (fresh w.time x) w.net;
      } in
      calls_all_once place (ports k.station) (begun k.station) v u ds es own both k.calls
      (subst (λ (x : Station). CallsAll place (ports x) (begun x) es u) stations l.calls)

  pub starts_all_once : (places : List ℕ) (w v u : WorldState) (ds es : List Draw) → IsNamed w
      → AreDrawn answers once ds es → StartsAll places w ds v → StartsAll places w es u → (ds ≡ es) × (v ≡ u)
  starts_all_once [] w v u ds es is both k l = (k.0 ∙ sym l.0, k.1 ∙ sym l.1)
  starts_all_once (place ∷ places) w v u ds es is both (first, rest, x, d-is, k, k-more)
      (third, fourth, y, e-is, l, l-more) =
      in_turn answers once ds es first rest third fourth x y v u both d-is e-is
      (λ drawn. starts_once place w x y first third is.ports drawn k l)
      (λ same drawn. starts_all_once places x v u rest fourth
      (named_still w x (starts_stays place w first x is.setups k) is) drawn k-more
      (subst (λ (z : WorldState). StartsAll places z fourth u) (sym same) l-more))
