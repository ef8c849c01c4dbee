-- What a call by which a port goes down leaves to others: each other system stands as it did, and lanes get longer at
-- most. And as the machine sees it, it is a step.
use Rattle.std.proofs.Common.{◌≡◌, ◌≢◌, ℕ, List, Some, slice_get, refl, sym, ap, subst, ◌∙◌, inr}
use Rattle.gptp_lists.specs.Members.{In}
use Rattle.gptp_lists.proofs.MappedLemmas.{alike, same_there}
use Rattle.gptp_lists.proofs.PlaceLemmas.{get-set_other}
use Rattle.gptp_lists.proofs.SystemSpecLemmas.{In-left}
use Rattle.gptp_links.specs.Fate.{Draw}
use Rattle.gptp_system.specs.declared.answer.Answer.{Answer}
use Rattle.gptp_system.specs.Input.{PortDown}
use Rattle.gptp_model.specs.Act.{Calls, in_state}
use Rattle.gptp_model.specs.Sound.{AreApart}
use Rattle.gptp_model.specs.World.{WorldState}
use Rattle.gptp_model.proofs.BareLemmas.{bare}
use Rattle.gptp_model.proofs.EndLemmas.{HasPort}
use Rattle.gptp_bmca_machine.specs.Acts.{MachineSteps}
use Rattle.gptp_bmca_machine.specs.Frame.{Announce, Lane}
use Rattle.gptp_bmca_machine.specs.Station.{Station as SeenStation}
use Rattle.gptp_bmca_machine.specs.Touch.{Disable, Grow, Hear, StationTouch}
use Rattle.gptp_invariants.specs.ChoiceView.{lane_view, says_announce, touch_view, view}
use Rattle.gptp_invariants.proofs.ChoiceCalmKeptLemmas.{KeepsNetwork, calls_keep}
use Rattle.gptp_invariants.proofs.ChoicePlaceLemmas.{station_from, station_there}
use Rattle.gptp_invariants.proofs.ChoiceSeenCallLemmas.{IsCallSeen, calls_seen}
use Rattle.gptp_invariants.proofs.ChoiceSeenLaneLemmas.{lane_from, lane_there}
use Rattle.gptp_invariants.proofs.ChoiceSendLemmas.{lanes_apart}
use Rattle.gptp_invariants.proofs.WorldAnsweringLemmas.{IsAnswering, calls_answering}
use Rattle.gptp_vector.specs.declared.port.PortId.{PortId}
use Rattle.gptp_settling_time.proofs.BetweenCalmLemmas.{IsEmptier}

pub emptier_itself : (l : Lane) → IsEmptier l l
emptier_itself l = record { from = refl; to = refl; loss = refl; is_up = refl; fewer = λ f flies. flies }

pub emptier_on : (l m k : Lane) → IsEmptier l m → IsEmptier m k → IsEmptier l k
emptier_on l m k first second = record {
  from = second.from ∙ first.from;
  to = second.to ∙ first.to;
  loss = second.loss ∙ first.loss;
  is_up = second.is_up ∙ first.is_up;
  fewer = λ f flies. second.fewer f (first.fewer f flies);
}

module _ (place : ℕ) (port : PortId) (w : WorldState) (draws : List Draw) (answer : Answer) (w' : WorldState)
    (c : Calls place (PortDown port.port) w draws answer w') where
  pub call_keeps : KeepsNetwork w w'
  call_keeps = calls_keep place (PortDown port.port) w draws answer w' (λ value same. absurd cc) c

  -- each other system stands as it did
  pub station_on : (i : ℕ) → i ≢ place → (s : SeenStation) → slice_get (view w).stations i ≡ Some s
      → slice_get (view w').stations i ≡ Some s
  station_on i apart s there =
      let x = station_from w.stations i s there in
      station_there w'.stations i x.station
      (ap (λ (v : WorldState). slice_get v.stations i) c.is
      ∙ get-set_other w.stations place i (in_state c.after c.station) apart ∙ x.here)
      ∙ ap (λ z. Some z) (sym x.is)

  pub station_back : (i : ℕ) → i ≢ place → (s : SeenStation) → slice_get (view w').stations i ≡ Some s
      → slice_get (view w).stations i ≡ Some s
  station_back i apart s there =
      let x = station_from w'.stations i s there in
      station_there w.stations i x.station
      (sym (get-set_other w.stations place i (in_state c.after c.station) apart)
      ∙ ap (λ (v : WorldState). slice_get v.stations i) (sym c.is) ∙ x.here)
      ∙ ap (λ z. Some z) (sym x.is)

  module _ (answering : IsAnswering w) (apart : AreApart w) (has : HasPort place port w) where
    seen : IsCallSeen (PortDown port.port) c.station c.after w w'
    seen =
        let old = answering.stations place c.station c.here in
        calls_seen place (PortDown port.port) w draws answer w' c old.steady old.its (has c.station c.here).1
        (answering.encodable.stations place c.station c.here).system tt
        (lanes_apart w apart (λ link channel there. (answering.encodable.links link channel there).ends))

    touch : touch_view seen.touch ≡ Disable port.port
    touch = ap touch_view seen.seen

    deaf : (n : ℕ) (t : StationTouch) → t ≡ Disable n → (m : ℕ) (a : Announce) → t ≡ Hear m a → ⊥
    deaf n t same m a heard = absurd (let both : Disable n ≡ Hear m a = sym same ∙ heard in cc)

    young : (n m : ℕ) (t : StationTouch) → t ≡ Disable n → t ≡ Grow m → ⊥
    young n m t same grown = absurd (let both : Disable n ≡ Grow m = sym same ∙ grown in cc)

    pub call_steps : MachineSteps says_announce (view w) (view w')
    call_steps =
        inr (inr (inr (record {
          touch = touch_view seen.touch;
          call = seen.call;
          deaf = deaf port.port (touch_view seen.touch) touch;
          ages = λ i q r grown. absurd (young port.port _ (touch_view seen.touch) touch grown);
        })))

    -- so the others can be called then
    pub still_answering : IsAnswering w'
    still_answering =
        calls_answering place (PortDown port.port) w draws answer w' answering c (has c.station c.here).1 tt

    -- lanes get longer at most
    pub lane_back : (j : ℕ) (l' : Lane) → slice_get (view w').lanes j ≡ Some l'
        → (l : Lane) × (slice_get (view w).lanes j ≡ Some l) × IsEmptier l l'
    lane_back j l' there =
        let (l, at, step) = seen.call.lanes j l' there in (
          l,
          at,
          record {
            from = step.from;
            to = step.to;
            loss = step.loss;
            is_up = step.is_up;
            fewer = λ f flies. subst (In f) (sym step.behind) (In-left f l.frames step.news flies);
          },
        )

    pub lane_on : (j : ℕ) (l : Lane) → slice_get (view w).lanes j ≡ Some l
        → (l' : Lane) × (slice_get (view w').lanes j ≡ Some l') × IsEmptier l l'
    lane_on j l there =
        let at = lane_from w.net.channels j l there in
        let (new, here, same) = alike bare bare w'.net.channels w.net.channels call_keeps.links at.link at.channel
        at.here in
        let stands : slice_get (view w').lanes j ≡ Some (lane_view at.direction new) =
        ap (slice_get (view w').lanes) at.at ∙ lane_there w'.net.channels at.link at.direction new here in
        let (old, was, emptier) = lane_back j (lane_view at.direction new) stands in
        let one : old ≡ l = same_there (view w).lanes j old l was there in (
          lane_view at.direction new,
          stands,
          subst (λ (k : Lane). IsEmptier k (lane_view at.direction new)) one emptier,
        )
