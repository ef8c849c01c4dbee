-- A world since a loss: what is known of its machine, and that it goes on by time, or by an act that is no change.
use Rattle.std.proofs.Common.{◌≡◌, ◌≤◌, ℕ, List, Some, None, refl, sym, ap, subst, ◌∙◌, inl, inr, arith}
use Rattle.gptp_links.specs.Fate.{Draw}
use Rattle.gptp_scenario.specs.Calm.{NothingLapses}
use Rattle.gptp_scenario.specs.declared.change.Act.{Act}
use Rattle.gptp_setup.specs.SettlingParams.{SettlingParams}
use Rattle.gptp_model.specs.Acts.{Acts, at as at_time}
use Rattle.gptp_model.specs.Pending.{NothingBefore}
use Rattle.gptp_model.specs.World.{WorldState}
use Rattle.gptp_model.specs.declared.done.Done.{Done}
use Rattle.gptp_bmca_machine.specs.Acts.{MachineSteps}
use Rattle.gptp_bmca_machine.specs.Calm.{Calm}
use Rattle.gptp_bmca_machine.specs.LossLaws.{IsAfterLoss}
use Rattle.gptp_bmca_machine.specs.Network.{Network}
use Rattle.gptp_bmca_machine.specs.SoundLaws.{UnlinkedAreOff}
use Rattle.gptp_bmca_machine.specs.Station.{Disabled, Received, Station as SeenStation}
use Rattle.gptp_invariants.specs.ChoiceCalm.{HaveQuietLinks, delay_in}
use Rattle.gptp_invariants.specs.ChoiceSeenLaws.{IsNoChange}
use Rattle.gptp_invariants.specs.ChoiceView.{says_announce, view}
use Rattle.gptp_invariants.specs.WorldEncodableLaws.{SetsAnOctet}
use Rattle.gptp_invariants.proofs.ChoiceCalmKeptLemmas.{KeepsNetwork, acts_keep, delay_kept, links_quiet}
use Rattle.gptp_invariants.proofs.ChoicePlaceLemmas.{station_from}
use Rattle.gptp_invariants.proofs.ChoiceSeenActLemmas.{acts_seen}
use Rattle.gptp_invariants.proofs.ChoiceSettlesAsMachineLemmas.{kept_back}
use Rattle.gptp_invariants.proofs.WorldNewsCourseLemmas.{later_keeps}
use Rattle.gptp_invariants.proofs.WorldOutlineLemmas.{acts_time}
use Rattle.gptp_settling_time.proofs.AlwaysClaimedLemmas.{IsStanding, start_calm, start_network}
use Rattle.gptp_settling_time.proofs.BesideLemmas.{IsDark}
use Rattle.gptp_settling_time.proofs.FitsLemmas.{UnlinkedHoldNothing}
use Rattle.gptp_settling_time.proofs.LeftClaimedLemmas.{HaveAskedBy, HaveAskedLong, asked_acts, asked_heard, asked_later, left_calm, left_network, same_left, standing_acts, standing_later}

-- ---- what is known of the world's machine

module _ (p : SettlingParams) (silent : ℕ) (w : WorldState) (standing : IsStanding p silent w) (asked : HaveAskedLong w)
    (quiet : HaveQuietLinks p.params w) (past : silent ≤ w.time) where
  abbrev n_of : Network
  n_of = left_network p silent w

  -- ports that no link is at are off
  pub dark_now : IsDark n_of (view w)
  dark_now i s place q there live at none =
      let calm : Calm (start_network p 0 silent w) (view w) =
      start_calm p silent w standing (asked_heard p silent w asked) quiet 0 in
      ((calm.stations i s there live).ports place q at).unlinked past none

  pub nothing_held : UnlinkedHoldNothing n_of.graph (view w)
  nothing_held i s place r there live none (q, at, holds) =
      let off = dark_now i s place q there live at none in
      absurd (let both : Received r ≡ Disabled = sym holds ∙ off in cc)

  pub calm_now : Calm n_of (view w)
  calm_now = left_calm p silent w standing asked quiet nothing_held

  pub after_loss : NothingLapses p.params → delay_in w ≤ w.time → IsAfterLoss n_of (view w)
  after_loss off late = record {
    calm = calm_now;
    capable = λ port linked. omega arith;
    lapses = λ i due s at lapse.
        let x = station_from w.stations i s at in
        let none : s.lapse ≡ None =
        ap (λ (z : SeenStation). z.lapse) x.is ∙ (standing.world.known.set i x.station x.here).lapses off in
        absurd (let both : None ≡ Some due = sym none ∙ lapse in cc);
    begun = omega arith;
    late = late;
  }

-- ---- it goes on

-- It comes after another of the same network, and the machine steps.
pub record GoesOn (p : SettlingParams) (silent : ℕ) (w w' : WorldState) : Type 0 where
  pub standing : IsStanding p silent w'
  pub asked : HaveAskedLong w'
  pub keeps : KeepsNetwork w w'
  pub step : MachineSteps says_announce (view w) (view w')
  pub on : w.time ≤ w'.time

pub goes_later : (p : SettlingParams) (silent time : ℕ) (w : WorldState) → w.time ≤ time
    → NothingBefore time w.net.pending → IsStanding p silent w → HaveAskedLong w → GoesOn p silent w (at_time time w)
goes_later p silent time w later first standing asked = record {
  standing = standing_later p silent time w later first standing;
  asked = asked_later p w.last_change time w standing.world later first asked;
  keeps = later_keeps time w;
  step = inl (record { time = time; later = later; is = refl });
  on = later;
}

pub goes_acts : (p : SettlingParams) (silent : ℕ) (act : Act) (w : WorldState) (draws : List Draw) (done : Done)
    (w' : WorldState) → IsNoChange act → SetsAnOctet act → Acts act w draws done w' → IsStanding p silent w
    → HaveAskedLong w → GoesOn p silent w w'
goes_acts p silent act w draws done w' none octet acts standing asked =
    let world = standing.world in
    let standing' = standing_acts p silent act w draws done w' none octet acts standing in
    let keeps = acts_keep act w draws done w' none acts in
    let time = acts_time act w draws done w' acts in
    record {
      standing = standing';
      asked = subst (λ t. HaveAskedBy t w') (sym keeps.change)
          (asked_acts p w.last_change silent act w draws done w' none acts standing standing'.world asked);
      keeps = keeps;
      step = inr (acts_seen act w draws done w' none world.sound world.encodable acts);
      on = omega (arith, time);
    }

module _ (p : SettlingParams) (silent : ℕ) (w w' : WorldState) (goes : GoesOn p silent w w') where
  pub late_on : delay_in w ≤ w.time → delay_in w' ≤ w'.time
  late_on late =
      let on = goes.on in
      subst (λ delay. delay ≤ w'.time) (sym (delay_kept w w' goes.keeps)) (omega (arith, late, on))

  pub past_on : silent ≤ w.time → silent ≤ w'.time
  past_on past = let on = goes.on in omega (arith, past, on)

  -- links that are quiet then were
  pub quiet_before : HaveQuietLinks p.params w' → HaveQuietLinks p.params w
  quiet_before quiet' = links_quiet w' w (kept_back w w' goes.keeps) p.params quiet'

  module _ (n : Network) (same : left_network p silent w ≡ n) where
    pub same_on : left_network p silent w' ≡ n
    same_on = same_left p silent w w' goes.keeps ∙ same

    pub after_on : HaveQuietLinks p.params w' → silent ≤ w.time → NothingLapses p.params → delay_in w ≤ w.time
        → IsAfterLoss n (view w')
    after_on quiet' past off late =
        subst (λ z. IsAfterLoss z (view w')) same_on
        (after_loss p silent w' goes.standing goes.asked quiet' (past_on past) off (late_on late))

    pub dark_on : HaveQuietLinks p.params w' → silent ≤ w.time → UnlinkedAreOff n.graph (view w')
    dark_on quiet' past =
        subst (λ (z : Network). UnlinkedAreOff z.graph (view w')) same_on
        (dark_now p silent w' goes.standing goes.asked quiet' (past_on past))
