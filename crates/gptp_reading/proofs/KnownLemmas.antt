-- What holds of live systems whose offset is known, by what they follow: an act keeps it, or a Follow_Up is used.
use Rattle.std.proofs.Common.{◌≡◌, ◌⊎◌, ℕ, true, List, Option, Some, None, slice_get, sym, subst, inl, inr}
use Rattle.std.specs.List.{range_with_len}
use Rattle.std.specs.Prelude.{IsSome, length}
use Rattle.gptp_lists.proofs.PlaceLemmas.{get-set_all}
use Rattle.gptp_links.specs.declared.bounds.Bounds.{Bounds}
use Rattle.gptp_links.specs.Fate.{Draw}
use Rattle.gptp_model.specs.Act.{Hears, in_state}
use Rattle.gptp_model.specs.Acts.{Acts, TellsHearing}
use Rattle.gptp_model.specs.Ahead.{IsSteady}
use Rattle.gptp_model.specs.Course.{Begun}
use Rattle.gptp_model.specs.Initial.{initial}
use Rattle.gptp_model.specs.declared.done.Done.{Done}
use Rattle.gptp_model.specs.declared.station.Station.{Station}
use Rattle.gptp_model.specs.Sound.{IsSound}
use Rattle.gptp_model.specs.World.{WorldState, receiver}
use Rattle.gptp_model.proofs.SteadyLemmas.{same_clock}
use Rattle.gptp_scenario.specs.Network.{NetworkState}
use Rattle.gptp_scenario.specs.declared.change.Act.{Act}
use Rattle.gptp_scenario.specs.declared.change.Act.TheVariants.{Deliver, Expire, Change as Changing}
use Rattle.gptp_setup.specs.declared.setup.Setup.{Setup}
use Rattle.gptp_setup.specs.declared.timer.Timer.TheVariants as timers
use Rattle.gptp_system.specs.declared.answer.Answer.{Answer}
use Rattle.gptp_system.specs.declared.sending.Sending.{Sending}
use Rattle.gptp_system.specs.Input.{Input, Steps, Frame as FrameHeard, Expires as TimerExpires}
use Rattle.gptp_system.specs.Start.{started}
use Rattle.gptp_system.specs.State.{SystemState, clock}
use Rattle.gptp_theorem.specs.Headline.{UsesFollowUp}
use Rattle.gptp_reading.proofs.EachLemmas.{all_start, changes_keep, Each, expires_keep, IsNoFrame, none_lives}
use Rattle.gptp_reading.proofs.HeardLemmas.{delivery_uses}
use Rattle.gptp_reading.proofs.OffsetLemmas.{LearnsTime, offset_steps, OffsetStep}

-- by an act of which this is told the system used a Follow_Up, which is known then
pub record HasLearned (done : Done) (s : SystemState) : Type 0 where
  pub uses : UsesFollowUp (clock s) done
  pub known : IsSome s.known

-- it is told by clock, root and Slave port
module _ (R : ℕ → ℕ → Option ℕ → Type 0) where
  abbrev pub HoldsIfKnown : SystemState → Type 0
  HoldsIfKnown s = IsSome s.offset → R (clock s) s.root s.slave

  -- ---- a step

  step_holds : (input : Input) (answer : Answer) (s s' : SystemState) → clock s' ≡ clock s → HoldsIfKnown s
      → OffsetStep input answer s s' → HoldsIfKnown s' ⊎ LearnsTime input answer s'
  step_holds input answer s s' clocks holds (inl k) =
      inl (λ some. subst (λ c. R c s'.root s'.slave) (sym clocks)
      (subst (λ r. R (clock s) r s'.slave) (sym k.root)
      (subst (λ p. R (clock s) s.root p) (sym k.slave) (holds (subst IsSome k.offset some)))))
  step_holds input answer s s' clocks holds (inr (inl none)) =
      inl (λ some. absurd (let no = subst IsSome none some in cc))
  step_holds input answer s s' clocks holds (inr (inr learns)) = inr learns

  keeps : (input : Input) (now : ℕ) (s s' : SystemState) (sends : List Sending) (answer : Answer)
      → Steps input now s s' sends answer → IsNoFrame input → (input ≡ TimerExpires timers.Lapse → IsSteady s')
      → HoldsIfKnown s → HoldsIfKnown s'
  keeps input now s s' sends answer k own steady holds =
      elim (step_holds input answer s s' (same_clock input now s s' sends answer k) holds
      (offset_steps input now s s' sends answer k)) [
        | inl kept ↦ kept
        | inr learns ↦ absurd (subst IsNoFrame learns.heard own)
      ]

  starts : (setup : Setup) (now : ℕ) → HoldsIfKnown (started setup now)
  starts setup now some = absurd cc

  -- ---- an act

  abbrev pub EachHolds : WorldState → Type 0
  EachHolds = Each HoldsIfKnown

  -- as a network begins nothing is known
  pub holds_begin : {F : Type 0} (answers : Bounds → ℕ → F → Option ℕ → F → Type 0) (n : NetworkState)
      (fate fate_after : F) (w : WorldState) → Begun answers n fate fate_after w → EachHolds w
  holds_begin answers n fate fate_after w k =
      all_start HoldsIfKnown keeps starts (range_with_len 0 (length n.systems)) (initial n) k.draws w k.starts
      (none_lives HoldsIfKnown keeps starts n)

  -- so it is of a system, or it used a Follow_Up
  abbrev pub HoldsOrLearned : Done → Station → Type 0
  HoldsOrLearned done station =
      station.live ≡ true → HoldsIfKnown station.system ⊎ HasLearned done station.system

  pub acts_hold : (act : Act) (w : WorldState) (draws : List Draw) (done : Done) (w' : WorldState) → IsSound w'
      → Acts act w draws done w' → EachHolds w → (place : ℕ) (station : Station)
      → slice_get w'.stations place ≡ Some station → HoldsOrLearned done station
  acts_hold (Deliver link direction) w draws done w' sound d each place station there live =
      by d.answer d.told d.delivers.hears live
    where
      kept : (other : ℕ) (x : Station) → slice_get w.stations other ≡ Some x → HoldsOrLearned done x
      kept other x here live = inl (each other x here live)

      by : (o : Option Answer) → TellsHearing (receiver direction d.channel) o d.octets done
          → Hears d.delivers.place (receiver direction d.delivers.channel).port d.octets
          (record w { net = d.delivers.net }) draws o w' → HoldsOrLearned done station
      by None told (failed, nothing, is) =
          kept place station (subst (λ (v : WorldState). slice_get v.stations place ≡ Some station) is there)
      by (Some answer) told c =
          get-set_all (HoldsOrLearned done) w.stations d.delivers.place c.station (in_state c.after c.station) c.here
          after kept place station
          (subst (λ (v : WorldState). slice_get v.stations place ≡ Some station) c.is there)
        where
          input : Input
          input = FrameHeard (receiver direction d.delivers.channel).port d.octets

          clocks : clock c.after ≡ clock c.station.system
          clocks = same_clock input w.time c.station.system c.after c.sends answer c.steps

          after : HoldsOrLearned done (in_state c.after c.station)
          after live =
              elim (step_holds input answer c.station.system c.after clocks
              (each d.delivers.place c.station c.here c.live)
              (offset_steps input w.time c.station.system c.after c.sends answer c.steps)) [
                | inl holds ↦ inl holds
                | inr learns ↦ inr (record {
                  uses = subst (λ n. UsesFollowUp n done) (sym clocks)
                      (delivery_uses link direction w draws done w' d answer told c learns.port learns.octets
                      learns.message learns.heard learns.reads learns.used);
                  known = learns.known;
                })
              ]
  acts_hold (Expire number timer) w draws done w' sound k each place station there live =
      inl (expires_keep HoldsIfKnown keeps starts number timer w draws done w' sound k each place station there live)
  acts_hold (Changing change) w draws done w' sound (quiet, k) each place station there live =
      inl (changes_keep HoldsIfKnown keeps starts change (record w { last_change = w.time }) draws w' k each place
      station there live)
