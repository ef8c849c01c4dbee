-- Systems tell as they are set up: as their world begins, and after every act.
use Rattle.std.proofs.Common.{◌≡◌, ℕ, Bool, true, false, ◌&&◌, if◌then◌else◌, length, Option, refl, ap, subst, ◌∙◌, inl, inr}
use Rattle.std.specs.Prelude.{⊤}
use Rattle.std.specs.List.{range_with_len}
use Rattle.gptp_lists.proofs.MappedLemmas.{mapped}
use Rattle.gptp_links.specs.declared.bounds.Bounds.{Bounds}
use Rattle.gptp_scenario.specs.declared.change.Timed.{Timed}
use Rattle.gptp_scenario.specs.Network.{NetworkState}
use Rattle.gptp_system.specs.Input.{Input}
use Rattle.gptp_system.specs.State.{SystemState, local_time}
use Rattle.gptp_system.specs.Syncing.{is_leading}
use Rattle.gptp_system.specs.Takeover.{base_after, base_to, reading, takes_over}
use Rattle.gptp_system.specs.TimeKept.{MakesOfTime}
use Rattle.gptp_system.proofs.StepLemmas.{steps_sound}
use Rattle.gptp_system.proofs.TimeKeptLemmas.{steps_make_of_time}
use Rattle.gptp_model.specs.declared.done.Done.{Done}
use Rattle.gptp_model.specs.Acts.{at}
use Rattle.gptp_model.specs.Course.{Begun, WasDone}
use Rattle.gptp_model.specs.Initial.{initial, station_of}
use Rattle.gptp_model.specs.World.{WorldState}
use Rattle.gptp_invariants.specs.SyncOwnClock.{TellAsSetUp, TellsAsSetUp}
use Rattle.gptp_model.proofs.ActsByLemmas.{Elementary, acts_by, starts_by}
use Rattle.gptp_invariants.proofs.WorldEachLemmas.{OfEach, each_kept}

-- a system that doesn't go on keeps its base
base_stays : (input : Input) (now : ℕ) (s s' : SystemState) → s.continues ≡ false → MakesOfTime input now s s'
    → s'.base ≡ s.base
base_stays input now s s' off (inl kept) = kept.base
base_stays input now s s' off (inr (inl received)) = received.base
base_stays input now s s' off (inr (inr (sync, restarts))) = restarts.base ∙ by (is_leading s)
  where
    never : (takes : Bool)
        → (if takes && false then base_to (reading s now) (local_time s now) else s.base) ≡ s.base
    never true = refl
    never false = refl

    by : (leads : Bool) → (if leads then base_after now s else s.base) ≡ s.base
    by false = refl
    by true =
        ap (λ b. if takes_over s && b then base_to (reading s now) (local_time s now) else s.base) off
        ∙ never (takes_over s)

keeps : Elementary ⊥ (λ act. ⊤) (λ octets. ⊤) (OfEach TellsAsSetUp)
keeps = each_kept TellsAsSetUp
    (λ input now station after sends answer steps was.
    let kept = (steps_sound input now station.system after sends answer steps).kept in
    record {
      continues = kept.continues ∙ was.continues;
      own = λ off.
          base_stays input now station.system after (was.continues ∙ off)
          (steps_make_of_time input now station.system after sends answer steps) ∙ was.own off;
    })
    (λ station was. record { continues = was.continues; own = was.own })
    (λ now station was. record { continues = refl; own = λ off. refl })
    (λ value station was. record { continues = was.continues; own = was.own })

-- the world of a network begins so
pub own_begins : {F : Type 0} (answers : Bounds → ℕ → F → Option ℕ → F → Type 0) (n : NetworkState)
    (fate fate_after : F) (w : WorldState) → Begun answers n fate fate_after w → TellAsSetUp w
own_begins answers n fate fate_after w k =
    starts_by keeps (range_with_len 0 (length n.systems)) (initial n) k.draws w k.starts
    (λ place station here.
    let (member, there, is) = mapped (station_of n) n.systems place station here in
    subst TellsAsSetUp is (record { continues = refl; own = λ off. refl }))

-- and stays so
pub own_kept : {F : Type 0} (answers : Bounds → ℕ → F → Option ℕ → F → Type 0) (timed : Timed) (fate fate_after : F)
    (w w' : WorldState) (done : Done) → WasDone answers timed fate fate_after w w' done → TellAsSetUp w → TellAsSetUp w'
own_kept answers timed fate fate_after w w' done k so =
    acts_by keeps timed.act (at timed.at w) k.draws done w' (λ none. absurd none) tt k.acts so
