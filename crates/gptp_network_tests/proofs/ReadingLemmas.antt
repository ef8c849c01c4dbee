-- What the second of two systems reads 100 ms after a Follow_Up, by the theorem on time at any moment.
use Rattle.std.proofs.Common.{◌≡◌, ◌≤◌, ◌+◌, ℕ, ℤ, pos, Option, Some, refl, sym, ap, subst, ◌∙◌, arith}
use Rattle.gptp_error_laws.specs.TimeError.{Way, reading_error_at}
use Rattle.gptp_model.specs.declared.done.Done.{Done}
use Rattle.gptp_model.specs.Sound.{IsSound}
use Rattle.gptp_model.specs.Views.{ShowsLive}
use Rattle.gptp_model.specs.World.{WorldState}
use Rattle.gptp_graph.specs.Best.{IsBest}
use Rattle.gptp_graph.specs.Distance.{IsNear}
use Rattle.gptp_graph.specs.SettledChoice.{IsBestIdentity}
use Rattle.gptp_invariants.specs.WorldSettlingInvariant.{SettlingInvariant}
use Rattle.gptp_links.specs.declared.bounds.Bounds.{Bounds}
use Rattle.gptp_pdelay.specs.Clock.{local_clock}
use Rattle.gptp_reading.specs.Reading.{IsBestsTime, IsReadingErrorOf}
use Rattle.gptp_reading.specs.ReadingLaws.{HeldIsRead}
use Rattle.gptp_scenario.specs.declared.change.Timed.{Timed}
use Rattle.gptp_model.specs.Course.{WasDone}
use Rattle.gptp_invariants.specs.SyncTimedClaim.{WorldInvariant}
use Rattle.gptp_system.specs.Reading.{read_at}
use Rattle.gptp_system.specs.State.{SystemState, local_time}
use Rattle.gptp_system.specs.declared.reading.Reading.{Reading}
use Rattle.gptp_system.specs.Syncing.{held_reading}
use Rattle.gptp_theorem.specs.Headline.{UsesFollowUp}
use Rattle.gptp_reading.specs.Readings.{HeadlineOnReadings, LeavesReading, RunsReadExactly, WorldsReadExactly}
use Rattle.gptp_scaled.specs.Counts.{AreWithin}
use Rattle.gptp_network_tests.specs.Pair.{IsPairSince, first_member, pair_document, pair_pace, pair_snapshot, pair_way, params}
use Rattle.gptp_network_tests.specs.Readings.{RunsOfTwoReadExactly, WorldsOfTwoReadExactly}
use Rattle.gptp_network_tests.proofs.ExactLemmas.{calm_pair, few, first_is, first_tells, found, late, leads, of_pair, phases, playable, shows, way, way_is}
use Rattle.gptp_network_tests.proofs.PairLemmas.{follows, good_exactly, near}

short_reading : reading_error_at (pair_way 0 0) 0 100000000 ≡ 31
short_reading = refl

module _ (w : WorldState) (time : ℕ) (k : IsPairSince 27000000000 w) (sound : IsSound w) (claimed : SettlingInvariant w)
    (passed : w.time ≤ time) where
  error : IsReadingErrorOf params w 2 0 100000000 31
  error = record {
    way = way 0 0 good_exactly w time k sound claimed passed;
    phase = phases 0 0 good_exactly w time k sound claimed passed;
    leads = leads 0 0 good_exactly w time k sound claimed passed;
    is = sym (ap (λ (v : Way). reading_error_at v 0 100000000) (way_is 0 0 good_exactly w time k sound claimed passed)
        ∙ short_reading);
  }

  shown : WorldInvariant w → IsBestsTime w 2 (time + 100000000) (local_clock 0 (pos 0) (time + 100000000))
  shown all =
      let (best, is_best, is) : IsBestIdentity pair_snapshot 2 first_member = follows.root in
      let root = found 0 0 good_exactly w time k sound claimed passed 0 1 first_member refl refl in
      record {
        best = best;
        is_best = of_pair 0 0 good_exactly w time k sound claimed passed (λ g. IsBest g 2 best) is_best;
        root = root.0.system;
        shows = subst (λ c. ShowsLive c w root.0.system)
            (first_is 0 0 good_exactly w time k sound claimed passed best is_best.live is)
            (shows 0 0 good_exactly w time k sound claimed passed 0 1 first_member refl refl);
        is = sym (first_tells 0 0 good_exactly w time k sound claimed passed all (time + 100000000));
      }

  read_by_theorem : WorldInvariant w → (w' : WorldState) (done : Done) (read : ℤ) → HeadlineOnReadings w time w' done
      → LeavesReading 2 w' done (time + 100000000) read
      → AreWithin 31 read (local_clock 0 (pos 0) (time + 100000000))
  read_by_theorem all w' done read promised left =
      promised pair_pace 2 0 2 100000000 31 read (local_clock 0 (pos 0) (time + 100000000))
      (calm_pair 0 0 good_exactly w time k sound claimed passed) (few 0 0 good_exactly w time k sound claimed passed)
      (let come = late 0 0 good_exactly w time k sound claimed passed in omega (arith, come)) left
      (of_pair 0 0 good_exactly w time k sound claimed passed (λ g. IsNear g 2) near) error (shown all)

pub worlds_read : {F : Type 0} (answers : Bounds → ℕ → F → Option ℕ → F → Type 0) → WorldsReadExactly answers
    → WorldsOfTwoReadExactly answers
worlds_read answers theorem timed fate fate_after w w' done read k all was early left =
    read_by_theorem w timed.at k all.is.world.sound (record { pace = all.pace; is = all.is }) was.ready.timely.now all
    w' done read (theorem timed fate fate_after w w' done all was (omega (arith, early))) left

pub runs_read : {F : Type 0} (answers : Bounds → ℕ → F → Option ℕ → F → Type 0) → RunsReadExactly answers
    → RunsOfTwoReadExactly answers
runs_read answers theorem until fate start w ts t read early unfolds member k all passed left =
    read_by_theorem t.before t.told.timed.at k all.is.world.sound (record { pace = all.pace; is = all.is }) passed all
    t.after t.told.done read
    (theorem pair_document until fate start w ts t (playable params k.network) (omega (arith, early)) unfolds member)
    left

-- where a system used a Follow_Up, what it gives for its reading is what it reads by
pub left : (w : WorldState) (done : Done) (s : SystemState) (time : ℕ) (r : Reading) → UsesFollowUp 2 done
    → ShowsLive 2 w s → HeldIsRead → held_reading s ≡ Some r
    → LeavesReading 2 w done time (read_at r (local_time s time))
left w done s time r uses shows law held =
    record { uses = uses; system = s; shows = shows; is = law s time r held }

-- what the second reads 100 ms after an act is what a clock shows that runs exactly, but for rounding and its rate
pub second_is_read : {F : Type 0} (answers : Bounds → ℕ → F → Option ℕ → F → Type 0) (timed : Timed)
    (fate fate_after : F) (w w' : WorldState) (done : Done) (read : ℤ) (later : ℕ) → WorldsOfTwoReadExactly answers
    → IsPairSince 27000000000 w → WorldInvariant w
    → WasDone answers timed fate fate_after w w' done → timed.at ≤ 28000000000 → later ≡ timed.at + 100000000
    → LeavesReading 2 w' done (timed.at + 100000000) read
    → AreWithin 31 read (local_clock 0 (pos 0) later)
second_is_read answers timed fate fate_after w w' done read later theorem k all was early is reads =
    subst (λ t. AreWithin 31 read (local_clock 0 (pos 0) t)) (sym is)
    (theorem timed fate fate_after w w' done read k all was (omega (arith, early)) reads)
