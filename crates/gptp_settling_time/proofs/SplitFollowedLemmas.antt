-- After a system has failed and so moved trees a network comes to rest, once right traces are told since the trees
-- settled.
use Rattle.std.proofs.Common.{List, [], arith, inl, inr, max, min, refl, subst, suc, sym, ℕ, ◌*◌, ◌++◌, ◌+◌, ◌<◌, ◌∙◌, ◌∷◌, ◌≡◌, ◌≤◌, ◌⊎◌}
use Rattle.std.specs.List.{AllByRecursion}
use Rattle.std.proofs.Math.Nat.{le-max_left, le-max_right}
use Rattle.gptp_setup.specs.SettlingParams.{largest_interval}
use Rattle.gptp_scenario.specs.Calm.{IsCalm, NothingLapses, last_change}
use Rattle.gptp_scenario.specs.Network.{IsNetwork, NetworkState, pace_of}
use Rattle.gptp_scenario.specs.SettlingTime.{echo_span, silence_span, way_span}
use Rattle.gptp_scenario.specs.SyncWait.{sync_paths}
use Rattle.gptp_scenario.specs.declared.change.Timed.{Timed}
use Rattle.gptp_settling_time.specs.Arrivals.{HasArrivedBy}
use Rattle.gptp_settling_time.specs.HowSoon.{BoundsAging, FailsTreesFirst, RestsSplit}
use Rattle.gptp_settling_time.specs.Pasts.{Heard, Past, Split}
use Rattle.gptp_settling_time.specs.EventKinds.{nearer_echo_span}
use Rattle.gptp_settling_time.specs.Losses.{AgesWithin, NoneSilent}
use Rattle.gptp_settling_time.specs.Rests.{IsToldApart}
use Rattle.gptp_settling_time.proofs.BesideIdleLemmas.{LeadsTo}
use Rattle.gptp_settling_time.proofs.SettledPastLemmas.{HasRested, HasSettled}
use Rattle.gptp_settling_time.proofs.LossLeadLemmas.{splits_lead}
use Rattle.gptp_settling_time.proofs.LossRestLemmas.{last_at, nearer_within}
use Rattle.gptp_settling_time.proofs.SilentSpanLemmas.{none_silent}

module _ (n : NetworkState) (network : IsNetwork n) (off : NothingLapses n.params) (time rest : ℕ) where
  abbrev IsRestedTo : List Timed → List Timed → Past → Type 0
  IsRestedTo made now past = LeadsTo n made now past (λ events last. HasRested n events last (suc (time + rest)))

  -- by events of one time of which the first moves trees, once what was sent before the choice stood has arrived
  pub split_rests : (made now : List Timed) (past : Past) (stood arrived : ℕ)
      → AllByRecursion (λ (t : Timed). t.at ≡ time) now → HasSettled n made past stood → last_change made < stood
      → HasArrivedBy n made stood arrived → arrived ≤ time → IsCalm n made → IsCalm n (made ++ now)
      → FailsTreesFirst n made now → RestsSplit n rest made now → IsRestedTo made now past
  split_rests made [] past stood arrived at has later arrives quiet_then calm calm_now none bounds = absurd none
  split_rests made (event ∷ now) past stood arrived at has later arrives quiet_then calm calm_now (fails, others)
      (choice, roles, (held, quiet, bounds, is_choice, is_roles), enough) = by bounds
    where
      silence : ℕ
      silence = silence_span (pace_of n)

      way : ℕ
      way = way_span (sync_paths n (made ++ event ∷ now))

      here : event.at ≡ time
      here = at.0

      last : last_change (made ++ event ∷ now) ≡ time
      last = last_at made event now time at

      others_here : AllByRecursion (λ (t : Timed). t.at ≡ event.at) now
      others_here = subst (λ t. AllByRecursion (λ (u : Timed). u.at ≡ t) now) (sym here) at.1

      hop : ℕ
      hop = largest_interval (pace_of n) + (sync_paths n (made ++ event ∷ now)).delay

      echo : ℕ
      echo = max (echo_span (pace_of n) (sync_paths n (made ++ event ∷ now))) (largest_interval (pace_of n))

      -- so the choice and roles stand by then
      stands : roles ≤ rest
      stands = elim enough [
        | inl over ↦ let most = le-max_left roles (choice + echo) in omega (arith, most, over)
        | inr (inl (cuts, flight, is_gone, over)) ↦
            let most = le-max_left roles (choice + flight) in omega (arith, most, over)
        | inr (inr (leaves, used, over)) ↦
            let most = le-max_left roles (sync_paths n made).delay in omega (arith, most, over)
      ]

      choice_stands : choice ≤ rest
      choice_stands =
          let before = le-max_left choice quiet in
          let all_stand = stands in
          omega (arith, before, all_stand, is_roles)

      -- and what is held and in flight is right
      told : (gone : ℕ) → gone + 2 * way ≤ suc (time + choice)
          → IsToldApart n made (made ++ event ∷ now) gone (suc (time + rest))
      told gone soon = elim enough [
        | inl over ↦
            let most = le-max_right roles (choice + echo) in
            let nearer : nearer_echo_span n (made ++ event ∷ now) + largest_interval (pace_of n) ≤ echo =
            nearer_within (sync_paths n (made ++ event ∷ now)).systems hop (largest_interval (pace_of n)) (omega arith)
            in
            inl (omega (arith, most, nearer, over, soon))
        | inr (inl (cuts, flight, is_gone, over)) ↦
            let most = le-max_right roles (choice + flight) in
            inr (inl (cuts, flight, is_gone, omega (arith, most, over, soon), omega (arith, most, over, soon)))
        | inr (inr (leaves, used, over)) ↦
            let most = le-max_right roles (sync_paths n made).delay in
            let by_then = choice_stands in
            inr (inr (leaves, used, omega (arith, soon, by_then), omega (arith, last, most, over)))
      ]

      rested : (span : ℕ) → AgesWithin n made (made ++ event ∷ now) event.at span → min span silence ≤ held
          → (silence ≤ quiet) ⊎ NoneSilent n made (made ++ event ∷ now) → IsRestedTo made (event ∷ now) past
      rested span within less dark =
          let gone : ℕ = suc (event.at + min span silence) in
          let silent : ℕ = suc (event.at + silence) in
          let start : ℕ = gone + way in
          let asked = le-max_right choice quiet in
          let all_stand = stands in
          let by_then = choice_stands in
          let soon : gone + 2 * way ≤ suc (time + choice) = omega (arith, here, is_choice, less) in
          let over : start + way ≤ suc (time + rest) = omega (arith, soon, by_then) in
          record {
            last = Split made gone silent;
            lead = splits_lead n network off made event now past stood arrived span calm has later arrives
                (omega (arith, quiet_then, here)) fails others others_here within;
            so = (
              Heard start,
              inr (
                start,
                refl,
                record {
                  calm = calm_now;
                  off = off;
                  since = omega (arith, here, last);
                  told = told gone soon;
                  later = omega arith;
                  unlinked = elim dark [
                    | inl soon_dark ↦ inl (omega (arith, here, soon_dark, is_roles, asked, all_stand))
                    | inr none ↦ inr none
                  ];
                  over = over;
                },
              ),
              over,
            );
          }

      by : BoundsAging n made (event ∷ now) held quiet → IsRestedTo made (event ∷ now) past
      by (inl (none, is_none, is_quiet)) =
          rested 0 (none_silent n made (made ++ event ∷ now) event.at 0 none) (omega arith) (inr none)
      by (inr ((span, within, is_held), is_quiet)) =
          rested span
          (subst (λ t. AgesWithin n made (made ++ event ∷ now) t span) (last ∙ sym here) within)
          (omega (arith, is_held)) (inl (omega (arith, is_quiet)))
