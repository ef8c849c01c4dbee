-- By which loss a network that has settled is cleared: that of a far end, of another link that moves none, or of a
-- system that others heard, as it loses its power.
use Rattle.std.proofs.Common.{List, [], ap, append_assoc, arith, inl, inr, refl, subst, suc, sym, ℕ, ◌*◌, ◌++◌, ◌+◌, ◌∙◌, ◌∷◌, ◌≡◌, ◌≤◌}
use Rattle.std.specs.List.{AllByRecursion}
use Rattle.std.proofs.Math.Nat.{le-max_left}
use Rattle.gptp_setup.specs.SettlingParams.{largest_interval, longest_span}
use Rattle.gptp_scenario.specs.Calm.{IsCalm, NothingLapses, last_change}
use Rattle.gptp_scenario.specs.Network.{IsNetwork, NetworkState, pace_of}
use Rattle.gptp_scenario.specs.SettlingTime.{capability_span, silence_span, way_span}
use Rattle.gptp_scenario.specs.SyncWait.{sync_paths}
use Rattle.gptp_scenario.specs.declared.change.Timed.{Timed}
use Rattle.gptp_theorem.proofs.EventLemmas.{last_behind}
use Rattle.gptp_settling_time.specs.HowSoon.{EachEvent, IsDownToo}
use Rattle.gptp_settling_time.specs.Pasts.{Aging, AnyPast, Cleared, Fallen, Gained, Heard, Left, Fewer, Lost, Past, Split, Starting, Turned, TurnedTree}
use Rattle.gptp_settling_time.specs.EventKinds.{CutsCalm, FailsCalm, FailsNow, FlightIsGone, FlightIsGoneFrom, LowersCalm, nearer_echo_span}
use Rattle.gptp_settling_time.specs.Leads.{EventLeads}
use Rattle.gptp_settling_time.specs.InTurn.{LeadOn}
use Rattle.gptp_settling_time.specs.Losses.{UpIsUsed}
use Rattle.gptp_settling_time.proofs.SettledPastLemmas.{HasSettled}
use Rattle.gptp_settling_time.proofs.LossLeadLemmas.{down_calm, down_now}

-- after the loss of a far end it is cleared
module _ (n : NetworkState) (made : List Timed) (event : Timed) (gone : ℕ) where
  pub record IsClearedBy (past : Past) (by : ℕ) : Type 0 where
    pub since : ℕ
    pub silent : ℕ
    pub leads : EventLeads n made past event (Cleared made since silent 0 (event.at + gone))
    pub early : since + way_span (sync_paths n made) ≤ event.at
    pub over : silent ≤ by

  -- by a link that cuts it off, as ports without a link were off
  pub cut_leads : FlightIsGoneFrom n (made ++ event ∷ []) event.at gone → (past : Past) → HasSettled n made past
      event.at
      → CutsCalm n made event → IsClearedBy past event.at
  cut_leads flight AnyPast settled cuts =
      let passed = settled.passed in
      let over = le-max_left (capability_span (pace_of n)) (2 * largest_interval (pace_of n)
      + (sync_paths n made).systems * (longest_span (pace_of n) + (sync_paths n made).delay)) in
      record {
        since = last_change made + capability_span (pace_of n);
        silent = last_change made + capability_span (pace_of n);
        leads = (settled, refl, inl (refl, inl (refl, inl (cuts, refl, (gone, flight, refl)))));
        early = omega (arith, passed, over);
        over = omega (arith, passed, over);
      }
  cut_leads flight Starting settled cuts = absurd settled
  cut_leads flight (Gained start) settled cuts = record {
    since = start;
    silent = start;
    leads = (settled, refl, inl (refl, inl (refl, inl (cuts, refl, (gone, flight, refl)))));
    early = omega (arith, settled);
    over = omega (arith, settled);
  }
  cut_leads flight (Heard start) settled cuts = record {
    since = start;
    silent = start;
    leads = (settled, refl, inl (refl, inl (refl, inl (cuts, refl, (gone, flight, refl)))));
    early = omega (arith, settled);
    over = omega (arith, settled);
  }
  cut_leads flight (Left ago silent) settled cuts = absurd settled
  cut_leads flight (Turned silent now) settled cuts = absurd settled
  cut_leads flight (Fallen silent now) settled cuts = absurd settled
  cut_leads flight (TurnedTree silent now) settled cuts = absurd settled
  cut_leads flight (Cleared ago begun silent right last) settled cuts = absurd settled
  cut_leads flight (Aging ago aged silent) settled cuts = absurd settled
  cut_leads flight (Split ago aged silent) settled cuts = absurd settled
  cut_leads flight (Lost ago since most silent) settled cuts = absurd settled
  cut_leads flight (Fewer ago since most silent) settled cuts = absurd settled

  -- or as it fails, once the ports beside it have been unanswered for long enough
  pub fail_leads : FlightIsGoneFrom n made event.at gone → (past : Past) → HasSettled n made past event.at → FailsCalm n
      made event
      → IsClearedBy past (suc (event.at + silence_span (pace_of n)))
  fail_leads flight AnyPast settled fails =
      let passed = settled.passed in
      let over = le-max_left (capability_span (pace_of n)) (2 * largest_interval (pace_of n)
      + (sync_paths n made).systems * (longest_span (pace_of n) + (sync_paths n made).delay)) in
      record {
        since = last_change made + capability_span (pace_of n);
        silent = suc (event.at + silence_span (pace_of n));
        leads = (settled, refl, inl (refl, inl (refl, inr (fails, refl, (gone, flight, refl)))));
        early = omega (arith, passed, over);
        over = omega arith;
      }
  fail_leads flight Starting settled fails = absurd settled
  fail_leads flight (Gained start) settled fails = record {
    since = start;
    silent = suc (event.at + silence_span (pace_of n));
    leads = (settled, refl, inl (refl, inl (refl, inr (fails, refl, (gone, flight, refl)))));
    early = omega (arith, settled);
    over = omega arith;
  }
  fail_leads flight (Heard start) settled fails = record {
    since = start;
    silent = suc (event.at + silence_span (pace_of n));
    leads = (settled, refl, inl (refl, inl (refl, inr (fails, refl, (gone, flight, refl)))));
    early = omega (arith, settled);
    over = omega arith;
  }
  fail_leads flight (Left ago silent) settled fails = absurd settled
  fail_leads flight (Turned silent now) settled fails = absurd settled
  fail_leads flight (Fallen silent now) settled fails = absurd settled
  fail_leads flight (TurnedTree silent now) settled fails = absurd settled
  fail_leads flight (Cleared ago begun silent right last) settled fails = absurd settled
  fail_leads flight (Aging ago aged silent) settled fails = absurd settled
  fail_leads flight (Split ago aged silent) settled fails = absurd settled
  fail_leads flight (Lost ago since most silent) settled fails = absurd settled
  fail_leads flight (Fewer ago since most silent) settled fails = absurd settled

-- after another such link goes down it is, once right traces are told
module _ (n : NetworkState) (made : List Timed) (event : Timed) (gone : ℕ)
    (flight : FlightIsGone n (made ++ event ∷ []) gone) where
  abbrev pub echo : ℕ
  echo = nearer_echo_span n (made ++ event ∷ [])

  pub record IsRightedBy (past : Past) : Type 0 where
    pub since : ℕ
    pub leads : EventLeads n made past event (Cleared made since since (event.at + 1 + echo) (event.at + echo + gone))
    pub early : since + way_span (sync_paths n made) ≤ event.at

  pub right_leads : (past : Past) → HasSettled n made past event.at → LowersCalm n made event → IsRightedBy past
  right_leads AnyPast settled lowers =
      let passed = settled.passed in
      let over = le-max_left (capability_span (pace_of n)) (2 * largest_interval (pace_of n)
      + (sync_paths n made).systems * (longest_span (pace_of n) + (sync_paths n made).delay)) in
      record {
        since = last_change made + capability_span (pace_of n);
        leads = (settled, refl, inl (refl, inr (lowers, refl, refl, (gone, flight, refl))));
        early = omega (arith, passed, over);
      }
  right_leads Starting settled lowers = absurd settled
  right_leads (Gained start) settled lowers = record {
    since = start;
    leads = (settled, refl, inl (refl, inr (lowers, refl, refl, (gone, flight, refl))));
    early = omega (arith, settled);
  }
  right_leads (Heard start) settled lowers = record {
    since = start;
    leads = (settled, refl, inl (refl, inr (lowers, refl, refl, (gone, flight, refl))));
    early = omega (arith, settled);
  }
  right_leads (Left ago silent) settled lowers = absurd settled
  right_leads (Turned silent now) settled lowers = absurd settled
  right_leads (Fallen silent now) settled lowers = absurd settled
  right_leads (TurnedTree silent now) settled lowers = absurd settled
  right_leads (Cleared ago begun silent right last) settled lowers = absurd settled
  right_leads (Aging ago aged silent) settled lowers = absurd settled
  right_leads (Split ago aged silent) settled lowers = absurd settled
  right_leads (Lost ago since most silent) settled lowers = absurd settled
  right_leads (Fewer ago since most silent) settled lowers = absurd settled

-- as a system fails that others hear it is, where each link that is up then is in use
module _ (n : NetworkState) (made : List Timed) (event : Timed) (aged silent : ℕ)
    (now : FailsNow n made event aged silent) (used : UpIsUsed n (made ++ event ∷ [])) where
  abbrev pub EchoesPower : Past → Type 0
  EchoesPower past = EventLeads n made past event
      (Cleared made event.at silent (event.at + 1 + nearer_echo_span n (made ++ event ∷ []))
      (event.at + nearer_echo_span n (made ++ event ∷ []) + (sync_paths n (made ++ event ∷ [])).delay))

  pub power_leads : (past : Past) → HasSettled n made past event.at → EchoesPower past
  power_leads AnyPast settled = (settled, refl, inr (aged, now, (used, refl, refl, refl)))
  power_leads Starting settled = absurd settled
  power_leads (Gained start) settled = (settled, refl, inr (aged, now, (used, refl, refl, refl)))
  power_leads (Heard start) settled = (settled, refl, inr (aged, now, (used, refl, refl, refl)))
  power_leads (Left ago start) settled = absurd settled
  power_leads (Turned start was) settled = absurd settled
  power_leads (Fallen start was) settled = absurd settled
  power_leads (TurnedTree start was) settled = absurd settled
  power_leads (Cleared ago begun start right last) settled = absurd settled
  power_leads (Aging ago gone start) settled = absurd settled
  power_leads (Split ago gone start) settled = absurd settled
  power_leads (Lost ago since most start) settled = absurd settled
  power_leads (Fewer ago since most start) settled = absurd settled

-- Else it goes on to age until the last link goes down of which an end has failed, at this time.
pub power_lead : (n : NetworkState) → IsNetwork n → (ago made now : List Timed) (other : Timed) (time aged silent : ℕ)
    → NothingLapses n.params
    → IsCalm n made → last_change made ≡ time → AllByRecursion (λ (t : Timed). t.at ≡ time) (other ∷ now)
    → EachEvent (IsDownToo n) made (other ∷ now) → UpIsUsed n (made ++ other ∷ now)
    → LeadOn n made (Aging ago aged silent) (other ∷ now)
    (Cleared ago time silent (time + 1 + nearer_echo_span n (made ++ other ∷ now))
    (time + nearer_echo_span n (made ++ other ∷ now) + (sync_paths n (made ++ other ∷ now)).delay))
power_lead n network ago made [] other time aged silent off calm last_then (at, none) (down, others) used =
    let last = Cleared ago time silent (time + 1 + nearer_echo_span n (made ++ other ∷ []))
    (time + nearer_echo_span n (made ++ other ∷ []) + (sync_paths n (made ++ other ∷ [])).delay) in (
      Aging ago aged silent,
      inl refl,
      last,
      (
        down_now n network off time made other calm last_then at down,
        refl,
        refl,
        (
          used,
          sym at,
          ap (λ t. t + 1 + nearer_echo_span n (made ++ other ∷ [])) (sym at),
          ap (λ t. t + nearer_echo_span n (made ++ other ∷ []) + (sync_paths n (made ++ other ∷ [])).delay) (sym at),
        ),
      ),
      refl,
    )
power_lead n network ago made (event ∷ now) other time aged silent off calm last_then (at, later) (down, others) used =
    let all : (made ++ other ∷ []) ++ event ∷ now ≡ made ++ other ∷ event ∷ now =
    append_assoc made (other ∷ []) (event ∷ now) in (
      Aging ago aged silent,
      inl refl,
      Aging ago aged silent,
      (down_now n network off time made other calm last_then at down, refl, refl, inl refl),
      subst (λ es. LeadOn n (made ++ other ∷ []) (Aging ago aged silent) (event ∷ now)
          (Cleared ago time silent (time + 1 + nearer_echo_span n es)
          (time + nearer_echo_span n es + (sync_paths n es).delay))) all
          (power_lead n network ago (made ++ other ∷ []) now event time aged silent off
          (down_calm n network off time made other down calm) (last_behind made other ∙ at) later others
          (subst (UpIsUsed n) (sym all) used)),
    )
