-- Events of a time that take something away lead a network that has settled to one that has lost.
use Rattle.std.proofs.Common.{List, [], arith, inl, inr, refl, subst, suc, sym, ℕ, ◌*◌, ◌++◌, ◌+◌, ◌∷◌, ◌≡◌, ◌≤◌, ◌⊎◌}
use Rattle.std.specs.List.{AllByRecursion}
use Rattle.std.proofs.Math.Nat.{le-max_left, le-max_right}
use Rattle.gptp_setup.specs.SettlingParams.{SettlingParams, largest_interval, longest_span}
use Rattle.gptp_scenario.specs.Calm.{IsCalm, NothingLapses}
use Rattle.gptp_scenario.specs.Network.{IsNetwork, NetworkState, pace_of}
use Rattle.gptp_scenario.specs.SettlingTime.{loss_span, silence_span}
use Rattle.gptp_scenario.specs.SyncWait.{sync_paths}
use Rattle.gptp_scenario.specs.declared.change.Act.{Act}
use Rattle.gptp_scenario.specs.declared.change.Act.TheVariants.{Deliver, Expire, Change as Changing}
use Rattle.gptp_scenario.specs.declared.change.Change.TheVariants.{LinkDown, LinkUp, LinkSet, Fail, Recover, Priority1, Inject}
use Rattle.gptp_scenario.specs.declared.change.Timed.{Timed}
use Rattle.gptp_scenario.specs.declared.sync_wait.SyncPaths.{SyncPaths}
use Rattle.gptp_settling_time.specs.HowSoon.{BoundsAnyLoss, EachEvent, IsLossToo, LosesEvents, RestsAfterAnyLoss, RolesAfterLoss, delay_between}
use Rattle.gptp_settling_time.specs.Pasts.{Heard, Lost, Past}
use Rattle.gptp_settling_time.specs.Leads.{AreUsedSince}
use Rattle.gptp_settling_time.specs.InTurn.{LeadOn}
use Rattle.gptp_settling_time.specs.Losses.{AreSilentAfter, LosesAny, NoneSilent}
use Rattle.gptp_settling_time.proofs.CalmStillLemmas.{idle_calm}
use Rattle.gptp_settling_time.proofs.LeadOnLemmas.{IsLed, idle_leads, idle_settled, makes_nothing, same_paths, since}
use Rattle.gptp_settling_time.proofs.SettledPastLemmas.{HasSettled}
use Rattle.gptp_settling_time.proofs.LossLeadLemmas.{loses_leads}
use Rattle.gptp_settling_time.proofs.UsedSinceLemmas.{idle_since}

-- ---- from when on ports aren't capable beside what fails

-- by this time, where the event takes something away
abbrev pub IsSilencedBy : NetworkState → ℕ → List Timed → Timed → Type 0
IsSilencedBy n silent made event =
    LosesAny n made event.act → AreSilentAfter (pace_of n) event.at silent event.act

module _ (n : NetworkState) (made : List Timed) (time : ℕ) where
  abbrev p : SettlingParams
  p = pace_of n

  -- once too many requests are lost, whatever it is
  pub long_silent : (act : Act) → AreSilentAfter p time (suc (time + silence_span p)) act
  long_silent (Changing (Fail number)) = omega arith
  long_silent (Changing (LinkDown number port)) = omega arith
  long_silent (Changing (LinkUp number port)) = omega arith
  long_silent (Changing (LinkSet number port min max loss)) = omega arith
  long_silent (Changing (Recover number)) = omega arith
  long_silent (Changing (Priority1 number value)) = omega arith
  long_silent (Changing (Inject number port octets)) = omega arith
  long_silent (Deliver link direction) = omega arith
  long_silent (Expire number timer) = omega arith

-- ---- the events lead on

module _ (n : NetworkState) (time : ℕ) where
  abbrev pub AreNow : List Timed → Type 0
  AreNow = AllByRecursion (λ (t : Timed). t.at ≡ time)

  pub long_silenced : (made now : List Timed) → AreNow now
      → EachEvent (IsSilencedBy n (suc (time + silence_span (pace_of n)))) made now
  long_silenced made [] at = tt
  long_silenced made (event ∷ now) (here, at) = (
    λ loses. subst (λ t. AreSilentAfter (pace_of n) t (suc (time + silence_span (pace_of n))) event.act) (sym here)
        (long_silent n made time event.act),
    long_silenced (made ++ event ∷ []) now at,
  )

  module _ (network : IsNetwork n) (off : NothingLapses n.params) (ago : List Timed) (most silent : ℕ) where
    abbrev lost : Past
    lost = Lost ago time most silent

    -- one has taken something away, and the others do or make nothing of what stands
    more_lead : (made now : List Timed) → AreNow now → EachEvent (IsLossToo n) made now
        → EachEvent (IsSilencedBy n silent) made now → LeadOn n made lost now lost
    more_lead made [] at each quiet = refl
    more_lead made (event ∷ now) (here, at) (inl loses, each) (silenced, quiet) = (
      lost,
      inl refl,
      lost,
      (inl (record { more = inl (loses, silenced loses); now = here }), refl, refl, refl, refl),
      more_lead (made ++ event ∷ []) now at each quiet,
    )
    more_lead made (event ∷ now) (here, at) (inr idle, each) (silenced, quiet) = (
      lost,
      inl refl,
      lost,
      (
        inl (record { more = inr (makes_nothing n made event time (omega (arith, here)) off idle); now = here }),
        refl,
        refl,
        refl,
        refl,
      ),
      more_lead (made ++ event ∷ []) now at each quiet,
    )

    -- such come first that make nothing of what stands
    pub losing_lead : (made now : List Timed) (past : Past) → AreNow now → HasSettled n made past time → IsCalm n made
        → (sync_paths n made).delay ≤ most → AreUsedSince n ago made → LosesEvents n made now
        → EachEvent (IsSilencedBy n silent) made now
        → LeadOn n made past now lost
    losing_lead made [] past at settled calm less used none quiet = absurd none
    losing_lead made (event ∷ now) past (here, at) settled calm less used (inl (loses, each)) (silenced, quiet) = (
      past,
      inl refl,
      lost,
      loses_leads n made event past ago time most silent (subst (HasSettled n made past) (sym here) settled) used
          (record {
            loses = loses;
            calm = calm;
            off = off;
            now = sym here;
            delay = less;
            unanswered = silenced loses;
          }),
      more_lead (made ++ event ∷ []) now at each quiet,
    )
    losing_lead made (event ∷ now) past (here, at) settled calm less used (inr (idle, others)) (silenced, quiet) =
        let then = subst (HasSettled n made past) (sym here) settled in
        let start : ℕ = since n made event network off in
        let stays = same_paths n made event network off (inl idle) in (
          past,
          inl refl,
          Heard start,
          idle_leads n made event network off (inl idle) past then,
          losing_lead (made ++ event ∷ []) now (Heard start) at
              (subst (HasSettled n (made ++ event ∷ []) (Heard start)) here
              (idle_settled n made event network off (inl idle) past then))
              (idle_calm n network off made event idle calm)
              (subst (λ (x : SyncPaths). x.delay ≤ most) (sym stays) less)
              (λ place v there now_used.
              used place v there (idle_since n network made event idle place v there now_used))
              others quiet,
        )

-- ---- what the events ask for

-- By them the network has lost. Its choice stands after the span of a loss, and roles do once ports without a link
-- aren't capable.
pub record LosesBy (n : NetworkState) (time : ℕ) (made now : List Timed) (past : Past) (choice roles : ℕ) : Type 0
  where
    pub most : ℕ
    pub silent : ℕ
    pub lead : LeadOn n made past now (Lost made time most silent)
    pub span : choice ≡ loss_span (pace_of n) (sync_paths n (made ++ now)) most
    pub more : choice ≤ roles
    pub quiet : (silent ≤ suc (time + roles)) ⊎ NoneSilent n made (made ++ now)

module _ (n : NetworkState) (time : ℕ) (network : IsNetwork n) (off : NothingLapses n.params) (made now : List Timed)
    (past : Past) (at : AreNow n time now) (settled : HasSettled n made past time) (calm : IsCalm n made) where
  pub loses_by : (choice roles : ℕ) → BoundsAnyLoss n made now choice roles
      → LosesBy n time made now past choice roles
  loses_by choice roles (any, is_choice, after) = by after
    where
      most : ℕ
      most = delay_between n made now

      lost_by : (silent : ℕ) → EachEvent (IsSilencedBy n silent) made now → choice ≤ roles
          → (silent ≤ suc (time + roles)) ⊎ NoneSilent n made (made ++ now) → LosesBy n time made now past choice roles
      lost_by silent silenced more quiet = record {
        most = most;
        silent = silent;
        lead = losing_lead n time network off made most silent made now past at settled calm
            (le-max_left (sync_paths n made).delay (sync_paths n (made ++ now)).delay) (λ place v there used. used) any
            silenced;
        span = is_choice;
        more = more;
        quiet = quiet;
      }

      by : RolesAfterLoss n made now choice roles → LosesBy n time made now past choice roles
      by (inl (none, same)) =
          lost_by (suc (time + silence_span (pace_of n))) (long_silenced n time made now at) (omega (arith, same))
          (inr none)
      by (inr is_roles) =
          let one = le-max_left choice (silence_span (pace_of n)) in
          let other = le-max_right choice (silence_span (pace_of n)) in
          lost_by (suc (time + silence_span (pace_of n))) (long_silenced n time made now at)
          (omega (arith, is_roles, one)) (inl (omega (arith, is_roles, other)))

  -- and then it has come to rest
  pub any_rests : (rest : ℕ) → RestsAfterAnyLoss n made now rest → IsLed n made now past (suc (time + rest))
  any_rests rest (choice, bounds) =
      let x = loses_by choice rest bounds in
      let span = x.span in
      let more = x.more in
      let paths = sync_paths n (made ++ now) in
      let start : ℕ = suc (time + paths.systems * (longest_span (pace_of n) + x.most) + largest_interval (pace_of n)) in
      record {
        last = Lost made time x.most x.silent;
        lead = x.lead;
        settles = (
          Heard start,
          inr (
            start,
            refl,
            record {
              off = off;
              later = omega arith;
              unlinked = x.quiet;
              over = omega (arith, span, more);
            },
          ),
          omega (arith, span, more),
        );
      }
