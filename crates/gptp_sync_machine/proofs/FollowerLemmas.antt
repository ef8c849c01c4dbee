-- The invariant of a system that follows its parent: it begins, every act keeps it, and what it gives.
use Rattle.std.proofs.Common.{◌≡◌, ◌⊎◌, ◌<◌, ◌++◌, ℕ, ℤ, List, [], ◌∷◌, Option, Some, None, sym, ap, subst, ◌∙◌, inl, inr, arith}
use Rattle.gptp_correction.specs.declared.correction.Relayed.{Relayed}
use Rattle.gptp_pdelay_machine.specs.Lanes.{LaneFrame, IsMute}
use Rattle.gptp_sync_machine.specs.Messages.{Message}
use Rattle.gptp_sync_machine.specs.Right.{FollowUpIsRight, follow_up_told, info_of}
use Rattle.gptp_sync_machine.specs.Follower.{Follower, IsSetting, FollowerSync, FollowerSetting, from}
use Rattle.gptp_sync_machine.specs.Flows.{Arrival, FramesFlow, TellsRight, arrival}
use Rattle.gptp_sync_machine.specs.Acts.{FollowerActs, FrameArrives, Knows, KnowsAnew, KnowsStill, FollowerWaits, hears, kept_at_ingress, others_send, parent_tells, relays}
use Rattle.gptp_sync_machine.specs.Invariant.{FollowerInvariant, IsJustSettled, IsKept, IsKnownRight}
use Rattle.gptp_sync_machine.proofs.FlowLemmas

module _ (k : FollowerSetting) (says : List ℕ → Message → Type 0) where
  -- what is known stays right
  known_still : (s s' : Follower) → KnowsStill s s' → IsKnownRight k s → IsKnownRight k s'
  known_still s s' still right info due known relay late =
      right info due (sym still.known ∙ known) (sym still.relay ∙ relay) late

  -- where what is known, if anything, is sent on a residence from now or earlier, and it isn't late yet, nothing is
  -- claimed of it
  known_early : (s s' : Follower) → s.time < from k → KnowsAnew k s s' → IsKnownRight k s'
  known_early s s' early anew info due known relay late =
      let by = (anew info due known relay).1 in absurd (omega (arith, early, by, late))

  -- where nothing is known nothing is claimed
  known_none : (s' : Follower) → s'.known ≡ None → IsKnownRight k s'
  known_none s' none info due known relay late = absurd (nothing (sym none ∙ known))
    where
      nothing : None ≡ Some info → ⊥
      nothing e = absurd cc

  -- what a Follow_Up tells is right, and is known from then on
  known_told : (s s' : Follower) (sequence : ℕ) (told : Relayed) (a : Arrival)
      → TellsRight k (Some a) sequence s.time told → Knows k told (k.stamps a.came) s s' → IsKnownRight k s'
  known_told s s' sequence told a is knows info due known relay late = rw one (record {
    sent = is.sent;
    came = is.came;
    heard = s.time;
    carried = is.carried;
    stay = knows.anew info due known relay;
    ingress = ap k.stamps then;
    right = is.right;
  })
    where
      one : info ≡ info_of told (k.stamps a.came)
      one = cc

      then : a.came ≡ is.came
      then = cc

  -- the state after an act, where the Sync that is kept is as it was
  same_kept : (a : Option Arrival) (now now' : Option FollowerSync) → now' ≡ now → IsKept k a now → IsKept k a now'
  same_kept a now now' e is = subst (λ n. IsKept k a n) (sym e) is

  -- what is in flight after an act
  flows_in : (a : Option Arrival) (lane lane' : List LaneFrame) → lane' ≡ lane → FramesFlow k says a lane
      → FramesFlow k says a lane'
  flows_in a lane lane' e flows = subst (λ fs. FramesFlow k says a fs) (sym e) flows

  -- the oldest frame arrives
  frame_arrived : (s s' : Follower) (act : FrameArrives k says s s') → FollowerInvariant k says s
      → FollowerInvariant k says s'
  frame_arrived s s' act inv =
      by_frame inv.arrival inv.is_kept
      (subst (λ fs. FramesFlow k says inv.arrival fs) act.was inv.flows)
    where
      -- the state after a frame that leaves what is kept
      unmoved : (a : Option Arrival) → IsKept k a s.kept → IsMute says act.front → FramesFlow k says a act.rest
          → FollowerInvariant k says s'
      unmoved a is mute flows =
          let still = act.hears.nothing mute in
          record {
            arrival = a;
            is_kept = same_kept a s.kept s'.kept still.kept is;
            flows = flows_in a act.rest s'.lane act.lane flows;
            known = known_still s s' still.still inv.known;
          }

      -- the state where no Sync is known to be kept
      unkept : FramesFlow k says None act.rest → IsKnownRight k s' → FollowerInvariant k says s'
      unkept flows known = record {
        arrival = None;
        is_kept = tt;
        flows = flows_in None act.rest s'.lane act.lane flows;
        known = known;
      }

      -- whatever it is
      anyway : act.front.due < from k → KnowsStill s s' ⊎ KnowsAnew k s s' → IsKnownRight k s'
      anyway old (inl still) = known_still s s' still inv.known
      anyway old (inr anew) = known_early s s' (omega (arith, old, act.now)) anew

      -- a Follow_Up
      told_or_none : (a : Arrival) (sequence : ℕ) (told : Relayed) → TellsRight k (Some a) sequence act.front.due told
          → Knows k told (k.stamps a.came) s s' ⊎ (s'.known ≡ None) → IsKnownRight k s'
      told_or_none a sequence told is (inl knows) =
          known_told s s' sequence told a (subst (λ t. TellsRight k (Some a) sequence t told) act.now is) knows
      told_or_none a sequence told is (inr none) = known_none s' none

      by_frame : (a : Option Arrival) → IsKept k a s.kept → FramesFlow k says a (act.front ∷ act.rest)
          → FollowerInvariant k says s'
      by_frame a is (inl (old, behind)) = unkept behind (anyway old act.hears.anyway)
      by_frame a is (inr (inl (mute, behind))) = unmoved a is mute behind
      by_frame a is (inr (inr (inl (sequence, said, behind)))) =
          let keeps = act.hears.sync sequence said in
          record {
            arrival = Some (arrival sequence act.front.due);
            is_kept = keeps.kept ∙ ap (λ t. Some (kept_at_ingress k.parent sequence (k.stamps t))) (sym act.now);
            flows = flows_in (Some (arrival sequence act.front.due)) act.rest s'.lane act.lane behind;
            known = known_still s s' keeps.still inv.known;
          }
      by_frame None is (inr (inr (inr (sequence, told, said, told_is, behind)))) = absurd (none told_is.kept_is)
        where
          none : {a : Arrival} → None ≡ Some a → ⊥
          none e = absurd cc
      by_frame (Some a) is (inr (inr (inr (sequence, told, said, told_is, behind)))) =
          let number : a.sequence ≡ sequence = number_is told_is.kept_is in
          unkept behind
          (told_or_none a sequence told told_is
          (act.hears.follow_up sequence told (k.stamps a.came) said
          (is ∙ ap (λ n. Some (kept_at_ingress k.parent n (k.stamps a.came))) number)))
        where
          number_is : {b : Arrival} → Some a ≡ Some b → a.sequence ≡ b.sequence
          number_is e = cc

  pub inv_kept : (s s' : Follower) → FollowerActs k says s s' → FollowerInvariant k says s → FollowerInvariant k says s'
  inv_kept s s' (hears act) inv = frame_arrived s s' act inv
  inv_kept s s' (parent_tells act) inv = record {
    arrival = inv.arrival;
    is_kept = same_kept inv.arrival s.kept s'.kept act.unmoved.kept inv.is_kept;
    flows = flows_in inv.arrival (s.lane ++ act.news) s'.lane act.lane
        (FlowLemmas.flows_append k says inv.arrival s.lane act.news
        (λ a. FlowLemmas.sync_flows k says s.time act.sequence act.told act.right a act.news act.in_time act.sent)
        inv.flows);
    known = known_still s s' act.unmoved.still inv.known;
  }
  inv_kept s s' (relays act) inv = record {
    arrival = inv.arrival;
    is_kept = same_kept inv.arrival s.kept s'.kept act.kept inv.is_kept;
    flows = flows_in inv.arrival s.lane s'.lane act.lane inv.flows;
    known = λ info due known relay late. absurd (no_timer due (sym act.relay ∙ relay));
  }
    where
      no_timer : (due : ℕ) → None ≡ Some due → ⊥
      no_timer due e = absurd cc
  inv_kept s s' (others_send act) inv = record {
    arrival = inv.arrival;
    is_kept = same_kept inv.arrival s.kept s'.kept act.unmoved.kept inv.is_kept;
    flows = flows_in inv.arrival (s.lane ++ act.news) s'.lane act.lane
        (FlowLemmas.flows_append k says inv.arrival s.lane act.news
        (λ a. FlowLemmas.flows_mute k says a act.news act.mute) inv.flows);
    known = known_still s s' act.unmoved.still inv.known;
  }

  pub inv_later : (s s' : Follower) → FollowerWaits s s' → FollowerInvariant k says s → FollowerInvariant k says s'
  inv_later s s' (time, on, is) inv = subst (λ (t : Follower). FollowerInvariant k says t) (sym is)
      (record { arrival = inv.arrival; is_kept = inv.is_kept; flows = inv.flows; known = inv.known })

  pub inv_begins : (s : Follower) → IsSetting k → IsJustSettled k s → FollowerInvariant k says s
  inv_begins s is fresh = record {
    arrival = None;
    is_kept = tt;
    flows = FlowLemmas.flows_old k says s.lane
        (λ f at. let by = fresh.lane f at in omega (arith, by, is.short));
    known = λ info due known relay late. (let by = fresh.relay due relay in absurd (omega (arith, by, late)));
  }

-- ---- a root that tells no time yet

module _ (k : FollowerSetting) (ahead : ℤ) (none : k.base ≡ None) (says : List ℕ → Message → Type 0) where
  abbrev based : FollowerSetting
  based = record k { base = Some ahead }

  -- nothing that it told is right yet
  nothing_right : (i : ℕ) (told : Relayed) (sent : ℕ) → FollowUpIsRight k.way k.phase k.base i told sent → ⊥
  nothing_right i told sent right = never (sym none ∙ right.base_is)
    where
      never : None ≡ Some right.ahead → ⊥
      never e = cc

  flows_on : (kept : Option Arrival) (fs : List LaneFrame) → FramesFlow k says kept fs → FramesFlow based says kept fs
  flows_on kept [] flows = tt
  flows_on kept (f ∷ fs) (inl (early, rest)) = inl (early, flows_on None fs rest)
  flows_on kept (f ∷ fs) (inr (inl (mute, rest))) = inr (inl (mute, flows_on kept fs rest))
  flows_on kept (f ∷ fs) (inr (inr (inl (sequence, said, rest)))) =
      inr (inr (inl (sequence, said, flows_on (Some (arrival sequence f.due)) fs rest)))
  flows_on kept (f ∷ fs) (inr (inr (inr (sequence, told, said, is_told, rest)))) =
      absurd (nothing_right k.place told is_told.sent is_told.right)

  kept_on : (a : Option Arrival) (now : Option FollowerSync) → IsKept k a now → IsKept based a now
  kept_on None now is = tt
  kept_on (Some a) now is = is

  pub base_comes : (s : Follower) → FollowerInvariant k says s → FollowerInvariant based says s
  base_comes s inv = record {
    arrival = inv.arrival;
    is_kept = kept_on inv.arrival s.kept inv.is_kept;
    flows = flows_on inv.arrival s.lane inv.flows;
    known = λ info due known relay late.
        (let i = inv.known info due known relay late in absurd (nothing_right k.place (follow_up_told info) i.sent
        i.right));
  }
