-- The example's states are a run.
use Rattle.std.proofs.Common.{◌≡◌, ◌≤◌, ◌+◌, ◌++◌, ℕ, zero, suc, ℤ, pos, List, [], ◌∷◌, Some, refl, sym, ap, ◌∙◌, inl, inr, arith}
use Rattle.std.proofs.lemmas.Int.{ints}
use Rattle.gptp_lists.specs.Members.{In}
use Rattle.gptp_pdelay.specs.Clock.{IsDrift}
use Rattle.gptp_pdelay.proofs.ClockLemmas.{clock_is_read}
use Rattle.gptp_correction.specs.declared.correction.Relayed.{Relayed}
use Rattle.gptp_correction.specs.declared.sync_in.SyncInfo.{SyncInfo}
use Rattle.gptp_pdelay_machine.specs.Lanes.{LaneFrame}
use Rattle.gptp_pdelay_machine.proofs.LaneLemmas.{no_frames_mute}
use Rattle.gptp_error_laws.specs.TimeError.{drift_at}
use Rattle.gptp_error_laws.specs.Examples.{two_links_way}
use Rattle.gptp_error_laws.specs.WayLaws.{shown_at}
use Rattle.gptp_sync_machine.specs.Messages.{Message, Sync, FollowUp, IsOneMessage}
use Rattle.gptp_sync_machine.specs.Right.{IsHeldAt, IsMeasuredAt, FollowUpIsRight, info_of}
use Rattle.gptp_sync_machine.specs.Follower.{Follower, IsSetting, FollowerSync, FollowerSetting, from, parent_link}
use Rattle.gptp_sync_machine.specs.Acts.{FollowerHears, ParentTells, hears, kept_at_ingress, parent_tells, relays}
use Rattle.gptp_sync_machine.specs.Invariant.{IsJustSettled}
use Rattle.gptp_sync_machine.specs.FollowerLaws.{IsParentOf}
use Rattle.gptp_sync_machine.specs.Runs.{IsFollowerRun}
use Rattle.gptp_sync_machine.specs.Example.{SyncAndFollowUp, at_bridge, at_slave, came, coming, delay, example_due, follow_up_due, example_follow_up_frame, from_bridge, from_root, going_on, heard, info, known, rate, ready, relay_due, says, sync, sync_due, sync_frame, sync_kept, example_told, SyncOverTwoLinks}
use Rattle.gptp_sync_machine.proofs.RunLemmas.{runs_keep_inv}
use Rattle.gptp_sync_machine.proofs.TellingLemmas.{parent_tells_right, root_tells}

module _ (k : FollowerSetting) (speaks : List ℕ → Message → Type 0) (x : SyncAndFollowUp)
    (order : (parent_link k).least ≤ (parent_link k).most)
    (one_sync : IsOneMessage speaks x.sync (Sync k.parent x.sequence))
    (one_follow_up : IsOneMessage speaks x.follow_up (FollowUp k.parent x.sequence x.told)) where
  -- the parent sends both
  tells : (from k ≤ x.sent + (parent_link k).most → FollowUpIsRight k.way k.phase k.base k.place x.told x.sent)
      → ParentTells k speaks (ready k x) (example_told k x)
  tells right = record {
    unmoved = record { kept = refl; still = record { known = refl; relay = refl } };
    sequence = x.sequence;
    told = x.told;
    news = sync_frame k x ∷ example_follow_up_frame k x ∷ [];
    lane = refl;
    sent = inl (one_sync.said, inl (one_follow_up.said, no_frames_mute speaks));
    in_time = record { long = long; short = short; order = (behind, (λ g at. absurd at, tt)) };
    right = right;
  }
    where
      long : (f : LaneFrame) → In f (sync_frame k x ∷ example_follow_up_frame k x ∷ [])
          → x.sent + (parent_link k).least ≤ f.due
      long f (inl e) = let is = ap (λ (g : LaneFrame). g.due) e in omega (arith, is)
      long f (inr (inl e)) = let is = ap (λ (g : LaneFrame). g.due) e in omega (arith, is, order)
      long f (inr (inr at)) = absurd at

      short : (f : LaneFrame) → In f (sync_frame k x ∷ example_follow_up_frame k x ∷ [])
          → f.due ≤ x.sent + (parent_link k).most
      short f (inl e) = let is = ap (λ (g : LaneFrame). g.due) e in omega (arith, is, order)
      short f (inr (inl e)) = let is = ap (λ (g : LaneFrame). g.due) e in omega (arith, is)
      short f (inr (inr at)) = absurd at

      behind : (g : LaneFrame) → In g (example_follow_up_frame k x ∷ []) → came k x ≤ g.due
      behind g (inl e) = let is = ap (λ (h : LaneFrame). h.due) e in omega (arith, is, order)
      behind g (inr at) = absurd at

  -- the Sync comes
  hears_sync : FollowerHears k speaks x.sync (sync_due k x) (sync_kept k x)
  hears_sync = record {
    nothing = λ none. absurd (none (Sync k.parent x.sequence) one_sync.said);
    sync = λ sequence says. record {
      kept = ap (λ n. Some (kept_at_ingress k.parent n (k.stamps (came k x))))
          (sym (same sequence (one_sync.only _ says)));
      still = record { known = refl; relay = refl };
    };
    follow_up = λ sequence example_told ingress says is. absurd (other sequence example_told (one_sync.only _ says));
    anyway = inl (record { known = refl; relay = refl });
  }
    where
      same : (sequence : ℕ) → Sync k.parent sequence ≡ Sync k.parent x.sequence → sequence ≡ x.sequence
      same sequence e = cc

      other : (sequence : ℕ) (example_told : Relayed)
          → FollowUp k.parent sequence example_told ≡ Sync k.parent x.sequence → ⊥
      other sequence example_told e = absurd cc

  -- and the Follow_Up
  hears_follow_up : FollowerHears k speaks x.follow_up (follow_up_due k x) (known k x)
  hears_follow_up = record {
    nothing = λ none. absurd (none (FollowUp k.parent x.sequence x.told) one_follow_up.said);
    sync = λ sequence says. absurd (other sequence (one_follow_up.only _ says));
    follow_up = λ sequence example_told ingress says is. inl (record {
      known = ap (λ (m : Relayed). Some (info_of m (k.stamps (came k x))))
          (sym (same sequence example_told (one_follow_up.only _ says)))
          ∙ ap (λ t. Some (info_of example_told t)) (came_then sequence ingress is);
      anew = anew;
    });
    anyway = inr anew;
  }
    where
      other : (sequence : ℕ) → Sync k.parent sequence ≡ FollowUp k.parent x.sequence x.told → ⊥
      other sequence e = absurd cc

      same : (sequence : ℕ) (example_told : Relayed)
          → FollowUp k.parent sequence example_told ≡ FollowUp k.parent x.sequence x.told
          → example_told ≡ x.told
      same sequence example_told e = cc

      came_then : (sequence : ℕ) (ingress : ℤ) → Some (sync k x) ≡ Some (kept_at_ingress k.parent sequence ingress)
          → k.stamps (came k x) ≡ ingress
      came_then sequence ingress e =
          let one : sync k x ≡ kept_at_ingress k.parent sequence ingress = cc
          in ap (λ (s : FollowerSync). s.ingress) one

      anew : (i : SyncInfo) (t : ℕ) → Some (info k x) ≡ Some i → Some (example_due k x) ≡ Some t
          → (heard k x ≤ t) × (t ≤ heard k x + k.way.residence)
      anew i t e is = let same : example_due k x ≡ t = cc in (omega (arith, same), omega (arith, same))

  -- the states are a run
  pub comes : (rest : List Follower)
      → (from k ≤ x.sent + (parent_link k).most → FollowUpIsRight k.way k.phase k.base k.place x.told x.sent)
      → IsFollowerRun k speaks (follow_up_due k x) rest → IsFollowerRun k speaks (ready k x) (coming k x ++ rest)
  comes rest right on = (
    inr (parent_tells (tells right)),
    (
      inl (came k x, omega arith, refl),
      (
        inr (hears (record {
          front = sync_frame k x;
          rest = example_follow_up_frame k x ∷ [];
          was = refl;
          now = refl;
          lane = refl;
          hears = hears_sync;
        })),
        (inl (heard k x, omega (arith, order), refl), on),
      ),
    ),
  )

  pub goes_on : IsFollowerRun k speaks (follow_up_due k x) (going_on k x)
  goes_on = (
    inr (hears (record {
      front = example_follow_up_frame k x;
      rest = [];
      was = refl;
      now = refl;
      lane = refl;
      hears = hears_follow_up;
    })),
    (
      inl (example_due k x, omega arith, refl),
      (inr (relays (record { now = refl; kept = refl; lane = refl; relay = refl })), tt),
    ),
  )

  -- nothing is in flight or known before
  pub begins : IsJustSettled k (ready k x)
  begins = record { lane = λ f at. absurd at; relay = λ t is. absurd cc }

-- what is said by these octets
says_one : (octets : List ℕ) (m : Message) → says octets m → IsOneMessage says octets m
says_one octets m is = record { said = is; only = λ other too. same other (sym is ∙ too) }
  where
    same : (other : Message) → Some m ≡ Some other → other ≡ m
    same other e = cc

drifts : (i : ℕ) → i ≤ 2 → IsDrift (drift_at two_links_way i)
drifts zero h = record { low = omega (arith, ints); high = omega (arith, ints) }
drifts (suc zero) h = record { low = omega (arith, ints); high = omega (arith, ints) }
drifts (suc (suc zero)) h = record { low = omega (arith, ints); high = omega (arith, ints) }
drifts (suc (suc (suc i))) h = absurd (omega (arith, h))

bridge_drifts : (i : ℕ) → i ≤ 1 → IsDrift (drift_at at_bridge.way i)
bridge_drifts zero h = record { low = omega (arith, ints); high = omega (arith, ints) }
bridge_drifts (suc zero) h = record { low = omega (arith, ints); high = omega (arith, ints) }
bridge_drifts (suc (suc i)) h = absurd (omega (arith, h))

bridge_is : IsSetting at_bridge
bridge_is = record {
  documented = record { little = omega arith; long = omega arith; waits = omega arith; drifts = bridge_drifts };
  on_way = omega arith;
  short = omega arith;
  read = clock_is_read 0 0 0 (drift_at at_bridge.way 1) (omega arith);
}

slave_is : IsSetting at_slave
slave_is = record {
  documented = record { little = omega arith; long = omega arith; waits = omega arith; drifts = drifts };
  on_way = omega arith;
  short = omega arith;
  read = clock_is_read 0 0 0 (drift_at at_slave.way 2) (omega arith);
}

parent_is : IsParentOf at_bridge at_slave
parent_is = record {
  link = record { least = 390; most = 410; drift = pos 0 };
  way = refl;
  end = refl;
  place = refl;
  root = refl;
  base = refl;
  settled = refl;
  longest = refl;
}

bridge_measures : IsMeasuredAt at_bridge.way 0 rate delay
bridge_measures = record {
  limited = record { low = omega (arith, ints); high = omega (arith, ints) };
  rate_within = record { low = omega (arith, ints); high = omega (arith, ints) };
  delay_within = record { value = 26214401; is = refl; low = omega arith; high = omega arith };
}

slave_measures : IsMeasuredAt at_slave.way 1 rate delay
slave_measures = record {
  limited = record { low = omega (arith, ints); high = omega (arith, ints) };
  rate_within = record { low = omega (arith, ints); high = omega (arith, ints) };
  delay_within = record { value = 26214401; is = refl; low = omega arith; high = omega arith };
}

bridge_comes : IsFollowerRun at_bridge says (ready at_bridge from_root)
    (coming at_bridge from_root ++ going_on at_bridge from_root)
bridge_comes = comes at_bridge says from_root (omega arith) (says_one (0 ∷ []) _ refl) (says_one (1 ∷ []) _ refl)
    (going_on at_bridge from_root) (λ late.
    root_tells at_bridge (pos 0) (shown_at at_bridge.way at_bridge.phase 0 from_root.sent)
    (record { seconds = 2; nanos = 0 }) 0 from_root.sent refl refl
    (record { low = omega (arith, ints); high = omega (arith, ints) })
    (record { stamp = record { seconds = omega arith; nanos = omega arith }; small = omega arith; whole = refl }))
    (goes_on at_bridge says from_root (omega arith) (says_one (0 ∷ []) _ refl) (says_one (1 ∷ []) _ refl))

bridge_adds : IsHeldAt at_bridge.way 0 from_root.told.rate rate from_root.told.rate
bridge_adds = record { fits = omega (arith, ints); nearest = inl refl }

-- what the bridge sends on is right
bridge_right : FollowUpIsRight at_slave.way at_slave.phase at_slave.base at_slave.place from_bridge.told
    from_bridge.sent
bridge_right = parent_tells_right at_bridge says at_slave (relay_due at_bridge from_root) (info at_bridge from_root)
    rate delay from_root.told.rate bridge_is slave_is parent_is
    (runs_keep_inv at_bridge says (ready at_bridge from_root) (relay_due at_bridge from_root)
    (coming at_bridge from_root ++ going_on at_bridge from_root) bridge_is
    (begins at_bridge says from_root (omega arith) (says_one (0 ∷ []) _ refl) (says_one (1 ∷ []) _ refl))
    bridge_comes (inr (inr (inr (inr (inr (inr (inl refl))))))))
    refl refl (omega arith) bridge_measures bridge_adds

pub sync_over_two_links : SyncOverTwoLinks
sync_over_two_links = record {
  bridge_setting = bridge_is;
  slave_setting = slave_is;
  parent = parent_is;
  bridge_fresh = begins at_bridge says from_root (omega arith) (says_one (0 ∷ []) _ refl) (says_one (1 ∷ []) _ refl);
  slave_fresh = begins at_slave says from_bridge (omega arith) (says_one (2 ∷ []) _ refl)
      (says_one (3 ∷ []) _ refl);
  bridge_measures = bridge_measures;
  slave_measures = slave_measures;
  bridge_run = bridge_comes;
  bridge_adds = bridge_adds;
  slave_adds = record { fits = omega (arith, ints); nearest = inl refl };
  slave_run = comes at_slave says from_bridge (omega arith) (says_one (2 ∷ []) _ refl) (says_one (3 ∷ []) _ refl) []
      (λ late. bridge_right) tt;
  late = omega arith;
  one = says_one (3 ∷ []) _ refl;
  offset = refl;
  error = refl;
}
