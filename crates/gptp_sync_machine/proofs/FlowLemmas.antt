-- What frames in flight bring: mute ones, a Sync with its Follow_Up, and those after others.
use Rattle.std.proofs.Common.{◌≡◌, ◌⊎◌, ◌≤◌, ◌<◌, ◌+◌, ◌++◌, ℕ, List, [], ◌∷◌, Option, Some, None, refl, inl, inr, arith}
use Rattle.std.proofs.lemmas.Bool.{cases_lt}
use Rattle.gptp_lists.specs.Members.{In}
use Rattle.gptp_correction.specs.declared.correction.Relayed.{Relayed}
use Rattle.gptp_pdelay_machine.specs.Lanes.{LaneFrame, AreMute, FirstIs}
use Rattle.gptp_pdelay_machine.proofs.LaneLemmas.{mute_rest}
use Rattle.gptp_sync_machine.specs.Messages.{Message, FollowUp}
use Rattle.gptp_sync_machine.specs.Right.{FollowUpIsRight}
use Rattle.gptp_sync_machine.specs.Follower.{FollowerSetting, from, parent_link}
use Rattle.gptp_sync_machine.specs.Flows.{Arrival, FramesFlow, arrival}
use Rattle.gptp_sync_machine.specs.Acts.{AreSentInTime, SendsTime}

module _ (k : FollowerSetting) (says : List ℕ → Message → Type 0) where
  -- mute frames bring nothing
  pub flows_mute : (kept : Option Arrival) (fs : List LaneFrame) → AreMute says fs → FramesFlow k says kept fs
  flows_mute kept [] mute = tt
  flows_mute kept (f ∷ fs) mute =
      inr (inl (mute f (inl refl), flows_mute kept fs (mute_rest says f fs mute)))

  -- frames that are due before what comes is right may bring anything
  pub flows_old : (fs : List LaneFrame) → ((f : LaneFrame) → In f fs → f.due < from k) → FramesFlow k says None fs
  flows_old [] old = tt
  flows_old (f ∷ fs) old = inl (old f (inl refl), flows_old fs (λ g at. old g (inr at)))

  -- what is brought where no Sync is known to be kept is brought whichever is
  pub flows_any : (kept : Option Arrival) (fs : List LaneFrame) → FramesFlow k says None fs → FramesFlow k says kept fs
  flows_any kept [] flows = tt
  flows_any kept (f ∷ fs) (inl old) = inl old
  flows_any kept (f ∷ fs) (inr (inl (mute, behind))) = inr (inl (mute, flows_any kept fs behind))
  flows_any kept (f ∷ fs) (inr (inr (inl sync))) = inr (inr (inl sync))
  flows_any kept (f ∷ fs) (inr (inr (inr (sequence, told, said, is, behind)))) = absurd (none is.kept_is)
    where
      none : {a : Arrival} → None ≡ Some a → ⊥
      none e = absurd cc

  -- more frames after, which bring what is right whichever Sync is kept then
  pub flows_append : (kept : Option Arrival) (fs news : List LaneFrame)
      → ((kept : Option Arrival) → FramesFlow k says kept news) → FramesFlow k says kept fs
      → FramesFlow k says kept (fs ++ news)
  flows_append kept [] news more flows = more kept
  flows_append kept (f ∷ fs) news more (inl (old, behind)) = inl (old, flows_append None fs news more behind)
  flows_append kept (f ∷ fs) news more (inr (inl (mute, behind))) =
      inr (inl (mute, flows_append kept fs news more behind))
  flows_append kept (f ∷ fs) news more (inr (inr (inl (sequence, said, behind)))) =
      inr (inr (inl (sequence, said, flows_append (Some (arrival sequence f.due)) fs news more behind)))
  flows_append kept (f ∷ fs) news more (inr (inr (inr (sequence, told, said, is, behind)))) =
      inr (inr (inr (sequence, told, said, is, flows_append None fs news more behind)))

  -- a Follow_Up that was sent now after its Sync
  module _ (time sequence : ℕ) (told : Relayed)
      (right : from k ≤ time + (parent_link k).most → FollowUpIsRight k.way k.phase k.base k.place told time) where
    -- the first that isn't mute is the Follow_Up
    follow_up_flows : (came : ℕ) → time + (parent_link k).least ≤ came → (fs : List LaneFrame)
        → ((f : LaneFrame) → In f fs → came ≤ f.due) → ((f : LaneFrame) → In f fs → f.due ≤ time + (parent_link k).most)
        → FirstIs says (λ (f : LaneFrame). says f.octets (FollowUp k.parent sequence told)) (AreMute says) fs
        → FramesFlow k says (Some (arrival sequence came)) fs
    follow_up_flows came long [] behind short first = absurd first
    follow_up_flows came long (f ∷ fs) behind short (inr (mute, later)) =
        inr (inl (mute, follow_up_flows came long fs (λ g at. behind g (inr at)) (λ g at. short g (inr at)) later))
    follow_up_flows came long (f ∷ fs) behind short (inl (said, mute)) =
        by_time (cases_lt f.due (from k))
      where
        by_time : (f.due < from k) ⊎ (from k ≤ f.due) → FramesFlow k says (Some (arrival sequence came)) (f ∷ fs)
        by_time (inl old) = inl (old, flows_mute None fs mute)
        by_time (inr late) = inr (inr (inr (
          sequence,
          told,
          said,
          record {
            sent = time;
            came = came;
            kept_is = refl;
            carried = record { long = long; behind = behind f (inl refl); short = short f (inl refl) };
            right = right (let by : f.due ≤ time + (parent_link k).most = short f (inl refl)
                in omega (arith, by, late));
          },
          flows_mute None fs mute,
        )))

    -- the first that isn't mute is the Sync, and after it the Follow_Up
    pub sync_flows : (kept : Option Arrival) (fs : List LaneFrame) → AreSentInTime k time fs
        → SendsTime says k.parent sequence told fs → FramesFlow k says kept fs
    sync_flows kept [] in_time first = absurd first
    sync_flows kept (f ∷ fs) in_time (inr (mute, later)) =
        inr (inl (
          mute,
          sync_flows kept fs
              (record {
                long = λ g at. in_time.long g (inr at);
                short = λ g at. in_time.short g (inr at);
                order = in_time.order.1;
              })
              later,
        ))
    sync_flows kept (f ∷ fs) in_time (inl (said, follow_up)) =
        inr (inr (inl (
          sequence,
          said,
          follow_up_flows f.due (in_time.long f (inl refl)) fs in_time.order.0
              (λ g at. in_time.short g (inr at)) follow_up,
        )))
