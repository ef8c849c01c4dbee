-- What a system that follows its parent tells others, and its offset.
use Rattle.std.proofs.Common.{◌≡◌, ◌≤◌, ◌<◌, ◌+◌, ◌*◌, ◌^◌, ℕ, suc, ℤ, ◌-ℤ◌, List, ◌∷◌, Option, Some, None, refl, sym, ap, subst, ◌∙◌, inl, inr, arith}
use Rattle.gptp_graph.specs.Snapshot.{PortIdentity}
use Rattle.gptp_pdelay.specs.Clock.{IsTime}
use Rattle.gptp_scaled.specs.Counts.{AreWithin}
use Rattle.gptp_correction.specs.declared.correction.Relayed.{Relayed}
use Rattle.gptp_correction.specs.declared.sync_in.SyncInfo.{SyncInfo}
use Rattle.gptp_correction.specs.Correction.{bridge, carried, carried_on, sync_received, relayed, BridgeFits}
use Rattle.gptp_pdelay_machine.specs.Lanes.{LaneFrame}
use Rattle.gptp_pdelay_machine.specs.Setting.{IsByMost}
use Rattle.gptp_error_laws.specs.TimeError.{jitter_at, time_error_at}
use Rattle.gptp_sync_machine.specs.Messages.{Message, Sync, FollowUp, IsOneMessage}
use Rattle.gptp_sync_machine.specs.Right.{IsHeldAt, IsMeasuredAt, FollowUpIsRight, at_rate, info_of, most_correction_at, root_time, follow_up_told}
use Rattle.gptp_sync_machine.specs.RightLaws.{IsOnWay}
use Rattle.gptp_sync_machine.specs.Follower.{Follower, IsSetting, FollowerSync, FollowerSetting, from, parent_link, own_clock, root_told}
use Rattle.gptp_sync_machine.specs.Flows.{AreCarried, Arrival, FramesFlow, TellsRight}
use Rattle.gptp_sync_machine.specs.Acts.{kept_at_ingress}
use Rattle.gptp_sync_machine.specs.Invariant.{FollowerInvariant, IsInformed, IsKept}
use Rattle.gptp_sync_machine.specs.FollowerLaws.{IsParentOf, RootTells}
use Rattle.gptp_sync_machine.proofs.RightLemmas.{bridge_numbers_fit, bridge_tells_right, offset_is_right, right_stays, root_tells_right}

pub root_tells : RootTells
root_tells k ahead said stamp rest sent first told near split =
    subst (λ i. FollowUpIsRight k.way k.phase k.base i (root_time stamp rest) sent) (sym first)
    (subst (λ base. FollowUpIsRight k.way k.phase base 0 (root_time stamp rest) sent) (sym told)
    (root_tells_right k.way k.phase ahead said stamp rest sent near split))

-- what comes to those that follow the system when it is right there was heard when what comes is right here
parents_time : (k k' : FollowerSetting) (time : ℕ) → IsSetting k' → IsParentOf k k'
    → from k' ≤ time + (parent_link k').most
    → from k + k.way.residence ≤ time
parents_time k k' time is' parent late =
    let before : from k' ≡ k.settled + suc (suc k.place) * (k.longest + k.way.residence) = rw
    (parent.way, parent.place, parent.settled, parent.longest) refl in
    let short = is'.short in
    omega (arith, late, before, short, parent.longest)

-- what is known was told on the way
on_way : (k : FollowerSetting) (told : Relayed) (sent came heard : ℕ) → IsSetting k → AreCarried k sent came heard
    → FollowUpIsRight k.way k.phase k.base k.place told sent → IsOnWay k.way k.phase k.base k.place told sent came
on_way k told sent came heard is carried right = record {
  documented = is.documented;
  on_way = is.on_way;
  long = carried.long;
  short = omega (arith, carried.behind, carried.short);
  right = right;
}

module _ (k : FollowerSetting) (says : List ℕ → Message → Type 0) where
  -- the stay of what is known and sent on
  stays : (info : SyncInfo) (due : ℕ) (i : IsInformed k info due)
      → IsByMost i.came due (k.way.residence + jitter_at k.way k.place)
  stays info due i =
      let carried = i.carried in
      let stay = i.stay in
      (omega (arith, carried.behind, stay.0), omega (arith, carried.long, carried.short, stay.1))

  -- what is known is what was told, and the time stamp of the own clock as the Sync came
  info_is : (info : SyncInfo) (due : ℕ) (held : ℤ) (i : IsInformed k info due)
      → info_of (at_rate (follow_up_told info) held) (k.stamps i.came) ≡ record info { rate = held }
  info_is info due held i = ap (λ t. info_of (at_rate (follow_up_told info) held) t) (sym i.ingress)

  -- what is known and sent on is right as it is sent
  pub relay_tells_right : (s : Follower) (info : SyncInfo) (rate delay held : ℤ) → IsSetting k
      → FollowerInvariant k says s
      → s.known ≡ Some info → s.relay ≡ Some s.time → from k + k.way.residence ≤ s.time
      → IsMeasuredAt k.way k.place rate delay → IsHeldAt k.way k.place info.rate rate held
      → let used = record info { rate = held } in
      FollowUpIsRight k.way k.phase k.base (suc k.place) (relayed used (bridge used delay rate (k.stamps s.time)))
      s.time
  relay_tells_right s info rate delay held is inv known relay late measured at =
      let i = inv.known info s.time known relay late in
      let right = bridge_tells_right k.way k.phase k.base k.place k.stamps (follow_up_told info) i.sent i.came s.time
      rate delay held is.read
      (on_way k (follow_up_told info) i.sent i.came i.heard is i.carried i.right) measured (stays info s.time i) at in
      subst (λ (x : SyncInfo). FollowUpIsRight k.way k.phase k.base (suc k.place)
      (relayed x (bridge x delay rate (k.stamps s.time))) s.time) (info_is info s.time held i) right

  pub parents_numbers_fit : (s : Follower) (info : SyncInfo) (rate delay held : ℤ) → IsSetting k
      → FollowerInvariant k says s
      → s.known ≡ Some info → s.relay ≡ Some s.time → from k + k.way.residence ≤ s.time
      → IsMeasuredAt k.way k.place rate delay → IsHeldAt k.way k.place info.rate rate held
      → most_correction_at k.way (suc k.place) < 2 ^ 63
      → ((t : ℕ) → t ≤ s.time → IsTime (k.stamps t))
      → let used = record info { rate = held } in
      let hop = bridge used delay rate (k.stamps s.time) in
      BridgeFits hop (carried_on (carried used) hop)
  parents_numbers_fit s info rate delay held is inv known relay late measured at short shown =
      let i = inv.known info s.time known relay late in
      let stay = stays info s.time i in
      let fits = bridge_numbers_fit k.way k.phase k.base k.place k.stamps (follow_up_told info) i.sent i.came s.time
      rate delay held is.read
      (on_way k (follow_up_told info) i.sent i.came i.heard is i.carried i.right) measured stay at short
      (shown i.came stay.0) (shown s.time (omega arith)) in
      subst (λ (x : SyncInfo). BridgeFits (bridge x delay rate (k.stamps s.time))
      (carried_on (carried x) (bridge x delay rate (k.stamps s.time)))) (info_is info s.time held i) fits

  pub parent_tells_right : (k' : FollowerSetting) (s : Follower) (info : SyncInfo) (rate delay held : ℤ)
      → IsSetting k → IsSetting k' → IsParentOf k k' → FollowerInvariant k says s
      → s.known ≡ Some info → s.relay ≡ Some s.time → from k' ≤ s.time + (parent_link k').most
      → IsMeasuredAt k.way k.place rate delay → IsHeldAt k.way k.place info.rate rate held
      → let used = record info { rate = held } in
      FollowUpIsRight k'.way k'.phase k'.base k'.place (relayed used (bridge used delay rate (k.stamps s.time)))
      s.time
  parent_tells_right k' s info rate delay held is is' parent inv known relay late measured at =
      let used : SyncInfo = record info { rate = held } in
      let right = relay_tells_right s info rate delay held is inv known relay
      (parents_time k k' s.time is' parent late) measured at in
      let there = right_stays k.way parent.link k.phase k'.phase k.base (suc k.place)
      (relayed used (bridge used delay rate (k.stamps s.time))) s.time (omega (arith, parent.end)) parent.root
      right in
      rw (parent.way, parent.place, parent.base) there

  pub offset_is_exact : (s : Follower) (front : LaneFrame) (rest : List LaneFrame) (source : PortIdentity)
      (sequence : ℕ) (told : Relayed) (ingress rate delay held : ℤ)
      → IsSetting k → FollowerInvariant k says s
      → s.lane ≡ front ∷ rest → front.due ≡ s.time → from k ≤ s.time
      → IsOneMessage says front.octets (FollowUp source sequence told)
      → s.kept ≡ Some (kept_at_ingress source sequence ingress) → IsMeasuredAt k.way k.place rate delay
      → IsHeldAt k.way k.place told.rate rate held
      → (ahead : ℤ) × (k.base ≡ Some ahead) × AreWithin (time_error_at k.way (suc k.place))
      (ingress -ℤ sync_received (info_of (at_rate told held) ingress) delay rate)
      (own_clock k s.time -ℤ root_told k ahead s.time)
  offset_is_exact s front rest source sequence told ingress rate delay held is inv was now late one keeps measured
      held_at =
      by_frame inv.arrival inv.is_kept (subst (λ fs. FramesFlow k says inv.arrival fs) was inv.flows)
    where
      Claim : Type 0
      Claim = (ahead : ℤ) × (k.base ≡ Some ahead) × AreWithin (time_error_at k.way (suc k.place))
          (ingress -ℤ sync_received (info_of (at_rate told held) ingress) delay rate)
          (own_clock k s.time -ℤ root_told k ahead s.time)

      -- of what was told as it was sent
      exact : (told' : Relayed) (a : Arrival) → told' ≡ told → ingress ≡ k.stamps a.came
          → (sequence' : ℕ) → TellsRight k (Some a) sequence' s.time told' → Claim
      exact told' a e at sequence' t =
          let came : a.came ≡ t.came = came_is t.kept_is in
          let then : k.stamps t.came ≡ ingress = ap k.stamps (sym came) ∙ sym at in
          let carried = t.carried in
          let right = offset_is_right k.way k.phase k.base k.place k.stamps told t.sent t.came s.time rate delay held
          is.read (on_way k told t.sent t.came s.time is carried
          (subst (λ (m : Relayed). FollowUpIsRight k.way k.phase k.base k.place m t.sent) e t.right)) measured held_at
          carried.behind
          carried.short in (
            right.0,
            right.1,
            subst (λ x. AreWithin (time_error_at k.way (suc k.place))
                (x -ℤ sync_received (info_of (at_rate told held) x) delay rate)
                (own_clock k s.time -ℤ root_told k right.0 s.time)) then right.2,
          )
        where
          came_is : {c : Arrival} → Some a ≡ Some c → a.came ≡ c.came
          came_is e = cc

      by_frame : (a : Option Arrival) → IsKept k a s.kept → FramesFlow k says a (front ∷ rest) → Claim
      by_frame a at (inl (old, behind)) = absurd (omega (arith, old, now, late))
      by_frame a at (inr (inl (mute, behind))) = absurd (mute (FollowUp source sequence told) one.said)
      by_frame a at (inr (inr (inl (sequence', said, behind)))) =
          absurd (other (one.only (Sync k.parent sequence') said))
        where
          other : Sync k.parent sequence' ≡ FollowUp source sequence told → ⊥
          other e = absurd cc
      by_frame None at (inr (inr (inr (sequence', told', said, is_told, behind)))) = absurd (none is_told.kept_is)
        where
          none : {a : Arrival} → None ≡ Some a → ⊥
          none e = absurd cc
      by_frame (Some a) at (inr (inr (inr (sequence', told', said, is_told, behind)))) =
          exact told' a (told_is (one.only (FollowUp k.parent sequence' told') said)) (ingress_is (sym keeps ∙ at))
          sequence' (subst (λ t. TellsRight k (Some a) sequence' t told') now is_told)
        where
          told_is : FollowUp k.parent sequence' told' ≡ FollowUp source sequence told → told' ≡ told
          told_is e = cc

          ingress_is : Some (kept_at_ingress source sequence ingress) ≡ Some
              (kept_at_ingress k.parent a.sequence (k.stamps a.came))
              → ingress ≡ k.stamps a.came
          ingress_is e =
              let same : kept_at_ingress source sequence ingress ≡ kept_at_ingress k.parent a.sequence
              (k.stamps a.came) = cc in
              ap (λ (sync : FollowerSync). sync.ingress) same
