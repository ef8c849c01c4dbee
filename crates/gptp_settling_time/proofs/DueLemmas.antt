-- When what is in flight is due: by an announce interval, or by the greatest delay of a link in use.
use Rattle.std.proofs.Common.{◌≡◌, ◌⊎◌, ◌<◌, ◌≤◌, ◌+◌, ℕ, max, pred, true, Some, slice_get, sym, ap, subst, ◌∙◌, inl, inr, arith}
use Rattle.gptp_lists.specs.Members.{In}
use Rattle.gptp_graph.specs.Snapshot.{Joins}
use Rattle.gptp_setup.specs.SettlingParams.{SettlingParams, largest_interval}
use Rattle.gptp_model.specs.Sound.{IsSound}
use Rattle.gptp_model.specs.World.{Channel, WorldState}
use Rattle.gptp_bmca_machine.specs.Frame.{Announce, AnnounceFrame, Lane}
use Rattle.gptp_bmca_machine.specs.LossLaws.{IsAfterLoss}
use Rattle.gptp_bmca_machine.specs.Network.{Network}
use Rattle.gptp_bmca_machine.proofs.SettledLemmas.{since_grows}
use Rattle.gptp_invariants.specs.ChoiceCalm.{delay_in}
use Rattle.gptp_invariants.specs.ChoiceSettlesAsMachine.{IsWorld}
use Rattle.gptp_invariants.specs.ChoiceView.{says_announce, view}
use Rattle.gptp_invariants.specs.WorldStanding.{channel_is_used, live_stations, snapshot_of}
use Rattle.gptp_invariants.proofs.ChoiceCalmFactLemmas.{frame_from}
use Rattle.gptp_invariants.proofs.DelayLimitLemmas.{in_queue}
use Rattle.gptp_invariants.proofs.WorldDueLemmas.{frames_on_links}
use Rattle.gptp_invariants.proofs.WorldWayLemmas.{used_joins}
use Rattle.gptp_settling_time.proofs.SettledSeenLemmas.{IsSettledSeen}
use Rattle.gptp_settling_time.proofs.ReducedLemmas.{IsReduced}
use Rattle.gptp_settling_time.proofs.SinceSetLemmas.{AreLimitedBy, arrive_limit}
use Rattle.gptp_lists.proofs.MappedLemmas.{alike}
use Rattle.gptp_model.proofs.BareLemmas.{bare}
use Rattle.gptp_invariants.proofs.ChoiceCalmKeptLemmas.{KeepsNetwork, delay_kept}

-- each Announce in flight is due by this time
abbrev pub AreDueBy : ℕ → WorldState → Type 0
AreDueBy old w = (j : ℕ) (l : Lane) (f : AnnounceFrame) (a : Announce) → slice_get (view w).lanes j ≡ Some l
    → In f l.frames → says_announce f.octets a → f.due ≤ old

-- so it is where lanes are emptied, and nothing else enters them
pub due_reduced : (old : ℕ) (w w' : WorldState) → IsReduced (view w) (view w') → AreDueBy old w → AreDueBy old w'
due_reduced old w w' less due j l f a there member said = elim (less.lanes j l there) [
  | inl stood ↦ due j l f a stood member said
  | inr (none, down) ↦ absurd (subst (In f) none member)
]

-- by an announce interval
pub due_by_interval : (p : SettlingParams) (w : WorldState) → IsWorld p w → AreDueBy (w.time + largest_interval p) w
due_by_interval p w is j l f a there member said =
    let at = frame_from w j l f there member in
    subst (λ (x : AnnounceFrame). x.due ≤ w.time + largest_interval p) (sym at.is)
    ((is.known.near at.link at.channel at.here).dues at.direction at.frame at.among)

-- each link that is up is in use
abbrev pub UpIsInUse : WorldState → Type 0
UpIsInUse w = (link : ℕ) (channel : Channel) → slice_get w.net.channels link ≡ Some channel → channel.up ≡ true
    → channel_is_used (live_stations w.stations) channel ≡ true

-- then what is in flight comes over links in use
pub in_use_joins : (w : WorldState) → IsSound w → UpIsInUse w → (j : ℕ) (l : Lane) (f : AnnounceFrame)
    → slice_get (view w).lanes j ≡ Some l → In f l.frames → Joins (snapshot_of w) l.from l.to
in_use_joins w sound used j l f there member =
    let at = frame_from w j l f there member in
    let up = frames_on_links w sound at.link at.direction at.channel at.frame at.here at.among in
    subst (λ (x : Lane). Joins (snapshot_of w) x.from x.to) (sym at.lane_is)
    (used_joins w at.link at.direction at.channel at.here (used at.link at.channel at.here up))

-- and it is due within the greatest delay
pub flies_soon : (p : SettlingParams) (w : WorldState) → IsWorld p w → IsSettledSeen p w → UpIsInUse w → (j : ℕ)
    (l : Lane) (f : AnnounceFrame) → slice_get (view w).lanes j ≡ Some l → In f l.frames → f.due ≤ w.time + delay_in w
flies_soon p w is seen used j l f there member = by (seen.calm.facts.fresh j l f there member joins)
  where
    joins : Joins seen.n.graph l.from l.to
    joins = subst (λ h. Joins h l.from l.to) (sym seen.graph) (in_use_joins w is.sound used j l f there member)

    by : (f.due ≤ w.time + seen.n.most) ⊎ (f.due < seen.n.start) → f.due ≤ w.time + delay_in w
    by (inl soon) = let most = seen.most in omega (arith, soon, most)
    by (inr old) =
        let left = seen.calm.left j l f there member in
        let begun = seen.net.begun in
        let grows = since_grows seen.n 0 (pred seen.n.reach) (omega arith) in
        let late = seen.late in
        absurd (omega (arith, old, left, begun, grows, late))

pub due_by_delay : (p : SettlingParams) (w : WorldState) → IsWorld p w → IsSettledSeen p w → UpIsInUse w
    → AreDueBy (w.time + delay_in w) w
due_by_delay p w is seen used j l f a there member said = flies_soon p w is seen used j l f there member

-- no link that is up takes longer than this
abbrev pub UpIsWithinIn : ℕ → WorldState → Type 0
UpIsWithinIn most w = (link : ℕ) (channel : Channel) → slice_get w.net.channels link ≡ Some channel → channel.up ≡ true
    → channel.bounds.max ≤ most

-- then all that is in flight is due as soon, once that is gone which was in flight as a link was set
pub due_within : (most gone old : ℕ) (w : WorldState) → IsSound w → UpIsWithinIn most w → AreLimitedBy gone w
    → gone ≤ old → w.time + most ≤ old → AreDueBy old w
due_within most gone old w sound within limited arrived later j l f a there member said =
    let at = frame_from w j l f there member in
    let up = frames_on_links w sound at.link at.direction at.channel at.frame at.here at.among in
    let short : at.channel.bounds.max ≤ most = within at.link at.channel at.here up in
    let soon : at.frame.due ≤ max (w.time + at.channel.bounds.max) gone =
    in_queue (arrive_limit gone w.time) w.time at.direction at.channel (limited at.link at.channel at.here) at.frame
    at.among in
    subst (λ (x : AnnounceFrame). x.due ≤ old) (sym at.is) (omega (arith, soon, short, arrived, later))

-- both stay so as long as the network stays
pub within_kept : (most : ℕ) (w w' : WorldState) → KeepsNetwork w w' → UpIsWithinIn most w → UpIsWithinIn most w'
within_kept most w w' k within link channel here up =
    let (old, there, same) = alike bare bare w.net.channels w'.net.channels (sym k.links) link channel here in
    let short = within link old there (ap (λ (c : Channel). c.up) same ∙ up) in
    let one : old.bounds.max ≡ channel.bounds.max = ap (λ (c : Channel). c.bounds.max) same in
    omega (arith, short, one)

pub use_kept : (w w' : WorldState) → KeepsNetwork w w' → UpIsInUse w → UpIsInUse w'
use_kept w w' k used link channel here up =
    let (old, there, same) = alike bare bare w.net.channels w'.net.channels (sym k.links) link channel here in
    ap (λ s. channel_is_used s channel) k.systems
    ∙ ap (channel_is_used (live_stations w.stations)) (sym same)
    ∙ used link old there (ap (λ (c : Channel). c.up) same ∙ up)

-- ---- what was in flight at a time

-- What was in flight at a time is gone by another: an announce interval later; the greatest delay later, where each
-- link that is up is in use; or as much later as no link that is up takes longer than, once that has arrived which was
-- in flight as a link was last set.
abbrev pub IsGoneBy : SettlingParams → (ℕ → Type 0) → ℕ → ℕ → WorldState → Type 0
IsGoneBy p Limits start old w =
    (start + largest_interval p ≤ old)
    ⊎ ((UpIsInUse w × (start + delay_in w ≤ old))
    ⊎ ((most : ℕ) × UpIsWithinIn most w × (limit : ℕ) × Limits limit × (limit ≤ old) × (start + most ≤ old)))

pub gone_kept : (p : SettlingParams) (Limits : ℕ → Type 0) (start old : ℕ) (w w' : WorldState) → KeepsNetwork w w'
    → IsGoneBy p Limits start old w → IsGoneBy p Limits start old w'
gone_kept p Limits start old w w' k (inl interval) = inl interval
gone_kept p Limits start old w w' k (inr (inl (used, delay))) =
    inr (inl (use_kept w w' k used, subst (λ most. start + most ≤ old) (sym (delay_kept w w' k)) delay))
gone_kept p Limits start old w w' k (inr (inr (most, within, limit, is_limit, before, delay))) =
    inr (inr (most, within_kept most w w' k within, limit, is_limit, before, delay))

-- so it is due by then
module _ (p : SettlingParams) (Limits : ℕ → Type 0) (start old : ℕ) (w : WorldState) (n : Network) (is : IsWorld p w)
    (kept : IsAfterLoss n (view w)) (graph : snapshot_of w ≡ n.graph) (greatest : n.most ≡ delay_in w)
    (limited : (limit : ℕ) → Limits limit → AreLimitedBy limit w) (early : w.time ≤ start) where
  pub gone_due : IsGoneBy p Limits start old w → AreDueBy old w
  gone_due (inl interval) j l f a at among said =
      let due = due_by_interval p w is j l f a at among said in omega (arith, interval, early, due)
  gone_due (inr (inl (used, delay))) j l f a at among said = elim (kept.calm.facts.fresh j l f at among
      (subst (λ h. Joins h l.from l.to) graph (in_use_joins w is.sound used j l f at among))) [
        | inl due ↦ omega (arith, delay, early, due, greatest)
        | inr older ↦
            let left = kept.calm.left j l f at among in
            let begun = kept.begun in
            absurd (omega (arith, older, left, begun))
      ]
  gone_due (inr (inr (most, within, limit, is_limit, before, delay))) j l f a at among said =
      due_within most limit old w is.sound within (limited limit is_limit) before (omega (arith, delay, early)) j l f a
      at among said
