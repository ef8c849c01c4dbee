-- Worlds of documents since a loss that moved no system.
use Rattle.std.proofs.Common.{◌≡◌, ◌≤◌, ◌⊎◌, ◌*◌, ℕ, zero, suc, pred, true, false, Option, List, slice_get, sym, ap, subst, ◌∙◌, inl, inr, arith}
use Rattle.std.proofs.Math.Nat.{mul-le-mul_left, mul-le-mul_right}
use Rattle.gptp_lists.proofs.MappedLemmas.{alike, same_there}
use Rattle.gptp_graph.specs.Snapshot.{Snapshot}
use Rattle.gptp_links.specs.declared.bounds.Bounds.{Bounds}
use Rattle.gptp_scenario.specs.Calm.{IsCalm, IsUsed, NothingLapses}
use Rattle.gptp_scenario.specs.Change.{link_after}
use Rattle.gptp_scenario.specs.Network.{pace_of}
use Rattle.gptp_scenario.specs.declared.change.Timed.{Timed}
use Rattle.gptp_scenario.specs.declared.network.LinkSpec.{LinkSpec}
use Rattle.gptp_setup.specs.SettlingParams.{SettlingParams}
use Rattle.gptp_model.specs.Acts.{at}
use Rattle.gptp_model.specs.Course.{WasDone}
use Rattle.gptp_model.specs.Pending.{NothingBefore}
use Rattle.gptp_model.specs.Views.{IsNextAct}
use Rattle.gptp_model.specs.World.{WorldState}
use Rattle.gptp_model.specs.declared.station.Station.{Station}
use Rattle.gptp_world.specs.Transitions.{ActTrace}
use Rattle.gptp_world.proofs.SettlingInvariantLemmas.{next_octet}
use Rattle.gptp_network.specs.Document.{DocumentState}
use Rattle.gptp_invariants.specs.ChoiceCalm.{HaveQuietLinks}
use Rattle.gptp_invariants.specs.ChoiceSettled.{ChoiceStands, Settled}
use Rattle.gptp_invariants.specs.ChoiceSettlesAsMachine.{IsWorld}
use Rattle.gptp_invariants.specs.WorldBounded.{IsBoundedWorld}
use Rattle.gptp_invariants.specs.WorldNews.{AreSilentBy}
use Rattle.gptp_invariants.proofs.DelayUsedLinkLemmas.{receiver_lives}
use Rattle.gptp_theorem.specs.PlayedLaws.{IsPlayable}
use Rattle.gptp_theorem.specs.Reached.{channel_wire}
use Rattle.gptp_theorem.proofs.CalmLemmas.{quiet_stands}
use Rattle.gptp_theorem.proofs.CalmKeptLemmas.{no_change}
use Rattle.gptp_settling_time.specs.Losses.{NoneSilent, UpIsUsed}
use Rattle.gptp_settling_time.proofs.DueLemmas.{UpIsInUse}
use Rattle.gptp_settling_time.proofs.GainLemmas.{used_so}
use Rattle.gptp_settling_time.proofs.KeptToLemmas.{KeepsTo, keeps_act, keeps_later}
use Rattle.gptp_settling_time.proofs.LeftClaimedLemmas.{IsLeftAlways, left_acts, left_chooses, left_later, left_now, left_settles}
use Rattle.gptp_settling_time.proofs.WereSilentLemmas.{WereSilent, none_silent_from, were_act, were_later}

-- the way that is left is no longer
pub less_way : (systems fewer delay least : ℕ) → fewer ≤ systems → least ≤ delay
    → pred fewer * least ≤ pred systems * delay
less_way systems fewer delay least few is =
    let shorter = mul-le-mul_left (pred fewer) is in
    let less = mul-le-mul_right delay (by fewer systems few) in
    omega (arith, shorter, less)
  where
    by : (a b : ℕ) → a ≤ b → pred a ≤ pred b
    by zero b less = omega arith
    by (suc a) zero less = absurd (omega (arith, less))
    by (suc a) (suc b) less = omega (arith, less)

-- A world of a document after these events, the last of which was such a loss: what it holds fits the snapshot of
-- before, and ports without a link aren't capable from a time on.
pub record IsLeftTo (d : DocumentState) (ago events : List Timed) (silent : ℕ) (w : WorldState) : Type 0 where
  pub keeps : KeepsTo d events w
  pub before : Snapshot
  pub since : IsLeftAlways (pace_of d.network) before silent w
  pub were : WereSilent d.network ago w

-- no port is unanswered where each link that is up is in use
pub answered_in_use : (p : SettlingParams) (w : WorldState) → IsWorld p w → UpIsInUse w → (start : ℕ)
    → AreSilentBy p start w
answered_in_use p w world used start at s =
    let lives = receiver_lives w at.direction s.channel (used at.link s.channel s.here s.up) in
    let beyond = s.answering in
    let place = world.sound.wired.clocks at.answering lives.place beyond.station lives.at.station beyond.here
    lives.at.here (beyond.named ∙ sym lives.at.named) in
    let one = same_there w.stations lives.place beyond.station lives.at.station
    (ap (slice_get w.stations) (sym place) ∙ beyond.here) lives.at.here in
    let both : false ≡ true = sym beyond.failed ∙ ap (λ (x : Station). x.live) one ∙ lives.at.live in
    absurd cc

module _ (d : DocumentState) (events : List Timed) where
  -- each link that is up is in use
  pub up_in_use : (w : WorldState) → KeepsTo d events w → UpIsUsed d.network events → UpIsInUse w
  up_in_use w keeps used link channel here up =
      let (v, there, same) = alike (link_after events) channel_wire d.network.links w.net.channels
      (sym keeps.stands.links) link channel here in
      used_so d.network events w keeps.stands keeps.claim.world.sound channel
      (subst (IsUsed d.network.systems events) same (used link v there (ap (λ (x : LinkSpec). x.up) same ∙ up)))

  -- so no port is unanswered
  pub none_unanswered : (w : WorldState) → KeepsTo d events w → (start : ℕ) → UpIsUsed d.network events
      → AreSilentBy (pace_of d.network) start w
  none_unanswered w keeps start used =
      answered_in_use (pace_of d.network) w keeps.claim.world (up_in_use w keeps used) start

module _ (d : DocumentState) (ago events : List Timed) (silent : ℕ) where
  pub left_to_later : (w : WorldState) (time : ℕ) → w.time ≤ time → NothingBefore time w.net.pending
      → IsLeftTo d ago events silent w → IsLeftTo d ago events silent (at time w)
  left_to_later w time later first so = record {
    keeps = keeps_later d events w time later first so.keeps;
    before = so.before;
    since = left_later (pace_of d.network) so.before silent time w later first so.since;
    were = were_later d.network ago w time later so.were;
  }

  pub left_to_act : {F : Type 0} (answers : Bounds → ℕ → F → Option ℕ → F → Type 0) (t : ActTrace) (fate drawn : F)
      (w : WorldState) → IsNextAct w t.told.timed → WasDone answers t.told.timed fate drawn w t.after t.told.done
      → IsLeftTo d ago events silent w → IsLeftTo d ago events silent t.after
  left_to_act answers t fate drawn w next was so =
      let timed = t.told.timed in
      let p = pace_of d.network in
      let then = left_later p so.before silent timed.at w was.ready.timely.now was.ready.timely.first so.since in
      record {
        keeps = keeps_act d events answers t fate drawn w next was so.keeps;
        before = so.before;
        since = left_acts p so.before silent timed.act (at timed.at w) was.draws t.told.done t.after
            (no_change next.item timed.act w next.act) (next_octet next.item timed.act w next.act) was.acts then;
        were = were_act d ago events answers t fate drawn w next was so.keeps so.were;
      }

  module _ (w : WorldState) (so : IsLeftTo d ago events silent w) (playable : IsPlayable d)
      (calm : IsCalm d.network events) (off : NothingLapses d.network.params) where
    quiet : HaveQuietLinks (pace_of d.network).params w
    quiet = (quiet_stands d.network events w playable.network so.keeps.stands so.keeps.claim.world.sound calm).links

    -- its choice stands
    pub left_to_chooses : ChoiceStands w
    left_to_chooses = left_chooses (pace_of d.network) so.before silent w so.since quiet off

    -- it has settled
    pub left_to_settled : (silent ≤ w.time) ⊎ NoneSilent d.network ago events → Settled w × IsBoundedWorld w
    left_to_settled (inl late) = left_settles (pace_of d.network) so.before silent w so.since quiet off late
    left_to_settled (inr none) =
        left_settles (pace_of d.network) so.before w.time w
        (left_now (pace_of d.network) so.before silent w so.since
        (none_silent_from d ago events w so.keeps so.were none w.time)) quiet off (omega arith)
