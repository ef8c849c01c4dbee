-- The setting of a system that follows is that of its world: clocks, the bounds of its link, and the residence.
use Rattle.std.proofs.Common.{◌≡◌, ℕ, ℤ, suc, sym, ap, ◌∙◌, subst}
use Rattle.gptp_graph.specs.Snapshot.{Snapshot}
use Rattle.gptp_pdelay.specs.Clock.{local_clock}
use Rattle.gptp_setup.specs.SettlingParams.{SettlingParams}
use Rattle.gptp_system.specs.State.{local_time, stamp_time}
use Rattle.gptp_model.specs.World.{WorldState, sender}
use Rattle.gptp_error_laws.specs.TimeError.{WayLink}
use Rattle.gptp_sync_machine.specs.Follower.{IsSetting, FollowerSetting, own_clock}
use Rattle.gptp_sync_machine.specs.Follower as followers
use Rattle.gptp_sync_machine.specs.Tree.{Parts, last_link}
use Rattle.gptp_sync_machine.specs.TreeLaws.{ArePartsOf, AreStampsOf}
use Rattle.gptp_sync_machine.proofs.TreeLemmas.{way_ends_at_parent, way_leads_to, ways_are_settings}
use Rattle.gptp_invariants.specs.SyncFollowers.{HasWay, IsFollower, follower_clock, follower_setting, parent_link, follower_parts, follower_state, stamps_of}
use Rattle.gptp_invariants.specs.DelayLinkView.{LinkPlace}
use Rattle.gptp_invariants.specs.WorldStanding.{snapshot_of}
use Rattle.gptp_invariants.specs.SyncTimed.{IsSettledFrom}
use Rattle.gptp_invariants.specs.ChoiceView.{port_identity_number}
use Rattle.gptp_invariants.proofs.SyncFollowPartLemmas.{bound_is, clock_shown, parts_fit, clock_stamped, stamps_read}

module _ (p : SettlingParams) (settled longest : ℕ) (w : WorldState) (is : IsSettledFrom p settled longest w)
    (at : LinkPlace)
    (f : IsFollower at w) (steps : ℕ) (h : HasWay p.params at w f steps) where
  abbrev x : Parts
  x = follower_parts p.params w

  abbrev g : Snapshot
  g = snapshot_of w

  abbrev number : ℕ
  number = follower_clock at w f

  abbrev k : FollowerSetting
  k = follower_setting p.params settled longest at w f steps h

  pub fit : ArePartsOf x longest
  fit = parts_fit p.params w longest is.pace.params.ranges.params is.world.sound.wired.setups is.short

  -- what it is set up with is that of the network
  set : f.own.station.setup.params ≡ p.params
  set = (is.world.known.set at.answering f.own.station f.own.here).starts.params

  -- its time stamps are of its clock
  taken : AreStampsOf x number h.stamps
  taken =
      subst (AreStampsOf x number) (sym h.stamped)
      (subst (λ n. AreStampsOf x n (stamps_of w.stations n)) f.own.named
      (stamps_read p.params w is.world.sound.wired.clocks is.world.sound.wired.setups at.answering f.own.station
      f.own.here set))

  pub is_setting : IsSetting k
  is_setting =
      ways_are_settings x g steps number settled longest h.stamps
      (port_identity_number (sender at.direction f.channel)) h.way h.phase _ fit
      h.is taken

  pub residence_is : k.way.residence ≡ p.params.residence
  residence_is = (way_ends_at_parent.common x g (suc steps) number h.way h.phase h.is).2

  -- the clock of the system, and of the one above it
  pub own_shown : (t : ℕ) → local_time (follower_state at w f) t ≡ own_clock k t
  own_shown t =
      clock_shown p.params w is.world.sound is.measured at.answering f.own.station f.own.here t
      ∙ ap (λ n. local_clock (x.phase n) (x.drift n) t) f.own.named
      ∙ sym (way_leads_to.own x g (suc steps) number t h.way h.phase h.is)

  -- and the time stamps of that of the system
  pub own_stamped : (t : ℕ) → stamp_time (follower_state at w f) t ≡ k.stamps t
  own_stamped t =
      clock_stamped w is.world.sound is.measured at.answering f.own.station f.own.here t
      ∙ ap (λ n. stamps_of w.stations n t) f.own.named
      ∙ ap (λ (stamps : ℕ → ℤ). stamps t) (sym h.stamped)

  -- the bounds of its link
  link_is : followers.parent_link k ≡ last_link x number (parent_link at.direction f.channel)
  link_is = way_ends_at_parent.link x g steps number (parent_link at.direction f.channel) h.way h.phase f.parent h.is

  pub most_is : (followers.parent_link k).most ≡ f.channel.bounds.max
  most_is =
      ap (λ (l : WayLink). l.most) link_is
      ∙ bound_is (λ b. b.max) w is.world.sound is.world.encodable at.link at.direction f.channel f.here f.used

  pub least_is : (followers.parent_link k).least ≡ f.channel.bounds.min
  least_is =
      ap (λ (l : WayLink). l.least) link_is
      ∙ bound_is (λ b. b.min) w is.world.sound is.world.encodable at.link at.direction f.channel f.here f.used
