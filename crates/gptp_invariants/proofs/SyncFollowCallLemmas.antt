-- A call, seen at a system that follows and at its parent: whose call it is, and what is sent onto the lane.
use Rattle.std.proofs.Common.{◌≡◌, ◌≢◌, ◌⊎◌, ◌+◌, ◌≤◌, ℕ, List, [], ◌∷◌, ◌++◌, refl, sym, ap, ◌∙◌, inl, inr}
use Rattle.gptp_lists.specs.Members.{In}
use Rattle.gptp_links.specs.Fate.{Draw}
use Rattle.gptp_links.specs.Queue.{Frame}
use Rattle.gptp_lists.proofs.MappedLemmas.{same_there}
use Rattle.gptp_system.specs.declared.answer.Answer.{Answer}
use Rattle.gptp_system.specs.declared.sending.Sending.{Sending}
use Rattle.gptp_system.specs.Input.{Input}
use Rattle.gptp_system.specs.State.{SystemState}
use Rattle.gptp_model.proofs.SteadyLemmas.{same_clock}
use Rattle.gptp_model.specs.Act.{Calls, in_state}
use Rattle.gptp_model.specs.declared.station.Station.{Station}
use Rattle.gptp_model.specs.Sound.{AreApart, HaveOwnClocks}
use Rattle.gptp_model.specs.World.{WorldState, world_queue, receiver, sender}
use Rattle.gptp_invariants.specs.SyncFollowers.{IsFollower, state_above, follower_state}
use Rattle.gptp_invariants.specs.DelayLinkView.{LinkPlace}
use Rattle.gptp_invariants.specs.ChoiceSaid.{said_at}
use Rattle.gptp_invariants.specs.WorldStanding.{live_stations}
use Rattle.gptp_invariants.proofs.ChoiceCalmKeptLemmas.{KeepsNetwork}
use Rattle.gptp_invariants.proofs.SyncFollowLaneLemmas.{LaneGrows, call_lane}
use Rattle.gptp_invariants.proofs.SyncFollowTreeLemmas.{FollowedBefore, WasBefore, followed_before, was_before}
use Rattle.gptp_invariants.proofs.DelayLinkLemmas.{none_said}
use Rattle.gptp_invariants.proofs.DelaySentLemmas.{octets_of}
use Rattle.gptp_invariants.proofs.WorldStandsLemmas.{used_up}

-- The system followed before. The call is its own, or it is as it was. After what was in flight to it stands what the
-- system that was called says at the port of the parent, where the parent is the one.
pub record CallSeen (at : LinkPlace) (w w' : WorldState) (f' : IsFollower at w') (place : ℕ) (s s' : SystemState)
    (sends : List Sending) : Type 0 where
  pub before : IsFollower at w
  pub a : f'.channel.a ≡ before.channel.a
  pub b : f'.channel.b ≡ before.channel.b
  pub bounds : f'.channel.bounds ≡ before.channel.bounds
  pub own : ((at.answering ≡ place) × (follower_state at w before ≡ s) × (follower_state at w' f' ≡ s'))
      ⊎ ((at.answering ≢ place) × (follower_state at w' f' ≡ follower_state at w before))
  pub above : at.asking ≡ place → state_above at w before ≡ s
  pub news : List Frame
  pub queue_is : world_queue at.direction f'.channel ≡ world_queue at.direction before.channel ++ news
  pub said : octets_of news ≡ said_at s' (sender at.direction before.channel) sends
  pub quiet : at.asking ≢ place → news ≡ []
  pub late : (f : Frame) → In f news → w.time + before.channel.bounds.min ≤ f.due

none_new : (news : List Frame) → octets_of news ≡ [] → news ≡ []
none_new [] none = refl
none_new (f ∷ news) none = absurd cc

module _ (place : ℕ) (input : Input) (w : WorldState) (draws : List Draw) (answer : Answer) (w' : WorldState)
    (k : Calls place input w draws answer w') (keeps : KeepsNetwork w w') (clocks : HaveOwnClocks w)
    (apart : AreApart w) (at : LinkPlace) (f' : IsFollower at w')
    (ends : f'.channel.a ≢ f'.channel.b) where
  above_was : WasBefore place input w draws answer w' k at.asking (sender at.direction f'.channel).clock f'.above
  above_was = was_before place input w draws answer w' k at.asking (sender at.direction f'.channel).clock f'.above

  own_was : WasBefore place input w draws answer w' k at.answering (receiver at.direction f'.channel).clock f'.own
  own_was = was_before place input w draws answer w' k at.answering (receiver at.direction f'.channel).clock f'.own

  was : FollowedBefore at w w' f' above_was.before own_was.before
  was = followed_before at w w' f' keeps above_was.before own_was.before

  abbrev old : IsFollower at w
  old = was.before

  grows : LaneGrows w.time at.link at.direction old.channel
      (said_at k.after (sender at.direction old.channel) k.sends) w'
  grows =
      call_lane place input w draws answer w' k at.link at.direction old.channel apart
      (λ e. ends (was.a ∙ e ∙ sym was.b)) old.here
      (used_up (live_stations w.stations) old.channel old.used) old.lossless

  new_is : grows.new ≡ f'.channel
  new_is = same_there w'.net.channels at.link grows.new f'.channel grows.here f'.here

  own_by : ((at.answering ≡ place) × (own_was.before.station ≡ k.station)
      × (f'.own.station ≡ in_state k.after k.station))
      ⊎ ((at.answering ≢ place) × (f'.own.station ≡ own_was.before.station))
      → ((at.answering ≡ place) × (follower_state at w old ≡ k.station.system) × (follower_state at w' f' ≡ k.after))
      ⊎ ((at.answering ≢ place) × (follower_state at w' f' ≡ follower_state at w old))
  own_by (inl (same, was_it, is_it)) =
      inl (
        same,
        ap (λ (x : Station). x.system) (was.own_is ∙ was_it),
        ap (λ (x : Station). x.system) is_it,
      )
  own_by (inr (other, is_it)) = inr (other, ap (λ (x : Station). x.system) (is_it ∙ sym was.own_is))

  above_by : ((at.asking ≡ place) × (above_was.before.station ≡ k.station)
      × (f'.above.station ≡ in_state k.after k.station))
      ⊎ ((at.asking ≢ place) × (f'.above.station ≡ above_was.before.station))
      → at.asking ≡ place → state_above at w old ≡ k.station.system
  above_by (inl (same, was_it, is_it)) here = ap (λ (x : Station). x.system) (was.above_is ∙ was_it)
  above_by (inr (other, is_it)) here = absurd (other here)

  quiet : at.asking ≢ place → grows.news ≡ []
  quiet other =
      none_new grows.news
      (grows.said_is
      ∙ none_said k.after (sender at.direction old.channel) k.sends
      (λ same. other (clocks at.asking place old.above.station k.station old.above.here k.here
      (old.above.named ∙ sym same
      ∙ same_clock input w.time k.station.system k.after k.sends answer k.steps))))

  pub call_seen : CallSeen at w w' f' place k.station.system k.after k.sends
  call_seen = record {
    before = old;
    a = was.a;
    b = was.b;
    bounds = was.bounds;
    own = own_by own_was.which;
    above = above_by above_was.which;
    news = grows.news;
    queue_is = ap (world_queue at.direction) (sym new_is) ∙ grows.is;
    said = grows.said_is;
    quiet = quiet;
    late = grows.late;
  }
