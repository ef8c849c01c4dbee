-- A link that comes up leaves those ports silent that are beside failed systems elsewhere.
use Rattle.std.proofs.Common.{◌≡◌, ◌≢◌, ℕ, true, List, Some, slice_get, refl, sym, ◌∙◌, inl, inr}
use Rattle.gptp_lists.proofs.PlaceLemmas.{get-set_other}
use Rattle.gptp_links.specs.declared.link.Direction.{Direction}
use Rattle.gptp_links.specs.Fate.{Draw}
use Rattle.gptp_setup.specs.SettlingParams.{SettlingParams}
use Rattle.gptp_system.specs.Input.{PortUp}
use Rattle.gptp_model.specs.Changing.{TellsEnds, brought_up}
use Rattle.gptp_model.specs.Sound.{IsWired}
use Rattle.gptp_model.specs.World.{Channel, WorldState, sender}
use Rattle.gptp_model.proofs.StayLemmas.{JoinTheSame, begins_same, join_on, set_join, stays_clocks}
use Rattle.gptp_invariants.specs.DelayLinkView.{LinkPlace}
use Rattle.gptp_invariants.specs.WorldNews.{AreSilentBy, IsSilentBy}
use Rattle.gptp_invariants.specs.FailedUnanswered.{IsLastAnswered, IsOff, IsUnansweredAt, StandsUnanswered}
use Rattle.gptp_invariants.proofs.WorldBeforeLemmas.{calls_before, stood}
use Rattle.gptp_invariants.proofs.FailedLastAnsweredLemmas.{last_beside, last_changed}
use Rattle.gptp_invariants.proofs.FailedOffLemmas.{off_called, off_changed}
use Rattle.gptp_invariants.proofs.PortInputLemmas.{of_up}
use Rattle.gptp_model.specs.Ahead.{IsPortAmong}
use Rattle.gptp_model.proofs.EndLemmas.{each_end_told}
use Rattle.gptp_model.proofs.ActsByLemmas.{PortCallsKeep, ends_told, join_among}

-- a port beside a failed system stood so before ports came up
pub stood_up : (at : LinkPlace) (first : WorldState)
    → PortCallsKeep ⊥ PortUp (λ v. StandsUnanswered at v → StandsUnanswered at first)
stood_up at first place port w draws answer w' k of back stands =
    back (stood at w w' (calls_before place (PortUp port) w draws answer w' k) stands)

-- ---- the time of the last change alone

pub changed_stood : (at : LinkPlace) (w : WorldState) → StandsUnanswered at (record w { last_change = w.time })
    → StandsUnanswered at w
changed_stood at w s = record {
  channel = s.channel;
  here = s.here;
  up = s.up;
  asking = record {
    station = s.asking.station;
    here = s.asking.here;
    live = s.asking.live;
    named = s.asking.named;
  };
  answering = s.answering;
}

pub changed_silent : (p : SettlingParams) (start : ℕ) (w : WorldState) → AreSilentBy p start w
    → AreSilentBy p start (record w { last_change = w.time })
changed_silent p start w silent at s = elim (silent at (changed_stood at w s)) [
  | inl off ↦ inl (off_changed at w off)
  | inr (sent, last, soon) ↦ inr (sent, last_changed sent at w last, soon)
]

-- ---- another link comes up

module _ (p : SettlingParams) (at : LinkPlace) (place : ℕ) (channel : Channel) (w : WorldState) (draws : List Draw)
    (w' : WorldState) (wired : IsWired w)
    (here : slice_get w.net.channels place ≡ Some channel) (other : at.link ≢ place) where
  abbrev raised : Channel
  raised = record channel { up = true }

  abbrev brought : WorldState
  brought = record w { last_change = w.time; net = brought_up place channel w.net }

  joins : JoinTheSame w.net.channels brought.net.channels
  joins = set_join w.net.channels place channel raised here refl refl

  -- the port isn't at an end of it
  no_end : (v : WorldState) → JoinTheSame w.net.channels v.net.channels → (l : IsUnansweredAt at v) (way : Direction)
      → sender at.direction l.channel ≢ sender way channel
  no_end v on l way same =
      let was = on at.link l.channel l.here in
      other (wired.apart at.link place at.direction way was.old channel was.here here
      (sym (begins_same w.net.channels at.link at.direction l.channel was) ∙ same))

  module _ (k : TellsEnds PortUp channel brought draws w') (s : StandsUnanswered at w') where
    before : StandsUnanswered at brought
    before =
        ends_told ⊥ (λ v. StandsUnanswered at v → StandsUnanswered at brought) PortUp (stood_up at brought) channel
        brought draws w' (λ none. absurd none) k (λ stands. stands) s

    pub stood_elsewhere : StandsUnanswered at w
    stood_elsewhere = record {
      channel = before.channel;
      here = sym (get-set_other w.net.channels place at.link raised other) ∙ before.here;
      up = before.up;
      asking = record {
        station = before.asking.station;
        here = before.asking.here;
        live = before.asking.live;
        named = before.asking.named;
      };
      answering = before.answering;
    }

    pub up_silences : (start : ℕ) → IsSilentBy p start at w → IsSilentBy p start at w'
    up_silences start silent = elim silent [
      | inl off ↦ inl (off_through off)
      | inr (sent, last, soon) ↦ inr (sent, last_through sent last, soon)
    ]
      where
        ports : (direction : Direction) → IsPortAmong (sender direction channel) brought.stations
        ports = join_among w place channel wired.ports here

        link_begun : (l : IsUnansweredAt at w) → IsUnansweredAt at brought
        link_begun l = record {
          channel = l.channel;
          here = get-set_other w.net.channels place at.link raised other ∙ l.here;
          up = l.up;
          asking = l.asking;
          answering = l.answering;
        }

        off_through : IsOff at w → IsOff at w'
        off_through is =
            each_end_told PortUp channel brought (IsOff at)
            (λ direction q v ds answer v' c stays named number off.
            off_called at q (PortUp (sender direction channel).port) v ds answer v' c
            (stays_clocks brought v stays wired.clocks) off (λ same. tt) (λ same. tt)) wired.setups ports draws w' k
            (record { link = link_begun is.link; mute = is.mute; off = is.off })

        last_through : (sent : ℕ) → IsLastAnswered sent at w → IsLastAnswered sent at w'
        last_through sent is =
            each_end_told PortUp channel brought (IsLastAnswered sent at)
            (λ direction q v ds answer v' c stays named number last.
            last_beside of_up sent at q (sender direction channel) v ds answer v' c named
            (stays_clocks brought v stays wired.clocks) last
            (no_end v (join_on w.net.channels brought.net.channels v.net.channels joins stays.links) last.link
            direction)) wired.setups ports draws w' k
            (record { link = link_begun is.link; replies = is.replies; inv = is.inv })
