-- What a call sends onto a lane comes after what was in flight, and is due in its order.
use Rattle.std.proofs.Common.{◌≡◌, ◌≢◌, ◌+◌, ◌≤◌, ℕ, true, List, [], ◌∷◌, ◌++◌, map, Some, slice_get, sym, ap, subst, ◌∙◌, inl, inr, arith}
use Rattle.std.proofs.lemmas.List.{map-append}
use Rattle.gptp_lists.specs.Members.{In}
use Rattle.gptp_links.specs.declared.link.Direction.{Direction}
use Rattle.gptp_links.specs.Fate.{Draw}
use Rattle.gptp_links.specs.Queue.{AreDueInOrder, Frame}
use Rattle.gptp_system.specs.declared.answer.Answer.{Answer}
use Rattle.gptp_system.specs.Input.{Input}
use Rattle.gptp_model.specs.Act.{Calls, all_timers, in_state}
use Rattle.gptp_model.specs.Sound.{AreApart}
use Rattle.gptp_model.specs.World.{Channel, Net, WorldState, world_queue, sender}
use Rattle.gptp_pdelay_machine.specs.Lanes.{LaneFrame as SeenFrame}
use Rattle.gptp_sync_machine.specs.Acts.{FramesAreInOrder}
use Rattle.gptp_invariants.specs.DelayLinkView.{link_frame_view, link_lane_view}
use Rattle.gptp_invariants.specs.ChoiceSaid.{said_at}
use Rattle.gptp_invariants.proofs.DelayLinkLaneLemmas.{IsAlone, sends_grow}
use Rattle.gptp_invariants.proofs.DelaySentLemmas.{octets_of}

-- ---- order

pub order_behind : (xs ys : List Frame) → AreDueInOrder (xs ++ ys) → AreDueInOrder ys
order_behind [] ys order = order
order_behind (x ∷ []) [] order = tt
order_behind (x ∷ []) (y ∷ ys) order = order.1
order_behind (x ∷ (z ∷ xs)) ys order = order_behind (z ∷ xs) ys order.1

first_least : (least : ℕ) (f : Frame) (fs : List Frame) → least ≤ f.due → AreDueInOrder (f ∷ fs) → (g : SeenFrame)
    → In g (map link_frame_view (f ∷ fs)) → least ≤ g.due
first_least least f fs before order g (inl same) = subst (λ (x : SeenFrame). least ≤ x.due) (sym same) before
first_least least f [] before order g (inr none) = absurd none
first_least least f (h ∷ fs) before order g (inr later) =
    let next = order.0 in first_least least h fs (omega arith) order.1 g later

pub in_order : (fs : List Frame) → AreDueInOrder fs → FramesAreInOrder (map link_frame_view fs)
in_order [] order = tt
in_order (f ∷ []) order = (λ g none. absurd none, tt)
in_order (f ∷ (h ∷ fs)) order = (first_least f.due h fs order.0 order.1, in_order (h ∷ fs) order.1)

-- ---- a call

-- after what was in flight stand frames of these octets, each due the least delay from now or later
pub record LaneGrows (now link : ℕ) (direction : Direction) (old : Channel) (said : List (List ℕ)) (w' : WorldState)
    : Type 0 where
  pub new : Channel
  pub here : slice_get w'.net.channels link ≡ Some new
  pub news : List Frame
  pub is : world_queue direction new ≡ world_queue direction old ++ news
  pub said_is : octets_of news ≡ said
  pub late : (f : Frame) → In f news → now + old.bounds.min ≤ f.due

pub call_lane : (place : ℕ) (input : Input) (w : WorldState) (draws : List Draw) (answer : Answer) (w' : WorldState)
    (k : Calls place input w draws answer w') (link : ℕ) (direction : Direction) (old : Channel)
    → AreApart w → old.a ≢ old.b → slice_get w.net.channels link ≡ Some old → old.up ≡ true → old.bounds.loss ≡ 0
    → LaneGrows w.time link direction old (said_at k.after (sender direction old) k.sends) w'
call_lane place input w draws answer w' k link direction old apart ends here up lossless =
    let timers : Net = all_timers place (in_state k.after k.station) w.net in
    let alone : IsAlone link old timers = record {
      here = here;
      only = λ other way back at there same. apart other link back way at old there here same;
      ends = ends;
    } in
    let grown = sends_grow w.time k.after k.sends draws timers k.net link old alone
    (record { up = up; lossless = lossless }) k.sent in
    record {
      new = grown.new;
      here = ap (λ (v : WorldState). slice_get v.net.channels link) k.is ∙ grown.alone.here;
      news = grown.grows.news direction;
      is = grown.grows.queues direction;
      said_is = grown.grows.said direction;
      late = grown.grows.lates direction;
    }

-- so it is seen
pub lane_seen : (direction : Direction) (old new : Channel) (news : List Frame)
    → world_queue direction new ≡ world_queue direction old ++ news
    → link_lane_view direction new ≡ link_lane_view direction old ++ map link_frame_view news
lane_seen direction old new news is =
    ap (map link_frame_view) is ∙ map-append link_frame_view (world_queue direction old) news
