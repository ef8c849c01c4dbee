-- Where the lanes of a world stand, and what one queue makes of them.
use Rattle.std.proofs.Common.{◌≡◌, ◌≢◌, ◌⊎◌, ℕ, zero, suc, List, [], ◌∷◌, map, Some, slice_get, slice_set, refl, sym, ap, ◌∙◌, inl, inr, arith}
use Rattle.std.proofs.lemmas.Option.{none-some, same_Some}
use Rattle.gptp_links.specs.declared.link.Direction.{Direction}
use Rattle.gptp_links.specs.declared.link.Direction.TheVariants.{FromA, FromB}
use Rattle.gptp_links.specs.Queue.{Frame}
use Rattle.gptp_model.specs.World.{Channel, with_queue}
use Rattle.gptp_lists.proofs.PlaceLemmas.{get-set_other, get-set_same, same_place}
use Rattle.gptp_bmca_machine.specs.Frame.{Lane}
use Rattle.gptp_invariants.specs.ChoiceView.{frame_view, lane_place, lane_view, lanes_view}

-- ---- places

-- the lane of the next link stands two places on
next_place : (link : ℕ) (direction : Direction)
    → lane_place (suc link) direction ≡ suc (suc (lane_place link direction))
next_place link FromA = omega arith
next_place link FromB = omega arith

-- each lane has a place of its own
pub one_lane : (link other : ℕ) (direction way : Direction) → lane_place link direction ≡ lane_place other way
    → (link ≡ other) × (direction ≡ way)
one_lane link other FromA FromA e = (omega arith, refl)
one_lane link other FromA FromB e = absurd (omega arith)
one_lane link other FromB FromA e = absurd (omega arith)
one_lane link other FromB FromB e = (omega arith, refl)

pub lane_there : (channels : List Channel) (link : ℕ) (direction : Direction) (channel : Channel)
    → slice_get channels link ≡ Some channel
    → slice_get (lanes_view channels) (lane_place link direction) ≡ Some (lane_view direction channel)
lane_there [] link direction channel here = absurd (none-some channel here)
lane_there (first ∷ channels) zero FromA channel here =
    ap (λ c. Some (lane_view FromA c)) (same_Some first channel here)
lane_there (first ∷ channels) zero FromB channel here =
    ap (λ c. Some (lane_view FromB c)) (same_Some first channel here)
lane_there (first ∷ channels) (suc link) direction channel here =
    rw (next_place link direction) (lane_there channels link direction channel here)

-- what stands at a place is the lane of a link in a direction
pub record IsLaneAt (channels : List Channel) (place : ℕ) (lane : Lane) : Type 0 where
  pub link : ℕ
  pub direction : Direction
  pub channel : Channel
  pub here : slice_get channels link ≡ Some channel
  pub at : place ≡ lane_place link direction
  pub is : lane ≡ lane_view direction channel

pub lane_from : (channels : List Channel) (place : ℕ) (lane : Lane)
    → slice_get (lanes_view channels) place ≡ Some lane → IsLaneAt channels place lane
lane_from [] place lane there = absurd (none-some lane there)
lane_from (first ∷ channels) zero lane there = record {
  link = zero;
  direction = FromA;
  channel = first;
  here = refl;
  at = refl;
  is = sym (same_Some (lane_view FromA first) lane there);
}
lane_from (first ∷ channels) (suc zero) lane there = record {
  link = zero;
  direction = FromB;
  channel = first;
  here = refl;
  at = refl;
  is = sym (same_Some (lane_view FromB first) lane there);
}
lane_from (first ∷ channels) (suc (suc place)) lane there =
    let later = lane_from channels place lane there in
    record {
      link = suc later.link;
      direction = later.direction;
      channel = later.channel;
      here = later.here;
      at = ap (λ n. suc (suc n)) later.at ∙ sym (next_place later.link later.direction);
      is = later.is;
    }

-- ---- one lane becomes another

-- what stands at a place: the new lane at its own, and at every other what stood there
abbrev pub StandsNow : ℕ → Lane → List Lane → ℕ → Lane → Type 0
StandsNow at new lanes place lane =
    ((place ≡ at) × (lane ≡ new)) ⊎ ((place ≢ at) × (slice_get lanes place ≡ Some lane))

abbrev pub IsSetAt : ℕ → Lane → List Lane → List Lane → Type 0
IsSetAt at new lanes lanes' =
    (place : ℕ) (lane : Lane) → slice_get lanes' place ≡ Some lane → StandsNow at new lanes place lane

-- a lane with other frames in flight
abbrev pub refilled : Direction → Channel → List Frame → Lane
refilled direction channel frames = record (lane_view direction channel) { frames = map frame_view frames }

-- the queue of a link in one direction becomes another
module _ (channels : List Channel) (link : ℕ) (direction : Direction) (frames : List Frame) (channel : Channel)
    (here : slice_get channels link ≡ Some channel) where
  abbrev requeued : Channel
  requeued = with_queue direction frames channel

  abbrev Stands : ℕ → Lane → Type 0
  Stands place lane =
      StandsNow (lane_place link direction) (refilled direction channel frames) (lanes_view channels) place lane

  -- a lane that isn't this one stands as it stood
  stood : (other : ℕ) (way : Direction) (old : Channel) (place : ℕ) (lane : Lane) → slice_get channels other ≡ Some old
      → place ≡ lane_place other way → lane ≡ lane_view way old → (lane_place other way ≢ lane_place link direction)
      → Stands place lane
  stood other way old place lane stands at is apart =
      inr (
        λ e. apart (sym at ∙ e),
        ap (slice_get (lanes_view channels)) at ∙ lane_there channels other way old stands ∙ ap (λ l. Some l) (sym is),
      )

  -- both lanes of the link
  of_link : (d way : Direction) (place : ℕ) (lane : Lane) → direction ≡ d → place ≡ lane_place link way
      → lane ≡ lane_view way (with_queue d frames channel) → Stands place lane
  of_link FromA FromA place lane e at is =
      inl (at ∙ ap (lane_place link) (sym e), is ∙ ap (λ d. refilled d channel frames) (sym e))
  of_link FromB FromB place lane e at is =
      inl (at ∙ ap (lane_place link) (sym e), is ∙ ap (λ d. refilled d channel frames) (sym e))
  of_link FromA FromB place lane e at is =
      stood link FromB channel place lane here at is
      (λ f. let both = sym e ∙ sym (one_lane link link FromB direction f).1 in cc)
  of_link FromB FromA place lane e at is =
      stood link FromA channel place lane here at is
      (λ f. let both = sym e ∙ sym (one_lane link link FromA direction f).1 in cc)

  pub requeued_lanes : IsSetAt (lane_place link direction) (refilled direction channel frames) (lanes_view channels)
      (lanes_view (slice_set channels link requeued))
  requeued_lanes place lane there = go (lane_from (slice_set channels link requeued) place lane there)
    where
      go : IsLaneAt (slice_set channels link requeued) place lane → Stands place lane
      go l = by (same_place l.link link)
        where
          by : (l.link ≡ link) ⊎ (l.link ≢ link) → Stands place lane
          by (inl same) =
              let stands = ap (slice_get (slice_set channels link requeued)) (sym same) ∙ l.here in
              let new = get-set_same channels link channel requeued here in
              let one = same_Some requeued l.channel (sym new ∙ stands) in
              of_link direction l.direction place lane refl (l.at ∙ ap (λ k. lane_place k l.direction) same)
              (l.is ∙ ap (lane_view l.direction) (sym one))
          by (inr apart) =
              let stands = sym (get-set_other channels link l.link requeued apart) ∙ l.here in
              stood l.link l.direction l.channel place lane stands l.at l.is
              (λ e. apart (one_lane l.link link l.direction direction e).0)
