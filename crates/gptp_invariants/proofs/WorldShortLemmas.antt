-- Every act leaves what is in flight due within the longest delay from now.
use Rattle.std.proofs.Common.{◌+◌, ◌≤◌, ℕ, subst, arith}
use Rattle.std.specs.Prelude.{⊤}
use Rattle.gptp_lists.specs.Members.{In}
use Rattle.gptp_links.specs.declared.bounds.Bounds.{Bounds}
use Rattle.gptp_links.specs.declared.link.Direction.{Direction}
use Rattle.gptp_links.specs.declared.link.Direction.TheVariants.{FromA, FromB}
use Rattle.gptp_links.specs.Queue.{Frame}
use Rattle.gptp_scenario.specs.declared.network.LinkSpec.{LinkSpec}
use Rattle.gptp_scenario.specs.Prompt.{DelayFitsInterval}
use Rattle.gptp_model.specs.Initial.{channel_from}
use Rattle.gptp_model.specs.World.{WorldState, world_queue}
use Rattle.gptp_lists.proofs.MappedLemmas.{mapped}
use Rattle.gptp_invariants.specs.DelayLinkLaws.{InitiallyShort, ShortHoldsLater, ShortIsKept, StartsShort}
use Rattle.gptp_invariants.specs.WorldShort.{IsShort, IsShortChannel}
use Rattle.gptp_invariants.proofs.DelayLimitLemmas.{WorldIsLimited, in_queue, keeps_limit}
use Rattle.gptp_model.proofs.ActsByLemmas.{Elementary, acts_by, starts_by}

-- ---- a limit for all links

abbrev pub within : ℕ → ℕ → Bounds → ℕ
within span now bounds = now + span

pub short_within : (span : ℕ) (w : WorldState) → IsShort span w → WorldIsLimited (within span) w
short_within span w short link channel here =
    let is = short link channel here in
    record {
      room = let most = is.most in omega arith;
      from_a = λ f. is.dues FromA f;
      from_b = λ f. is.dues FromB f;
    }

pub within_short : (span : ℕ) (w : WorldState) → WorldIsLimited (within span) w → IsShort span w
within_short span w are link channel here =
    let is = are link channel here in
    record {
      most = let room = is.room in omega arith;
      dues = λ direction f. in_queue (within span w.time) w.time direction channel is f;
    }

keeps : (span : ℕ) → Elementary ⊥ (DelayFitsInterval span) (λ octets. ⊤) (WorldIsLimited (within span))
keeps span = keeps_limit (within span) (DelayFitsInterval span)
    (λ number port least greatest loss now channel fit is.
    let most : greatest ≤ span = fit in
    record { room = omega arith; from_a = is.from_a; from_b = is.from_b })

-- ---- acts and starts

pub acts_short : ShortIsKept
acts_short span act w w' draws done fit all k =
    within_short span w'
    (acts_by (keeps span) act w draws done w' (λ none. absurd none) fit k (short_within span w all))

pub later_short : ShortHoldsLater
later_short span time w later all link channel here =
    let old = all link channel here in
    record { most = old.most; dues = λ direction f member. let due = old.dues direction f member in omega arith }

pub starts_short : StartsShort
starts_short span places w w' draws all k =
    within_short span w' (starts_by (keeps span) places w draws w' k (short_within span w all))

pub initially_short : InitiallyShort
initially_short span n short link channel here =
    let (wire, at, made) = mapped channel_from n.links link channel here in
    subst (IsShortChannel span 0) made (record { most = short link wire at; dues = still wire })
  where
    still : (wire : LinkSpec) (direction : Direction) (f : Frame) → In f (world_queue direction (channel_from wire))
        → f.due ≤ 0 + span
    still wire FromA f member = absurd member
    still wire FromB f member = absurd member
