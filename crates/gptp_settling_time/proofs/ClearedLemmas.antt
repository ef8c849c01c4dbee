-- A world since a far end was lost, or a link went down that moved none: all that is held is sound, and what is in
-- flight is so but for what is old; or it becomes so.
use Rattle.std.proofs.Common.{◌<◌, ◌≤◌, ℕ, List, refl, inl, inr}
use Rattle.gptp_graph.specs.Snapshot.{Snapshot}
use Rattle.gptp_links.specs.Fate.{Draw}
use Rattle.gptp_scenario.specs.Calm.{NothingLapses}
use Rattle.gptp_scenario.specs.declared.change.Act.{Act}
use Rattle.gptp_setup.specs.SettlingParams.{SettlingParams}
use Rattle.gptp_model.specs.Acts.{Acts, at as at_time}
use Rattle.gptp_model.specs.Pending.{NothingBefore}
use Rattle.gptp_model.specs.World.{WorldState}
use Rattle.gptp_model.specs.declared.done.Done.{Done}
use Rattle.gptp_bmca_machine.specs.Acts.{MachineSteps}
use Rattle.gptp_invariants.specs.ChoiceCalm.{HaveQuietLinks}
use Rattle.gptp_invariants.specs.ChoiceSeenLaws.{IsNoChange}
use Rattle.gptp_invariants.specs.ChoiceView.{says_announce, view}
use Rattle.gptp_invariants.specs.WorldEncodableLaws.{SetsAnOctet}
use Rattle.gptp_invariants.specs.WorldNews.{AreSilentBy}
use Rattle.gptp_invariants.proofs.ChoiceCalmKeptLemmas.{KeepsNetwork, acts_keep}
use Rattle.gptp_invariants.proofs.ChoiceSeenActLemmas.{acts_seen}
use Rattle.gptp_invariants.proofs.WorldNewsCourseLemmas.{later_keeps}
use Rattle.gptp_settling_time.proofs.AlwaysClaimedLemmas.{IsClaimedAlways}
use Rattle.gptp_settling_time.proofs.LeftClaimedLemmas.{HaveAskedBy, IsLeftAlways, asked_acts, asked_later, left_acts, left_later}
use Rattle.gptp_settling_time.proofs.BecomesSoundLemmas.{BecomesSound, IsLeftNow, becomes_claimed, becomes_on}

-- What is claimed of a world since such a loss: it is left, ports at links are capable since a time, ports beside
-- failed systems are silent by another, and all is sound in what is left but for what is old, or becomes so.
pub record IsCleared (p : SettlingParams) (g : Snapshot) (since silent right old : ℕ) (w : WorldState) : Type 0 where
  pub left : IsLeftAlways p g silent w
  pub asked : HaveAskedBy since w
  pub sound : HaveQuietLinks p.params w → NothingLapses p.params → BecomesSound p silent right old w

-- what is left is so at each moment
pub left_is_now : (p : SettlingParams) (g : Snapshot) (silent : ℕ) (w : WorldState) → IsLeftAlways p g silent w
    → IsLeftNow p g silent w
left_is_now p g silent w is = record {
  standing = is.standing;
  asked = is.asked;
  well = is.well;
  left = is.left;
  near = is.near;
  late = is.late;
  seen = is.seen;
}

-- ---- it goes on

module _ (p : SettlingParams) (g : Snapshot) (since silent right old : ℕ) (w w' : WorldState)
    (is : IsCleared p g since silent right old w) (left' : IsLeftAlways p g silent w') (asked' : HaveAskedBy since w')
    (keeps : KeepsNetwork w w') (step : MachineSteps says_announce (view w) (view w')) where
  pub cleared_step : IsCleared p g since silent right old w'
  cleared_step = record {
    left = left';
    asked = asked';
    sound = becomes_on p g silent right old w w' (left_is_now p g silent w is.left) (left_is_now p g silent w' left')
        is.sound keeps step;
  }

pub cleared_later : (p : SettlingParams) (g : Snapshot) (since silent right old time : ℕ) (w : WorldState)
    → w.time ≤ time → NothingBefore time w.net.pending → IsCleared p g since silent right old w
    → IsCleared p g since silent right old (at_time time w)
cleared_later p g since silent right old time w later first is =
    cleared_step p g since silent right old w (at_time time w) is (left_later p g silent time w later first is.left)
    (asked_later p since time w is.left.standing.world later first is.asked)
    (later_keeps time w) (inl (record { time = time; later = later; is = refl }))

pub cleared_acts : (p : SettlingParams) (g : Snapshot) (since silent right old : ℕ) (act : Act) (w : WorldState)
    (draws : List Draw) (done : Done) (w' : WorldState) → IsNoChange act → SetsAnOctet act
    → Acts act w draws done w' → IsCleared p g since silent right old w → IsCleared p g since silent right old w'
cleared_acts p g since silent right old act w draws done w' none octet acts is =
    let world = is.left.standing.world in
    let left' = left_acts p g silent act w draws done w' none octet acts is.left in
    cleared_step p g since silent right old w w' is left'
    (asked_acts p since silent act w draws done w' none acts is.left.standing left'.standing.world is.asked)
    (acts_keep act w draws done w' none acts)
    (inr (acts_seen act w draws done w' none world.sound world.encodable acts))

-- once what is old is gone claims are made of all links always
pub cleared_claimed : (p : SettlingParams) (g : Snapshot) (since silent right old : ℕ) (w : WorldState)
    → IsCleared p g since silent right old w → HaveQuietLinks p.params w → NothingLapses p.params → old < w.time
    → (start : ℕ) → since ≤ start → AreSilentBy p start w → IsClaimedAlways p start w
cleared_claimed p g since silent right old w is =
    becomes_claimed p g since silent right old w (left_is_now p g silent w is.left) is.asked is.sound
