-- A system failed and so moved trees, as the machine knows it: each tree leaves its old choice once its top has let go
-- what the failed system told, and all settle once each distance has had its time.
use Rattle.std.proofs.Common.{◌<◌, ◌≤◌, ◌+◌, ℕ, suc, arith}
use Rattle.gptp_graph.specs.Snapshot.{Joins, Snapshot, System, port_of}
use Rattle.gptp_setup.specs.SettlingParams.{SettlingParams}
use Rattle.gptp_bmca_machine.specs.Acts.{MachineSteps}
use Rattle.gptp_bmca_machine.specs.CutTree.{Tree}
use Rattle.gptp_bmca_machine.specs.FailureTrees.{FailureMoves, Turning}
use Rattle.gptp_bmca_machine.specs.LossLaws.{IsAfterLoss}
use Rattle.gptp_bmca_machine.specs.Network.{Network}
use Rattle.gptp_bmca_machine.specs.SoundLaws.{AllAreNear}
use Rattle.gptp_bmca_machine.specs.TwoTops.{TopsTree}
use Rattle.gptp_bmca_machine.specs.Station.{MachineState}
use Rattle.gptp_bmca_machine.proofs.CutTreeLemmas.{IsCutOff, LeadsNowhere, moves_off}
use Rattle.gptp_bmca_machine.proofs.FailureEndLemmas.{FailureSettles, TopsTimes, settle_on}
use Rattle.gptp_bmca_machine.proofs.FailureTreesLemmas.{FailsBack, IsFailedState, LostStayOff, drops, fails_on}
use Rattle.gptp_bmca_machine.proofs.UnlinkedLemmas.{UnlinkedHoldNone}
use Rattle.gptp_bmca_machine.proofs.MovedLevelLemmas.{Times as MovedTimes}
use Rattle.gptp_bmca_machine.proofs.TurnLevelLemmas.{Times}
use Rattle.gptp_invariants.specs.ChoiceView.{says_announce}
use Rattle.gptp_settling_time.specs.TreeLosses.{IsTreeCutOff, IsTreeCutTwice, IsTreeTurned}
use Rattle.gptp_settling_time.proofs.AgingClaimedLemmas.{stay_of}
use Rattle.gptp_settling_time.proofs.FallAlwaysLemmas.{fallen_by, falls_within, settles_by, settles_later}
use Rattle.gptp_settling_time.proofs.TurnedTreeLemmas.{turn_times}

-- ---- the failure

-- Such a failure: the network that is left, the failed system, the best of before, when it failed, and the greatest
-- delay of before. What it told is held for longer than an interval and that delay. All systems were near.
pub record IsSplit (p : SettlingParams) (g : Snapshot) : Type 0 where
  pub n : Network
  pub lost : ℕ
  pub best : System
  pub moves : FailureMoves g n lost best (IsTreeCutOff g n.graph best) (IsTreeTurned g n.graph best)
      (IsTreeCutTwice g n.graph best)
  pub near : AllAreNear g
  pub since : ℕ
  pub delay : ℕ
  pub shorter : n.most ≤ delay
  pub long : (x q i : ℕ) → Joins g (port_of lost (suc q)) (port_of x (suc i))
      → n.interval_of (port_of lost (suc q)) + delay < stay_of p (n.log_of (port_of lost (suc q)))

module _ (p : SettlingParams) (g : Snapshot) (s : IsSplit p g) (start : ℕ) where
  abbrev pub IsCut : Tree → Type 0
  IsCut = IsTreeCutOff g s.n.graph s.best

  abbrev pub IsTurned : Turning → Type 0
  IsTurned = IsTreeTurned g s.n.graph s.best

  abbrev pub IsTwice : TopsTree → Type 0
  IsTwice = IsTreeCutTwice g s.n.graph s.best

  -- as the machine knows it
  abbrev pub SplitsBack : MachineState → Type 0
  SplitsBack =
      FailsBack says_announce g s.n s.lost s.best IsCut IsTurned IsTwice s.moves start (stay_of p) s.since s.delay
      s.shorter
      s.long

  abbrev pub SplitState : MachineState → Type 0
  SplitState =
      IsFailedState says_announce g s.n s.lost s.best IsCut IsTurned IsTwice s.moves start (stay_of p) s.since s.delay
      s.shorter
      s.long

  abbrev pub SplitStaysOff : MachineState → MachineState → Type 0
  SplitStaysOff =
      LostStayOff says_announce g s.n s.lost s.best IsCut IsTurned IsTwice s.moves start (stay_of p) s.since s.delay
      s.shorter
      s.long

  -- each system of a tree has left its old choice by then, and those at each distance have settled from a time on
  pub cut_times : (t : Tree) → (is : IsCut t)
      → MovedTimes says_announce g s.n (IsCutOff s.n t.next) LeadsNowhere t.top s.best t.next t.base t.depth
      (moves_off g s.n t.top s.best t.next t.base t.depth (s.moves.cut t is)) s.moves.paths s.moves.few start
      (fallen_by s.n start) (settles_by s.n start)
  cut_times t is = record {
    reached = λ v in_v. falls_within s.n start (t.depth v) ((s.moves.cut t is).deep v in_v);
    room = λ e. settles_later s.n start e;
    grows = λ e. omega arith;
  }

  pub turned_times : (t : Turning) → (is : IsTurned t)
      → Times says_announce g s.n t.tree t.top s.lost t.last t.out s.best t.base t.depth (s.moves.turned t is) start
      (fallen_by s.n start) (settles_by s.n start)
  turned_times t is = turn_times g s.n t.tree t.top s.lost t.last t.out s.best t.base t.depth (s.moves.turned t is)
      start

  pub tops_times : TopsTimes s.n start (fallen_by s.n start) (settles_by s.n start)
  tops_times = record {
    begun = omega arith;
    reached = λ d deep. falls_within s.n start (suc d) deep;
    soon = λ e. settles_later s.n start e;
    grows = λ e. omega arith;
  }

  -- each link of a tree is at its stage as soon as the system that tells has settled
  abbrev pub SplitSettles : MachineState → Type 0
  SplitSettles =
      FailureSettles says_announce g s.n s.lost s.best IsCut IsTurned IsTwice s.moves start (fallen_by s.n start)
      (settles_by s.n start) cut_times turned_times tops_times

-- ---- a step

module _ (p : SettlingParams) (g : Snapshot) (s : IsSplit p g) (start : ℕ) (x x' : MachineState)
    (was : SplitsBack p g s start x) (kept' : IsAfterLoss s.n x') (state' : SplitState p g s start x')
    (stays_off : SplitStaysOff p g s start x x') (none' : UnlinkedHoldNone g s.n start x')
    (step : MachineSteps says_announce x x') where
  pub splits_on : SplitsBack p g s start x'
  splits_on =
      fails_on says_announce g s.n s.lost s.best (IsCut p g s start) (IsTurned p g s start) (IsTwice p g s start)
      s.moves start (stay_of p)
      s.since s.delay s.shorter s.long x x' was kept' state' stays_off step none'

  pub split_settles_on : SplitSettles p g s start x → SplitSettles p g s start x'
  split_settles_on =
      settle_on says_announce g s.n s.lost s.best (IsCut p g s start) (IsTurned p g s start) (IsTwice p g s start)
      s.moves start (fallen_by s.n start) (settles_by s.n start) (cut_times p g s start) (turned_times p g s start)
      (tops_times p g s start) x x' was.back
      splits_on.back step
      (drops says_announce g s.n s.lost s.best (IsCut p g s start) (IsTurned p g s start) (IsTwice p g s start) s.moves
      start (stay_of p)
      s.since s.delay s.shorter s.long x x' was kept' state' stays_off step)
