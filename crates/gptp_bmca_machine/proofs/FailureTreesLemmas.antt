-- The failure of a system moves trees. Each falls back from when its top lets go what the failed system told last, and
-- until then it stands as it did.
use Rattle.std.proofs.Common.{◌≡◌, ◌⊎◌, ◌<◌, ◌≤◌, ◌+◌, ℕ, ℤ, suc, Some, slice_get, subst, inl, inr, arith}
use Rattle.gptp_lists.specs.Members.{In}
use Rattle.gptp_graph.specs.Best.{IsBest}
use Rattle.gptp_graph.specs.Snapshot.{IsLinked, Joins, Snapshot, System, clocks, port_of}
use Rattle.gptp_graph.proofs.SystemLemmas.{In-clocks}
use Rattle.gptp_bmca_machine.specs.Acts.{MachineSteps}
use Rattle.gptp_bmca_machine.specs.CutTree.{Tree}
use Rattle.gptp_bmca_machine.specs.Facts.{station_system}
use Rattle.gptp_bmca_machine.specs.Frame.{Spelling}
use Rattle.gptp_bmca_machine.specs.LossLaws.{EverythingFits, IsAfterLoss}
use Rattle.gptp_bmca_machine.specs.FailureTrees.{FailureMoves, Turning}
use Rattle.gptp_bmca_machine.specs.Network.{Network}
use Rattle.gptp_bmca_machine.specs.SoundLaws.{IsSoundOnLinks}
use Rattle.gptp_bmca_machine.specs.TwoTops.{TopsTree}
use Rattle.gptp_bmca_machine.specs.Station.{Disabled, HoldsAt, MachineState, Port, Reception, Station}
use Rattle.gptp_bmca_machine.proofs.CutTreeLemmas.{IsCutOff, LeadsNowhere, moves_off}
use Rattle.gptp_bmca_machine.proofs.FallKeptLemmas.{falling_kept}
use Rattle.gptp_bmca_machine.proofs.UnlinkedLemmas.{IsMoved, IsOldTold, UnlinkedDrop, UnlinkedHoldNone, UnlinkedHoldOld}
use Rattle.gptp_bmca_machine.proofs.FallLemmas.{IsAftermath, IsFalling}
use Rattle.gptp_bmca_machine.proofs.LinkStepLemmas.{LaneStands}
use Rattle.gptp_bmca_machine.proofs.LossLemmas.{fits_kept}
use Rattle.gptp_bmca_machine.proofs.LostPortLemmas.{StaysAsNamed}
use Rattle.gptp_bmca_machine.proofs.LostTopsLemmas as twice
use Rattle.gptp_bmca_machine.proofs.LostTopLemmas.{IsTopState, TopHolds, held_last, top_drops, top_holds_on}
use Rattle.gptp_bmca_machine.proofs.SoundLemmas.{fits_sound_kept}
use Rattle.gptp_bmca_machine.proofs.StillLemmas.{StillSettles, levels_below}
use Rattle.gptp_bmca_machine.proofs.TurnLemmas.{TurnsBack, turns_then}
use Rattle.gptp_bmca_machine.proofs.TurnTreeLemmas.{IsOf, LeadsOut, turns_moves}

module _ (says : Spelling) (g : Snapshot) (n : Network) (lost : ℕ) (best : System) (IsCut : Tree → Type 0)
    (IsTurned : Turning → Type 0) (IsTwice : TopsTree → Type 0)
    (moves : FailureMoves g n lost best IsCut IsTurned IsTwice) (start : ℕ) where
  -- the links of one of the trees
  abbrev pub CutFalls : (t : Tree) → IsCut t → MachineState → Type 0
  CutFalls t cut = IsFalling says g n (IsCutOff n t.next) LeadsNowhere t.top best t.next t.base t.depth
      (moves_off g n t.top best t.next t.base t.depth (moves.cut t cut)) start

  abbrev pub TurnedFalls : (t : Turning) → IsTurned t → MachineState → Type 0
  TurnedFalls t is = IsFalling says g n (IsOf t.tree) (LeadsOut t.last t.out) t.top best best t.base t.depth
      (turns_moves g n t.tree t.top lost t.last t.out best t.base t.depth (moves.turned t is)) start

  -- What is known of each state since: links from unmoved systems stay, each link of a tree with one top is at its
  -- stage, and all is sound by the snapshot of before. Ports without a link hold nothing once a time is over.
  pub record FallBack (w : MachineState) : Type 0 where
    pub after : IsAftermath says g n w
    pub still : (f : ℕ) → StillSettles says g n f w
    pub sound : IsSoundOnLinks says g w
    pub cut : (t : Tree) → (is : IsCut t) → CutFalls t is w
    pub turned : (t : Turning) → (is : IsTurned t) → TurnedFalls t is w
    pub none : UnlinkedHoldNone g n start w

  -- one of the trees turns
  pub turns_back : (w : MachineState) → FallBack w → (t : Turning) → (is : IsTurned t)
      → TurnsBack says g n t.tree t.top lost t.last t.out best t.base t.depth (moves.turned t is) start w
  turns_back w back t is = record {
    back = record { after = back.after; still = back.still; falling = back.turned t is };
    sound = back.sound;
  }

  -- every step keeps that
  pub fall_on : (w w' : MachineState) → FallBack w → IsAftermath says g n w' → UnlinkedDrop g n w w'
      → UnlinkedHoldNone g n start w' → MachineSteps says w w' → FallBack w'
  fall_on w w' back after' drops none' step = record {
    after = after';
    still = λ f.
        levels_below says g n moves.well moves.left w w' back.after.kept after'.kept back.after.fits.stations
        after'.fits.stations step back.still (suc f) f (omega arith);
    sound = fits_sound_kept says g n moves.left w w' back.after.kept.calm after'.kept.calm back.after.fits step
        back.sound;
    cut = λ t is.
        falling_kept says g n (IsCutOff n t.next) LeadsNowhere t.top best t.next t.base t.depth
        (moves_off g n t.top best t.next t.base t.depth (moves.cut t is)) start w w' back.after after' step drops
        (back.cut t is) none' (λ v p u q out. absurd out);
    turned = λ t is.
        (turns_then says g n t.tree t.top lost t.last t.out best t.base t.depth (moves.turned t is) start w w'
        (turns_back w back t is) after' drops none' step).back.falling;
    none = none';
  }

  -- ---- what the tops hold of the failed system

  module _ (stay : ℤ → ℕ) (since delay : ℕ) (shorter : n.most ≤ delay)
      -- how long what it told stays says the interval that it named
      (long : (x p i : ℕ) → Joins g (port_of lost (suc p)) (port_of x (suc i))
      → n.interval_of (port_of lost (suc p)) + delay < stay (n.log_of (port_of lost (suc p)))) where
    -- what is known of each state: the lanes of its links stand
    pub record IsFailedState (w : MachineState) : Type 0 where
      pub lanes : (x p i : ℕ) → Joins g (port_of lost (suc p)) (port_of x (suc i)) → LaneStands says n lost p x i w
      pub named : StaysAsNamed stay w
      pub later : since ≤ w.time

    abbrev pub CutTopHolds : (t : Tree) → IsCut t → MachineState → Type 0
    CutTopHolds t is =
        TopHolds says g n (IsCutOff n t.next) LeadsNowhere lost t.top best t.next t.base t.depth moves.loses
        (moves_off g n t.top best t.next t.base t.depth (moves.cut t is)) (moves.cut_top t is) stay since delay shorter
        (long t.top)

    abbrev pub TurnedTopHolds : (t : Turning) → IsTurned t → MachineState → Type 0
    TurnedTopHolds t is =
        TopHolds says g n (IsOf t.tree) (LeadsOut t.last t.out) lost t.top best best t.base t.depth moves.loses
        (turns_moves g n t.tree t.top lost t.last t.out best t.base t.depth (moves.turned t is))
        (moves.turned_top t is) stay since delay shorter (long t.top)

    abbrev pub TwiceTopsHold : (t : TopsTree) → IsTwice t → MachineState → Type 0
    TwiceTopsHold t is =
        twice.TopsHold says g n lost t.top best t.next t.base t.depth moves.loses (moves.twice t is) stay since delay
        shorter long

    pub record TopsHold (w : MachineState) : Type 0 where
      pub cut : (t : Tree) → (is : IsCut t) → CutTopHolds t is w
      pub turned : (t : Turning) → (is : IsTurned t) → TurnedTopHolds t is w
      pub twice : (t : TopsTree) → (is : IsTwice t) → TwiceTopsHold t is w

    pub record FailsBack (w : MachineState) : Type 0 where
      pub state : IsFailedState w
      pub back : FallBack w
      pub tops : TopsHold w

    -- ports that aren't capable stay so, where their link is lost
    abbrev pub LostStayOff : MachineState → MachineState → Type 0
    LostStayOff w w' = (x p i : ℕ) → Joins g (port_of lost (suc p)) (port_of x (suc i))
        → (IsLinked n.graph (port_of x (suc i)) → ⊥) → (s s' : Station) (pu pu' : Port)
        → slice_get w.stations (n.place x) ≡ Some s → slice_get s.ports i ≡ Some pu
        → slice_get w'.stations (n.place x) ≡ Some s' → slice_get s'.ports i ≡ Some pu' → pu.held ≡ Disabled
        → pu'.held ≡ Disabled

    abbrev IsInTree : ℕ → Type 0
    IsInTree v = ((t : Tree) × IsCut t × IsBest n.graph v t.next)
        ⊎ (((t : Turning) × IsTurned t × In v t.tree) ⊎ ((t : TopsTree) × IsTwice t × IsBest n.graph v t.next))

    -- a system that is moved is one of a tree
    in_tree : (v : ℕ) → In v (clocks n.graph) → IsMoved g n v
        → IsInTree v
    in_tree v known moved = elim (moves.all v known) [ inl unmoved ↦ absurd (moved unmoved) | inr is ↦ is ]

    module _ (w : MachineState) (kept : IsAfterLoss n w) (fits : EverythingFits says g n w) (state : IsFailedState w)
      where
        cut_state : (t : Tree) → (is : IsCut t)
            → IsTopState says g n (IsCutOff n t.next) LeadsNowhere lost t.top best t.next t.base t.depth moves.loses
            (moves_off g n t.top best t.next t.base t.depth (moves.cut t is)) (moves.cut_top t is) stay since delay
            shorter (long t.top) w
        cut_state t is = record {
          kept = kept;
          fits = fits;
          lanes = state.lanes t.top;
          named = state.named;
          later = state.later;
        }

        turned_state : (t : Turning) → (is : IsTurned t)
            → IsTopState says g n (IsOf t.tree) (LeadsOut t.last t.out) lost t.top best best t.base t.depth moves.loses
            (turns_moves g n t.tree t.top lost t.last t.out best t.base t.depth (moves.turned t is))
            (moves.turned_top t is) stay since delay shorter (long t.top) w
        turned_state t is = record {
          kept = kept;
          fits = fits;
          lanes = state.lanes t.top;
          named = state.named;
          later = state.later;
        }

        twice_state : (t : TopsTree) → (is : IsTwice t)
            → twice.IsTopsState says g n lost t.top best t.next t.base t.depth moves.loses (moves.twice t is) stay since
            delay shorter long w
        twice_state t is = record {
          kept = kept;
          fits = fits;
          lanes = state.lanes;
          named = state.named;
          later = state.later;
        }

        -- what ports without a link hold was told before
        pub dark_by : TopsHold w → UnlinkedHoldOld g n w
        dark_by tops i s place r at live other holds none = by (in_tree s.clock known other)
          where
            known : In s.clock (clocks n.graph)
            known = In-clocks n.graph (station_system s) (kept.calm.facts.stations i s at live).known

            there : slice_get w.stations (n.place s.clock) ≡ Some s
            there = subst (λ j. slice_get w.stations j ≡ Some s) (kept.calm.placed i s at) at

            by : IsInTree s.clock → IsOldTold g n s.clock r.said
            by (inl (t, cut, in_t)) =
                held_last says g n (IsCutOff n t.next) LeadsNowhere lost t.top best t.next t.base t.depth moves.loses
                (moves_off g n t.top best t.next t.base t.depth (moves.cut t cut)) (moves.cut_top t cut) stay since
                delay shorter (long t.top) w (cut_state t cut) (tops.cut t cut) s.clock in_t s there place r holds none
            by (inr (inr (t, is, in_t))) =
                twice.told_before says g n lost t.top best t.next t.base t.depth moves.loses (moves.twice t is) stay
                since delay shorter long w (twice_state t is) (tops.twice t is) s.clock in_t s there place r holds none
            by (inr (inl (t, is, in_t))) =
                held_last says g n (IsOf t.tree) (LeadsOut t.last t.out) lost t.top best best t.base t.depth moves.loses
                (turns_moves g n t.tree t.top lost t.last t.out best t.base t.depth (moves.turned t is))
                (moves.turned_top t is) stay since delay shorter (long t.top) w (turned_state t is) (tops.turned t is)
                s.clock in_t s there place r holds none

    module _ (w w' : MachineState) (is : FailsBack w) (kept' : IsAfterLoss n w') (state' : IsFailedState w')
        (off : LostStayOff w w') (step : MachineSteps says w w') where
      fits' : EverythingFits says g n w'
      fits' = fits_kept says g n moves.left w w' is.back.after.kept.calm kept'.calm step is.back.after.fits

      tops' : TopsHold w'
      tops' = record {
        cut = λ t cut.
            top_holds_on says g n (IsCutOff n t.next) LeadsNowhere lost t.top best t.next t.base t.depth moves.loses
            (moves_off g n t.top best t.next t.base t.depth (moves.cut t cut)) (moves.cut_top t cut) stay since delay
            shorter (long t.top) w w' (cut_state w is.back.after.kept is.back.after.fits is.state t cut)
            (cut_state w' kept' fits' state' t cut) step (off t.top) (is.tops.cut t cut);
        turned = λ t turned.
            top_holds_on says g n (IsOf t.tree) (LeadsOut t.last t.out) lost t.top best best t.base t.depth moves.loses
            (turns_moves g n t.tree t.top lost t.last t.out best t.base t.depth (moves.turned t turned))
            (moves.turned_top t turned) stay since delay shorter (long t.top) w w'
            (turned_state w is.back.after.kept is.back.after.fits is.state t turned)
            (turned_state w' kept' fits' state' t turned) step (off t.top) (is.tops.turned t turned);
        twice = λ t is_t.
            twice.tops_hold_on says g n lost t.top best t.next t.base t.depth moves.loses (moves.twice t is_t) stay
            since delay shorter long w w' (twice_state w is.back.after.kept is.back.after.fits is.state t is_t)
            (twice_state w' kept' fits' state' t is_t) step off (is.tops.twice t is_t);
      }

      -- and what they hold they held
      pub drops : UnlinkedDrop g n w w'
      drops v s s' place r' other at at' live clock none holds = by (in_tree v known other)
        where
          known : In v (clocks n.graph)
          known =
              subst (λ c. In c (clocks n.graph)) clock
              (In-clocks n.graph (station_system s') (kept'.calm.facts.stations (n.place v) s' at' live).known)

          by : IsInTree v → (r : Reception) × HoldsAt s place r
          by (inl (t, cut, in_t)) =
              top_drops says g n (IsCutOff n t.next) LeadsNowhere lost t.top best t.next t.base t.depth moves.loses
              (moves_off g n t.top best t.next t.base t.depth (moves.cut t cut)) (moves.cut_top t cut) stay since delay
              shorter (long t.top) w w' (cut_state w is.back.after.kept is.back.after.fits is.state t cut)
              (cut_state w' kept' fits' state' t cut) step (off t.top) (is.tops.cut t cut) v in_t s s' place r' at at'
              none holds
          by (inr (inr (t, is_t, in_t))) =
              twice.tops_drop says g n lost t.top best t.next t.base t.depth moves.loses (moves.twice t is_t) stay since
              delay shorter long w w' (twice_state w is.back.after.kept is.back.after.fits is.state t is_t)
              (twice_state w' kept' fits' state' t is_t) step off (is.tops.twice t is_t) v s s' place r' in_t at at'
              none holds
          by (inr (inl (t, turned, in_t))) =
              top_drops says g n (IsOf t.tree) (LeadsOut t.last t.out) lost t.top best best t.base t.depth moves.loses
              (turns_moves g n t.tree t.top lost t.last t.out best t.base t.depth (moves.turned t turned))
              (moves.turned_top t turned) stay since delay shorter (long t.top) w w'
              (turned_state w is.back.after.kept is.back.after.fits is.state t turned)
              (turned_state w' kept' fits' state' t turned) step (off t.top) (is.tops.turned t turned) v in_t s s' place
              r' at at' none holds

      -- so every step keeps it, where ports without a link hold nothing once that time is over
      pub fails_on : UnlinkedHoldNone g n start w' → FailsBack w'
      fails_on none' = record {
        state = state';
        back = fall_on w w' is.back
            (record { kept = kept'; fits = fits'; dark = dark_by w' kept' fits' state' tops' }) drops none' step;
        tops = tops';
      }
