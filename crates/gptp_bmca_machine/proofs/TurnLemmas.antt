-- A tree turns by its one way out: what is known of each state since, and what comes in from outside.
use Rattle.std.proofs.Common.{◌≡◌, ◌⊎◌, ◌<◌, ℕ, suc, true, List, Some, slice_get, sym, ap, subst, ◌∙◌, inl, inr, arith}
use Rattle.gptp_lists.specs.Members.{In}
use Rattle.gptp_graph.specs.Distance.{IsDistance}
use Rattle.gptp_graph.specs.Snapshot.{PortIdentity, Snapshot, System, clocks}
use Rattle.gptp_graph.proofs.ExistenceLemmas.{distance_exists}
use Rattle.gptp_graph.proofs.PathBoundLemmas.{IsDistance-within}
use Rattle.gptp_bmca_machine.specs.Acts.{MachineSteps}
use Rattle.gptp_bmca_machine.specs.Clean.{IsWorse, Whole}
use Rattle.gptp_bmca_machine.specs.Frame.{Announce, Spelling}
use Rattle.gptp_bmca_machine.specs.LossLaws.{IsAfterLoss}
use Rattle.gptp_bmca_machine.specs.Network.{Network}
use Rattle.gptp_bmca_machine.specs.Reacts.{IsOwn}
use Rattle.gptp_bmca_machine.specs.SoundLaws.{IsSoundOnLinks, UnlinkedAreOff}
use Rattle.gptp_bmca_machine.specs.Station.{MachineState, Station}
use Rattle.gptp_bmca_machine.specs.TurnTree.{TurnsTree}
use Rattle.gptp_bmca_machine.proofs.FallEndLemmas.{FallsBack, after_step, falls_then}
use Rattle.gptp_bmca_machine.proofs.UnlinkedLemmas.{UnlinkedDrop, UnlinkedHoldNone, off_drop, off_none}
use Rattle.gptp_bmca_machine.proofs.FallLemmas.{IsAftermath}
use Rattle.gptp_bmca_machine.proofs.LinkStepLemmas.{lives_at}
use Rattle.gptp_bmca_machine.proofs.MovedTreeLemmas.{MovesTree}
use Rattle.gptp_bmca_machine.proofs.RestLemmas.{Chooses}
use Rattle.gptp_bmca_machine.proofs.SoundLemmas.{fits_sound_kept, says_sound}
use Rattle.gptp_bmca_machine.proofs.StillLemmas.{StillSettles, chooses_still, levels_below, live_before}
use Rattle.gptp_bmca_machine.proofs.TurnTreeLemmas.{IsOf, LeadsOut, out_lives, out_unmoved, out_was_best, out_whole, turns_moves}

module _ (says : Spelling) (g : Snapshot) (n : Network) (tree : List ℕ) (top other last out : ℕ) (best : System)
    (base : ℕ) (depth : ℕ → ℕ) (t : TurnsTree g n tree top other last out best base depth) where
  abbrev m : MovesTree g n (IsOf tree) (LeadsOut last out) top best best base depth
  m = turns_moves g n tree top other last out best base depth t

  -- ---- the end of the way out

  -- it is as far as it was, and near
  pub record OutIsAt : Type 0 where
    pub d : ℕ
    pub there : IsDistance g out d
    pub now : IsDistance n.graph out d
    pub near : d < 255

  pub out_is_at : OutIsAt
  out_is_at = go (distance_exists g out t.left.graph (live_before g n t.well t.left out lives))
    where
      lives : In out (clocks n.graph)
      lives = out_lives g n tree top other last out best base depth t

      go : ((d : ℕ) × IsDistance g out d) → OutIsAt
      go (d, there) =
          let now = (out_unmoved g n tree top other last out best base depth t).far d there in
          let within = IsDistance-within n.graph n.reach out d t.paths now in
          let few = t.few in
          record { d = d; there = there; now = now; near = omega (arith, within, few) }

  module _ (w : MachineState) (a : IsAftermath says g n w) (still : (f : ℕ) → StillSettles says g n f w) (s : Station)
      (at : slice_get w.stations (n.place out) ≡ Some s) where
    abbrev o : OutIsAt
    o = out_is_at

    -- it keeps its choice
    pub out_chooses : Chooses s best o.d
    out_chooses =
        chooses_still says g n t.well t.left w a.kept a.fits.stations o.d (λ e less. still e) o.near out best s at
        (out_unmoved g n tree top other last out best base depth t)
        (out_was_best g n tree top other last out best base depth t) o.there

    pub out_is : (s.live ≡ true) × (s.clock ≡ out)
    out_is = lives_at n w a.kept.calm out (out_lives g n tree top other last out best base depth t) s at

    module _ (sound : IsSoundOnLinks says g w) (number : ℕ) (b : Announce) (own : IsOwn s number b) where
      -- what it says is a trace of before
      pub out_says : Whole g out b
      out_says = elim (says_sound says g n t.left w.time s (a.kept.calm.facts.stations (n.place out) s at out_is.0)
          (λ place r holds. sound.stations (n.place out) s place r at out_is.0 holds) number b own) [
            | inr whole ↦ subst (λ c. Whole g c b) out_is.1 whole
            | inl worse ↦
                let over = subst (λ c. IsWorse g c b) out_is.1 worse best
                (out_was_best g n tree top other last out best base depth t) in
                let root = own.root ∙ out_chooses.root in
                absurd (omega (arith, over, root))
          ]

      -- so it is of what is left, or names the system at the other end
      pub out_tells : Whole t.ways out b ⊎ In last b.path
      out_tells =
          out_whole g n tree top other last out best base depth t b out_says (own.root ∙ out_chooses.root)

  -- ---- a state

  module _ (start : ℕ) where
    -- the tree falls back, and all is sound by the snapshot of before
    pub record TurnsBack (w : MachineState) : Type 0 where
      pub back : FallsBack says g n (IsOf tree) (LeadsOut last out) top best best base depth m start w
      pub sound : IsSoundOnLinks says g w

    -- every step keeps it
    pub turns_then : (w w' : MachineState) → TurnsBack w → IsAftermath says g n w' → UnlinkedDrop g n w w'
        → UnlinkedHoldNone g n start w' → MachineSteps says w w' → TurnsBack w'
    turns_then w w' is after' drops none' step = record {
      back = falls_then says g n (IsOf tree) (LeadsOut last out) top best best base depth m start w w' is.back after'
          step drops none' (λ v p u q (is_u, is_v) joins touch mid call z a sent from said.
          let own = (call.reacts.tells z a sent said).0 in
          let clock = call.reacts.clock ∙ ap (λ (e : PortIdentity). e.clock) (sym from) ∙ is_v in
          let at = subst (λ i. slice_get w'.stations i ≡ Some call.s')
          (after'.kept.calm.placed call.place call.s' call.there ∙ ap n.place clock) call.there in
          subst (λ c. Whole t.ways v a ⊎ In c a.path) (sym is_u)
          (subst (λ c. Whole t.ways c a ⊎ In last a.path) (sym is_v)
          (out_tells w' after' still' call.s' at sound' z.port a own)));
      sound = sound';
    }
      where
        still' : (f : ℕ) → StillSettles says g n f w'
        still' f =
            levels_below says g n t.well t.left w w' is.back.after.kept after'.kept is.back.after.fits.stations
            after'.fits.stations step is.back.still (suc f) f (omega arith)

        sound' : IsSoundOnLinks says g w'
        sound' =
            fits_sound_kept says g n t.left w w' is.back.after.kept.calm after'.kept.calm is.back.after.fits step
            is.sound

    -- so where ports without a link are off
    pub turns_on : (w w' : MachineState) → TurnsBack w → IsAfterLoss n w' → UnlinkedAreOff n.graph w'
        → MachineSteps says w w' → TurnsBack w'
    turns_on w w' is kept' dark' step =
        turns_then w w' is
        (after_step says g n (IsOf tree) (LeadsOut last out) top best best base depth m start w w'
        is.back.after.kept.calm kept' dark' step is.back.after.fits) (off_drop g n w w' dark')
        (off_none g n start w' dark') step
