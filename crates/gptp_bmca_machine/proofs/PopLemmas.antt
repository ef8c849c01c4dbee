-- A frame is taken off a lane: what that does to the ends of a link, and to its stage.
use Rattle.std.proofs.Common.{◌≡◌, ◌≢◌, ◌≤◌, ℕ, List, Some, slice_get, sym, ap, subst, ◌∙◌, inl, inr}
use Rattle.gptp_lists.specs.Members.{In}
use Rattle.gptp_bmca_machine.specs.Frame.{Spelling, AnnounceFrame, Lane}
use Rattle.gptp_bmca_machine.specs.Station.{Port, MachineState}
use Rattle.gptp_bmca_machine.specs.Acts.{Pops}
use Rattle.gptp_bmca_machine.specs.LinkStage.{Wiring, FrameSaysAnnounce, LinkStage}
use Rattle.gptp_bmca_machine.specs.Link.{IsTeller, IsLaneOf, LaneIsOnTime, Ends, Stand, LinkSettles}
use Rattle.gptp_bmca_machine.proofs.LinkStageLemmas.{misses}

module _ (says : Spelling) (k : Wiring) where
  -- the link keeps its ends when a frame is taken off a lane
  pub ends_popped : (j : ℕ) (l : Lane) (f : AnnounceFrame) (fs : List AnnounceFrame) (w w' : MachineState)
      → Pops j l f fs w w' → Ends k w
      → Ends k w'
  ends_popped j l f fs w w' pops ends = record {
    in_time = ends.in_time;
    claimed = ends.claimed;
    entry = ends.entry;
    apart = ends.apart;
    teller_stands = λ i m at. ends.teller_stands i m (pops.stations i m at);
    hearer_stands = λ i m at. ends.hearer_stands i m (pops.stations i m at);
    hearer_lives = λ s at. ends.hearer_lives s (pops.stations k.hearer_place s at);
    lane = λ m at. elim (pops.lanes k.lane m at) [
      | inl (same, is) ↦ subst (IsLaneOf k) (sym is) (rest (ends.lane l (there same)))
      | inr (other, stood) ↦ ends.lane m stood
    ];
    only_lane = λ n m at to. elim (pops.lanes n m at) [
      | inl (same, is) ↦ same ∙ ends.only_lane j l pops.here (ap (λ (x : Lane). x.to) (sym is) ∙ to)
      | inr (other, stood) ↦ ends.only_lane n m stood to
    ];
    frames = λ m g at h. subst (λ t. LaneIsOnTime k t g) (sym pops.time) (elim (pops.lanes k.lane m at) [
      | inl (same, is) ↦ ends.frames l g (there same)
          (subst (In g) (sym pops.frames) (inr (subst (λ (x : Lane). In g x.frames) is h)))
      | inr (other, stood) ↦ ends.frames m g stood h
    ]);
    teller = λ s q at port. subst (λ t. IsTeller k t s q) (sym pops.time)
        (ends.teller s q (pops.stations k.teller_place s at) port);
    hearer = λ s q at port since. ends.hearer s q (pops.stations k.hearer_place s at) port
        (subst (λ t. k.from ≤ t) pops.time since);
  }
    where
      there : k.lane ≡ j → slice_get w.lanes k.lane ≡ Some l
      there same = subst (λ n. slice_get w.lanes n ≡ Some l) (sym same) pops.here

      rest : IsLaneOf k l → IsLaneOf k (record l { frames = fs })
      rest h = record { from = h.from; to = h.to; loss = h.loss; is_up = h.is_up }

  -- what stands after a frame was taken off stood before, with the lane's frames after that one
  abbrev pub stood_popped : (j : ℕ) (l : Lane) (f : AnnounceFrame) (fs : List AnnounceFrame) (w w' : MachineState)
      → Pops j l f fs w w'
      → (m : Lane)
      → slice_get w.lanes k.lane ≡ Some m → (pv pu : Port) (l' : Lane) → Stand k w' pv pu l' → Stand k w pv pu m
  stood_popped j l f fs w w' pops m at pv pu l' stand = record {
    v = stand.v;
    u = stand.u;
    teller = pops.stations k.teller_place stand.v stand.teller;
    teller_port = stand.teller_port;
    hearer = pops.stations k.hearer_place stand.u stand.hearer;
    hearer_port = stand.hearer_port;
    lane = at;
  }

  -- a frame of another lane
  pub other_lane : (j : ℕ) (l : Lane) (f : AnnounceFrame) (fs : List AnnounceFrame) (w w' : MachineState)
      → Pops j l f fs w w' → k.lane ≢ j
      → LinkSettles says k w → LinkSettles says k w'
  other_lane j l f fs w w' pops other link since pv pu l' stand settled =
      elim (pops.lanes k.lane l' stand.lane) [
        | inl (same, is) ↦ absurd (other same)
        | inr (apart, stood) ↦ link (subst (λ t. k.from ≤ t) pops.time since) pv pu l'
            (stood_popped j l f fs w w' pops l' stood pv pu l' stand) settled
      ]

  -- a frame of this lane that says no Announce
  pub silent_frame : (j : ℕ) (l : Lane) (f : AnnounceFrame) (fs : List AnnounceFrame) (w w' : MachineState)
      → Pops j l f fs w w' → k.lane ≡ j
      → (k.from ≤ w.time → (pv pu : Port) → Stand k w pv pu l → FrameSaysAnnounce says f → ⊥)
      → LinkSettles says k w → LinkSettles says k w'
  silent_frame j l f fs w w' pops same silent link since pv pu l' stand settled =
      elim (pops.lanes k.lane l' stand.lane) [
        | inl (here, is) ↦ subst (λ (x : Lane). LinkStage says k pv.announce pu.held x.frames) (sym is)
            (misses says k pv.announce pu.held f fs (silent since' pv pu stood)
            (subst (LinkStage says k pv.announce pu.held) pops.frames (link since' pv pu l stood settled)))
        | inr (apart, at) ↦ absurd (apart same)
      ]
    where
      since' : k.from ≤ w.time
      since' = subst (λ t. k.from ≤ t) pops.time since

      stood : Stand k w pv pu l
      stood =
          stood_popped j l f fs w w' pops l (subst (λ n. slice_get w.lanes n ≡ Some l) (sym same) pops.here) pv pu l'
          stand
