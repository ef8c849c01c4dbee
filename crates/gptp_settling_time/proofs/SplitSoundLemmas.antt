-- A system failed, and all beyond it is cut off. What is in flight is sound once trees have left their old choices, and
-- in the end what is held is.
use Rattle.std.proofs.Common.{◌≡◌, ◌⊎◌, ◌<◌, ◌+◌, ℕ, suc, true, Some, slice_get, refl, sym, subst, inl, inr, arith}
use Rattle.gptp_lists.specs.Members.{In}
use Rattle.gptp_graph.specs.Best.{IsBest}
use Rattle.gptp_graph.specs.Snapshot.{Joins, PortIdentity, Snapshot, System, clocks, port_of}
use Rattle.gptp_graph.proofs.BestLemmas.{IsBest-unique}
use Rattle.gptp_bmca_machine.specs.Clean.{CameSound}
use Rattle.gptp_bmca_machine.specs.CutTree.{Tree}
use Rattle.gptp_bmca_machine.specs.FailureTrees.{FailureMoves, Turning}
use Rattle.gptp_bmca_machine.specs.Frame.{Spelling}
use Rattle.gptp_bmca_machine.specs.LossLaws.{Unmoved}
use Rattle.gptp_bmca_machine.specs.Network.{Network}
use Rattle.gptp_bmca_machine.specs.SoundEverywhere.{StationIsSound}
use Rattle.gptp_bmca_machine.specs.SoundLaws.{AllAreNear}
use Rattle.gptp_bmca_machine.specs.Station.{HoldsAt, MachineState, Reception, Station}
use Rattle.gptp_bmca_machine.specs.TwoTops.{TopsTree}
use Rattle.gptp_bmca_machine.proofs.CutTreeLemmas.{IsCutOff, LeadsNowhere, moves_off}
use Rattle.gptp_bmca_machine.proofs.FailureTreesLemmas.{FallBack}
use Rattle.gptp_bmca_machine.proofs.FallHeldLemmas.{holds_in_tree, old_in_time}
use Rattle.gptp_bmca_machine.proofs.FallLemmas.{HasChoice, HeldFree, free_holds, says_whole}
use Rattle.gptp_bmca_machine.proofs.PlaceLemmas.{same_there}
use Rattle.gptp_bmca_machine.proofs.StaleEndLemmas.{IsStaleState}
use Rattle.gptp_settling_time.specs.TreeLosses.{CutsAllBeyond, IsTreeCutOff, IsTreeCutTwice}
use Rattle.gptp_settling_time.proofs.AtRestLemmas.{TellsSettled}
use Rattle.gptp_settling_time.proofs.FallAlwaysLemmas.{fallen_by, falls_within}
use Rattle.gptp_settling_time.proofs.SplitTracesLemmas.{GetsWorse, SaysSoundOrLong, none_worse}
use Rattle.gptp_settling_time.proofs.StillSoundLemmas.{AllSayStill, HeldWereLinked, at_place, came_still, known, tells_still}
use Rattle.gptp_settling_time.proofs.ToldAnewLemmas.{AllTellSound}
use Rattle.gptp_settling_time.proofs.TopsSoundLemmas.{holds_left, tells_left}

module _ (says : Spelling) (g : Snapshot) (n : Network) (lost : ℕ) (best : System) (IsCut : Tree → Type 0)
    (IsTurned : Turning → Type 0) (IsTwice : TopsTree → Type 0)
    (moves : FailureMoves g n lost best IsCut IsTurned IsTwice) (start : ℕ) (near : AllAreNear g)
    (cuts : CutsAllBeyond g n.graph) (cut_is : (t : Tree) → IsTreeCutOff g n.graph best t → IsCut t)
    (twice_is : (t : TopsTree) → IsTreeCutTwice g n.graph best t → IsTwice t) where
  abbrev Back : MachineState → Type 0
  Back = FallBack says g n lost best IsCut IsTurned IsTwice moves start

  -- each live system is unmoved, or in a tree with one top, or two
  in_tree : (v : ℕ) → In v (clocks n.graph) → Unmoved g n v
      ⊎ (((t : Tree) × IsCut t × IsBest n.graph v t.next) ⊎ ((t : TopsTree) × IsTwice t × IsBest n.graph v t.next))
  in_tree v lives = elim (cuts.each v lives) [
    | inl stays ↦ inl (record { live = lives; best = stays.best; far = stays.far })
    | inr (inl (b, t, is, in_v)) ↦
        let worse : GetsWorse g n.graph v =
        record { best = b; next = t.next; was = is.was_best v in_v; is = in_v; worse = is.worse } in
        let one : b ≡ best = IsBest-unique g v b best moves.left.graph (is.was_best v in_v) (was worse) in
        inr (inl (t, cut_is t (subst (λ c. IsTreeCutOff g n.graph c t) one is), in_v))
    | inr (inr (b, t, is, in_v)) ↦
        let worse : GetsWorse g n.graph v =
        record { best = b; next = t.next; was = is.was_best v in_v; is = in_v; worse = is.worse } in
        let one : b ≡ best = IsBest-unique g v b best moves.left.graph (is.was_best v in_v) (was worse) in
        inr (inr (t, twice_is t (subst (λ c. IsTreeCutTwice g n.graph c t) one is), in_v))
  ]
    where
      was : GetsWorse g n.graph v → IsBest g v best
      was worse = elim (moves.all v lives) [
        | inl stays ↦ absurd (none_worse g n moves.well moves.left v worse stays)
        | inr (inl (t, is, in_v)) ↦ (moves.cut t is).was_best v in_v
        | inr (inr (inl (t, is, in_v))) ↦ (moves.turned t is).was_best v in_v
        | inr (inr (inr (t, is, in_v))) ↦ (moves.twice t is).was_best v in_v
      ]

  -- ---- once trees have left their old choices

  -- what is known of trees with two tops
  abbrev pub StaleSince : MachineState → Type 0
  StaleSince w = (t : TopsTree) → (is : IsTwice t)
      → IsStaleState says n t.next t.top t.depth (moves.twice t is).tree best.identity t.base (moves.twice t is).worse
      start w

  module _ (w : MachineState) (back : Back w) (stale : StaleSince w) (linked : HeldWereLinked g n w)
      (all : AllSayStill says g n w) (late : fallen_by n start < w.time) where
    -- so one of a tree has
    has_left : (t : Tree) → (is : IsCut t) → (s : Station) → slice_get w.stations (n.place s.clock) ≡ Some s
        → IsBest n.graph s.clock t.next → HasChoice s best (t.base + t.depth s.clock) → ⊥
    has_left t is s at in_s choice =
        let by = old_in_time says g n (IsCutOff n t.next) LeadsNowhere t.top best t.next t.base t.depth
        (moves_off g n t.top best t.next t.base t.depth (moves.cut t is)) start w back.after (back.cut t is)
        (t.depth s.clock) s.clock refl in_s
        (λ x at_x. subst (λ y. HasChoice y best (t.base + t.depth s.clock))
        (same_there w.stations (n.place s.clock) s x at at_x) choice) in
        let within = falls_within n start (t.depth s.clock) ((moves.cut t is).deep s.clock in_s) in
        omega (arith, by, within, late)

    -- all that is told is sound
    pub all_tell : AllTellSound n.graph w
    all_tell s i port a at live own master j l f at_l among from = elim (in_tree s.clock lives) [
      | inl stays ↦ tells_still says g n moves.well moves.left near cuts w back.after.kept back.after.fits.stations
          back.still linked i s at live stays (all.stations i s at live) port a own
      | inr (inr (t, is, in_s)) ↦ record {
        sender = lives;
        source = own.source;
        sound = inr (tells_left says n t.next t.top t.depth (moves.twice t is).tree best.identity t.base
            (moves.twice t is).worse (moves.twice t is).near start w (stale t is) late s.clock in_s s
            (at_place says g n moves.well moves.left near cuts w back.after.kept back.after.fits.stations back.still
            linked i s at live) port a own);
      }
      | inr (inl (t, is, in_s)) ↦ record {
        sender = lives;
        source = own.source;
        sound = inr (says_whole says g n (IsCutOff n t.next) LeadsNowhere t.top best t.next t.base t.depth
            (moves_off g n t.top best t.next t.base t.depth (moves.cut t is)) start w back.after s.clock in_s s
            (at_place says g n moves.well moves.left near cuts w back.after.kept
            back.after.fits.stations back.still linked i s at
            live)
            (holds_in_tree says g n (IsCutOff n t.next) LeadsNowhere t.top best t.next t.base t.depth
            (moves_off g n t.top best t.next t.base t.depth (moves.cut t is)) start w back.after (back.cut t is) s.clock
            in_s) (has_left t is s (at_place says g n moves.well moves.left near cuts w back.after.kept
            back.after.fits.stations back.still linked i s at
            live) in_s) port a own);
      }
    ]
      where
        lives : In s.clock (clocks n.graph)
        lives = known says g n moves.well moves.left near cuts w back.after.kept
            back.after.fits.stations back.still linked i s
            at live

    -- and all that is held, where what is held has the steps of who told it
    pub all_hold : ((i : ℕ) (s : Station) (place : ℕ) (r : Reception) (from : PortIdentity)
        → slice_get w.stations i ≡ Some s → s.live ≡ true → HoldsAt s place r
        → Joins n.graph from (port_of s.clock (suc place))
        → (far : ℕ) × TellsSettled n.graph from.clock far r.said) → (i : ℕ) (s : Station)
        → slice_get w.stations i ≡ Some s → s.live ≡ true → StationIsSound n.graph s
    all_hold settled i s at live place r holds = elim (in_tree s.clock
        (known says g n moves.well moves.left near cuts w back.after.kept back.after.fits.stations back.still linked i s
        at live)) [
          | inl stays ↦ unmoved stays
          | inr (inl (t, is, in_s)) ↦ of_tree t is in_s
          | inr (inr (t, is, in_s)) ↦
              let h = holds_left says n t.next t.top t.depth (moves.twice t is).tree best.identity t.base
              (moves.twice t is).worse (moves.twice t is).near start w (stale t is) late s.clock in_s s
              there place r holds in
              record {
                from = port_of h.v (suc h.p);
                joins = h.joins;
                source = h.source;
                sound = inr h.whole;
              }
        ]
      where
        there : slice_get w.stations (n.place s.clock) ≡ Some s
        there = at_place says g n moves.well moves.left near cuts w back.after.kept
            back.after.fits.stations back.still linked
            i s at live

        unmoved : Unmoved g n s.clock → CameSound n.graph s.clock (suc place) r
        unmoved stays =
            let c = came_still says g n moves.well moves.left near cuts w back.after.kept back.after.fits.stations
            back.still linked i s at live stays place r holds in
            record {
              from = c.from;
              joins = c.joins;
              source = c.source;
              sound = elim (subst (λ (q : PortIdentity). SaysSoundOrLong n.graph q.clock r.said) c.source
                  (all.stations i s at live place r holds
                  (subst (λ (q : PortIdentity). Unmoved g n q.clock) (sym c.source) c.stays))) [
                    | inl sound ↦ sound
                    | inr long ↦
                        let (far, tells) = settled i s place r c.from at live holds c.joins in
                        let more = long far tells.here in
                        let steps = tells.steps in
                        absurd (omega (arith, more, steps))
                  ];
            }

        of_tree : (t : Tree) → IsCut t → IsBest n.graph s.clock t.next → CameSound n.graph s.clock (suc place) r
        of_tree t is in_s = record {
          from = port_of h.v (suc h.p);
          joins = h.joins;
          source = h.source;
          sound = inr h.whole;
        }
          where
            h : HeldFree says g n (IsCutOff n t.next) LeadsNowhere t.top best t.next t.base t.depth
                (moves_off g n t.top best t.next t.base t.depth (moves.cut t is)) start s.clock place r
            h =
                free_holds says g n (IsCutOff n t.next) LeadsNowhere t.top best t.next t.base t.depth
                (moves_off g n t.top best t.next t.base t.depth (moves.cut t is)) start w back.after s.clock in_s s
                there
                (holds_in_tree says g n (IsCutOff n t.next) LeadsNowhere t.top best t.next t.base t.depth
                (moves_off g n t.top best t.next t.base t.depth (moves.cut t is)) start w back.after (back.cut t is)
                s.clock in_s) (has_left t is s there in_s) place r holds
