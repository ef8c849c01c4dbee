-- Trees that a failure moved go on to fall back, and to settle, where lanes are emptied that no link has.
use Rattle.std.proofs.Common.{◌≡◌, ◌⊎◌, ◌<◌, ◌≤◌, ◌+◌, ℕ, ℤ, suc, pred, true, false, List, [], Some, slice_get, sym, ap, subst, ◌∙◌, inl, inr, arith}
use Rattle.gptp_lists.specs.Members.{In}
use Rattle.gptp_graph.specs.Best.{IsBest}
use Rattle.gptp_graph.specs.Snapshot.{IsLinked, IsWellFormed, Joins, PortIdentity, Snapshot, System, clocks, port_of}
use Rattle.gptp_graph.proofs.LinkLemmas.{Joins-clock, Joins-sym}
use Rattle.gptp_bmca_machine.specs.CutTree.{Tree}
use Rattle.gptp_bmca_machine.specs.FailureTrees.{FailureMoves, Turning}
use Rattle.gptp_bmca_machine.specs.Frame.{AnnounceFrame, Lane, Spelling}
use Rattle.gptp_bmca_machine.specs.Link.{LinkSettles, Stand}
use Rattle.gptp_bmca_machine.specs.LinkStage.{Wiring}
use Rattle.gptp_bmca_machine.specs.LossLaws.{EverythingFits, IsAfterLoss, IsWhatIsLeft}
use Rattle.gptp_bmca_machine.specs.Network.{Network}
use Rattle.gptp_bmca_machine.specs.SoundLaws.{IsSoundOnLinks}
use Rattle.gptp_bmca_machine.specs.Station.{Held, MachineState, Port, Station}
use Rattle.gptp_bmca_machine.specs.TwoTops.{Side, IsTreeOfTops, TopsTree}
use Rattle.gptp_bmca_machine.proofs.CutTreeLemmas.{IsCutOff, LeadsNowhere, moves_off}
use Rattle.gptp_bmca_machine.proofs.FailureEndLemmas.{FailureSettles, TopsTimes}
use Rattle.gptp_bmca_machine.proofs.FailureTreesLemmas.{FailsBack, FallBack, IsFailedState}
use Rattle.gptp_bmca_machine.proofs.FallLemmas.{DownStage, IsFalling, IsFree, IsNewTold, falls_by}
use Rattle.gptp_bmca_machine.proofs.LinkEndsLemmas.{telling}
use Rattle.gptp_bmca_machine.proofs.LinkStepLemmas.{AtLink, LaneStands, lives_at}
use Rattle.gptp_bmca_machine.proofs.LostPortLemmas.{HasLetGo, HoldsLast}
use Rattle.gptp_bmca_machine.proofs.LostTopLemmas.{TopHolds}
use Rattle.gptp_bmca_machine.proofs.LostTopsLemmas as twice
use Rattle.gptp_bmca_machine.proofs.MovedLevelLemmas.{Times as MovedTimes}
use Rattle.gptp_bmca_machine.proofs.MovedTreeLemmas.{MovesTree}
use Rattle.gptp_bmca_machine.proofs.PlaceLemmas.{same_there}
use Rattle.gptp_bmca_machine.proofs.StaleLemmas.{IsMixed}
use Rattle.gptp_bmca_machine.proofs.StaleLevelLemmas.{FallsFromTops}
use Rattle.gptp_bmca_machine.proofs.StaleStepLemmas.{IsStage, Withdraws}
use Rattle.gptp_bmca_machine.proofs.StaleToldLemmas.{StaleComes, stale_root}
use Rattle.gptp_bmca_machine.proofs.StillLemmas.{StillSettles, station_of, still}
use Rattle.gptp_bmca_machine.proofs.TurnLemmas.{OutIsAt, out_is_at}
use Rattle.gptp_bmca_machine.proofs.TurnLevelLemmas.{Times}
use Rattle.gptp_bmca_machine.proofs.TwoTopsLemmas.{Tree as InTops}
use Rattle.gptp_bmca_machine.proofs.TurnTreeLemmas.{IsOf, LeadsOut, turns_moves}

-- each live system stands as it did, and each lane is as it was, or down and empty
pub record AreEmptied (w w' : MachineState) : Type 0 where
  pub time : w'.time ≡ w.time
  pub stations : (i : ℕ) (s : Station) → slice_get w'.stations i ≡ Some s → s.live ≡ true
      → slice_get w.stations i ≡ Some s
  pub lanes : (j : ℕ) (l : Lane) → slice_get w'.lanes j ≡ Some l
      → (slice_get w.lanes j ≡ Some l) ⊎ ((l.frames ≡ []) × (l.is_up ≡ false))

module _ (says : Spelling) (g : Snapshot) (n : Network) (well : IsWellFormed n.graph) (left : IsWhatIsLeft g n)
    (w w' : MachineState) (emptied : AreEmptied w w') (kept' : IsAfterLoss n w') (fits : EverythingFits says g n w)
  where
    stood : (x : ℕ) → In x (clocks n.graph) → (s : Station) → slice_get w'.stations (n.place x) ≡ Some s
        → slice_get w.stations (n.place x) ≡ Some s
    stood x known s at = emptied.stations (n.place x) s at (lives_at n w' kept'.calm x known s at).0

    -- a lane that a link has is as it was
    stood_lane : (p q : PortIdentity) → Joins n.graph p q → (l : Lane) → slice_get w'.lanes (n.lane p) ≡ Some l
        → slice_get w.lanes (n.lane p) ≡ Some l
    stood_lane p q joins l at = elim (emptied.lanes (n.lane p) l at) [
      | inl there ↦ there
      | inr (none, off) ↦
          let has = kept'.calm.lanes p q joins in
          let one = same_there w'.lanes (n.lane p) has.lane l has.there at in
          absurd (let both : true ≡ false = sym has.is_up ∙ ap (λ (x : Lane). x.is_up) one ∙ off in cc)
    ]

    pub fits_emptied : EverythingFits says g n w'
    fits_emptied = record {
      lanes = λ j l f a at among said known. elim (emptied.lanes j l at) [
        | inl there ↦ fits.lanes j l f a there among said known
        | inr (none, off) ↦ absurd (subst (In f) none among)
      ];
      stations = λ i s place r at live holds. fits.stations i s place r (emptied.stations i s at live) live holds;
    }

    pub sound_emptied : IsSoundOnLinks says g w → IsSoundOnLinks says g w'
    sound_emptied sound = record {
      lanes = λ j l f a at among said joins. elim (emptied.lanes j l at) [
        | inl there ↦ sound.lanes j l f a there among said joins
        | inr (none, off) ↦ absurd (subst (In f) none among)
      ];
      stations = λ i s place r at live holds. sound.stations i s place r (emptied.stations i s at live) live holds;
    }

    -- and a live system stood as it does
    stands_still : (x : ℕ) → In x (clocks n.graph) → (s : Station) → slice_get w.stations (n.place x) ≡ Some s
        → slice_get w'.stations (n.place x) ≡ Some s
    stands_still x known s at = by (station_of g n well left w' kept' fits_emptied.stations x known)
      where
        by : ((s' : Station) × (slice_get w'.stations (n.place x) ≡ Some s') × (s'.live ≡ true) × (s'.clock ≡ x))
            → slice_get w'.stations (n.place x) ≡ Some s
        by (s', at', live, clock) =
            subst (λ (y : Station). slice_get w'.stations (n.place x) ≡ Some y)
            (same_there w.stations (n.place x) s' s (stood x known s' at') at) at'

    module _ (v p u q : ℕ) (joins : Joins n.graph (port_of v (suc p)) (port_of u (suc q))) where
      known_v : In v (clocks n.graph)
      known_v = Joins-clock n.graph (port_of v (suc p)) (port_of u (suc q)) well joins

      known_u : In u (clocks n.graph)
      known_u =
          Joins-clock n.graph (port_of u (suc q)) (port_of v (suc p)) well
          (Joins-sym n.graph (port_of v (suc p)) (port_of u (suc q)) joins)

      -- what is so of a link stays so, and was so
      at_link : (P : Held → List AnnounceFrame → Type 0) → AtLink says n v p u q P w → AtLink says n v p u q P w'
      at_link P is s pu l at there lane =
          is s pu l (stood u known_u s at) there (stood_lane (port_of v (suc p)) (port_of u (suc q)) joins l lane)

      was_at_link : (P : Held → List AnnounceFrame → Type 0) → AtLink says n v p u q P w' → AtLink says n v p u q P w
      was_at_link P is s pu l at there lane =
          let has = kept'.calm.lanes (port_of v (suc p)) (port_of u (suc q)) joins in
          let one = same_there w.lanes (n.lane (port_of v (suc p))) has.lane l
          (stood_lane (port_of v (suc p)) (port_of u (suc q)) joins has.lane has.there) lane in
          is s pu l (stands_still u known_u s at) there
          (subst (λ (y : Lane). slice_get w'.lanes (n.lane (port_of v (suc p))) ≡ Some y) one has.there)

      -- what stands at its ends stood there
      stand_then : (k : Wiring) → k.teller_place ≡ n.place v → k.hearer_place ≡ n.place u
          → k.lane ≡ n.lane (port_of v (suc p)) → (pv pu : Port) (l : Lane) → Stand k w' pv pu l → Stand k w pv pu l
      stand_then k is_v is_u is_lane pv pu l stand = record {
        v = stand.v;
        u = stand.u;
        teller = subst (λ i. slice_get w.stations i ≡ Some stand.v) (sym is_v)
            (stood v known_v stand.v (subst (λ i. slice_get w'.stations i ≡ Some stand.v) is_v stand.teller));
        teller_port = stand.teller_port;
        hearer = subst (λ i. slice_get w.stations i ≡ Some stand.u) (sym is_u)
            (stood u known_u stand.u (subst (λ i. slice_get w'.stations i ≡ Some stand.u) is_u stand.hearer));
        hearer_port = stand.hearer_port;
        lane = subst (λ j. slice_get w.lanes j ≡ Some l) (sym is_lane)
            (stood_lane (port_of v (suc p)) (port_of u (suc q)) joins l
            (subst (λ j. slice_get w'.lanes j ≡ Some l) is_lane stand.lane));
      }

      down_emptied : (ways : Snapshot) (best : System) (far last : ℕ) → DownStage says ways n best far last v p u q w
          → DownStage says ways n best far last v p u q w'
      down_emptied ways best far last (inl (old, stays)) = inl (
        (λ s at. old s (stood v known_v s at)),
        (λ pv pu l stand.
            stays pv pu l (stand_then (still n far best v p u q) (λ i. n.place v) (λ i. n.place u)
            (λ i. n.lane (port_of v (suc p))) pv pu l stand)),
      )
      down_emptied ways best far last (inr (inl (not, told))) = inr (inl (
        (λ s at. not s (stood v known_v s at)),
        (λ s pu l at there lane.
            told s pu l (stood u known_u s at) there
            (stood_lane (port_of v (suc p)) (port_of u (suc q)) joins l lane)),
      ))
      down_emptied ways best far last (inr (inr (not, free))) = inr (inr (
        (λ s at. not s (stood v known_v s at)),
        (λ s pu l at there lane.
            free s pu l (stood u known_u s at) there
            (stood_lane (port_of v (suc p)) (port_of u (suc q)) joins l lane)),
      ))

    still_emptied : ((f : ℕ) → StillSettles says g n f w) → (f : ℕ) → StillSettles says g n f w'
    unfolding stand_then
    still_emptied all f b v p u q close on from pv pu l stand ready =
        all f b v p u q close on (omega arith) pv pu l
        (stand_then v p u q on.joins (still n f b v p u q) (λ i. n.place v) (λ i. n.place u)
        (λ i. n.lane (port_of v (suc p))) pv pu l stand) ready

    falls_emptied : (Tree : ℕ → Type 0) (Out : ℕ → ℕ → Type 0) (top : ℕ) (best next : System) (base : ℕ)
        (depth : ℕ → ℕ) (t : MovesTree g n Tree Out top best next base depth) (start : ℕ)
        → IsFalling says g n Tree Out top best next base depth t start w
        → IsFalling says g n Tree Out top best next base depth t start w'
    falls_emptied Tree Out top best next base depth t start falls = record {
      sooner = λ in_top old.
          let time = emptied.time in
          let by = falls.sooner in_top (λ s at. old s (stands_still top (t.lives top in_top) s at)) in
          omega (arith, by, time);
      down = λ v p u q in_v joins leads.
          down_emptied v p u q joins t.ways best (base + depth v) (falls_by n start (suc (depth v)))
          (falls.down v p u q in_v joins leads);
      up = λ v p u q in_u joins beyond s pu l at there lane.
          falls.up v p u q in_u joins beyond s pu l (stood u (known_u v p u q joins) s at) there
          (stood_lane (port_of v (suc p)) (port_of u (suc q)) joins l lane);
    }

    -- ---- a tree with one or two tops

    module _ (next : System) (top : Side → ℕ) (depth : Side → ℕ → ℕ) (t : IsTreeOfTops n next top depth) (old base : ℕ)
        (worse : old < next.identity) (near : (side : Side) (v : ℕ) → InTops n next top depth t v
        → base + depth side v < 255)
        (start over long : ℕ) (begun : start ≤ over) (room : over + n.most < long)
        (reached : (d : ℕ) → suc (suc d) ≤ n.reach → falls_by n start (suc d) ≤ over) (before : ℕ → ℕ)
        (soon : (e : ℕ) → over + n.most < before e) (grows : (e : ℕ) → before e + n.most ≤ before (suc e)) where
      stage_emptied : (v p u q last : ℕ) → Joins n.graph (port_of v (suc p)) (port_of u (suc q))
          → IsStage says n next top depth t old base worse v p u q last w
          → IsStage says n next top depth t old base worse v p u q last w'
      stage_emptied v p u q last joins (inl free) = inl (at_link v p u q joins (IsFree says n.graph v u) free)
      stage_emptied v p u q last joins (inr (inl tells)) =
          inr (inl (λ s pv at there. tells s pv (stood v (known_v v p u q joins) s at) there))
      stage_emptied v p u q last joins (inr (inr comes)) =
          inr (inr (at_link v p u q joins
          (λ held fs. Withdraws says (IsNewTold n.graph (port_of v (suc p)) u) last fs) comes))

      settles_by_link : (at far : ℕ) (b : System) (v p u q : ℕ) → Joins n.graph (port_of v (suc p)) (port_of u (suc q))
          → LinkSettles says (telling n at far b v p u q) w → LinkSettles says (telling n at far b v p u q) w'
      unfolding stand_then
      settles_by_link at far b v p u q joins link from pv pu l stand ready =
          link (omega arith) pv pu l
          (stand_then v p u q joins (telling n at far b v p u q) (λ i. n.place v) (λ i. n.place u)
          (λ i. n.lane (port_of v (suc p))) pv pu l stand) ready

      pub tops_emptied : FallsFromTops says n next top depth t old base worse near start over long begun room reached
          before soon grows w
          → FallsFromTops says n next top depth t old base worse near start over long begun room reached before soon
          grows w'
      tops_emptied is = record {
        stale = record {
          kept = kept';
          dark = λ x s i r in_x at holds bare.
              is.stale.dark x s i r in_x (stood x in_x.reached.1.begins s at) holds bare;
          gone = λ late x s i r in_x at holds bare.
              let time = emptied.time in
              is.stale.gone (omega (arith, late, time)) x s i r in_x (stood x in_x.reached.1.begins s at) holds bare;
          mixed = λ v p u q in_v joins.
              at_link v p u q joins (IsMixed says n next top depth t old base worse v p u)
              (is.stale.mixed v p u q in_v joins);
          stages = λ v p u q d side in_v joins deeper limit.
              stage_emptied v p u q (falls_by n start (suc d)) joins
              (is.stale.stages v p u q d side in_v joins deeper limit);
        };
        strong = λ v p u q in_v joins strong.
            down_emptied v p u q joins n.graph (stale_root says n next top depth t old base worse near)
            (base + depth strong.side v) (falls_by n start (suc (depth strong.side v)))
            (is.strong v p u q in_v joins strong);
        tells = λ v p u q side in_v joins deeper weak done.
            settles_by_link long (base + depth side v) (stale_root says n next top depth t old base worse near) v p u q
            joins
            (is.tells v p u q side in_v joins deeper weak (λ strong. (
              (λ s at. (done strong).0 s (stands_still u (known_u v p u q joins) s at)),
              was_at_link u q v p (Joins-sym n.graph (port_of v (suc p)) (port_of u (suc q)) joins)
                  (IsFree says n.graph u v) (done strong).1,
            )));
        settles = λ f v p u q close in_v leads. elim (is.settles f v p u q close in_v leads) [
          | inl link ↦ inl (settles_by_link (before f) f next v p u q leads.joins link)
          | inr comes ↦
              inr (at_link u q v p (Joins-sym n.graph (port_of v (suc p)) (port_of u (suc q)) leads.joins)
              (λ held fs. StaleComes says n next top depth t old base worse near u v fs) comes)
        ];
      }

module _ (says : Spelling) (g : Snapshot) (n : Network) (lost : ℕ) (best : System) (IsCut : Tree → Type 0)
    (IsTurned : Turning → Type 0) (IsTwice : TopsTree → Type 0)
    (moves : FailureMoves g n lost best IsCut IsTurned IsTwice) (start : ℕ) (w w' : MachineState)
    (emptied : AreEmptied w w') (kept' : IsAfterLoss n w') where
  module _ (back : FallBack says g n lost best IsCut IsTurned IsTwice moves start w) where
    fits' : EverythingFits says g n w'
    fits' = fits_emptied says g n moves.well moves.left w w' emptied kept' back.after.fits

    pub back_emptied : FallBack says g n lost best IsCut IsTurned IsTwice moves start w'
    back_emptied = record {
      after = record {
        kept = kept';
        fits = fits';
        dark = λ i s place r at live moved holds none.
            back.after.dark i s place r (emptied.stations i s at live) live moved holds none;
      };
      still = still_emptied says g n moves.well moves.left w w' emptied kept' back.after.fits back.still;
      sound = sound_emptied says g n moves.well moves.left w w' emptied kept' back.after.fits back.sound;
      cut = λ t is.
          falls_emptied says g n moves.well moves.left w w' emptied kept' back.after.fits (IsCutOff n t.next)
          LeadsNowhere t.top best t.next t.base t.depth
          (moves_off g n t.top best t.next t.base t.depth (moves.cut t is))
          start (back.cut t is);
      turned = λ t is.
          falls_emptied says g n moves.well moves.left w w' emptied kept' back.after.fits (IsOf t.tree)
          (LeadsOut t.last t.out) t.top best best t.base t.depth
          (turns_moves g n t.tree t.top lost t.last t.out best t.base t.depth (moves.turned t is)) start
          (back.turned t is);
      none = λ late x s place r moved at live clock bare holds.
          let time = emptied.time in
          back.none (omega (arith, late, time)) x s place r moved (emptied.stations (n.place x) s at live) live clock
          bare holds;
    }

    -- and so does what then settles
    module _ (over : ℕ) (before : ℕ → ℕ)
        (cut_times : (t : Tree) → (is : IsCut t) → MovedTimes says g n (IsCutOff n t.next) LeadsNowhere t.top best
        t.next t.base t.depth
        (moves_off g n t.top best t.next t.base t.depth (moves.cut t is)) moves.paths moves.few start over before)
        (turned_times : (t : Turning) → (is : IsTurned t) → Times says g n t.tree t.top lost t.last t.out best t.base
        t.depth (moves.turned t is)
        start over before) (tops_times : TopsTimes n start over before) where
      pub settles_emptied : FailureSettles says g n lost best IsCut IsTurned IsTwice moves start over before cut_times
          turned_times tops_times w
          → FailureSettles says g n lost best IsCut IsTurned IsTwice moves start over before cut_times turned_times
          tops_times w'
      unfolding stand_then
      settles_emptied settles = record {
        cut = λ t is f v p u q close in_v in_u leads from pv pu l stand ready.
            settles.cut t is f v p u q close in_v in_u leads (omega arith) pv pu l
            (stand_back v p u q leads.joins before f t.next pv pu l stand) ready;
        turned = λ t is. record {
          levels = λ f v p u q close in_v in_u leads from pv pu l stand ready.
              (settles.turned t is).levels f v p u q close in_v in_u leads (omega arith) pv pu l
              (stand_back v p u q leads.joins before f best pv pu l stand) ready;
          way = λ p k joins leads turned from pv pu l stand ready.
              (settles.turned t is).way p k joins leads (
                (λ s at.
                    turned.0 s (stands_still says g n moves.well moves.left w w' emptied kept' back.after.fits t.last
                    ((moves.turned t is).lives t.last (moves.turned t is).in_last) s at)),
                was_at_link says g n moves.well moves.left w w' emptied kept' back.after.fits t.last p t.out k joins
                    (λ held fs. IsFree says (moves.turned t is).ways t.last t.out held fs) turned.1,
              ) (omega arith) pv pu l
              (stand_then says g n moves.well moves.left w w' emptied kept' back.after.fits t.out k t.last p
              (Joins-sym n.graph (port_of t.last (suc p)) (port_of t.out (suc k)) joins)
              (telling n (before (o t is).d) (o t is).d best t.out k t.last p) (λ i. n.place t.out)
              (λ i. n.place t.last) (λ i. n.lane (port_of t.out (suc k))) pv pu l stand) ready;
        };
        twice = λ t is.
            tops_emptied says g n moves.well moves.left w w' emptied kept' back.after.fits t.next t.top t.depth
            (moves.twice t is).tree best.identity t.base (moves.twice t is).worse (moves.twice t is).near start over
            (before 0) tops_times.begun (tops_times.soon 0) tops_times.reached before tops_times.soon tops_times.grows
            (settles.twice t is);
      }
        where
          o : (t : Turning) → (is : IsTurned t)
              → OutIsAt says g n t.tree t.top lost t.last t.out best t.base t.depth (moves.turned t is)
          o t is = out_is_at says g n t.tree t.top lost t.last t.out best t.base t.depth (moves.turned t is)

          stand_back : (v p u q : ℕ) → Joins n.graph (port_of v (suc p)) (port_of u (suc q)) → (before : ℕ → ℕ) (f : ℕ)
              (b : System) (pv pu : Port) (l : Lane) → Stand (telling n (before f) f b v p u q) w' pv pu l
              → Stand (telling n (before f) f b v p u q) w pv pu l
          stand_back v p u q joins before f b pv pu l stand =
              stand_then says g n moves.well moves.left w w' emptied kept' back.after.fits v p u q joins
              (telling n (before f) f b v p u q) (λ i. n.place v) (λ i. n.place u) (λ i. n.lane (port_of v (suc p))) pv
              pu l stand

  -- ---- what the tops hold

  module _ (stay : ℤ → ℕ) (since delay : ℕ) (shorter : n.most ≤ delay)
      (long : (x p i : ℕ) → Joins g (port_of lost (suc p)) (port_of x (suc i))
      → n.interval_of (port_of lost (suc p)) + delay < stay (n.log_of (port_of lost (suc p)))) where
    abbrev Last : ℕ → ℕ → ℕ → ℕ → Held → List AnnounceFrame → Type 0
    Last base top p i held fs =
        HoldsLast says (still n (pred base) best lost p top i) (since + delay) held fs ⊎ HasLetGo says held fs

    none_left : (base top p i : ℕ) (held : Held) (fs : List AnnounceFrame) → Last base top p i held fs
        → Last base top p i held []
    none_left base top p i held fs (inl last) = inl (record {
      r = last.r;
      holds = last.holds;
      final = last.final;
      flight = λ f a none. absurd none;
      by = λ f none. absurd none;
      young = inr (inr (λ f none. absurd none));
    })
    none_left base top p i held fs (inr go) = inr (record { none = go.none; silent = inr (λ f none. absurd none) })

    holds_emptied : (back : FallBack says g n lost best IsCut IsTurned IsTwice moves start w) (Tree : ℕ → Type 0)
        (Out : ℕ → ℕ → Type 0) (top : ℕ) (next : System) (base : ℕ) (depth : ℕ → ℕ)
        (t : MovesTree g n Tree Out top best next base depth) (in_top : Tree top)
        → ((p i : ℕ) → Joins g (port_of lost (suc p)) (port_of top (suc i)) → LaneStands says n lost p top i w)
        → TopHolds says g n Tree Out lost top best next base depth moves.loses t in_top stay since delay shorter
        (long top) w
        → TopHolds says g n Tree Out lost top best next base depth moves.loses t in_top stay since delay shorter
        (long top) w'
    holds_emptied back Tree Out top next base depth t in_top lanes holds = record {
      last = λ p i joins bare s pu l at there lane. last p i joins bare s pu l at there lane
          (emptied.lanes (n.lane (port_of lost (suc p))) l lane);
      bare = λ x in_x s i r at held. holds.bare x in_x s i r (stood_x x (t.lives x in_x) s at) held;
    }
      where
        stood_x : (x : ℕ) → In x (clocks n.graph) → (s : Station) → slice_get w'.stations (n.place x) ≡ Some s
            → slice_get w.stations (n.place x) ≡ Some s
        stood_x = stood says g n moves.well moves.left w w' emptied kept' back.after.fits

        last : (p i : ℕ) → Joins g (port_of lost (suc p)) (port_of top (suc i))
            → (IsLinked n.graph (port_of top (suc i)) → ⊥) → (s : Station) (pu : Port) (l : Lane)
            → slice_get w'.stations (n.place top) ≡ Some s → slice_get s.ports i ≡ Some pu
            → slice_get w'.lanes (n.lane (port_of lost (suc p))) ≡ Some l
            → (slice_get w.lanes (n.lane (port_of lost (suc p))) ≡ Some l) ⊎ ((l.frames ≡ []) × (l.is_up ≡ false))
            → Last base top p i pu.held l.frames
        last p i joins bare s pu l at there lane (inl was) =
            holds.last p i joins bare s pu l (stood_x top (t.lives top in_top) s at) there was
        last p i joins bare s pu l at there lane (inr (none, off)) =
            let has = lanes p i joins in
            subst (Last base top p i pu.held) (sym none)
            (none_left base top p i pu.held has.lane.frames
            (holds.last p i joins bare s pu has.lane (stood_x top (t.lives top in_top) s at) there has.there))

    -- so do trees with two tops
    tops_hold_emptied : FailsBack says g n lost best IsCut IsTurned IsTwice moves start stay since delay shorter long w
        → (t : TopsTree) → (is : IsTwice t)
        → twice.TopsHold says g n lost t.top best t.next t.base t.depth moves.loses (moves.twice t is) stay since delay
        shorter long w
        → twice.TopsHold says g n lost t.top best t.next t.base t.depth moves.loses (moves.twice t is) stay since delay
        shorter long w'
    tops_hold_emptied fails t is holds = record {
      last = λ x p i in_x joins bare s pu l at there lane.
          last x p i in_x joins bare s pu l at there (emptied.lanes (n.lane (port_of lost (suc p))) l lane);
      bare = λ x in_x s i r at held. holds.bare x in_x s i r (stood_x x in_x.reached.1.begins s at) held;
    }
      where
        stood_x : (x : ℕ) → In x (clocks n.graph) → (s : Station) → slice_get w'.stations (n.place x) ≡ Some s
            → slice_get w.stations (n.place x) ≡ Some s
        stood_x = stood says g n moves.well moves.left w w' emptied kept' fails.back.after.fits

        last : (x p i : ℕ) → IsBest n.graph x t.next → Joins g (port_of lost (suc p)) (port_of x (suc i))
            → (IsLinked n.graph (port_of x (suc i)) → ⊥) → (s : Station) (pu : Port) (l : Lane)
            → slice_get w'.stations (n.place x) ≡ Some s → slice_get s.ports i ≡ Some pu
            → (slice_get w.lanes (n.lane (port_of lost (suc p))) ≡ Some l) ⊎ ((l.frames ≡ []) × (l.is_up ≡ false))
            → Last t.base x p i pu.held l.frames
        last x p i in_x joins bare s pu l at there (inl was) =
            holds.last x p i in_x joins bare s pu l (stood_x x in_x.reached.1.begins s at) there was
        last x p i in_x joins bare s pu l at there (inr (none, off)) =
            let has = fails.state.lanes x p i joins in
            subst (Last t.base x p i pu.held) (sym none)
            (none_left t.base x p i pu.held has.lane.frames
            (holds.last x p i in_x joins bare s pu has.lane (stood_x x in_x.reached.1.begins s at) there has.there))

    pub fails_emptied : IsFailedState says g n lost best IsCut IsTurned IsTwice moves start stay
        since delay shorter long w'
        → FailsBack says g n lost best IsCut IsTurned IsTwice moves start stay since delay shorter long w
        → FailsBack says g n lost best IsCut IsTurned IsTwice moves start stay since delay shorter long w'
    fails_emptied state' is = record {
      state = state';
      back = back_emptied is.back;
      tops = record {
        cut = λ t is_t.
            holds_emptied is.back (IsCutOff n t.next) LeadsNowhere t.top t.next t.base t.depth
            (moves_off g n t.top best t.next t.base t.depth (moves.cut t is_t)) (moves.cut_top t is_t)
            (is.state.lanes t.top) (is.tops.cut t is_t);
        turned = λ t is_t.
            holds_emptied is.back (IsOf t.tree) (LeadsOut t.last t.out) t.top best t.base t.depth
            (turns_moves g n t.tree t.top lost t.last t.out best t.base t.depth (moves.turned t is_t))
            (moves.turned_top t is_t) (is.state.lanes t.top) (is.tops.turned t is_t);
        twice = λ t is_t. tops_hold_emptied is t is_t (is.tops.twice t is_t);
      };
    }
