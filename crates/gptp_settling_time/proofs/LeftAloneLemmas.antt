-- A failure leaves each live system alone that had one link at most. What is told over a link that was in use is sound
-- at once: who follows another holds what it follows at the port to its one link, so that it doesn't tell there.
use Rattle.std.proofs.Common.{◌≡◌, ◌⊎◌, ◌<◌, ℕ, zero, suc, true, List, [], ◌∷◌, Some, slice_get, refl, sym, ap, subst, ◌∙◌, inl, inr, arith}
use Rattle.gptp_lists.specs.Members.{Different, In}
use Rattle.gptp_graph.specs.Best.{IsBest}
use Rattle.gptp_graph.specs.Distance.{IsDistance}
use Rattle.gptp_graph.specs.Path.{Route}
use Rattle.gptp_graph.specs.Snapshot.{Adjacent, IsWellFormed, Joins, PortIdentity, Snapshot, System, clocks, port_of}
use Rattle.gptp_graph.proofs.DistanceLemmas.{IsDistance-unique, best_at_zero, nearer_neighbour}
use Rattle.gptp_graph.proofs.ExistenceLemmas.{distance_exists}
use Rattle.gptp_graph.proofs.LinkLemmas.{Joins-clock, Joins-sym}
use Rattle.gptp_graph.proofs.SystemLemmas.{In-clocks, same_identity}
use Rattle.gptp_bmca_machine.specs.Calm.{Calm}
use Rattle.gptp_bmca_machine.specs.Clean.{IsWorse, Whole}
use Rattle.gptp_bmca_machine.specs.CutTree.{LosesSystem}
use Rattle.gptp_bmca_machine.specs.Facts.{FollowsItself, FollowsPort, station_system}
use Rattle.gptp_bmca_machine.specs.Frame.{Announce, AnnounceFrame, Lane}
use Rattle.gptp_bmca_machine.specs.LossLaws.{IsWhatIsLeft}
use Rattle.gptp_bmca_machine.specs.Network.{Network}
use Rattle.gptp_bmca_machine.specs.SoundEverywhere.{IsSoundSent, StationIsSound}
use Rattle.gptp_bmca_machine.specs.Station.{MachineState, Mine, Port, Received, Station}
use Rattle.gptp_bmca_machine.proofs.MovedTreeLemmas.{whole_left}
use Rattle.gptp_bmca_machine.proofs.PlaceLemmas.{same_there}
use Rattle.gptp_bmca_machine.proofs.TraceLemmas.{whole_own}
use Rattle.gptp_settling_time.specs.TreeLosses.{LeavesAlone}
use Rattle.gptp_settling_time.proofs.FitsLemmas.{UnlinkedHoldNothing}
use Rattle.gptp_settling_time.proofs.StillSoundLemmas.{HeldWereLinked}
use Rattle.gptp_settling_time.proofs.ToldAnewLemmas.{AllTellSound}

-- each frame in flight comes over one of these links
abbrev pub FliesOnLinks : Snapshot → MachineState → Type 0
FliesOnLinks g w = (j : ℕ) (l : Lane) (f : AnnounceFrame) → slice_get w.lanes j ≡ Some l → In f l.frames
    → Joins g l.from l.to

module _ (g : Snapshot) (n : Network) (alone : LeavesAlone g n.graph) (w : MachineState) (calm : Calm n w) where
  -- what is told over a link of before is sound
  pub alone_tell : HeldWereLinked g n w → FliesOnLinks g w → AllTellSound n.graph w
  alone_tell linked flies s i port a at live own master j l f at_l among from =
      by (calm.facts.stations i s at live).follows
    where
      known : In s.clock (clocks n.graph)
      known = In-clocks n.graph (station_system s) (calm.facts.stations i s at live).known

      -- who follows another doesn't tell there
      none : FollowsPort s → ⊥
      none follows =
          let (k, q, number, at_q, mine) = master in
          let (u, joined) = linked i s follows.place follows.r at live
          (λ (v, here). alone.none (port_of s.clock (suc follows.place)) v here) follows.holds in
          let over : Joins g (port_of s.clock port) l.to =
          subst (λ p. Joins g p l.to) from (flies j l f at_l among) in
          let same : suc k ≡ suc follows.place =
          sym number ∙ alone.one s.clock port (suc follows.place) l.to u known over joined in
          let place : k ≡ follows.place = omega (arith, same) in
          let (held, there, holds) = follows.holds in
          let one : q ≡ held =
          same_there s.ports follows.place q held (subst (λ m. slice_get s.ports m ≡ Some q) place at_q) there in
          let both : Mine s.root s.steps ≡ Received follows.r =
          sym mine ∙ ap (λ (z : Port). z.held) one ∙ holds in
          absurd cc

      by : FollowsItself s ⊎ FollowsPort s → IsSoundSent n.graph (port_of s.clock port) a
      by (inr follows) = absurd (none follows)
      by (inl itself) = record {
        sender = known;
        source = own.source;
        sound = inr (whole_own n.graph (station_system s) a (calm.facts.stations i s at live).known
            (own.root ∙ itself.root) (own.steps ∙ itself.steps) (own.path ∙ itself.trace));
      }

  -- once nothing is held at ports without a link nothing is held
  pub alone_hold : UnlinkedHoldNothing n.graph w → (i : ℕ) (s : Station) → slice_get w.stations i ≡ Some s
      → s.live ≡ true → StationIsSound n.graph s
  alone_hold none i s at live place r holds =
      absurd (none i s place r at live
      (λ (u, joined). alone.none (port_of s.clock (suc place)) u joined) holds)

-- ---- as the system fails

-- a way that leads somewhere ends there
ends_in : (g : Snapshot) (v end x : ℕ) (us : List ℕ) → Route g v end (x ∷ us) → In end (x ∷ us)
ends_in g v end x [] (joined, same) = inl (sym same)
ends_in g v end x (y ∷ us) (joined, route) = inr (ends_in g x end y us route)

-- What a system said over its one link that led onward it said of itself.
module _ (g : Snapshot) (n : Network) (well' : IsWellFormed n.graph) (left : IsWhatIsLeft g n) (lost : ℕ)
    (loses : LosesSystem g n lost) (alone : LeavesAlone g n.graph) where
  pub alone_said : (from to : PortIdentity) (a : Announce) → Joins g from to → In from.clock (clocks n.graph)
      → a.source ≡ from → IsWorse g from.clock a ⊎ Whole g from.clock a
      → ((best : System) → IsBest g from.clock best → a.root ≡ best.identity)
      → ((d e : ℕ) → IsDistance g from.clock d → IsDistance g to.clock e
      → (d < e) ⊎ ((d ≡ e) × (from.clock < to.clock))) → IsSoundSent n.graph from a
  alone_said from to a joins lives source sound names onward =
      by (distance_exists g from.clock left.graph (Joins-clock g from to left.graph joins))
      (distance_exists g to.clock left.graph (Joins-clock g to from left.graph (Joins-sym g from to joins))) sound
    where
      -- the system was the best
      first : (d e : ℕ) → IsDistance g from.clock d → IsDistance g to.clock e → d ≡ 0
      first zero e here there = refl
      first (suc k) e here there = nearer (nearer_neighbour g from.clock k left.graph here)
        where
          nearer : ((x : ℕ) × Adjacent g from.clock x × IsDistance g x k) → suc k ≡ 0
          nearer (x, (p, q, joined), close) =
              let port = alone.one from.clock from.port p to (port_of x q) lives joins joined in
              let same : to ≡ port_of x q =
              left.graph.one_link (port_of from.clock p) to (port_of x q)
              (subst (λ i. Joins g (port_of from.clock i) to) port joins) joined in
              let one = IsDistance-unique g x e k left.graph
              (subst (λ (z : PortIdentity). IsDistance g z.clock e) same there) close in
              elim (onward (suc k) e here there) [
                | inl less ↦ absurd (omega (arith, less, one))
                | inr (equal, lower) ↦ absurd (omega (arith, equal, one))
              ]

      by : ((d : ℕ) × IsDistance g from.clock d) → ((e : ℕ) × IsDistance g to.clock e)
          → IsWorse g from.clock a ⊎ Whole g from.clock a → IsSoundSent n.graph from a
      by (d, here) (e, there) (inl worse) =
          let less = worse here.best here.is_best in
          let root = names here.best here.is_best in
          absurd (omega (arith, less, root))
      by (d, here) (e, there) (inr whole) = record {
        sender = lives;
        source = source;
        sound = inr (whole_left g n.graph left.graph well' from.clock a whole
            (λ s member clock. loses.systems s member) lives
            (own whole.others whole.way.route whole.way.different));
      }
        where
          best_here : here.best.clock ≡ from.clock
          best_here =
              best_at_zero g from.clock here.best left.graph here.is_best
              (subst (IsDistance g from.clock) (first d e here there) here)

          end : whole.first.clock ≡ from.clock
          end =
              ap (λ (s : System). s.clock)
              (same_identity g whole.first here.best left.graph whole.known here.is_best.live
              (sym whole.root ∙ names here.best here.is_best)) ∙ best_here

          -- so the way has no other system
          own : (us : List ℕ) → Route g from.clock whole.first.clock us → Different (from.clock ∷ us)
              → Route n.graph from.clock whole.first.clock us
          own [] route apart = route
          own (x ∷ us) route apart =
              absurd (apart.0 (subst (λ c. In c (x ∷ us)) end (ends_in g from.clock whole.first.clock x us route)))
