-- A tree with one or two tops that a failure cut off has left its old choice: all that its systems hold and tell is of
-- what is left.
use Rattle.std.proofs.Common.{◌≡◌, ◌≢◌, ◌⊎◌, ◌<◌, ◌≤◌, ◌+◌, ℕ, zero, suc, pred, Some, slice_get, inl, inr, arith}
use Rattle.gptp_graph.specs.Snapshot.{Joins, System, port_of}
use Rattle.gptp_bmca_machine.specs.Clean.{Whole}
use Rattle.gptp_bmca_machine.specs.Frame.{Announce, Spelling}
use Rattle.gptp_bmca_machine.specs.Network.{Network}
use Rattle.gptp_bmca_machine.specs.Reacts.{IsOwn}
use Rattle.gptp_bmca_machine.specs.Station.{HoldsAt, MachineState, Reception, Station}
use Rattle.gptp_bmca_machine.specs.TwoTops.{Side, First, IsTreeOfTops}
use Rattle.gptp_bmca_machine.proofs.FallLemmas.{IsFreeAt}
use Rattle.gptp_bmca_machine.proofs.StaleEndLemmas.{IsStaleState, free_then}
use Rattle.gptp_bmca_machine.proofs.StaleLemmas.{FollowsStale, HeldBare, HeldOver, HoldsMixed, follows_stale, held_over, says_whole, whole_worse}
use Rattle.gptp_bmca_machine.proofs.StaleTellLemmas.{two_more}
use Rattle.gptp_bmca_machine.proofs.StaleToldLemmas.{over_all}
use Rattle.gptp_bmca_machine.proofs.TwoTopsLemmas.{Tree, beside}
use Rattle.gptp_settling_time.proofs.FallAlwaysLemmas.{fallen_by, falls_within}

module _ (says : Spelling) (n : Network) (next : System) (top : Side → ℕ) (depth : Side → ℕ → ℕ)
    (t : IsTreeOfTops n next top depth) (old base : ℕ) (worse : old < next.identity)
    (near : (side : Side) (v : ℕ) → Tree n next top depth t v → base + depth side v < 255) (start : ℕ)
    (w : MachineState) (m : IsStaleState says n next top depth t old base worse start w)
    (late : fallen_by n start < w.time) where
  over : (x v p i : ℕ) → Tree n next top depth t x → Joins n.graph (port_of v (suc p)) (port_of x (suc i))
      → HoldsMixed says n next top depth t old base worse v p x i w
  over x v p i in_x joins = over_all says n next top depth t old base worse near w m.mixed x v p i in_x joins

  -- a link has two ends
  two_ends : (v p u q : ℕ) → Tree n next top depth t v → Joins n.graph (port_of v (suc p)) (port_of u (suc q))
      → suc (suc (pred (pred n.reach))) ≤ n.reach
  two_ends v p u q in_v joins =
      let deep_v = t.deep First v in_v in
      let deep_u = t.deep First u (beside n next top depth t v u in_v (suc p, suc q, joins)) in
      elim (t.steps First v u in_v (suc p, suc q, joins)) [
        | inl down ↦ two_more n.reach (depth First v) (omega (arith, deep_u, down))
        | inr up ↦ two_more n.reach (depth First u) (omega (arith, deep_v, up))
      ]

  -- each link carries what is of what is left alone
  free : (v p u q : ℕ) → Tree n next top depth t v → Joins n.graph (port_of v (suc p)) (port_of u (suc q))
      → IsFreeAt says n.graph n v p u q w
  free v p u q in_v joins =
      let two = two_ends v p u q in_v joins in
      let within = falls_within n start (suc (pred (pred n.reach))) two in
      free_then says n next top depth t old base worse start w m (pred (pred n.reach)) (covers n.reach)
      (omega (arith, within, late)) v p u q in_v joins
    where
      covers : (r : ℕ) → r ≤ suc (suc (pred (pred r)))
      covers zero = omega arith
      covers (suc zero) = omega arith
      covers (suc (suc r)) = omega arith

  begun : start < w.time
  begun = omega (arith, late)

  -- what a system holds
  pub record HoldsLeftOver (x i : ℕ) (r : Reception) : Type 0 where
    pub v : ℕ
    pub p : ℕ
    pub joins : Joins n.graph (port_of v (suc p)) (port_of x (suc i))
    pub source : r.said.source ≡ port_of v (suc p)
    pub whole : Whole n.graph v r.said

  module _ (x : ℕ) (in_x : Tree n next top depth t x) (s : Station) (at : slice_get w.stations (n.place x) ≡ Some s)
    where
      over_whole : (i : ℕ) (r : Reception) → HoldsAt s i r
          → (h : HeldOver says n next top depth t old base worse x i r) → Whole n.graph h.v r.said
      over_whole i r (q, there, holds) h =
          let has = m.kept.calm.lanes (port_of h.v (suc h.p)) (port_of x (suc i)) h.joins in
          (free h.v h.p x i h.in_v h.joins s q has.lane at there has.there).hears r holds

      pub holds_left : (i : ℕ) (r : Reception) → HoldsAt s i r → HoldsLeftOver x i r
      holds_left i r holds =
          by (held_over says n next top depth t old base worse w m.kept m.dark x in_x (λ a b k. over x a b k in_x) s at
          i r holds)
        where
          by : HeldOver says n next top depth t old base worse x i r
              ⊎ HeldBare says n next top depth t old base worse x i r → HoldsLeftOver x i r
          by (inr bare) = absurd (m.gone begun x s i r in_x at holds bare.bare)
          by (inl h) = record {
            v = h.v;
            p = h.p;
            joins = h.joins;
            source = h.source;
            whole = over_whole i r holds h;
          }

      -- it hasn't the root of before
      root_left : s.root ≢ old
      root_left root = by (follows_stale says n next top depth t old base worse w m.kept m.dark x in_x
          (λ a b k. over x a b k in_x) s at root)
        where
          by : FollowsStale says n next top depth t old base worse w m.kept m.dark x in_x (λ a b k. over x a b k in_x) s
              at → ⊥
          by f = elim f.from [
            | inl (h, down, is_old) ↦
                let more = whole_worse says n next top depth t old base worse h.v f.r.said h.in_v
                (over_whole f.i f.r f.holds h) in
                omega (arith, more, is_old)
            | inr (is_top, bare) ↦ m.gone begun x s f.i f.r in_x at f.holds bare
          ]

      -- and what it tells is of what is left
      pub tells_left : (number : ℕ) (a : Announce) → IsOwn s number a → Whole n.graph x a
      tells_left number a own =
          says_whole says n next top depth t old base worse w m.kept m.dark x in_x (λ b c k. over x b c k in_x) s at
          root_left number a own
