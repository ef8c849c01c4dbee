-- A link goes down that cuts a tree off. No way between two others leads through it: that would pass the same end of
-- the link twice. So what others say is sound still.
use Rattle.std.proofs.Common.{◌≡◌, ◌⊎◌, ◌≤◌, ℕ, List, [], ◌∷◌, sym, ap, subst, inl, inr, arith}
use Rattle.gptp_lists.specs.Members.{Different, In}
use Rattle.gptp_graph.specs.Best.{IsBest}
use Rattle.gptp_graph.specs.Path.{Route}
use Rattle.gptp_graph.specs.Snapshot.{Adjacent, Snapshot, System, clocks}
use Rattle.gptp_graph.proofs.BestLemmas.{IsBest-reached, IsBest-unique}
use Rattle.gptp_graph.proofs.ExistenceLemmas.{best_exists}
use Rattle.gptp_graph.proofs.LinkLemmas.{Adjacent-sym}
use Rattle.gptp_graph.proofs.PathLemmas.{Reaches-self}
use Rattle.gptp_graph.proofs.SystemLemmas.{In-clocks, system_of}
use Rattle.gptp_bmca_machine.specs.Clean.{IsWorse, Whole}
use Rattle.gptp_bmca_machine.specs.CutTree.{CutsTree}
use Rattle.gptp_bmca_machine.specs.Frame.{Announce}
use Rattle.gptp_bmca_machine.specs.Network.{Network}
use Rattle.gptp_bmca_machine.proofs.CutTreeLemmas.{beside, cuts_off, tree_dec}

-- of two snapshots the second has the systems of the first, and its links but such as join these two systems
pub record HasAllButLink (g g' : Snapshot) (top other : ℕ) : Type 0 where
  pub systems : (s : System) → In s g.systems → In s g'.systems
  pub links : (v u : ℕ) → Adjacent g v u
      → Adjacent g' v u ⊎ (((v ≡ top) × (u ≡ other)) ⊎ ((v ≡ other) × (u ≡ top)))

module _ (g : Snapshot) (n : Network) (top : ℕ) (best next : System) (base : ℕ) (depth : ℕ → ℕ)
    (t : CutsTree g n top best next base depth) (other : ℕ) (has : HasAllButLink g n.graph top other)
    (in_top : IsBest n.graph top next) (outside : IsBest n.graph other next → ⊥) where
  -- a route out of the tree passes the other end of the link
  leaves : (v end : ℕ) (us : List ℕ) → IsBest n.graph v next → (IsBest n.graph end next → ⊥) → Route g v end us
      → In other us
  leaves v end [] in_v out same = absurd (out (subst (λ c. IsBest n.graph c next) same in_v))
  leaves v end (u ∷ us) in_v out (joined, route) = elim (has.links v u joined) [
    | inl left ↦
        inr (leaves u end us
        (beside g n top best next base depth (cuts_off g n top best next base depth t) v u left in_v) out route)
    | inr (inl (is_top, is_other)) ↦ inl (sym is_other)
    | inr (inr (is_other, is_top)) ↦ absurd (outside (subst (λ c. IsBest n.graph c next) is_other in_v))
  ]

  -- a route between others that comes to no system twice is left
  stays_out : (v end : ℕ) (us : List ℕ) → (IsBest n.graph v next → ⊥) → (IsBest n.graph end next → ⊥)
      → Route g v end us → Different (v ∷ us) → Route n.graph v end us
  stays_out v end [] out out_end same apart = same
  stays_out v end (u ∷ us) out out_end (joined, route) (first, apart) = elim (has.links v u joined) [
    | inl left ↦ (
      left,
      stays_out u end us
          (λ in_u. out (beside g n top best next base depth (cuts_off g n top best next base depth t) u v
          (Adjacent-sym n.graph v u left) in_u)) out_end route
          apart,
    )
    | inr (inl (is_top, is_other)) ↦ absurd (out (subst (λ c. IsBest n.graph c next) (sym is_top) in_top))
    | inr (inr (is_other, is_top)) ↦
        let passes = leaves u end us (subst (λ c. IsBest n.graph c next) (sym is_top) in_top) out_end route in
        absurd (first (inr (subst (λ c. In c us) (sym is_other) passes)))
  ]

  lives : (v : ℕ) → In v (clocks g) → In v (clocks n.graph)
  lives v known =
      let (s, member, named) = system_of g v known in
      subst (λ c. In c (clocks n.graph)) named (In-clocks n.graph s (has.systems s member))

  -- the best of who isn't of the tree was so before
  was_so : (v : ℕ) (b : System) → (IsBest n.graph v next → ⊥) → In v (clocks g) → IsBest n.graph v b → IsBest g v b
  was_so v b out known is =
      let (c, was) = best_exists g v t.left.graph known in
      let still = (t.others v (lives v known) out).best c was in
      subst (IsBest g v) (IsBest-unique n.graph v c b t.well still is) was

  -- what is sound of who isn't of the tree is so still
  pub sound_outside : (u : ℕ) (a : Announce) → (IsBest n.graph u next → ⊥) → In u (clocks g)
      → IsWorse g u a ⊎ Whole g u a → IsWorse n.graph u a ⊎ Whole n.graph u a
  sound_outside u a out known (inl worse) = inl (λ b is. worse b (was_so u b out known is))
  sound_outside u a out known (inr whole) =
      by (tree_dec g n top best next base depth t whole.first.clock first_lives)
    where
      first_lives : In whole.first.clock (clocks n.graph)
      first_lives = lives whole.first.clock (In-clocks g whole.first whole.known)

      by : Dec (IsBest n.graph whole.first.clock next) → IsWorse n.graph u a ⊎ Whole n.graph u a
      by (no apart) = inr (record {
        others = whole.others;
        first = whole.first;
        is = whole.is;
        way = record {
          begins = lives u whole.way.begins;
          route = stays_out u whole.first.clock whole.others out apart whole.way.route whole.way.different;
          different = whole.way.different;
        };
        known = has.systems whole.first whole.known;
        root = whole.root;
        steps = whole.steps;
      })
      by (yes inside) = inl (λ b is.
          let reached = IsBest-reached g u whole.first.clock b t.left.graph (whole.others, whole.way)
          (was_so u b out known is) in
          let one = IsBest-unique g whole.first.clock b best t.left.graph reached (t.was_best whole.first.clock inside)
          in
          let same = ap (λ (z : System). z.identity) one in
          let least : next.identity ≤ whole.first.identity =
          inside.least whole.first (has.systems whole.first whole.known)
          (Reaches-self n.graph whole.first.clock first_lives) in
          let worse = t.worse in
          let root = whole.root in
          omega (arith, least, worse, root, same))
