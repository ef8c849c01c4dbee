-- A tree with two tops: of each link on the way between them one end is stronger, since what it tells by the top on its
-- side is lower than what the other tells by the top on its own. The weaker tells nothing stale before the stronger has
-- left what is stale for good.
use Rattle.std.proofs.Common.{◌≡◌, ◌≢◌, ◌⊎◌, ◌<◌, ◌≤◌, ◌+◌, ℕ, suc, true, [], ◌∷◌, Some, None, slice_get, refl, sym, ap, subst, ◌∙◌, inl, inr, arith}
use native.Mathlib.Decide.{dec_lt}
use Rattle.gptp_graph.specs.Order.{IsLower}
use Rattle.gptp_graph.specs.Snapshot.{System, PortIdentity, port_of, Joins}
use Rattle.gptp_graph.proofs.LinkLemmas.{Joins-sym}
use Rattle.gptp_bmca_machine.specs.AtRest.{StationIsAtRest}
use Rattle.gptp_bmca_machine.specs.Frame.{Spelling}
use Rattle.gptp_bmca_machine.specs.Link.{final_vector}
use Rattle.gptp_bmca_machine.specs.LossLaws.{IsAfterLoss}
use Rattle.gptp_bmca_machine.specs.Network.{Network}
use Rattle.gptp_bmca_machine.specs.Station.{HoldsAt, MachineState, Mine, Port, Received, Reception, Station}
use Rattle.gptp_bmca_machine.specs.Touch.{Replaces}
use Rattle.gptp_bmca_machine.specs.TwoTops.{Side, First, Second, IsTreeOfTops}
use Rattle.gptp_bmca_machine.specs.Vectors.{master, path_vector}
use Rattle.gptp_bmca_machine.proofs.FallLemmas.{DownStage, HasChoice, HasLeft, IsFreeAt, falls_by}
use Rattle.gptp_bmca_machine.proofs.LinkEndsLemmas.{telling}
use Rattle.gptp_bmca_machine.proofs.LinkStepLemmas.{lives_at}
use Rattle.gptp_bmca_machine.proofs.PlaceLemmas.{same_holds, same_place}
use Rattle.gptp_bmca_machine.proofs.StaleLemmas.{BareHoldStale, FollowsStale, IsStale, follows_stale, stale_down, stale_held, whole_worse}
use Rattle.gptp_bmca_machine.proofs.StaleStepLemmas.{AllMixed, IsOrdered}
use Rattle.gptp_bmca_machine.proofs.StaleToldLemmas.{IsUnhindered, over_all, stale_root}
use Rattle.gptp_bmca_machine.proofs.StandsLemmas.{port_stands, stands_there}
use Rattle.gptp_bmca_machine.proofs.TwoTopsLemmas.{IsDeeper, Tree, beside}

-- a side is one of two that differ
which_side : (a b x : Side) → (a ≡ b → ⊥) → (x ≡ a) ⊎ (x ≡ b)
which_side First First x apart = absurd (apart refl)
which_side First Second First apart = inl refl
which_side First Second Second apart = inr refl
which_side Second First First apart = inr refl
which_side Second First Second apart = inl refl
which_side Second Second x apart = absurd (apart refl)

-- One top leads over the link to the second, and another from that back; the first is nearer to its top than the second
-- to its own, or as near with the lower clock.
pub record IsStronger (depth : Side → ℕ → ℕ) (v u : ℕ) : Type 0 where
  pub side : Side
  pub other : Side
  pub deeper : IsDeeper depth side v u
  pub back : IsDeeper depth other u v
  pub first : (depth side v < depth other u) ⊎ ((depth side v ≡ depth other u) × (v < u))

module _ (depth : Side → ℕ → ℕ) where
  module _ (v u : ℕ) (strong : IsStronger depth v u) where
    sides_apart : strong.side ≡ strong.other → ⊥
    sides_apart same =
        let down = strong.deeper in
        let up = strong.back in
        let at_v = ap (λ (x : Side). depth x v) same in
        let at_u = ap (λ (x : Side). depth x u) same in
        omega (arith, down, up, at_v, at_u)

    pub side_of : (x : Side) → (x ≡ strong.side) ⊎ (x ≡ strong.other)
    side_of x = which_side strong.side strong.other x sides_apart

    -- no other leads over it
    pub only_down : (x : Side) → IsDeeper depth x v u → x ≡ strong.side
    only_down x down = elim (side_of x) [
      | inl same ↦ same
      | inr is ↦
          let up = strong.back in
          let at_v = ap (λ (y : Side). depth y v) is in
          let at_u = ap (λ (y : Side). depth y u) is in
          absurd (omega (arith, down, up, at_v, at_u))
    ]

    pub only_back : (x : Side) → IsDeeper depth x u v → x ≡ strong.other
    only_back x up = elim (side_of x) [
      | inr same ↦ same
      | inl is ↦
          let down = strong.deeper in
          let at_v = ap (λ (y : Side). depth y v) is in
          let at_u = ap (λ (y : Side). depth y u) is in
          absurd (omega (arith, down, up, at_v, at_u))
    ]

    -- by the other top it is farther
    pub other_farther : depth strong.side v < depth strong.other v
    other_farther =
        let up = strong.back in
        elim strong.first [ inl less ↦ omega (arith, less, up) | inr (same, lower) ↦ omega (arith, same, up) ]

  -- not both ends are the stronger
  pub not_both : (v u : ℕ) → IsStronger depth v u → IsStronger depth u v → ⊥
  not_both v u strong turned = by strong.first turned.first
    where
      at_v : depth turned.other v ≡ depth strong.side v
      at_v = ap (λ (x : Side). depth x v) (only_down v u strong turned.other turned.back)

      at_u : depth turned.side u ≡ depth strong.other u
      at_u = ap (λ (x : Side). depth x u) (only_back v u strong turned.side turned.deeper)

      by : (depth strong.side v < depth strong.other u) ⊎ ((depth strong.side v ≡ depth strong.other u) × (v < u))
          → (depth turned.side u < depth turned.other v)
          ⊎ ((depth turned.side u ≡ depth turned.other v) × (u < v)) → ⊥
      by (inl less) (inl more) = omega (arith, less, more, at_v, at_u)
      by (inl less) (inr (same, lower)) = omega (arith, less, same, at_v, at_u)
      by (inr (same, lower)) (inl more) = omega (arith, same, more, at_v, at_u)
      by (inr (same, lower)) (inr (same', lower')) = omega (arith, lower, lower')

  -- one of both ends is the stronger
  pub stronger_one : (v u : ℕ) (x y : Side) → v ≢ u → IsDeeper depth x v u → IsDeeper depth y u v
      → IsStronger depth v u ⊎ IsStronger depth u v
  stronger_one v u x y apart down up = elim (dec_lt (depth x v) (depth y u)) [
    | yes less ↦ inl (record { side = x; other = y; deeper = down; back = up; first = inl less })
    | no not ↦ elim (dec_lt (depth y u) (depth x v)) [
      | yes less ↦ inr (record { side = y; other = x; deeper = up; back = down; first = inl less })
      | no not' ↦
          let same : depth x v ≡ depth y u = omega (arith, not, not') in
          elim (dec_lt v u) [
            | yes lower ↦ inl (record { side = x; other = y; deeper = down; back = up; first = inr (same, lower) })
            | no above ↦ inr (record {
              side = y;
              other = x;
              deeper = up;
              back = down;
              first = inr (sym same, lower above);
            })
          ]
    ]
  ]
    where
      lower : (v < u → ⊥) → u < v
      lower above = elim (dec_lt u v) [
        | yes less ↦ less
        | no not ↦ absurd (apart (omega (arith, above, not)))
      ]

module _ (says : Spelling) (n : Network) (next : System) (top : Side → ℕ) (depth : Side → ℕ → ℕ)
    (t : IsTreeOfTops n next top depth) (old base : ℕ) (worse : old < next.identity)
    (near : (side : Side) (v : ℕ) → Tree n next top depth t v → base + depth side v < 255) (start : ℕ) where
  abbrev root_then : System
  root_then = stale_root says n next top depth t old base worse near

  -- The stronger end tells what it told at rest; or it has left that, and what it tells since is on its way to one that
  -- holds what was told before; or that has come.
  abbrev pub StrongStage : (v p u q : ℕ) → IsStronger depth v u → MachineState → Type 0
  StrongStage v p u q strong w =
      DownStage says n.graph n (stale_root says n next top depth t old base worse near) (base + depth strong.side v)
      (falls_by n start (suc (depth strong.side v))) v p u q w

  abbrev pub AllStrong : MachineState → Type 0
  AllStrong w = (v p u q : ℕ) → Tree n next top depth t v → Joins n.graph (port_of v (suc p)) (port_of u (suc q))
      → (strong : IsStronger depth v u) → StrongStage v p u q strong w

  module _ (w : MachineState) (kept : IsAfterLoss n w)
      (dark : BareHoldStale says n next top depth t old base worse w)
      (mixed : AllMixed says n next top depth t old base worse w) where
    abbrev Follows : (v : ℕ) → Tree n next top depth t v → (s : Station)
        → slice_get w.stations (n.place v) ≡ Some s → Type 0
    Follows v in_v s at =
        FollowsStale says n next top depth t old base worse w kept dark v in_v
        (λ a b i. over_all says n next top depth t old base worse near w mixed v a b i in_v) s at

    follows : (v : ℕ) (in_v : Tree n next top depth t v) (s : Station)
        (at : slice_get w.stations (n.place v) ≡ Some s) → s.root ≡ old → Follows v in_v s at
    follows v in_v s at root =
        follows_stale says n next top depth t old base worse w kept dark v in_v
        (λ a b i. over_all says n next top depth t old base worse near w mixed v a b i in_v) s at root

    -- what the stronger end of a link is told by the top on its side gives it its old choice
    pub old_by : (v u : ℕ) (in_v : Tree n next top depth t v) (strong : IsStronger depth v u) (s : Station)
        (at : slice_get w.stations (n.place v) ≡ Some s) (i : ℕ) (r : Reception) → HoldsAt s i r → r.said.root ≡ old
        → suc r.said.steps ≡ base + depth strong.side v → HasChoice s root_then (base + depth strong.side v)
    old_by v u in_v strong s at i r holds root steps = (is_root, by (side_of depth v u strong stale.side))
      where
        is_root : s.root ≡ old
        is_root = stale_held says n next top depth t old base worse w kept dark v in_v
            (λ a b i. over_all says n next top depth t old base worse near w mixed v a b i in_v) s at i r holds root

        stale : Follows v in_v s at
        stale = follows v in_v s at is_root

        rest : StationIsAtRest s
        rest = (kept.calm.stations (n.place v) s at (lives_at n w kept.calm v in_v.reached.1.begins s at).0).at_rest

        few : s.steps ≤ base + depth strong.side v
        few = elim (dec_lt (base + depth strong.side v) s.steps) [
          | no not ↦ omega (arith, not)
          | yes more ↦ absurd (rest.held_not_lower i r holds
              (subst (IsLower (path_vector r.said (suc i))) (sym rest.is)
              (inr (root ∙ sym is_root, inl (omega (arith, more, steps))))))
        ]

        by : (stale.side ≡ strong.side) ⊎ (stale.side ≡ strong.other) → s.steps ≡ base + depth strong.side v
        by (inl same) = stale.steps ∙ ap (λ (x : Side). base + depth x v) same
        by (inr is) =
            let far = stale.steps in
            let same = ap (λ (x : Side). depth x v) is in
            let farther = other_farther depth v u strong in
            absurd (omega (arith, far, same, farther, few))

    -- who tells over the link to the weaker end what is stale has its old choice
    pub old_telling : (v p u q : ℕ) (in_v : Tree n next top depth t v)
        (joins : Joins n.graph (port_of v (suc p)) (port_of u (suc q))) (strong : IsStronger depth v u) (s : Station)
        (at : slice_get w.stations (n.place v) ≡ Some s) (pv : Port) (there : slice_get s.ports p ≡ Some pv)
        (a b : ℕ) → s.root ≡ old → pv.held ≡ Mine a b → HasChoice s root_then (base + depth strong.side v)
    old_telling v p u q in_v joins strong s at pv there a b root mine =
        let stale = follows v in_v s at root in
        let down = stale_down says n next top depth t old base worse w kept dark v in_v
        (λ x y i. over_all says n next top depth t old base worse near w mixed v x y i in_v) s
        at p u q joins pv there a b
        mine stale in
        let same = only_down depth v u strong stale.side down in
        (root, stale.steps ∙ ap (λ (x : Side). base + depth x v) same)

    -- ---- what the weaker end holds

    module _ (v p u q : ℕ) (in_v : Tree n next top depth t v)
        (joins : Joins n.graph (port_of v (suc p)) (port_of u (suc q))) (strong : IsStronger depth v u) where
      -- until the last stage, what was told before
      pub record HoldsOldTold (pu : Port) : Type 0 where
        pub r : Reception
        pub holds : pu.held ≡ Received r
        pub root : r.said.root ≡ old
        pub steps : r.said.steps ≡ base + depth strong.side v

      pub stage_holds : StrongStage v p u q strong w → (su : Station) (pu : Port)
          → slice_get w.stations (n.place u) ≡ Some su → slice_get su.ports q ≡ Some pu
          → HoldsOldTold pu ⊎ (HasLeft n w v root_then (base + depth strong.side v) × IsFreeAt says n.graph n v p u q w)
      stage_holds (inr (inr done)) su pu at there = inr done
      stage_holds (inr (inl (not, told))) su pu at there =
          let has = kept.calm.lanes (port_of v (suc p)) (port_of u (suc q)) joins in
          let old_held = told su pu has.lane at there has.there in
          inl (record {
            r = old_held.r;
            holds = old_held.holds;
            root = old_held.final.root;
            steps = old_held.final.steps;
          })
      stage_holds (inl (is_old, stays)) su pu at there = inl (by (stands_there n t.well w kept v
          in_v.reached.1.begins))
        where
          by : ((s : Station) × (slice_get w.stations (n.place v) ≡ Some s)) → HoldsOldTold pu
          by (s, at_v) =
              let has = kept.calm.lanes (port_of v (suc p)) (port_of u (suc q)) joins in
              let (pv, there_v) = port_stands n t.well w kept v p (port_of u (suc q)) s at_v joins in
              let stay = stays pv pu has.lane (record {
                v = s;
                u = su;
                teller = at_v;
                teller_port = there_v;
                hearer = at;
                hearer_port = there;
                lane = has.there;
              }) in
              record {
                r = stay.what;
                holds = stay.holds;
                root = stay.final.root;
                steps = stay.final.steps;
              }

    -- ---- what is stale and comes to a system that tells what is stale isn't lower

    pub ordered_so : AllStrong w → IsOrdered says n next top depth t old base worse w
    ordered_so strongs v p u q in_v joins tells s l f a at lane among said stale replaces =
        by_port (port_stands n t.well w kept v p (port_of u (suc q)) s at joins)
      where
        back : Joins n.graph (port_of u (suc q)) (port_of v (suc p))
        back = Joins-sym n.graph (port_of v (suc p)) (port_of u (suc q)) joins

        in_u : Tree n next top depth t u
        in_u = beside n next top depth t v u in_v (suc p, suc q, joins)

        by_port : ((pv : Port) × (slice_get s.ports p ≡ Some pv)) → ⊥
        by_port (pv, there) = elim (stronger_one depth v u follows_v.side stale.side
            (t.well.apart (port_of v (suc p)) (port_of u (suc q)) joins) down stale.deeper) [
              | inl strong ↦ not_lower strong
              | inr strong ↦ weaker strong
            ]
          where
            root : s.root ≡ old
            root = (tells s pv at there).0

            follows_v : Follows v in_v s at
            follows_v = follows v in_v s at root

            down : IsDeeper depth follows_v.side v u
            down = stale_down says n next top depth t old base worse w kept dark v in_v
                (λ x y i. over_all says n next top depth t old base worse near w mixed v x y i in_v) s at p u q joins pv
                there s.root s.steps (tells s pv at there).1 follows_v

            source : a.source.clock ≡ u
            source = ap (λ (e : PortIdentity). e.clock)
                ((mixed u q v p in_u back s pv l at there lane).sent f a among said)

            not_lower : IsStronger depth v u → ⊥
            not_lower strong = by strong.first replaces
              where
                steps_v : s.steps ≡ base + depth strong.side v
                steps_v = (old_telling v p u q in_v joins strong s at pv there s.root s.steps root
                    (tells s pv at there).1).1

                steps_a : a.steps ≡ base + depth strong.other u
                steps_a = stale.steps ∙ ap (λ (x : Side). base + depth x u)
                    (only_back depth v u strong stale.side stale.deeper)

                root_a : a.root ≡ old
                root_a = stale.root

                by : (depth strong.side v < depth strong.other u)
                    ⊎ ((depth strong.side v ≡ depth strong.other u) × (v < u))
                    → Replaces v (suc p) a (Mine s.root s.steps) → ⊥
                by first (inl less) = omega (arith, less, root_a, root)
                by (inl nearer) (inr (same, inl fewer)) = omega (arith, fewer, nearer, steps_v, steps_a)
                by (inl nearer) (inr (same, inr (equal, rest))) = omega (arith, equal, nearer, steps_v, steps_a)
                by (inr (as_near, lower)) (inr (same, inl fewer)) = omega (arith, fewer, as_near, steps_v, steps_a)
                by (inr (as_near, lower)) (inr (same, inr (equal, inl clock))) = omega (arith, clock, lower, source)
                by (inr (as_near, lower)) (inr (same, inr (equal, inr (also, ports)))) =
                    omega (arith, also, lower, source)

            weaker : IsStronger depth u v → ⊥
            weaker strong =
                let stage = strongs u q v p in_u back strong in
                elim (stage_holds u q v p in_u back strong stage s pv at there) [
                  | inl h ↦ absurd (let both : Mine s.root s.steps ≡ Received h.r =
                      sym (tells s pv at there).1 ∙ h.holds in cc)
                  | inr (not, free) ↦ elim ((free s pv l at there lane).flight f a among said) [
                    | inl whole ↦
                        let more = whole_worse says n next top depth t old base worse u a in_u whole in
                        let is = stale.root in
                        omega (arith, more, is)
                    | inr names ↦
                        let few = stale.names v in_v names in
                        let deep = stale.deeper in
                        omega (arith, few, deep)
                  ]
                ]

    -- ---- whoever may tell what is stale isn't hindered

    module _ (v p u q : ℕ) (in_v : Tree n next top depth t v)
        (joins : Joins n.graph (port_of v (suc p)) (port_of u (suc q))) (before : ℕ) (in_time : n.most ≤ before) where
      back : Joins n.graph (port_of u (suc q)) (port_of v (suc p))
      back = Joins-sym n.graph (port_of v (suc p)) (port_of u (suc q)) joins

      in_u : Tree n next top depth t u
      in_u = beside n next top depth t v u in_v (suc p, suc q, joins)

      -- the stronger end
      pub unhindered_strong : (strong : IsStronger depth v u)
          → IsUnhindered says n next top depth t old base worse near v p u q in_v joins strong.side strong.deeper before
          in_time w kept dark mixed
      unhindered_strong strong = record {
        held = λ s pv r at there holds root steps. worse_held s pv r at there holds root steps;
        weaker = λ s pu steps at there root mine. weaker s pu steps at there root mine;
      }
        where
          worse_held : (s : Station) (pv : Port) (r : Reception) → slice_get w.stations (n.place v) ≡ Some s
              → slice_get s.ports p ≡ Some pv → pv.held ≡ Received r → s.root ≡ old
              → s.steps ≡ base + depth strong.side v → old < r.said.root
          worse_held s pv r at there holds root steps =
              let has = kept.calm.lanes (port_of u (suc q)) (port_of v (suc p)) back in
              let is = mixed u q v p in_u back s pv has.lane at there has.there in
              elim (is.hears r holds) [
                | inl whole ↦ whole_worse says n next top depth t old base worse u r.said in_u whole
                | inr stale ↦ absurd (none stale (is.source r holds))
              ]
            where
              live : (s.live ≡ true) × (s.clock ≡ v)
              live = lives_at n w kept.calm v in_v.reached.1.begins s at

              rest : StationIsAtRest s
              rest = (kept.calm.stations (n.place v) s at live.0).at_rest

              none : IsStale says n next top depth t old base worse u v r.said
                  → r.said.source ≡ port_of u (suc q) → ⊥
              none stale source = elim (rest.passive p r (pv, there, holds)) [
                | inr not_lower ↦ not_lower (inr (root ∙ sym stale.root, lower strong.first))
                | inl slave ↦ by_slave slave
              ]
                where
                  steps_r : r.said.steps ≡ base + depth strong.other u
                  steps_r = stale.steps ∙ ap (λ (x : Side). base + depth x u)
                      (only_back depth v u strong stale.side stale.deeper)

                  lower : (depth strong.side v < depth strong.other u)
                      ⊎ ((depth strong.side v ≡ depth strong.other u) × (v < u))
                      → IsLower (s.steps ∷ s.clock ∷ suc p ∷ suc p ∷ [])
                      (r.said.steps ∷ r.said.source.clock ∷ r.said.source.port ∷ suc p ∷ [])
                  lower (inl nearer) = inl (omega (arith, nearer, steps, steps_r))
                  lower (inr (as_near, less)) =
                      let clock = live.1 in
                      let from : r.said.source.clock ≡ u = ap (λ (e : PortIdentity). e.clock) source in
                      inr (omega (arith, as_near, steps, steps_r), inl (omega (arith, less, clock, from)))

                  by_slave : s.slave ≡ Some (suc p) → ⊥
                  by_slave slave = elim rest.chosen [
                    | inl (own, no_slave) ↦ absurd (let both : Some (suc p) ≡ None = sym slave ∙ no_slave in cc)
                    | inr (i, x, holds_x, path, slave_x) ↦
                        let same : i ≡ p = same_place i p (sym slave_x ∙ slave) in
                        let one : x ≡ r =
                        same_holds s p x r (subst (λ j. HoldsAt s j x) same holds_x) (pv, there, holds) in
                        let is = rest.is in
                        let steps_x : suc x.said.steps ≡ s.steps = cc in
                        let more : suc r.said.steps ≡ s.steps =
                        subst (λ (y : Reception). suc y.said.steps ≡ s.steps) one steps_x in
                        elim strong.first [
                          | inl nearer ↦ omega (arith, nearer, more, steps, steps_r)
                          | inr (as_near, less) ↦ omega (arith, as_near, more, steps, steps_r)
                        ]
                  ]

          weaker : (s : Station) (pu : Port) (steps : ℕ) → slice_get w.stations (n.place u) ≡ Some s
              → slice_get s.ports q ≡ Some pu → s.root ≡ old → pu.held ≡ Mine old steps
              → IsLower (final_vector (telling n before (base + depth strong.side v) root_then v p u q))
              (master old steps u (suc q))
          weaker s pu steps at there root mine = inr (refl, by strong.first)
            where
              live : (s.live ≡ true) × (s.clock ≡ u)
              live = lives_at n w kept.calm u in_u.reached.1.begins s at

              stale : Follows u in_u s at
              stale = follows u in_u s at root

              up : IsDeeper depth stale.side u v
              up = stale_down says n next top depth t old base worse w kept dark u in_u
                  (λ x y i. over_all says n next top depth t old base worse near w mixed u x y i
                  in_u) s at q v p back pu
                  there old steps mine stale

              steps_u : steps ≡ base + depth strong.other u
              steps_u =
                  ((kept.calm.stations (n.place u) s at live.0).at_rest.mine q pu old steps there mine).1
                  ∙ stale.steps ∙ ap (λ (x : Side). base + depth x u) (only_back depth v u strong stale.side up)

              by : (depth strong.side v < depth strong.other u)
                  ⊎ ((depth strong.side v ≡ depth strong.other u) × (v < u))
                  → IsLower ((base + depth strong.side v) ∷ v ∷ suc p ∷ suc q ∷ []) (steps ∷ u ∷ suc q ∷ suc q ∷ [])
              by (inl nearer) = inl (omega (arith, nearer, steps_u))
              by (inr (as_near, less)) = inr (omega (arith, as_near, steps_u), inl less)

      -- the weaker end, once the stronger has left what is stale, and all that it told has come
      pub unhindered_weak : (side : Side) (deeper : IsDeeper depth side v u) (strong : IsStronger depth u v)
          → HasLeft n w u root_then (base + depth strong.side u) → IsFreeAt says n.graph n u q v p w
          → IsUnhindered says n next top depth t old base worse near v p u q in_v joins side
          deeper before in_time w kept
          dark mixed
      unhindered_weak side deeper strong left free = record {
        held = λ s pv r at there holds root steps.
            let has = kept.calm.lanes (port_of u (suc q)) (port_of v (suc p)) back in
            whole_worse says n next top depth t old base worse u r.said in_u
            ((free s pv has.lane at there has.there).hears r holds);
        weaker = λ s pu steps at there root mine.
            absurd (left s at (old_telling u q v p in_u back strong s at pu there old steps root mine));
      }
