-- A system at rest of which all that is held fits: what it has chosen, and which of its ports are master.
use Rattle.std.proofs.Common.{◌≡◌, ◌≢◌, ◌⊎◌, ◌≤◌, ◌<◌, ℕ, zero, suc, List, [], ◌∷◌, Some, None, slice_get, refl, sym, ap, subst, ◌∙◌, inl, inr, arith}
use native.Mathlib.Decide.{dec_le}
use Rattle.gptp_lists.specs.Members.{In}
use Rattle.gptp_graph.specs.Order.{IsLower}
use Rattle.gptp_graph.specs.Path.{Reaches}
use Rattle.gptp_graph.specs.Snapshot.{System, PortIdentity, Snapshot, IsWellFormed, clocks, port_of, Joins, IsLinked}
use Rattle.gptp_graph.specs.Best.{IsBest}
use Rattle.gptp_graph.specs.Distance.{IsDistance}
use Rattle.gptp_graph.proofs.LinkLemmas.{Joins-sym}
use Rattle.gptp_graph.proofs.SystemLemmas.{In-clocks, same_clock, same_identity}
use Rattle.gptp_graph.proofs.PathLemmas.{Reaches-self}
use Rattle.gptp_graph.proofs.DistanceLemmas.{IsDistance-unique, IsDistance-best, best_at_zero}
use Rattle.gptp_bmca_machine.specs.Station.{Reception, Held, Disabled, Aged, Mine, Received, Port, Station, HoldsAt}
use Rattle.gptp_bmca_machine.specs.Vectors.{message, path_vector, master, system_vector}
use Rattle.gptp_bmca_machine.specs.Clean.{CameOverLink, CameFits}
use Rattle.gptp_bmca_machine.specs.Facts.{station_system}
use Rattle.gptp_bmca_machine.specs.AtRest.{ChoosesItself, ChoosesPort, StationIsAtRest}
use Rattle.gptp_bmca_machine.specs.LossLaws.{IsWhatIsLeft, WasSystem}
use Rattle.gptp_bmca_machine.specs.Network.{Network}
use Rattle.gptp_bmca_machine.proofs.PlaceLemmas.{same_place}

-- a system that a snapshot has is one of it whose identity was the same
pub was_itself : (g : Snapshot) (s : System) → In s g.systems → WasSystem g s
was_itself g s known =
    record { old = s; known = known; clock = refl; identity = omega arith }

-- a network of which each system is one of the snapshot, and each link, is what is left of it
pub left_of : (g : Snapshot) (n : Network) → IsWellFormed g → ((s : System) → In s n.graph.systems → In s g.systems)
    → ((p q : PortIdentity) → Joins n.graph p q → Joins g p q) → IsWhatIsLeft g n
left_of g n well systems links =
    record { graph = well; systems = λ s known. was_itself g s (systems s known); links = links }

-- its clock is one of the snapshot
pub was_there : (g : Snapshot) (s : System) → WasSystem g s → In s.clock (clocks g)
was_there g s was = subst (λ c. In c (clocks g)) was.clock (In-clocks g was.old was.known)

-- a system that has the best's identity as its root, and so many steps
pub record Chooses (s : Station) (best : System) (d : ℕ) : Type 0 where
  pub root : s.root ≡ best.identity
  pub steps : s.steps ≡ d

-- What is held respects the snapshot, whatever its trace names: its root is no better than the best, and for that its
-- steps are no fewer than the system's distance less one, nor than the sender's.
pub record CameBounded (g : Snapshot) (c n : ℕ) (r : Reception) : Type 0 where
  pub over : IsLinked g (port_of c n) → CameOverLink g c n r.said
  pub root : (best : System) → IsBest g c best → best.identity ≤ r.said.root
  pub here : (best : System) (far : ℕ) → IsBest g c best → r.said.root ≡ best.identity → IsDistance g c far
      → far ≤ suc r.said.steps

-- what fits does
pub bounded : (g : Snapshot) (c n : ℕ) (r : Reception) → CameFits g c n r → CameBounded g c n r
bounded g c n r came = record { over = came.over; root = came.fits.root; here = came.fits.here }

-- it is at rest, the snapshot has it, maybe with a better identity, and all it holds respects that
pub record IsClear (g : Snapshot) (s : Station) : Type 0 where
  pub rest : StationIsAtRest s
  pub known : WasSystem g (station_system s)
  pub held : (i : ℕ) (r : Reception) → HoldsAt s i r → CameBounded g s.clock (suc i) r

-- a list's first two members are those of its parts
first_two : (a b c d : ℕ) (xs ys : List ℕ) → a ∷ b ∷ xs ≡ c ∷ d ∷ ys → (a ≡ c) × (b ≡ d)
first_two a b c d xs ys e = (cc, cc)

module _ (g : Snapshot) (wf : IsWellFormed g) (s : Station) (clear : IsClear g s) (best : System)
    (is_best : IsBest g s.clock best) where
  -- no root that is held is better than the best
  pub held_root : (i : ℕ) (r : Reception) → HoldsAt s i r → best.identity ≤ r.said.root
  held_root i r holds = (clear.held i r holds).root best is_best

  -- what it was
  was : WasSystem g (station_system s)
  was = clear.known

  old_identity : was.old.identity ≤ s.identity
  old_identity = was.identity

  old_root : best.identity ≤ was.old.identity
  old_root =
      is_best.least was.old was.known
      (subst (Reaches g s.clock) (sym was.clock) (Reaches-self g s.clock (was_there g (station_system s) was)))

  -- nor is its own
  pub own_root : best.identity ≤ s.identity
  own_root = let least = old_root in let worse = old_identity in omega (arith, least, worse)

  -- a system with the identity of the best is the best
  pub own_best : best.identity ≡ s.identity → IsDistance g s.clock 0
  own_best e =
      let least = old_root in
      let worse = old_identity in
      let same : best ≡ was.old =
      same_identity g best was.old wf is_best.live was.known (omega (arith, e, least, worse)) in
      let clock : best.clock ≡ s.clock = ap (λ (x : System). x.clock) same ∙ was.clock in
      subst (λ v. IsDistance g v 0) clock
      (IsDistance-best g best (subst (λ v. IsBest g v best) (sym clock) is_best))

  -- the best chooses itself, where its identity is the same still
  pub zero_settles : In (station_system s) g.systems → IsDistance g s.clock 0 → Chooses s best 0
  zero_settles known here = by_choice clear.rest.chosen
    where
      same : best ≡ station_system s
      same = same_clock g best (station_system s) wf is_best.live known (best_at_zero g s.clock best wf is_best here)

      identity : best.identity ≡ s.identity
      identity = ap (λ (x : System). x.identity) same

      by_choice : ChoosesItself s clear.rest.vector ⊎ ChoosesPort s clear.rest.vector → Chooses s best 0
      by_choice (inl (own, none)) =
          let (root, steps) = first_two s.identity 0 s.root s.steps (s.clock ∷ 0 ∷ 0 ∷ []) clear.rest.source
          (sym own ∙ clear.rest.is) in
          record { root = sym root ∙ sym identity; steps = sym steps }
      by_choice (inr (i, r, holds, path, slave)) =
          absurd (clear.rest.own_not_lower (subst (IsLower (system_vector s)) (sym path) (lower (held_root i r holds))))
        where
          lower : best.identity ≤ r.said.root → IsLower (system_vector s) (path_vector r.said (suc i))
          lower h = let own : best.identity ≡ s.identity = identity in elim (dec_le r.said.root s.identity) [
            | yes below ↦ inr (omega arith, inl (omega arith))
            | no above ↦ inl (omega arith)
          ]

  -- a system one step farther than one that has told it so follows the best by its distance
  pub suc_settles : (d i : ℕ) (r : Reception) → IsDistance g s.clock (suc d) → HoldsAt s i r
      → r.said.root ≡ best.identity → r.said.steps ≡ d → Chooses s best (suc d)
  suc_settles d i r here holds root steps = by_choice clear.rest.chosen
    where
      not_best : best.identity ≢ s.identity
      not_best e =
          let same : suc d ≡ 0 = IsDistance-unique g s.clock (suc d) 0 wf here (own_best e) in
          absurd (omega arith)

      by_choice : ChoosesItself s clear.rest.vector ⊎ ChoosesPort s clear.rest.vector → Chooses s best (suc d)
      by_choice (inl (own, none)) =
          absurd (clear.rest.held_not_lower i r holds
          (subst (IsLower (path_vector r.said (suc i))) (sym own) (inl (lower own_root not_best))))
        where
          lower : best.identity ≤ s.identity → best.identity ≢ s.identity → r.said.root < s.identity
          lower h other = elim (dec_le s.identity best.identity) [
            | yes below ↦ absurd (other (omega arith))
            | no above ↦ omega arith
          ]
      by_choice (inr (j, x, holds_x, path, slave)) = record {
        root = sym chosen.0 ∙ best_root;
        steps = sym chosen.1 ∙ ap suc best_steps;
      }
        where
          chosen : (x.said.root ≡ s.root) × (suc x.said.steps ≡ s.steps)
          chosen =
              first_two x.said.root (suc x.said.steps) s.root s.steps
              (x.said.source.clock ∷ x.said.source.port ∷ suc j ∷ []) clear.rest.source (sym path ∙ clear.rest.is)

          not_lower : IsLower (path_vector r.said (suc i)) (path_vector x.said (suc j)) → ⊥
          not_lower h =
              clear.rest.held_not_lower i r holds (subst (IsLower (path_vector r.said (suc i))) (sym path) h)

          best_root : x.said.root ≡ best.identity
          best_root = from (held_root j x holds_x)
            where
              from : best.identity ≤ x.said.root → x.said.root ≡ best.identity
              from h = elim (dec_le x.said.root best.identity) [
                | yes below ↦ omega arith
                | no above ↦ absurd (not_lower (inl (omega arith)))
              ]

          best_steps : x.said.steps ≡ d
          best_steps =
              let least : suc d ≤ suc x.said.steps =
              (clear.held j x holds_x).here best (suc d) is_best best_root here in
              elim (dec_le x.said.steps d) [
                | yes below ↦ omega arith
                | no above ↦ absurd (not_lower (inr (root ∙ sym best_root, inl (omega arith))))
              ]

  -- what it has chosen came from its parent's distance: a system of distance d + 1 chose what a port received
  pub chosen_port : (d : ℕ) → Chooses s best (suc d) → ChoosesPort s clear.rest.vector
  chosen_port d chooses = elim clear.rest.chosen [
    | inl (own, none) ↦
        let (root, steps) = first_two s.identity 0 s.root s.steps (s.clock ∷ 0 ∷ 0 ∷ []) clear.rest.source
        (sym own ∙ clear.rest.is) in
        let more : s.steps ≡ suc d = chooses.steps in
        absurd (omega arith)
    | inr port ↦ port
  ]

  -- and a system of distance 0 itself
  pub chosen_itself : Chooses s best 0 → ChoosesItself s clear.rest.vector
  chosen_itself chooses = elim clear.rest.chosen [
    | inl own ↦ own
    | inr (i, r, holds, path, slave) ↦
        let (root, steps) = first_two r.said.root (suc r.said.steps) s.root s.steps
        (r.said.source.clock ∷ r.said.source.port ∷ suc i ∷ []) clear.rest.source (sym path ∙ clear.rest.is) in
        let none : s.steps ≡ 0 = chooses.steps in
        absurd (omega arith)
  ]

  -- what it has chosen names the best and one step less
  pub chosen_said : (d i : ℕ) (r : Reception) → Chooses s best (suc d)
      → clear.rest.vector ≡ path_vector r.said (suc i) → (r.said.root ≡ best.identity) × (r.said.steps ≡ d)
  chosen_said d i r chooses path =
      let (root, steps) = first_two r.said.root (suc r.said.steps) s.root s.steps
      (r.said.source.clock ∷ r.said.source.port ∷ suc i ∷ []) clear.rest.source (sym path ∙ clear.rest.is) in
      (root ∙ chooses.root, let more : s.steps ≡ suc d = chooses.steps in omega arith)

  -- its slave port leads to a system that is nearer
  pub slave_nearer : (d far i : ℕ) (u : PortIdentity) → Chooses s best d → Joins g (port_of s.clock (suc i)) u
      → IsDistance g u.clock far → s.slave ≡ Some (suc i) → far < d
  slave_nearer zero far i u chosen joins there slave =
      let none : s.slave ≡ None = (chosen_itself chosen).1 in
      absurd (let x : Some (suc i) ≡ None = sym slave ∙ none in cc)
  slave_nearer (suc e) far i u chosen joins there slave = by_port (chosen_port e chosen)
    where
      by_port : ChoosesPort s clear.rest.vector → far < suc e
      by_port (j, x, holds, path, slave_x) =
          let (root, steps) = chosen_said e j x chosen path in
          let same : suc j ≡ suc i = ap suc (same_place j i (sym slave_x ∙ slave)) in
          let came =
          (clear.held j x holds).over (subst (λ n. IsLinked g (port_of s.clock n)) (sym same) (u, joins)) in
          let other : came.from ≡ u =
          wf.one_link (port_of s.clock (suc i)) came.from u
          (subst (λ n. Joins g (port_of s.clock n) came.from) same
          (Joins-sym g came.from (port_of s.clock (suc j)) came.joins)) joins in
          let more : far ≤ x.said.steps =
          came.sender best far is_best root
          (subst (λ (p : PortIdentity). IsDistance g p.clock far) (sym other) there) in
          omega arith

  -- whatever it has chosen, its root is no better than the best, and for the best its steps are no fewer than its
  -- distance
  pub root_above : best.identity ≤ s.root
  root_above = elim clear.rest.chosen [
    | inl (own, none) ↦ subst (λ n. best.identity ≤ n)
        (first_two s.identity 0 s.root s.steps (s.clock ∷ 0 ∷ 0 ∷ []) clear.rest.source (sym own ∙ clear.rest.is)).0
        own_root
    | inr (i, r, holds, path, slave) ↦ subst (λ n. best.identity ≤ n)
        (first_two r.said.root (suc r.said.steps) s.root s.steps (r.said.source.clock ∷ r.said.source.port ∷ suc i ∷ [])
        clear.rest.source (sym path ∙ clear.rest.is)).0
        (held_root i r holds)
  ]

  pub steps_above : (far : ℕ) → IsDistance g s.clock far → s.root ≡ best.identity → far ≤ s.steps
  steps_above far here root = by_choice clear.rest.chosen
    where
      by_choice : ChoosesItself s clear.rest.vector ⊎ ChoosesPort s clear.rest.vector → far ≤ s.steps
      by_choice (inl (own, none)) =
          let (identity, steps) = first_two s.identity 0 s.root s.steps (s.clock ∷ 0 ∷ 0 ∷ []) clear.rest.source
          (sym own ∙ clear.rest.is) in
          let none : far ≡ 0 =
          IsDistance-unique g s.clock far 0 wf here (own_best (sym (identity ∙ root))) in
          omega arith
      by_choice (inr (i, r, holds, path, slave)) =
          let (root_is, steps_are) = first_two r.said.root (suc r.said.steps) s.root s.steps
          (r.said.source.clock ∷ r.said.source.port ∷ suc i ∷ []) clear.rest.source (sym path ∙ clear.rest.is) in
          let least : far ≤ suc r.said.steps =
          (clear.held i r holds).here best far is_best (root_is ∙ root) here in
          omega arith

  -- A port towards a system that is farther, or as far with the higher clock, is master once the system has settled:
  -- what it may have received is no better than what it would announce.
  pub is_master : (d far i : ℕ) (q : Port) (u : PortIdentity) → Chooses s best d → slice_get s.ports i ≡ Some q
      → q.held ≢ Disabled → Joins g (port_of s.clock (suc i)) u → IsDistance g u.clock far
      → (d < far) ⊎ ((d ≡ far) × (s.clock < u.clock)) → q.held ≡ Mine best.identity d
  is_master d far i q u chooses at on joins there farther = by_held q.held refl
    where
      mine : (root steps : ℕ) → q.held ≡ Mine root steps → Mine root steps ≡ Mine best.identity d
      mine root steps e =
          let (root_is, steps_are) = clear.rest.mine i q root steps at e in
          λ j. Mine ((root_is ∙ chooses.root) j) ((steps_are ∙ chooses.steps) j)

      none_received : (r : Reception) → q.held ≡ Received r → ⊥
      none_received r e = elim (clear.rest.passive i r holds) [
        | inl slave ↦ not_slave (slave_nearer d far i u chooses joins there slave) farther
        | inr not_lower ↦ not_lower lower
      ]
        where
          holds : HoldsAt s i r
          holds = (q, at, e)

          came : CameOverLink g s.clock (suc i) r.said
          came = (clear.held i r holds).over (u, joins)

          from_is : came.from ≡ u
          from_is =
              wf.one_link (port_of s.clock (suc i)) came.from u
              (Joins-sym g came.from (port_of s.clock (suc i)) came.joins) joins

          steps : r.said.root ≡ best.identity → far ≤ r.said.steps
          steps root =
              came.sender best far is_best root
              (subst (λ (p : PortIdentity). IsDistance g p.clock far) (sym from_is) there)

          source : r.said.source ≡ u
          source = came.source ∙ from_is

          lower : IsLower (master s.root s.steps s.clock (suc i)) (message r.said (suc i))
          lower = by_root (held_root i r holds)
            where
              by_root : best.identity ≤ r.said.root
                  → IsLower (master s.root s.steps s.clock (suc i)) (message r.said (suc i))
              by_root h =
                  let root : s.root ≡ best.identity = chooses.root in
                  elim (dec_le r.said.root best.identity) [
                    | yes below ↦ inr (omega arith, by_steps (steps (omega arith)) chooses.steps farther)
                    | no above ↦ inl (omega arith)
                  ]
                where
                  by_steps : far ≤ r.said.steps → s.steps ≡ d → (d < far) ⊎ ((d ≡ far) × (s.clock < u.clock))
                      → IsLower (s.steps ∷ s.clock ∷ suc i ∷ suc i ∷ [])
                      (r.said.steps ∷ r.said.source.clock ∷ r.said.source.port ∷ suc i ∷ [])
                  by_steps more own (inl less) = inl (omega arith)
                  by_steps more own (inr (same, clock)) = elim (dec_le r.said.steps d) [
                    | yes below ↦ inr (
                      omega arith,
                      inl (subst (λ (p : PortIdentity). s.clock < p.clock) (sym source) clock),
                    )
                    | no above ↦ inl (omega arith)
                  ]

          not_slave : far < d → (d < far) ⊎ ((d ≡ far) × (s.clock < u.clock)) → ⊥
          not_slave nearer (inl less) = absurd (omega arith)
          not_slave nearer (inr (same, clock)) = absurd (omega arith)

      by_held : (held : Held) → q.held ≡ held → q.held ≡ Mine best.identity d
      by_held Disabled e = absurd (on e)
      by_held Aged e = absurd (clear.rest.fresh i q at e)
      by_held (Mine root steps) e = e ∙ mine root steps e
      by_held (Received r) e = absurd (none_received r e)
