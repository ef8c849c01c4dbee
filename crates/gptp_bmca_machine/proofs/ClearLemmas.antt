-- The ends of a link that leads farther, by what each of both systems holds: one that chooses the best by its distance
-- tells so, and what the other would tell itself is worse.
use Rattle.std.proofs.Common.{◌≡◌, ◌≢◌, ◌⊎◌, ◌<◌, ◌≤◌, ℕ, suc, List, [], ◌∷◌, Some, length, slice_get, sym, ap, subst, ◌∙◌, inl, inr, arith}
use Rattle.std.proofs.lemmas.List.{length-append}
use native.Mathlib.Decide.{dec_le}
use Rattle.gptp_lists.specs.Members.{In}
use Rattle.gptp_lists.proofs.SystemSpecLemmas.{In-parts}
use Rattle.gptp_graph.specs.Best.{IsBest}
use Rattle.gptp_graph.specs.Distance.{IsDistance}
use Rattle.gptp_graph.specs.Order.{IsLower}
use Rattle.gptp_graph.specs.Snapshot.{IsWellFormed, Joins, PortIdentity, Snapshot, System, port_of}
use Rattle.gptp_bmca_machine.specs.Facts.{FollowsItself, FollowsPort}
use Rattle.gptp_bmca_machine.specs.Link.{TellerIsReady, TellerIsSettled, final_vector}
use Rattle.gptp_bmca_machine.specs.LinkStage.{Wiring}
use Rattle.gptp_bmca_machine.specs.Clean.{HeldFits}
use Rattle.gptp_bmca_machine.specs.Station.{HoldsAt, Mine, Port, Reception, Station}
use Rattle.gptp_bmca_machine.specs.Vectors.{master}
use Rattle.gptp_bmca_machine.proofs.RestLemmas.{Chooses, IsClear, is_master, root_above, steps_above}

-- ---- a system that chooses the best by its distance

module _ (g : Snapshot) (s : Station) (fits : (i : ℕ) (r : Reception) → HoldsAt s i r → HeldFits g s.clock r.said)
    (best : System) (is_best : IsBest g s.clock best) (d : ℕ)
    (chooses : Chooses s best d) where
  -- its trace has no other system that is as far or farther
  no_farther : (u far : ℕ) → IsBest g u best → IsDistance g u far → d ≤ far → s.clock ≢ u
      → FollowsItself s ⊎ FollowsPort s → In u s.trace → ⊥
  no_farther u far is_best' there as_far apart (inl itself) h =
      elim (subst (In u) itself.trace h) [ inl e ↦ apart (sym e) | inr none ↦ none ]
  no_farther u far is_best' there as_far apart (inr port) h =
      elim (In-parts u port.r.said.path (s.clock ∷ []) (subst (In u) port.trace h)) [
        | inl before ↦
            let few : far ≤ port.r.said.steps =
            (fits port.place port.r port.holds).members best u far is_best (sym port.root ∙ chooses.root)
            before is_best' there in
            let more : s.steps ≡ suc port.r.said.steps = port.steps in
            let own : s.steps ≡ d = chooses.steps in
            absurd (omega (arith, few, more, own, as_far))
        | inr (inl e) ↦ apart (sym e)
        | inr (inr none) ↦ none
      ]

  -- and is as long as its distance says
  pub trace_short : FollowsItself s ⊎ FollowsPort s → length s.trace ≤ suc d
  trace_short (inl itself) = subst (λ (xs : List ℕ). length xs ≤ suc d) (sym itself.trace) (omega arith)
  trace_short (inr port) =
      subst (λ (xs : List ℕ). length xs ≤ suc d) (sym port.trace)
      (let path : length port.r.said.path ≡ suc port.r.said.steps =
      (fits port.place port.r port.holds).long best is_best (sym port.root ∙ chooses.root) in
      let more : s.steps ≡ suc port.r.said.steps = port.steps in
      let own : s.steps ≡ d = chooses.steps in
      omega (arith, path, more, own, length-append port.r.said.path (s.clock ∷ [])))

-- ---- the ends of a link that leads farther

module _ (g : Snapshot) (wf : IsWellFormed g) (k : Wiring) (best : System) (root : k.root ≡ best.identity) (far : ℕ)
    (best_there : IsBest g k.hearer best) (there : IsDistance g k.hearer far)
    (farther : (k.steps < far) ⊎ ((k.steps ≡ far) × (k.teller < k.hearer))) where
  -- a system that chooses it by that distance tells so
  pub tells_clear : (s : Station) → IsClear g s
      → ((i : ℕ) (r : Reception) → HoldsAt s i r → HeldFits g s.clock r.said) → s.clock ≡ k.teller → IsBest g k.teller
      best
      → (to : PortIdentity) → Joins g (port_of k.teller (suc k.teller_port)) to → to.clock ≡ k.hearer
      → k.teller ≢ k.hearer → k.steps < 255 → FollowsItself s ⊎ FollowsPort s
      → (pv : Port) → slice_get s.ports k.teller_port ≡ Some pv → TellerIsReady k s pv → TellerIsSettled k s pv
  tells_clear s clear fits clock is_best to joins to_is apart near follows pv at (has, on) = record {
    mine = is_master g wf s clear best own_best k.steps far k.teller_port pv to chooses at on
        (subst (λ c. Joins g (port_of c (suc k.teller_port)) to) (sym clock) joins)
        (subst (λ c. IsDistance g c far) (sym to_is) there)
        (elim farther [ inl less ↦ inl less | inr (same, lower) ↦ inr (same, omega (arith, lower, clock, to_is)) ])
        ∙ ap (λ r. Mine r k.steps) (sym root);
    near = near;
    foreign = no_farther g s fits best own_best k.steps chooses k.hearer far best_there there as_far
        (λ same. apart (sym clock ∙ same)) follows;
    short = let long = trace_short g s fits best own_best k.steps chooses follows in omega (arith, long, near);
  }
    where
      own_best : IsBest g s.clock best
      own_best = subst (λ c. IsBest g c best) (sym clock) is_best

      chooses : Chooses s best k.steps
      chooses = record { root = has.0 ∙ root; steps = has.1 }

      as_far : k.steps ≤ far
      as_far = elim farther [ inl less ↦ omega (arith, less) | inr (same, lower) ↦ omega (arith, same) ]

  -- what the system that hears would announce itself is worse
  pub weaker_clear : (s : Station) → IsClear g s → s.clock ≡ k.hearer → (pu : Port)
      → slice_get s.ports k.hearer_port ≡ Some pu → (r t : ℕ) → pu.held ≡ Mine r t
      → IsLower (final_vector k) (master r t k.hearer (suc k.hearer_port))
  weaker_clear s clear clock pu at r t mine = by_root own.0 own.1 (root_above g wf s clear best own_best)
      (steps_above g wf s clear best own_best far (subst (λ c. IsDistance g c far) (sym clock) there)) farther
    where
      own_best : IsBest g s.clock best
      own_best = subst (λ c. IsBest g c best) (sym clock) best_there

      own : (r ≡ s.root) × (t ≡ s.steps)
      own = clear.rest.mine k.hearer_port pu r t at mine

      by_root : r ≡ s.root → t ≡ s.steps → best.identity ≤ s.root → (s.root ≡ best.identity → far ≤ s.steps)
          → (k.steps < far) ⊎ ((k.steps ≡ far) × (k.teller < k.hearer))
          → IsLower (final_vector k) (master r t k.hearer (suc k.hearer_port))
      by_root e f above more farther = elim (dec_le s.root best.identity) [
        | no better ↦ inl (omega (arith, better, e, root))
        | yes same ↦ inr (omega (arith, same, above, e, root), by_steps (more (omega (arith, same, above))) farther)
      ]
        where
          by_steps : far ≤ s.steps → (k.steps < far) ⊎ ((k.steps ≡ far) × (k.teller < k.hearer))
              → IsLower (k.steps ∷ k.teller ∷ suc k.teller_port ∷ suc k.hearer_port ∷ [])
              (t ∷ k.hearer ∷ suc k.hearer_port ∷ suc k.hearer_port ∷ [])
          by_steps h (inl less) = inl (omega (arith, h, less, f))
          by_steps h (inr (as_far, lower)) = elim (dec_le s.steps k.steps) [
            | yes least ↦ inr (omega (arith, least, h, as_far, f), inl lower)
            | no over ↦ inl (omega (arith, over, f))
          ]
