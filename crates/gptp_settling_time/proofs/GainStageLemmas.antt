-- Where all is claimed always, a link that news leave as it was is still at its stage.
use Rattle.std.proofs.Common.{◌≡◌, ◌≤◌, ◌<◌, ℕ, suc, true, List, [], ◌∷◌, Some, slice_get, sym, subst, ◌∙◌, inl, inr, arith}
use Rattle.gptp_lists.specs.Members.{In}
use Rattle.gptp_graph.specs.Best.{IsBest}
use Rattle.gptp_graph.specs.Distance.{IsDistance}
use Rattle.gptp_graph.specs.Path.{IsPath}
use Rattle.gptp_graph.specs.Snapshot.{Joins, System, clocks, port_of}
use Rattle.gptp_graph.proofs.ExistenceLemmas.{best_exists, distance_exists}
use Rattle.gptp_graph.proofs.LinkLemmas.{Joins-clock}
use Rattle.gptp_bmca_machine.specs.Calm.{Calm}
use Rattle.gptp_bmca_machine.specs.Frame.{Announce, AnnounceFrame, Spelling}
use Rattle.gptp_bmca_machine.specs.Levels.{Invariant, LeadsFarther}
use Rattle.gptp_bmca_machine.specs.Link.{LinkSettles, Stand}
use Rattle.gptp_bmca_machine.specs.LinkStage.{FinalTail, IsFinal, LinkStage}
use Rattle.gptp_bmca_machine.specs.Network.{IsSettlingNetwork, Network, since, wiring}
use Rattle.gptp_bmca_machine.specs.RestLaws.{SameWiring, StandsAsBefore}
use Rattle.gptp_bmca_machine.specs.SoundLaws.{HasNews}
use Rattle.gptp_bmca_machine.specs.Station.{MachineState, Station}
use Rattle.gptp_bmca_machine.proofs.EndsLemmas.{is_station}
use Rattle.gptp_bmca_machine.proofs.RestingLemmas.{leads_before, nearer_now, best_clock, stays_so}
use Rattle.gptp_bmca_machine.proofs.SettledLemmas.{systems_bounded}
use Rattle.gptp_bmca_machine.proofs.SoundLemmas.{path_on}

module _ (says : Spelling) (n n' : Network) (same : SameWiring n n') (d : ℕ) (b b' : System) (v p u q : ℕ)
    (root : b'.identity ≡ b.identity) where
  final_on : (a : Announce) → IsFinal (wiring n d b v p u q) a → IsFinal (wiring n' d b' v p u q) a
  final_on a final = record {
    root = final.root ∙ sym root;
    steps = final.steps;
    source = final.source;
    log = final.log ∙ sym (same.log (port_of v (suc p)));
    qualified = final.qualified;
  }

  tail_on : (before before' : ℕ) → before ≤ before' → (fs : List AnnounceFrame)
      → FinalTail says (wiring n d b v p u q) before fs → FinalTail says (wiring n' d b' v p u q) before' fs
  tail_on before before' later [] tail = absurd tail
  tail_on before before' later (f ∷ fs) (inl (due, said, final)) =
      inl (omega (arith, due, later), said, λ g a at told. final_on a (final g a at told))
  tail_on before before' later (f ∷ fs) (inr rest) = inr (tail_on before before' later fs rest)

-- claims are made of all links always, and none waits for its timer
pub record ClaimsAlways (n : Network) : Type 0 where
  pub claimed : (d p : ℕ) (v : ℕ) → n.claimed d (port_of v (suc p)) ≡ 0
  pub until : (d p : ℕ) (v : ℕ) → n.until d (port_of v (suc p)) ≡ 0
  pub sound : n.sound ≡ 0

-- A system that has settled after the news had settled before: from a best as good, as far away. So its link led
-- farther before.
module _ (says : Spelling) (n n' : Network) (net : IsSettlingNetwork n) (net' : IsSettlingNetwork n')
    (w : MachineState) (calm : Calm n w) (invariant : Invariant says n w) (always : ClaimsAlways n)
    (news : HasNews n.graph n'.graph) (d : ℕ) (best : System) (v p u q : ℕ)
    (joins : Joins n.graph (port_of v (suc p)) (port_of u (suc q))) (leads : LeadsFarther n'.graph d best v p u q)
    (s : Station) (at : slice_get w.stations (n.place v) ≡ Some s)
    (own : (s.root ≡ best.identity) × (s.steps ≡ d)) where
  known : In v (clocks n.graph)
  known = Joins-clock n.graph (port_of v (suc p)) (port_of u (suc q)) net.graph joins

  zero_sound : n.sound ≡ 0
  zero_sound = always.sound

  is : (s.live ≡ true) × (s.clock ≡ v)
  is = is_station n net w calm invariant.sound v s known at

  old : (best : System) × IsBest n.graph v best
  old = best_exists n.graph v net.graph known

  bounded : (old.0.identity ≤ s.root)
      × ((far : ℕ) → IsDistance n.graph s.clock far → s.root ≡ old.0.identity → far ≤ s.steps)
  bounded =
      systems_bounded says n w (n.place v) s old.0 net calm invariant at is.0
      (subst (λ c. IsBest n.graph c old.0) (sym is.1) old.1) (omega (arith, zero_sound))

  -- the best is still its best
  root : best.identity ≡ old.0.identity
  root =
      let (x, live, clock, lower) = news.systems old.0 old.1.live in
      let (us, path) = old.1.reached in
      let least : best.identity ≤ x.identity =
      leads.is_best.least x live
      (us, subst (λ c. IsPath n'.graph v c us) (sym clock) (path_on n.graph n'.graph news v old.0.clock us path)) in
      let named = own.0 in
      let above = bounded.0 in
      omega (arith, least, lower, named, above)

  far : (e : ℕ) × IsDistance n.graph v e
  far = distance_exists n.graph v net.graph known

  steps : d ≡ far.0
  steps =
      let told = own.1 in
      let most : far.0 ≤ s.steps =
      bounded.1 far.0 (subst (λ c. IsDistance n.graph c far.0) (sym is.1) far.1) (own.0 ∙ root) in
      let grown : d ≤ far.0 =
      nearer_now n.graph n'.graph net.graph net'.graph news v far.0 d old.0 best old.1 leads.is_best
      (best_clock n.graph n'.graph net.graph net'.graph news v old.0 best old.1 leads.is_best root) far.1
      leads.here in
      omega (arith, told, most, grown)

  pub led_before : (old : System) × (best.identity ≡ old.identity) × LeadsFarther n.graph d old v p u q
  led_before = (
    old.0,
    root,
    leads_before n.graph n'.graph net.graph net'.graph news d old.0 best v p u q old.1
        (subst (IsDistance n.graph v) (sym steps) far.1) joins root leads,
  )

module _ (says : Spelling) (n n' : Network) (net : IsSettlingNetwork n) (net' : IsSettlingNetwork n')
    (w w' : MachineState) (calm : Calm n w) (invariant : Invariant says n w) (always : ClaimsAlways n)
    (news : HasNews n.graph n'.graph) (same : SameWiring n n')
    (later : (d : ℕ) → since n (suc d) ≤ since n' (suc d)) where
  pub stage_kept : (v p u q : ℕ) → Joins n.graph (port_of v (suc p)) (port_of u (suc q))
      → StandsAsBefore n w w' v p u → (d : ℕ) (best : System) → d < 255 → LeadsFarther n'.graph d best v p u q
      → LinkSettles says (wiring n' d best v p u q) w'
  stage_kept v p u q joins stood d best near leads from pv pu l stand ready = stage
    where
      at_v : slice_get w.stations (n.place v) ≡ Some stand.v
      at_v =
          stood.teller stand.v (subst (λ i. slice_get w'.stations i ≡ Some stand.v) (same.place v) stand.teller)

      led : (old : System) × (best.identity ≡ old.identity) × LeadsFarther n.graph d old v p u q
      led =
          led_before says n n' net net' w calm invariant always news d best v p u q joins leads stand.v at_v ready.0

      before : Stand (wiring n d led.0 v p u q) w pv pu l
      before = record {
        v = stand.v;
        u = stand.u;
        teller = at_v;
        teller_port = stand.teller_port;
        hearer = stood.hearer stand.u
            (subst (λ i. slice_get w'.stations i ≡ Some stand.u) (same.place u) stand.hearer);
        hearer_port = stand.hearer_port;
        lane = stood.lane l
            (subst (λ i. slice_get w'.lanes i ≡ Some l) (same.lane (port_of v (suc p))) stand.lane);
      }

      was : LinkStage says (wiring n d led.0 v p u q) pv.announce pu.held l.frames
      was =
          let claimed : n.claimed d (port_of v (suc p)) ≡ 0 = always.claimed d p v in
          invariant.levels d led.0 v p u q near led.2 (omega (arith, claimed)) pv pu l before
          ((ready.0.0 ∙ led.1, ready.0.1), ready.1)

      stage : LinkStage says (wiring n' d best v p u q) pv.announce pu.held l.frames
      stage = elim was [
        | inl timer ↦ (let until : n.until d (port_of v (suc p)) ≡ 0 = always.until d p v in
            absurd (omega (arith, timer, until)))
        | inr (inl tail) ↦ inr (inl (tail_on says n n' same d led.0 best v p u q led.1 (since n (suc d))
            (since n' (suc d)) (later d) l.frames tail))
        | inr (inr stays) ↦ inr (inr (stays_so says n n' same d led.0 best v p u q led.1 pv.announce pu.held l.frames
            stays))
      ]
