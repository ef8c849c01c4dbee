-- A system of a network at rest fails, which cuts off a tree with one or two tops: it begins to fall back. Nobody
-- answers yet.
use Rattle.std.proofs.Common.{◌≡◌, ◌≢◌, ◌⊎◌, ◌<◌, ◌≤◌, ◌+◌, ℕ, suc, true, List, ◌∷◌, Some, slice_get, refl, sym, ap, subst, ◌∙◌, inl, inr, arith}
use Rattle.gptp_lists.specs.Members.{In}
use Rattle.gptp_graph.specs.Best.{IsBest}
use Rattle.gptp_graph.specs.Distance.{IsDistance}
use Rattle.gptp_graph.specs.Path.{Route}
use Rattle.gptp_graph.specs.Snapshot.{Joins, PortIdentity, Snapshot, System, port_of}
use Rattle.gptp_graph.proofs.LinkLemmas.{Joins-sym}
use Rattle.gptp_graph.proofs.PathBoundLemmas.{IsDistance-within}
use Rattle.gptp_graph.proofs.SystemLemmas.{same_identity}
use Rattle.gptp_bmca_machine.specs.Clean.{Whole}
use Rattle.gptp_bmca_machine.specs.Frame.{Announce, AnnounceFrame, Lane, Spelling}
use Rattle.gptp_bmca_machine.specs.Levels.{LeadsFarther}
use Rattle.gptp_bmca_machine.specs.Link.{LinkSettles}
use Rattle.gptp_bmca_machine.specs.LinkStage.{FinalAnnounceStays, IsFinal}
use Rattle.gptp_bmca_machine.specs.LossLaws.{IsAfterLoss, IsLoss}
use Rattle.gptp_bmca_machine.specs.Network.{IsSettlingNetwork, Network}
use Rattle.gptp_bmca_machine.specs.RestLaws.{LinkStays}
use Rattle.gptp_bmca_machine.specs.Station.{Held, MachineState, Mine, Port, Received, Reception, Station}
use Rattle.gptp_bmca_machine.specs.TwoTops.{Side, First, CutsOffTwice}
use Rattle.gptp_bmca_machine.proofs.EndsLemmas.{clear_at, is_station}
use Rattle.gptp_bmca_machine.proofs.FallLemmas.{IsFreeAt, falls_by}
use Rattle.gptp_bmca_machine.proofs.LinkEndsLemmas.{telling}
use Rattle.gptp_bmca_machine.proofs.LinkStepLemmas.{lives_at}
use Rattle.gptp_bmca_machine.proofs.NearestLemmas.{on_way, path_length}
use Rattle.gptp_bmca_machine.proofs.PlaceLemmas.{received_injective}
use Rattle.gptp_bmca_machine.proofs.RestLemmas.{Chooses, is_master}
use Rattle.gptp_bmca_machine.proofs.RestingLemmas.{all_choose, by_then_at, links_stay, stays_so}
use Rattle.gptp_bmca_machine.proofs.StaleEndLemmas.{IsStaleState}
use Rattle.gptp_bmca_machine.proofs.StaleLemmas.{BareHoldStale, IsStale}
use Rattle.gptp_bmca_machine.proofs.StaleLevelLemmas.{FallsFromTops}
use Rattle.gptp_bmca_machine.proofs.StaleOrderLemmas.{AllStrong, IsStronger, stronger_one}
use Rattle.gptp_bmca_machine.proofs.StaleStepLemmas.{AllMixed, IsTelling}
use Rattle.gptp_bmca_machine.proofs.StaleTellLemmas.{AllTell, back_dec}
use Rattle.gptp_bmca_machine.proofs.StandsLemmas.{lane_is, port_on, port_stands, stands_there}
use Rattle.gptp_bmca_machine.proofs.StillLemmas.{live_before, still, still_stays}
use Rattle.gptp_bmca_machine.proofs.TwoTopsLemmas.{beside}
use Rattle.gptp_bmca_machine.proofs.TwoTopsWayLemmas.{LeadsOver, down_leads, least_deep, least_most, leads_down, leads_one, not_both_lead, short_names, strong_least, strong_leads}

-- what is on its way over a link leads to a system that is farther, or as far with the higher clock
abbrev pub FlightLeads : Spelling → Snapshot → MachineState → Type 0
FlightLeads says g w = (j : ℕ) (l : Lane) (f : AnnounceFrame) (a : Announce) (d e : ℕ) → slice_get w.lanes j ≡ Some l
    → In f l.frames → says f.octets a → Joins g l.from l.to → IsDistance g l.from.clock d → IsDistance g l.to.clock e
    → (d < e) ⊎ ((d ≡ e) × (l.from.clock < l.to.clock))

-- what stays stays, whenever those that it leads to are to have settled
telling_stays : (says : Spelling) (n : Network) (before d : ℕ) (best : System) (v p u q announce : ℕ) (held : Held)
    (fs : List AnnounceFrame)
    → FinalAnnounceStays says (still n d best v p u q) announce held fs
    → FinalAnnounceStays says (telling n before d best v p u q) announce held fs
telling_stays says n before d best v p u q announce held fs stays = record {
  what = stays.what;
  holds = stays.holds;
  final = final_too stays.what.said stays.final;
  flight = λ f a at said. final_too a (stays.flight f a at said);
  next = stays.next;
}
  where
    final_too : (a : Announce) → IsFinal (still n d best v p u q) a → IsFinal (telling n before d best v p u q) a
    final_too a final = record {
      root = final.root;
      steps = final.steps;
      source = final.source;
      log = final.log;
      qualified = final.qualified;
    }

module _ (says : Spelling) (n0 n : Network) (net0 : IsSettlingNetwork n0) (w w' : MachineState)
    (loss : IsLoss says n0 n w w') (kept' : IsAfterLoss n w') (leads0 : FlightLeads says n0.graph w)
    (top : Side → ℕ) (best next : System) (base : ℕ) (depth : Side → ℕ → ℕ)
    (c : CutsOffTwice n0.graph n top best next base depth) (some : base ≢ 0) (start : ℕ) (now : w'.time ≤ start) where
  abbrev g : Snapshot
  g = n0.graph

  abbrev Tree : ℕ → Type 0
  Tree v = IsBest n.graph v next

  abbrev least : ℕ → ℕ
  least v = least_deep depth v

  -- ---- each system stands as it did

  stood : (v : ℕ) → Tree v → (s : Station) → slice_get w'.stations (n.place v) ≡ Some s
      → slice_get w.stations (n.place v) ≡ Some s
  stood v in_v s at = loss.stations (n.place v) s at (lives_at n w' kept'.calm v in_v.reached.1.begins s at).0

  at0 : (v : ℕ) → Tree v → (s : Station) → slice_get w'.stations (n.place v) ≡ Some s
      → slice_get w.stations (n0.place v) ≡ Some s
  at0 v in_v s at = subst (λ i. slice_get w.stations i ≡ Some s) (loss.same.place v) (stood v in_v s at)

  lane0 : (v p u q : ℕ) → Joins n.graph (port_of v (suc p)) (port_of u (suc q)) → (l : Lane)
      → slice_get w'.lanes (n.lane (port_of v (suc p))) ≡ Some l
      → slice_get w.lanes (n0.lane (port_of v (suc p))) ≡ Some l
  lane0 v p u q joins l there =
      loss.lanes (port_of v (suc p)) (port_of u (suc q)) l joins
      (subst (λ i. slice_get w'.lanes i ≡ Some l) (loss.same.lane (port_of v (suc p))) there)

  was_v : (v : ℕ) → Tree v → (s : Station) → slice_get w'.stations (n.place v) ≡ Some s
      → (s.live ≡ true) × (s.clock ≡ v)
  was_v v in_v s at =
      is_station n0 net0 w loss.rests.calm loss.rests.invariant.sound v s
      (live_before g n c.tree.well c.left v in_v.reached.1.begins) (at0 v in_v s at)

  close : (v : ℕ) → Tree v → base + least v < 255
  close v in_v =
      let near = c.near First v in_v in
      let few = least_most depth First v in
      omega (arith, near, few)

  chosen : (v : ℕ) → Tree v → (s : Station) → slice_get w'.stations (n.place v) ≡ Some s
      → Chooses s best (base + least v)
  chosen v in_v s at =
      all_choose says n0 net0 w loss.rests.calm loss.rests.invariant loss.rests.late (base + least v) (close v in_v)
      (by_then_at says n0 net0 w loss.rests.calm loss.rests.invariant loss.rests.late (base + least v)
      (IsDistance-within g n0.reach v (base + least v) net0.paths (c.was v in_v))) v best s (at0 v in_v s at)
      (c.was_best v in_v) (c.was v in_v)

  module _ (v p u q : ℕ) (in_v : Tree v) (joins : Joins n.graph (port_of v (suc p)) (port_of u (suc q))) where
    in_u : Tree u
    in_u = beside n next top depth c.tree v u in_v (suc p, suc q, joins)

    before : Joins g (port_of v (suc p)) (port_of u (suc q))
    before = c.left.links (port_of v (suc p)) (port_of u (suc q)) joins

    -- what is on its way is wholly clean, and leads from the end that was nearer
    module _ (l : Lane) (lane : slice_get w'.lanes (n.lane (port_of v (suc p))) ≡ Some l) (f : AnnounceFrame)
        (a : Announce) (among : In f l.frames) (said : says f.octets a) where
      from : l.from ≡ port_of v (suc p)
      from = (lane_is n c.tree.well w' kept' v p u q joins l lane).0

      to : l.to ≡ port_of u (suc q)
      to = (lane_is n c.tree.well w' kept' v p u q joins l lane).1

      over : Joins g l.from l.to
      over = subst (λ k. Joins g k l.to) (sym from) (subst (Joins g (port_of v (suc p))) (sym to) before)

      flown : Whole g v a
      flown =
          let came = loss.rests.whole.lanes (n0.lane (port_of v (suc p))) l f a (lane0 v p u q joins l lane) among said
          over in
          subst (λ (k : PortIdentity). Whole g k.clock a) from came.whole

      leads_there : LeadsOver depth v u
      leads_there = by (leads0 (n0.lane (port_of v (suc p))) l f a (base + least v) (base + least u)
          (lane0 v p u q joins l lane) among said over
          (subst (λ (k : PortIdentity). IsDistance g k.clock (base + least v)) (sym from) (c.was v in_v))
          (subst (λ (k : PortIdentity). IsDistance g k.clock (base + least u)) (sym to) (c.was u in_u)))
        where
          by : (base + least v < base + least u)
              ⊎ ((base + least v ≡ base + least u) × (l.from.clock < l.to.clock)) → LeadsOver depth v u
          by (inl less) = inl (omega (arith, less))
          by (inr (same, lower)) =
              let is_from : l.from.clock ≡ v = ap (λ (k : PortIdentity). k.clock) from in
              let is_to : l.to.clock ≡ u = ap (λ (k : PortIdentity). k.clock) to in
              inr (omega (arith, same), omega (arith, lower, is_from, is_to))

    module _ (leads : LeadsOver depth v u) where
      farther : (base + least v < base + least u) ⊎ ((base + least v ≡ base + least u) × (v < u))
      farther = elim leads [
        | inl less ↦ inl (omega (arith, less))
        | inr (same, lower) ↦ inr (omega (arith, same), lower)
      ]

      -- its port is master
      mine : (s : Station) (pv : Port) → slice_get w'.stations (n.place v) ≡ Some s → slice_get s.ports p ≡ Some pv
          → pv.held ≡ Mine best.identity (base + least v)
      mine s pv at there =
          let is = was_v v in_v s at in
          let late = loss.rests.late in
          is_master g net0.graph s (clear_at n0 net0 w loss.rests.calm loss.rests.invariant.sound (n.place v) s
          (stood v in_v s at) is.0 (omega (arith, late))) best
          (subst (λ k. IsBest g k best) (sym is.1) (c.was_best v in_v)) (base + least v) (base + least u) p pv
          (port_of u (suc q)) (chosen v in_v s at) there
          (port_on n c.tree.well w' kept' v p (port_of u (suc q)) s pv at there joins)
          (subst (λ k. Joins g (port_of k (suc p)) (port_of u (suc q))) (sym is.1) before) (c.was u in_u)
          (elim farther [
            | inl less ↦ inl less
            | inr (as_far, lower) ↦ inr (as_far, subst (λ k. k < u) (sym is.1) lower)
          ])

      tells_old : IsTelling says n next top depth c.tree best.identity base c.worse v p w'
      tells_old s pv at there =
          let chose = chosen v in_v s at in (
            chose.root,
            mine s pv at there ∙ (λ i. Mine (sym chose.root i) (sym chose.steps i)),
          )

      -- and what it told is held, and stays
      stays : LinkStays says (still n (base + least v) best v p u q) w'
      stays pv pu l stand =
          still_stays says n (base + least v) best v p u q pv.announce pu.held l.frames
          (stays_so says n0 n loss.same (base + least v) best best v p u q refl pv.announce pu.held l.frames
          (links_stay says n0 net0 w loss.rests.calm loss.rests.invariant loss.rests.late (base + least v) best v p u q
          (close v in_v) leads_farther pv pu l
          (record {
            v = stand.v;
            u = stand.u;
            teller = at0 v in_v stand.v stand.teller;
            teller_port = stand.teller_port;
            hearer = at0 u in_u stand.u stand.hearer;
            hearer_port = stand.hearer_port;
            lane = lane0 v p u q joins l stand.lane;
          })))
        where
          leads_farther : LeadsFarther g (base + least v) best v p u q
          leads_farther = record {
            is_best = c.was_best v in_v;
            here = c.was v in_v;
            joins = before;
            far = base + least u;
            there = c.was u in_u;
            farther = farther;
          }

      stays_at : (s : Station) (pu : Port) (l : Lane) → slice_get w'.stations (n.place u) ≡ Some s
          → slice_get s.ports q ≡ Some pu → slice_get w'.lanes (n.lane (port_of v (suc p))) ≡ Some l
          → (announce : ℕ) × FinalAnnounceStays says (still n (base + least v) best v p u q) announce pu.held l.frames
      stays_at s pu l at there lane = by (stands_there n c.tree.well w' kept' v in_v.reached.1.begins)
        where
          by : ((sv : Station) × (slice_get w'.stations (n.place v) ≡ Some sv))
              → (announce : ℕ) × FinalAnnounceStays says (still n (base + least v) best v p u q) announce pu.held
              l.frames
          by (sv, at_v) =
              let (pv, there_v) = port_stands n c.tree.well w' kept' v p (port_of u (suc q)) sv at_v joins in (
                pv.announce,
                stays pv pu l (record {
                  v = sv;
                  u = s;
                  teller = at_v;
                  teller_port = there_v;
                  hearer = at;
                  hearer_port = there;
                  lane = lane;
                }),
              )

      -- what is so told is stale
      stale_of : (a : Announce) → Whole g v a → a.root ≡ best.identity → a.steps ≡ base + least v
          → IsStale says n next top depth c.tree best.identity base c.worse v u a
      stale_of a whole root steps = by (short_names g n top best next base depth c v in_v whole.others
          (subst (λ (b : System). Route g v b.clock whole.others) first whole.way.route) (whole.steps ∙ steps) some)
        where
          first : whole.first ≡ best
          first = same_identity g whole.first best c.left.graph whole.known (c.was_best v in_v).live
              (sym whole.root ∙ root)

          by : ((side : Side) × (depth side v ≡ least v)
              × ((y : ℕ) → Tree y → In y (v ∷ whole.others) → depth side y ≤ depth side v))
              → IsStale says n next top depth c.tree best.identity base c.worse v u a
          by (side, is, names) = record {
            side = side;
            deeper = leads_down g n top best next base depth c v u side in_v (suc p, suc q, joins) leads is;
            root = root;
            steps = steps ∙ ap (λ d. base + d) (sym is);
            long = path_length g c.left.graph v a whole best (c.was_best v in_v);
            names = λ y in_y among.
                names y in_y (on_way g c.left.graph v a whole best (c.was_best v in_v) y among);
          }

    -- what is held was wholly clean
    held_whole : (s : Station) (pu : Port) (r : Reception) → slice_get w'.stations (n.place u) ≡ Some s
        → slice_get s.ports q ≡ Some pu → pu.held ≡ Received r → Whole g v r.said
    held_whole s pu r at there holds =
        let is = was_v u in_u s at in
        let came = loss.rests.whole.stations (n.place u) s q r (stood u in_u s at) is.0 (pu, there, holds) in
        let one : came.from ≡ port_of v (suc p) =
        c.left.graph.one_link (port_of u (suc q)) came.from (port_of v (suc p))
        (Joins-sym g came.from (port_of u (suc q)) (subst (λ k. Joins g came.from (port_of k (suc q))) is.1 came.joins))
        (Joins-sym g (port_of v (suc p)) (port_of u (suc q)) before) in
        subst (λ (k : PortIdentity). Whole g k.clock r.said) one came.whole

  -- a port towards who leads over the link holds nothing that came from there
  held_none : (v p u q : ℕ) → Tree v → Joins n.graph (port_of v (suc p)) (port_of u (suc q)) → LeadsOver depth u v
      → (s : Station) (pu : Port) (r : Reception) → slice_get w'.stations (n.place u) ≡ Some s
      → slice_get s.ports q ≡ Some pu → pu.held ≡ Received r → ⊥
  held_none v p u q in_v joins leads s pu r at there holds =
      let back = Joins-sym n.graph (port_of v (suc p)) (port_of u (suc q)) joins in
      let master = mine u q v p (in_u v p u q in_v joins) back leads s pu at there in
      absurd (let both : Received r ≡ Mine best.identity (base + least u) = sym holds ∙ master in cc)

  -- ---- what links carry

  mixed_then : AllMixed says n next top depth c.tree best.identity base c.worse w'
  mixed_then v p u q in_v joins s pu l at there lane = elim (leads_one depth v u
      (c.tree.well.apart (port_of v (suc p)) (port_of u (suc q)) joins)) [
        | inr turned ↦ record {
          source = λ r holds. absurd (held_none v p u q in_v joins turned s pu r at there holds);
          hears = λ r holds. absurd (held_none v p u q in_v joins turned s pu r at there holds);
          sent = λ f a among said.
              absurd (not_both_lead depth v u (leads_there v p u q in_v joins l lane f a among said) turned);
          flight = λ f a among said.
              absurd (not_both_lead depth v u (leads_there v p u q in_v joins l lane f a among said) turned);
        }
        | inl leads ↦
            let (announce, stay) = stays_at v p u q in_v joins leads s pu l at there lane in
            record {
              source = λ r holds.
                  let one = received_injective r stay.what (sym holds ∙ stay.holds) in
                  ap (λ (z : Reception). z.said.source) one ∙ stay.final.source;
              hears = λ r holds.
                  let one = received_injective r stay.what (sym holds ∙ stay.holds) in
                  inr (stale_of v p u q in_v joins leads r.said (held_whole v p u q in_v joins s pu r at there holds)
                  (ap (λ (z : Reception). z.said.root) one ∙ stay.final.root)
                  (ap (λ (z : Reception). z.said.steps) one ∙ stay.final.steps));
              sent = λ f a among said. (stay.flight f a among said).source;
              flight = λ f a among said.
                  let final = stay.flight f a among said in
                  inl (inr (stale_of v p u q in_v joins leads a (flown v p u q in_v joins l lane f a among said)
                  final.root final.steps));
            }
      ]

  free_then : (v p u q : ℕ) → Tree v → Joins n.graph (port_of v (suc p)) (port_of u (suc q)) → LeadsOver depth u v
      → IsFreeAt says n.graph n v p u q w'
  free_then v p u q in_v joins turned s pu l at there lane = record {
    hears = λ r holds. absurd (held_none v p u q in_v joins turned s pu r at there holds);
    flight = λ f a among said.
        absurd (not_both_lead depth v u (leads_there v p u q in_v joins l lane f a among said) turned);
  }

  stale_begins : BareHoldStale says n next top depth c.tree best.identity base c.worse w'
      → IsStaleState says n next top depth c.tree best.identity base c.worse start w'
  stale_begins dark' = record {
    kept = kept';
    dark = dark';
    gone = λ late. absurd (omega (arith, late, now));
    mixed = mixed_then;
    stages = λ v p u q d side in_v joins deeper limit. elim (leads_one depth v u
        (c.tree.well.apart (port_of v (suc p)) (port_of u (suc q)) joins)) [
          | inl leads ↦ inr (inl (tells_old v p u q in_v joins leads))
          | inr turned ↦ inl (free_then v p u q in_v joins turned)
        ];
  }

  strong_begins : AllStrong says n next top depth c.tree best.identity base c.worse c.near start w'
  strong_begins v p u q in_v joins strong = inl (
    (λ s at. let chose = chosen v in_v s at in (chose.root, chose.steps ∙ ap (λ d. base + d) (sym is))),
    subst (λ d. LinkStays says (still n (base + d) best v p u q) w') (sym is)
        (stays v p u q in_v joins (strong_leads depth v u strong)),
  )
    where
      is : depth strong.side v ≡ least v
      is = strong_least depth v u strong

  -- ---- so it begins to fall back

  module _ (over long : ℕ) (begun : start ≤ over) (room : over + n.most < long)
      (reached : (d : ℕ) → suc (suc d) ≤ n.reach → falls_by n start (suc d) ≤ over) (before_f : ℕ → ℕ)
      (soon : (e : ℕ) → over + n.most < before_f e) (grows : (e : ℕ) → before_f e + n.most ≤ before_f (suc e)) where
    tell_begins : AllTell says n next top depth c.tree best.identity base c.worse c.near start over long room reached w'
    tell_begins v p u q side in_v joins deeper weak done = elim (back_dec says n next top depth
        c.tree best.identity base
        c.worse c.near start over long room reached v u in_v (suc p, suc q, joins)) [
          | inr none ↦ by (down_leads g n top best next base depth c v u in_v (suc p, suc q, joins) none)
          | inl (y, up) ↦ elim (stronger_one depth v u side y
              (c.tree.well.apart (port_of v (suc p)) (port_of u (suc q)) joins) deeper up) [
                | inl strong ↦ absurd (weak strong)
                | inr strong ↦ absurd (still_old strong (stands_there n c.tree.well w' kept' u
                    (in_u v p u q in_v joins).reached.1.begins))
              ]
        ]
      where
        still_old : IsStronger depth u v → ((s : Station) × (slice_get w'.stations (n.place u) ≡ Some s)) → ⊥
        still_old strong (s, at) =
            let chose = chosen u (in_u v p u q in_v joins) s at in
            (done strong).0 s at (
              chose.root,
              chose.steps ∙ ap (λ d. base + d) (sym (strong_least depth u v strong)),
            )

        by : LeadsOver depth v u
            → LinkSettles says (telling n long (base + depth side v) best v p u q) w'
        by leads since pv pu l stand ready =
            let chose = chosen v in_v stand.v stand.teller in
            let is : base + least v ≡ base + depth side v = sym chose.steps ∙ ready.0.1 in
            inr (inr (subst (λ d. FinalAnnounceStays says (telling n long d best v p u q) pv.announce pu.held l.frames)
            is (telling_stays says n long (base + least v) best v p u q pv.announce pu.held l.frames
            (stays v p u q in_v joins leads pv pu l (record {
              v = stand.v;
              u = stand.u;
              teller = stand.teller;
              teller_port = stand.teller_port;
              hearer = stand.hearer;
              hearer_port = stand.hearer_port;
              lane = stand.lane;
            })))))

    pub falls_begins : BareHoldStale says n next top depth c.tree best.identity base c.worse w'
        → FallsFromTops says n next top depth c.tree best.identity base c.worse c.near start
        over long begun room reached
        before_f soon grows w'
    falls_begins dark' = record {
      stale = stale_begins dark';
      strong = strong_begins;
      tells = tell_begins;
      settles = λ f v p u q near_f in_v leads. inl (λ since pv pu l stand ready.
          let chose = chosen v in_v stand.v stand.teller in
          let root = chose.root in
          let settled = ready.0.0 in
          let worse = c.worse in
          absurd (omega (arith, root, settled, worse)));
    }
