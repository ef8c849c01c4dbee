-- A link of a network at rest goes down, by which a tree turns to its one way out: its top answers, and the tree begins
-- to fall back.
use Rattle.std.proofs.Common.{◌≡◌, ◌≢◌, ◌⊎◌, ◌≤◌, ◌+◌, ℕ, suc, List, Some, slice_get, refl, sym, ap, subst, ◌∙◌, inl, inr, arith}
use Rattle.gptp_lists.specs.Members.{In}
use Rattle.gptp_lists.proofs.SystemSpecLemmas.{In-parts}
use Rattle.gptp_graph.specs.Best.{IsBest}
use Rattle.gptp_graph.specs.Snapshot.{Joins, PortIdentity, Snapshot, System, clocks, port_of}
use Rattle.gptp_graph.proofs.BestLemmas.{IsBest-unique}
use Rattle.gptp_graph.proofs.LinkLemmas.{Joins-sym}
use Rattle.gptp_bmca_machine.specs.Acts.{LaneStep}
use Rattle.gptp_bmca_machine.specs.Calm.{Calm}
use Rattle.gptp_bmca_machine.specs.Clean.{CameSound, IsWorse, Whole}
use Rattle.gptp_bmca_machine.specs.Frame.{Announce, AnnounceFrame, Lane, Spelling}
use Rattle.gptp_bmca_machine.specs.Levels.{Invariant, LeadsFarther}
use Rattle.gptp_bmca_machine.specs.LossLaws.{IsAfterLoss, Unmoved}
use Rattle.gptp_bmca_machine.specs.Network.{IsSettlingNetwork, Network, settled_from, wiring}
use Rattle.gptp_bmca_machine.specs.RestLaws.{SameWiring}
use Rattle.gptp_bmca_machine.specs.Sound.{HeldIsSound}
use Rattle.gptp_bmca_machine.specs.SoundEverywhere.{IsSoundEverywhere}
use Rattle.gptp_bmca_machine.specs.SoundLaws.{AllAreNear, IsSoundOnLinks, UnlinkedAreOff}
use Rattle.gptp_bmca_machine.specs.Station.{MachineState, Port, Received, Reception, Station}
use Rattle.gptp_bmca_machine.specs.TurnTree.{TurnsTree}
use Rattle.gptp_bmca_machine.specs.Touch.{StationTouch}
use Rattle.gptp_bmca_machine.proofs.FallBeginLemmas.{falling_begins, settles_begin}
use Rattle.gptp_bmca_machine.proofs.FallLeaveLemmas.{TreeAnswers}
use Rattle.gptp_bmca_machine.proofs.UnlinkedLemmas.{off_hold_old}
use Rattle.gptp_bmca_machine.proofs.FallLemmas.{IsAftermath, IsFreeAt}
use Rattle.gptp_bmca_machine.proofs.LinkStepLemmas.{lives_at}
use Rattle.gptp_bmca_machine.proofs.MovedTreeLemmas.{Around, LeadsDown}
use Rattle.gptp_bmca_machine.proofs.PlaceLemmas.{same_there}
use Rattle.gptp_bmca_machine.proofs.SoundLemmas.{says_sound}
use Rattle.gptp_bmca_machine.proofs.StillLemmas.{station_of}
use Rattle.gptp_bmca_machine.proofs.TurnLemmas.{TurnsBack}
use Rattle.gptp_bmca_machine.proofs.TurnLevelLemmas.{Times, TurnSettles}
use Rattle.gptp_bmca_machine.proofs.TurnOutLemmas.{HasTurned, as_far, worse_out}
use Rattle.gptp_bmca_machine.proofs.TurnTreeLemmas.{IsOf, LeadsOut, near_now, out_lives, out_was_best, out_whole, turns_moves, up_whole}
use Rattle.gptp_settling_time.proofs.AtRestLemmas.{LinkAtRest, LinksAreAtRest, held_settled}
use Rattle.gptp_settling_time.proofs.SettledRestLemmas.{settled_rest}
use Rattle.gptp_settling_time.proofs.EndAnswersLemmas.{EndAnswers, HeldBefore, fits', flew, held_before, levels'}
use Rattle.gptp_settling_time.proofs.FallDownLemmas.{FlightNames, answers, lanes_then, link_whole, place_apart}

module _ (says : Spelling) (n0 n : Network) (tree : List ℕ) (top other last out : ℕ) (best : System) (base : ℕ)
    (depth : ℕ → ℕ) (t : TurnsTree n0.graph n tree top other last out best base depth) (in_top : In top tree)
    (net0 : IsSettlingNetwork n0) (w : MachineState) (calm0 : Calm n0 w) (invariant0 : Invariant says n0 w)
    (late0 : settled_from n0 ≤ w.time) (near0 : AllAreNear n0.graph) (sound0 : IsSoundEverywhere says n0.graph w)
    (named0 : FlightNames says n0.graph w) (same : SameWiring n0 n) (w' : MachineState) (touch : StationTouch)
    (place : ℕ) (a : EndAnswers says n top touch place w w')
    (beside : (c : ℕ) (m : Station) → In c tree ⊎ (c ≡ out) → slice_get w'.stations (n.place c) ≡ Some m
    → n.place c ≢ place) (kept' : IsAfterLoss n w') (dark' : UnlinkedAreOff n.graph w') where
  abbrev g : Snapshot
  g = n0.graph

  -- links were at rest
  rest0 : LinksAreAtRest says n0 w
  rest0 = settled_rest says n0 net0 w calm0 invariant0 late0 near0

  -- its top is farther
  moved_top : Unmoved g n top → ⊥
  moved_top still =
      let less = t.farther top (base + depth top) in_top (still.far (base + depth top) (t.was top in_top)) in
      omega (arith, less)

  -- what comes up the tree is of what is left, or names whoever hears it
  came0 : (v p u q : ℕ) (l : Lane) (f : AnnounceFrame) (c : Announce) → In v tree → In u tree
      → Joins n.graph (port_of v (suc p)) (port_of u (suc q)) → depth v ≡ suc (depth u)
      → slice_get w.lanes (n.lane (port_of v (suc p))) ≡ Some l → In f l.frames → says f.octets c
      → Whole t.ways v c ⊎ In u c.path
  came0 v p u q l f c in_v in_u joins higher at among said =
      let (whole, root) = link_whole says n0 n net0 w calm0 sound0 named0 same v p u q l f c best
      (t.left.links (port_of v (suc p)) (port_of u (suc q)) joins) at among said (t.was_best v in_v) in
      up_whole g n tree top other last out best base depth t v u c in_v in_u
      (suc q, suc p, Joins-sym n.graph (port_of v (suc p)) (port_of u (suc q)) joins) higher whole root

  beside_so : (c : ℕ) (m : Station) → In c (clocks n.graph) → Around (IsOf tree) (LeadsOut last out) c → c ≢ top
      → slice_get w'.stations (n.place c) ≡ Some m
      → n.place c ≢ place
  beside_so c m known (inl in_c) apart at = beside c m (inl in_c) at
  beside_so c m known (inr (v, (is_last, is_out))) apart at = beside c m (inr is_out) at

  abbrev answer : TreeAnswers says n (Around (IsOf tree) (LeadsOut last out)) top w w'
  answer = answers says n (Around (IsOf tree) (LeadsOut last out)) top touch place w w' a kept' (t.lives top in_top)
      beside_so

  lanes_so : (p q : PortIdentity) (l' : Lane) → Joins n.graph p q → slice_get w'.lanes (n.lane p) ≡ Some l'
      → (l : Lane) × (slice_get w.lanes (n.lane p) ≡ Some l) × LaneStep a.s.clock a.sends l l'
  lanes_so = lanes_then says n (Around (IsOf tree) (LeadsOut last out)) top touch place w w' a kept'
      (t.lives top in_top) beside_so

  after : IsAftermath says g n w'
  after = record {
    kept = kept';
    fits = fits' says n0 n top t.well t.left moved_top net0 w calm0 invariant0 late0 sound0 same w' touch place a kept';
    dark = off_hold_old g n w' dark';
  }

  -- ---- what comes in by the way out

  module _ (p q : ℕ) (joins : Joins n.graph (port_of out (suc p)) (port_of last (suc q))) where
    joins0 : Joins g (port_of out (suc p)) (port_of last (suc q))
    joins0 = t.left.links (port_of out (suc p)) (port_of last (suc q)) joins

    out_best0 : IsBest g out best
    out_best0 = out_was_best g n tree top other last out best base depth t

    -- what is held there was told before, and doesn't name the system that holds it
    held_left : (s : Station) (pu : Port) (r : Reception) → slice_get w'.stations (n.place last) ≡ Some s
        → slice_get s.ports q ≡ Some pu → pu.held ≡ Received r → Whole t.ways out r.said
    held_left s pu r at there holds =
        let (live, clock) = lives_at n w' kept'.calm last (t.lives last t.in_last) s at in
        let o = held_before says n0 n top t.well t.left moved_top net0 w calm0 invariant0 late0 sound0 same w' touch
        place a kept' (n.place last) s q r at live (pu, there, holds) in
        let named = o.clock ∙ clock in
        let over = subst (λ c. Joins g (port_of out (suc p)) (port_of c (suc q))) (sym named) joins0 in
        let (far, settled) = held_settled says n0 net0 near0 w calm0 rest0 o.i o.old q r
        (port_of out (suc p)) o.at o.live o.holds over in
        let root = settled.root
        ∙ ap (λ (x : System). x.identity) (IsBest-unique g out settled.here.best best t.left.graph settled.here.is_best
        out_best0) in
        elim (out_whole g n tree top other last out best base depth t r.said (whole_at o over root) root) [
          | inl whole ↦ whole
          | inr names ↦
              absurd (((kept'.calm.facts.stations (n.place last) s at live).held q r (pu, there, holds)).no_loop
              (subst (λ c. In c r.said.path) (sym clock) names))
        ]
      where
        whole_at : (o : HeldBefore says n0 n top t.well t.left moved_top net0 w calm0 invariant0 late0 sound0 same w'
            touch place a kept' s.clock q r) → Joins g (port_of out (suc p)) (port_of o.old.clock (suc q))
            → r.said.root ≡ best.identity → Whole g out r.said
        whole_at o over root =
            let came = sound0.stations o.i o.old o.at o.live q r o.holds in
            let one : came.from ≡ port_of out (suc p) =
            t.left.graph.one_link (port_of o.old.clock (suc q)) came.from (port_of out (suc p))
            (Joins-sym g came.from (port_of o.old.clock (suc q)) came.joins)
            (Joins-sym g (port_of out (suc p)) (port_of o.old.clock (suc q)) over) in
            subst (λ (k : PortIdentity). Whole g k.clock r.said) one (elim came.sound [
              | inr whole ↦ whole
              | inl worse ↦
                  let above = worse best (subst (λ (k : PortIdentity). IsBest g k.clock best) (sym one) out_best0) in
                  absurd (omega (arith, above, root))
            ])

    inward : IsFreeAt says t.ways n out p last q w'
    inward s pu l' at there lane' = record {
      hears = λ r holds. held_left s pu r at there holds;
      flight = λ f c among said. flies (lanes_so (port_of out (suc p)) (port_of last (suc q)) l' joins lane') f c among
          said;
    }
      where
        flies : ((l : Lane) × (slice_get w.lanes (n.lane (port_of out (suc p))) ≡ Some l)
            × LaneStep a.s.clock a.sends l l') → (f : AnnounceFrame) (c : Announce) → In f l'.frames
            → says f.octets c → Whole t.ways out c ⊎ In last c.path
        flies (l, at_l, step) f c among said =
            elim (In-parts f l.frames step.news (subst (In f) step.behind among)) [
              | inl old ↦
                  let (whole, root) = link_whole says n0 n net0 w calm0 sound0 named0 same out p last q l f c best
                  joins0 at_l old said out_best0 in
                  out_whole g n tree top other last out best base depth t c whole root
              | inr new ↦
                  let (z, sent, from, octets) = step.sent f new in
                  let has = kept'.calm.lanes (port_of out (suc p)) (port_of last (suc q)) joins in
                  let one = same_there w'.lanes (n.lane (port_of out (suc p))) has.lane l' has.there lane' in
                  let over = sym has.from ∙ ap (λ (k : Lane). k.from) one ∙ step.from ∙ from in
                  absurd (t.outside (subst (λ c. In c tree)
                  (sym (ap (λ (k : PortIdentity). k.clock) over ∙ a.named)) in_top))
            ]

  inward_so : (v p u q : ℕ) → LeadsOut last out u v → Joins n.graph (port_of v (suc p)) (port_of u (suc q))
      → IsFreeAt says t.ways n v p u q w'
  inward_so v p u q (is_last, is_out) joins =
      subst (λ c. IsFreeAt says t.ways n c p u q w') (sym is_out)
      (subst (λ c. IsFreeAt says t.ways n out p c q w') (sym is_last)
      (inward p q (subst (λ c. Joins n.graph (port_of out (suc p)) (port_of c (suc q))) is_last
      (subst (λ c. Joins n.graph (port_of c (suc p)) (port_of u (suc q))) is_out joins))))

  -- ---- what is told, and held, is sound by the snapshot of before

  held_sound : HeldIsSound g w'
  held_sound i s k r at live holds =
      let o = held_before says n0 n top t.well t.left moved_top net0 w calm0 invariant0 late0 sound0 same w' touch place
      a kept' i s k r at live holds in
      subst (λ c. CameSound g c (suc k) r) o.clock (sound0.stations o.i o.old o.at o.live k r o.holds)

  sound' : IsSoundOnLinks says g w'
  sound' = record {
    lanes = λ j l f c at among said joins. elim (flew says n0 n top t.well t.left moved_top net0 w calm0 invariant0
        late0 sound0 same w' touch place a kept' j l f c at among said) [
          | inl o ↦
              let is = sound0.lanes j o.l o.at f c o.among said in
              record {
                source = is.source ∙ sym o.from;
                sound = subst (λ (k : PortIdentity). IsWorse g k.clock c ⊎ Whole g k.clock c) (sym o.from) is.sound;
              }
          | inr sent ↦
              let (port, own, master, from) = sent.own in
              let live = a.reacts.live ∙ a.live in
              record {
                source = own.source ∙ sym from;
                sound = subst (λ (k : PortIdentity). IsWorse g k.clock c ⊎ Whole g k.clock c) (sym from)
                    (says_sound says g n t.left w'.time a.s'
                    (kept'.calm.facts.stations (n.place top) a.s' a.there live)
                    (λ k r holds. held_sound (n.place top) a.s' k r a.there live holds) port c own);
              }
        ];
    stations = held_sound;
  }

  -- ---- it begins

  pub tree_turns : TurnsBack says g n tree top other last out best base depth t w.time w'
  tree_turns = record {
    back = record {
      after = after;
      still = levels' says n0 n top t.well t.left moved_top net0 w calm0 invariant0 late0 sound0 same w' touch place a
          kept';
      falling = falling_begins says n0 n (IsOf tree) (LeadsOut last out) top best best base depth
          (turns_moves g n tree top other last out best base depth t) net0 w calm0 invariant0 late0 came0 same w' in_top
          answer a.only lanes_so after dark' inward_so;
    };
    sound = sound';
  }

  -- ---- the way in hasn't turned yet

  module _ (p k : ℕ) (joins : Joins n.graph (port_of last (suc p)) (port_of out (suc k)))
      (leads : LeadsDown g (IsOf tree) (LeadsOut last out) base depth last out) where
    leads0 : LeadsFarther g (base + depth last) best last p out k
    leads0 = record {
      is_best = t.was_best last t.in_last;
      here = t.was last t.in_last;
      joins = t.left.links (port_of last (suc p)) (port_of out (suc k)) joins;
      far = leads.far;
      there = leads.there;
      farther = leads.farther;
    }

    rest : LinkAtRest says (wiring n0 (base + depth last) best last p out k) w
    rest =
        rest0.links (base + depth last) best last p out k
        (near_now g n tree top other last out best base depth t last t.in_last) leads0

    not_turned : HasTurned says g n tree top other last out best base depth t w.time p k joins leads w' → ⊥
    not_turned turned =
        let lives = out_lives g n tree top other last out best base depth t in
        let (s, at, live, clock) = station_of g n t.well t.left w' after.kept after.fits.stations out lives in
        let apart : out ≢ top = λ is_top. t.outside (subst (λ c. In c tree) (sym is_top) in_top) in
        let stood = a.stood (n.place out) s at
        (place_apart says n (Around (IsOf tree) (LeadsOut last out)) top touch place w w' a kept' (t.lives top in_top)
        beside_so out s lives apart at) (beside out s (inr refl) at) in
        let one : rest.stand.u ≡ s =
        same_there w.stations (n.place out) rest.stand.u s
        (subst (λ i. slice_get w.stations i ≡ Some rest.stand.u) (sym (same.place out)) rest.stand.hearer) stood in
        let has = kept'.calm.lanes (port_of last (suc p)) (port_of out (suc k)) joins in
        let whole = (turned.1 s rest.pu has.lane at
        (subst (λ (z : Station). slice_get z.ports k ≡ Some rest.pu) one rest.stand.hearer_port) has.there).hears
        rest.facts.stays.what rest.facts.stays.holds in
        let near = (as_far says g n tree top other last out best base depth t w.time p k joins leads).0 in
        let root = rest.facts.stays.final.root in
        let steps = rest.facts.stays.final.steps in
        elim (worse_out says g n tree top other last out best base depth t w.time p k joins leads
        rest.facts.stays.what.said whole) [
          | inl over ↦ omega (arith, over, root)
          | inr (same_root, more) ↦ omega (arith, more, steps, near)
        ]

  -- each link of the tree is at a stage, and so is the way in
  pub turn_settles : (over : ℕ) (before : ℕ → ℕ)
      (times : Times says g n tree top other last out best base depth t w.time over before) → w'.time ≤ over
      → TurnSettles says g n tree top other last out best base depth t w.time over before times w'
  turn_settles over before times late = record {
    levels = settles_begin says n0 n (IsOf tree) (LeadsOut last out) top best best base depth
        (turns_moves g n tree top other last out best base depth t) net0 w calm0 invariant0 late0 came0 same w' in_top
        answer a.only lanes_so after dark' inward_so before
        (λ f. let room = times.room f in omega (arith, room, late));
    way = λ p k joins leads turned. absurd (not_turned p k joins leads turned);
  }
