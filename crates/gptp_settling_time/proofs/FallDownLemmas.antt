-- A link of a network at rest goes down, which cuts a tree off: its top answers, and the tree begins to fall back.
use Rattle.std.proofs.Common.{◌≡◌, ◌≢◌, ◌⊎◌, ◌<◌, ◌≤◌, ◌+◌, ℕ, suc, true, false, Some, slice_get, sym, ap, subst, ◌∙◌, inl, inr, arith}
use Rattle.gptp_lists.specs.Members.{In}
use Rattle.gptp_graph.specs.Best.{IsBest}
use Rattle.gptp_graph.specs.Snapshot.{Joins, PortIdentity, Snapshot, System, clocks, port_of}
use Rattle.gptp_graph.proofs.ExistenceLemmas.{best_exists}
use Rattle.gptp_graph.proofs.LinkLemmas.{Joins-clock, Joins-sym}
use Rattle.gptp_bmca_machine.specs.Acts.{LaneStep}
use Rattle.gptp_bmca_machine.specs.Calm.{Calm}
use Rattle.gptp_bmca_machine.specs.Clean.{Whole}
use Rattle.gptp_bmca_machine.specs.CutTree.{CutsTree}
use Rattle.gptp_bmca_machine.specs.Frame.{Announce, AnnounceFrame, Lane, Spelling}
use Rattle.gptp_bmca_machine.specs.Levels.{Invariant}
use Rattle.gptp_bmca_machine.specs.LossLaws.{IsAfterLoss, Unmoved}
use Rattle.gptp_bmca_machine.specs.Network.{IsSettlingNetwork, Network, settled_from}
use Rattle.gptp_bmca_machine.specs.RestLaws.{SameWiring}
use Rattle.gptp_bmca_machine.specs.SoundEverywhere.{IsSoundEverywhere}
use Rattle.gptp_bmca_machine.specs.SoundLaws.{UnlinkedAreOff}
use Rattle.gptp_bmca_machine.specs.Station.{MachineState, Station}
use Rattle.gptp_bmca_machine.specs.Touch.{StationTouch}
use Rattle.gptp_bmca_machine.proofs.FallBeginLemmas.{falling_begins, settles_begin}
use Rattle.gptp_bmca_machine.proofs.CutTreeLemmas.{IsCutOff, LeadsNowhere, cut_whole, moves_tree}
use Rattle.gptp_bmca_machine.proofs.FallEndLemmas.{FallsOff}
use Rattle.gptp_bmca_machine.proofs.FallLeaveLemmas.{TreeAnswers}
use Rattle.gptp_bmca_machine.proofs.UnlinkedLemmas.{off_hold_old}
use Rattle.gptp_bmca_machine.proofs.FallLemmas.{IsAftermath}
use Rattle.gptp_bmca_machine.proofs.FallLevelLemmas.{TreeSettles}
use Rattle.gptp_bmca_machine.proofs.MovedTreeLemmas.{Around}
use Rattle.gptp_bmca_machine.proofs.LinkStepLemmas.{lives_at}
use Rattle.gptp_bmca_machine.proofs.PlaceLemmas.{same_there}
use Rattle.gptp_settling_time.proofs.EndAnswersLemmas.{EndAnswers, fits', levels'}

-- each link of a tree that is cut off, and leads farther from its best, is at a stage
module _ (says : Spelling) (g : Snapshot) (n : Network) (top : ℕ) (best next : System) (base : ℕ) (depth : ℕ → ℕ)
    (t : CutsTree g n top best next base depth) (start : ℕ) where
  abbrev pub OffSettles : (ℕ → ℕ) → MachineState → Type 0
  OffSettles = TreeSettles says g n (IsCutOff n next) LeadsNowhere top best next base depth
      (moves_tree g n top best next base depth t) start

-- what is in flight names the best of its sender
abbrev pub FlightNames : Spelling → Snapshot → MachineState → Type 0
FlightNames says g w = (j : ℕ) (l : Lane) (f : AnnounceFrame) (a : Announce) (best : System)
    → slice_get w.lanes j ≡ Some l → In f l.frames → says f.octets a → Joins g l.from l.to
    → IsBest g l.from.clock best → a.root ≡ best.identity

-- at rest what is in flight on a link is wholly clean
module _ (says : Spelling) (n0 n : Network) (net0 : IsSettlingNetwork n0) (w : MachineState) (calm0 : Calm n0 w)
    (sound0 : IsSoundEverywhere says n0.graph w) (named0 : FlightNames says n0.graph w) (same : SameWiring n0 n) where
  flight_whole : (j : ℕ) (l : Lane) (f : AnnounceFrame) (c : Announce) → slice_get w.lanes j ≡ Some l → In f l.frames
      → says f.octets c → Joins n0.graph l.from l.to → Whole n0.graph l.from.clock c
  flight_whole j l f c at among said joins =
      let (b, is_b) = best_exists n0.graph l.from.clock net0.graph (Joins-clock n0.graph l.from l.to net0.graph joins)
      in
      let root = named0 j l f c b at among said joins is_b in
      elim (sound0.lanes j l at f c among said).sound [
        | inl worse ↦ absurd (let above = worse b is_b in omega (arith, above, root))
        | inr whole ↦ whole
      ]

  -- and has the root of the best, by the ends of the link
  pub link_whole : (v p u q : ℕ) (l : Lane) (f : AnnounceFrame) (c : Announce) (best : System)
      → Joins n0.graph (port_of v (suc p)) (port_of u (suc q))
      → slice_get w.lanes (n.lane (port_of v (suc p))) ≡ Some l → In f l.frames → says f.octets c
      → IsBest n0.graph v best
      → Whole n0.graph v c × (c.root ≡ best.identity)
  link_whole v p u q l f c best joins at among said is_best =
      let has = calm0.lanes (port_of v (suc p)) (port_of u (suc q)) joins in
      let one = same_there w.lanes (n.lane (port_of v (suc p))) has.lane l
      (subst (λ i. slice_get w.lanes i ≡ Some has.lane) (sym (same.lane (port_of v (suc p)))) has.there) at in
      let from = sym has.from ∙ ap (λ (k : Lane). k.from) one in
      let to = sym has.to ∙ ap (λ (k : Lane). k.to) one in
      let over = subst (λ k. Joins n0.graph k l.to) from (subst (Joins n0.graph (port_of v (suc p))) to joins) in (
        subst (λ (k : PortIdentity). Whole n0.graph k.clock c) (sym from)
            (flight_whole (n.lane (port_of v (suc p))) l f c at among said over),
        named0 (n.lane (port_of v (suc p))) l f c best at among said over
            (subst (λ (k : PortIdentity). IsBest n0.graph k.clock best) from is_best),
      )

-- The end of a link answers as one that is moved does: who is beside it stands as before.
module _ (says : Spelling) (n : Network) (Beside : ℕ → Type 0) (top : ℕ) (touch : StationTouch) (other : ℕ)
    (w w' : MachineState)
    (a : EndAnswers says n top touch other w w') (kept' : IsAfterLoss n w') (lives : In top (clocks n.graph))
    (outside : (c : ℕ) (m : Station) → In c (clocks n.graph) → Beside c → c ≢ top
    → slice_get w'.stations (n.place c) ≡ Some m → n.place c ≢ other) where
  pub lanes_then : (p q : PortIdentity) (l' : Lane) → Joins n.graph p q → slice_get w'.lanes (n.lane p) ≡ Some l'
      → (l : Lane) × (slice_get w.lanes (n.lane p) ≡ Some l) × LaneStep a.s.clock a.sends l l'
  lanes_then p q l' joins at = elim (a.lanes (n.lane p) l' at) [
    | inl (l, stood, step) ↦ (l, stood, subst (λ c. LaneStep c a.sends l l') (sym a.named) step)
    | inr (none, off) ↦
        let has = kept'.calm.lanes p q joins in
        let one = same_there w'.lanes (n.lane p) has.lane l' has.there at in
        absurd (let both : true ≡ false = sym (ap (λ (k : Lane). k.is_up) (sym one) ∙ has.is_up) ∙ off in cc)
  ]

  pub place_apart : (c : ℕ) (m : Station) → In c (clocks n.graph) → c ≢ top → slice_get w'.stations (n.place c) ≡ Some m
      → n.place c ≢ n.place top
  place_apart c m known apart at same_place =
      let (live, clock) = lives_at n w' kept'.calm c known m at in
      let (live_top, clock_top) = lives_at n w' kept'.calm top lives a.s' a.there in
      let one = same_there w'.stations (n.place top) m a.s'
      (subst (λ i. slice_get w'.stations i ≡ Some m) same_place at) a.there in
      apart (sym clock ∙ ap (λ (z : Station). z.clock) one ∙ clock_top)

  abbrev pub answers : TreeAnswers says n Beside top w w'
  answers = record {
    touch = touch;
    s = a.s;
    s' = a.s';
    sends = a.sends;
    time = a.time;
    here = a.here;
    there = a.there;
    reacts = a.reacts;
    others = λ c m known beside apart at.
        a.stood (n.place c) m at (place_apart c m known apart at) (outside c m known beside apart at);
    lanes = λ p q l' joins apart at. lanes_then p q l' joins at;
    heard = λ i c touched. absurd (a.only.deaf (suc i) c touched);
  }

module _ (says : Spelling) (n0 n : Network) (top : ℕ) (best next : System) (base : ℕ) (depth : ℕ → ℕ)
    (t : CutsTree n0.graph n top best next base depth) (in_top : IsBest n.graph top next)
    (moved_top : Unmoved n0.graph n top → ⊥) (net0 : IsSettlingNetwork n0) (w : MachineState) (calm0 : Calm n0 w)
    (invariant0 : Invariant says n0 w) (late0 : settled_from n0 ≤ w.time)
    (sound0 : IsSoundEverywhere says n0.graph w) (named0 : FlightNames says n0.graph w) (same : SameWiring n0 n)
    (w' : MachineState) (touch : StationTouch) (other : ℕ) (a : EndAnswers says n top touch other w w')
    (outside : (c : ℕ) (m : Station) → IsBest n.graph c next → c ≢ top
    → slice_get w'.stations (n.place c) ≡ Some m → n.place c ≢ other) (kept' : IsAfterLoss n w')
    (dark' : UnlinkedAreOff n.graph w') where
  abbrev g : Snapshot
  g = n0.graph

  -- what comes up the tree is of what is left, or names whoever hears it
  came0 : (v p u q : ℕ) (l : Lane) (f : AnnounceFrame) (c : Announce) → IsBest n.graph v next → IsBest n.graph u next
      → Joins n.graph (port_of v (suc p)) (port_of u (suc q)) → depth v ≡ suc (depth u)
      → slice_get w.lanes (n.lane (port_of v (suc p))) ≡ Some l → In f l.frames → says f.octets c
      → Whole n.graph v c ⊎ In u c.path
  came0 v p u q l f c in_v in_u joins higher at among said =
      cut_whole g n top best next base depth t v u c in_v in_u
      (suc q, suc p, Joins-sym n.graph (port_of v (suc p)) (port_of u (suc q)) joins) higher
      (link_whole says n0 n net0 w calm0 sound0 named0 same v p u q l f c best
      (t.left.links (port_of v (suc p)) (port_of u (suc q)) joins) at among said (t.was_best v in_v)).0

  beside_out : (c : ℕ) (m : Station) → In c (clocks n.graph) → Around (IsCutOff n next) LeadsNowhere c → c ≢ top
      → slice_get w'.stations (n.place c) ≡ Some m
      → n.place c ≢ other
  beside_out c m known (inl in_c) apart at = outside c m in_c apart at
  beside_out c m known (inr (v, none)) apart at = absurd none

  abbrev answer : TreeAnswers says n (Around (IsCutOff n next) LeadsNowhere) top w w'
  answer = answers says n (Around (IsCutOff n next) LeadsNowhere) top touch other w w' a kept' in_top.reached.1.begins
      beside_out

  lanes_so : (p q : PortIdentity) (l' : Lane) → Joins n.graph p q → slice_get w'.lanes (n.lane p) ≡ Some l'
      → (l : Lane) × (slice_get w.lanes (n.lane p) ≡ Some l) × LaneStep a.s.clock a.sends l l'
  lanes_so = lanes_then says n (Around (IsCutOff n next) LeadsNowhere) top touch other w w' a kept'
      in_top.reached.1.begins beside_out

  after : IsAftermath says g n w'
  after = record {
    kept = kept';
    fits = fits' says n0 n top t.well t.left moved_top net0 w calm0 invariant0 late0 sound0 same w' touch other a kept';
    dark = off_hold_old g n w' dark';
  }

  pub tree_falls : FallsOff says g n top best next base depth t w.time w'
  tree_falls = record {
    after = after;
    still = levels' says n0 n top t.well t.left moved_top net0 w calm0 invariant0 late0 sound0 same w' touch other a
        kept';
    falling = falling_begins says n0 n (IsCutOff n next) LeadsNowhere top best next base depth
        (moves_tree g n top best next base depth t) net0 w calm0 invariant0 late0 came0 same w' in_top answer a.only
        lanes_so after dark' (λ v p u q none joins. absurd none);
  }

  pub tree_settles : (before : ℕ → ℕ) → ((f : ℕ) → w'.time + n.most < before f)
      → OffSettles says g n top best next base depth t w.time before w'
  tree_settles before room =
      settles_begin says n0 n (IsCutOff n next) LeadsNowhere top best next base depth
      (moves_tree g n top best next base depth t) net0 w calm0 invariant0 late0 came0 same w' in_top answer a.only
      lanes_so after dark' (λ v p u q none joins. absurd none) before room
