-- A system of a tree that is cut off leaves the root of before: it tells those below it at once.
use Rattle.std.proofs.Common.{◌≡◌, ◌≢◌, ◌⊎◌, ◌≤◌, ◌+◌, ℕ, suc, true, List, Some, slice_get, refl, sym, ap, subst, ◌∙◌, inl, inr, arith}
use Rattle.gptp_lists.specs.Members.{In}
use Rattle.gptp_lists.proofs.SystemSpecLemmas.{In-right}
use Rattle.gptp_graph.specs.Snapshot.{Joins, PortIdentity, Snapshot, System, clocks, port_of}
use Rattle.gptp_bmca_machine.specs.Acts.{LaneStep, MachineSteps, StationAnswers}
use Rattle.gptp_bmca_machine.specs.Calm.{Calm}
use Rattle.gptp_bmca_machine.specs.Frame.{Announce, AnnounceFrame, Lane, Send, Spelling}
use Rattle.gptp_bmca_machine.specs.LinkStage.{FinalAnnounceStays, FrameSaysAnnounce, Wiring}
use Rattle.gptp_bmca_machine.specs.Network.{Network}
use Rattle.gptp_bmca_machine.specs.Reacts.{IsMasterAt, IsOwn, KeepsHeld, PortStep, StationReacts}
use Rattle.gptp_bmca_machine.specs.RestLaws.{LinkStays}
use Rattle.gptp_bmca_machine.specs.Station.{Aged, Disabled, Held, MachineState, Mine, Port, Received, Station}
use Rattle.gptp_bmca_machine.specs.Touch.{Disable, Hear, HeldInTouch, IsUsable, Other, Replaces, StationTouch}
use Rattle.gptp_bmca_machine.proofs.FallLemmas.{HasChoice, HoldsInTree, IsAftermath, IsNewTold, falls_by, says_usable, says_whole}
use Rattle.gptp_bmca_machine.proofs.MovedTreeLemmas.{Around, IsBeyond, MovesTree, around}
use Rattle.gptp_bmca_machine.proofs.HearingLemmas.{mid_mine}
use Rattle.gptp_bmca_machine.proofs.LinkEndsLemmas.{hearer_known, long_at, on_time, teller_on}
use Rattle.gptp_bmca_machine.proofs.LinkStepLemmas.{AtLink, lives_at}
use Rattle.gptp_bmca_machine.proofs.PlaceLemmas.{same_mine, same_there}
use Rattle.gptp_bmca_machine.proofs.ReactsLemmas.{mid_heard}
use Rattle.gptp_bmca_machine.proofs.StillLemmas.{port_there, still}
use Rattle.gptp_bmca_machine.proofs.ToldLemmas.{AllSay, HoldsTold, old_begins}

-- A port that was master with another root or other steps, and hears nothing lower, tells at once.
module _ (says : Spelling) (c n now : ℕ) (touch : StationTouch) (root steps : ℕ) (pv pv' : Port) (sends : List Send)
    (answer : PortStep says c n now touch root steps pv pv' sends) (r d : ℕ) (was : pv.held ≡ Mine r d)
    (other : (root ≡ r) × (steps ≡ d) → ⊥) (on : pv'.held ≢ Disabled)
    (refuses : (a : Announce) → touch ≡ Hear n a → IsUsable c a → Replaces c n a (Mine r d) → ⊥) where
  kept_none : (mid : Held) → answer.mid ≡ mid → pv'.held ≡ answer.mid → KeepsHeld answer.mid → ⊥
  kept_none Disabled is kept keeps = on (kept ∙ is)
  kept_none Aged is kept keeps = subst KeepsHeld is keeps
  kept_none (Mine a b) is kept keeps = subst KeepsHeld is keeps
  kept_none (Received x) is kept keeps = elim (mid_heard c n now touch pv.held answer.mid x answer.before is) [
    | inl before ↦ absurd (let both : Mine r d ≡ Received x = sym was ∙ before in cc)
    | inr (a, touched, usable, replaces, said) ↦
        refuses a touched usable (subst (Replaces c n a) was replaces)
  ]

  pub leaves : (z : Send) × In z sends × (z.port ≡ n) × ((a : Announce) × says z.octets a)
  leaves = elim answer.after [
    | inl (kept, keeps) ↦ absurd (kept_none answer.mid refl kept keeps)
    | inr becomes ↦ elim becomes.timing [
      | inr now ↦ now.sent
      | inl (already, timer) ↦
          let held = mid_mine c n now root steps touch pv.held answer.mid answer.before already in
          let same = same_mine r d root steps (sym was ∙ held) in
          absurd (other (sym same.0, sym same.1))
    ]
  ]

-- what a system that has left its old choice tells those beyond it
pub tells_new : (says : Spelling) (g : Snapshot) (n : Network) (Tree : ℕ → Type 0) (Out : ℕ → ℕ → Type 0) (top : ℕ)
    (best next : System) (base : ℕ) (depth : ℕ → ℕ) (t : MovesTree g n Tree Out top best next base depth) (start : ℕ) (w
    : MachineState)
    (m : IsAftermath says g n w) (x : ℕ) (in_x : Tree x) (s : Station)
    (at : slice_get w.stations (n.place x) ≡ Some s)
    (holds : HoldsInTree says g n Tree Out top best next base depth t start x w)
    (not : HasChoice s best (base + depth x) → ⊥) (p u q : ℕ)
    (joins : Joins n.graph (port_of x (suc p)) (port_of u (suc q))) (beyond : IsBeyond Tree Out depth x u) (number : ℕ)
    (a : Announce) → IsOwn s number a → IsMasterAt s number → number ≡ suc p
    → IsNewTold t.ways (port_of x (suc p)) u a
tells_new says g n Tree Out top best next base depth t start w m x in_x s at holds not p u q joins beyond number a own
    (i, pv, place, there, mine) is = record {
      source = own.source ∙ (λ j. port_of (clock j) (is j));
      whole = says_whole says g n Tree Out top best next base depth t start w m x in_x s at holds not number a own;
      usable = says_usable says g n Tree Out top best next base depth t start w m x in_x s at holds not number a own p u
          q
          joins beyond pv (subst (λ j. slice_get s.ports j ≡ Some pv) same there) s.root s.steps mine;
    }
  where
    clock : s.clock ≡ x
    clock = (lives_at n w m.kept.calm x (t.lives x in_x) s at).1

    same : i ≡ p
    same = let both = sym place ∙ is in omega (arith, both)

-- By the touch nothing is heard, and a port holds what it held or is disabled.
pub record OnlyDisables (touch : StationTouch) : Type 0 where
  pub deaf : (m : ℕ) (a : Announce) → touch ≡ Hear m a → ⊥
  pub spares : (c n now : ℕ) (held mid : Held) → HeldInTouch c n touch now held mid → (mid ≡ Disabled) ⊎ (mid ≡ held)

-- so it is where a port is disabled
pub disable_only : (number : ℕ) → OnlyDisables (Disable number)
disable_only number = record {
  deaf = λ m a same. absurd cc;
  spares = λ c n now held mid is. elim is [ inl (here, off) ↦ inl off | inr (other, kept) ↦ inr kept ];
}

-- and where nothing is heard and no port changes
pub other_only : OnlyDisables Other
other_only = record { deaf = λ m a same. absurd cc; spares = λ c n now held mid is. inr is }

-- A system of the tree answers, and whoever else is in it or beside it stands as it did: its sends enter the lanes to
-- others.
pub record TreeAnswers (says : Spelling) (n : Network) (Beside : ℕ → Type 0) (x : ℕ) (w w' : MachineState) : Type 0
  where
    pub touch : StationTouch
    pub s : Station
    pub s' : Station
    pub sends : List Send
    pub time : w'.time ≡ w.time
    pub here : slice_get w.stations (n.place x) ≡ Some s
    pub there : slice_get w'.stations (n.place x) ≡ Some s'
    pub reacts : StationReacts says s touch w.time s' sends
    pub others : (c : ℕ) (z : Station) → In c (clocks n.graph) → Beside c → c ≢ x → slice_get w'.stations (n.place c) ≡
        Some z
        → slice_get w.stations (n.place c) ≡ Some z
    pub lanes : (p q : PortIdentity) (l' : Lane) → Joins n.graph p q → q.clock ≢ x
        → slice_get w'.lanes (n.lane p) ≡ Some l'
        → (l : Lane) × (slice_get w.lanes (n.lane p) ≡ Some l) × LaneStep s.clock sends l l'
    pub heard : (i : ℕ) (a : Announce) → touch ≡ Hear (suc i) a
        → (j : ℕ) × (l : Lane) × (f : AnnounceFrame) × (slice_get w.lanes j ≡ Some l) × In f l.frames × says f.octets a
        × (l.to ≡ port_of s.clock (suc i))

module _ (says : Spelling) (g : Snapshot) (n : Network) (Tree : ℕ → Type 0) (Out : ℕ → ℕ → Type 0) (top : ℕ)
    (best next : System) (base : ℕ) (depth : ℕ → ℕ) (t : MovesTree g n Tree Out top best next base depth) (start : ℕ) (w
    w' : MachineState) (m' : IsAftermath says g n w')
    (x : ℕ) (in_x : Tree x) (z : TreeAnswers says n (Around Tree Out) x w w')
    (holds' : HoldsInTree says g n Tree Out top best next base depth t start x w') (not' : HasChoice z.s' best (base +
    depth x) → ⊥)
    (p u q : ℕ) (joins : Joins n.graph (port_of x (suc p)) (port_of u (suc q))) (beyond : IsBeyond Tree Out depth x u)
    (old : (pv : Port) → slice_get z.s.ports p ≡ Some pv
    → (pv.held ≡ Mine best.identity (base + depth x)) × (w.time ≤ pv.announce))
    (stays : LinkStays says (still n (base + depth x) best x p u q) w)
    (refuses : (a : Announce) → z.touch ≡ Hear (suc p) a → IsUsable x a
    → Replaces x (suc p) a (Mine best.identity (base + depth x)) → ⊥)
    (in_time : w.time ≤ falls_by n start (depth x)) where
  abbrev k : Wiring
  k = still n (base + depth x) best x p u q

  abbrev New : Announce → Type 0
  New = IsNewTold t.ways (port_of x (suc p)) u

  abbrev last : ℕ
  last = falls_by n start (suc (depth x))

  apart : u ≢ x
  apart same = t.well.apart (port_of x (suc p)) (port_of u (suc q)) joins (sym same)

  known_u : In u (clocks n.graph)
  known_u = hearer_known g n t.well t.left n.most 0 best x p u q joins (omega arith)

  is_x : (z.s'.live ≡ true) × (z.s'.clock ≡ x)
  is_x = lives_at n w' m'.kept.calm x (t.lives x in_x) z.s' z.there

  was_x : z.s.clock ≡ x
  was_x = sym z.reacts.clock ∙ is_x.1

  -- what it tells since, those below it can use
  new_told : (y : Send) (a : Announce) → In y z.sends → port_of x (suc p) ≡ port_of z.s.clock y.port
      → says y.octets a → New a
  new_told y a sent from said =
      let (own, master) = z.reacts.tells y a sent said in
      tells_new says g n Tree Out top best next base depth t start w' m' x in_x z.s' z.there holds' not' p u q joins
      beyond
      y.port a own master (ap (λ (k : PortIdentity). k.port) (sym from))

  -- ---- the lane to a system below it

  module _ (l l' : Lane) (lane' : slice_get w'.lanes (n.lane (port_of x (suc p))) ≡ Some l')
      (step : LaneStep z.s.clock z.sends l l') where
    has_then : (y : Lane) × (y ≡ l') × (y.from ≡ port_of x (suc p)) × (y.loss ≡ 0) × (y.is_up ≡ true)
    has_then =
        let has = m'.kept.calm.lanes (port_of x (suc p)) (port_of u (suc q)) joins in (
          has.lane,
          same_there w'.lanes (n.lane (port_of x (suc p))) has.lane l' has.there lane',
          has.from,
          has.loss,
          has.is_up,
        )

    pub from_x : l.from ≡ port_of x (suc p)
    from_x = let (y, same, from, loss, up) = has_then in sym step.from ∙ ap (λ (y : Lane). y.from) (sym same) ∙ from

    -- what enters it, those below can use
    news_new : AllSay says (IsNewTold t.ways (port_of x (suc p)) u) step.news
    news_new f a among said =
        let (y, sent, from, octets) = step.sent f among in
        new_told y a sent (sym from_x ∙ from) (subst (λ o. says o a) octets said)

    -- and an Announce does at once
    module _ (pv pv' : Port) (stood : slice_get z.s.ports p ≡ Some pv) (there' : slice_get z.s'.ports p ≡ Some pv')
        (answer : PortStep says z.s.clock (suc p) w.time z.touch z.s'.root z.s'.steps pv pv' z.sends) where
      pub tells_now : (f : AnnounceFrame) × In f step.news × FrameSaysAnnounce says f × (f.due ≤ w.time + n.most)
      tells_now = by (leaves says x (suc p) w.time z.touch z.s'.root z.s'.steps pv pv' z.sends
          (subst (λ c. PortStep says c (suc p) w.time z.touch z.s'.root z.s'.steps pv pv' z.sends) was_x answer)
          best.identity (base + depth x) (old pv stood).0 not'
          (teller_on g n t.well t.left n.most 0 best x p u q joins (omega arith) w' m'.kept m'.fits.stations z.s' pv'
          z.there there') refuses)
        where
          by : ((y : Send) × In y z.sends × (y.port ≡ suc p) × ((a : Announce) × says y.octets a))
              → (f : AnnounceFrame) × In f step.news × FrameSaysAnnounce says f × (f.due ≤ w.time + n.most)
          by (y, sent, number, (a, said)) =
              let (lane, same, from, loss, up) = has_then in
              let (f, among, octets) = step.arrives (sym step.loss ∙ ap (λ (y : Lane). y.loss) (sym same) ∙ loss)
              (sym step.is_up ∙ ap (λ (y : Lane). y.is_up) (sym same) ∙ up) y sent
              (from_x ∙ (λ j. port_of (sym was_x j) (sym number j))) in
              let by = (on_time g n t.well t.left n.most 0 best x p u q joins (omega arith) w' m'.kept
              m'.fits.stations l' f lane' (subst (In f) (sym step.behind) (In-right f l.frames step.news among))).due
              (omega arith) in
              let same_time = z.time in
              (f, among, (a, subst (λ o. says o a) (sym octets) said), omega (arith, by, same_time))

  pub leaves_old : AtLink says n x p u q (HoldsTold says (still n (base + depth x) best x p u q)
      (IsNewTold t.ways (port_of x (suc p)) u) (falls_by n start (suc (depth x)))) w'
  leaves_old su pu l' at there lane' =
      by_lane (z.lanes (port_of x (suc p)) (port_of u (suc q)) l' joins apart lane')
      (port_there g n t.well t.left w' m'.kept m'.fits.stations x p (port_of u (suc q)) z.s' z.there joins)
    where
      by_lane : ((l : Lane) × (slice_get w.lanes (n.lane (port_of x (suc p))) ≡ Some l)
          × LaneStep z.s.clock z.sends l l') → ((pv' : Port) × (slice_get z.s'.ports p ≡ Some pv'))
          → HoldsTold says k New last pu.held l'.frames
      by_lane (l, at_l, step) (pv', there') = by_port (z.reacts.ports p pv' there')
        where
          by_port : ((pv : Port) × (slice_get z.s.ports p ≡ Some pv)
              × PortStep says z.s.clock (suc p) w.time z.touch z.s'.root z.s'.steps pv pv' z.sends)
              → HoldsTold says k New last pu.held l'.frames
          by_port (pv, stood, answer) =
              let (f, among, said, soon) = tells_now l l' lane' step pv pv' stood there' answer in
              let due : f.due ≤ falls_by n start (suc (depth x)) = omega (arith, soon, in_time) in
              let long = long_at g n t.well t.left n.most 0 best x p u q joins (omega arith) w' m'.kept
              m'.fits.stations su pu stay.what at there stay.holds stay.final.log in
              subst (HoldsTold says k New last pu.held) (sym step.behind)
              (old_begins says k New last w.time pv.announce pu.held l.frames step.news f stay long (old pv stood).1
              (news_new l l' lane' step) among said soon due)
            where
              stay : FinalAnnounceStays says k pv.announce pu.held l.frames
              stay = stays pv pu l (record {
                v = z.s;
                u = su;
                teller = z.here;
                teller_port = stood;
                hearer = z.others u su known_u (around Tree Out depth x u beyond) apart at;
                hearer_port = there;
                lane = at_l;
              })

-- ---- a step

module _ (says : Spelling) (n : Network) (Beside : ℕ → Type 0) (x : ℕ) (w w' : MachineState) (calm : Calm n w)
    (calm' : Calm n w') (known : In x (clocks n.graph)) where
  -- a system that answers, perhaps to a frame that has been taken off a lane to it
  module _ (touch : StationTouch) (mid : MachineState) (call : StationAnswers says touch mid w')
      (time : mid.time ≡ w.time)
      (stood : (i : ℕ) (s : Station) → slice_get mid.stations i ≡ Some s → slice_get w.stations i ≡ Some s)
      (lanes_stood : (j : ℕ) (l : Lane) → slice_get mid.lanes j ≡ Some l → l.to.clock ≢ call.s.clock
      → slice_get w.lanes j ≡ Some l)
      (heard_here : (i : ℕ) (a : Announce) → touch ≡ Hear (suc i) a
      → (j : ℕ) × (l : Lane) × (f : AnnounceFrame) × (slice_get w.lanes j ≡ Some l) × In f l.frames × says f.octets a
      × (l.to ≡ port_of call.s.clock (suc i))) (place : n.place x ≡ call.place) where
    at_w : slice_get w.stations (n.place x) ≡ Some call.s
    at_w = stood (n.place x) call.s (subst (λ i. slice_get mid.stations i ≡ Some call.s) (sym place) call.here)

    was : call.s.clock ≡ x
    was = (lives_at n w calm x known call.s at_w).1

    answers_so : TreeAnswers says n Beside x w w'
    answers_so = record {
      touch = touch;
      s = call.s;
      s' = call.s';
      sends = call.sends;
      time = call.time ∙ time;
      here = at_w;
      there = subst (λ i. slice_get w'.stations i ≡ Some call.s') (sym place) call.there;
      reacts = subst (λ k. StationReacts says call.s touch k call.s' call.sends) time call.reacts;
      others = λ c z known_c beside apart at. elim (call.stations (n.place c) z at) [
        | inr (other, there) ↦ stood (n.place c) z there
        | inl (same, is) ↦ absurd (apart (
            let one : z.clock ≡ c = (lives_at n w' calm' c known_c z at).1 in
            sym one ∙ ap (λ (y : Station). y.clock) is ∙ call.reacts.clock ∙ was))
      ];
      lanes = λ p q l' joins apart at.
          let (l, at_mid, step) = call.lanes (n.lane p) l' at in
          let has = calm'.lanes p q joins in
          let same = same_there w'.lanes (n.lane p) has.lane l' has.there at in
          let to : l.to ≡ q = sym step.to ∙ ap (λ (y : Lane). y.to) (sym same) ∙ has.to in (
            l,
            lanes_stood (n.lane p) l at_mid (λ e. apart (ap (λ (y : PortIdentity). y.clock) (sym to) ∙ e ∙ was)),
            step,
          );
      heard = heard_here;
    }

  -- after a step a system stands as it did, or it has answered
  pub answers_or_stands : MachineSteps says w w' → (s' : Station) → slice_get w'.stations (n.place x) ≡ Some s'
      → (slice_get w.stations (n.place x) ≡ Some s')
      ⊎ TreeAnswers says n Beside x w w'
  answers_or_stands (inl wait) s' at =
      inl (subst (λ (y : MachineState). slice_get y.stations (n.place x) ≡ Some s') wait.is at)
  answers_or_stands (inr (inl act)) s' at = elim (act.call.stations (n.place x) s' at) [
    | inr (other, stood) ↦ inl (act.pops.stations (n.place x) s' stood)
    | inl (place, is) ↦
        inr (answers_so act.touch act.mid act.call act.pops.time act.pops.stations (λ j l there apart.
        elim (act.pops.lanes j l there) [
          | inr (away, stood) ↦ stood
          | inl (same, one) ↦ absurd (apart (ap (λ (y : Lane). y.to.clock) one ∙ sym act.owner))
        ]) (λ i a touched.
        let (number, said) = act.heard (suc i) a touched in (
          act.j,
          act.l,
          act.f,
          act.pops.here,
          subst (In act.f) (sym act.pops.frames) (inl refl),
          said,
          (λ j. port_of (sym act.owner j) (sym number j)),
        )) place)
  ]
  answers_or_stands (inr (inr (inl act))) s' at = inl (act.pops.stations (n.place x) s' at)
  answers_or_stands (inr (inr (inr act))) s' at = elim (act.call.stations (n.place x) s' at) [
    | inr (other, stood) ↦ inl stood
    | inl (place, is) ↦
        inr (answers_so act.touch w act.call refl (λ i s there. there) (λ j l there apart. there)
        (λ i a touched. absurd (act.deaf (suc i) a touched)) place)
  ]
