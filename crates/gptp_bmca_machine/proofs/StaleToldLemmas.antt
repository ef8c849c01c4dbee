-- A tree in which the root of before is still told: whoever tells it is heard, and who is below holds it meanwhile.
use Rattle.std.proofs.Common.{◌≡◌, ◌≢◌, ◌⊎◌, ◌<◌, ◌≤◌, ◌+◌, ℕ, suc, true, List, [], ◌∷◌, Some, None, slice_get, refl, sym, subst, ◌∙◌, inl, inr, arith}
use native.Mathlib.Decide.{dec_lt, ℕ_discrete}
use Rattle.gptp_lists.specs.Members.{In}
use Rattle.gptp_graph.specs.Order.{IsLower}
use Rattle.gptp_graph.specs.Snapshot.{System, port_of, Joins}
use Rattle.gptp_graph.proofs.LinkLemmas.{Joins-sym}
use Rattle.gptp_bmca_machine.specs.AtRest.{StationIsAtRest}
use Rattle.gptp_bmca_machine.specs.Frame.{Announce, AnnounceFrame, Spelling}
use Rattle.gptp_bmca_machine.specs.Link.{LinkSettles, TellerIsReady, TellerIsSettled, final_vector}
use Rattle.gptp_bmca_machine.specs.LinkStage.{FinalTail, FrameSaysAnnounce, IsFinal, LinkStage, Wiring}
use Rattle.gptp_bmca_machine.specs.LossLaws.{IsAfterLoss}
use Rattle.gptp_bmca_machine.specs.Network.{Network}
use Rattle.gptp_bmca_machine.specs.Station.{Aged, Disabled, Held, HoldsAt, MachineState, Mine, Port, Received, Reception, Station}
use Rattle.gptp_bmca_machine.specs.TwoTops.{Side, IsTreeOfTops}
use Rattle.gptp_bmca_machine.specs.Vectors.{master}
use Rattle.gptp_bmca_machine.proofs.LinkEndsLemmas.{telling}
use Rattle.gptp_bmca_machine.proofs.LinkStepLemmas.{AtLink, lives_at}
use Rattle.gptp_bmca_machine.proofs.LinkTellsLemmas.{Shows}
use Rattle.gptp_bmca_machine.proofs.PlaceLemmas.{same_holds, same_place}
use Rattle.gptp_bmca_machine.proofs.StaleLemmas.{BareHoldStale, HoldsMixed, IsStale, follows_stale, root_floor, stale_down, whole_worse}
use Rattle.gptp_bmca_machine.proofs.StaleStepLemmas.{AllMixed, IsTelling}
use Rattle.gptp_bmca_machine.proofs.StandsLemmas.{port_on}
use Rattle.gptp_bmca_machine.proofs.TwoTopsLemmas.{IsDeeper, Tree, beside}

module _ (says : Spelling) (n : Network) (next : System) (top : Side → ℕ) (depth : Side → ℕ → ℕ)
    (t : IsTreeOfTops n next top depth) (old base : ℕ) (worse : old < next.identity)
    (near : (side : Side) (v : ℕ) → Tree n next top depth t v → base + depth side v < 255) where
  -- the stale root as that of a system
  abbrev pub stale_root : System
  stale_root = record { clock = 0; identity = old; ports = 0 }

  -- what all hold over links, where all that links carry is so
  pub over_all : (w : MachineState) → AllMixed says n next top depth t old base worse w → (x v p i : ℕ)
      → Tree n next top depth t x → Joins n.graph (port_of v (suc p)) (port_of x (suc i))
      → HoldsMixed says n next top depth t old base worse v p x i w
  over_all w mixed x v p i in_x joins s pu l at there lane r holds =
      let in_v = beside n next top depth t x v in_x
      (suc i, suc p, Joins-sym n.graph (port_of v (suc p)) (port_of x (suc i)) joins) in
      let is = mixed v p x i in_v joins s pu l at there lane in
      (is.source r holds, is.hears r holds)

  -- a frame on its way says what is stale
  abbrev pub StaleComes : ℕ → ℕ → List AnnounceFrame → Type 0
  StaleComes v u fs = (f : AnnounceFrame) × In f fs × FrameSaysAnnounce says f
      × ((a : Announce) → says f.octets a → IsStale says n next top depth t old base worse v u a)

  abbrev pub StaleIsHeld : Held → Type 0
  StaleIsHeld held = (r : Reception) × (held ≡ Received r) × (r.said.root ≡ old)

  -- who tells what is stale is heard: it is on its way to the other end, or held there
  abbrev pub IsHeard : ℕ → ℕ → ℕ → ℕ → MachineState → Type 0
  IsHeard v p u q w = IsTelling says n next top depth t old base worse v p w
      → AtLink says n v p u q (λ held fs. StaleComes v u fs ⊎ StaleIsHeld held) w

  module _ (v p u q : ℕ) (in_v : Tree n next top depth t v)
      (joins : Joins n.graph (port_of v (suc p)) (port_of u (suc q))) (side : Side) (deeper : IsDeeper depth side v u)
      (before : ℕ) (in_time : n.most ≤ before) where
    abbrev k : Wiring
    k = telling n before (base + depth side v) stale_root v p u q

    back : Joins n.graph (port_of u (suc q)) (port_of v (suc p))
    back = Joins-sym n.graph (port_of v (suc p)) (port_of u (suc q)) joins

    in_u : Tree n next top depth t u
    in_u = beside n next top depth t v u in_v (suc p, suc q, joins)

    module _ (w : MachineState) (kept : IsAfterLoss n w)
        (dark : BareHoldStale says n next top depth t old base worse w)
        (mixed : AllMixed says n next top depth t old base worse w) where
      -- What comes from the other end doesn't hinder it: a system that tells it holds from there what is worse, and
      -- what is told there that is stale is worse.
      pub record IsUnhindered : Type 0 where
        pub held : (s : Station) (pv : Port) (r : Reception) → slice_get w.stations (n.place v) ≡ Some s
            → slice_get s.ports p ≡ Some pv → pv.held ≡ Received r → s.root ≡ old → s.steps ≡ base + depth side v
            → old < r.said.root
        pub weaker : (s : Station) (pu : Port) (steps : ℕ) → slice_get w.stations (n.place u) ≡ Some s
            → slice_get s.ports q ≡ Some pu → s.root ≡ old → pu.held ≡ Mine old steps
            → IsLower (final_vector (telling n before (base + depth side v) stale_root v p u q))
            (master old steps u (suc q))

      -- so it is where no top leads from there
      pub unhindered : ((other : Side) → IsDeeper depth other u v → ⊥) → IsUnhindered
      unhindered none = record {
        held = λ s pv r at there holds root steps.
            let has = kept.calm.lanes (port_of u (suc q)) (port_of v (suc p)) back in
            elim ((mixed u q v p in_u back s pv has.lane at there has.there).hears r holds) [
              | inl whole ↦ whole_worse says n next top depth t old base worse u r.said in_u whole
              | inr stale ↦ absurd (none stale.side stale.deeper)
            ];
        weaker = λ s pu steps at there root mine.
            let stale = follows_stale says n next top depth t old base worse w kept dark u in_u
            (λ a b i. over_all w mixed u a b i in_u) s at root in
            absurd (none stale.side (stale_down says n next top depth t old base worse w kept dark u in_u
            (λ a b i. over_all w mixed u a b i in_u) s at q v p back pu there old steps mine stale));
      }

      module _ (clear : IsUnhindered) where
        module _ (s : Station) (pv : Port) (at : slice_get w.stations (n.place v) ≡ Some s)
            (there : slice_get s.ports p ≡ Some pv) (root : s.root ≡ old) (steps : s.steps ≡ base + depth side v) where
          live : (s.live ≡ true) × (s.clock ≡ v)
          live = lives_at n w kept.calm v in_v.reached.1.begins s at

          rest : StationIsAtRest s
          rest = (kept.calm.stations (n.place v) s at live.0).at_rest

          none_received : (r : Reception) → pv.held ≡ Received r → ⊥
          none_received r holds = elim (rest.passive p r (pv, there, holds)) [
            | inr not_lower ↦ not_lower (inl (omega (arith, root, more)))
            | inl slave ↦ elim rest.chosen [
              | inl (own, none) ↦ absurd (let both : Some (suc p) ≡ None = sym slave ∙ none in cc)
              | inr (i, x, holds_x, path, slave_x) ↦
                  let same : i ≡ p = same_place i p (sym slave_x ∙ slave) in
                  let one : x ≡ r = same_holds s p x r (subst (λ j. HoldsAt s j x) same holds_x) (pv, there, holds) in
                  let is = rest.is in
                  let root_x : x.said.root ≡ s.root = cc in
                  let root_r : r.said.root ≡ s.root = subst (λ (y : Reception). y.said.root ≡ s.root) one root_x in
                  omega (arith, more, root_r, root)
            ]
          ]
            where
              more : old < r.said.root
              more = clear.held s pv r at there holds root steps

          mine_by : (held : Held) → pv.held ≡ held → pv.held ≡ Mine old (base + depth side v)
          mine_by Disabled is = absurd (port_on n t.well w kept v p (port_of u (suc q)) s pv at there joins is)
          mine_by Aged is = absurd (rest.fresh p pv there is)
          mine_by (Received r) is = absurd (none_received r is)
          mine_by (Mine a b) is =
              let (one, two) = rest.mine p pv a b there is in is ∙ (λ i. Mine ((one ∙ root) i) ((two ∙ steps) i))

          pub tells_it : TellerIsSettled (telling n before (base + depth side v) stale_root v p u q) s pv
          tells_it =
              let mine = mine_by pv.held refl in
              let stale = follows_stale says n next top depth t old base worse w kept dark v in_v
              (λ a b i. over_all w mixed v a b i in_v) s at root in
              let down = stale_down says n next top depth t old base worse w kept dark v in_v
              (λ a b i. over_all w mixed v a b i in_v) s at p u q joins pv there old (base + depth side v) mine stale in
              let long = stale.long in
              let close = near side v in_v in
              record {
                mine = mine;
                near = close;
                foreign = λ among. let few = stale.names u in_u among in omega (arith, few, down);
                short = omega (arith, long, close, steps);
              }

        -- what is told there is worse
        pub weaker_there : (s : Station) (pu : Port) → slice_get w.stations (n.place u) ≡ Some s
            → slice_get s.ports q ≡ Some pu → (root steps : ℕ) → pu.held ≡ Mine root steps
            → IsLower (final_vector (telling n before (base + depth side v) stale_root v p u q))
            (master root steps u (suc q))
        weaker_there s pu at there root steps mine = weaker s pu at there root steps mine (ℕ_discrete s.root old)
          where
            weaker : (s : Station) (pu : Port) → slice_get w.stations (n.place u) ≡ Some s
                → slice_get s.ports q ≡ Some pu → (root steps : ℕ) → pu.held ≡ Mine root steps → Dec (s.root ≡ old)
                → IsLower (final_vector k) (master root steps u (suc q))
            weaker s pu at there root steps mine (no left) =
                let (live, clock) = lives_at n w kept.calm u in_u.reached.1.begins s at in
                let own = (kept.calm.stations (n.place u) s at live).at_rest.mine q pu root steps there mine in
                let floor = root_floor says n next top depth t old base worse w kept dark u in_u
                (λ a b i. over_all w mixed u a b i in_u) s at in
                inl (by (own.0) floor left)
              where
                by : root ≡ s.root → old ≤ s.root → s.root ≢ old → old < root
                by is floor apart = elim (dec_lt old s.root) [
                  | yes less ↦ omega (arith, less, is)
                  | no not ↦ absurd (apart (omega (arith, not, floor)))
                ]
            weaker s pu at there root steps mine (yes is) =
                let (live, clock) = lives_at n w kept.calm u in_u.reached.1.begins s at in
                let own = (kept.calm.stations (n.place u) s at live).at_rest.mine q pu root steps there mine in
                let root_is : root ≡ old = own.0 ∙ is in
                subst (λ r. IsLower (final_vector k) (master r steps u (suc q))) (sym root_is)
                (clear.weaker s pu steps at there is (mine ∙ (λ i. Mine (root_is i) steps)))

        -- what both ends show of it
        pub shows_stale : ((s : Station) (pv : Port) → slice_get w.stations (n.place v) ≡ Some s
            → slice_get s.ports p ≡ Some pv
            → (TellerIsReady (telling n before (base + depth side v) stale_root v p u q) s pv → ⊥)
            → w.time + n.most < before)
            → Shows says n t.well before (base + depth side v) stale_root v p u q joins in_time w
        shows_stale early = record {
          kept = kept;
          came = λ s pu l at there lane r holds. (mixed v p u q in_v joins s pu l at there lane).source r holds;
          settled = λ s pv at there ready. tells_it s pv at there ready.0.0 ready.0.1;
          early = early;
          weaker = weaker_there;
        }

      -- so it is heard, where its link is at its stages
      pub heard_by : LinkSettles says (telling n before (base + depth side v) stale_root v p u q) w → (s : Station)
          (pv : Port) → slice_get w.stations (n.place v) ≡ Some s → slice_get s.ports p ≡ Some pv → s.root ≡ old
          → s.steps ≡ base + depth side v
          → AtLink says n v p u q (λ held fs. StaleComes v u fs ⊎ StaleIsHeld held) w
      heard_by link s pv at there root steps su pu l at_u there_u lane = by (link (omega arith) pv pu l
          (record {
            v = s;
            u = su;
            teller = at;
            teller_port = there;
            hearer = at_u;
            hearer_port = there_u;
            lane = lane;
          })
          ((root, steps), port_on n t.well w kept v p (port_of u (suc q)) s pv at there joins))
        where
          stale_final : (f : AnnounceFrame) (a : Announce) → In f l.frames → says f.octets a → IsFinal k a
              → IsStale says n next top depth t old base worse v u a
          stale_final f a among said final = elim ((mixed v p u q in_v joins su pu l at_u there_u lane).flight f a among
              said) [
                | inr names ↦ absurd (final.qualified.no_loop names)
                | inl (inr stale) ↦ stale
                | inl (inl whole) ↦
                    let more = whole_worse says n next top depth t old base worse v a in_v whole in
                    let is = final.root in
                    absurd (omega (arith, more, is))
              ]

          in_tail : (fs : List AnnounceFrame) → ((f : AnnounceFrame) → In f fs → In f l.frames)
              → FinalTail says k before fs → StaleComes v u l.frames
          in_tail [] within none = absurd none
          in_tail (f ∷ fs) within (inl (due, said, all)) = (
            f,
            within f (inl refl),
            said,
            (λ a is. stale_final f a (within f (inl refl)) is (all f a (inl refl) is)),
          )
          in_tail (f ∷ fs) within (inr tail) = in_tail fs (λ g among. within g (inr among)) tail

          by : LinkStage says k pv.announce pu.held l.frames → StaleComes v u l.frames ⊎ StaleIsHeld pu.held
          by (inl waits) = absurd (omega (arith, waits))
          by (inr (inl tail)) = inl (in_tail l.frames (λ f among. among) tail)
          by (inr (inr stays)) = inr (stays.what, stays.holds, stays.final.root)
