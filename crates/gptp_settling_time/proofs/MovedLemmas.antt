-- Once each neighbour has turned away from the system that is moved, all that is held fits what is left, and each link
-- is at its stage: so it settles.
use Rattle.std.proofs.Common.{◌≡◌, ◌≢◌, ◌⊎◌, ◌<◌, ◌≤◌, ◌+◌, ℕ, suc, true, List, [], ◌∷◌, Some, slice_get, sym, ap, subst, ◌∙◌, inl, inr, arith}
use native.Mathlib.Decide.{dec_lt, ℕ_discrete}
use Rattle.gptp_lists.specs.Members.{In}
use Rattle.gptp_graph.specs.Best.{IsBest}
use Rattle.gptp_graph.specs.Distance.{IsDistance}
use Rattle.gptp_graph.specs.Snapshot.{Adjacent, IsLinked, Joins, PortIdentity, Snapshot, System, clocks, port_of}
use Rattle.gptp_graph.proofs.BestLemmas.{IsBest-neighbour, IsBest-unique}
use Rattle.gptp_graph.proofs.DistanceLemmas.{IsDistance-clock, IsDistance-unique}
use Rattle.gptp_graph.proofs.ExistenceLemmas.{best_exists, distance_exists}
use Rattle.gptp_graph.proofs.LinkDecisions.{IsLinked-dec}
use Rattle.gptp_graph.proofs.LinkLemmas.{Joins-clock, Joins-sym}
use Rattle.gptp_bmca_machine.specs.Acts.{MachineSteps}
use Rattle.gptp_bmca_machine.specs.Clean.{CameFits, CameOverLink}
use Rattle.gptp_bmca_machine.specs.Frame.{Announce, AnnounceFrame, Spelling}
use Rattle.gptp_bmca_machine.specs.Levels.{Invariant, LevelSettles}
use Rattle.gptp_bmca_machine.specs.Link.{LinkSettles}
use Rattle.gptp_bmca_machine.specs.LinkStage.{AllFinal, FinalAnnounceStays, FinalTail, IsFinal}
use Rattle.gptp_bmca_machine.specs.LossLaws.{EverythingFits, IsAfterLoss}
use Rattle.gptp_bmca_machine.specs.Network.{Network, since, wiring}
use Rattle.gptp_bmca_machine.specs.Sound.{ReceivedFits}
use Rattle.gptp_bmca_machine.specs.Station.{Disabled, Held, HoldsAt, MachineState, Mine, Received, Reception, Station}
use Rattle.gptp_bmca_machine.proofs.LevelLemmas.{places_of}
use Rattle.gptp_bmca_machine.proofs.LossLemmas.{fits_kept}
use Rattle.gptp_bmca_machine.proofs.RestLemmas.{is_master}
use Rattle.gptp_settling_time.proofs.BesideLemmas.{IsDark, IsMoving, neighbour_at, chooses_y, on_y, towards}
use Rattle.gptp_settling_time.proofs.ClaimLemmas.{each_kept}
use Rattle.gptp_settling_time.proofs.NamesItselfLemmas.{itself_kept}
use Rattle.gptp_settling_time.proofs.OldLemmas.{Turning, turned_then, turning_kept}
use Rattle.gptp_bmca_machine.proofs.StillLemmas.{LeadsOn, StillSettles, clear_at, levels_below, live_before}
use Rattle.gptp_settling_time.proofs.TurnLemmas.{ComesLate, IsBeside, NamesLate, TurnsOne, beside, own_names, source_best, taken_late, unmoved_by}
use Rattle.gptp_settling_time.proofs.TurnedLemmas.{HasTurned}

module _ (says : Spelling) (g : Snapshot) (n : Network) (x d e : ℕ) (best : System) (t : TurnsOne g n x d e best) where
  -- the best of each was so before
  pub best_before : (v : ℕ) (c : System) → IsBest n.graph v c → IsBest g v c
  best_before v c is = elim (ℕ_discrete v x) [
    | yes same ↦
        let one : best ≡ c =
        IsBest-unique n.graph x best c t.well t.is_best (subst (λ u. IsBest n.graph u c) same is) in
        subst (λ u. IsBest g u c) (sym same) (subst (IsBest g x) one t.was_best)
    | no apart ↦
        let known = is.reached.1.begins in
        let u = t.others v known apart in
        let (f, was) = best_exists g v t.left.graph (live_before g n t.well t.left v known) in
        subst (IsBest g v) (IsBest-unique n.graph v f c t.well (u.best f was) is) was
  ]

  -- ---- every step keeps what is known

  pub moving_kept : (w w' : MachineState) → IsMoving says g n x e best w → IsAfterLoss n w' → IsDark n w'
      → MachineSteps says w w' → IsMoving says g n x e best w'
  moving_kept w w' m kept' dark' step =
      record {
        kept = kept';
        fits = fits';
        levels = levels';
        dark = dark';
        names = each_kept says n (ComesLate g x e best) (NamesLate g x e best) (λ from to a late. inl late) w w'
            m.kept.calm kept'.calm (own_names says g n x d e best t w' kept' fits' levels' dark')
            (taken_late says g n x d e best t w m.kept m.fits m.levels m.dark) step m.names;
        itself = itself_kept says n g w w' m.kept.calm kept'.calm step m.itself;
      }
    where
      fits' : EverythingFits says g n w'
      fits' = fits_kept says g n t.left w w' m.kept.calm kept'.calm step m.fits

      levels' : (f : ℕ) → StillSettles says g n f w'
      levels' f =
          levels_below says g n t.well t.left w w' m.kept kept' m.fits.stations fits'.stations step m.levels (suc f) f
          (omega arith)

  -- ---- a neighbour that heard it before

  -- each neighbour is nearer, or as near with the lower clock, or it heard the system before
  abbrev pub Heard : ℕ → ℕ → Type 0
  Heard y far = (d < far) ⊎ ((d ≡ far) × (x < y))

  abbrev pub Before : ℕ → ℕ → Type 0
  Before y far = (far ≡ d) × (y < x)

  which : (y far : ℕ) → y ≢ x → e ≤ suc far → Heard y far ⊎ Before y far
  which y far apart least =
      let more = t.more in
      elim (dec_lt d far) [
        | yes less ↦ inl (inl less)
        | no not ↦ elim (dec_lt x y) [
          | yes lower ↦ inl (inr (omega (arith, not, least, more), lower))
          | no over ↦ inr (omega (arith, not, least, more), omega (arith, over, apart))
        ]
      ]

  -- each that heard it is at one of both
  abbrev pub EachTurns : ℕ → (ℕ → ℕ) → MachineState → Type 0
  EachTurns last before w = (p y q : ℕ) (joins : Joins n.graph (port_of x (suc p)) (port_of y (suc q)))
      (heard : Heard y (neighbour_at says g n x d e best t p y q joins).far)
      → Turning says g n x d e best t p y q joins heard last
      (before (neighbour_at says g n x d e best t p y q joins).far) w

  pub each_turns : (last : ℕ) (before : ℕ → ℕ) → ((far : ℕ) → d ≤ far → last + n.most < before far)
      → (w w' : MachineState)
      → IsMoving says g n x e best w → IsMoving says g n x e best w' → last ≤ w.time + n.most
      → MachineSteps says w w' → EachTurns last before w → EachTurns last before w'
  each_turns last before room w w' m m' begun step each p y q joins heard =
      let neighbour = neighbour_at says g n x d e best t p y q joins in
      let least = neighbour.least in
      let more = t.more in
      let fits = room neighbour.far (omega (arith, least, more)) in
      turning_kept says g n x d e best t p y q joins heard last (before neighbour.far) (omega (arith, fits)) fits w w'
      m m'
      begun step (each p y q joins heard)

  -- ---- once all have turned away

  module _ (last : ℕ) (before : ℕ → ℕ) (w : MachineState) (m : IsMoving says g n x e best w) (over : last < w.time)
      (each : EachTurns last before w) where
    turned : (p y q : ℕ) (joins : Joins n.graph (port_of x (suc p)) (port_of y (suc q)))
        → Heard y (neighbour_at says g n x d e best t p y q joins).far
        → HasTurned says g n x d e best t p y q joins (before (neighbour_at says g n x d e best t p y q joins).far) w
    turned p y q joins heard =
        turned_then says g n x d e best t p y q joins heard last
        (before (neighbour_at says g n x d e best t p y q joins).far) w m
        over (each p y q joins heard)

    -- nobody holds what the system told
    none_holds : (i : ℕ) (s : Station) (place : ℕ) (r : Reception) → slice_get w.stations i ≡ Some s → s.live ≡ true
        → HoldsAt s place r → r.said.source.clock ≢ x
    none_holds i s place r at live (q, there, holds) from_x =
        elim (IsLinked-dec n.graph (port_of s.clock (suc place))) [
          | no none ↦
              let off = m.dark i s place q at live there none in
              absurd (let both : Received r ≡ Disabled = sym holds ∙ off in cc)
          | yes (u, joined) ↦ by_end u joined
              (places_of n.graph s.clock (suc place) u.clock u.port t.well joined)
        ]
      where
        by_end : (u : PortIdentity) → Joins n.graph (port_of s.clock (suc place)) u
            → ((a : ℕ) × (p : ℕ) × (suc place ≡ suc a) × (u.port ≡ suc p)) → ⊥
        by_end u joined (a, p, is_a, is_p) = by (which s.clock neighbour.far neighbour.apart neighbour.least)
          where
            came : CameOverLink g s.clock (suc place) r.said
            came =
                (m.fits.stations i s place r at live (q, there, holds)).over
                (u, t.left.links (port_of s.clock (suc place)) u joined)

            end : u.clock ≡ x
            end =
                let one : came.from ≡ u =
                t.left.graph.one_link (port_of s.clock (suc place)) came.from u
                (Joins-sym g came.from (port_of s.clock (suc place)) came.joins)
                (t.left.links (port_of s.clock (suc place)) u joined) in
                ap (λ (v : PortIdentity). v.clock) (sym one ∙ sym came.source) ∙ from_x

            joins : Joins n.graph (port_of x (suc p)) (port_of s.clock (suc place))
            joins =
                subst (λ k. Joins n.graph (port_of x k) (port_of s.clock (suc place))) is_p
                (subst (λ c. Joins n.graph (port_of c u.port) (port_of s.clock (suc place))) end
                (Joins-sym n.graph (port_of s.clock (suc place)) u joined))

            neighbour : IsBeside g n x d e best s.clock
            neighbour = neighbour_at says g n x d e best t p s.clock place joins

            at_y : slice_get w.stations (n.place s.clock) ≡ Some s
            at_y = subst (λ k. slice_get w.stations k ≡ Some s) (m.kept.calm.placed i s at) at

            by : Heard s.clock neighbour.far ⊎ Before s.clock neighbour.far → ⊥
            by (inl heard) =
                let (root, steps, mine) = (turned p s.clock place joins heard).mine s q at_y there in
                absurd (let both : Received r ≡ Mine root steps = sym holds ∙ mine in cc)
            by (inr (same, lower)) =
                let back = Joins-sym n.graph (port_of x (suc p)) (port_of s.clock (suc place)) joins in
                let mine = is_master g t.left.graph s (clear_at g n t.well t.left w m.kept m.fits.stations i s at live)
                best neighbour.is_best neighbour.far d place q (port_of x (suc p))
                (chooses_y says g n x d e best t p s.clock place joins w m s at_y) there
                (on_y says g n x d e best t p s.clock place joins w m s q at_y there)
                (t.left.links (port_of s.clock (suc place)) (port_of x (suc p)) back) t.was (inr (same, lower)) in
                absurd (let both : Received r ≡ Mine best.identity neighbour.far = sym holds ∙ mine in cc)

    -- ---- all that is held fits what is left

    far_before : (v far : ℕ) → v ≢ x → IsDistance n.graph v far → IsDistance g v far
    far_before v far apart is =
        let known = IsDistance-clock n.graph v far t.well is in
        let u = t.others v known apart in
        let (f, was) = distance_exists g v t.left.graph (live_before g n t.well t.left v known) in
        subst (IsDistance g v) (IsDistance-unique n.graph v f far t.well (u.far f was) is) was

    pub received_then : ReceivedFits n.graph w
    received_then i s place r at live holds = record {
      over = over_link;
      fits = record {
        root = λ c is. was.fits.root c (best_before s.clock c is);
        here = here;
        members = members;
        long = λ c is. was.fits.long c (best_before s.clock c is);
      };
    }
      where
        was : CameFits g s.clock (suc place) r
        was = m.fits.stations i s place r at live holds

        foreign : r.said.source.clock ≢ x
        foreign = none_holds i s place r at live holds

        came : (u : PortIdentity) → Joins n.graph (port_of s.clock (suc place)) u
            → CameOverLink g s.clock (suc place) r.said
        came u joined = was.over (u, t.left.links (port_of s.clock (suc place)) u joined)

        one_end : (u : PortIdentity) (joined : Joins n.graph (port_of s.clock (suc place)) u)
            → (came u joined).from ≡ u
        one_end u joined =
            t.left.graph.one_link (port_of s.clock (suc place)) (came u joined).from u
            (Joins-sym g (came u joined).from (port_of s.clock (suc place)) (came u joined).joins)
            (t.left.links (port_of s.clock (suc place)) u joined)

        over_link : IsLinked n.graph (port_of s.clock (suc place)) → CameOverLink n.graph s.clock (suc place) r.said
        over_link (u, joined) =
            let source : r.said.source ≡ u = (came u joined).source ∙ one_end u joined in
            let apart : u.clock ≢ x = λ same. foreign (ap (λ (v : PortIdentity). v.clock) source ∙ same) in
            record {
              from = u;
              joins = Joins-sym n.graph (port_of s.clock (suc place)) u joined;
              source = source;
              sender = λ c far is root there.
                  (came u joined).sender c far (best_before s.clock c is) root
                  (subst (λ (v : PortIdentity). IsDistance g v.clock far) (sym (one_end u joined))
                  (far_before u.clock far apart there));
            }

        here : (c : System) (far : ℕ) → IsBest n.graph s.clock c → r.said.root ≡ c.identity
            → IsDistance n.graph s.clock far → far ≤ suc r.said.steps
        here c far is root there = elim (ℕ_discrete s.clock x) [
          | no apart ↦ was.fits.here c far (best_before s.clock c is) root (far_before s.clock far apart there)
          | yes same ↦ own same (IsLinked-dec n.graph (port_of s.clock (suc place)))
        ]
          where
            own : s.clock ≡ x → Dec (IsLinked n.graph (port_of s.clock (suc place))) → far ≤ suc r.said.steps
            own same (no none) =
                let off = m.dark i s place holds.0 at live holds.1 none in
                absurd (let both : Received r ≡ Disabled = sym holds.2 ∙ off in cc)
            own same (yes (u, joined)) =
                let from_x = subst (λ v. Joins n.graph (port_of v (suc place)) u) same joined in
                let y = beside says g n x d e best t u.clock (suc place, u.port, from_x) in
                let few = (came u joined).sender c y.far (best_before s.clock c is) root
                (subst (λ (v : PortIdentity). IsDistance g v.clock y.far) (sym (one_end u joined)) y.there) in
                let far_is = IsDistance-unique n.graph x far e t.well
                (subst (λ v. IsDistance n.graph v far) same there) t.is in
                let least = y.least in
                omega (arith, few, far_is, least)

        members : (c : System) (v far : ℕ) → IsBest n.graph s.clock c → r.said.root ≡ c.identity → In v r.said.path
            → IsBest n.graph v c → IsDistance n.graph v far → far ≤ r.said.steps
        members c v far is root among is_v there = elim (ℕ_discrete v x) [
          | no apart ↦ was.fits.members c v far (best_before s.clock c is) root among (best_before v c is_v)
              (far_before v far apart there)
          | yes same ↦ own same
        ]
          where
            own : v ≡ x → far ≤ r.said.steps
            own same =
                let one : best ≡ c =
                IsBest-unique n.graph x best c t.well t.is_best (subst (λ u. IsBest n.graph u c) same is_v) in
                let far_is = IsDistance-unique n.graph x far e t.well
                (subst (λ u. IsDistance n.graph u far) same there) t.is in
                elim (m.names.stations i s at live place r holds (root ∙ ap (λ (z : System). z.identity) (sym one))
                (source_best says g n x d e best t w m.kept m.fits m.levels m.dark i s place r at live holds
                (subst (IsBest g s.clock) (sym one) (best_before s.clock c is)))
                (subst (λ u. In u r.said.path) same among)) [
                  | inl from_x ↦ absurd (foreign from_x)
                  | inr many ↦ omega (arith, many, far_is)
                ]

    -- ---- each link is at its stage

    module _ (slack : ℕ) where
      -- the network with the times of what is moved
      abbrev timed : Network
      timed = record n { slack = slack }

      module _ (c : System) (k_teller p_teller k_hearer p_hearer steps first second : ℕ) (early : first ≤ second) where
        same_final : (a : Announce)
            → IsFinal (towards n first steps c k_teller p_teller k_hearer p_hearer) a
            → IsFinal (wiring timed steps c k_teller p_teller k_hearer p_hearer) a
        same_final a is = record {
          root = is.root;
          steps = is.steps;
          source = is.source;
          log = is.log;
          qualified = is.qualified;
        }

        all_same : (fs : List AnnounceFrame)
            → AllFinal says (towards n first steps c k_teller p_teller k_hearer p_hearer) fs
            → AllFinal says (wiring timed steps c k_teller p_teller k_hearer p_hearer) fs
        all_same fs all f a among said = same_final a (all f a among said)

        later_tail : (fs : List AnnounceFrame)
            → FinalTail says (towards n first steps c k_teller p_teller k_hearer p_hearer) first fs
            → FinalTail says (wiring timed steps c k_teller p_teller k_hearer p_hearer) second fs
        later_tail [] tail = absurd tail
        later_tail (f ∷ fs) (inl (due, said, all)) = inl (omega (arith, due, early), said, all_same (f ∷ fs) all)
        later_tail (f ∷ fs) (inr tail) = inr (later_tail fs tail)

        same_stays : (announce : ℕ) (held : Held) (fs : List AnnounceFrame)
            → FinalAnnounceStays says (towards n first steps c k_teller p_teller k_hearer p_hearer) announce held fs
            → FinalAnnounceStays says (wiring timed steps c k_teller p_teller k_hearer p_hearer) announce held fs
        same_stays announce held fs is = record {
          what = is.what;
          holds = is.holds;
          final = same_final is.what.said is.final;
          flight = all_same fs is.flight;
          next = is.next;
        }

      -- a link of the one is a link of the other
      settles_too : (c : System) (steps v p u q first : ℕ) → first ≤ since timed (suc steps)
          → LinkSettles says (towards n first steps c v p u q) w → LinkSettles says (wiring timed steps c v p u q) w
      settles_too c steps v p u q first early link now pv pu l stand ready =
          elim (link (omega arith) pv pu l (record {
            v = stand.v;
            u = stand.u;
            teller = stand.teller;
            teller_port = stand.teller_port;
            hearer = stand.hearer;
            hearer_port = stand.hearer_port;
            lane = stand.lane;
          }) ready) [
            | inl waits ↦ absurd (omega (arith, waits))
            | inr (inl tail) ↦
                inr (inl (later_tail c v p u q steps first (since timed (suc steps)) early l.frames tail))
            | inr (inr stays) ↦
                inr (inr (same_stays c v p u q steps first (since timed (suc steps)) early pv.announce pu.held l.frames
                stays))
          ]

      pub levels_then : ((far : ℕ) → before far ≤ since timed (suc far)) → ((far : ℕ) → n.most ≤ since timed (suc far))
          → (f : ℕ) → LevelSettles says timed f w
      levels_then in_time delay f c v p u q close leads = by (ℕ_discrete v x) (ℕ_discrete u x)
        where
          back : Joins n.graph (port_of u (suc q)) (port_of v (suc p))
          back = Joins-sym n.graph (port_of v (suc p)) (port_of u (suc q)) leads.joins

          known_v : In v (clocks n.graph)
          known_v = Joins-clock n.graph (port_of v (suc p)) (port_of u (suc q)) t.well leads.joins

          -- it is the far end of its links
          not_from : v ≡ x → ⊥
          not_from same =
              let joined : Adjacent n.graph x u =
              subst (λ z. Adjacent n.graph z u) same (suc p, suc q, leads.joins) in
              elim (t.far u f leads.far joined (subst (λ z. IsDistance n.graph z f) same leads.here) leads.there) [
                | inl less ↦ elim leads.farther [
                  | inl more ↦ omega (arith, less, more)
                  | inr (equal, lower) ↦ omega (arith, less, equal)
                ]
                | inr (equal, below) ↦ elim leads.farther [
                  | inl more ↦ omega (arith, equal, more)
                  | inr (also, lower) ↦ omega (arith, below, lower, same)
                ]
              ]

          -- a link to it
          link_to : u ≡ x → LinkSettles says (wiring timed f c v p x q) w
          link_to same = by_which (which v neighbour.far neighbour.apart neighbour.least)
            where
              joins : Joins n.graph (port_of x (suc q)) (port_of v (suc p))
              joins = subst (λ z. Joins n.graph (port_of z (suc q)) (port_of v (suc p))) same back

              neighbour : IsBeside g n x d e best v
              neighbour = neighbour_at says g n x d e best t q v p joins

              one : best ≡ c
              one =
                  IsBest-unique n.graph x best c t.well t.is_best
                  (IsBest-neighbour n.graph v x c t.well
                  (suc p, suc q, Joins-sym n.graph (port_of x (suc q)) (port_of v (suc p)) joins) leads.is_best)

              far_is : neighbour.far ≡ f
              far_is = IsDistance-unique n.graph v neighbour.far f t.well neighbour.there_then leads.here

              by_which : Heard v neighbour.far ⊎ Before v neighbour.far → LinkSettles says (wiring timed f c v p x q) w
              by_which (inl heard) =
                  subst (λ z. LinkSettles says (wiring timed z c v p x q) w) far_is
                  (subst (λ z. LinkSettles says (wiring timed neighbour.far z v p x q) w) one
                  (settles_too best neighbour.far v p x q (before neighbour.far) (in_time neighbour.far)
                  (turned q v p joins heard).link))
              by_which (inr (equal, lower)) =
                  let leads_on : LeadsOn g n neighbour.far best v p x q =
                  record {
                    unmoved = neighbour.unmoved;
                    is_best = neighbour.is_best;
                    here = neighbour.there;
                    joins = Joins-sym n.graph (port_of x (suc q)) (port_of v (suc p)) joins;
                    far = d;
                    there = t.was;
                    farther = inr (equal, lower);
                  } in
                  subst (λ z. LinkSettles says (wiring timed z c v p x q) w) far_is
                  (subst (λ z. LinkSettles says (wiring timed neighbour.far z v p x q) w) one
                  (settles_too best neighbour.far v p x q n.most (delay neighbour.far)
                  (m.levels neighbour.far best v p x q neighbour.close leads_on)))

          -- a link between two others
          between : v ≢ x → u ≢ x → LinkSettles says (wiring timed f c v p u q) w
          between apart_v apart_u =
              let leads_on : LeadsOn g n f c v p u q =
              record {
                unmoved = unmoved_by says g n x d e best t v known_v apart_v;
                is_best = best_before v c leads.is_best;
                here = far_before v f apart_v leads.here;
                joins = leads.joins;
                far = leads.far;
                there = far_before u leads.far apart_u leads.there;
                farther = leads.farther;
              } in
              settles_too c f v p u q n.most (delay f) (m.levels f c v p u q close leads_on)

          by : Dec (v ≡ x) → Dec (u ≡ x) → LinkSettles says (wiring timed f c v p u q) w
          by (yes same) is_u = absurd (not_from same)
          by (no apart) (yes same) =
              subst (λ z. LinkSettles says (wiring timed f c v p z q) w) (sym same) (link_to same)
          by (no apart) (no other) = between apart other

      -- so the machine's invariant holds of the network with those times
      pub invariant_then : ((far : ℕ) → before far ≤ since timed (suc far))
          → ((far : ℕ) → n.most ≤ since timed (suc far)) → Invariant says timed w
      invariant_then in_time delay = record {
        sound = λ now. received_then;
        levels = levels_then in_time delay;
      }
