-- As a system answers the loss of a link, by which it is moved, its neighbours hold what it told before, and what it
-- tells at once is on its way to them.
use Rattle.std.proofs.Common.{◌≡◌, ◌≢◌, ◌⊎◌, ◌<◌, ◌≤◌, ◌+◌, ◌++◌, ℕ, suc, true, false, List, [], ◌∷◌, Some, length, slice_get, refl, sym, ap, subst, ◌∙◌, inl, inr, arith}
use native.Mathlib.Decide.{ℕ_discrete}
use Rattle.gptp_lists.specs.Members.{In}
use Rattle.gptp_lists.proofs.SystemSpecLemmas.{In-left, In-parts, In-right}
use Rattle.gptp_graph.specs.Best.{IsBest}
use Rattle.gptp_graph.specs.Distance.{IsDistance}
use Rattle.gptp_graph.specs.Snapshot.{Joins, PortIdentity, Snapshot, System, clocks, port_of}
use Rattle.gptp_graph.proofs.DistanceLemmas.{IsDistance-unique}
use Rattle.gptp_graph.proofs.LinkLemmas.{Joins-sym}
use Rattle.gptp_bmca_machine.specs.Acts.{LaneStep}
use Rattle.gptp_bmca_machine.specs.Calm.{Calm, HasLane}
use Rattle.gptp_bmca_machine.specs.Clean.{CameFits, IsWorse, Whole}
use Rattle.gptp_bmca_machine.specs.Facts.{FollowsItself, FollowsPort}
use Rattle.gptp_bmca_machine.specs.Frame.{Announce, AnnounceFrame, Lane, Send, Spelling}
use Rattle.gptp_bmca_machine.specs.Levels.{Invariant, LeadsFarther}
use Rattle.gptp_bmca_machine.specs.Link.{HearsSettled}
use Rattle.gptp_bmca_machine.specs.LinkStage.{AllFinal, FinalAnnounceStays, FrameSaysAnnounce, Wiring}
use Rattle.gptp_bmca_machine.specs.LossLaws.{IsAfterLoss}
use Rattle.gptp_bmca_machine.specs.Network.{IsSettlingNetwork, Network, settled_from}
use Rattle.gptp_bmca_machine.specs.Reacts.{AnnouncesNow, IsOwn, KeepsHeld, PortStep}
use Rattle.gptp_bmca_machine.specs.RestLaws.{SameWiring}
use Rattle.gptp_bmca_machine.specs.SoundEverywhere.{IsSoundEverywhere}
use Rattle.gptp_bmca_machine.specs.SoundLaws.{AllAreNear}
use Rattle.gptp_bmca_machine.specs.Station.{Disabled, HoldsAt, MachineState, Mine, Port, Reception, Station}
use Rattle.gptp_bmca_machine.specs.Touch.{IsUsable, StationTouch}
use Rattle.gptp_bmca_machine.proofs.PlaceLemmas.{same_there}
use Rattle.gptp_bmca_machine.proofs.RestingLemmas.{all_choose, by_then_at, links_stay, stays_so}
use Rattle.gptp_bmca_machine.proofs.StillLemmas.{port_there, still, still_stays}
use Rattle.gptp_settling_time.proofs.OldLemmas.{HoldsOld, OldAt, TurnTail}
use Rattle.gptp_settling_time.proofs.MovedLemmas.{EachTurns}
use Rattle.gptp_settling_time.proofs.TurnedLemmas.{AllFresh}
use Rattle.gptp_graph.proofs.BestLemmas.{IsBest-neighbour, IsBest-unique}
use Rattle.gptp_graph.proofs.PathBoundLemmas.{IsDistance-within}
use Rattle.gptp_bmca_machine.proofs.RestLemmas.{is_master}
use Rattle.gptp_bmca_machine.proofs.EndsLemmas.{clear_at}
use Rattle.std.proofs.lemmas.List.{length-append}
use Rattle.gptp_settling_time.proofs.BesideLemmas.{IsDark, IsFresh, IsMoving, above, neighbour_at, hears_old, late, on_x, on_y}
use Rattle.gptp_settling_time.proofs.RestNamesLemmas.{HeldDown, held_down, whole_names}
use Rattle.gptp_settling_time.proofs.TurnLemmas.{IsBeside, TurnsOne}
use Rattle.gptp_settling_time.proofs.EndAnswersLemmas.{EndAnswers, at_place, held_before, known_x, port_stood, received'}
use Rattle.gptp_settling_time.proofs.TurnsAwayLemmas.{moved_x, moving'}

-- ---- what is told at once is behind what was told before

tail_of_news : (says : Spelling) (k : Wiring) (from : PortIdentity) (e : ℕ) (best : System) (last : ℕ)
    (news : List AnnounceFrame) → AllFresh says from e best news
    → ((f : AnnounceFrame) (a : Announce) → In f news → says f.octets a → IsUsable k.hearer a)
    → (h : AnnounceFrame) → In h news → h.due ≤ last → FrameSaysAnnounce says h
    → TurnTail says k from e best last news
tail_of_news says k from e best last [] fresh usable h among due said = absurd among
tail_of_news says k from e best last (f ∷ fs) fresh usable h (inl same) due said =
    inl (
      subst (λ (v : AnnounceFrame). v.due ≤ last) same due,
      subst (FrameSaysAnnounce says) same said,
      (λ a is. usable f a (inl refl) is),
      fresh,
    )
tail_of_news says k from e best last (f ∷ fs) fresh usable h (inr among) due said =
    inr (
      (λ a is. inr (usable f a (inl refl) is, fresh)),
      tail_of_news says k from e best last fs (λ v a behind is. fresh v a (inr behind) is)
          (λ v a behind is. usable v a (inr behind) is) h among due said,
    )

tail_behind : (says : Spelling) (k : Wiring) (from : PortIdentity) (e : ℕ) (best : System) (last : ℕ)
    (fs news : List AnnounceFrame) → AllFinal says k fs → TurnTail says k from e best last news
    → TurnTail says k from e best last (fs ++ news)
tail_behind says k from e best last [] news final tail = tail
tail_behind says k from e best last (f ∷ fs) news final tail =
    inr (
      (λ a said. inl (final f a (inl refl) said)),
      tail_behind says k from e best last fs news (λ v a among is. final v a (inr among) is) tail,
    )

module _ (says : Spelling) (n0 n : Network) (x d e : ℕ) (best : System) (t : TurnsOne n0.graph n x d e best)
    (net0 : IsSettlingNetwork n0) (w : MachineState) (calm0 : Calm n0 w) (invariant0 : Invariant says n0 w)
    (late0 : settled_from n0 ≤ w.time) (near0 : AllAreNear n0.graph) (sound0 : IsSoundEverywhere says n0.graph w)
    (same : SameWiring n0 n) (w' : MachineState) (touch : StationTouch) (other : ℕ)
    (a : EndAnswers says n x touch other w w')
    (kept' : IsAfterLoss n w') (dark' : IsDark n w') where
  abbrev g : Snapshot
  g = n0.graph

  live' : a.s'.live ≡ true
  live' = a.reacts.live ∙ a.live

  named' : a.s'.clock ≡ x
  named' = a.reacts.clock ∙ a.named

  fits_then : (i : ℕ) (m : Station) (place : ℕ) (r : Reception) → slice_get w'.stations i ≡ Some m → m.live ≡ true
      → HoldsAt m place r → CameFits g m.clock (suc place) r
  fits_then = received' says n0 n x t.well t.left (moved_x says n0 n x d e best t) net0 w calm0 invariant0 late0
      sound0 same w' touch other a
      kept'

  moving_now : IsMoving says g n x e best w'
  moving_now = moving' says n0 n x d e best t net0 w calm0 invariant0 late0 near0 sound0 same w' touch other a kept'
      dark'

  placed : (c : ℕ) (s : Station) → slice_get w.stations (n.place c) ≡ Some s
      → slice_get w.stations (n0.place c) ≡ Some s
  placed = at_place says n0 n x t.well t.left (moved_x says n0 n x d e best t) net0 w calm0 invariant0 late0 sound0
      same w' touch other a
      kept'

  -- ---- what the system tells now

  known : In x (clocks n.graph)
  known =
      subst (λ c. In c (clocks n.graph)) named'
      (known_x says n0 n x t.well t.left (moved_x says n0 n x d e best t) net0 w calm0 invariant0 late0 sound0 same
      w' touch other a
      kept')

  close : e < 255
  close =
      let (f, there, less) = t.near x known in
      let one = IsDistance-unique n.graph x e f t.well t.is there in
      omega (arith, one, less)

  -- what it holds came from who was nearer
  came : (place : ℕ) (r : Reception) → HoldsAt a.s' place r → HeldDown g x place r d
  came place r holds =
      let o = held_before says n0 n x t.well t.left (moved_x says n0 n x d e best t) net0 w calm0 invariant0 late0
      sound0 same w' touch other a
      kept'
      (n.place x) a.s' place r a.there live' holds in
      let clock = o.clock ∙ named' in
      subst (λ c. HeldDown g c place r d) clock
      (held_down says n0 n x d e best t net0 w calm0 invariant0 late0 near0 o.i o.old place r d o.at o.live o.holds
      (sound0.stations o.i o.old o.at o.live place r o.holds)
      (subst (λ c. IsDistance g c d) (sym clock) t.was))

  -- a neighbour that heard it can use what it tells
  module _ (y : ℕ) (neighbour : IsBeside g n x d e best y)
      (heard : (d < neighbour.far) ⊎ ((d ≡ neighbour.far) × (x < y))) (c : Announce) (port : ℕ)
      (own : IsOwn a.s' port c) where
    foreign : c.source.clock ≢ y
    foreign is = neighbour.apart (sym is ∙ ap (λ (k : PortIdentity). k.clock) own.source ∙ named')

    module _ (followed : FollowsPort a.s') where
      h : HeldDown g x followed.place followed.r d
      h = came followed.place followed.r followed.holds

      best_u : IsBest g h.from.clock best
      best_u =
          IsBest-neighbour g x h.from.clock best net0.graph
          (suc followed.place, h.from.port, Joins-sym g h.from (port_of x (suc followed.place)) h.joins) t.was_best

      root : followed.r.said.root ≡ best.identity
      root =
          h.root ∙ ap (λ (b : System). b.identity)
          (IsBest-unique g h.from.clock h.from_far.best best net0.graph h.from_far.is_best best_u)

      least : d ≤ neighbour.far
      least = elim heard [ inl less ↦ omega (arith, less) | inr (equal, lower) ↦ omega (arith, equal) ]

      few : h.far ≤ d
      few = elim h.down [ inl less ↦ omega (arith, less) | inr (equal, lower) ↦ omega (arith, equal) ]

      not_named : In y followed.r.said.path → ⊥
      not_named names = elim (ℕ_discrete h.from.clock y) [
        | yes is_y ↦
            let equal = IsDistance-unique g y h.far neighbour.far net0.graph
            (subst (λ c. IsDistance g c h.far) is_y h.from_far) neighbour.there in
            elim h.down [
              | inl less ↦ absurd (let most = least in omega (arith, less, equal, most))
              | inr (as_far, lower) ↦ elim heard [
                | inl more ↦ absurd (omega (arith, more, as_far, equal))
                | inr (also, above_y) ↦ absurd (omega (arith, lower, above_y, is_y))
              ]
            ]
        | no apart ↦ by apart h.sound
      ]
        where
          by : h.from.clock ≢ y → IsWorse g h.from.clock followed.r.said ⊎ Whole g h.from.clock followed.r.said → ⊥
          by apart (inl worse) = let more = worse best best_u in let is_root = root in omega (arith, more, is_root)
          by apart (inr whole) =
              let (many, only) = whole_names g net0.graph y neighbour.far best neighbour.there neighbour.is_best
              h.from.clock followed.r.said
              whole root best_u names apart in
              let steps = h.steps in
              let most = least in
              let less = few in
              omega (arith, many, steps, most, less)

      usable_port : IsUsable y c
      usable_port = record {
        foreign = foreign;
        near =
            let steps = own.steps in
            let more = followed.steps in
            let sent = h.steps in
            let less = few in
            let turned = t.more in
            let near_e = close in
            omega (arith, steps, more, sent, less, turned, near_e);
        no_loop = λ names. elim (In-parts y followed.r.said.path (a.s'.clock ∷ [])
            (subst (In y) (own.path ∙ followed.trace) names)) [
              | inl among ↦ not_named among
              | inr (inl is) ↦ neighbour.apart (is ∙ named')
              | inr (inr none) ↦ none
            ];
        short = subst (λ (xs : List ℕ). length xs ≤ 255) (sym (own.path ∙ followed.trace))
            (let was = subst (λ c. IsBest g c best) (sym named') t.was_best in
            let path : length followed.r.said.path ≡ suc followed.r.said.steps =
            (fits_then (n.place x) a.s' followed.place followed.r a.there live' followed.holds).fits.long best was root
            in
            let sent = h.steps in
            let less = few in
            let turned = t.more in
            let near_e = close in
            omega (arith, path, sent, less, turned, near_e, length-append followed.r.said.path (a.s'.clock ∷ [])));
      }

    usable : FollowsItself a.s' ⊎ FollowsPort a.s' → IsUsable y c
    usable (inr followed) = usable_port followed
    usable (inl itself) = record {
      foreign = foreign;
      near = let steps = own.steps in let none = itself.steps in omega (arith, steps, none);
      no_loop = λ names. elim (subst (In y) (own.path ∙ itself.trace) names)
          [ inl is ↦ neighbour.apart (is ∙ named') | inr none ↦ none ];
      short = subst (λ (xs : List ℕ). length xs ≤ 255) (sym (own.path ∙ itself.trace)) (omega arith);
    }

  -- it is fresh
  told_fresh : (p : ℕ) (c : Announce) → IsOwn a.s' (suc p) c → IsFresh (port_of x (suc p)) e best c
  told_fresh p c own = record {
    source = own.source ∙ ap (λ k. port_of k (suc p)) named';
    above = subst (λ r. best.identity ≤ r) (sym own.root)
        (above says g n x d e best t w' moving_now (n.place x) a.s' a.there live' named');
    late = λ root.
        let many = late says g n x d e best t w' moving_now (n.place x) a.s' a.there live' named'
        (sym own.root ∙ root) in
        let steps = own.steps in
        omega (arith, many, steps);
  }

  -- ---- a neighbour that heard it

  module _ (p y q : ℕ) (joins : Joins n.graph (port_of x (suc p)) (port_of y (suc q)))
      (heard : (d < (neighbour_at says g n x d e best t p y q joins).far)
      ⊎ ((d ≡ (neighbour_at says g n x d e best t p y q joins).far) × (x < y))) where
    abbrev neighbour : IsBeside g n x d e best y
    neighbour = neighbour_at says g n x d e best t p y q joins

    abbrev k : Wiring
    k = still n d best x p y q

    abbrev from : PortIdentity
    from = port_of x (suc p)

    close_x : d < 255
    close_x = let more = t.more in let near_e = close in omega (arith, more, near_e)

    joins0 : Joins g from (port_of y (suc q))
    joins0 = t.left.links from (port_of y (suc q)) joins

    -- the port of the system
    record Tells : Type 0 where
      old : Port
      port : Port
      there : slice_get a.s.ports p ≡ Some old
      there' : slice_get a.s'.ports p ≡ Some port
      answer : PortStep says a.s.clock (suc p) w.time touch a.s'.root a.s'.steps old port a.sends

    tells : Tells
    tells = by (port_there g n t.well t.left w' kept' fits_then x p (port_of y (suc q)) a.s' a.there joins)
      where
        by : ((port : Port) × (slice_get a.s'.ports p ≡ Some port)) → Tells
        by (port, there') =
            let (old, there, answer) = a.reacts.ports p port there' in
            record { old = old; port = port; there = there; there' = there'; answer = answer }

    module _ (z : Tells) where
      lit : z.answer.mid ≢ Disabled
      lit off = elim z.answer.after [
        | inl (kept, is_kept) ↦
            on_x says g n x d e best t p y q joins w' moving_now a.s' z.port a.there z.there' (kept ∙ off)
        | inr becomes ↦ becomes.on off
      ]

      mid_is : z.answer.mid ≡ z.old.held
      mid_is =
          elim (a.only.spares a.s.clock (suc p) w.time z.old.held z.answer.mid z.answer.before) [
            | inl off ↦ absurd (lit off)
            | inr is ↦ is
          ]

      -- it was master
      mine : z.old.held ≡ Mine best.identity d
      mine =
          let within = IsDistance-within g n0.reach x d net0.paths t.was in
          let chosen = all_choose says n0 net0 w calm0 invariant0 late0 d close_x
          (by_then_at says n0 net0 w calm0 invariant0 late0 d within) x best a.s (placed x a.s a.here) t.was_best
          t.was
          in
          is_master g net0.graph a.s
          (clear_at n0 net0 w calm0 invariant0.sound (n.place x) a.s a.here a.live (omega (arith, late0))) best
          (subst (λ c. IsBest g c best) (sym a.named) t.was_best) d neighbour.far p z.old (port_of y (suc q)) chosen
          z.there
          (λ off. lit (mid_is ∙ off))
          (subst (λ c. Joins g (port_of c (suc p)) (port_of y (suc q))) (sym a.named) joins0)
          neighbour.there (subst (λ c. (d < neighbour.far) ⊎ ((d ≡ neighbour.far) × (c < y))) (sym a.named) heard)

      -- so it announces at once
      announces : AnnouncesNow says (suc p) w.time z.old z.port a.sends
      announces = elim z.answer.after [
        | inl (kept, is_kept) ↦ absurd (subst KeepsHeld (mid_is ∙ mine) is_kept)
        | inr becomes ↦ elim becomes.timing [
          | inr now ↦ now
          | inl (as_was, timer) ↦ absurd (stayed (sym as_was ∙ mid_is ∙ mine))
        ]
      ]
        where
          stayed : Mine a.s'.root a.s'.steps ≡ Mine best.identity d → ⊥
          stayed is =
              let root : a.s'.root ≡ best.identity = cc in
              let steps : a.s'.steps ≡ d = cc in
              let many = late says g n x d e best t w' moving_now (n.place x) a.s' a.there live' named' root in
              let more = t.more in
              omega (arith, many, steps, more)

      timer : w.time ≤ z.old.announce
      timer = (((calm0.stations (n.place x) a.s a.here a.live).ports p z.old z.there).timer best.identity d mine).0

    module _ (s : Station) (pu : Port) (l : Lane) (at : slice_get w'.stations (n.place y) ≡ Some s)
        (there : slice_get s.ports q ≡ Some pu) (at_l : slice_get w'.lanes (n.lane from) ≡ Some l) where
      on : pu.held ≢ Disabled
      on = on_y says g n x d e best t p y q joins w' moving_now s pu at there

      hears_y : HearsSettled k pu
      hears_y = hears_old says g n x d e best t p y q joins w' moving_now heard s pu at there

      has : HasLane n w' from (port_of y (suc q))
      has = kept'.calm.lanes from (port_of y (suc q)) joins

      one : has.lane ≡ l
      one = same_there w'.lanes (n.lane from) has.lane l has.there at_l

      leads : LeadsFarther g d best x p y q
      leads = record {
        is_best = t.was_best;
        here = t.was;
        joins = joins0;
        far = neighbour.far;
        there = neighbour.there;
        farther = heard;
      }

      module _ (z : Tells) (old_s : Station) (old_at : slice_get w.stations (n.place y) ≡ Some old_s)
          (old_there : slice_get old_s.ports q ≡ Some pu) (old_l : Lane)
          (old_lane : slice_get w.lanes (n.lane from) ≡ Some old_l) (step : LaneStep x a.sends old_l l) where
        stays : FinalAnnounceStays says k z.old.announce pu.held old_l.frames
        stays =
            still_stays says n d best x p y q z.old.announce pu.held old_l.frames
            (stays_so says n0 n same d best best x p y q refl z.old.announce pu.held old_l.frames
            (links_stay says n0 net0 w calm0 invariant0 late0 d best x p y q close_x leads z.old pu old_l (record {
              v = a.s;
              u = old_s;
              teller = placed x a.s a.here;
              teller_port = z.there;
              hearer = placed y old_s old_at;
              hearer_port = old_there;
              lane = subst (λ i. slice_get w.lanes i ≡ Some old_l) (same.lane from) old_lane;
            })))

        from_is : old_l.from ≡ from
        from_is = sym step.from ∙ ap (λ (v : Lane). v.from) (sym one) ∙ has.from

        -- what enters is the system's own
        news_own : (f : AnnounceFrame) (c : Announce) → In f step.news → says f.octets c → IsOwn a.s' (suc p) c
        news_own f c among said =
            let (v, sent, over, octets) = step.sent f among in
            let (own, master) = a.reacts.tells v c sent (subst (λ o. says o c) octets said) in
            let port : v.port ≡ suc p = ap (λ (i : PortIdentity). i.port) (sym over ∙ from_is) in
            subst (λ i. IsOwn a.s' i c) port own

        follows : FollowsItself a.s' ⊎ FollowsPort a.s'
        follows = (kept'.calm.facts.stations (n.place x) a.s' a.there live').follows

        fresh : AllFresh says from e best step.news
        fresh f c among said = told_fresh p c (news_own f c among said)

        can_use : (f : AnnounceFrame) (c : Announce) → In f step.news → says f.octets c → IsUsable y c
        can_use f c among said = usable y neighbour heard c (suc p) (news_own f c among said) follows

        -- something enters, and is due in time
        record Enters : Type 0 where
          f : AnnounceFrame
          among : In f step.news
          said : FrameSaysAnnounce says f
          due : f.due ≤ w.time + n.most

        enters : Enters
        enters = by_sent (announces z).sent
          where
            quiet : old_l.loss ≡ 0
            quiet = sym step.loss ∙ ap (λ (v : Lane). v.loss) (sym one) ∙ has.loss

            up : old_l.is_up ≡ true
            up = sym step.is_up ∙ ap (λ (v : Lane). v.is_up) (sym one) ∙ has.is_up

            by_sent : ((v : Send) × In v a.sends × (v.port ≡ suc p) × ((c : Announce) × says v.octets c)) → Enters
            by_sent (v, sent, port, (c, said)) =
                let over : old_l.from ≡ port_of x v.port = from_is ∙ (λ i. port_of x (sym port i)) in
                let (f, among, octets) = step.arrives quiet up v sent over in
                record {
                  f = f;
                  among = among;
                  said = (c, subst (λ o. says o c) (sym octets) said);
                  due = soon f (subst (In f) (sym step.behind) (In-right f old_l.frames step.news among));
                }
              where
                soon : (f : AnnounceFrame) → In f l.frames → f.due ≤ w.time + n.most
                soon f among =
                    let time = a.time in
                    let begun = kept'.begun in
                    elim (kept'.calm.facts.fresh (n.lane from) l f at_l among
                    (subst (λ v. Joins n.graph v l.to) (sym (ap (λ (v : Lane). v.from) (sym one) ∙ has.from))
                    (subst (Joins n.graph from) (sym (ap (λ (v : Lane). v.to) (sym one) ∙ has.to)) joins))) [
                      | inl is ↦ omega (arith, is, time)
                      | inr early ↦ omega (arith, early, begun, time)
                    ]

        holds_old : HoldsOld says k from e best (w.time + n.most) pu.held l.frames
        holds_old = record {
          r = stays.what;
          holds = stays.holds;
          final = stays.final;
          young = elim stays.next [
            | inl soon ↦
                let now = timer z in
                let long = hears_y.long stays.what stays.holds stays.final.log in
                inl (omega (arith, soon, now, long))
            | inr (f, among, said, due) ↦
                inr (f, subst (In f) (sym step.behind) (In-left f old_l.frames step.news among), said, due)
          ];
          tail = subst (TurnTail says k from e best (w.time + n.most)) (sym step.behind)
              (tail_behind says k from e best (w.time + n.most) old_l.frames step.news stays.flight
              (tail_of_news says k from e best (w.time + n.most) step.news fresh can_use enters.f enters.among
              enters.due enters.said));
        }

      by_port : Tells → ((old : Station) × (slice_get w.stations (n.place y) ≡ Some old)
          × (slice_get old.ports q ≡ Some pu))
          → ((v : Lane) × (slice_get w.lanes (n.lane from) ≡ Some v) × LaneStep x a.sends v l)
          ⊎ ((l.frames ≡ []) × (l.is_up ≡ false))
          → HoldsOld says k from e best (w.time + n.most) pu.held l.frames
      by_port z (old_s, old_at, old_there) (inr (none, off)) =
          absurd (let both : true ≡ false =
          sym (ap (λ (v : Lane). v.is_up) (sym one) ∙ has.is_up) ∙ off in cc)
      by_port z (old_s, old_at, old_there) (inl (old_l, old_lane, step)) =
          holds_old z old_s old_at old_there old_l old_lane step

    -- it holds what it held, and what the system tells now is behind what it told before
    pub old' : (turned : ℕ) → OldAt says g n x d e best t p y q joins heard (w.time + n.most) turned w'
    old' turned s pu l at there at_l =
        by_port s pu l at there at_l tells
        (port_stood says n0 n x t.well t.left (moved_x says n0 n x d e best t) net0 w calm0 invariant0 late0 sound0
        same w' touch other a
        kept' y q
        s pu neighbour.apart neighbour.known at there (on s pu l at there at_l))
        (a.lanes (n.lane from) l at_l)

  -- so each that heard it is to turn away
  pub each_begins : (before : ℕ → ℕ) → EachTurns says g n x d e best t (w.time + n.most) before w'
  each_begins before p y q joins heard =
      inl (old' p y q joins heard (before (neighbour_at says g n x d e best t p y q joins).far))
