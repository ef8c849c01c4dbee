-- A neighbour of the system that is moved holds what that told before, until it hears what it tells since. Then it
-- turns away, and tells at once. Every step keeps that it is at one of both.
use Rattle.std.proofs.Common.{◌≡◌, ◌⊎◌, ◌<◌, ◌≤◌, ◌+◌, ◌++◌, ℕ, suc, true, List, [], ◌∷◌, Some, None, length, slice_get, refl, sym, ap, subst, ◌∙◌, inl, inr, arith}
use native.Mathlib.Decide.{ℕ_discrete}
use Rattle.gptp_lists.specs.Members.{In}
use Rattle.gptp_lists.proofs.SystemSpecLemmas.{In-left, In-parts, In-right}
use Rattle.gptp_graph.specs.Order.{IsLower}
use Rattle.gptp_graph.specs.Snapshot.{Joins, PortIdentity, Snapshot, System, port_of}
use Rattle.gptp_bmca_machine.specs.Acts.{Arrives, Drops, LaneStep, MachineSteps, StationAnswers}
use Rattle.gptp_bmca_machine.specs.AtRest.{ChoosesItself, ChoosesPort, StationIsAtRest}
use Rattle.gptp_bmca_machine.specs.Frame.{Announce, AnnounceFrame, Lane, Send, Spelling}
use Rattle.gptp_bmca_machine.specs.Link.{HearsSettled, LinkSettles}
use Rattle.gptp_bmca_machine.specs.LinkStage.{AllFinal, FrameSaysAnnounce, IsFinal, LinkStage, Wiring}
use Rattle.gptp_bmca_machine.specs.Network.{Network}
use Rattle.gptp_bmca_machine.specs.Reacts.{PortStep}
use Rattle.gptp_bmca_machine.specs.Station.{Held, HoldsAt, MachineState, Mine, Port, Received, Reception, Station}
use Rattle.gptp_bmca_machine.specs.Touch.{Grow, Hear, HeldInTouch, IsUsable, Replaces, StationTouch}
use Rattle.gptp_bmca_machine.specs.Vectors.{master, message}
use Rattle.gptp_bmca_machine.proofs.HearingLemmas.{final_kept, final_taken, mid_on, mid_stays}
use Rattle.gptp_bmca_machine.proofs.LinkLemmas.{is_hear}
use Rattle.gptp_bmca_machine.proofs.LinkStageLemmas.{begins}
use Rattle.gptp_bmca_machine.proofs.PlaceLemmas.{same_holds, same_place, same_there}
use Rattle.gptp_bmca_machine.proofs.RestLemmas.{Chooses}
use Rattle.gptp_settling_time.proofs.BesideLemmas.{IsFresh, IsMoving, neighbour_at, chooses_y, fresh_worse, hears_old, here_y, on_y, tells_new, towards}
use Rattle.gptp_bmca_machine.proofs.StillLemmas.{port_there, station_of, still}
use Rattle.gptp_settling_time.proofs.TurnLemmas.{IsBeside, TurnsOne}
use Rattle.gptp_settling_time.proofs.TurnedLemmas.{AllFresh, HasTurned, PortThen, ends_new, heard_over, joins_back, news_fresh, port_then, turned_kept}

-- The frames are what was told before, until one from which on all Announces are fresh, and which the hearer can use if
-- it says one; and one such that is due by a time says one.
abbrev pub TurnTail : Spelling → Wiring → PortIdentity → ℕ → System → ℕ → List AnnounceFrame → Type 0
TurnTail says k from e best last [] = ⊥
TurnTail says k from e best last (f ∷ fs) =
    ((f.due ≤ last) × FrameSaysAnnounce says f × ((a : Announce) → says f.octets a → IsUsable k.hearer a)
    × AllFresh says from e best (f ∷ fs))
    ⊎ (((a : Announce) → says f.octets a
    → IsFinal k a ⊎ (IsUsable k.hearer a × AllFresh says from e best (f ∷ fs)))
    × TurnTail says k from e best last fs)

fresh_more : (says : Spelling) (from : PortIdentity) (e : ℕ) (best : System) (fs news : List AnnounceFrame)
    → AllFresh says from e best fs → AllFresh says from e best news → AllFresh says from e best (fs ++ news)
fresh_more says from e best fs news old new h a at is = elim (In-parts h fs news at) [
  | inl among ↦ old h a among is
  | inr late ↦ new h a late is
]

-- fresh frames may enter behind it
tail_more : (says : Spelling) (k : Wiring) (from : PortIdentity) (e : ℕ) (best : System) (last : ℕ)
    (fs news : List AnnounceFrame) → AllFresh says from e best news → TurnTail says k from e best last fs
    → TurnTail says k from e best last (fs ++ news)
tail_more says k from e best last [] news new tail = absurd tail
tail_more says k from e best last (f ∷ fs) news new (inl (due, said, usable, fresh)) =
    inl (due, said, usable, fresh_more says from e best (f ∷ fs) news fresh new)
tail_more says k from e best last (f ∷ fs) news new (inr (old, tail)) =
    inr (
      (λ a said. elim (old a said) [
        | inl final ↦ inl final
        | inr (usable, fresh) ↦ inr (usable, fresh_more says from e best (f ∷ fs) news fresh new)
      ]),
      tail_more says k from e best last fs news new tail,
    )

-- one of its frames is due by then
tail_due : (says : Spelling) (k : Wiring) (from : PortIdentity) (e : ℕ) (best : System) (last : ℕ)
    (fs : List AnnounceFrame) → TurnTail says k from e best last fs → (f : AnnounceFrame) × In f fs × (f.due ≤ last)
tail_due says k from e best last [] tail = absurd tail
tail_due says k from e best last (f ∷ fs) (inl (due, said, usable, fresh)) = (f, inl refl, due)
tail_due says k from e best last (f ∷ fs) (inr (old, tail)) =
    let (h, at, due) = tail_due says k from e best last fs tail in (h, inr at, due)

-- the port holds what was told before, which doesn't age by that time or is told once more, and so are the frames
pub record HoldsOld (says : Spelling) (k : Wiring) (from : PortIdentity) (e : ℕ) (best : System) (last : ℕ)
    (held : Held) (fs : List AnnounceFrame) : Type 0 where
  pub r : Reception
  pub holds : held ≡ Received r
  pub final : IsFinal k r.said
  pub young : (last < r.at + r.span)
      ⊎ ((f : AnnounceFrame) × In f fs × FrameSaysAnnounce says f × (f.due < r.at + r.span))
  pub tail : TurnTail says k from e best last fs

module _ (says : Spelling) (g : Snapshot) (n : Network) (x d e : ℕ) (best : System) (t : TurnsOne g n x d e best)
    (p y q : ℕ) (joins : Joins n.graph (port_of x (suc p)) (port_of y (suc q)))
    (heard : (d < (neighbour_at says g n x d e best t p y q joins).far)
    ⊎ ((d ≡ (neighbour_at says g n x d e best t p y q joins).far) × (x < y))) (last before : ℕ) where
  abbrev neighbour : IsBeside g n x d e best y
  neighbour = neighbour_at says g n x d e best t p y q joins

  abbrev k : Wiring
  k = still n d best x p y q

  abbrev from : PortIdentity
  from = port_of x (suc p)

  abbrev lane : ℕ
  lane = n.lane (port_of x (suc p))

  abbrev Old : Held → List AnnounceFrame → Type 0
  Old held fs = HoldsOld says k from e best last held fs

  -- so it is in a state
  abbrev pub OldAt : MachineState → Type 0
  OldAt w = (s : Station) (pu : Port) (l : Lane) → slice_get w.stations (n.place y) ≡ Some s
      → slice_get s.ports q ≡ Some pu → slice_get w.lanes lane ≡ Some l → Old pu.held l.frames

  -- the neighbour is at one of both
  abbrev pub Turning : MachineState → Type 0
  Turning w = OldAt w ⊎ HasTurned says g n x d e best t p y q joins before w

  -- it has turned once that time is over
  pub turned_then : (w : MachineState) → IsMoving says g n x e best w → last < w.time → Turning w
      → HasTurned says g n x d e best t p y q joins before w
  turned_then w m over (inr is) = is
  turned_then w m over (inl old) =
      let (s, at, live, clock) = station_of g n t.well t.left w m.kept m.fits.stations y neighbour.known in
      let (pu, there) = port_there g n t.well t.left w m.kept m.fits.stations y q from s at
      (joins_back says g n x d e best t p y q joins) in
      let has = m.kept.calm.lanes from (port_of y (suc q)) joins in
      let is = old s pu has.lane at there has.there in
      let (f, among, due) = tail_due says k from e best last has.lane.frames is.tail in
      let left = m.kept.calm.left lane has.lane f has.there among in
      absurd (omega (arith, over, due, left))

  module _ (in_time : n.most ≤ before) (room : last + n.most < before) (w w' : MachineState)
      (m : IsMoving says g n x e best w) (m' : IsMoving says g n x e best w') (begun : last ≤ w.time + n.most) where
    -- ---- what is held stays

    -- where the port doesn't hear anything in the answer
    module _ (touch : StationTouch) (mid : MachineState) (call : StationAnswers says touch mid w')
        (stood : (i : ℕ) (s : Station) → slice_get mid.stations i ≡ Some s → slice_get w.stations i ≡ Some s) where
      module _ (was : (s : Station) (pu : Port) (l : Lane) → slice_get w.stations (n.place y) ≡ Some s
          → slice_get s.ports q ≡ Some pu → slice_get mid.lanes lane ≡ Some l
          → (l.from ≡ from) × Old pu.held l.frames)
          (deaf : (a : Announce) → n.place y ≡ call.place → touch ≡ Hear (suc q) a → ⊥)
          (ages : (s : Station) (pu : Port) (l : Lane) (o : Old pu.held l.frames) → n.place y ≡ call.place
          → slice_get w.stations (n.place y) ≡ Some s → slice_get s.ports q ≡ Some pu
          → slice_get mid.lanes lane ≡ Some l → touch ≡ Grow (suc q) → ⊥) where
        deaf_old : OldAt w'
        deaf_old s' pu' l' at' there' lane' =
            by (port_then says g n x d e best t p y q joins touch mid w w' call m stood s' pu' at' there')
            (call.lanes lane l' lane')
          where
            hears' : HearsSettled k pu'
            hears' = hears_old says g n x d e best t p y q joins w' m' heard s' pu' at' there'

            by : PortThen says g n x d e best t p y q joins touch mid w w' call pu'
                → ((l : Lane) × (slice_get mid.lanes lane ≡ Some l) × LaneStep call.s.clock call.sends l l')
                → Old pu'.held l'.frames
            by then (l, at_l, step) =
                let (from_is, o) = was then.s then.pu l then.at then.there at_l in
                record {
                  r = o.r;
                  holds = held o;
                  final = o.final;
                  young = elim o.young [
                    | inl late ↦ inl late
                    | inr (f, among, said, due) ↦
                        inr (f, subst (In f) (sym step.behind) (In-left f l.frames step.news among), said, due)
                  ];
                  tail = subst (TurnTail says k from e best last) (sym step.behind)
                      (tail_more says k from e best last l.frames step.news
                      (news_fresh says g n x d e best t p y q joins touch mid w' call m' l l' from_is step) o.tail);
                }
              where
                held : (o : Old then.pu.held l.frames) → pu'.held ≡ Received o.r
                held o = elim then.so [
                  | inl (other, same) ↦ ap (λ (z : Port). z.held) same ∙ o.holds
                  | inr (place, answer) ↦
                      let on' = on_y says g n x d e best t p y q joins w' m' s' pu' at' there' in
                      final_kept k says mid.time touch call.s'.root call.s'.steps then.pu pu' call.sends answer hears'
                      o.r o.final
                      (mid_stays y (suc q) mid.time touch then.pu.held answer.mid o.r (λ a. deaf a place)
                      (ages then.s then.pu l o place then.at then.there at_l)
                      (mid_on k says mid.time touch call.s'.root call.s'.steps then.pu pu' call.sends answer hears' on')
                      answer.before o.holds)
                ]

      -- or it hears what was told before
      module _ (a : Announce) (final : IsFinal k a) (touched : touch ≡ Hear (suc q) a) (place : n.place y ≡ call.place)
          (time : mid.time ≡ w.time) (rest : (l : Lane) → slice_get mid.lanes lane ≡ Some l
          → (l.from ≡ from) × TurnTail says k from e best last l.frames) where
        heard_old : OldAt w'
        heard_old s' pu' l' at' there' lane' =
            by (port_then says g n x d e best t p y q joins touch mid w w' call m stood s' pu' at' there')
            (call.lanes lane l' lane')
          where
            hears' : HearsSettled k pu'
            hears' = hears_old says g n x d e best t p y q joins w' m' heard s' pu' at' there'

            by : PortThen says g n x d e best t p y q joins touch mid w w' call pu'
                → ((l : Lane) × (slice_get mid.lanes lane ≡ Some l) × LaneStep call.s.clock call.sends l l')
                → Old pu'.held l'.frames
            by then (l, at_l, step) = elim then.so [
              | inl (other, same) ↦ absurd (other place)
              | inr (here, answer) ↦ taken answer (final_taken k mid.time a then.pu answer.mid final
                  (hears_old says g n x d e best t p y q joins w m heard then.s then.pu then.at then.there)
                  (subst (λ z. HeldInTouch y (suc q) z mid.time then.pu.held answer.mid) touched answer.before))
            ]
              where
                taken : (answer : PortStep says y (suc q) mid.time touch call.s'.root call.s'.steps then.pu pu'
                    call.sends)
                    → ((span : ℕ)
                    × (answer.mid ≡ Received (record { said = a; at = mid.time; span = span })))
                    → Old pu'.held l'.frames
                taken answer (span, mid_is) =
                    let r : Reception = record { said = a; at = mid.time; span = span } in
                    let holds = final_kept k says mid.time touch call.s'.root call.s'.steps then.pu pu' call.sends
                    answer hears' r final mid_is in
                    let long = hears'.long r holds final.log in
                    let (from_is, tail) = rest l at_l in
                    record {
                      r = r;
                      holds = holds;
                      final = final;
                      young = inl (omega (arith, long, begun, time));
                      tail = subst (TurnTail says k from e best last) (sym step.behind)
                          (tail_more says k from e best last l.frames step.news
                          (news_fresh says g n x d e best t p y q joins touch mid w' call m' l l' from_is step) tail);
                    }

      -- ---- it turns away

      -- or it hears what is told since
      module _ (a : Announce) (touched : touch ≡ Hear (suc q) a) (place : n.place y ≡ call.place)
          (time : mid.time ≡ w.time) (usable : IsUsable y a) (new : IsFresh from e best a) (soon : w.time ≤ last)
          (was : (s : Station) (pu : Port) → slice_get w.stations (n.place y) ≡ Some s
          → slice_get s.ports q ≡ Some pu → (r : Reception) × (pu.held ≡ Received r) × (r.said.source ≡ from))
          (rest : (l : Lane) → slice_get mid.lanes lane ≡ Some l
          → (l.from ≡ from) × AllFresh says from e best l.frames)
          (stood_back : (l : Lane) → slice_get mid.lanes (n.lane (port_of y (suc q))) ≡ Some l
          → slice_get w.lanes (n.lane (port_of y (suc q))) ≡ Some l) where
        module _ (s' : Station) (pu' : Port) (at' : slice_get w'.stations (n.place y) ≡ Some s')
            (there' : slice_get s'.ports q ≡ Some pu') where
          is_y : (s'.live ≡ true) × (s'.clock ≡ y)
          is_y = here_y says g n x d e best t p y q joins w' m' s' at'

          rest_y : StationIsAtRest s'
          rest_y = (m'.kept.calm.stations (n.place y) s' at' is_y.0).at_rest

          chosen : Chooses s' best neighbour.far
          chosen = chooses_y says g n x d e best t p y q joins w' m' s' at'

          -- it can't hold that
          not_received : (r : Reception) → r.said ≡ a → pu'.held ≡ Received r → ⊥
          not_received r is holds = elim (rest_y.passive q r (pu', there', holds)) [
            | inr not_lower ↦ not_lower
                (subst (λ c. IsLower (master s'.root s'.steps c (suc q)) (message r.said (suc q))) (sym is_y.1)
                (subst (λ z. IsLower (master s'.root s'.steps y (suc q)) (message z (suc q))) (sym is)
                (fresh_worse says g n x d e best t p y q joins w' m' s' at' a new s'.root s'.steps refl refl)))
            | inl slave ↦ by slave rest_y.chosen
          ]
            where
              by : s'.slave ≡ Some (suc q) → ChoosesItself s' rest_y.vector ⊎ ChoosesPort s' rest_y.vector → ⊥
              by slave (inl (own, none)) =
                  absurd (let both : Some (suc q) ≡ None = sym slave ∙ none in cc)
              by slave (inr (j, z, holds_z, path, slave_z)) =
                  let one : j ≡ q = same_place j q (sym slave_z ∙ slave) in
                  let same : z ≡ r =
                  same_holds s' q z r (subst (λ i. HoldsAt s' i z) one holds_z) (pu', there', holds) in
                  let said : z.said ≡ a = ap (λ (v : Reception). v.said) same ∙ is in
                  let vector = rest_y.is in
                  let root : z.said.root ≡ s'.root = cc in
                  let steps : suc z.said.steps ≡ s'.steps = cc in
                  let root_a : a.root ≡ best.identity =
                  ap (λ (v : Announce). v.root) (sym said) ∙ root ∙ chosen.root in
                  let steps_a : z.said.steps ≡ a.steps = ap (λ (v : Announce). v.steps) said in
                  let many = new.late root_a in
                  let is_steps = chosen.steps in
                  elim neighbour.nearer [
                    | inl less ↦ absurd (omega (arith, many, steps, steps_a, is_steps, less))
                    | inr (equal, lower) ↦ absurd (omega (arith, many, steps, steps_a, is_steps, equal))
                  ]

          -- so it becomes Master, and tells at once
          record TellsNow : Type 0 where
            mine : pu'.held ≡ Mine call.s'.root call.s'.steps
            sent : (z : Send) × In z call.sends × (z.port ≡ suc q) × ((c : Announce) × says z.octets c)

          tells_now : TellsNow
          tells_now = by (port_then says g n x d e best t p y q joins touch mid w w' call m stood s' pu' at' there')
            where
              by : PortThen says g n x d e best t p y q joins touch mid w w' call pu' → TellsNow
              by then = elim then.so [
                | inl (other, same) ↦ absurd (other place)
                | inr (here, answer) ↦ answered answer (was then.s then.pu then.at then.there)
                    (subst (λ z. HeldInTouch y (suc q) z mid.time then.pu.held answer.mid) touched answer.before)
              ]
                where
                  answered : (answer : PortStep says y (suc q) mid.time touch call.s'.root call.s'.steps then.pu pu'
                      call.sends)
                      → ((r : Reception) × (then.pu.held ≡ Received r) × (r.said.source ≡ from))
                      → HeldInTouch y (suc q) (Hear (suc q) a) mid.time then.pu.held answer.mid → TellsNow
                  answered answer (r, held, source) (inr (apart, same)) = absurd (apart refl)
                  answered answer (r, held, source) (inl (same, on, inr refuses)) =
                      absurd (refuses.fails usable
                      (subst (λ h. Replaces y (suc q) a h) (sym held) (inl (new.source ∙ sym source))))
                  answered answer (r, held, source) (inl (same, on, inl takes)) = elim answer.after [
                    | inl (kept, keeps) ↦
                        absurd (not_received (record { said = a; at = mid.time; span = takes.span }) refl
                        (kept ∙ takes.is))
                    | inr becomes ↦ record {
                      mine = becomes.mine;
                      sent = elim becomes.timing [
                        | inl (already, timer) ↦ absurd (
                            let both : Mine call.s'.root call.s'.steps
                            ≡ Received (record { said = a; at = mid.time; span = takes.span }) =
                            sym already ∙ takes.is in
                            cc)
                        | inr now ↦ now.sent
                      ];
                    }
                  ]

        mine_then : (s' : Station) (pu' : Port) → slice_get w'.stations (n.place y) ≡ Some s'
            → slice_get s'.ports q ≡ Some pu' → (root : ℕ) × (steps : ℕ) × (pu'.held ≡ Mine root steps)
        mine_then s' pu' at' there' = (call.s'.root, call.s'.steps, (tells_now s' pu' at' there').mine)

        -- what it tells then is final
        news_final : (s' : Station) (pu' : Port) → slice_get w'.stations (n.place y) ≡ Some s'
            → slice_get s'.ports q ≡ Some pu' → (l l' : Lane) → l.from ≡ port_of y (suc q)
            → (step : LaneStep call.s.clock call.sends l l')
            → AllFinal says (towards n before neighbour.far best y q x p) step.news
        news_final s' pu' at' there' l l' lane_from step f c among said =
            let (z, sent, sent_from, octets) = step.sent f among in
            let (own, master_at) = call.reacts.tells z c sent (subst (λ o. says o c) octets said) in
            let end : port_of y (suc q) ≡ port_of call.s.clock z.port = sym lane_from ∙ sent_from in
            let number : z.port ≡ suc q = ap (λ (v : PortIdentity). v.port) (sym end) in
            let clock : call.s'.clock ≡ y = call.reacts.clock ∙ ap (λ (v : PortIdentity). v.clock) (sym end) in
            let here' : slice_get w'.stations (n.place y) ≡ Some call.s' =
            subst (λ i. slice_get w'.stations i ≡ Some call.s') (sym place) call.there in
            let one : s' ≡ call.s' = same_there w'.stations (n.place y) s' call.s' at' here' in
            let port' : slice_get call.s'.ports q ≡ Some pu' =
            subst (λ (v : Station). slice_get v.ports q ≡ Some pu') one there' in
            let chosen' = chooses_y says g n x d e best t p y q joins w' m' call.s' here' in
            let (root, steps, mine) = mine_then s' pu' at' there' in
            let tells = tells_new says g n x d e best t p y q joins w' m' call.s' here' pu' port' root steps mine
            before in
            let teller = (ends_new says g n x d e best t p y q joins before in_time w' m' mine_then).teller call.s' pu'
            here' port' in
            let source : c.source ≡ port_of y (suc q) = own.source ∙ (λ i. port_of (clock i) (number i)) in
            record {
              root = own.root ∙ chosen'.root;
              steps = own.steps ∙ chosen'.steps;
              source = source;
              log = own.log q pu' number port' ∙ teller.log;
              qualified = record {
                foreign = λ same. neighbour.apart (ap (λ (v : PortIdentity). v.clock) (sym source) ∙ same);
                near = subst (λ v. v < 255) (sym (own.steps ∙ chosen'.steps)) tells.near;
                no_loop = λ names. tells.foreign (subst (In x) own.path names);
                short = subst (λ (v : List ℕ). length v ≤ 255) (sym own.path) tells.short;
              };
            }

        pub turns : HasTurned says g n x d e best t p y q joins before w'
        turns = record { mine = mine_then; fresh = fresh_then; link = link_then }
          where
            fresh_then : (l' : Lane) → slice_get w'.lanes lane ≡ Some l' → AllFresh says from e best l'.frames
            fresh_then l' at' f c among said =
                let (l, at_l, step) = call.lanes lane l' at' in
                let (from_is, old) = rest l at_l in
                elim (In-parts f l.frames step.news (subst (In f) step.behind among)) [
                  | inl before_it ↦ old f c before_it said
                  | inr late ↦ news_fresh says g n x d e best t p y q joins touch mid w' call m' l l' from_is step f c
                      late said
                ]

            link_then : LinkSettles says (towards n before neighbour.far best y q x p) w'
            link_then since pv pu l' stand ready =
                let now = tells_now stand.v pv stand.teller stand.teller_port in
                let (l, at_l, step) = call.lanes (n.lane (port_of y (suc q))) l' stand.lane in
                let has = m.kept.calm.lanes (port_of y (suc q)) from
                (joins_back says g n x d e best t p y q joins) in
                let one : l ≡ has.lane =
                same_there w.lanes (n.lane (port_of y (suc q))) l has.lane (stood_back l at_l) has.there in
                let lane_from : l.from ≡ port_of y (suc q) = ap (λ (v : Lane). v.from) one ∙ has.from in
                let (z, sent, number, (c, said)) = now.sent in
                let here = stood (n.place y) call.s
                (subst (λ i. slice_get mid.stations i ≡ Some call.s) (sym place) call.here) in
                let (live, clock) = here_y says g n x d e best t p y q joins w m call.s here in
                let (f, among, octets) = step.arrives (ap (λ (v : Lane). v.loss) one ∙ has.loss)
                (ap (λ (v : Lane). v.is_up) one ∙ has.is_up) z sent
                (lane_from ∙ (λ i. port_of (sym clock i) (sym number i))) in
                let ends = ends_new says g n x d e best t p y q joins before in_time w' m' mine_then in
                let frames = subst (In f) (sym step.behind) (In-right f l.frames step.news among) in
                let due = (ends.frames l' f stand.lane frames).due (omega arith) in
                let same = call.time in
                subst (LinkStage says (towards n before neighbour.far best y q x p) pv.announce pu.held)
                (sym step.behind)
                (begins says (towards n before neighbour.far best y q x p) pv.announce pu.held l.frames step.news f
                (news_final stand.v pv stand.teller stand.teller_port l l' lane_from step) among
                (c, subst (λ o. says o c) (sym octets) said) (omega (arith, due, same, time, soon, room)))

    -- ---- a step

    lane_from : (l : Lane) → slice_get w.lanes lane ≡ Some l → (l.from ≡ from) × (l.to ≡ port_of y (suc q))
    lane_from l at =
        let has = m.kept.calm.lanes from (port_of y (suc q)) joins in
        let one = same_there w.lanes lane l has.lane at has.there in
        (ap (λ (v : Lane). v.from) one ∙ has.from, ap (λ (v : Lane). v.to) one ∙ has.to)

    -- a frame that says no Announce is taken off the lane
    popped_old : (held : Held) (f : AnnounceFrame) (fs : List AnnounceFrame) → Old held (f ∷ fs)
        → (FrameSaysAnnounce says f → ⊥) → Old held fs
    popped_old held f fs o silent = record {
      r = o.r;
      holds = o.holds;
      final = o.final;
      young = elim o.young [
        | inl late ↦ inl late
        | inr (h, inl same, said, due) ↦ absurd (silent (subst (FrameSaysAnnounce says) same said))
        | inr (h, inr among, said, due) ↦ inr (h, among, said, due)
      ];
      tail = elim o.tail [
        | inl (due, said, usable, fresh) ↦ absurd (silent said)
        | inr (old, tail) ↦ tail
      ];
    }

    -- what is held doesn't age
    not_aged : (held : Held) (l : Lane) (o : Old held l.frames) → slice_get w.lanes lane ≡ Some l
        → o.r.at + o.r.span ≤ w.time → ⊥
    not_aged held l o at aged =
        let (f, among, due) = tail_due says k from e best last l.frames o.tail in
        let left = m.kept.calm.left lane l f at among in
        elim o.young [
          | inl late ↦ absurd (omega (arith, late, aged, due, left))
          | inr (h, there, said, soon) ↦
              let stays = m.kept.calm.left lane l h at there in absurd (omega (arith, stays, soon, aged))
        ]

    module _ (old : OldAt w) where
      -- a frame of the lane comes
      module _ (act : Arrives says w w') (same : lane ≡ act.j) where
        lane_at : slice_get w.lanes lane ≡ Some act.l
        lane_at = subst (λ i. slice_get w.lanes i ≡ Some act.l) (sym same) act.pops.here

        to_is : act.l.to ≡ port_of y (suc q)
        to_is = (lane_from act.l lane_at).1

        call_here : slice_get w.stations act.call.place ≡ Some act.call.s
        call_here = act.pops.stations act.call.place act.call.s act.call.here

        clock_is : act.call.s.clock ≡ y
        clock_is = act.owner ∙ ap (λ (v : PortIdentity). v.clock) to_is

        place : n.place y ≡ act.call.place
        place = sym (m.kept.calm.placed act.call.place act.call.s call_here ∙ ap n.place clock_is)

        call_at : slice_get w.stations (n.place y) ≡ Some act.call.s
        call_at = subst (λ i. slice_get w.stations i ≡ Some act.call.s) (sym place) call_here

        -- it is heard where it says an Announce
        hears : FrameSaysAnnounce says act.f → (c : Announce) × (act.touch ≡ Hear (suc q) c) × says act.f.octets c
        hears (a, said) =
            let (pu, there) = port_there g n t.well t.left w m.kept m.fits.stations y q from act.call.s call_at
            (joins_back says g n x d e best t p y q joins) in
            let number = ap (λ (v : PortIdentity). v.port) to_is in
            let (c, touched) = act.hears q pu a number there
            (on_y says g n x d e best t p y q joins w m act.call.s pu call_at there) said in
            (c, touched ∙ (λ i. Hear (number i) c), (act.heard act.l.to.port c touched).1)

        in_mid : (l : Lane) → slice_get act.mid.lanes lane ≡ Some l
            → (l.from ≡ from) × (l.frames ≡ act.fs)
        in_mid l at = elim (act.pops.lanes lane l at) [
          | inl (here, is) ↦ (
            ap (λ (v : Lane). v.from) is ∙ (lane_from act.l lane_at).0,
            ap (λ (v : Lane). v.frames) is,
          )
          | inr (apart, stood) ↦ absurd (apart same)
        ]

        stood_back : (l : Lane) → slice_get act.mid.lanes (n.lane (port_of y (suc q))) ≡ Some l
            → slice_get w.lanes (n.lane (port_of y (suc q))) ≡ Some l
        stood_back l at = elim (act.pops.lanes (n.lane (port_of y (suc q))) l at) [
          | inr (apart, stood) ↦ stood
          | inl (here, is) ↦
              let has = m.kept.calm.lanes (port_of y (suc q)) from (joins_back says g n x d e best t p y q joins) in
              let one = same_there w.lanes act.j has.lane act.l
              (subst (λ i. slice_get w.lanes i ≡ Some has.lane) here has.there) act.pops.here in
              let ends : port_of y (suc q) ≡ from = sym to_is ∙ ap (λ (v : Lane). v.to) (sym one) ∙ has.to in
              absurd (neighbour.apart (ap (λ (v : PortIdentity). v.clock) ends))
        ]

        was_old : (s : Station) (pu : Port) → slice_get w.stations (n.place y) ≡ Some s
            → slice_get s.ports q ≡ Some pu → Old pu.held (act.f ∷ act.fs)
        was_old s pu at there = subst (Old pu.held) act.pops.frames (old s pu act.l at there lane_at)

        came : Turning w'
        came = by (port_there g n t.well t.left w m.kept m.fits.stations y q from act.call.s call_at
            (joins_back says g n x d e best t p y q joins))
          where
            turned : (c : Announce) → act.touch ≡ Hear (suc q) c → IsUsable y c → w.time ≤ last
                → AllFresh says from e best (act.f ∷ act.fs) → says act.f.octets c
                → HasTurned says g n x d e best t p y q joins before w'
            turned c touched usable soon fresh says_c =
                turns act.touch act.mid act.call act.pops.stations c touched place act.pops.time usable
                (fresh act.f c (inl refl) says_c) soon
                (λ s pu at there.
                let o = was_old s pu at there in
                (o.r, o.holds, o.final.source))
                (λ l at. let (from_is, frames) = in_mid l at in (
                  from_is,
                  (λ h b among says_b. fresh h b (inr (subst (In h) frames among)) says_b),
                )) stood_back

            by_tail : TurnTail says k from e best last (act.f ∷ act.fs) → Turning w'
            by_tail (inl (due, said, usable, fresh)) =
                let (c, touched, says_c) = hears said in
                let now = act.pops.due in
                inr (turned c touched (usable c says_c) (omega (arith, due, now)) fresh says_c)
            by_tail (inr (finals, tail)) = elim (is_hear act.touch) [
              | inl (j, a, touched) ↦
                  let (number, said) = act.heard j a touched in
                  let port : j ≡ suc q = number ∙ ap (λ (v : PortIdentity). v.port) to_is in
                  let touches = touched ∙ (λ i. Hear (port i) a) in
                  elim (finals a said) [
                    | inl final ↦
                        inl (heard_old act.touch act.mid act.call act.pops.stations a final touches place act.pops.time
                        (λ l at. let (from_is, frames) = in_mid l at in
                        (from_is, subst (TurnTail says k from e best last) (sym frames) tail)))
                    | inr (usable, fresh) ↦
                        let (h, behind, due) = tail_due says k from e best last act.fs tail in
                        let left = m.kept.calm.left lane act.l h lane_at
                        (subst (In h) (sym act.pops.frames) (inr behind))
                        in
                        inr (turned a touches usable (omega (arith, due, left)) fresh said)
                  ]
              | inr deaf ↦ inl (deaf_old act.touch act.mid act.call act.pops.stations
                  (λ s pu l at there at_l. let (from_is, frames) = in_mid l at_l in (
                    from_is,
                    subst (Old pu.held) (sym frames)
                        (popped_old pu.held act.f act.fs (was_old s pu at there)
                        (λ said. let (c, touched, says_c) = hears said in deaf (suc q) c touched)),
                  )) (λ a here touched. deaf (suc q) a touched)
                  (λ s pu l o here at there at_l grown. act.young (suc q) grown))
            ]

            by : ((pu : Port) × (slice_get act.call.s.ports q ≡ Some pu)) → Turning w'
            by (pu, there) = by_tail (was_old act.call.s pu call_at there).tail

      dropped : (act : Drops says w w') → OldAt w'
      dropped act s pu l at there at_l = elim (act.pops.lanes lane l at_l) [
        | inr (apart, stood) ↦ old s pu l (act.pops.stations (n.place y) s at) there stood
        | inl (same, is) ↦
            let at_w = act.pops.stations (n.place y) s at in
            let lane_at = subst (λ i. slice_get w.lanes i ≡ Some act.l) (sym same) act.pops.here in
            let o = subst (Old pu.held) act.pops.frames (old s pu act.l at_w there lane_at) in
            subst (Old pu.held) (sym (ap (λ (v : Lane). v.frames) is))
            (popped_old pu.held act.f act.fs o (λ said. elim act.unheard [
              | inl silent ↦ silent said.0 said.1
              | inr dead ↦
                  let (live, clock) = here_y says g n x d e best t p y q joins w m s at_w in
                  let to_is = (lane_from act.l lane_at).1 in
                  dead (n.place y) s at_w (clock ∙ ap (λ (v : PortIdentity). v.clock) (sym to_is)) live
            ]))
      ]

      old_kept : MachineSteps says w w' → Turning w'
      old_kept (inl wait) =
          inl (λ s pu l at there at_l.
          old s pu l (subst (λ (z : MachineState). slice_get z.stations (n.place y) ≡ Some s) wait.is at) there
          (subst (λ (z : MachineState). slice_get z.lanes lane ≡ Some l) wait.is at_l))
      old_kept (inr (inl act)) = elim (ℕ_discrete lane act.j) [
        | yes same ↦ came act same
        | no other ↦ inl (deaf_old act.touch act.mid act.call act.pops.stations
            (λ s pu l at there at_l. elim (act.pops.lanes lane l at_l) [
              | inl (same, is) ↦ absurd (other same)
              | inr (apart, stood) ↦ ((lane_from l stood).0, old s pu l at there stood)
            ])
            (λ a place touched.
            other (heard_over says g n x d e best t p y q joins w w' act m a touched place).lane)
            (λ s pu l o place at there at_l grown. act.young (suc q) grown))
      ]
      old_kept (inr (inr (inl act))) = inl (dropped act)
      old_kept (inr (inr (inr act))) =
          inl (deaf_old act.touch w act.call (λ i s at. at)
          (λ s pu l at there at_l. ((lane_from l at_l).0, old s pu l at there at_l))
          (λ a place touched. act.deaf (suc q) a touched) ages)
        where
          ages : (s : Station) (pu : Port) (l : Lane) (o : Old pu.held l.frames) → n.place y ≡ act.call.place
              → slice_get w.stations (n.place y) ≡ Some s → slice_get s.ports q ≡ Some pu
              → slice_get w.lanes lane ≡ Some l → act.touch ≡ Grow (suc q) → ⊥
          ages s pu l o place at there at_l grown =
              let here : slice_get w.stations (n.place y) ≡ Some act.call.s =
              subst (λ i. slice_get w.stations i ≡ Some act.call.s) (sym place) act.call.here in
              let one : s ≡ act.call.s = same_there w.stations (n.place y) s act.call.s at here in
              let port = subst (λ (v : Station). slice_get v.ports q ≡ Some pu) one there in
              elim (act.ages q pu o.r grown port o.holds) [
                | inl aged ↦ not_aged pu.held l o at_l aged
                | inr lapses ↦
                    let later = m.kept.lapses act.call.place w.time act.call.s act.call.here lapses.due in
                    absurd (omega (arith, later))
              ]

    -- every step keeps that the neighbour is at one of both
    pub turning_kept : MachineSteps says w w' → Turning w → Turning w'
    turning_kept step (inl old) = old_kept old step
    turning_kept step (inr is) = inr (turned_kept says g n x d e best t p y q joins before in_time w w' m m' step is)
