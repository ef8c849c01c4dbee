-- A link over which what was told before is held until what is told since comes: what a step makes of it.
use Rattle.std.proofs.Common.{◌≡◌, ◌≢◌, ◌⊎◌, ◌≤◌, ◌+◌, ℕ, suc, List, ◌∷◌, Some, slice_get, refl, sym, subst, ◌∙◌, inl, inr, arith}
use Rattle.gptp_lists.specs.Members.{In}
use Rattle.gptp_graph.specs.Snapshot.{IsWellFormed, Joins, Snapshot, System, port_of}
use Rattle.gptp_graph.proofs.LinkLemmas.{Joins-sym}
use Rattle.gptp_bmca_machine.specs.Acts.{MachineSteps, StationAnswers}
use Rattle.gptp_bmca_machine.specs.Clean.{Whole}
use Rattle.gptp_bmca_machine.specs.Frame.{Announce, AnnounceFrame, Lane, Send, Spelling}
use Rattle.gptp_bmca_machine.specs.Link.{HearsSettled}
use Rattle.gptp_bmca_machine.specs.LinkStage.{IsFinal, Wiring}
use Rattle.gptp_bmca_machine.specs.LossLaws.{IsAfterLoss}
use Rattle.gptp_bmca_machine.specs.Network.{Network}
use Rattle.gptp_bmca_machine.specs.Reacts.{PortStep}
use Rattle.gptp_bmca_machine.specs.Station.{Disabled, Held, MachineState, Mine, Port, Received, Reception}
use Rattle.gptp_bmca_machine.specs.Touch.{Grow, Hear, HeldInTouch, Replaces, StationTouch}
use Rattle.gptp_bmca_machine.proofs.FallLemmas.{IsFree, IsFreeAt, IsNewTold}
use Rattle.gptp_bmca_machine.proofs.HearingLemmas.{final_kept, final_taken, mid_on, mid_stays}
use Rattle.gptp_bmca_machine.proofs.LinkStepLemmas.{AtLink, StandsAtEnd, link_steps}
use Rattle.gptp_bmca_machine.proofs.StandsLemmas.{at_either, due_by, port_on}
use Rattle.gptp_bmca_machine.proofs.StillLemmas.{still}
use Rattle.gptp_bmca_machine.proofs.ToldLemmas.{HoldsTold, IsTold, all_more, old_hears, old_misses, old_more, told_front}

module _ (says : Spelling) (n : Network) (wf : IsWellFormed n.graph) (ways : Snapshot) (d : ℕ) (best : System)
    (v p u q : ℕ) (joins : Joins n.graph (port_of v (suc p)) (port_of u (suc q))) (last : ℕ) (w w' : MachineState)
    (kept : IsAfterLoss n w) (kept' : IsAfterLoss n w') (step : MachineSteps says w w')
    (settled : (pu : Port) → StandsAtEnd says n v p u q w pu → HearsSettled (still n d best v p u q) pu)
    (settled' : (pu : Port) → StandsAtEnd says n v p u q w' pu → HearsSettled (still n d best v p u q) pu)
    (new : (touch : StationTouch) (mid : MachineState) (call : StationAnswers says touch mid w') (z : Send)
    (a : Announce) → In z call.sends → port_of v (suc p) ≡ port_of call.s.clock z.port → says z.octets a
    → IsNewTold ways (port_of v (suc p)) u a) where
  abbrev k : Wiring
  k = still n d best v p u q

  abbrev New : Announce → Type 0
  New = IsNewTold ways (port_of v (suc p)) u

  abbrev Holds : Held → List AnnounceFrame → Type 0
  Holds held fs = HoldsTold says k New last held fs

  back : Joins n.graph (port_of u (suc q)) (port_of v (suc p))
  back = Joins-sym n.graph (port_of v (suc p)) (port_of u (suc q)) joins

  is_on : (pu : Port) → StandsAtEnd says n v p u q w pu → pu.held ≢ Disabled
  is_on pu end = port_on n wf w kept u q (port_of v (suc p)) end.s pu end.at end.there back

  on_then : (pu' : Port) → StandsAtEnd says n v p u q w' pu' → pu'.held ≢ Disabled
  on_then pu' end' = port_on n wf w' kept' u q (port_of v (suc p)) end'.s pu' end'.at end'.there back

  -- it doesn't hear anything over the link
  deaf_old : (touch : StationTouch) (now root steps : ℕ) (pu pu' : Port) (sends : List Send)
      (fs : List AnnounceFrame) → StandsAtEnd says n v p u q w' pu'
      → ((h : AnnounceFrame) → In h fs → w.time ≤ h.due)
      → PortStep says u (suc q) now touch root steps pu pu' sends
      → ((a : Announce) → touch ≡ Hear (suc q) a → ⊥)
      → ((r : Reception) → touch ≡ Grow (suc q) → pu.held ≡ Received r → r.at + r.span ≤ w.time)
      → Holds pu.held fs → Holds pu'.held fs
  deaf_old touch now root steps pu pu' sends fs end' left answer deaf aged old = record {
    r = old.r;
    holds = final_kept k says now touch root steps pu pu' sends answer (settled' pu' end') old.r old.final
        (mid_stays u (suc q) now touch pu.held answer.mid old.r deaf young
        (mid_on k says now touch root steps pu pu' sends answer (settled' pu' end') (on_then pu' end')) answer.before
        old.holds);
    final = old.final;
    young = old.young;
    told = old.told;
  }
    where
      young : touch ≡ Grow (suc q) → ⊥
      young grown =
          let (h, among, said, due) = old.young in
          let now_left = left h among in
          let old_by = aged old.r grown old.holds in
          absurd (omega (arith, due, now_left, old_by))

  -- it hears what was told before, or what is told since
  hears_next : (now root steps : ℕ) (pu pu' : Port) (sends : List Send) (l : Lane) (f : AnnounceFrame)
      (fs : List AnnounceFrame) (a : Announce) → StandsAtEnd says n v p u q w pu → StandsAtEnd says n v p u q w' pu'
      → now ≡ w.time → slice_get w.lanes (n.lane (port_of v (suc p))) ≡ Some l → l.frames ≡ f ∷ fs
      → says f.octets a → PortStep says u (suc q) now (Hear (suc q) a) root steps pu pu' sends
      → Holds pu.held (f ∷ fs) → Holds pu'.held fs ⊎ IsFree says ways v u pu'.held fs
  hears_next now root steps pu pu' sends l f fs a end end' time at frames said answer old =
      elim (told_front says k New last f fs a said old.told) [
        | inl (fresh, all) ↦ inr (record {
          hears = λ r holds. heard_new fresh r holds answer.before;
          flight = λ h b among is. inl (all h b among is).whole;
        })
        | inr (final, told) ↦ inl (again final told (final_taken k now a pu answer.mid final (settled pu end)
            answer.before))
      ]
    where
      heard_new : New a → (r : Reception) → pu'.held ≡ Received r
          → HeldInTouch u (suc q) (Hear (suc q) a) now pu.held answer.mid → Whole ways v r.said
      heard_new fresh r holds (inr (apart, is)) = absurd (apart refl)
      heard_new fresh r holds (inl (same, on, inr refuses)) =
          absurd (refuses.fails fresh.usable
          (subst (Replaces u (suc q) a) (sym old.holds) (inl (fresh.source ∙ sym old.final.source))))
      heard_new fresh r holds (inl (same, on, inl takes)) = elim answer.after [
        | inr becomes ↦ absurd (let both : Mine root steps ≡ Received r = sym becomes.mine ∙ holds in cc)
        | inl (stays, keeps) ↦
            let both : Received (record { said = a; at = now; span = takes.span }) ≡ Received r =
            sym takes.is ∙ sym stays ∙ holds in
            let one : a ≡ r.said = cc in
            subst (Whole ways v) one fresh.whole
      ]

      soon : (h : AnnounceFrame) → In h fs → h.due ≤ now + n.most
      soon h among =
          let by = due_by n wf w kept v p u q joins l h at (subst (In h) (sym frames) (inr among)) in
          omega (arith, by, time)

      again : IsFinal k a → IsTold says k New last fs
          → ((span : ℕ) × (answer.mid ≡ Received (record { said = a; at = now; span = span })))
          → Holds pu'.held fs
      again final told (span, mid) =
          let r : Reception = record { said = a; at = now; span = span } in
          let holds = final_kept k says now (Hear (suc q) a) root steps pu pu' sends answer (settled' pu' end') r
          final mid in
          let long = (settled' pu' end').long r holds final.log in
          old_hears says k New last now pu'.held fs r holds final refl (omega (arith, long)) soon told

  -- so it is held, or the link is free
  pub told_on : AtLink says n v p u q (HoldsTold says (still n d best v p u q)
      (IsNewTold ways (port_of v (suc p)) u) last) w
      → AtLink says n v p u q (HoldsTold says (still n d best v p u q) (IsNewTold ways (port_of v (suc p)) u) last)
      w' ⊎ IsFreeAt says ways n v p u q w'
  told_on is =
      at_either n wf w' kept' says v p u q joins Holds (IsFree says ways v u)
      (link_steps says n v p u q wf joins w w' kept.calm kept'.calm is_on kept.lapses Holds
      (λ held fs. Holds held fs ⊎ IsFree says ways v u held fs) New
      (record {
        news = new;
        stays = λ held fs old. inl old;
        enters = λ held fs news entered here. elim here [
          | inl old ↦ inl (old_more says k New last held fs news entered old)
          | inr free ↦ inr (record {
            hears = free.hears;
            flight = all_more says (λ a. Whole ways v a ⊎ In u a.path) fs news free.flight
                (λ f a among said. inl (entered f a among said).whole);
          })
        ];
        misses = λ held f fs silent old. old_misses says k New last held f fs silent old;
        answers = λ touch now root steps pu pu' sends fs end end' time left answer deaf aged old.
            inl (deaf_old touch now root steps pu pu' sends fs end' left answer deaf aged old);
        hears = λ now root steps pu pu' sends l f fs a end end' time at frames said answer old.
            hears_next now root steps pu pu' sends l f fs a end end' time at frames said answer old;
      }) step is)
