-- A tree that a loss moves falls back: what a step makes of each link, by what is known of the system that tells.
use Rattle.std.proofs.Common.{◌≡◌, ◌≢◌, ◌⊎◌, ◌+◌, ℕ, suc, true, List, ◌∷◌, refl, sym, subst, ◌∙◌, inl, inr, arith}
use Rattle.std.specs.Bool.{⊤}
use Rattle.gptp_lists.specs.Members.{In}
use Rattle.gptp_graph.specs.Snapshot.{Joins, Snapshot, System, clocks, port_of}
use Rattle.gptp_bmca_machine.specs.Acts.{MachineSteps, StationAnswers}
use Rattle.gptp_bmca_machine.specs.Clean.{Whole}
use Rattle.gptp_bmca_machine.specs.Frame.{Announce, AnnounceFrame, Send, Spelling}
use Rattle.gptp_bmca_machine.specs.Link.{HearsSettled}
use Rattle.gptp_bmca_machine.specs.LinkStage.{Wiring}
use Rattle.gptp_bmca_machine.specs.Network.{Network}
use Rattle.gptp_bmca_machine.specs.Reacts.{PortStep}
use Rattle.gptp_bmca_machine.specs.Station.{Disabled, MachineState, Mine, Port, Received, Reception}
use Rattle.gptp_bmca_machine.specs.Touch.{Hear, StationTouch}
use Rattle.gptp_bmca_machine.proofs.FallLemmas.{HoldsLeft, IsAftermath, IsFree, IsFreeAt, IsNewTold}
use Rattle.gptp_bmca_machine.proofs.MovedTreeLemmas.{LeadsDown, MovesTree, was_best_beside}
use Rattle.gptp_bmca_machine.proofs.ClearLemmas.{weaker_clear}
use Rattle.gptp_bmca_machine.proofs.LinkEndsLemmas.{hearer_known, hearer_on, hears_by}
use Rattle.gptp_bmca_machine.proofs.LinkStepLemmas.{AtLink, StandsAtEnd, link_steps, lives_at}
use Rattle.gptp_bmca_machine.proofs.ReactsLemmas.{JustHeard, mid_from}
use Rattle.gptp_bmca_machine.proofs.StillLemmas.{clear_at, still}
use Rattle.gptp_bmca_machine.proofs.ToldStepLemmas.{told_on}
use Rattle.gptp_bmca_machine.proofs.ToldLemmas.{HoldsTold, all_more}

-- ---- what a port holds that is free

module _ (says : Spelling) (g : Snapshot) (v u q : ℕ) (touch : StationTouch) (now root steps : ℕ) (pu pu' : Port)
    (sends : List Send) (answer : PortStep says u (suc q) now touch root steps pu pu' sends) where
  -- what it holds after an answer it held before, or just heard
  pub holds_after : (r : Reception) → pu'.held ≡ Received r
      → (pu.held ≡ Received r) ⊎ JustHeard u (suc q) now touch r
  holds_after r holds = elim answer.after [
    | inl (kept, keeps) ↦ mid_from u (suc q) now touch pu.held answer.mid r answer.before (sym kept ∙ holds)
    | inr becomes ↦ absurd (let both : Mine root steps ≡ Received r = sym becomes.mine ∙ holds in cc)
  ]

  pub free_answers : (fs : List AnnounceFrame) → ((a : Announce) → touch ≡ Hear (suc q) a → ⊥)
      → IsFree says g v u pu.held fs → IsFree says g v u pu'.held fs
  free_answers fs deaf free = record {
    hears = λ r holds. elim (holds_after r holds) [
      | inl before ↦ free.hears r before
      | inr just ↦ absurd (deaf just.said just.touched)
    ];
    flight = free.flight;
  }

-- it hears what is on its way
pub free_hears : (says : Spelling) (g : Snapshot) (v u q now root steps : ℕ) (pu pu' : Port) (sends : List Send)
    (f : AnnounceFrame) (fs : List AnnounceFrame) (a : Announce) → says f.octets a
    → PortStep says u (suc q) now (Hear (suc q) a) root steps pu pu' sends
    → IsFree says g v u pu.held (f ∷ fs) → IsFree says g v u pu'.held fs
free_hears says g v u q now root steps pu pu' sends f fs a said answer free = record {
  hears = λ r holds. elim (holds_after says g v u q (Hear (suc q) a) now root steps pu pu' sends answer r holds) [
    | inl before ↦ free.hears r before
    | inr just ↦
        let touched = just.touched in
        let same : a ≡ just.said = cc in
        elim (free.flight f a (inl refl) said) [
          | inl whole ↦ subst (Whole g v) (same ∙ sym just.is_said) whole
          | inr names ↦ absurd (just.qualified.no_loop (subst (λ (z : Announce). In u z.path) same names))
        ]
  ];
  flight = λ h b among. free.flight h b (inr among);
}

module _ (says : Spelling) (g : Snapshot) (n : Network) (Tree : ℕ → Type 0) (Out : ℕ → ℕ → Type 0) (top : ℕ)
    (best next : System) (base : ℕ) (depth : ℕ → ℕ) (t : MovesTree g n Tree Out top best next base depth) (w w' :
    MachineState) (m : IsAftermath says g n w)
    (m' : IsAftermath says g n w') (step : MachineSteps says w w') (v p u q : ℕ)
    (joins : Joins n.graph (port_of v (suc p)) (port_of u (suc q))) where
  is_on : (pu : Port) → StandsAtEnd says n v p u q w pu → pu.held ≢ Disabled
  is_on pu end =
      hearer_on g n t.well t.left n.most 0 best v p u q joins (omega arith) w m.kept m.fits.stations end.s pu end.at
      end.there

  -- what the system that tells says in this step, by how it stands after it
  abbrev pub SaysSo : (Announce → Type 0) → Type 0
  SaysSo N = (touch : StationTouch) (mid : MachineState) (call : StationAnswers says touch mid w') (z : Send)
      (a : Announce) → In z call.sends → port_of v (suc p) ≡ port_of call.s.clock z.port → says z.octets a → N a

  -- ---- what is held over a free link stays so

  pub free_held : IsFreeAt says t.ways n v p u q w → HoldsLeft says t.ways n v p u q w'
  free_held free =
      link_steps says n v p u q t.well joins w w' m.kept.calm m'.kept.calm is_on m.kept.lapses
      (IsFree says t.ways v u) (λ held fs. (r : Reception) → held ≡ Received r → Whole t.ways v r.said) (λ a. ⊤)
      (record {
        news = λ touch mid call z a sent from said. tt;
        stays = λ held fs is. is.hears;
        enters = λ held fs news new is. is;
        misses = λ held f fs silent is. record { hears = is.hears; flight = λ h a among. is.flight h a (inr among) };
        answers = λ touch now root steps pu pu' sends fs end end' time left answer deaf aged is.
            (free_answers says t.ways v u q touch now root steps pu pu' sends answer fs deaf is).hears;
        hears = λ now root steps pu pu' sends l f fs a end end' time at frames said answer is.
            (free_hears says t.ways v u q now root steps pu pu' sends f fs a said answer is).hears;
      }) step free

  -- and so does the link, where what is said is so
  pub free_kept : SaysSo (λ a. Whole t.ways v a ⊎ In u a.path) → IsFreeAt says t.ways n v p u q w
      → IsFreeAt says t.ways n v p u q w'
  free_kept new free =
      link_steps says n v p u q t.well joins w w' m.kept.calm m'.kept.calm is_on m.kept.lapses
      (IsFree says t.ways v u) (IsFree says t.ways v u) (λ a. Whole t.ways v a ⊎ In u a.path)
      (record {
        news = new;
        stays = λ held fs is. is;
        enters = λ held fs news entered is. record {
          hears = is.hears;
          flight = all_more says (λ a. Whole t.ways v a ⊎ In u a.path) fs news is.flight entered;
        };
        misses = λ held f fs silent is. record { hears = is.hears; flight = λ h a among. is.flight h a (inr among) };
        answers = λ touch now root steps pu pu' sends fs end end' time left answer deaf aged is.
            free_answers says t.ways v u q touch now root steps pu pu' sends answer fs deaf is;
        hears = λ now root steps pu pu' sends l f fs a end end' time at frames said answer is.
            free_hears says t.ways v u q now root steps pu pu' sends f fs a said answer is;
      }) step free

  -- ---- what was told before is held until what is told since comes

  module _ (in_v : Tree v) (leads : LeadsDown g Tree Out base depth v u) (last : ℕ)
      (new : SaysSo (IsNewTold t.ways (port_of v (suc p)) u)) where
    abbrev k : Wiring
    k = still n (base + depth v) best v p u q

    abbrev New : Announce → Type 0
    New = IsNewTold t.ways (port_of v (suc p)) u

    known_u : In u (clocks n.graph)
    known_u = hearer_known g n t.well t.left n.most 0 best v p u q joins (omega arith)

    -- what is known of the port that hears
    hears_old : (x : MachineState) → IsAftermath says g n x → (pu : Port) → StandsAtEnd says n v p u q x pu
        → HearsSettled k pu
    hears_old x m_x pu end =
        hears_by g n t.well t.left n.most (base + depth v) best v p u q joins (omega arith) x m_x.kept
        m_x.fits.stations end.s pu end.at end.there
        (weaker_clear g t.left.graph k best refl leads.far
        (was_best_beside g n Tree Out top best next base depth t v u in_v (suc p, suc q, joins)) leads.there
        leads.farther end.s
        (clear_at g n t.well t.left x m_x.kept m_x.fits.stations (n.place u) end.s end.at is.0) is.1 pu end.there)
      where
        is : (end.s.live ≡ true) × (end.s.clock ≡ u)
        is = lives_at n x m_x.kept.calm u known_u end.s end.at

    -- so it is held, or the link is free
    pub old_or_free : AtLink says n v p u q (HoldsTold says k New last) w
        → AtLink says n v p u q (HoldsTold says k New last) w' ⊎ IsFreeAt says t.ways n v p u q w'
    old_or_free =
        told_on says n t.well t.ways (base + depth v) best v p u q joins last w w' m.kept m'.kept step (hears_old w m)
        (hears_old w' m') new
