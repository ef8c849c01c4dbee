-- A port whose link is lost since the system at its other end failed. It holds what that told last, and what is on its
-- way from there is so. Once it has let it go it doesn't come to hold anything again.
use Rattle.std.proofs.Common.{◌≡◌, ◌≢◌, ◌⊎◌, ◌<◌, ◌≤◌, ◌+◌, ◌++◌, ℕ, ℤ, suc, true, List, ◌∷◌, Some, slice_get, refl, sym, ap, subst, ◌∙◌, inl, inr, arith}
use Rattle.gptp_lists.specs.Members.{In}
use Rattle.gptp_lists.proofs.SystemSpecLemmas.{In-left, In-parts}
use Rattle.gptp_graph.specs.Best.{IsBest}
use Rattle.gptp_graph.specs.Distance.{IsDistance}
use Rattle.gptp_graph.specs.Snapshot.{IsWellFormed, Joins, PortIdentity, Snapshot, System, clocks, port_of}
use Rattle.gptp_graph.proofs.LinkLemmas.{Joins-sym}
use Rattle.gptp_graph.proofs.SystemLemmas.{In-clocks}
use Rattle.gptp_bmca_machine.specs.Acts.{MachineSteps, StationAnswers}
use Rattle.gptp_bmca_machine.specs.Facts.{station_system}
use Rattle.gptp_bmca_machine.specs.Frame.{Announce, AnnounceFrame, Lane, Send, Spelling}
use Rattle.gptp_bmca_machine.specs.Link.{HearsSettled}
use Rattle.gptp_bmca_machine.specs.LinkStage.{AllFinal, FrameSaysAnnounce, IsFinal, Wiring}
use Rattle.gptp_bmca_machine.specs.LossLaws.{IsAfterLoss, IsWhatIsLeft}
use Rattle.gptp_bmca_machine.specs.Network.{Network}
use Rattle.gptp_bmca_machine.specs.Reacts.{PortStep}
use Rattle.gptp_bmca_machine.specs.Sound.{ReceivedFits}
use Rattle.gptp_bmca_machine.specs.Station.{Aged, Disabled, Held, HoldsAt, MachineState, Mine, Port, Received, Reception, Station}
use Rattle.gptp_bmca_machine.specs.Touch.{Disable, Enable, Grow, Hear, HeldInTouch, Other, StationTouch, Tick}
use Rattle.gptp_bmca_machine.proofs.ClearLemmas.{weaker_clear}
use Rattle.gptp_bmca_machine.proofs.HearingLemmas.{final_kept, final_taken}
use Rattle.gptp_bmca_machine.proofs.LinkStepLemmas.{AtLink, LaneStands, StandsAtEnd, lane_steps, lives_at}
use Rattle.gptp_bmca_machine.proofs.PlaceLemmas.{same_there}
use Rattle.gptp_bmca_machine.proofs.ReactsLemmas.{mid_from}
use Rattle.gptp_bmca_machine.proofs.StillLemmas.{clear_at, still}

-- ---- what the port holds

-- no frame says an Announce
abbrev pub NoneSays : Spelling → List AnnounceFrame → Type 0
NoneSays says fs = (f : AnnounceFrame) → In f fs → FrameSaysAnnounce says f → ⊥

module _ (says : Spelling) (k : Wiring) (gone : ℕ) where
  -- The port holds what was told last. All that is on its way is so, and comes by that time; and what is held doesn't
  -- age before all of it has come, or before some of it has. Or nothing is on its way.
  pub record HoldsLast (held : Held) (fs : List AnnounceFrame) : Type 0 where
    pub r : Reception
    pub holds : held ≡ Received r
    pub final : IsFinal k r.said
    pub flight : AllFinal says k fs
    pub by : (f : AnnounceFrame) → In f fs → FrameSaysAnnounce says f → f.due ≤ gone
    pub young : (gone < r.at + r.span)
        ⊎ (((h : AnnounceFrame) × In h fs × FrameSaysAnnounce says h × (h.due < r.at + r.span))
        ⊎ NoneSays says fs)

-- it has let that go, and nothing comes that it could hear
pub record HasLetGo (says : Spelling) (held : Held) (fs : List AnnounceFrame) : Type 0 where
  pub none : (r : Reception) → held ≡ Received r → ⊥
  pub silent : (held ≡ Disabled) ⊎ NoneSays says fs

-- a touch that is no Hear leaves what a port received, or it ages, or the port is disabled
mid_goes : (c n now : ℕ) (touch : StationTouch) (held mid : Held) (r : Reception)
    → ((a : Announce) → touch ≡ Hear n a → ⊥) → HeldInTouch c n touch now held mid → held ≡ Received r
    → (mid ≡ Received r) ⊎ (((touch ≡ Grow n) × (mid ≡ Aged)) ⊎ (mid ≡ Disabled))
mid_goes c n now (Hear m a) held mid r deaf (inl (same, up, rest)) e = absurd (deaf a (λ i. Hear (sym same i) a))
mid_goes c n now (Hear m a) held mid r deaf (inr (other, is)) e = inl (is ∙ e)
mid_goes c n now (Tick m) held mid r deaf is e = inl (is ∙ e)
mid_goes c n now (Grow m) held mid r deaf (inl (same, is)) e = inr (inl ((λ i. Grow (sym same i)), is))
mid_goes c n now (Grow m) held mid r deaf (inr (other, is)) e = inl (is ∙ e)
mid_goes c n now (Enable m) held mid r deaf (inl (same, off, is)) e =
    absurd (let x : Disabled ≡ Received r = sym off ∙ e in cc)
mid_goes c n now (Enable m) held mid r deaf (inr (other, is)) e = inl (is ∙ e)
mid_goes c n now (Disable m) held mid r deaf (inl (same, is)) e = inr (inr is)
mid_goes c n now (Disable m) held mid r deaf (inr (other, is)) e = inl (is ∙ e)
mid_goes c n now Other held mid r deaf is e = inl (is ∙ e)

-- what a port received after an answer that is no Hear it had received before
kept_deaf : (says : Spelling) (c n now root steps : ℕ) (touch : StationTouch) (q q' : Port) (sends : List Send)
    (r : Reception) → ((a : Announce) → touch ≡ Hear n a → ⊥)
    → PortStep says c n now touch root steps q q' sends → q'.held ≡ Received r
    → q.held ≡ Received r
kept_deaf says c n now root steps touch q q' sends r deaf answer holds = elim answer.after [
  | inl (kept, keeps) ↦ elim (mid_from c n now touch q.held answer.mid r answer.before (sym kept ∙ holds)) [
    | inl before ↦ before
    | inr just ↦ absurd (deaf just.said just.touched)
  ]
  | inr becomes ↦ absurd (let both : Mine root steps ≡ Received r = sym becomes.mine ∙ holds in cc)
]

-- whether a port is disabled
off_dec : (held : Held) → Dec (held ≡ Disabled)
off_dec Disabled = yes refl
off_dec Aged = no (λ is. cc)
off_dec (Mine root steps) = no (λ is. cc)
off_dec (Received r) = no (λ is. cc)

-- ---- a step

-- what a live system received stays as long as the interval that it named says
abbrev pub StaysAsNamed : (ℤ → ℕ) → MachineState → Type 0
StaysAsNamed stay w = (i : ℕ) (s : Station) (place : ℕ) (r : Reception) → slice_get w.stations i ≡ Some s
    → s.live ≡ true → HoldsAt s place r
    → r.span ≡ stay r.said.log

module _ (says : Spelling) (g : Snapshot) (n : Network) (wf : IsWellFormed n.graph) (left : IsWhatIsLeft g n)
    (f p x i : ℕ) (joins : Joins g (port_of f (suc p)) (port_of x (suc i))) (known : In x (clocks n.graph))
    (dead : In f (clocks n.graph) → ⊥) (best : System) (d : ℕ) (is_best : IsBest g x best)
    (far : IsDistance g x (suc d)) (stay : ℤ → ℕ) (since delay : ℕ)
    (long : n.interval_of (port_of f (suc p)) + delay < stay (n.log_of (port_of f (suc p))))
    (shorter : n.most ≤ delay) where
  abbrev k : Wiring
  k = still n d best f p x i

  abbrev gone : ℕ
  gone = since + delay

  -- what is known of each state
  pub record IsLastState (w : MachineState) : Type 0 where
    pub kept : IsAfterLoss n w
    pub fits : ReceivedFits g w
    pub lane : LaneStands says n f p x i w
    pub named : StaysAsNamed stay w
    pub later : since ≤ w.time

  module _ (w : MachineState) (m : IsLastState w) (s : Station) (at : slice_get w.stations (n.place x) ≡ Some s)
      (pu : Port) (there : slice_get s.ports i ≡ Some pu) where
    is_x : (s.live ≡ true) × (s.clock ≡ x)
    is_x = lives_at n w m.kept.calm x known s at

    -- what the port received came over its link
    source : (r : Reception) → pu.held ≡ Received r → r.said.source ≡ port_of f (suc p)
    source r holds =
        let back = Joins-sym g (port_of f (suc p)) (port_of x (suc i)) joins in
        let came = (m.fits (n.place x) s i r at is_x.0 (pu, there, holds)).over
        (port_of f (suc p), subst (λ c. Joins g (port_of c (suc i)) (port_of f (suc p))) (sym is_x.1) back) in
        came.source
        ∙ left.graph.one_link (port_of x (suc i)) came.from (port_of f (suc p))
        (Joins-sym g came.from (port_of x (suc i))
        (subst (λ c. Joins g came.from (port_of c (suc i))) is_x.1 came.joins)) back

    pub span_long : (r : Reception) → pu.held ≡ Received r → r.said.log ≡ k.log → k.interval + delay < r.span
    span_long r holds log =
        let named = m.named (n.place x) s i r at is_x.0 (pu, there, holds) ∙ ap stay log in
        omega (arith, long, named)

    hears_last : HearsSettled k pu
    hears_last = record {
      weaker = λ root steps mine.
          weaker_clear g left.graph k best refl (suc d) is_best far (inl (omega arith)) s
          (clear_at g n wf left w m.kept m.fits (n.place x) s at is_x.0) is_x.1 pu there root steps mine;
      source = source;
      long = λ r holds log. let more = span_long r holds log in omega (arith, more, shorter);
    }

  module _ (w w' : MachineState) (m : IsLastState w) (m' : IsLastState w') (step : MachineSteps says w w') where
    -- nobody says anything over the link
    none_says : (touch : StationTouch) (mid : MachineState) (call : StationAnswers says touch mid w') (z : Send)
        (a : Announce) → In z call.sends → port_of f (suc p) ≡ port_of call.s.clock z.port → says z.octets a → ⊥
    none_says touch mid call z a sent from said =
        dead (subst (λ c. In c (clocks n.graph))
        (call.reacts.clock ∙ ap (λ (y : PortIdentity). y.clock) (sym from))
        (In-clocks n.graph (station_system call.s')
        (m'.kept.calm.facts.stations call.place call.s' call.there (call.reacts.live ∙ call.live)).known))

    more_silent : (fs news : List AnnounceFrame) → NoneSays says fs
        → ((h : AnnounceFrame) (a : Announce) → In h news → says h.octets a → ⊥) → NoneSays says (fs ++ news)
    more_silent fs news none nothing h among said = elim (In-parts h fs news among) [
      | inl old ↦ none h old said
      | inr new ↦ nothing h said.0 new said.1
    ]

    -- what it holds stays, or is let go
    deaf_last : (touch : StationTouch) (now root steps : ℕ) (pu pu' : Port) (sends : List Send)
        (fs : List AnnounceFrame) → StandsAtEnd says n f p x i w' pu'
        → ((h : AnnounceFrame) → In h fs → w.time ≤ h.due)
        → PortStep says x (suc i) now touch root steps pu pu' sends
        → ((a : Announce) → touch ≡ Hear (suc i) a → ⊥)
        → ((r : Reception) → touch ≡ Grow (suc i) → pu.held ≡ Received r → r.at + r.span ≤ w.time)
        → HoldsLast says k gone pu.held fs
        → HoldsLast says k gone pu'.held fs ⊎ HasLetGo says pu'.held fs
    deaf_last touch now root steps pu pu' sends fs end' comes answer deaf aged last =
        elim (mid_goes x (suc i) now touch pu.held answer.mid last.r deaf answer.before last.holds) [
          | inl stays ↦ inl (record {
            r = last.r;
            holds = final_kept k says now touch root steps pu pu' sends answer
                (hears_last w' m' end'.s end'.at pu' end'.there) last.r last.final stays;
            final = last.final;
            flight = last.flight;
            by = last.by;
            young = last.young;
          })
          | inr (inl (grown, is)) ↦ inr (record { none = not_aged is; silent = inr (silent grown) })
          | inr (inr is) ↦ inr (off is)
        ]
      where
        not_aged : answer.mid ≡ Aged → (r : Reception) → pu'.held ≡ Received r → ⊥
        not_aged is r holds = elim answer.after [
          | inl (kept, keeps) ↦ let both : Aged ≡ Received r = sym is ∙ sym kept ∙ holds in absurd cc
          | inr becomes ↦ let both : Mine root steps ≡ Received r = sym becomes.mine ∙ holds in absurd cc
        ]

        silent : touch ≡ Grow (suc i) → (h : AnnounceFrame) → In h fs → FrameSaysAnnounce says h → ⊥
        silent grown h among said =
            let old = aged last.r grown last.holds in
            let left_h = comes h among in
            let soon = last.by h among said in
            elim last.young [
              | inl later ↦ absurd (omega (arith, old, left_h, soon, later))
              | inr (inl (first, in_first, said_first, due)) ↦
                  let left_first = comes first in_first in absurd (omega (arith, old, left_first, due))
              | inr (inr none) ↦ none h among said
            ]

        off : answer.mid ≡ Disabled → HasLetGo says pu'.held fs
        off is = elim answer.after [
          | inr becomes ↦ absurd (becomes.on is)
          | inl (kept, keeps) ↦ record {
            none = λ r holds. let both : Disabled ≡ Received r = sym is ∙ sym kept ∙ holds in absurd cc;
            silent = inl (kept ∙ is);
          }
        ]

    -- it hears what was told last once more
    hears_again : (now root steps : ℕ) (pu pu' : Port) (sends : List Send) (h : AnnounceFrame) (fs : List AnnounceFrame)
        (a : Announce) → StandsAtEnd says n f p x i w pu → StandsAtEnd says n f p x i w' pu' → now ≡ w.time
        → says h.octets a → PortStep says x (suc i) now (Hear (suc i) a) root steps pu pu' sends
        → HoldsLast says k gone pu.held (h ∷ fs)
        → HoldsLast says k gone pu'.held fs
    hears_again now root steps pu pu' sends h fs a end end' time said answer last = by (final_taken k now a pu
        answer.mid
        final (hears_last w m end.s end.at pu end.there) answer.before)
      where
        final : IsFinal k a
        final = last.flight h a (inl refl) said

        by : ((span : ℕ) × (answer.mid ≡ Received (record { said = a; at = now; span = span })))
            → HoldsLast says k gone pu'.held fs
        by (span, mid) =
            let r : Reception = record { said = a; at = now; span = span } in
            let holds = final_kept k says now (Hear (suc i) a) root steps pu pu' sends answer
            (hears_last w' m' end'.s end'.at pu' end'.there) r final mid in
            let more : k.interval + delay < span = span_long w' m' end'.s end'.at pu' end'.there r holds final.log in
            let later = m.later in
            record {
              r = r;
              holds = holds;
              final = final;
              flight = λ g b among. last.flight g b (inr among);
              by = λ g among. last.by g (inr among);
              young = inl (omega (arith, more, later, time));
            }

    holds_on : AtLink says n f p x i (HoldsLast says k gone) w
        → AtLink says n f p x i (λ held fs. HoldsLast says k gone held fs ⊎ HasLetGo says held fs) w'
    holds_on is =
        lane_steps says n f p x i known w w' m.kept.calm m'.kept.calm m.lane m'.lane on m.kept.lapses
        (HoldsLast says k gone) (λ held fs. HoldsLast says k gone held fs ⊎ HasLetGo says held fs) (λ a. ⊥)
        (record {
          news = none_says;
          stays = λ held fs last. inl last;
          enters = λ held fs news none so. elim so [
            | inl last ↦ inl (record {
              r = last.r;
              holds = last.holds;
              final = last.final;
              flight = λ h a among said. elim (In-parts h fs news among) [
                | inl old ↦ last.flight h a old said
                | inr new ↦ absurd (none h a new said)
              ];
              by = λ h among said. elim (In-parts h fs news among) [
                | inl old ↦ last.by h old said
                | inr new ↦ absurd (none h said.0 new said.1)
              ];
              young = elim last.young [
                | inl later ↦ inl later
                | inr (inl (h, among, said, due)) ↦ inr (inl (h, In-left h fs news among, said, due))
                | inr (inr quiet) ↦ inr (inr (more_silent fs news quiet none))
              ];
            })
            | inr go ↦ inr (record {
              none = go.none;
              silent = elim go.silent [
                | inl off ↦ inl off
                | inr quiet ↦ inr (more_silent fs news quiet none)
              ];
            })
          ];
          misses = λ held h fs dumb last. record {
            r = last.r;
            holds = last.holds;
            final = last.final;
            flight = λ g a among. last.flight g a (inr among);
            by = λ g among. last.by g (inr among);
            young = elim last.young [
              | inl later ↦ inl later
              | inr (inl (g, inl same, said, due)) ↦ absurd (dumb (subst (FrameSaysAnnounce says) same said))
              | inr (inl (g, inr among, said, due)) ↦ inr (inl (g, among, said, due))
              | inr (inr none) ↦ inr (inr (λ g among. none g (inr among)))
            ];
          };
          answers = λ touch now root steps pu pu' sends fs end end' time comes answer deaf aged last.
              deaf_last touch now root steps pu pu' sends fs end' comes answer deaf aged last;
          hears = λ now root steps pu pu' sends l h fs a end end' time at frames said answer last.
              inl (hears_again now root steps pu pu' sends h fs a end end' time said answer last);
        }) step is
      where
        on : (pu : Port) → StandsAtEnd says n f p x i w pu → pu.held ≢ Disabled
        on pu end off =
            let last = is end.s pu m.lane.lane end.at end.there m.lane.there in
            absurd (let both : Disabled ≡ Received last.r = sym off ∙ last.holds in cc)

    -- it holds nothing, and hears nothing
    abbrev IsQuiet : Held → List AnnounceFrame → Type 0
    IsQuiet held fs = ((r : Reception) → held ≡ Received r → ⊥) × NoneSays says fs

    -- so it stays
    quiet_on : AtLink says n f p x i IsQuiet w
        → ((pu : Port) → StandsAtEnd says n f p x i w pu → pu.held ≢ Disabled)
        → AtLink says n f p x i (HasLetGo says) w'
    quiet_on is on s' pu' l' at' there' lane' =
        let (none, quiet) = lane_steps says n f p x i known w w' m.kept.calm m'.kept.calm m.lane m'.lane on
        m.kept.lapses IsQuiet IsQuiet (λ a. ⊥)
        (record {
          news = none_says;
          stays = λ held fs so. so;
          enters = λ held fs news nothing so. (
            so.0,
            more_silent fs news so.1 nothing,
          );
          misses = λ held h fs dumb so. (so.0, (λ g among. so.1 g (inr among)));
          answers = λ touch now root steps pu pu' sends fs end end' time comes answer deaf aged so. (
            (λ r holds. so.0 r (kept_deaf says x (suc i) now root steps touch pu pu' sends r deaf answer holds)),
            so.1,
          );
          hears = λ now root steps pu pu' sends l h fs a end end' time at frames said answer so.
              absurd (so.1 h (inl refl) (a, said));
        }) step is s' pu' l' at' there' lane' in
        record { none = none; silent = inr quiet }

    -- a port that isn't capable stays so
    abbrev pub StaysOff : Type 0
    StaysOff = (s s' : Station) (pu pu' : Port) → slice_get w.stations (n.place x) ≡ Some s
        → slice_get s.ports i ≡ Some pu → slice_get w'.stations (n.place x) ≡ Some s'
        → slice_get s'.ports i ≡ Some pu' → pu.held ≡ Disabled
        → pu'.held ≡ Disabled

    module _ (stays_off : StaysOff) (s : Station) (at : slice_get w.stations (n.place x) ≡ Some s) (pu : Port)
        (there : slice_get s.ports i ≡ Some pu) where
      -- there is one port and one lane
      at_one : (P : Held → List AnnounceFrame → Type 0) → P pu.held m.lane.lane.frames → AtLink says n f p x i P w
      at_one P is s2 pu2 l2 at2 there2 lane2 =
          let same = same_there w.stations (n.place x) s s2 at at2 in
          let port = same_there s2.ports i pu pu2
          (subst (λ (z : Station). slice_get z.ports i ≡ Some pu) same there) there2 in
          let lane = same_there w.lanes (n.lane (port_of f (suc p))) m.lane.lane l2 m.lane.there lane2 in
          subst (λ (z : Lane). P pu2.held z.frames) lane
          (subst (λ (z : Port). P z.held m.lane.lane.frames) port is)

      goes_on : HasLetGo says pu.held m.lane.lane.frames → AtLink says n f p x i (HasLetGo says) w'
      goes_on go = by (off_dec pu.held)
        where
          still_off : pu.held ≡ Disabled → AtLink says n f p x i (HasLetGo says) w'
          still_off off s' pu' l' at' there' lane' =
              let off' = stays_off s s' pu pu' at there at' there' off in
              record {
                none = λ r holds. absurd (let both : Disabled ≡ Received r = sym off' ∙ holds in cc);
                silent = inl off';
              }

          by : Dec (pu.held ≡ Disabled) → AtLink says n f p x i (HasLetGo says) w'
          by (yes off) = still_off off
          by (no on) = elim go.silent [
            | inl off ↦ still_off off
            | inr quiet ↦ quiet_on (at_one IsQuiet (go.none, quiet))
                (λ pu2 end. at_one (λ held fs. held ≢ Disabled) on end.s pu2 m.lane.lane end.at end.there m.lane.there)
          ]

      -- so every step keeps it, and what has let go has let go for good
      pub last_on : AtLink says n f p x i (λ held fs. HoldsLast says k gone held fs ⊎ HasLetGo says held fs) w
          → AtLink says n f p x i (λ held fs. HoldsLast says k gone held fs ⊎ HasLetGo says held fs) w'
          × (((r : Reception) → pu.held ≡ Received r → ⊥) → AtLink says n f p x i (HasLetGo says) w')
      last_on is = elim (is s pu m.lane.lane at there m.lane.there) [
        | inl last ↦ (
          holds_on (at_one (HoldsLast says k gone) last),
          (λ none. absurd (none last.r last.holds)),
        )
        | inr go ↦ (
          (λ s' pu' l' at' there' lane'. inr (goes_on go s' pu' l' at' there' lane')),
          (λ none. goes_on go),
        )
      ]
