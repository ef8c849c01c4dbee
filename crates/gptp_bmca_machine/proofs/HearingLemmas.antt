-- What the hearer of a link holds: a final Announce is taken, and stays.
use Rattle.std.proofs.Common.{◌≡◌, ◌≢◌, ℕ, suc, List, [], ◌∷◌, refl, sym, subst, ◌∙◌, inl, inr}
use Rattle.gptp_graph.specs.Order.{IsLower}
use Rattle.gptp_graph.proofs.OrderLemmas.{IsLower-irrefl, IsLower-trans}
use Rattle.gptp_bmca_machine.specs.Frame.{Announce, Spelling, Send}
use Rattle.gptp_bmca_machine.specs.Station.{Reception, Held, Disabled, Aged, Mine, Received, Port}
use Rattle.gptp_bmca_machine.specs.Vectors.{message, master}
use Rattle.gptp_bmca_machine.specs.Touch.{StationTouch, Hear, Tick, Grow, Enable, Disable, Other, HeldInTouch, Replaces}
use Rattle.gptp_bmca_machine.specs.Reacts.{PortStep}
use Rattle.gptp_bmca_machine.specs.LinkStage.{Wiring, IsFinal}
use Rattle.gptp_bmca_machine.specs.Link.{final_vector, HearsSettled}

-- a touch that is no Hear and no Grow of the port, and doesn't disable it, leaves what it received
pub mid_stays : (c n now : ℕ) (touch : StationTouch) (held mid : Held) (r : Reception)
    → ((a : Announce) → touch ≡ Hear n a → ⊥) → (touch ≡ Grow n → ⊥) → mid ≢ Disabled
    → HeldInTouch c n touch now held mid → held ≡ Received r → mid ≡ Received r
mid_stays c n now (Hear m a) held mid r deaf young on (inl (same, up, rest)) e =
    absurd (deaf a (λ i. Hear (sym same i) a))
mid_stays c n now (Hear m a) held mid r deaf young on (inr (other, is)) e = is ∙ e
mid_stays c n now (Tick m) held mid r deaf young on is e = is ∙ e
mid_stays c n now (Grow m) held mid r deaf young on (inl (same, is)) e = absurd (young (λ i. Grow (sym same i)))
mid_stays c n now (Grow m) held mid r deaf young on (inr (other, is)) e = is ∙ e
mid_stays c n now (Enable m) held mid r deaf young on (inl (same, off, is)) e =
    absurd (let x : Disabled ≡ Received r = sym off ∙ e in cc)
mid_stays c n now (Enable m) held mid r deaf young on (inr (other, is)) e = is ∙ e
mid_stays c n now (Disable m) held mid r deaf young on (inl (same, is)) e = absurd (on is)
mid_stays c n now (Disable m) held mid r deaf young on (inr (other, is)) e = is ∙ e
mid_stays c n now Other held mid r deaf young on is e = is ∙ e

-- no touch makes a port master
pub mid_mine : (c n now root steps : ℕ) (touch : StationTouch) (held mid : Held) → HeldInTouch c n touch now held mid
    → mid ≡ Mine root steps → held ≡ Mine root steps
mid_mine c n now root steps (Hear m a) held mid (inl (same, up, inl takes)) e =
    absurd (let x = sym takes.is ∙ e in cc)
mid_mine c n now root steps (Hear m a) held mid (inl (same, up, inr refuses)) e = sym refuses.is ∙ e
mid_mine c n now root steps (Hear m a) held mid (inr (other, is)) e = sym is ∙ e
mid_mine c n now root steps (Tick m) held mid is e = sym is ∙ e
mid_mine c n now root steps (Grow m) held mid (inl (same, is)) e = absurd (let x = sym is ∙ e in cc)
mid_mine c n now root steps (Grow m) held mid (inr (other, is)) e = sym is ∙ e
mid_mine c n now root steps (Enable m) held mid (inl (same, off, is)) e = absurd (let x = sym is ∙ e in cc)
mid_mine c n now root steps (Enable m) held mid (inr (other, is)) e = sym is ∙ e
mid_mine c n now root steps (Disable m) held mid (inl (same, is)) e = absurd (let x = sym is ∙ e in cc)
mid_mine c n now root steps (Disable m) held mid (inr (other, is)) e = sym is ∙ e
mid_mine c n now root steps Other held mid is e = sym is ∙ e

module _ (k : Wiring) where
  -- the message vector of a final Announce
  message_final : (a : Announce) → IsFinal k a → message a (suc k.hearer_port) ≡ final_vector k
  message_final a final =
      λ i. final.root i ∷ final.steps i ∷ (final.source i).clock ∷ (final.source i).port ∷ suc k.hearer_port ∷ []

  -- it replaces whatever the hearer holds
  final_replaces : (a : Announce) (q : Port) → IsFinal k a → q.held ≢ Disabled → HearsSettled k q
      → Replaces k.hearer (suc k.hearer_port) a q.held
  final_replaces a q final on hears = go q.held refl
    where
      go : (held : Held) → q.held ≡ held → Replaces k.hearer (suc k.hearer_port) a held
      go Disabled e = absurd (on e)
      go Aged e = tt
      go (Mine root steps) e =
          subst (λ v. IsLower v (master root steps k.hearer (suc k.hearer_port))) (sym (message_final a final))
          (hears.weaker root steps e)
      go (Received r) e = inl (final.source ∙ sym (hears.source r e))

  -- so the hearer takes it
  pub final_taken : (now : ℕ) (a : Announce) (q : Port) (mid : Held) → IsFinal k a → HearsSettled k q
      → HeldInTouch k.hearer (suc k.hearer_port) (Hear (suc k.hearer_port) a) now q.held mid
      → (span : ℕ) × (mid ≡ Received (record { said = a; at = now; span = span }))
  final_taken now a q mid final hears (inl (same, on, inl takes)) = (takes.span, takes.is)
  final_taken now a q mid final hears (inl (same, on, inr refuses)) =
      absurd (refuses.fails final.qualified (final_replaces a q final on hears))
  final_taken now a q mid final hears (inr (other, is)) = absurd (other refl)

  module _ (says : Spelling) (now : ℕ) (touch : StationTouch) (root steps : ℕ) (q q' : Port) (sends : List Send)
      (step : PortStep says k.hearer (suc k.hearer_port) now touch root steps q q' sends)
      (hears' : HearsSettled k q') where
    -- the port isn't disabled in between
    pub mid_on : q'.held ≢ Disabled → step.mid ≢ Disabled
    mid_on on' off = elim step.after [
      | inl (kept, is_kept) ↦ on' (kept ∙ off)
      | inr master ↦ master.on off
    ]

    -- a final Announce stays once roles are selected: the own master vector would be worse
    pub final_kept : (r : Reception) → IsFinal k r.said → step.mid ≡ Received r → q'.held ≡ Received r
    final_kept r final e = elim step.after [
      | inl (kept, is_kept) ↦ kept ∙ e
      | inr becomes ↦ absurd (IsLower-irrefl (final_vector k) (IsLower-trans (final_vector k)
          (master root steps k.hearer (suc k.hearer_port)) (final_vector k)
          (hears'.weaker root steps becomes.mine)
          (subst (IsLower (master root steps k.hearer (suc k.hearer_port))) (message_final r.said final)
          (becomes.is_lower r e))))
    ]
