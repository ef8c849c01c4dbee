-- Where what a port holds after an answer came from.
use Rattle.std.proofs.Common.{◌≡◌, ◌⊎◌, ℕ, suc, List, Some, slice_get, sym, ap, ◌∙◌, inl, inr}
use Rattle.gptp_bmca_machine.specs.Frame.{Announce, Spelling, Send}
use Rattle.gptp_bmca_machine.specs.Station.{Reception, Held, Disabled, Aged, Mine, Received, Port, Station, HoldsAt}
use Rattle.gptp_bmca_machine.specs.Touch.{StationTouch, Hear, Tick, Grow, Enable, Disable, Other, IsUsable, HeldInTouch, Replaces}
use Rattle.gptp_bmca_machine.specs.Reacts.{PortStep, StationReacts}
use Rattle.gptp_bmca_machine.proofs.PlaceLemmas.{received_injective}

-- the reception is of the Announce of this touch of port n, which the system with clock c may use
pub record JustHeard (c n now : ℕ) (touch : StationTouch) (r : Reception) : Type 0 where
  pub said : Announce
  pub touched : touch ≡ Hear n said
  pub qualified : IsUsable c said
  pub is_said : r.said ≡ said
  pub at : r.at ≡ now

-- what a port received after a touch it had received before, or just heard
pub mid_from : (c n now : ℕ) (touch : StationTouch) (held mid : Held) (r : Reception)
    → HeldInTouch c n touch now held mid
    → mid ≡ Received r → (held ≡ Received r) ⊎ JustHeard c n now touch r
mid_from c n now (Hear m a) held mid r (inl (same, on, inl takes)) e =
    let taken : Reception = record { said = a; at = now; span = takes.span } in
    let r_is : taken ≡ r = received_injective taken r (sym takes.is ∙ e) in
    inr (record {
      said = a;
      touched = λ i. Hear (sym same i) a;
      qualified = takes.qualified;
      is_said = λ i. (sym r_is i).said;
      at = λ i. (sym r_is i).at;
    })
mid_from c n now (Hear m a) held mid r (inl (same, on, inr refuses)) e = inl (sym refuses.is ∙ e)
mid_from c n now (Hear m a) held mid r (inr (other, is)) e = inl (sym is ∙ e)
mid_from c n now (Tick m) held mid r is e = inl (sym is ∙ e)
mid_from c n now (Grow m) held mid r (inl (same, is)) e = absurd (let x : Aged ≡ Received r = sym is ∙ e in cc)
mid_from c n now (Grow m) held mid r (inr (other, is)) e = inl (sym is ∙ e)
mid_from c n now (Enable m) held mid r (inl (same, off, is)) e =
    absurd (let x : Aged ≡ Received r = sym is ∙ e in cc)
mid_from c n now (Enable m) held mid r (inr (other, is)) e = inl (sym is ∙ e)
mid_from c n now (Disable m) held mid r (inl (same, is)) e =
    absurd (let x : Disabled ≡ Received r = sym is ∙ e in cc)
mid_from c n now (Disable m) held mid r (inr (other, is)) e = inl (sym is ∙ e)
mid_from c n now Other held mid r is e = inl (sym is ∙ e)

-- what a port received after a touch it had received before, or it just heard it, could use it, and it replaced what
-- the port held
pub mid_heard : (c n now : ℕ) (touch : StationTouch) (held mid : Held) (r : Reception) → HeldInTouch c n touch now
    held mid
    → mid ≡ Received r
    → (held ≡ Received r)
    ⊎ ((a : Announce) × (touch ≡ Hear n a) × IsUsable c a × Replaces c n a held × (r.said ≡ a))
mid_heard c n now (Hear m a) held mid r (inl (same, on, inl takes)) e =
    let one = received_injective r (record { said = a; at = now; span = takes.span }) (sym e ∙ takes.is) in
    inr (a, (λ i. Hear (sym same i) a), takes.qualified, takes.replaces, ap (λ (z : Reception). z.said) one)
mid_heard c n now (Hear m a) held mid r (inl (same, on, inr refuses)) e = inl (sym refuses.is ∙ e)
mid_heard c n now (Hear m a) held mid r (inr (other, is)) e = inl (sym is ∙ e)
mid_heard c n now (Tick m) held mid r is e = inl (sym is ∙ e)
mid_heard c n now (Grow m) held mid r (inl (same, is)) e = absurd (let x : Aged ≡ Received r = sym is ∙ e in cc)
mid_heard c n now (Grow m) held mid r (inr (other, is)) e = inl (sym is ∙ e)
mid_heard c n now (Enable m) held mid r (inl (same, off, is)) e =
    absurd (let x : Aged ≡ Received r = sym is ∙ e in cc)
mid_heard c n now (Enable m) held mid r (inr (other, is)) e = inl (sym is ∙ e)
mid_heard c n now (Disable m) held mid r (inl (same, is)) e =
    absurd (let x : Disabled ≡ Received r = sym is ∙ e in cc)
mid_heard c n now (Disable m) held mid r (inr (other, is)) e = inl (sym is ∙ e)
mid_heard c n now Other held mid r is e = inl (sym is ∙ e)

module _ (says : Spelling) (s s' : Station) (touch : StationTouch) (now : ℕ) (sends : List Send)
    (reacts : StationReacts says s touch now s' sends) where
  -- what a system received it had received before, or just heard
  pub held_from : (i : ℕ) (r : Reception) → HoldsAt s' i r → HoldsAt s i r ⊎ JustHeard s.clock (suc i) now touch r
  held_from i r (q', at, holds) = go (reacts.ports i q' at)
    where
      from : (q : Port) → slice_get s.ports i ≡ Some q
          → (q.held ≡ Received r) ⊎ JustHeard s.clock (suc i) now touch r
          → HoldsAt s i r ⊎ JustHeard s.clock (suc i) now touch r
      from q stood (inl before) = inl (q, stood, before)
      from q stood (inr just) = inr just

      go : ((q : Port) × (slice_get s.ports i ≡ Some q)
          × PortStep says s.clock (suc i) now touch s'.root s'.steps q q' sends)
          → HoldsAt s i r ⊎ JustHeard s.clock (suc i) now touch r
      go (q, stood, step) = elim step.after [
        | inl (kept, is_kept) ↦ from q stood
            (mid_from s.clock (suc i) now touch q.held step.mid r step.before (sym kept ∙ holds))
        | inr master ↦ absurd (let x : Mine s'.root s'.steps ≡ Received r = sym master.mine ∙ holds in cc)
      ]
