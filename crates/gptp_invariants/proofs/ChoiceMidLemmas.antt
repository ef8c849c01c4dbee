-- What a touch leaves a port with, as the machine sees it.
use Rattle.std.proofs.Common.{◌≡◌, ◌≢◌, ◌⊎◌, ℕ, ℤ, Bool, true, false, ◌&&◌, ◌||◌, ◌==◌, [], ◌∷◌, Some, refl, sym, ap, subst, ◌∙◌, inl, inr}
use Rattle.std.specs.Prelude.{if◌then◌else◌}
use Rattle.std.proofs.lemmas.Bool.{eq-eqb, eqb-true}
use Rattle.gptp_graph.specs.Order.{IsLower}
use Rattle.gptp_graph.specs.Snapshot.{PortIdentity}
use Rattle.gptp_vector.specs.declared.port.PortId.{PortId}
use Rattle.gptp_vector.specs.declared.vector.Vector.{Vector}
use Rattle.gptp_vector.specs.Vector.{lower, master_of, parts}
use Rattle.gptp_messages.specs.declared.announce.AnnounceView.{AnnounceView}
use Rattle.gptp_receipt.specs.declared.held.Held.{Held}
use Rattle.gptp_receipt.specs.declared.held.Held.TheVariants as helds
use Rattle.gptp_receipt.specs.declared.held.Heard.{Heard}
use Rattle.gptp_receipt.specs.declared.held.Heard.TheVariants.{Superior, Repeated, Inferior}
use Rattle.gptp_receipt.specs.declared.held.Reception.{Reception}
use Rattle.gptp_receipt.specs.Held.{against_received, comparison, held_after, message_vector, received, reception, same_source, superior_if}
use Rattle.gptp_receipt.specs.Qualification.{Qualified}
use Rattle.gptp_system.specs.Announcing.{replaces_held}
use Rattle.gptp_system.specs.Touch.{Touch, Hear, Tick, Grow, Enable, Disable, Other, HeardAs, PortHoldsInTouch}
use Rattle.gptp_bmca_machine.specs.Station.{Disabled}
use Rattle.gptp_bmca_machine.specs.Touch.{HeldInTouch as SeenMid, IsUsable as SeenQualified, LeavesHeld, Replaces, TakesAnnounce}
use Rattle.gptp_bmca_machine.specs.Vectors.{message}
use Rattle.gptp_invariants.specs.ChoiceView.{held_view, port_identity_number, reception_view, said, touch_view}
use Rattle.gptp_invariants.proofs.WorldOrderLemmas.{contains_in, in_contains, lower_parts, parts_lower}

-- ---- what may be used

qualified_seen : (c : ℕ) (a : AnnounceView) → Qualified a c → SeenQualified c (said a)
qualified_seen c a k = record {
  foreign = k.foreign;
  near = k.near;
  no_loop = λ member. k.no_loop (in_contains c a.path member);
  short = k.short;
}

seen_qualified : (c : ℕ) (a : AnnounceView) → SeenQualified c (said a) → Qualified a c
seen_qualified c a k = record {
  foreign = k.foreign;
  near = k.near;
  no_loop = λ member. k.no_loop (contains_in c a.path member);
  short = k.short;
}

-- ---- what is replaced

-- what a port received was received there
abbrev pub ReceivedAt : ℕ → Held → Type 0
ReceivedAt n h = (r : Reception) → received h ≡ Some r → r.vector.receiver ≡ n

taken_if : (better : Bool) → replaces_held (superior_if better) ≡ better
taken_if true = refl
taken_if false = refl

taken_received : (known v : Vector) → replaces_held (against_received known v) ≡ (same_source known v || lower v known)
taken_received known v = go (same_source known v)
  where
    go : (same : Bool)
        → replaces_held (if same then Repeated else superior_if (lower v known)) ≡ (same || lower v known)
    go true = refl
    go false = taken_if (lower v known)

both_true : (a b : Bool) → (a && b) ≡ true → (a ≡ true) × (b ≡ true)
both_true true b e = (refl, e)
both_true false b e = absurd cc

either_true : (a b : Bool) → (a || b) ≡ true → (a ≡ true) ⊎ (b ≡ true)
either_true true b e = inl refl
either_true false b e = inr e

or_first : (a b : Bool) → a ≡ true → (a || b) ≡ true
or_first a b e = ap (λ x. x || b) e

or_second : (a b : Bool) → b ≡ true → (a || b) ≡ true
or_second true b e = refl
or_second false b e = e

sources_same : (known v : Vector) → same_source known v ≡ true
    → port_identity_number v.source ≡ port_identity_number known.source
sources_same known v e =
    let (clocks, ports) = both_true (known.source.clock == v.source.clock) (known.source.port == v.source.port) e in
    let clock = eqb-true known.source.clock v.source.clock clocks in
    let port = eqb-true known.source.port v.source.port ports in
    λ i. record { clock = sym clock i; port = sym port i }

same_sources : (known v : Vector) → port_identity_number v.source ≡ port_identity_number known.source
    → same_source known v ≡ true
same_sources known v e =
    let clock = eq-eqb known.source.clock v.source.clock (sym (ap (λ (p : PortIdentity). p.clock) e)) in
    let port = eq-eqb known.source.port v.source.port (sym (ap (λ (p : PortIdentity). p.port) e)) in
    ap (λ b. b && known.source.port == v.source.port) clock ∙ port

-- the parts of what a port received are those of its message vector there
pub parts_of : (n : ℕ) (keep : ℤ → ℕ) (r : Reception) → r.vector.receiver ≡ n
    → parts r.vector ≡ message (reception_view keep r).said n
parts_of n keep r here =
    ap (λ p. r.vector.root ∷ r.vector.steps ∷ r.vector.source.clock ∷ r.vector.source.port ∷ p ∷ []) here

module _ (c n : ℕ) (keep : ℤ → ℕ) (a : AnnounceView) where
  abbrev own : PortId
  own = record { clock = c; port = n }

  abbrev heard : Vector
  heard = message_vector a n

  taken_replaces : (h : Held) → ReceivedAt n h → replaces_held (comparison h own a) ≡ true
      → Replaces c n (said a) (held_view keep h)
  taken_replaces helds.Disabled at taken = absurd cc
  taken_replaces helds.Aged at taken = tt
  taken_replaces (helds.Mine root steps) at taken =
      lower_parts heard (master_of root steps c n) (sym (taken_if (lower heard (master_of root steps c n))) ∙ taken)
  taken_replaces (helds.Received r) at taken =
      by (either_true (same_source r.vector heard) (lower heard r.vector) (sym (taken_received r.vector heard) ∙ taken))
    where
      by : (same_source r.vector heard ≡ true) ⊎ (lower heard r.vector ≡ true)
          → Replaces c n (said a) (held_view keep (helds.Received r))
      by (inl same) = inl (sources_same r.vector heard same)
      by (inr better) =
          inr (subst (IsLower (parts heard)) (parts_of n keep r (at r refl)) (lower_parts heard r.vector better))

  replaces_taken : (h : Held) → ReceivedAt n h → Replaces c n (said a) (held_view keep h)
      → replaces_held (comparison h own a) ≡ true
  replaces_taken helds.Disabled at never = absurd never
  replaces_taken helds.Aged at replaces = refl
  replaces_taken (helds.Mine root steps) at is =
      taken_if (lower heard (master_of root steps c n)) ∙ parts_lower heard (master_of root steps c n) is
  replaces_taken (helds.Received r) at is = taken_received r.vector heard ∙ by is
    where
      by : Replaces c n (said a) (held_view keep (helds.Received r))
          → (same_source r.vector heard || lower heard r.vector) ≡ true
      by (inl same) =
          or_first (same_source r.vector heard) (lower heard r.vector) (same_sources r.vector heard same)
      by (inr lower_is) =
          or_second (same_source r.vector heard) (lower heard r.vector)
          (parts_lower heard r.vector (subst (IsLower (parts heard)) (sym (parts_of n keep r (at r refl))) lower_is))

  -- ---- what is heard

  after_taken : (verdict : Heard) (h : Held) (r : Reception) → replaces_held verdict ≡ true
      → held_after verdict h r ≡ helds.Received r
  after_taken Superior h r e = refl
  after_taken Repeated h r e = refl
  after_taken Inferior h r e = absurd cc

  after_left : (verdict : Heard) (h : Held) (r : Reception) → replaces_held verdict ≡ false → held_after verdict h r ≡ h
  after_left Superior h r e = absurd cc
  after_left Repeated h r e = absurd cc
  after_left Inferior h r e = refl

  heard_seen : (now : ℕ) (h mid : Held) → ReceivedAt n h → HeardAs own a now h mid
      → TakesAnnounce c n (said a) now (held_view keep h) (held_view keep mid)
      ⊎ LeavesHeld c n (said a) (held_view keep h) (held_view keep mid)
  heard_seen now h mid at (inl (qualified, is)) = by (replaces_held (comparison h own a)) refl
    where
      by : (b : Bool) → replaces_held (comparison h own a) ≡ b
          → TakesAnnounce c n (said a) now (held_view keep h) (held_view keep mid)
          ⊎ LeavesHeld c n (said a) (held_view keep h) (held_view keep mid)
      by true taken = inl (record {
        qualified = qualified_seen c a qualified;
        replaces = taken_replaces h at taken;
        span = keep a.head.log_interval;
        is = ap (held_view keep) (is ∙ after_taken (comparison h own a) h (reception a own now) taken);
      })
      by false left = inr (record {
        fails = λ usable replaces. let both = sym (replaces_taken h at replaces) ∙ left in cc;
        is = ap (held_view keep) (is ∙ after_left (comparison h own a) h (reception a own now) left);
      })
  heard_seen now h mid at (inr (unqualified, same)) = inr (record {
    fails = λ usable replaces. unqualified (seen_qualified c a usable);
    is = ap (held_view keep) same;
  })

-- ---- touches

pub seen_on : (keep : ℤ → ℕ) (h : Held) → h ≢ helds.Disabled → held_view keep h ≢ Disabled
seen_on keep helds.Disabled on = λ e. on refl
seen_on keep helds.Aged on = λ e. absurd cc
seen_on keep (helds.Mine root steps) on = λ e. absurd cc
seen_on keep (helds.Received r) on = λ e. absurd cc

-- what a port holds after a touch
pub mid_seen : (c n : ℕ) (keep : ℤ → ℕ) (now : ℕ) (touch : Touch) (h mid : Held) → ReceivedAt n h
    → PortHoldsInTouch c n touch now h mid → SeenMid c n (touch_view touch) now (held_view keep h) (held_view keep mid)
mid_seen c n keep now (Hear p a) h mid at (inl (here, on, heard)) =
    inl (here, seen_on keep h on, heard_seen c n keep a now h mid at heard)
mid_seen c n keep now (Hear p a) h mid at (inr (elsewhere, same)) = inr (elsewhere, ap (held_view keep) same)
mid_seen c n keep now (Tick p) h mid at same = ap (held_view keep) same
mid_seen c n keep now (Grow p) h mid at (inl (here, is)) = inl (here, ap (held_view keep) is)
mid_seen c n keep now (Grow p) h mid at (inr (elsewhere, same)) = inr (elsewhere, ap (held_view keep) same)
mid_seen c n keep now (Enable p) h mid at (inl (here, off, is)) =
    inl (here, ap (held_view keep) off, ap (held_view keep) is)
mid_seen c n keep now (Enable p) h mid at (inr (elsewhere, same)) = inr (elsewhere, ap (held_view keep) same)
mid_seen c n keep now (Disable p) h mid at (inl (here, is)) = inl (here, ap (held_view keep) is)
mid_seen c n keep now (Disable p) h mid at (inr (elsewhere, same)) = inr (elsewhere, ap (held_view keep) same)
mid_seen c n keep now Other h mid at same = ap (held_view keep) same
