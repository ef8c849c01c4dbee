-- What one fate draws for the same sends is the same, and so is what they leave on the links.
use Rattle.std.proofs.Common.{◌≡◌, ℕ, true, false, List, [], ◌∷◌, ◌++◌, Option, Some, slice_get, refl, sym, ap, subst, ◌∙◌, inl, inr}
use Rattle.gptp_lists.proofs.MappedLemmas.{same_there}
use Rattle.gptp_vector.specs.declared.port.PortId.{PortId}
use Rattle.gptp_links.specs.declared.bounds.Bounds.{Bounds}
use Rattle.gptp_links.specs.declared.link.Direction.{Direction}
use Rattle.gptp_links.specs.Fate.{Draw, Draws}
use Rattle.gptp_system.specs.declared.sending.Sending.{Sending}
use Rattle.gptp_system.specs.State.{SystemState, own as port_of}
use Rattle.gptp_model.specs.Sends.{entered, written, IsUnlinkedPort, SendsAll, SendsOne}
use Rattle.gptp_model.specs.World.{Channel, Net}
use Rattle.gptp_model.proofs.StayLemmas.{carry_join, sends_one_carry}
use Rattle.gptp_determinism.specs.Named.{AnswersOnce, HaveOwnPorts}
use Rattle.gptp_determinism.proofs.NameLemmas.{ports_kept}

module _ {F : Type 0} (answers : Bounds → ℕ → F → Option ℕ → F → Type 0) (once : AnswersOnce answers) where
  -- ---- draws

  -- the same draws lead a fate to one state
  pub draws_once : (fate f g : F) (ds : List Draw) → Draws answers fate ds f → Draws answers fate ds g → f ≡ g
  draws_once fate f g [] k l = k ∙ sym l
  draws_once fate f g (d ∷ ds) (x, k, ks) (y, l, ls) =
      let same = (once d.bounds d.sent fate x y d.answer d.answer k l).1 in
      draws_once y f g ds (subst (λ (z : F). Draws answers z ds f) same ks) ls

  -- draws one after another
  split : (fate f : F) (ds es : List Draw) → Draws answers fate (ds ++ es) f
      → (g : F) × Draws answers fate ds g × Draws answers g es f
  split fate f [] es all = (fate, refl, all)
  split fate f (d ∷ ds) es (x, drawn, all) =
      let (g, front, back) = split x f ds es all in (g, (x, drawn, front), back)

  -- both are drawn from one fate
  pub record AreDrawn (ds es : List Draw) : Type 0 where
    pub fate : F
    pub one : F
    pub other : F
    pub first : Draws answers fate ds one
    pub second : Draws answers fate es other

  -- so are their fronts, and, where those are the same, what comes after
  fronts_drawn : (ds es xs ys : List Draw) → AreDrawn (ds ++ xs) (es ++ ys) → AreDrawn ds es
  fronts_drawn ds es xs ys both =
      let one = split both.fate both.one ds xs both.first in
      let two = split both.fate both.other es ys both.second in
      record { fate = both.fate; one = one.0; other = two.0; first = one.1; second = two.1 }

  backs_drawn : (ds es xs ys : List Draw) → ds ≡ es → AreDrawn (ds ++ xs) (es ++ ys) → AreDrawn xs ys
  backs_drawn ds es xs ys same both =
      let one = split both.fate both.one ds xs both.first in
      let two = split both.fate both.other es ys both.second in
      let fates = draws_once both.fate one.0 two.0 es
      (subst (λ (vs : List Draw). Draws answers both.fate vs one.0) same one.1) two.1 in
      record {
        fate = two.0;
        one = both.one;
        other = both.other;
        first = subst (λ (f : F). Draws answers f xs both.one) fates one.2;
        second = two.2;
      }

  -- What is made in two parts takes the same draws where each part does: the second where this is so of the first.
  pub in_order : {P Q : Type 0} (ds es first second third fourth : List Draw) → AreDrawn ds es → ds ≡ first ++ second
      → es ≡ third ++ fourth → (AreDrawn first third → (first ≡ third) × P)
      → (P → AreDrawn second fourth → (second ≡ fourth) × Q) → (ds ≡ es) × Q
  in_order ds es first second third fourth both d-is e-is front back =
      let all : AreDrawn (first ++ second) (third ++ fourth) =
      subst (λ (vs : List Draw). AreDrawn (first ++ second) vs) e-is
      (subst (λ (vs : List Draw). AreDrawn vs es) d-is both) in
      let (fronts, between) = front (fronts_drawn first third second fourth all) in
      let (backs, after) = back between (backs_drawn first third second fourth fronts all) in (
        d-is ∙ ap (λ (vs : List Draw). vs ++ second) fronts ∙ ap (λ (vs : List Draw). third ++ vs) backs ∙ sym e-is,
        after,
      )

  -- What is made in two parts is the same, with the same draws, where each part is: the second where the first is.
  pub in_turn : {X Y : Type 0} (ds es first second third fourth : List Draw) (x y : X) (v u : Y) → AreDrawn ds es
      → ds ≡ first ++ second → es ≡ third ++ fourth → (AreDrawn first third → (first ≡ third) × (x ≡ y))
      → (x ≡ y → AreDrawn second fourth → (second ≡ fourth) × (v ≡ u)) → (ds ≡ es) × (v ≡ u)
  in_turn ds es first second third fourth x y v u both d-is e-is front back =
      in_order {P = x ≡ y} {Q = v ≡ u} ds es first second third fourth both d-is e-is front back

  -- ---- one send

  draw : Bounds → ℕ → Option ℕ → Draw
  draw bounds sent answer = record { bounds = bounds; sent = sent; answer = answer }

  pub send_once : (now : ℕ) (from : PortId) (octets : List ℕ) (net n m : Net) (d e : Draw) (fate f g : F)
      → HaveOwnPorts net.channels → SendsOne now from octets d net n → SendsOne now from octets e net m
      → answers d.bounds d.sent fate d.answer f → answers e.bounds e.sent fate e.answer g
      → (d ≡ e) × (f ≡ g) × (n ≡ m)
  unfolding draw
  send_once now from octets net n m d e fate f g own k l k-drawn l-drawn =
      let (places, ways) =
      own k.place l.place k.direction l.direction k.channel l.channel k.here l.here (k.begins ∙ sym l.begins) in
      let channels : k.channel ≡ l.channel =
      same_there net.channels l.place k.channel l.channel
      (subst (λ (i : ℕ). slice_get net.channels i ≡ Some k.channel) places k.here) l.here in
      let bounds : d.bounds ≡ e.bounds = k.bounds ∙ ap (λ (c : Channel). c.bounds) channels ∙ sym l.bounds in
      let sent : d.sent ≡ e.sent = k.sent ∙ sym l.sent in
      let asked : answers e.bounds e.sent fate d.answer f =
      subst (λ (b : Bounds). answers b e.sent fate d.answer f) bounds
      (subst (λ (t : ℕ). answers d.bounds t fate d.answer f) sent k-drawn) in
      let (answer, fates) = once e.bounds e.sent fate f g d.answer e.answer asked l-drawn in
      let after : ℕ → Direction → Channel → Option ℕ → Net = λ i way c a. entered i way c now octets a net in (
        ap (λ (b : Bounds). draw b d.sent d.answer) bounds ∙ ap (λ (t : ℕ). draw e.bounds t d.answer) sent
            ∙ ap (λ (a : Option ℕ). draw e.bounds e.sent a) answer,
        fates,
        k.after ∙ ap (λ (i : ℕ). after i k.direction k.channel d.answer) places
            ∙ ap (λ (way : Direction). after l.place way k.channel d.answer) ways
            ∙ ap (λ (c : Channel). after l.place l.direction c d.answer) channels
            ∙ ap (λ (a : Option ℕ). after l.place l.direction l.channel a) answer ∙ sym l.after,
      )

  -- ---- all sends

  -- what is sent from a port at which a link is up isn't without a link
  not_unlinked : (now : ℕ) (from : PortId) (octets : List ℕ) (d : Draw) (net n : Net) → SendsOne now from octets d net n
      → IsUnlinkedPort net from → ⊥
  not_unlinked now from octets d net n k none =
      let down = none k.place k.direction k.channel k.here k.begins in
      let up = k.up in let e : true ≡ false = sym up ∙ down in cc

  pub sends_once : (now : ℕ) (s : SystemState) (xs : List Sending) (net n m : Net) (ds es : List Draw)
      → HaveOwnPorts net.channels → AreDrawn ds es → SendsAll now s xs ds net n → SendsAll now s xs es net m
      → (ds ≡ es) × (n ≡ m)
  sends_once now s [] net n m ds es own both k l = (k.0 ∙ sym l.0, k.1 ∙ sym l.1)
  sends_once now s (x ∷ xs) net n m ds es own both (inl (d, ks, a, d-is, k, k-rest)) (inl (e, ls, b, e-is, l, l-rest)) =
      let (f, f-drawn, f-more) = subst (λ (vs : List Draw). Draws answers both.fate vs both.one) d-is both.first in
      let (g, g-drawn, g-more) = subst (λ (vs : List Draw). Draws answers both.fate vs both.other) e-is both.second in
      let (draws, fates, nets) =
      send_once now (port_of s x.port) (written s x) net a b d e both.fate f g own k l f-drawn g-drawn in
      let joins = carry_join net.channels b.channels
      (sends_one_carry now (port_of s x.port) (written s x) e net b l) in
      let (rest, after) =
      sends_once now s xs b n m ks ls (ports_kept net.channels b.channels joins own)
      (record {
        fate = g;
        one = both.one;
        other = both.other;
        first = subst (λ (z : F). Draws answers z ks both.one) fates f-more;
        second = g-more;
      }) (subst (λ (v : Net). SendsAll now s xs ks v n) nets k-rest) l-rest in (
        d-is ∙ ap (λ (v : Draw). v ∷ ks) draws ∙ ap (λ (vs : List Draw). e ∷ vs) rest ∙ sym e-is,
        after,
      )
  sends_once now s (x ∷ xs) net n m ds es own both (inl (d, ks, a, d-is, k, k-rest)) (inr (none, l)) =
      absurd (not_unlinked now (port_of s x.port) (written s x) d net a k none)
  sends_once now s (x ∷ xs) net n m ds es own both (inr (none, k)) (inl (e, ls, b, e-is, l, l-rest)) =
      absurd (not_unlinked now (port_of s x.port) (written s x) e net b l none)
  sends_once now s (x ∷ xs) net n m ds es own both (inr (_, k)) (inr (_, l)) =
      sends_once now s xs net n m ds es own both k l
