-- A live system has one explanation at a time.
use Rattle.std.proofs.Common.{◌≡◌, ◌+◌, ℕ, Bool, true, false, List, [], ◌∷◌, ◌++◌, map, None, slice_get, refl, sym, ap, ap₂, subst, ◌∙◌, inl, inr, arith}
use Rattle.std.specs.List.{range_with_len}
use Rattle.std.proofs.lemmas.Option.{same_Some}
use Rattle.gptp_lists.specs.Members.{In}
use Rattle.gptp_lists.proofs.SystemSpecLemmas.{In-map, slice_get-In}
use Rattle.gptp_graph.specs.Distance.{IsDistance}
use Rattle.gptp_graph.specs.Order.{IsRising}
use Rattle.gptp_graph.specs.Parent.{ParentLink}
use Rattle.gptp_graph.specs.SettledRole.{Disabled, Master, Passive, Role, Slave}
use Rattle.gptp_graph.specs.Snapshot.{IsWellFormed, Joins, Snapshot, System}
use Rattle.gptp_graph.proofs.BestLemmas.{IsBest-unique}
use Rattle.gptp_graph.proofs.DistanceLemmas.{IsDistance-unique}
use Rattle.gptp_graph.proofs.ParentLemmas.{IsParent-unique}
use Rattle.gptp_graph.proofs.RisingLemmas.{same_rising}
use Rattle.gptp_graph.proofs.RoleLemmas.{RoleBy-unique}
use Rattle.gptp_graph.proofs.SystemLemmas.{same_clock}
use Rattle.gptp_scenario.specs.Change.{link_after}
use Rattle.gptp_scenario.specs.Network.{IsEnd, IsNetwork}
use Rattle.gptp_scenario.specs.declared.network.LinkSpec.{LinkSpec}
use Rattle.gptp_vector.specs.declared.port.PortId.{PortId}
use Rattle.gptp_network.specs.Document.{DocumentState}
use Rattle.gptp_network.specs.Snapshot.{events_by, port_identity}
use Rattle.gptp_network.proofs.LawLemmas.{one_snapshot}
use Rattle.gptp_network.proofs.MeantLemmas.{meant_document, meant_well}
use Rattle.gptp_explain.specs.Compared.{loss, win}
use Rattle.gptp_explain.specs.Explained.{ExplainsSystem, LeadsUp, ShowsNear, ShowsWay, path_line, explained_system_line}
use Rattle.gptp_explain.specs.Laws.{NeverBoth, OneExplanation}
use Rattle.gptp_explain.specs.Ports.{ArePortLines, HasWhy, IsKnownLink, IsDocumentLink, IsPortLine, IsPortWay, JoinsPorts, LosesWay, OffersWay, WinsWay, parent_port, explained_port_line}
use Rattle.gptp_explain.specs.Ranks.{AreRanked, rank_lines}
use Rattle.gptp_explain.specs.declared.why.Why.{Why}
use Rattle.gptp_explain.specs.declared.why.Why.TheVariants.{Down, Failed, Loses, Offers, Unlinked, Wins}

-- ---- the link of a document at a port

-- it ends there
pub end_of : (p q : PortId) (w : LinkSpec) → JoinsPorts w p q → IsEnd p w
end_of p q w (inl ends) = inl ends.0
end_of p q w (inr ends) = inr ends.0

module _ (d : DocumentState) (network : IsNetwork d.network) (p : PortId) where
  one_wire : (v w : LinkSpec) → In v d.network.links → In w d.network.links → IsEnd p v → IsEnd p w → v ≡ w
  one_wire v w one other here there =
      let (i, at) = slice_get-In v d.network.links one in
      let (j, over) = slice_get-In w d.network.links other in
      let place = network.one_link i j v w p at over here there in
      same_Some v w (sym at ∙ ap (slice_get d.network.links) place ∙ over)

  -- its ends differ
  apart : (w : LinkSpec) → In w d.network.links → w.a ≡ w.b → ⊥
  apart w one same =
      let (i, at) = slice_get-In w d.network.links one in
      (network.links i w at).apart (ap (λ (q : PortId). q.clock) same)

  -- so it leads to one port
  other_end : (w : LinkSpec) (q r : PortId) → In w d.network.links → JoinsPorts w p q → JoinsPorts w p r → q ≡ r
  other_end w q r one (inl x) (inl y) = sym x.1 ∙ y.1
  other_end w q r one (inl x) (inr y) = absurd (apart w one (x.0 ∙ sym y.0))
  other_end w q r one (inr x) (inl y) = absurd (apart w one (y.0 ∙ sym x.0))
  other_end w q r one (inr x) (inr y) = sym x.1 ∙ y.1

  module _ (at : ℕ) where
    -- and is up or down
    one_end : (q r : PortId) (s t : Bool) → IsDocumentLink d at p q s → IsDocumentLink d at p r t → (q ≡ r) × (s ≡ t)
    one_end q r s t x y =
        let same : y.wire ≡ x.wire =
        one_wire y.wire x.wire y.one x.one (end_of p r y.wire y.leads) (end_of p q x.wire x.leads) in (
          other_end x.wire q r x.one x.leads (subst (λ (w : LinkSpec). JoinsPorts w p r) same y.leads),
          sym x.stands ∙ ap (λ (w : LinkSpec). (link_after (events_by at d.events) w).up) (sym same) ∙ y.stands,
        )

    -- what is known of it is one thing
    known_once : (a b : Why) → IsKnownLink d at p a → IsKnownLink d at p b → a ≡ b
    known_once Unlinked Unlinked x y = refl
    known_once Unlinked (Down r) x y = absurd (x y.wire r y.one y.leads)
    known_once Unlinked (Failed r) x y = absurd (x y.wire r y.one y.leads)
    known_once Unlinked (Offers r n) x y = absurd y
    known_once Unlinked (Loses r n by) x y = absurd y
    known_once Unlinked (Wins r by) x y = absurd y
    known_once (Down q) Unlinked x y = absurd (y x.wire q x.one x.leads)
    known_once (Down q) (Down r) x y = ap Down (one_end q r false false x y).0
    known_once (Down q) (Failed r) x y = absurd (let clash = (one_end q r false true x y).1 in cc)
    known_once (Down q) (Offers r n) x y = absurd y
    known_once (Down q) (Loses r n by) x y = absurd y
    known_once (Down q) (Wins r by) x y = absurd y
    known_once (Failed q) Unlinked x y = absurd (y x.wire q x.one x.leads)
    known_once (Failed q) (Down r) x y = absurd (let clash = (one_end q r true false x y).1 in cc)
    known_once (Failed q) (Failed r) x y = ap Failed (one_end q r true true x y).0
    known_once (Failed q) (Offers r n) x y = absurd y
    known_once (Failed q) (Loses r n by) x y = absurd y
    known_once (Failed q) (Wins r by) x y = absurd y
    known_once (Offers q n) b x y = absurd x
    known_once (Loses q n by) b x y = absurd x
    known_once (Wins q by) b x y = absurd x

-- ---- ports

module _ (d : DocumentState) (network : IsNetwork d.network) (at : ℕ) (g : Snapshot) (wf : IsWellFormed g) where
  there_once : (p q r : PortId) → Joins g (port_identity p) (port_identity q)
      → Joins g (port_identity p) (port_identity r) → q ≡ r
  there_once p q r x y =
      let same = wf.one_link (port_identity p) (port_identity q) (port_identity r) x y in
      λ i. record { clock = (same i).clock; port = (same i).port }

  -- a port has one way
  way_once : (p : PortId) (v w : IsPortWay g p) → (v.there ≡ w.there) × (v.steps ≡ w.steps) × (v.beyond ≡ w.beyond)
  way_once p v w =
      let there = there_once p v.there w.there v.joins w.joins in (
        there,
        IsDistance-unique g p.clock v.steps w.steps wf v.here w.here,
        IsDistance-unique g w.there.clock v.beyond w.beyond wf
            (subst (λ (q : PortId). IsDistance g q.clock v.beyond) there v.beyond_is) w.beyond_is,
      )

  offers_once : (p : PortId) (a b : Why) → OffersWay g p a → OffersWay g p b → a ≡ b
  offers_once p a b (l, n, l-is, n-is, e) (k, m, k-is, m-is, f) =
      let links = IsParent-unique g p.clock l k l-is k-is in
      let steps = IsDistance-unique g p.clock n m wf n-is m-is in
      e ∙ ap₂ (λ (x : ParentLink) (s : ℕ). Offers (parent_port x) s) links steps ∙ sym f

  loses_once : (p : PortId) (a b : Why) → LosesWay g p a → LosesWay g p b → a ≡ b
  loses_once p a b (l, v, l-is, e) (k, w, k-is, f) =
      let links = IsParent-unique g p.clock l k l-is k-is in
      let (there, steps, beyond) = way_once p v w in
      let same : Loses v.there (v.beyond + 1) (loss v.steps (parent_port l) (v.beyond + 1) v.there)
      ≡ Loses w.there (w.beyond + 1) (loss w.steps (parent_port k) (w.beyond + 1) w.there) = λ i.
      Loses (there i) (beyond i + 1) (loss (steps i) (parent_port (links i)) (beyond i + 1) (there i)) in
      e ∙ same ∙ sym f

  wins_once : (p : PortId) (a b : Why) → WinsWay g p a → WinsWay g p b → a ≡ b
  wins_once p a b (v, e) (w, f) =
      let (there, steps, beyond) = way_once p v w in
      let same : Wins v.there (win v.steps p.clock v.beyond v.there.clock)
      ≡ Wins w.there (win w.steps p.clock w.beyond w.there.clock) = λ i.
      Wins (there i) (win (steps i) p.clock (beyond i) (there i).clock) in
      e ∙ same ∙ sym f

  -- a port of a role has it for one reason
  why_once : (p : PortId) (role : Role) (a b : Why) → HasWhy d at g p role a → HasWhy d at g p role b → a ≡ b
  why_once p Disabled a b x y = known_once d network p at a b x.0 y.0
  why_once p Slave a b x y = offers_once p a b x y
  why_once p Passive a b x y = loses_once p a b x y
  why_once p Master a b x y = wins_once p a b x y

  port_line_once : (p : PortId) (x y : List ℕ) → IsPortLine d at g p x → IsPortLine d at g p y → x ≡ y
  port_line_once p x y k l =
      let roles = RoleBy-unique _ _ _ k.role l.role k.settled l.settled in
      let whys = why_once p l.role k.why l.why (subst (λ (r : Role). HasWhy d at g p r k.why) roles k.has) l.has in
      k.is ∙ ap₂ (explained_port_line p) roles whys ∙ sym l.is

  port_lines_once : (v : ℕ) (ns : List ℕ) (xs ys : List (List ℕ)) → ArePortLines d at g v ns xs
      → ArePortLines d at g v ns ys → xs ≡ ys
  port_lines_once v [] xs ys k l = k ∙ sym l
  port_lines_once v (n ∷ ns) xs ys (x, more, k, x-is, are) (y, others, l, y-is, also) =
      k ∙ ap₂ (λ (line : List ℕ) (lines : List (List ℕ)). line ∷ lines)
      (port_line_once (record { clock = v; port = n }) x y x-is y-is) (port_lines_once v ns more others are also)
      ∙ sym l

  -- ---- the way up

  leads_up_once : (v : ℕ) (xs ys : List ℕ) → LeadsUp g v xs → LeadsUp g v ys → xs ≡ ys
  leads_up_once v [] [] k l = refl
  leads_up_once v [] (w ∷ ws) k ((p, parent, _), _) = absurd (k p parent)
  leads_up_once v (w ∷ ws) [] ((p, parent, _), _) l = absurd (l p parent)
  leads_up_once v (w ∷ ws) (u ∷ us) ((p, p-is, p-at), k) ((q, q-is, q-at), l) =
      let parents = IsParent-unique g v p q p-is q-is in
      let same : w ≡ u = sym p-at ∙ ap (λ (x : ParentLink). x.clock) parents ∙ q-at in
      ap₂ (λ (x : ℕ) (xs : List ℕ). x ∷ xs) same
      (leads_up_once u ws us (subst (λ (x : ℕ). LeadsUp g x ws) same k) l)

  near_once : (s : System) (xs ys : List (List ℕ)) → ShowsNear d at g s xs → ShowsNear d at g s ys → xs ≡ ys
  near_once s xs ys k l =
      let above = leads_up_once s.clock k.above l.above k.leads l.leads in
      let ports = port_lines_once s.clock (range_with_len 1 s.ports) k.ports l.ports k.are_ports l.are_ports in
      k.are ∙ ap₂ (λ (up : List ℕ) (lines : List (List ℕ)). path_line s.clock up ∷ lines) above ports ∙ sym l.are

  shows_once : (s : System) (h : ℕ) (xs ys : List (List ℕ)) → ShowsWay d at g s h xs → ShowsWay d at g s h ys
      → xs ≡ ys
  shows_once s h xs ys (inl (_, k)) (inl (_, l)) = near_once s xs ys k l
  shows_once s h xs ys (inl (near, _)) (inr (far, _)) = absurd (omega (arith, near, far))
  shows_once s h xs ys (inr (far, _)) (inl (near, _)) = absurd (omega (arith, near, far))
  shows_once s h xs ys (inr (_, k)) (inr (_, l)) = k ∙ sym l

-- ---- the order of a component

each_itself : (ids : List ℕ) → map (λ (id : ℕ). id) ids ≡ ids
each_itself [] = refl
each_itself (id ∷ ids) = ap (λ (others : List ℕ). id ∷ others) (each_itself ids)

ranked_once : (g : Snapshot) (v : ℕ) (a b : List ℕ) → AreRanked g v a → AreRanked g v b → a ≡ b
ranked_once g v a b k l =
    same_rising (λ (id : ℕ). id) a b (subst IsRising (sym (each_itself a)) k.rising)
    (subst IsRising (sym (each_itself b)) l.rising) (among a b k l) (among b a l k)
  where
    among : (xs ys : List ℕ) → AreRanked g v xs → AreRanked g v ys → (id : ℕ) → In id xs → In id ys
    among xs ys x y id member =
        let (s, live, reached, is) = x.no_other id member in
        subst (λ (n : ℕ). In n ys) is (y.all s live reached)

-- ---- the whole text

system_once : (d : DocumentState) (at : ℕ) (g : Snapshot) (s : System) (xs ys : List (List ℕ)) → IsNetwork d.network
    → IsWellFormed g → ExplainsSystem d at g s xs → ExplainsSystem d at g s ys → xs ≡ ys
system_once d at g s xs ys network wf k l =
    let bests = IsBest-unique g s.clock k.best l.best wf k.is_best l.is_best in
    let distances = IsDistance-unique g s.clock k.distance l.distance wf k.is_distance l.is_distance in
    let ways = shows_once d network at g wf s l.distance k.way l.way
    (subst (λ (h : ℕ). ShowsWay d at g s h k.way) distances k.shows_way) l.shows_way in
    let ranks = ranked_once g s.clock k.ranked l.ranked k.are_ranked l.are_ranked in
    let same : explained_system_line s.clock s.identity k.best.identity k.distance
    ∷ k.way ++ rank_lines s.identity 0 None k.ranked
    ≡ explained_system_line s.clock s.identity l.best.identity l.distance
    ∷ l.way ++ rank_lines s.identity 0 None l.ranked = λ i.
    explained_system_line s.clock s.identity (bests i).identity (distances i)
    ∷ ways i ++ rank_lines s.identity 0 None (ranks i) in
    k.are ∙ same ∙ sym l.are

pub one_explanation : OneExplanation
one_explanation text d at clock lines others means k l =
    let same : l.snapshot ≡ k.snapshot = one_snapshot d at l.snapshot k.snapshot l.is_snapshot k.is_snapshot in
    let wf : IsWellFormed k.snapshot = meant_well text d at k.snapshot means k.is_snapshot in
    let live : In l.system k.snapshot.systems = subst (λ (g : Snapshot). In l.system g.systems) same l.live in
    let systems : l.system ≡ k.system = same_clock k.snapshot l.system k.system wf live k.live (l.has ∙ sym k.has) in
    system_once d at k.snapshot k.system lines others (meant_document text d means).0 wf k.explains
    (subst (λ (s : System). ExplainsSystem d at k.snapshot s others) systems
    (subst (λ (g : Snapshot). ExplainsSystem d at g l.system others) same l.explains))

-- who lives isn't absent
pub never_both : NeverBoth
never_both d at clock lines k l =
    let same : l.snapshot ≡ k.snapshot = one_snapshot d at l.snapshot k.snapshot l.is_snapshot k.is_snapshot in
    l.absent (subst (λ (g : Snapshot). In clock (map (λ (s : System). s.clock) g.systems)) (sym same)
    (subst (λ (v : ℕ). In v (map (λ (s : System). s.clock) k.snapshot.systems)) k.has
    (In-map (λ (s : System). s.clock) k.system k.snapshot.systems k.live)))
