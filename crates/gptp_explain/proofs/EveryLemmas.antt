-- At each time every system of a document has an explanation, or is absent.
use Rattle.std.proofs.Common.{◌≡◌, ◌⊎◌, ◌+◌, ◌<◌, ℕ, zero, suc, Bool, true, false, List, [], ◌∷◌, ◌++◌, map, None, refl, sym, ap, subst, ◌∙◌, inl, inr, arith}
use Rattle.std.specs.List.{range_with_len}
use native.Mathlib.Decide.{ℕ_discrete, dec_lt}
use Rattle.gptp_lists.specs.Members.{Different, In}
use Rattle.gptp_lists.proofs.SystemSpecLemmas.{In-map, from_map}
use Rattle.gptp_graph.specs.Distance.{IsDistance}
use Rattle.gptp_graph.specs.Order.{IsRising}
use Rattle.gptp_graph.specs.Parent.{IsParent, ParentLink}
use Rattle.gptp_graph.specs.Path.{Reaches}
use Rattle.gptp_graph.specs.SettledRole.{Disabled, IsMasterPort, IsSettledRole, Master, Passive, Role, Slave}
use Rattle.gptp_graph.specs.Snapshot.{IsWellFormed, Joins, Snapshot, System, clocks}
use Rattle.gptp_graph.proofs.BestLemmas.{IsBest-agree}
use Rattle.gptp_graph.proofs.DecisionLemmas.{any_dec, dec_both, dec_either, dec_iff, in_dec}
use Rattle.gptp_graph.proofs.DistanceLemmas.{best_at_zero}
use Rattle.gptp_graph.proofs.ExistenceLemmas.{Reaches-dec, best_exists, distance_exists}
use Rattle.gptp_graph.proofs.LinkLemmas.{Joins-clock, Joins-sym}
use Rattle.gptp_graph.proofs.ParentLemmas.{LeadsNearer-distance, no_parent_at_zero, parent_exists}
use Rattle.gptp_graph.proofs.RisingLemmas.{IsArranged, arranged}
use Rattle.gptp_graph.proofs.RoleLemmas.{settled_role_exists}
use Rattle.gptp_graph.proofs.SystemLemmas.{In-clocks, same_identity, system_of}
use Rattle.gptp_scenario.specs.Change.{link_after}
use Rattle.gptp_scenario.specs.Network.{IsEnd}
use Rattle.gptp_scenario.specs.declared.network.LinkSpec.{LinkSpec}
use Rattle.gptp_vector.specs.declared.port.PortId.{PortId}
use Rattle.gptp_network.specs.Document.{DocumentState}
use Rattle.gptp_network.specs.Snapshot.{IsSnapshot, events_by, port_identity}
use Rattle.gptp_network.proofs.ExistenceLemmas.{snapshot_exists}
use Rattle.gptp_network.proofs.MeantLemmas.{meant_document, meant_well}
use Rattle.gptp_explain.specs.Compared.{loss, win}
use Rattle.gptp_explain.specs.Explained.{Explains, ExplainsSystem, IsAbsent, LeadsUp, ShowsWay, path_line, explained_system_line}
use Rattle.gptp_explain.specs.Laws.{EachIsExplained}
use Rattle.gptp_explain.specs.Ports.{ArePortLines, HasWhy, IsKnownLink, IsPortLine, IsPortWay, JoinsPorts, parent_port, explained_port_line}
use Rattle.gptp_explain.specs.Ranks.{AreRanked, rank_lines}
use Rattle.gptp_explain.specs.declared.why.Why.{Why}
use Rattle.gptp_explain.specs.declared.why.Why.TheVariants.{Down, Failed, Loses, Offers, Unlinked, Wins}
use Rattle.gptp_explain.proofs.OneLemmas.{end_of}
use Rattle.gptp_explain.proofs.PortLemmas.{has_failed}

-- ---- the link of a document at a port

port_dec : (p q : PortId) → Dec (p ≡ q)
port_dec p q =
    dec_iff (λ same i. record { clock = same.0 i; port = same.1 i })
    (λ same. (ap (λ (r : PortId). r.clock) same, ap (λ (r : PortId). r.port) same))
    (dec_both (ℕ_discrete p.clock q.clock) (ℕ_discrete p.port q.port))

module _ (d : DocumentState) (at : ℕ) (p : PortId) where
  leads_on : (w : LinkSpec) → IsEnd p w → (q : PortId) × JoinsPorts w p q
  leads_on w (inl is) = (w.b, inl (is, refl))
  leads_on w (inr is) = (w.a, inr (is, refl))

  by_up : (w : LinkSpec) (q : PortId) (up : Bool) → In w d.network.links → JoinsPorts w p q
      → (link_after (events_by at d.events) w).up ≡ up → (why : Why) × IsKnownLink d at p why
  by_up w q false one leads is = (Down q, record { wire = w; one = one; leads = leads; stands = is })
  by_up w q true one leads is = (Failed q, record { wire = w; one = one; leads = leads; stands = is })

  end_dec : (w : LinkSpec) → Dec (IsEnd p w)
  end_dec w = dec_either (port_dec w.a p) (port_dec w.b p)

  known_exists : (why : Why) × IsKnownLink d at p why
  known_exists = elim (any_dec (IsEnd p) d.network.links (λ w one. end_dec w)) [
    | no none ↦ (Unlinked, λ w q one leads. none (w, one, end_of p q w leads))
    | yes found ↦ (let (q, leads) = leads_on found.0 found.2 in
        by_up found.0 q (link_after (events_by at d.events) found.0).up found.1 leads refl)
  ]

-- ---- ports

module _ (g : Snapshot) (wf : IsWellFormed g) where
  module _ (p q : PortId) (joins : Joins g (port_identity p) (port_identity q))
      (no_master : IsMasterPort g (port_identity p) → ⊥) where
    -- a port that isn't Master has a parent at its system: that isn't the root, whose ports are nearer than the other
    -- ends
    has_parent : (h e : ℕ) → IsDistance g p.clock h → IsDistance g q.clock e → (l : ParentLink) × IsParent g p.clock l
    has_parent (suc h) e here over = parent_exists g p.clock h wf here
    has_parent zero (suc e) here over = absurd (no_master (record {
      other = port_identity q;
      joins = joins;
      here = 0;
      there = suc e;
      is_here = here;
      is_there = over;
      nearer = inl (omega arith);
    }))
    has_parent zero zero here over =
        let same = IsBest-agree g p.clock q.clock here.best over.best wf (p.port, q.port, joins) here.is_best
        over.is_best in
        absurd (wf.apart (port_identity p) (port_identity q) joins
        (sym (best_at_zero g p.clock here.best wf here.is_best here) ∙ ap (λ (s : System). s.clock) same
        ∙ best_at_zero g q.clock over.best wf over.is_best over))

  -- ---- the way up

  leads_up_exists : (v h : ℕ) → IsDistance g v h → (above : List ℕ) × LeadsUp g v above
  leads_up_exists v zero here = ([], λ l is. no_parent_at_zero g v l wf here is)
  leads_up_exists v (suc h) here =
      let (l, is) = parent_exists g v h wf here in
      let steps : suc h ≡ suc is.nearer.distance = LeadsNearer-distance g v (suc h) l wf here is.nearer in
      let left : is.nearer.distance ≡ h = omega (arith, steps) in
      let (above, leads) = leads_up_exists l.clock h (subst (IsDistance g l.clock) left is.nearer.there) in
      (l.clock ∷ above, ((l, is, refl), leads))

  module _ (d : DocumentState) (at : ℕ) (stands : IsSnapshot d at g) where
    -- a port has its role for a reason
    why_exists : (p : PortId) (role : Role) → In p.clock (clocks g) → IsSettledRole g (port_identity p) role
        → (why : Why) × HasWhy d at g p role why
    why_exists p Disabled live out =
        let (why, known) = known_exists d at p in (why, (known, has_failed d at p g why stands live out known))
    why_exists p Slave live (linked, (l, is, own)) =
        let (h, here) = distance_exists g p.clock wf live in (Offers (parent_port l) h, (l, h, is, here, refl))
    why_exists p Master live ((q, joins), _, _) =
        let there : PortId = record { clock = q.clock; port = q.port } in
        let (h, here) = distance_exists g p.clock wf live in
        let (e, over) = distance_exists g q.clock wf
        (Joins-clock g q (port_identity p) wf (Joins-sym g (port_identity p) q joins)) in
        let way : IsPortWay g p = record {
          there = there;
          joins = joins;
          steps = h;
          here = here;
          beyond = e;
          beyond_is = over;
        } in
        (Wins there (win h p.clock e q.clock), (way, refl))
    why_exists p Passive live ((q, joins), _, no_master) =
        let there : PortId = record { clock = q.clock; port = q.port } in
        let (h, here) = distance_exists g p.clock wf live in
        let (e, over) = distance_exists g q.clock wf
        (Joins-clock g q (port_identity p) wf (Joins-sym g (port_identity p) q joins)) in
        let (l, is) = has_parent p there joins no_master h e here over in
        let way : IsPortWay g p = record {
          there = there;
          joins = joins;
          steps = h;
          here = here;
          beyond = e;
          beyond_is = over;
        } in
        (Loses there (e + 1) (loss h (parent_port l) (e + 1) there), (l, way, is, refl))

    port_line_exists : (p : PortId) → In p.clock (clocks g) → (line : List ℕ) × IsPortLine d at g p line
    port_line_exists p live =
        let (role, settled) = settled_role_exists g (port_identity p) wf live in
        let (why, has) = why_exists p role live settled in
        (explained_port_line p role why, record { role = role; settled = settled; why = why; has = has; is = refl })

    port_lines_exist : (v : ℕ) (ns : List ℕ) → In v (clocks g)
        → (lines : List (List ℕ)) × ArePortLines d at g v ns lines
    port_lines_exist v [] live = ([], refl)
    port_lines_exist v (n ∷ ns) live =
        let (line, is) = port_line_exists (record { clock = v; port = n }) live in
        let (rest, are) = port_lines_exist v ns live in
        (line ∷ rest, (line, rest, refl, is, are))

    shows_exists : (s : System) (h : ℕ) → In s.clock (clocks g) → IsDistance g s.clock h
        → (lines : List (List ℕ)) × ShowsWay d at g s h lines
    shows_exists s h live here = elim (dec_lt h 255) [
      | yes near ↦ (let (above, leads) = leads_up_exists s.clock h here in
          let (ports, are) = port_lines_exist s.clock (range_with_len 1 s.ports) live in (
            path_line s.clock above ∷ ports,
            inl (near, record { above = above; leads = leads; ports = ports; are_ports = are; are = refl }),
          ))
      | no far ↦ ([], inr (omega (arith, far), refl))
    ]

-- ---- the order of a component

abbrev clock_in : System → ℕ
clock_in s = s.clock

abbrev identity_in : System → ℕ
identity_in s = s.identity

-- of some systems those that v reaches, by rising identity
record HaveReached (g : Snapshot) (v : ℕ) (systems : List System) : Type 0 where
  ids : List ℕ
  rising : IsRising ids
  all : (s : System) → In s systems → Reaches g v s.clock → In s.identity ids
  no_other : (id : ℕ) → In id ids → (s : System) × In s systems × Reaches g v s.clock × (s.identity ≡ id)

module _ (g : Snapshot) (wf : IsWellFormed g) where
  -- systems of different clocks have different identities
  identities_differ : (systems : List System) → ((s : System) → In s systems → In s g.systems)
      → Different (map clock_in systems) → Different (map identity_in systems)
  identities_differ [] live different = tt
  identities_differ (s ∷ systems) live different = (
    λ member.
        let (t, there, is) = from_map identity_in s.identity systems member in
        let same : t ≡ s = same_identity g t s wf (live t (inr there)) (live s (inl refl)) is in
        different.0 (subst (λ (u : System). In u.clock (map clock_in systems)) same
        (In-map clock_in t systems there)),
    identities_differ systems (λ t there. live t (inr there)) different.1,
  )

  module _ (v : ℕ) (here : In v (clocks g)) where
    one_more : (s : System) (systems : List System) → IsRising (map identity_in (s ∷ systems))
        → Dec (Reaches g v s.clock) → HaveReached g v systems → HaveReached g v (s ∷ systems)
    one_more s systems rising (yes reached) rest = record {
      ids = s.identity ∷ rest.ids;
      rising = (
        λ id member.
            let (t, there, _, is) = rest.no_other id member in
            subst (λ (n : ℕ). s.identity < n) is (rising.0 t.identity (In-map identity_in t systems there)),
        rest.rising,
      );
      all = λ t there reaches. elim there [
        | inl same ↦ inl (ap identity_in same)
        | inr later ↦ inr (rest.all t later reaches)
      ];
      no_other = λ id member. elim member [
        | inl is ↦ (s, inl refl, reached, sym is)
        | inr later ↦ (let (t, there, reaches, is) = rest.no_other id later in (t, inr there, reaches, is))
      ];
    }
    one_more s systems rising (no apart) rest = record {
      ids = rest.ids;
      rising = rest.rising;
      all = λ t there reaches. elim there [
        | inl same ↦ absurd (apart (subst (λ (u : System). Reaches g v u.clock) same reaches))
        | inr later ↦ rest.all t later reaches
      ];
      no_other = λ id member.
          let (t, there, reaches, is) = rest.no_other id member in (t, inr there, reaches, is);
    }

    reached_exist : (systems : List System) → IsRising (map identity_in systems) → HaveReached g v systems
    reached_exist [] rising = record {
      ids = [];
      rising = tt;
      all = λ s there reaches. absurd there;
      no_other = λ id member. absurd member;
    }
    reached_exist (s ∷ systems) rising =
        one_more s systems rising (Reaches-dec g v s.clock wf here) (reached_exist systems rising.1)

    of_arranged : (systems : List System) → IsArranged identity_in g.systems systems
        → (ids : List ℕ) × AreRanked g v ids
    of_arranged systems is =
        let found = reached_exist systems is.rising in (
          found.ids,
          record {
            rising = found.rising;
            all = λ s live reaches. found.all s (is.kept s live) reaches;
            no_other = λ id member.
                let (s, there, reaches, same) = found.no_other id member in
                (s, is.no_other s there, reaches, same);
          },
        )

    ranked_exists : (ids : List ℕ) × AreRanked g v ids
    ranked_exists =
        let (systems, is) = arranged identity_in g.systems
        (identities_differ g.systems (λ s live. live) wf.different) in
        of_arranged systems is

-- ---- the whole text

system_exists : (d : DocumentState) (at : ℕ) (g : Snapshot) (s : System) → IsSnapshot d at g → IsWellFormed g
    → In s g.systems → (lines : List (List ℕ)) × ExplainsSystem d at g s lines
system_exists d at g s stands wf live =
    let here = In-clocks g s live in
    let (best, is_best) = best_exists g s.clock wf here in
    let (h, is_distance) = distance_exists g s.clock wf here in
    let (way, shows) = shows_exists g wf d at stands s h here is_distance in
    let (ids, are) = ranked_exists g wf s.clock here in (
      explained_system_line s.clock s.identity best.identity h ∷ way ++ rank_lines s.identity 0 None ids,
      record {
        best = best;
        is_best = is_best;
        distance = h;
        is_distance = is_distance;
        way = way;
        shows_way = shows;
        ranked = ids;
        are_ranked = are;
        are = refl;
      },
    )

explained_or_absent : (d : DocumentState) (at clock : ℕ) (g : Snapshot) → IsSnapshot d at g → IsWellFormed g
    → ((lines : List (List ℕ)) × Explains d at clock lines) ⊎ IsAbsent d at clock
explained_or_absent d at clock g stands wf = elim (in_dec clock (clocks g)) [
  | no absent ↦ inr (record { snapshot = g; is_snapshot = stands; absent = absent })
  | yes there ↦ (let (s, live, has) = system_of g clock there in
      let (lines, explains) = system_exists d at g s stands wf live in
      inl (
        lines,
        record {
          snapshot = g;
          is_snapshot = stands;
          system = s;
          live = live;
          has = has;
          explains = explains;
        },
      ))
]

pub each_is_explained : EachIsExplained
each_is_explained text d at clock means =
    let (g, stands) = snapshot_exists d at (meant_document text d means).0 in
    explained_or_absent d at clock g stands (meant_well text d at g means stands)
