-- Which links are new at a time, and the link that an act names.
use Rattle.std.proofs.Common.{◌≡◌, ◌≢◌, ◌<◌, ◌≤◌, ℕ, Bool, true, false, ◌==◌, ◌&&◌, not, cond, List, [], ◌∷◌, ◌++◌, ◌+◌, zero, suc, append_assoc, drop, filter, get_or, length, map, Option, Some, None, slice_get, refl, sym, ap, ap₂, ◌∙◌, inl, inr, arith}
use Rattle.std.specs.List.{find}
use Rattle.std.specs.Option.{option_or}
use Rattle.std.proofs.lemmas.Bool.{eqb-false}
use Rattle.std.proofs.lemmas.Option.{slice_get-get_or}
use Rattle.gptp_lists.specs.Members.{In}
use Rattle.gptp_lists.proofs.MappedLemmas.{mapped_there, some_same}
use Rattle.gptp_lists.proofs.SystemSpecLemmas.{slice_get-In}
use Rattle.gptp_vector.specs.declared.port.PortId.{PortId}
use Rattle.gptp_scenario.specs.Allowed.{AreAllowed, IsFitAct}
use Rattle.gptp_scenario.specs.Change.{link_after}
use Rattle.gptp_scenario.specs.Network.{IsNetwork, NetworkState}
use Rattle.gptp_scenario.specs.declared.change.Act.{Act}
use Rattle.gptp_scenario.specs.declared.change.Act.TheVariants as acts
use Rattle.gptp_scenario.specs.declared.change.Change.{Change}
use Rattle.gptp_scenario.specs.declared.change.Change.TheVariants as changes
use Rattle.gptp_scenario.specs.declared.change.Timed.{Timed}
use Rattle.gptp_scenario.specs.declared.network.LinkSpec.{LinkSpec}
use Rattle.gptp_topology.specs.After.{Stand, standing_then, standings_after}
use Rattle.gptp_topology.specs.Course.{cable_is_used, cable_of, cable_wire, is_link_named, named, named_by, names_link}
use Rattle.gptp_topology.specs.Tables.{led, link_named, named_among, named_there, neighbours_at, neighbours_of}
use Rattle.gptp_topology.specs.declared.course.Cable.{Cable}
use Rattle.gptp_topology.specs.declared.course.Standing.{Standing}
use Rattle.gptp_topology.specs.declared.nodes.Neighbour.{Neighbour}
use Rattle.gptp_topology.specs.declared.tables.Tables.{Tables}
use Rattle.gptp_topology.proofs.CourseLemmas.{same_a, same_b}
use Rattle.gptp_topology.proofs.NamedLemmas.{not_at}
use Rattle.gptp_topology.proofs.StandingLemmas.{neighbours_are}
use Rattle.gptp_how_soon.specs.Links.{delay_set, is_old_at, is_used_at, is_used_by, longest_among, longest_delay, longest_set, lost_among, new_among, new_links, new_one}
use Rattle.gptp_how_soon.specs.Times.{is_standing_named}

-- ---- the greatest delay

-- no link takes longer than sixteen seconds, before all events or by one of them
links_short : (links : List LinkSpec)
    → ((place : ℕ) (w : LinkSpec) → slice_get links place ≡ Some w → w.bounds.max ≤ 16000000000)
    → longest_among (map cable_of links) ≤ 16000000000
links_short [] each = omega arith
links_short (w ∷ ws) each =
    let one = each 0 w refl in let rest = links_short ws (λ place. each (suc place)) in omega (arith, one, rest)

act_short : (act : Act) → IsFitAct act → delay_set act ≤ 16000000000
act_short (acts.Deliver link direction) fit = omega arith
act_short (acts.Expire clock timer) fit = omega arith
act_short (acts.Change (changes.LinkDown clock port)) fit = omega arith
act_short (acts.Change (changes.LinkUp clock port)) fit = omega arith
act_short (acts.Change (changes.LinkSet clock port least greatest loss)) fit = fit.short
act_short (acts.Change (changes.Fail clock)) fit = omega arith
act_short (acts.Change (changes.Recover clock)) fit = omega arith
act_short (acts.Change (changes.Priority1 clock value)) fit = omega arith
act_short (acts.Change (changes.Inject clock port octets)) fit = omega arith

sets_short : (events : List Timed) → AreAllowed events → longest_set events ≤ 16000000000
sets_short [] allowed = omega arith
sets_short (t ∷ ts) allowed =
    let one = act_short t.act (allowed 0 t refl).fit in
    let rest = sets_short ts (λ place. allowed (suc place)) in
    omega (arith, one, rest)

pub longest_short : (n : NetworkState) (events : List Timed) → IsNetwork n → AreAllowed events
    → longest_delay n events ≤ 16000000000
longest_short n events network allowed =
    let links = links_short n.links (λ place w there. (network.links place w there).fit.short) in
    let sets = sets_short events allowed in
    omega (arith, links, sets)

-- ---- new links

-- those in use and not used before, by the standings of links now and then
new_by : (first : Bool) (now before : LinkSpec → Standing) (ws : List LinkSpec)
    → new_among first (map now ws) (map cable_is_used (map before ws))
    ≡ map (λ w. (now w).cable)
    (filter (λ w. cable_is_used (now w) && not (not first && cable_is_used (before w))) ws)
new_by first now before [] = refl
new_by first now before (w ∷ ws) =
    by (cable_is_used (now w) && not (not first && cable_is_used (before w)))
    (new_among first (map now ws) (map cable_is_used (map before ws)))
    (filter (λ w. cable_is_used (now w) && not (not first && cable_is_used (before w))) ws)
    (new_by first now before ws)
  where
    by : (test : Bool) (cs : List Cable) (vs : List LinkSpec) → cs ≡ map (λ w. (now w).cable) vs
        → (cond test ((now w).cable ∷ []) []) ++ cs ≡ map (λ w. (now w).cable) (cond test (w ∷ vs) vs)
    by true cs vs is = ap (λ ds. (now w).cable ∷ ds) is
    by false cs vs is = is

pub new_are : (n : NetworkState) (made events : List Timed) (first : Bool)
    → new_among first (standings_after n events) (map cable_is_used (standings_after n made))
    ≡ new_links n made events first
new_are n made events first = new_by first (standing_then n events) (standing_then n made) n.links

-- one link more is looked at
drop_none : {X : Type 0} (place : ℕ) → drop {A = X} place [] ≡ []
drop_none zero = refl
drop_none (suc place) = refl

pub drop_at : {X : Type 0} (xs : List X) (i : ℕ) (x : X) → slice_get xs i ≡ Some x → drop i xs ≡ x ∷ drop (i + 1) xs
drop_at [] i x is = absurd cc
drop_at (y ∷ ys) zero x is = ap (λ z. z ∷ ys) (some_same y x is)
drop_at (y ∷ ys) (suc i) x is =
    let step : suc i + 1 ≡ suc (i + 1) = omega arith in
    drop_at ys i x is ∙ ap (λ k. x ∷ drop k (y ∷ ys)) (sym step)

pub gone_at : {X : Type 0} (us : List X) (i : ℕ) → slice_get us i ≡ None → (drop i us ≡ []) × (drop (i + 1) us ≡ [])
gone_at [] i is = (drop_none i, drop_none (i + 1))
gone_at (u ∷ us) zero is = absurd cc
gone_at (u ∷ us) (suc i) is =
    let step : suc i + 1 ≡ suc (i + 1) = omega arith in
    let (here, behind) = gone_at us i is in
    (here, ap (λ k. drop k (u ∷ us)) step ∙ behind)

none_used : (place : ℕ) → is_used_at [] place ≡ false
none_used zero = refl
none_used (suc place) = refl

new_behind : (start : Bool) (r : Standing) (ss : List Standing) (us vs : List Bool) (place : ℕ) (new : List Cable)
    → new ++ new_among start (drop (place + 1) ss) (drop (place + 1) vs)
    ≡ new_among start (drop place ss) (drop place vs)
    → drop (suc (place + 1)) us ≡ drop (place + 1) vs → drop (suc place) us ≡ drop place vs
    → new ++ new_among start (drop (suc place + 1) (r ∷ ss)) (drop (suc place + 1) us)
    ≡ new_among start (drop (suc place) (r ∷ ss)) (drop (suc place) us)
new_behind start r ss us vs place new rest next this =
    let step : suc place + 1 ≡ suc (place + 1) = omega arith in
    ap (λ k. new ++ new_among start (drop k (r ∷ ss)) (drop k us)) step
    ∙ ap (λ ws. new ++ new_among start (drop (place + 1) ss) ws) next
    ∙ rest ∙ ap (new_among start (drop place ss)) (sym this)

pub new_more : (start : Bool) (ss : List Standing) (us : List Bool) (place : ℕ) (s : Standing)
    → slice_get ss place ≡ Some s
    → new_one s (is_old_at start us place) ++ new_among start (drop (place + 1) ss) (drop (place + 1) us)
    ≡ new_among start (drop place ss) (drop place us)
new_more start [] us place s there = absurd cc
new_more start (r ∷ ss) [] zero s there =
    ap (λ v. new_one v (not start && false) ++ new_among start ss []) (sym (some_same r s there))
new_more start (r ∷ ss) (u ∷ us) zero s there =
    ap (λ v. new_one v (not start && u) ++ new_among start ss us) (sym (some_same r s there))
new_more start (r ∷ ss) [] (suc place) s there =
    let none : is_old_at start [] (suc place) ≡ is_old_at start [] place =
    ap (λ used. not start && used) (none_used (suc place) ∙ sym (none_used place)) in
    ap (λ old. new_one s old ++ new_among start (drop (suc place + 1) (r ∷ ss)) (drop {A = Bool} (suc place + 1) []))
    none
    ∙ new_behind start r ss [] [] place (new_one s (is_old_at start [] place)) (new_more start ss [] place s there)
    (sym (drop_none (place + 1))) (sym (drop_none place))
new_more start (r ∷ ss) (u ∷ us) (suc place) s there =
    new_behind start r ss (u ∷ us) us place (new_one s (is_old_at start us place)) (new_more start ss us place s there)
    refl refl

-- ---- lost links

and_true : (b : Bool) → (b && true) ≡ b
and_true true = refl
and_true false = refl

-- one link more is looked at
lost_more : (us vs : List Bool) (place : ℕ) (u : Bool) → slice_get us place ≡ Some u
    → (u && not (is_used_at vs place)) ∷ lost_among (drop (place + 1) us) (drop (place + 1) vs)
    ≡ lost_among (drop place us) (drop place vs)
lost_more us vs place u there = by (slice_get vs place) refl
  where
    by : (o : Option Bool) → slice_get vs place ≡ o
        → (u && not (is_used_by o)) ∷ lost_among (drop (place + 1) us) (drop (place + 1) vs)
        ≡ lost_among (drop place us) (drop place vs)
    by (Some v) is = sym (ap₂ lost_among (drop_at us place u there) (drop_at vs place v is))
    by None is =
        let (here, behind) = gone_at vs place is in
        ap₂ (λ b rest. b ∷ lost_among (drop (place + 1) us) rest) (and_true u) behind
        ∙ sym (ap₂ lost_among (drop_at us place u there) here)

-- so they are with those before
pub lost_so_far : (us vs : List Bool) (place : ℕ) (d gone used : Bool) (lost lost_too all : List Bool)
    → place < length us → used ≡ is_used_at vs place → gone ≡ (get_or us place d && not used)
    → lost_too ≡ lost ++ gone ∷ []
    → lost ++ lost_among (drop place us) (drop place vs) ≡ all
    → lost_too ++ lost_among (drop (place + 1) us) (drop (place + 1) vs) ≡ all
lost_so_far us vs place d gone used lost lost_too all less used_is gone_is pushed so =
    let u = get_or us place d in
    let rest = lost_among (drop (place + 1) us) (drop (place + 1) vs) in
    ap (λ ls. ls ++ rest) pushed
    ∙ ap (λ b. (lost ++ b ∷ []) ++ rest) (gone_is ∙ ap (λ v. u && not v) used_is)
    ∙ append_assoc lost ((u && not (is_used_at vs place)) ∷ []) rest
    ∙ ap (λ ls. lost ++ ls) (lost_more us vs place u (slice_get-get_or us place d less))
    ∙ so

-- ---- a link that an act names

not_named_by : (change : Change) (c : Cable) → named_by change ≢ c.a.clock → named_by change ≢ c.b.clock
    → names_link change c ≡ false
not_named_by (changes.LinkDown clock port) c a b = not_at clock port (cable_wire c) a b
not_named_by (changes.LinkUp clock port) c a b = not_at clock port (cable_wire c) a b
not_named_by (changes.LinkSet clock port least greatest loss) c a b = not_at clock port (cable_wire c) a b
not_named_by (changes.Fail clock) c a b = refl
not_named_by (changes.Recover clock) c a b = refl
not_named_by (changes.Priority1 clock value) c a b = refl
not_named_by (changes.Inject clock port octets) c a b = not_at clock port (cable_wire c) a b

not_named : (act : Act) (c : Cable) → named act ≢ c.a.clock → named act ≢ c.b.clock → is_link_named act c ≡ false
not_named (acts.Deliver link direction) c a b = refl
not_named (acts.Expire clock timer) c a b = refl
not_named (acts.Change change) c a b = not_named_by change c a b

module _ (n : NetworkState) (network : IsNetwork n) (events : List Timed) where
  abbrev stood : LinkSpec → Standing
  stood = standing_then n events

  -- ---- the link that an act names

  abbrev ss : List Standing
  ss = standings_after n events

  module _ (act : Act) where
    abbrev near : List LinkSpec → List Neighbour
    near ws = neighbours_of (named act) (map cable_of ws)

    find_near : (ws : List LinkSpec) → ((w : LinkSpec) → In w ws → In w n.links)
        → link_named (standings_after n events) act (neighbours_of (named act) (map cable_of ws))
        ≡ find (is_standing_named act) (map stood ws)
    find_near [] among = refl
    find_near (w ∷ ws) among =
        by (w.a.clock == named act) refl (w.b.clock == named act) refl
        (find_near ws (λ x member. among x (inr member)))
      where
        there : slice_get ss w.bounds.link ≡ Some (stood w)
        there =
            let (place, at) = slice_get-In w n.links (among w (inl refl)) in
            ap (slice_get ss) (network.links place w at).number ∙ mapped_there stood n.links place w at

        or_is : (test : Bool) (one other : Option Standing) → one ≡ other
            → option_or (cond test (Some (stood w)) None) one ≡ cond test (Some (stood w)) other
        or_is true one other is = refl
        or_is false one other is = is

        met : link_named ss act (near ws) ≡ find (is_standing_named act) (map stood ws)
            → option_or (named_there ss act w.bounds.link) (link_named ss act (near ws))
            ≡ find (is_standing_named act) (map stood (w ∷ ws))
        met rest =
            ap (λ o. option_or (named_among act o) (link_named ss act (near ws))) there
            ∙ or_is (is_link_named act (stood w).cable) (link_named ss act (near ws))
            (find (is_standing_named act) (map stood ws)) rest

        by : (one : Bool) → (w.a.clock == named act) ≡ one → (two : Bool) → (w.b.clock == named act) ≡ two
            → link_named ss act (near ws) ≡ find (is_standing_named act) (map stood ws)
            → link_named ss act (led (named act) (cable_of w) ++ near ws)
            ≡ find (is_standing_named act) (map stood (w ∷ ws))
        by true one two second rest = rw one (met rest)
        by false one true two rest = rw (one, two) (met rest)
        by false one false two rest =
            let not_a : named act ≢ (link_after events w).a.clock =
            λ same. eqb-false w.a.clock (named act) one
            (sym (same ∙ ap (λ (p : PortId). p.clock) (same_a events w))) in
            let not_b : named act ≢ (link_after events w).b.clock =
            λ same. eqb-false w.b.clock (named act) two
            (sym (same ∙ ap (λ (p : PortId). p.clock) (same_b events w))) in
            let none : is_link_named act (stood w).cable ≡ false =
            not_named act (stood w).cable not_a not_b in
            rw (one, two, none) rest

    pub link_is : (t : Tables) → Stand n events t
        → link_named t.standings.items act (neighbours_at (named act) t.nodes.items)
        ≡ find (is_standing_named act) (standings_after n events)
    link_is t stand =
        ap₂ (λ ss os. link_named ss act os) stand.standings
        (neighbours_are n network events t (named act) stand)
        ∙ find_near n.links (λ w member. member)
