-- Systems and links by their places.
use Rattle.std.proofs.Common.{◌≡◌, ◌≢◌, inl, inr, ℕ, ◌*◌, List, length, map, Option, Some, None, option_map, slice_get, slice_index_or, Contains, refl, sym, ap, subst, ◌∙◌, arith}
use Rattle.std.specs.List.{All}
use Rattle.std.proofs.lemmas.List.{length-map}
use Rattle.std.proofs.lemmas.List.Sorted.{Contains-permutation, IsPermutation-sym}
use Rattle.std.proofs.lemmas.Option.{slice_get-map, slice_get-get_or}
use Rattle.gptp_vector.specs.declared.port.PortId.{PortId}
use Rattle.gptp_links.specs.declared.link.Direction.{Direction}
use Rattle.gptp_links.specs.declared.link.Direction.TheVariants.{FromA, FromB}
use Rattle.gptp_roles.specs.Selection.{clock_of}
use Rattle.gptp_traffic.specs.declared.joined_link.Lane.{Lane}
use Rattle.gptp_world.specs.declared.directory.Ends.{Ends}
use Rattle.gptp_scenario.specs.declared.network.SystemSpec.{SystemSpec}
use Rattle.gptp_scenario.specs.declared.network.LinkSpec.{LinkSpec}
use Rattle.gptp_scenario.specs.Network.{NetworkState, IsNetwork, IsPort, IsEnd}
use Rattle.gptp_world.specs.Directory.{Join, directory_clocks, joins_of, direction_start, BeginsAt, PortIsPlaced, IsPlan, AreRising, ArePlacesOfClocks, AreEndPlaces, AreOuts, AreDirectoryTables, AreNamed}
use Rattle.gptp_lists.proofs.MappedLemmas.{same_there, mapped, mapped_there, contains_there, there_contains}

-- ---- a network

abbrev join_of : LinkSpec → Join
join_of w = record { a = w.a; b = w.b }

placed : (n : NetworkState) (p : PortId) → IsNetwork n → IsPort n.systems p
    → PortIsPlaced (directory_clocks n.systems) p
placed n p h k = record {
  place = k.place;
  there = mapped_there (λ (m : SystemSpec). clock_of m.identity) n.systems k.place k.system k.there ∙ ap Some k.clock;
  first = k.first;
  last = let few = (h.systems k.place k.system k.there).ports in let most = k.last in omega arith;
}

differ : (n : NetworkState) → IsNetwork n → (i j clock : ℕ) → slice_get (directory_clocks n.systems) i ≡ Some clock
    → slice_get (directory_clocks n.systems) j ≡ Some clock → i ≡ j
differ n h i j clock e f =
    let x = mapped (λ (m : SystemSpec). clock_of m.identity) n.systems i clock e in
    let y = mapped (λ (m : SystemSpec). clock_of m.identity) n.systems j clock f in
    h.clocks i j x.0 y.0 x.1 y.1 (x.2 ∙ sym y.2)

abbrev lane : ℕ → Direction → Lane
lane link direction = record { link = link; direction = direction }

-- the two lanes of a link begin at different ports
same_direction : (d e : Direction) (w : LinkSpec) (p : PortId) → w.a.clock ≢ w.b.clock
    → direction_start d (record { a = w.a; b = w.b }) ≡ p → direction_start e (record { a = w.a; b = w.b }) ≡ p → d ≡ e
same_direction FromA FromA w p h e f = refl
same_direction FromB FromB w p h e f = refl
same_direction FromA FromB w p h e f = absurd (h (ap (λ (q : PortId). q.clock) (e ∙ sym f)))
same_direction FromB FromA w p h e f = absurd (h (ap (λ (q : PortId). q.clock) (f ∙ sym e)))

is_end : (d : Direction) (w : LinkSpec) (p : PortId) → direction_start d (record { a = w.a; b = w.b }) ≡ p → IsEnd p w
is_end FromA w p e = inl e
is_end FromB w p e = inr e

one_lane : (n : NetworkState) → IsNetwork n → (p : PortId) (k l : Lane) → BeginsAt (joins_of n.links) p k
    → BeginsAt (joins_of n.links) p l → k ≡ l
one_lane n h p k l bk bl =
    let x = mapped (λ (w : LinkSpec). let j : Join = record { a = w.a; b = w.b } in j) n.links k.link bk.join
    bk.there in
    let y = mapped (λ (w : LinkSpec). let j : Join = record { a = w.a; b = w.b } in j) n.links l.link bl.join
    bl.there in
    let begins_k : direction_start k.direction (record { a = x.0.a; b = x.0.b }) ≡ p = ap
    (direction_start k.direction) x.2
    ∙ bk.begins in
    let begins_l : direction_start l.direction (record { a = y.0.a; b = y.0.b }) ≡ p = ap
    (direction_start l.direction) y.2
    ∙ bl.begins in
    let link : k.link ≡ l.link =
    h.one_link k.link l.link x.0 y.0 p x.1 y.1 (is_end k.direction x.0 p begins_k)
    (is_end l.direction y.0 p begins_l) in
    let wire : y.0 ≡ x.0 = same_there n.links k.link y.0 x.0 (ap (slice_get n.links) link ∙ y.1) x.1 in
    let there = subst (λ (w : LinkSpec). direction_start l.direction (record { a = w.a; b = w.b }) ≡ p) wire begins_l in
    let direction : k.direction ≡ l.direction =
    same_direction k.direction l.direction x.0 p (h.links k.link x.0 x.1).apart begins_k there in
    ap (λ v. lane v k.direction) link ∙ ap (λ v. lane l.link v) direction

pub plan_of : (n : NetworkState) → IsNetwork n → IsPlan (directory_clocks n.systems) (joins_of n.links)
plan_of n h = record {
  few_systems =
      let e = length-map n.systems (λ (m : SystemSpec). clock_of m.identity) in
      let few = h.few_systems in omega arith;
  few_links = let e = length-map n.links (λ (w : LinkSpec). join_of w) in let few = h.few_links in omega arith;
  differ = differ n h;
  placed_a = λ i join e.
      let x = mapped (λ (w : LinkSpec). join_of w) n.links i join e in
      subst (λ (j : Join). PortIsPlaced (directory_clocks n.systems) j.a) x.2 (placed n x.0.a h (h.links i x.0 x.1).a);
  placed_b = λ i join e.
      let x = mapped (λ (w : LinkSpec). join_of w) n.links i join e in
      subst (λ (j : Join). PortIsPlaced (directory_clocks n.systems) j.b) x.2 (placed n x.0.b h (h.links i x.0 x.1).b);
  apart = λ i join e.
      let x = mapped (λ (w : LinkSpec). join_of w) n.links i join e in
      subst (λ (j : Join). j.a.clock ≢ j.b.clock) x.2 (h.links i x.0 x.1).apart;
  one_lane = one_lane n h;
}

-- the systems at the ends of each link are there
pub all_named : (clocks : List ℕ) (joins : List Join) → IsPlan clocks joins → All (AreNamed clocks) joins
all_named clocks joins h k d l =
    let e = slice_get-get_or joins k d l in
    let a = h.placed_a k (slice_index_or joins k d) e in
    let b = h.placed_b k (slice_index_or joins k d) e in
    record {
      a = contains_there clocks a.place (slice_index_or joins k d).a.clock a.there;
      b = contains_there clocks b.place (slice_index_or joins k d).b.clock b.there;
    }

-- ---- places

bare : (a b : Option ℕ) → Some a ≡ option_map Some b → a ≡ b
bare a None e = absurd cc
bare a (Some b) e = cc

-- a place of the list is that of the number that stands there
pub same_at : (clocks numbers places : List ℕ) (k p : ℕ) → ArePlacesOfClocks clocks numbers places
    → slice_get places k ≡ Some p
    → slice_get clocks p ≡ slice_get numbers k
same_at clocks numbers places k p h e =
    let left : slice_get (map (slice_get clocks) places) k ≡ Some (slice_get clocks p) =
    mapped_there (slice_get clocks) places k p e in
    bare (slice_get clocks p) (slice_get numbers k)
    (sym left ∙ ap (λ (v : List (Option ℕ)). slice_get v k) h ∙ slice_get-map Some numbers k)

pub places_length : (clocks numbers places : List ℕ) → ArePlacesOfClocks clocks numbers places
    → length places ≡ length numbers
places_length clocks numbers places h =
    sym (length-map places (slice_get clocks)) ∙ ap length h ∙ length-map numbers Some

pub rank_there : (clocks rising : List ℕ) (place c : ℕ) → AreRising clocks rising → slice_get clocks place ≡ Some c
    → (k : ℕ) × (slice_get rising k ≡ Some c)
rank_there clocks rising place c h e =
    there_contains rising c (Contains-permutation clocks rising c h.all (contains_there clocks place c e))

-- ---- the ends of links

pub ends_length : (clocks : List ℕ) (joins : List Join) (ends : List Ends) → AreEndPlaces clocks joins ends
    → length ends ≡ length joins
ends_length clocks joins ends h =
    sym (length-map ends (λ (e : Ends). e.a))
    ∙ places_length clocks (map (λ (j : Join). j.a.clock) joins) (map (λ (e : Ends). e.a) ends) h.a
    ∙ length-map joins (λ (j : Join). j.a.clock)

pub end_a_at : (clocks : List ℕ) (joins : List Join) (ends : List Ends) (i : ℕ) (join : Join) (e : Ends)
    → AreEndPlaces clocks joins ends → slice_get joins i ≡ Some join → slice_get ends i ≡ Some e
    → slice_get clocks e.a ≡ Some join.a.clock
end_a_at clocks joins ends i join e h at there =
    same_at clocks (map (λ (j : Join). j.a.clock) joins) (map (λ (e : Ends). e.a) ends) i e.a h.a
    (mapped_there (λ (e : Ends). e.a) ends i e there)
    ∙ mapped_there (λ (j : Join). j.a.clock) joins i join at

pub end_b_at : (clocks : List ℕ) (joins : List Join) (ends : List Ends) (i : ℕ) (join : Join) (e : Ends)
    → AreEndPlaces clocks joins ends → slice_get joins i ≡ Some join → slice_get ends i ≡ Some e
    → slice_get clocks e.b ≡ Some join.b.clock
end_b_at clocks joins ends i join e h at there =
    same_at clocks (map (λ (j : Join). j.b.clock) joins) (map (λ (e : Ends). e.b) ends) i e.b h.b
    (mapped_there (λ (e : Ends). e.b) ends i e there)
    ∙ mapped_there (λ (j : Join). j.b.clock) joins i join at

-- ---- all tables

pub tables_of : (clocks : List ℕ) (joins : List Join) (ranked rising : List ℕ) (outs : List (Option Lane))
    (ends : List Ends)
    → IsPlan clocks joins → AreRising clocks rising → ArePlacesOfClocks clocks rising ranked
    → AreEndPlaces clocks joins ends
    → AreOuts (2 * length joins) clocks joins outs
    → AreDirectoryTables (record { clocks = clocks; joins = joins }) rising ranked outs ends
tables_of clocks joins ranked rising outs ends plan r p e o = record {
  directory = record { plan = plan };
  order = r;
  ranked = p;
  at_ends = e;
  lanes = o;
}

-- the clocks in rising order are all among the others
pub all_rising : (clocks rising : List ℕ) → AreRising clocks rising → All (Contains clocks) rising
all_rising clocks rising h k d l =
    Contains-permutation rising clocks (slice_index_or rising k d) (IsPermutation-sym clocks rising h.all)
    (contains_there rising k (slice_index_or rising k d) (slice_get-get_or rising k d l))
