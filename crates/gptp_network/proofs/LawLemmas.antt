-- A text means one document or has one fault, and a document has one snapshot at a time.
use Rattle.std.proofs.Common.{◌≡◌, ◌⊎◌, ℕ, Bool, true, false, List, Option, Some, None, Result, Ok, Err, refl, sym, ap, ◌∙◌, inl, inr}
use Rattle.std.specs.Str.{is_utf8}
use Rattle.std.proofs.lemmas.Option.{same_Some}
use Rattle.std.proofs.lemmas.Str.{IsUtf8-from_is_utf8, is_utf8-from_IsUtf8}
use Rattle.std.proofs.lemmas.List.Sorted.{IsPermutation-sym}
use Rattle.toml.specs.Data.{Members}
use Rattle.toml.specs.Parse.{parse_document}
use Rattle.gptp_graph.specs.Snapshot.{Link, Snapshot, System}
use Rattle.gptp_graph.proofs.RisingLemmas.{same_rising}
use Rattle.gptp_lists.specs.Members.{In}
use Rattle.gptp_scenario.specs.Network.{IsNetwork}
use Rattle.gptp_network.specs.Document.{DocumentState, Fails, Means, Parses, document_of}
use Rattle.gptp_network.specs.Snapshot.{IsSnapshot, IsWithinLimits, events_by, live_systems, used_links}
use Rattle.gptp_network.specs.declared.fault.DocumentFault.{DocumentFault}
use Rattle.gptp_network.specs.declared.fault.DocumentFault.TheVariants.{NotToml}
use Rattle.gptp_network.proofs.SnapshotLemmas.{In-permutation, stands_within}

-- what a table makes is one document, or has one fault
one_ok : (made : Result DocumentState DocumentFault) (d e : DocumentState) → made ≡ Ok d → made ≡ Ok e → d ≡ e
one_ok made d e x y = cc

one_err : (made : Result DocumentState DocumentFault) (f g : DocumentFault) → made ≡ Err f → made ≡ Err g → f ≡ g
one_err made f g x y = cc

not_both : (made : Result DocumentState DocumentFault) (d : DocumentState) (f : DocumentFault) → made ≡ Ok d
    → made ≡ Err f → ⊥
not_both made d f x y = absurd cc

-- a text is TOML for one table
one_table : (text : List ℕ) (t u : Members) → Parses text t → Parses text u → t ≡ u
one_table text t u x y = same_Some t u (sym x.table ∙ y.table)

pub one_meaning : (text : List ℕ) (d e : DocumentState) → Means text d → Means text e → d ≡ e
one_meaning text d e x y =
    let same = one_table text x.table y.table x.parses y.parses in
    one_ok (document_of y.table) d e (ap document_of (sym same) ∙ x.is) y.is

pub never_both : (text : List ℕ) (d : DocumentState) (fault : DocumentFault) → Means text d → Fails text fault → ⊥
never_both text d fault x (inl (_, none)) = none x.table x.parses
never_both text d fault x (inr (t, parses, is)) =
    let same = one_table text x.table t x.parses parses in
    not_both (document_of t) d fault (ap document_of (sym same) ∙ x.is) is

pub one_fault : (text : List ℕ) (f g : DocumentFault) → Fails text f → Fails text g → f ≡ g
one_fault text f g (inl (f-is, _)) (inl (g-is, _)) = f-is ∙ sym g-is
one_fault text f g (inl (_, none)) (inr (t, parses, _)) = absurd (none t parses)
one_fault text f g (inr (t, parses, _)) (inl (_, none)) = absurd (none t parses)
one_fault text f g (inr (t, t-parses, f-is)) (inr (u, u-parses, g-is)) =
    let same = one_table text t u t-parses u-parses in
    one_err (document_of u) f g (ap document_of (sym same) ∙ f-is) g-is

-- each text means a document, or has a fault
abbrev pub MeansOrFails : List ℕ → Type 0
MeansOrFails text = ((d : DocumentState) × Means text d) ⊎ ((fault : DocumentFault) × Fails text fault)

module _ (text : List ℕ) where
  of_table : (t : Members) (made : Result DocumentState DocumentFault) → Parses text t → document_of t ≡ made
      → MeansOrFails text
  of_table t (Ok d) parses is = inl (d, record { table = t; parses = parses; is = is })
  of_table t (Err fault) parses is = inr (fault, inr (t, parses, is))

  of_parsed : (parsed : Option Members) → is_utf8 text ≡ true → parse_document text ≡ parsed → MeansOrFails text
  of_parsed None utf8 is =
      inr (NotToml, inl (refl, λ t parses. absurd (let table = parses.table in cc)))
  of_parsed (Some t) utf8 is =
      of_table t (document_of t) (record { utf8 = IsUtf8-from_is_utf8 text utf8; table = is }) refl

  of_octets : (utf8 : Bool) → is_utf8 text ≡ utf8 → MeansOrFails text
  of_octets true is = of_parsed (parse_document text) is refl
  of_octets false is =
      inr (NotToml, inl (refl, λ t parses. absurd (let utf8 = is_utf8-from_IsUtf8 text parses.utf8 in cc)))

  pub means_or_fails : MeansOrFails text
  means_or_fails = of_octets (is_utf8 text) refl

abbrev snapshot : List System → List Link → Snapshot
snapshot systems links = record { systems = systems; links = links }

-- the systems are arranged by their clocks, and the links are those between them
pub one_snapshot : (d : DocumentState) (at : ℕ) (g h : Snapshot) → IsSnapshot d at g → IsSnapshot d at h → g ≡ h
one_snapshot d at g h x y =
    let events = events_by at d.events in
    let live = live_systems d.network.systems events in
    let to : (s : System) → In s g.systems → In s h.systems =
    λ s k. In-permutation s live h.systems y.systems
    (In-permutation s g.systems live (IsPermutation-sym live g.systems x.systems) k) in
    let back : (s : System) → In s h.systems → In s g.systems =
    λ s k. In-permutation s live g.systems x.systems
    (In-permutation s h.systems live (IsPermutation-sym live h.systems y.systems) k) in
    let systems : g.systems ≡ h.systems =
    same_rising (λ (s : System). s.clock) g.systems h.systems x.rising y.rising to back in
    let links : g.links ≡ h.links = x.links ∙ ap (used_links d.network.links events) systems ∙ sym y.links in
    ap (λ kept. snapshot kept g.links) systems ∙ ap (λ kept. snapshot h.systems kept) links

pub within_limits : (d : DocumentState) (at : ℕ) (g : Snapshot) → IsNetwork d.network → IsSnapshot d at g
    → IsWithinLimits g
within_limits d at g network stands = stands_within d.network network (events_by at d.events) g stands
