-- Clocks and roots of lines, the places of links among them, and lines that are marked one after another.
use Rattle.std.proofs.Common.{◌≡◌, ◌≢◌, ◌⊎◌, ◌<◌, ◌+◌, ℕ, zero, suc, List, [], ◌∷◌, ◌++◌, map, length, Some, slice_get, slice_set, slice_index_or, get_or, Contains, refl, sym, ap, subst, ◌∙◌, inl, inr, arith}
use Rattle.std.proofs.lemmas.List.{length-append, length-map, length-set}
use Rattle.std.proofs.lemmas.Option.{slice_get-get_or, slice_get_read, same_Some}
use native.Mathlib.Decide.{dec_lt}
use Rattle.std.specs.List.{All}
use Rattle.std.specs.List.Sorted.{IsNonDecreasing}
use Rattle.gptp_lists.specs.Members.{In}
use Rattle.gptp_lists.proofs.SystemSpecLemmas.{In-map, In-slice_get, slice_get-In}
use Rattle.gptp_lists.proofs.MappedLemmas.{contains_there, mapped_there}
use Rattle.gptp_lists.proofs.PlaceLemmas.{before, get-set_other, get-set_same, map-set, read, same_place}
use Rattle.gptp_graph.specs.Labelling.{SystemLine}
use Rattle.gptp_graph.specs.Order.{IsRising}
use Rattle.gptp_graph.specs.Snapshot.{IsWellFormed, Snapshot, clocks}
use Rattle.gptp_graph.proofs.LinkLemmas.{Joins-clock}
use Rattle.gptp_vector.specs.declared.port.PortId.{PortId}
use Rattle.gptp_invariants.specs.ChoiceView.{port_identity_number}
use Rattle.gptp_world.specs.Used.{snapshot_link}
use Rattle.gptp_certificate_text.specs.Certificate.{line_of, lines_of}
use Rattle.gptp_certificate_text.specs.declared.certificate.SystemLine.{SystemLine as Line}
use Rattle.gptp_certificate.specs.Marking.{AreAmong, LinesAreMarked, IsStart, Marks, clocks_at, port_clocks}
use Rattle.gptp_certificate.specs.Rounds.{value}

-- ---- clocks that rise can be searched

pub rises : (xs : List ℕ) → IsRising xs → IsNonDecreasing xs
rises [] h i j d le lt = absurd (omega arith)
rises (x ∷ xs) h zero zero d le lt = omega arith
rises (x ∷ xs) h zero (suc j) d le lt =
    let member = In-slice_get (get_or xs j d) xs j (slice_get-get_or xs j d (omega arith)) in
    let low = h.0 (get_or xs j d) member in
    omega arith
rises (x ∷ xs) h (suc i) zero d le lt = absurd (omega arith)
rises (x ∷ xs) h (suc i) (suc j) d le lt = rises xs h.1 i j d (omega arith) (omega arith)

-- ---- the links of a snapshot, as a world lists them

module _ (g : Snapshot) (wf : IsWellFormed g) (links : List (PortId × PortId))
    (same : map snapshot_link links ≡ g.links) where
  -- where all clocks of the snapshot are among these, so are those at the ends of each link
  pub ends_among : (cs : List ℕ) → ((v : ℕ) → In v (clocks g) → In v cs) → All (AreAmong cs) links
  ends_among cs all i d below = record { a = among.0; b = among.1 }
    where
      ports : PortId × PortId
      ports = get_or links i d

      joins : In (snapshot_link ports) g.links
      joins =
          subst (In (snapshot_link ports)) same
          (In-map snapshot_link ports links (In-slice_get ports links i (slice_get-get_or links i d below)))

      contains : (v : ℕ) → In v (clocks g) → Contains cs v
      contains v known = let (place, here) = slice_get-In v cs (all v known) in contains_there cs place v here

      among : Contains cs ports.0.clock × Contains cs ports.1.clock
      among =
          let first = port_identity_number ports.0 in let second = port_identity_number ports.1 in (
            contains ports.0.clock (Joins-clock g first second wf (inl joins)),
            contains ports.1.clock (Joins-clock g second first wf (inr joins)),
          )

  ends_same : (xs : List (PortId × PortId)) → map port_clocks xs ≡ map clocks_at (map snapshot_link xs)
  ends_same [] = refl
  ends_same (x ∷ xs) = ap (λ es. port_clocks x ∷ es) (ends_same xs)

  pub ends_are : map port_clocks links ≡ map clocks_at g.links
  ends_are = ends_same links ∙ ap (map clocks_at) same

-- a place that isn't the last is before it
earlier : (i place : ℕ) → i < place + 1 → i ≢ place → i < place
earlier i place below apart = elim (dec_lt i place) [
  | yes less ↦ less
  | no not_less ↦ absurd (apart (omega arith))
]

-- ---- one number more

-- what stands at a place of numbers with one more after
at_before : (xs : List ℕ) (y i : ℕ) → i < length xs → value (xs ++ y ∷ []) i ≡ value xs i
at_before xs y i within =
    let here : slice_get xs i ≡ Some (value xs i) = slice_get-get_or xs i 0 within in
    read (xs ++ y ∷ []) i (value xs i) 0 (before xs y (value xs i) i here)

at_end : (xs : List ℕ) (y : ℕ) → value (xs ++ y ∷ []) (length xs) ≡ y
at_end [] y = refl
at_end (x ∷ xs) y = at_end xs y

-- the numbers of the lines before a place
pub record AreStartsBefore (place : ℕ) (lowest : List ℕ) (lines : List SystemLine) (numbers : List ℕ) : Type 0 where
  pub long : length numbers ≡ place
  pub each : (i : ℕ) (line : SystemLine) → i < place → slice_get lines i ≡ Some line
      → IsStart line (value lowest i) (value numbers i)

pub starts_more : (place : ℕ) (lowest : List ℕ) (lines : List SystemLine) (line : SystemLine) (numbers : List ℕ)
    (number low : ℕ) → slice_get lines place ≡ Some line → value lowest place ≡ low → IsStart line low number
    → AreStartsBefore place lowest lines numbers
    → AreStartsBefore (place + 1) lowest lines (numbers ++ number ∷ [])
starts_more place lowest lines line numbers number low here is_low start so_far = record {
  long = let long = so_far.long in omega (arith, length-append numbers (number ∷ []));
  each = λ i one below there. by i one below there (same_place i place);
}
  where
    by : (i : ℕ) (one : SystemLine) → i < place + 1 → slice_get lines i ≡ Some one → (i ≡ place) ⊎ (i ≢ place)
        → IsStart one (value lowest i) (value (numbers ++ number ∷ []) i)
    by i one below there (inl same) =
        let is : line ≡ one = same_Some line one (sym here ∙ (ap (slice_get lines) (sym same) ∙ there)) in
        let root : low ≡ value lowest i = sym is_low ∙ ap (value lowest) (sym same) in
        let last : number ≡ value (numbers ++ number ∷ []) i =
        sym (at_end numbers number) ∙ ap (value (numbers ++ number ∷ [])) (so_far.long ∙ sym same) in
        subst (λ (l : SystemLine). IsStart l (value lowest i) (value (numbers ++ number ∷ []) i)) is
        (subst (λ r. IsStart line r (value (numbers ++ number ∷ []) i)) root
        (subst (IsStart line low) last start))
    by i one below there (inr apart) =
        let before' = earlier i place below apart in
        let long = so_far.long in
        subst (IsStart one (value lowest i)) (sym (at_before numbers number i (omega arith)))
        (so_far.each i one before' there)

-- ---- one line more is marked

pub marked_none : (lowest numbers : List ℕ) (lines : List SystemLine) → LinesAreMarked 0 lowest numbers lines lines
marked_none lowest numbers lines = record {
  long = refl;
  marked = λ i line below here. absurd (omega arith);
  left = λ i from. refl;
}

pub marked_more : (place : ℕ) (lowest numbers : List ℕ) (old now : List SystemLine) (line new : SystemLine)
    → slice_get now place ≡ Some line → Marks (value lowest place) (value numbers place) line new
    → LinesAreMarked place lowest numbers old now
    → LinesAreMarked (place + 1) lowest numbers old (slice_set now place new)
marked_more place lowest numbers old now line new here marks so_far = record {
  long = length-set now place new ∙ so_far.long;
  marked = λ i one below there. by i one below there (same_place i place);
  left = λ i from. get-set_other now place i new (λ same. omega arith) ∙ so_far.left i (omega arith);
}
  where
    by : (i : ℕ) (one : SystemLine) → i < place + 1 → slice_get old i ≡ Some one → (i ≡ place) ⊎ (i ≢ place)
        → (x : SystemLine) × (slice_get (slice_set now place new) i ≡ Some x)
        × Marks (value lowest i) (value numbers i) one x
    by i one below there (inl same) =
        let is : line ≡ one =
        same_Some line one (sym here ∙ (so_far.left place (omega arith) ∙ (ap (slice_get old) (sym same) ∙ there))) in (
          new,
          ap (slice_get (slice_set now place new)) same ∙ get-set_same now place line new here,
          subst (λ (l : SystemLine). Marks (value lowest i) (value numbers i) l new) is
              (subst (λ j. Marks (value lowest j) (value numbers j) line new) (sym same) marks),
        )
    by i one below there (inr apart) =
        let (x, at, was) = so_far.marked i one (earlier i place below apart) there in
        (x, get-set_other now place i new apart ∙ at, was)

-- one line more is marked, over the lines as the code has them
pub mark_next : (place : ℕ) (lowest numbers : List ℕ) (old : List SystemLine) (cur : List Line) (one new : Line)
    (low : ℕ) → place < length old → place < length lowest → one ≡ slice_index_or cur place one
    → low ≡ slice_index_or lowest place low → Marks low (value numbers place) (line_of one) (line_of new)
    → LinesAreMarked place lowest numbers old (lines_of cur)
    → LinesAreMarked (place + 1) lowest numbers old (lines_of (slice_set cur place new))
mark_next place lowest numbers old cur one new low below low_below is low_is marks so_far =
    let long = so_far.long in let same_long = length-map cur line_of in
    let here : slice_get cur place ≡ Some one =
    slice_get_read cur (length cur) place one refl (omega arith) is in
    let low_at : low ≡ value lowest place =
    sym (read lowest place low 0 (slice_get_read lowest (length lowest) place low refl low_below low_is)) in
    subst (LinesAreMarked (place + 1) lowest numbers old) (sym (map-set line_of cur place new))
    (marked_more place lowest numbers old (lines_of cur) (line_of one) (line_of new)
    (mapped_there line_of cur place one here)
    (subst (λ r. Marks r (value numbers place) (line_of one) (line_of new)) low_at marks) so_far)
