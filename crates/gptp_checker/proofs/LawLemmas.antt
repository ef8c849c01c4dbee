-- A certificate has one verdict: one first fault, or none where it is the settled choice.
use Rattle.std.proofs.Common.{◌≡◌, ◌⊎◌, ℕ, List, [], ◌∷◌, ◌++◌, sym, ◌∙◌, inl, inr}
use Rattle.gptp_lists.specs.Members.{In}
use Rattle.gptp_graph.specs.Labelling.{SystemLine, line_clocks}
use Rattle.gptp_graph.specs.Order.{IsRising}
use Rattle.gptp_graph.specs.Snapshot.{IsWellFormed, Snapshot}
use Rattle.gptp_graph.proofs.ChoiceLemmas.{same_choice}
use Rattle.gptp_checker.specs.Faults.{IsAccepted, IsFirstFault}
use Rattle.gptp_checker.specs.declared.fault.Fault.{Fault}
use Rattle.gptp_checker.proofs.FaultLemmas.{no_fault}

same_head : {X : Type 0} (x y : X) (xs ys : List X) → x ∷ xs ≡ y ∷ ys → x ≡ y
same_head x y xs ys e = cc

same_rest : {X : Type 0} (x y : X) (xs ys : List X) → x ∷ xs ≡ y ∷ ys → xs ≡ ys
same_rest x y xs ys e = cc

-- of two members of a list, each named by what stands before it, one stands before the other or they are one
one_place : {X : Type 0} (xs ys : List X) (x y : X) (after behind : List X)
    → xs ++ x ∷ after ≡ ys ++ y ∷ behind → (x ≡ y) ⊎ In x ys ⊎ In y xs
one_place [] [] x y after behind e = inl (same_head x y after behind e)
one_place [] (z ∷ ys) x y after behind e = inr (inl (inl (same_head x z after (ys ++ y ∷ behind) e)))
one_place (z ∷ xs) [] x y after behind e = inr (inr (inl (sym (same_head z y (xs ++ x ∷ after) behind e))))
one_place (z ∷ xs) (w ∷ ys) x y after behind e =
    elim (one_place xs ys x y after behind (same_rest z w (xs ++ x ∷ after) (ys ++ y ∷ behind) e)) [
      | inl same ↦ inl same
      | inr k ↦ inr (elim k [ inl first ↦ inl (inr first) | inr second ↦ inr (inr second) ])
    ]

pub one_fault : (version : ℕ) (g : Snapshot) (lines : List SystemLine) (f h : Fault)
    → IsFirstFault version g lines f → IsFirstFault version g lines h → f ≡ h
one_fault version g lines f h x y = elim (one_place x.before y.before f h x.after y.after (x.order ∙ sym y.order)) [
  | inl same ↦ same
  | inr k ↦ elim k [
    | inl first ↦ absurd (x.fails (y.passes f first))
    | inr second ↦ absurd (y.fails (x.passes h second))
  ]
]

pub settled_has_none : (version : ℕ) (g : Snapshot) (lines : List SystemLine) (fault : Fault) → IsWellFormed g
    → IsAccepted version g lines → IsFirstFault version g lines fault → ⊥
settled_has_none version g lines fault wf is x = x.fails (no_fault version g lines fault wf is)

pub one_accepted : (version other : ℕ) (g : Snapshot) (lines others : List SystemLine) → IsWellFormed g
    → IsRising (line_clocks lines) → IsRising (line_clocks others)
    → IsAccepted version g lines → IsAccepted other g others → lines ≡ others
one_accepted version other g lines others wf rising rises is also =
    same_choice g lines others wf is.choice also.choice rising rises
