-- Going up from a system over parents.
use Rattle.std.proofs.Common.{◌≡◌, ◌+◌, ◌-◌, ◌<◌, ℕ, suc, List, [], ◌∷◌, ◌++◌, append_assoc, append-nil, refl, ap, subst, arith}
use Rattle.gptp_graph.specs.Snapshot.{Snapshot, IsWellFormed}
use Rattle.gptp_graph.specs.Distance.{IsDistance}
use Rattle.gptp_graph.specs.Parent.{IsParent, ParentLink}
use Rattle.gptp_graph.proofs.DistanceLemmas.{IsDistance-unique}
use Rattle.gptp_graph.proofs.ParentLemmas.{no_parent_at_zero}
use Rattle.gptp_explain.specs.Explained.{LeadsUp}

-- A number of parents have been passed, up to the last; what leads up from there leads up from v.
pub record HasClimbed (g : Snapshot) (v steps step last : ℕ) (way : List ℕ) : Type 0 where
  pub front : List ℕ
  pub is : way ≡ v ∷ front
  pub more : (above : List ℕ) → LeadsUp g last above → LeadsUp g v (front ++ above)
  pub left : IsDistance g last (steps - step)

module _ (g : Snapshot) (wf : IsWellFormed g) (v steps : ℕ) where
  -- none at first
  pub not_yet : IsDistance g v steps → HasClimbed g v steps 0 v (v ∷ [])
  not_yet distance =
      let same : steps - 0 ≡ steps = omega arith in record {
        front = [];
        is = refl;
        more = λ above leads. leads;
        left = rw same distance;
      }

  -- and one more
  pub climbed : (step last up : ℕ) (way : List ℕ) → HasClimbed g v steps step last way → step < steps
      → (l : ParentLink) × IsParent g last l × (l.clock ≡ up)
      → HasClimbed g v steps (step + 1) up (way ++ up ∷ [])
  climbed step last up way h before (l, parent, same) = record {
    front = h.front ++ up ∷ [];
    is = ap (λ w. w ++ up ∷ []) h.is;
    more = λ above leads. rw append_assoc (h.more (up ∷ above) ((l, parent, same), leads));
    left =
        let nearer = parent.nearer in
        let one : suc nearer.distance ≡ steps - step =
        IsDistance-unique g last (suc nearer.distance) (steps - step) wf nearer.here h.left in
        let left : nearer.distance ≡ steps - (step + 1) = omega arith in
        subst (λ d. IsDistance g up d) left (subst (λ w. IsDistance g w nearer.distance) same nearer.there);
  }

  -- where the last has no parent, that is the way
  pub ended : (step last : ℕ) (way : List ℕ) → HasClimbed g v steps step last way
      → ((l : ParentLink) → IsParent g last l → ⊥)
      → (above : List ℕ) × LeadsUp g v above × (way ≡ v ∷ above)
  ended step last way h none =
      (h.front, subst (LeadsUp g v) (append-nil h.front) (h.more [] none), h.is)

  -- after as many steps it has none
  pub at_root : (step last : ℕ) (way : List ℕ) → HasClimbed g v steps step last way → step ≡ steps
      → (l : ParentLink) → IsParent g last l → ⊥
  at_root step last way h all l =
      let none : steps - step ≡ 0 = omega arith in
      no_parent_at_zero g last l wf (subst (IsDistance g last) none h.left)
