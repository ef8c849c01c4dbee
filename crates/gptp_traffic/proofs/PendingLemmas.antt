-- States of what is pending.
use Rattle.std.proofs.Common.{◌≡◌, ℕ, zero, suc, ◌≤◌, List, [], ◌∷◌, slice_set, slice_index_or, refl, ap, ◌∙◌}
use Rattle.gptp_links.specs.Queue.{Frame}
use Rattle.gptp_model.specs.declared.item.Item.{Item}
use Rattle.gptp_model.specs.Pending.{Entry, without}
use Rattle.gptp_traffic.specs.Pending.{PendingView}

abbrev made : ℕ → ℕ → List Entry → List (List Frame) → ℕ → PendingView
made systems links entries frames room = record {
  systems = systems;
  links = links;
  entries = entries;
  frames = frames;
  room = room;
}

pub same_state : (p q : PendingView) → p.systems ≡ q.systems → p.links ≡ q.links → p.entries ≡ q.entries
    → p.frames ≡ q.frames → p.room ≡ q.room → p ≡ q
same_state p q systems links entries frames room =
    ap (λ x. made x p.links p.entries p.frames p.room) systems
    ∙ ap (λ x. made q.systems x p.entries p.frames p.room) links
    ∙ ap (λ x. made q.systems q.links x p.frames p.room) entries
    ∙ ap (λ x. made q.systems q.links q.entries x p.room) frames
    ∙ ap (λ x. made q.systems q.links q.entries q.frames x) room

-- ---- all arrivals of a direction cancelled, one after another

-- some entries of an item are cancelled, the first of them, and as many frames of its lane
pub record Cancels (item : Item) (lane : ℕ) (old new : PendingView) : Type 0 where
  pub systems : new.systems ≡ old.systems
  pub links : new.links ≡ old.links
  pub entries : without item new.entries ≡ without item old.entries
  pub frames : slice_set new.frames lane [] ≡ slice_set old.frames lane []
  pub room : old.room ≤ new.room

-- what is set twice, and what is set to itself
pub set-again : {X : Type 0} (xs : List X) (i : ℕ) (x y : X) → slice_set (slice_set xs i x) i y ≡ slice_set xs i y
set-again [] i x y = refl
set-again (z ∷ zs) zero x y = refl
set-again (z ∷ zs) (suc i) x y = ap (λ ws. z ∷ ws) (set-again zs i x y)

pub set-itself : {X : Type 0} (xs : List X) (i : ℕ) (d : X) → slice_set xs i (slice_index_or xs i d) ≡ xs
set-itself [] i d = refl
set-itself (z ∷ zs) zero d = refl
set-itself (z ∷ zs) (suc i) d = ap (λ ws. z ∷ ws) (set-itself zs i d)
