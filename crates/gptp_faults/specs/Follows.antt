-- Which roots are followed, by how many systems (profile).
use Rattle.std.specs.Prelude.{◌≡◌, ℕ, List, map}
use Rattle.gptp_graph.specs.Order.{IsRising}
use Rattle.gptp_lists.specs.Members.{In}
use Rattle.gptp_timeline.specs.Stretch.{times}
use Rattle.gptp_faults.specs.declared.follows.Follow.{Follow}

abbrev pub followed : List Follow → List ℕ
followed = map (λ (f : Follow). f.root)

-- each of these roots once, by rising identity, with how often it is there
pub record AreFollows (roots : List ℕ) (follow : List Follow) : Type 0 where
  pub rising : IsRising (followed follow)
  pub all : (root : ℕ) → In root roots → In root (followed follow)
  pub only : (f : Follow) → In f follow → In f.root roots
  pub counted : (f : Follow) → In f follow → f.systems ≡ times roots f.root
