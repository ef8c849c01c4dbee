-- When a link in use is too long for the threshold, or loses frames (profile).
use Rattle.std.specs.Prelude.{ℕ, ◌==◌, if◌then◌else◌, List, [], ◌∷◌, ◌++◌, Option, Some, None}
use Rattle.std.specs.Option.{option_to_list}
use Rattle.std.specs.List.{flat_map}
use Rattle.gptp_setup.specs.declared.setup.Params.{Params}
use Rattle.gptp_network.specs.Document.{DocumentState}
use Rattle.gptp_scenario.specs.declared.network.LinkSpec.{LinkSpec}
use Rattle.gptp_topology.specs.Course.{course_of}
use Rattle.gptp_topology.specs.Trouble.{is_long, loss_in_use, needed}
use Rattle.gptp_topology.specs.declared.course.Standing.{Standing}
use Rattle.gptp_lint.specs.declared.trouble.Long.{Long}
use Rattle.gptp_lint.specs.declared.trouble.Lossy.{Lossy}

abbrev pub long_at : Params → Standing → Long
long_at p s = record {
  link = s.cable.bounds.link;
  at = s.at;
  max = s.cable.bounds.max;
  needs = needed p s.cable.bounds.max;
}

-- the first time at which a link is in use and isn't good
abbrev pub long_of : Params → List Standing → Option Long
long_of p [] = None
long_of p (s ∷ ss) = if is_long p s then Some (long_at p s) else long_of p ss

-- the first time with another loss than this
abbrev pub next_other : ℕ → List Standing → Option ℕ
next_other loss [] = None
next_other loss (s ∷ ss) = if loss_in_use s == loss then next_other loss ss else Some s.at

-- a stretch of times with this loss; there is none without a loss
abbrev pub lossy_stretch : ℕ → ℕ → ℕ → Option ℕ → List Lossy
lossy_stretch link loss from to =
    if loss == 0 then [] else record { link = link; loss = loss; from = from; to = to } ∷ []

-- The longest stretches of times with one loss. A stretch begins at each time with another loss than at the time
-- before, and ends at the first with another again. Before the first time this was the loss.
abbrev pub stretches : ℕ → ℕ → List Standing → List Lossy
stretches link before [] = []
stretches link before (s ∷ ss) =
    (if loss_in_use s == before then [] else lossy_stretch link (loss_in_use s) s.at (next_other (loss_in_use s) ss))
    ++ stretches link (loss_in_use s) ss

-- the long and the lossy links of a document
abbrev pub longs_of : DocumentState → List LinkSpec → List Long
longs_of d = flat_map (λ w. option_to_list (long_of d.network.params (course_of d.events w)))

abbrev pub lossies_of : DocumentState → List LinkSpec → List Lossy
lossies_of d = flat_map (λ w. stretches w.bounds.link 0 (course_of d.events w))
