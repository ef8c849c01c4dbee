-- When a link in use is too long for the threshold, and how many frames it loses (profile).
use Rattle.std.specs.Prelude.{ℕ, ◌+◌, ◌==◌, ◌&&◌, ◌||◌, not, nat_lt, Bool, if◌then◌else◌}
use Rattle.gptp_pdelay.specs.GoodLink.{ceil_div}
use Rattle.gptp_setup.specs.Stamping.{blur_of}
use Rattle.gptp_setup.specs.declared.setup.Params.{Params}
use Rattle.gptp_topology.specs.Course.{cable_is_used}
use Rattle.gptp_topology.specs.declared.course.Standing.{Standing}

-- the least threshold at which a link of this greatest delay is good by time stamps, and what the rule of good links
-- asks for
abbrev pub needed : Params → ℕ → ℕ
needed p most =
    let measured = most + blur_of p in measured + ceil_div measured 1000 + ceil_div p.turnaround 2000 + 2

abbrev pub is_long : Params → Standing → Bool
is_long p s = cable_is_used s && nat_lt p.threshold (needed p s.cable.bounds.max)

-- how many of a thousand frames a link loses in use
abbrev pub loss_in_use : Standing → ℕ
loss_in_use s = if cable_is_used s then s.cable.bounds.loss else 0

-- it is in use, and then isn't good or loses frames
abbrev pub is_troubled : Params → Standing → Bool
is_troubled p s = is_long p s || not (loss_in_use s == 0)
