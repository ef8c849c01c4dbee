-- What events leave of a link: its ends, and bounds that it can have.
use Rattle.std.proofs.Common.{◌≡◌, ℕ, zero, suc, Bool, true, false, cond, List, [], ◌∷◌, refl, ◌∙◌}
use Rattle.gptp_links.specs.Bounds.{Fit}
use Rattle.gptp_scenario.specs.Allowed.{AreAllowed, IsFitAct}
use Rattle.gptp_scenario.specs.Change.{is_at, link_acted, link_after, link_changed, member_with_bounds, with_up}
use Rattle.gptp_scenario.specs.declared.change.Act.{Act}
use Rattle.gptp_scenario.specs.declared.change.Act.TheVariants as acts
use Rattle.gptp_scenario.specs.declared.change.Change.{Change}
use Rattle.gptp_scenario.specs.declared.change.Change.TheVariants as changes
use Rattle.gptp_scenario.specs.declared.change.Timed.{Timed}
use Rattle.gptp_scenario.specs.declared.network.LinkSpec.{LinkSpec}

-- ---- ends

pub record KeepsEnds (v w : LinkSpec) : Type 0 where
  pub a : v.a ≡ w.a
  pub b : v.b ≡ w.b

up_keeps : (test up : Bool) (w : LinkSpec) → KeepsEnds (cond test (with_up up w) w) w
up_keeps true up w = record { a = refl; b = refl }
up_keeps false up w = record { a = refl; b = refl }

set_keeps : (test : Bool) (least greatest loss : ℕ) (w : LinkSpec)
    → KeepsEnds (cond test (member_with_bounds least greatest loss w) w) w
set_keeps true least greatest loss w = record { a = refl; b = refl }
set_keeps false least greatest loss w = record { a = refl; b = refl }

changed_keeps : (change : Change) (w : LinkSpec) → KeepsEnds (link_changed change w) w
changed_keeps (changes.LinkDown clock port) w = up_keeps (is_at clock port w) false w
changed_keeps (changes.LinkUp clock port) w = up_keeps (is_at clock port w) true w
changed_keeps (changes.LinkSet clock port least greatest loss) w = set_keeps (is_at clock port w) least greatest loss w
changed_keeps (changes.Fail clock) w = record { a = refl; b = refl }
changed_keeps (changes.Recover clock) w = record { a = refl; b = refl }
changed_keeps (changes.Priority1 clock value) w = record { a = refl; b = refl }
changed_keeps (changes.Inject clock port octets) w = record { a = refl; b = refl }

pub acted_keeps : (act : Act) (w : LinkSpec) → KeepsEnds (link_acted act w) w
acted_keeps (acts.Deliver link direction) w = record { a = refl; b = refl }
acted_keeps (acts.Expire clock timer) w = record { a = refl; b = refl }
acted_keeps (acts.Change change) w = changed_keeps change w

-- a link keeps its ends
pub after_keeps : (events : List Timed) (w : LinkSpec) → KeepsEnds (link_after events w) w
after_keeps [] w = record { a = refl; b = refl }
after_keeps (t ∷ ts) w =
    let one = acted_keeps t.act w in let rest = after_keeps ts (link_acted t.act w) in
    record { a = rest.a ∙ one.a; b = rest.b ∙ one.b }

-- ---- bounds

up_fits : (test up : Bool) (w : LinkSpec) → Fit w.bounds → Fit (cond test (with_up up w) w).bounds
up_fits true up w fit = fit
up_fits false up w fit = fit

set_fits : (test : Bool) (least greatest loss : ℕ) (w : LinkSpec)
    → Fit (member_with_bounds least greatest loss w).bounds
    → Fit w.bounds → Fit (cond test (member_with_bounds least greatest loss w) w).bounds
set_fits true least greatest loss w set fit = set
set_fits false least greatest loss w set fit = fit

changed_fits : (change : Change) (w : LinkSpec) → IsFitAct (acts.Change change) → Fit w.bounds
    → Fit (link_changed change w).bounds
changed_fits (changes.LinkDown clock port) w is fit = up_fits (is_at clock port w) false w fit
changed_fits (changes.LinkUp clock port) w is fit = up_fits (is_at clock port w) true w fit
changed_fits (changes.LinkSet clock port least greatest loss) w is fit =
    set_fits (is_at clock port w) least greatest loss w
    (record { positive = is.positive; ordered = is.ordered; short = is.short; share = is.share }) fit
changed_fits (changes.Fail clock) w is fit = fit
changed_fits (changes.Recover clock) w is fit = fit
changed_fits (changes.Priority1 clock value) w is fit = fit
changed_fits (changes.Inject clock port octets) w is fit = fit

acted_fits : (act : Act) (w : LinkSpec) → IsFitAct act → Fit w.bounds → Fit (link_acted act w).bounds
acted_fits (acts.Deliver link direction) w is fit = fit
acted_fits (acts.Expire clock timer) w is fit = fit
acted_fits (acts.Change change) w is fit = changed_fits change w is fit

-- the bounds of a link stay ones that it can have
pub after_fits : (events : List Timed) (w : LinkSpec) → AreAllowed events → Fit w.bounds
    → Fit (link_after events w).bounds
after_fits [] w allowed fit = fit
after_fits (t ∷ ts) w allowed fit =
    after_fits ts (link_acted t.act w) (λ place timed there. allowed (suc place) timed there)
    (acted_fits t.act w (allowed zero t refl).fit fit)
