use Rattle.std.proofs.Common.{◌≡◌, refl, sym, subst, ◌∙◌}
use Rattle.std.specs.List.{range_with_len}
use Rattle.gptp_checker.specs.Places.{numbers_of}
use Rattle.gptp_checker.proofs.systems.has_all_ports.Goals as goal

pub returns-then-line : goal.returns-then-line
returns-then-line c = ((λ t near. absurd (let e = sym near ∙ c.if-line.true in cc)), (λ h. refl))

pub returns : goal.returns
returns c =
    let same = c.deref.ensures.value in (
      (λ t near. subst (λ ports. numbers_of ports ≡ range_with_len 1 c.args.count) same (c.are_all_ports.ensures.0 t)),
      (λ h. c.are_all_ports.ensures.1 (subst (λ ports. numbers_of ports ≡ range_with_len 1 c.args.count) (sym same)
          (h c.if-line.false))),
    )
