use Rattle.std.proofs.Common.{◌≡◌, sym, subst, ◌∙◌}
use Rattle.std.specs.List.{range_with_len}
use Rattle.gptp_checker.specs.Places.{numbers_of}
use Rattle.gptp_checker.proofs.systems.has_right_ports.Goals as goal

pub returns-then-line : goal.returns-then-line
returns-then-line c = (
  (λ t. record {
    all = λ near. absurd (let e = sym near ∙ c.if-line.true in cc);
    bare = λ far. c.is_bare.ensures.0 t;
  }),
  (λ h. c.is_bare.ensures.1 (h.bare c.if-line.true)),
)

pub returns : goal.returns
returns c =
    let same = c.deref.ensures.value in (
      (λ t. record {
        all = λ near. subst (λ ports. numbers_of ports ≡ range_with_len 1 c.args.count) same
            (c.are_all_ports.ensures.0 t);
        bare = λ far. absurd (let e = sym far ∙ c.if-line.false in cc);
      }),
      (λ h. c.are_all_ports.ensures.1 (subst (λ ports. numbers_of ports ≡ range_with_len 1 c.args.count) (sym same)
          (h.all c.if-line.false))),
    )
