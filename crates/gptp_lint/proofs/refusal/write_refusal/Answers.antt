-- The fault, its place, and a line feed.
use Rattle.std.proofs.Common.{◌++◌, ◌∷◌, [], append_assoc, ap, ◌∙◌}
use Rattle.std.specs.Prelude.{string_bytes}
use Rattle.gptp_lint.proofs.refusal.write_refusal.Goals as goal

pub returns : goal.returns
returns c =
    let pushed = rw c.as_str.ensures.value at c.in_ok-push_str.ensures.bytes in (
      string_bytes c.in_ok-tail.tail,
      c.in_ok-tail.ensures,
      c.in_ok-push_str-2.ensures.bytes
          ∙ ap (λ t. t ++ 10 ∷ [])
          (pushed ∙ ap (λ t. t ++ string_bytes c.in_ok-tail.tail) c.in_ok-write.ensures.bytes)
          ∙ simp append_assoc,
    )
