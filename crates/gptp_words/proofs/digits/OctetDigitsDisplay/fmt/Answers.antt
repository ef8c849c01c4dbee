use Rattle.std.proofs.Common.{◌++◌, sym, ap, ◌∙◌, rules, append_assoc, append-nil}
use Rattle.std.proofs.Output.{has_written_append, has_written_of_eq}
use Rattle.std.proofs.lemmas.List.{nil_from_length}
use Rattle.std.specs.Slice.Iter.{chunks_rest}
use Rattle.hex.specs.Hex.{encode_lower}
use Rattle.gptp_words.proofs.DigitsLemmas.{encode_lower-nil, encode_lower-append}
use Rattle.gptp_words.proofs.digits.OctetDigitsDisplay.fmt.Goals as goal

-- a block's digits go from what is left to what is written
pub loop-block-preserved : goal.loop-block-preserved
loop-block-preserved g c =
    let steps = c.in-Some.ensures.steps in
    let block = c.in-Some.block.now in
    let rest = chunks_rest c.next.new.self in
    let size = steps.0 ∙ c.loop-block.invariant.0 in (
      size,
      λ plain.
          let so_far = c.loop-block.invariant.1 plain in
          let parts = encode_lower-append block rest ∙ ap encode_lower (sym steps.1.0) in (
            so_far.0 ++ encode_lower block,
            has_written_append _ _ _ _ _ _ so_far.1 (search rules),
            append_assoc so_far.0 _ _ ∙ ap (λ text. so_far.0 ++ text) parts ∙ so_far.2,
          ),
    )

-- at the end nothing is left
pub returns-clause-writes : goal.returns-clause-writes
returns-clause-writes g c = λ plain _.
    let so_far = c.loop-block.invariant.1 plain in
    let none = nil_from_length _ c.in-None.ensures.steps.1.0 in
    has_written_of_eq _ _ _ _ _ (rw (none, encode_lower-nil, append-nil) at so_far.2) so_far.1
