use Rattle.std.proofs.Common.{◌≡◌, ℕ, List, ◌++◌, ◌∷◌, ◌∙◌, [], ap, append_assoc, codes, reverse, string_bytes}
use Rattle.std.specs.List.{flat_map}
use Rattle.gptp_words.specs.Digits.{clock_text}
use Rattle.gptp_explain.proofs.path.write_path.Goals as goal

pub returns : goal.returns
returns c =
    let (above, leads, is) = c.in_ok-way.ensures in
    let words = λ (clocks : List ℕ). flat_map (λ clock. codes " " ++ clock_text clock) clocks in
    let order : c.deref.result.now ≡ reverse (c.args.clock ∷ above) =
    c.deref.ensures.value ∙ c.reverse.ensures.items ∙ ap reverse is in (
      above,
      leads,
      c.in_ok-push_str-2.ensures.bytes
          ∙ ap (λ t. t ++ 10 ∷ []) (c.in_ok-write_clocks.ensures
          ∙ ap (λ clocks. string_bytes c.push_str.new.self ++ words clocks) order
          ∙ ap (λ t. t ++ words (reverse (c.args.clock ∷ above))) c.in_ok-push_str.ensures.bytes)
          ∙ simp append_assoc,
    )
