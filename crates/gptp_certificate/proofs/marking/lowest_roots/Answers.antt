use Rattle.std.proofs.Common.{◌≡◌, ℕ, List, length, ap, subst, sym, ◌∙◌}
use Rattle.std.proofs.lemmas.List.{length-map}
use Rattle.gptp_graph.specs.Labelling.{SystemLine}
use Rattle.gptp_certificate_text.specs.Certificate.{line_of, lines_of}
use Rattle.gptp_certificate.specs.Rounds.{LinksAreWithin}
use Rattle.gptp_certificate.proofs.marking.lowest_roots.Goals as goal

pub settle_identities-requires : goal.settle_identities-requires
settle_identities-requires c =
    let lines = c.args.lines.now in
    let same : length c.in_ok-roots.roots.items ≡ length lines =
    ap (λ (roots : List ℕ). length roots) c.in_ok-roots.ensures
    ∙ (length-map (lines_of lines) (λ (line : SystemLine). line.root) ∙ length-map lines line_of) in
    subst (λ n. LinksAreWithin n c.args.links.now) (sym same) c.requires
