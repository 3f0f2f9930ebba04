use Rattle.std.proofs.Common.{ap, ◌∙◌, map, string_bytes}
use Rattle.rtmfp_words.specs.Scanning.{scan_with}
use Rattle.rtmfp_words.proofs.Scanning.{scan_begins, scanned}
use Rattle.rtmfp_words.proofs.scan.scan_words.Goals as goal

pub loop-rest-init : goal.loop-rest-init
loop-rest-init c = ap (λ s. scan_with s (map string_bytes c.args.words.now)) c.empty-scan.ensures ∙ scan_begins (map string_bytes c.args.words.now)

pub returns : goal.returns
returns c = scanned c.loop-rest.scan c.loop-rest.rest.now (map string_bytes c.args.words.now) c.loop-rest.invariant c.in_default.len_below
