use Rattle.std.proofs.Common.{◌≡◌, map, string_bytes, length}
use Rattle.rtmfp_words.specs.ItemReading.{scan_of}
use Rattle.rtmfp_words.specs.Scanning.{scan_with}
use Rattle.rtmfp_words.proofs.scan.scan_words.Given as goal

abbrev pub invariant-loop-rest : goal.invariant-loop-rest
invariant-loop-rest l = scan_with l.scan (map string_bytes l.rest) ≡ scan_of (map string_bytes l.words)

abbrev pub decreases-loop-rest : goal.decreases-loop-rest
decreases-loop-rest l = length l.rest
