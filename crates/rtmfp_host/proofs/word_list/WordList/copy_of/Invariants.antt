use Rattle.std.proofs.Common.{◌≡◌, map, string_bytes, take}
use Rattle.rtmfp_host.proofs.word_list.WordList.copy_of.Given as goal

abbrev pub invariant-loop-word : goal.invariant-loop-word
invariant-loop-word l = map string_bytes l.copy.items ≡ take l.word-index (map string_bytes l.words)
