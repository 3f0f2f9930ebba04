use Rattle.std.proofs.Common.{map, string_bytes}
use Rattle.rtmfp_words.specs.Node.{IsMeet}
use Rattle.rtmfp_words.specs.NodeReading.{meet_of}
use Rattle.rtmfp_words.proofs.Meeting.{meet_read, meet_said, found_only, found_or_memory}
use Rattle.rtmfp_words.proofs.meet_words.read_meet_words.Goals as goal

pub returns-clause-reads : goal.returns-clause-reads
returns-clause-reads c = found_only (meet_of (map string_bytes c.args.words.now)) c.find_meet.result (λ m. IsMeet c.args.words.now m.port m.turns) c.find_meet.ensures (meet_read c.args.words.now)

pub returns-clause-only : goal.returns-clause-only
returns-clause-only c = λ port turns said. found_or_memory (meet_of (map string_bytes c.args.words.now)) c.find_meet.result (record { port = port; turns = turns }) c.find_meet.ensures (meet_said c.args.words.now port turns said)
