use Rattle.std.proofs.Common.{map, string_bytes}
use Rattle.rtmfp_words.specs.Node.{IsServe}
use Rattle.rtmfp_words.specs.NodeReading.{serve_of}
use Rattle.rtmfp_words.proofs.Meeting.{found_only, found_or_memory}
use Rattle.rtmfp_words.proofs.Serving.{serve_read, serve_said}
use Rattle.rtmfp_words.proofs.serve_words.read_serve_words.Goals as goal

pub returns-clause-reads : goal.returns-clause-reads
returns-clause-reads c = found_only (serve_of (map string_bytes c.args.words.now)) c.find_serve.result (IsServe c.args.words.now) c.find_serve.ensures (serve_read c.args.words.now)

pub returns-clause-only : goal.returns-clause-only
returns-clause-only c = λ v said. found_or_memory (serve_of (map string_bytes c.args.words.now)) c.find_serve.result v c.find_serve.ensures (serve_said c.args.words.now v said)
