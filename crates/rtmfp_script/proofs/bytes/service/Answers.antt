use Rattle.std.proofs.Common.{sym}
use Rattle.rtmfp_script.proofs.Services.{long_service}
use Rattle.rtmfp_script.proofs.bytes.service.Goals as goal

pub returns-then-word : goal.returns-then-word
returns-then-word c = sym (long_service c.args.word.now c.if-word.true)
