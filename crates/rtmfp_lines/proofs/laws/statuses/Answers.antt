use Rattle.std.proofs.Common.{refl}
use Rattle.rtmfp_lines.specs.Status.{ended, numbered}
use Rattle.rtmfp_lines.proofs.laws.statuses.Goals as goal

pub returns : goal.returns
unfolding numbered ended
returns c = record {
  done = (refl, refl);
  memory = (refl, refl);
  bad_words = (refl, refl);
  bad_script = λ n. (refl, refl);
  forged = λ n. (refl, refl);
  link_fault = (refl, refl);
  sink_fault = (refl, refl);
  source_fault = (refl, refl);
  entropy_fault = (refl, refl);
  spawn_fault = (refl, refl);
  script_long = (refl, refl);
  child_failed = λ n. (refl, refl);
  below_zero = λ n. (refl, refl);
  not_agreed = λ n. (refl, refl);
}
