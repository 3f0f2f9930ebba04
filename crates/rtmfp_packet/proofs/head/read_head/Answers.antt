use Rattle.std.proofs.Common.{sym, ◌∙◌}
use Rattle.rtmfp_packet.proofs.Heads.{head_spelled}
use Rattle.rtmfp_packet.proofs.head.read_head.Goals as goal

pub returns : goal.returns
returns c =
    let stamp = c.in_ok-stamp.ensures.ok in
    let echo = c.in_ok-echo.ensures.ok in
    head_spelled c.args.flags _ c.args.bytes.now c.in_ok-stamp.bytes.now c.in_ok-echo.bytes.now
    (record {
      byte = c.ranges.flags.fits;
      critical = sym c.is_flagged-3.ensures;
      reverse = sym c.is_flagged-4.ensures;
      stamp = sym c.is_flagged.ensures ∙ stamp.0;
      echo = sym c.is_flagged-2.ensures ∙ echo.0;
      mode = c.in_ok-mode.ensures.ok;
    })
    stamp.1 echo.1 stamp.2 echo.2
