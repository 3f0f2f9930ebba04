-- The names of chunks.
use Rattle.std.specs.Prelude.{ℕ, ◌==◌, List, [], codes, if◌then◌else◌}

-- the name of a chunk type; no text where no chunk has it
unfoldable pub kind_text : ℕ → List ℕ
kind_text kind =
    if kind == 0x30 then codes "ihello"
    else if kind == 0x0f then codes "fihello"
    else if kind == 0x70 then codes "rhello"
    else if kind == 0x71 then codes "redirect"
    else if kind == 0x79 then codes "cookiechange"
    else if kind == 0x38 then codes "iikeying"
    else if kind == 0x78 then codes "rikeying"
    else if kind == 0x01 then codes "ping"
    else if kind == 0x41 then codes "pingreply"
    else if kind == 0x0c then codes "close"
    else if kind == 0x4c then codes "closeack"
    else if kind == 0x7f then codes "fragment"
    else if kind == 0x10 then codes "data"
    else if kind == 0x11 then codes "next"
    else if kind == 0x18 then codes "probe"
    else if kind == 0x50 then codes "ackbits"
    else if kind == 0x51 then codes "ackranges"
    else if kind == 0x5e then codes "exception"
    else []
